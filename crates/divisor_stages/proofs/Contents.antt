-- The content c of B is taken out of it and of the modulus: B over c, A modulo n / c, and then a leading unit for B. Each rule takes the
-- facts as the code has them.
--
--   nothing_taken, taken                    the content 1, and another
--   none_reduced                            the content n
--   content_positive, content_some          c and n / c are above 0
--   content_splitter                        a coefficient splits n / c
--   over_one                                the modulus over the content 1
--   take_asked, lead_asked                  what is asked of the words before and after
--   primitive_reduced, content_cleared      what is left has a coefficient that is no nilpotent; D, with a leading unit for it
--   contents                                the rules
use mathlib.Core.Path.{◌≡◌, refl, sym, ap, subst, ◌∙◌}
use mathlib.Core.List.{List}
use mathlib.Core.Logic.{⊎_elim}
use Prim.Native.Nat.{ℕ, zero, suc, ◌+◌, ◌*◌, ◌/◌, ◌%◌, ◌≤◌, ◌<◌, ◌∣◌}
use native.Mathlib.Omega.{arith}
use native.Mathlib.Nat.{mod-lt, mod-mod, mod-eq_of_lt, div-one, mul-zero, mul-one, one-mul, mul-le-mul_left, mul-div_cancel'}
use native.Mathlib.Nat.{pos_of_dvd_of_pos, dvd_trans, dvd-mul_left, mul-dvd-mul_left, le_of_dvd, mod-eq-zero_of_dvd, dvd-zero}
use lib.ListN.{length, get_or}
use Rattle.definitions.specs.Residues.{IsUnit}
use Rattle.definitions.specs.Polynomials.{coef}
use Rattle.definitions.specs.Resultants.{Reduced}
use Rattle.law_numbers.specs.Nilpotents.{nilpotent_radical}
use Rattle.law_numbers.specs.Primes.{prime_of}
use Rattle.law_polynomials.specs.ReducedLaws.{reduced_flip}
use Rattle.windows.specs.Window.{piece, Below, Moved, quotient_by, reduced_by, Content}
use Rattle.windows.proofs.Leaf.{lt_or_le, piece_at, piece_over, piece_same, piece_length, apart_at}
use Rattle.windows.proofs.Lift.{moved_around}
use Rattle.window_factor.specs.Factors.{SplitOf, AllNilpotents}
use Rattle.law_multipliers.specs.Reductions.{UnitLead, reduced_same, reduced_lead}
use Rattle.law_multipliers.proofs.ZeroSecond.{reduced_none}
use Rattle.reduced_units.specs.States.{Splitter}
use Rattle.reduced_units.proofs.Regions.{apart_swap}
pub use Rattle.reduced_clearing.proofs.UnitSteps.{split_splitter}
use Rattle.divisor_stages.specs.LeadingUnits.{LeadAsked, Leading}
use Rattle.divisor_stages.specs.DivisorStages.{TakeAsked, ContentTaken, ContentAsked, Cleared}
use Rattle.divisor_stages.proofs.Factors.{part_of, part_is}

-- two coprime divisors of a divisor of n
pub splitter_dvd : (n m p q : ℕ) → m ∣ n → Splitter m p q → Splitter n p q
splitter_dvd n m p q d x = record {
  divides₁ = dvd_trans p x.divides₁ d;
  divides₂ = dvd_trans q x.divides₂ d;
  above₁ = x.above₁;
  above₂ = x.above₂;
  coprime = x.coprime;
}

-- the content 1, and another
pub over_one : {n c : ℕ} → c ≡ 1 → n ≡ n / c
over_one {n} e = sym (ap (λ (x : ℕ). n / x) e ∙ div-one n)

module _ {v c a d b : ℕ} {w : List ℕ} (ta : TakeAsked v c a d b w) where
  pub nothing_taken : c ≡ 1 → ContentTaken v c a d b w w
  nothing_taken e = record {
    same = refl;
    first = λ k h. sym (mod-eq_of_lt (subst (λ (x : ℕ). get_or w (a + k) 0 < x) (ap (λ (x : ℕ). x * v) e ∙ one-mul v) (ta.below.at k h)));
    second = λ k h. sym (ap (λ (x : ℕ). get_or w (b + k) 0 / x) e ∙ div-one (get_or w (b + k) 0));
  }

  pub taken : {w₁ w₂ : List ℕ} → Moved (quotient_by c) b b d w w₁ → Moved (reduced_by v) a a (d + 1) w₁ w₂ → ContentTaken v c a d b w w₂
  taken dv rd = record {
    same = rd.same ∙ dv.same;
    first = λ k h. rd.mid k h ∙ ap (λ (x : ℕ). x % v) (apart_at ta.apart (moved_around dv) k h);
    second = λ k h. apart_at (apart_swap ta.apart) (moved_around rd) k h ∙ dv.mid k h;
  }

module _ {n a d b s : ℕ} {w : List ℕ} (st : ContentAsked n a d b s w) where
  two : 2 ≤ n
  two = st.two

  long : s + 3 * d ≤ length w
  long = st.fits

  -- A has a leading unit
  unit_lead : UnitLead n d (piece w a (d + 1))
  unit_lead = record {
    unit = subst (IsUnit n) (sym (piece_at w a (d + 1) d (omega arith))) st.lead;
    above = λ k h. piece_over w a (d + 1) k (omega arith);
  }

  -- every coefficient, where the words do
  all_coefficients : (x : ℕ) → ((k : ℕ) → k < length (piece w b d) → x ∣ coef (piece w b d) k) → (k : ℕ) → x ∣ coef (piece w b d) k
  all_coefficients x h k = ⊎_elim
      (λ l. h k (omega (arith, piece_length w b d (omega (arith, long, st.second)))))
      (λ l. subst (λ (y : ℕ). x ∣ y) (sym (piece_over w b d k l)) (dvd-zero x))
      (lt_or_le k d)

  module _ {c : ℕ} (lent : Content n (part_of b d w) c) where
    ct : Content n (piece w b d) c
    ct = subst (λ (f : List ℕ). Content n f c) (part_is b d w) lent

    -- B is 0 modulo n
    pub none_reduced : c ≡ n → Reduced n (piece w a (d + 1)) (piece w b d) n
    none_reduced e = reduced_none n d (omega (arith, two)) st.one (piece w a (d + 1)) (piece w b d) unit_lead
        (λ k. mod-eq-zero_of_dvd n (all_coefficients n (subst (Content n (piece w b d)) e ct).divides k))

    pub content_positive : 0 < c
    content_positive = pos_of_dvd_of_pos ct.divides_n (omega (arith, two))

    content_whole : n ≡ c * (n / c)
    content_whole = sym (mul-div_cancel' c ct.divides_n)

    content_dvd : n / c ∣ n
    content_dvd = subst (λ (x : ℕ). n / c ∣ x) (sym content_whole) (dvd-mul_left (n / c) c)

    content_above : (c ≡ n → ⊥) → 2 ≤ n / c
    content_above ne = go (n / c) content_whole
      where
        go : (r : ℕ) → n ≡ c * r → 2 ≤ r
        go zero e = absurd (omega (arith, two, mul-zero c))
        go (suc zero) e = absurd (ne (sym (e ∙ mul-one c)))
        go (suc (suc r)) e = omega arith

    pub content_some : (c ≡ n → ⊥) → 1 ≤ n / c
    content_some ne = omega (arith, content_above ne)

    -- a coefficient splits n', which is n / c
    pub content_splitter : (n' p q : ℕ) → n' ≡ n / c → SplitOf n' p q → Splitter n p q
    content_splitter n' p q is x = split_splitter n (n / c) p q content_dvd (rw is at x)

    pub take_asked : {v : ℕ} → (c ≡ n → ⊥) → v ≡ n / c → TakeAsked v c a d b w
    take_asked ne is = rw is (record {
      positive = content_positive;
      quotient = omega (arith, content_above ne);
      first = omega (arith, long, st.first);
      second = omega (arith, long, st.second);
      below = subst (λ (x : ℕ). Below x a (d + 1) w) content_whole st.below_first;
      apart = st.apart;
    })

    module _ {v : ℕ} {w₂ : List ℕ} (ne : c ≡ n → ⊥) (tk : ContentTaken v c a d b w w₂) (is : v ≡ n / c) where
      whole : n ≡ c * v
      whole = content_whole ∙ ap (λ (x : ℕ). c * x) (sym is)

      above : 2 ≤ v
      above = omega (arith, content_above ne, is)

      content_length : length w₂ ≡ length w
      content_length = tk.same

      -- word k of A and of B
      word_a : (k : ℕ) → k < d + 1 → get_or w₂ (a + k) 0 ≡ get_or w (a + k) 0 % v
      word_a = tk.first

      word_b : (k : ℕ) → k < d → get_or w₂ (b + k) 0 ≡ get_or w (b + k) 0 / c
      word_b = tk.second

      -- B is c times what it is now
      times_c : (k : ℕ) → coef (piece w b d) k ≡ c * coef (piece w₂ b d) k
      times_c k = ⊎_elim
          (λ h. piece_at w b d k h ∙ sym (ap (λ (x : ℕ). c * x) (piece_at w₂ b d k h ∙ word_b k h) ∙ mul-div_cancel' c (divides k h)))
          (λ h. piece_over w b d k h ∙ sym (ap (λ (x : ℕ). c * x) (piece_over w₂ b d k h) ∙ mul-zero c))
          (lt_or_le k d)
        where
          divides : (k : ℕ) → k < d → c ∣ get_or w (b + k) 0
          divides k h = subst (λ (x : ℕ). c ∣ x) (piece_at w b d k h) (all_coefficients c ct.divides k)

      -- and A is what it was, modulo v
      same_a : (k : ℕ) → coef (piece w a (d + 1)) k % v ≡ coef (piece w₂ a (d + 1)) k % v
      same_a k = ⊎_elim
          (λ h. ap (λ (x : ℕ). x % v) (piece_at w a (d + 1) k h)
          ∙ sym (ap (λ (x : ℕ). x % v) (piece_at w₂ a (d + 1) k h ∙ word_a k h) ∙ mod-mod _ v))
          (λ h. ap (λ (x : ℕ). x % v) (piece_over w a (d + 1) k h ∙ sym (piece_over w₂ a (d + 1) k h)))
          (lt_or_le k (d + 1))

      smaller : (k : ℕ) → k < d → get_or w₂ (b + k) 0 < v
      smaller k h = less c (get_or w₂ (b + k) 0) v content_positive
          (subst (λ (x : ℕ). x < c * v) (sym (piece_at w b d k h) ∙ times_c k ∙ ap (λ (x : ℕ). c * x) (piece_at w₂ b d k h))
          (subst (λ (x : ℕ). get_or w (b + k) 0 < x) whole (st.below_second.at k h)))
        where
          less : (c x y : ℕ) → 0 < c → c * x < c * y → x < y
          less c x y p q = ⊎_elim (λ h. h) (λ h. absurd (omega (arith, mul-le-mul_left c h))) (lt_or_le x y)

      pub lead_asked : LeadAsked v b d s w₂
      lead_asked = record {
        two = above;
        within = st.second;
        fits = omega (arith, long, content_length);
        below = record { at = smaller };
      }

      -- nothing is left in common
      content_primitive : AllNilpotents v (piece w₂ b d) → ⊥
      content_primitive nil =
          let p = prime_of v (omega (arith, above)) in
          let d : c * p.p ∣ c =
          ct.greatest (c * p.p) (subst (λ (x : ℕ). c * p.p ∣ x) (sym whole) (mul-dvd-mul_left p.p c p.divides))
          (λ k h. subst (λ (x : ℕ). c * p.p ∣ x) (sym (times_c k))
          (mul-dvd-mul_left p.p c ((nilpotent_radical (nil.at k)).at p.p p.prime p.divides))) in
          big c p.p content_positive p.prime.above (le_of_dvd content_positive d)
        where
          big : (c p : ℕ) → 0 < c → 1 < p → c * p ≤ c → ⊥
          big c p h q l = let z : c * 2 ≤ c * p = mul-le-mul_left c q in omega arith

      pub primitive_reduced : {D : ℕ} → AllNilpotents v (piece w₂ b d) → Reduced n (piece w a (d + 1)) (piece w b d) D
      primitive_reduced nil = absurd (content_primitive nil)

      module _ {k i : ℕ} {w₃ : List ℕ} (ld : Leading v b d k i s w₂ w₃) where
        kept_a : (j : ℕ) → j < d + 1 → get_or w₃ (a + j) 0 ≡ get_or w₂ (a + j) 0
        kept_a j h = ld.beyond.at (a + j) (omega (arith, st.first)) (λ x p e. st.apart.ok j x h p e)

        same_piece : piece w₃ a (d + 1) ≡ piece w₂ a (d + 1)
        same_piece = piece_same w₂ w₃ a (d + 1) (omega (arith, long, content_length, st.first)) ld.beyond.same kept_a

        pub content_cleared : Cleared n a d b c v k i s w w₃
        content_cleared = record {
          positive = content_positive;
          whole = whole;
          shorter = ld.shorter;
          asked = record {
            two = above;
            near = omega (arith, ld.shorter);
            first = st.first;
            second = omega (arith, ld.shorter, st.second);
            fits = omega (arith, ld.shorter, long, content_length, ld.beyond.same);
            below_first = record {
              at = λ j h. subst (λ (x : ℕ). x < v) (sym (kept_a j h ∙ word_a j h)) (mod-lt _ (omega (arith, above)));
            };
            below_second = ld.below;
            apart = record { ok = λ x y p q e. st.apart.ok x y p (omega (arith, ld.shorter)) e };
            inverse = ld.inverse;
          };
          constants = λ D x.
              let positive : 1 ≤ v = omega (arith, above) in
              let A = piece w₂ a (d + 1) in
              let y = reduced_flip v positive (piece w₂ b d) A D
              (ld.constants A D (reduced_flip v positive A (piece w₃ b (k + 1)) D
              (subst (λ (f : List ℕ). Reduced v f (piece w₃ b (k + 1)) D) same_piece x))) in
              subst (λ (z : ℕ). Reduced z (piece w a (d + 1)) (piece w b d) (c * D)) (sym whole)
              (reduced_lead c v d content_positive positive st.one (piece w a (d + 1))
              (subst (λ (z : ℕ). UnitLead z d (piece w a (d + 1))) whole unit_lead)
              (piece w b d) (piece w₂ b d) D (record { at = λ j. ap (λ (z : ℕ). z % (c * v)) (times_c j) })
              (reduced_same v positive (piece w a (d + 1)) A (piece w₂ b d) D same_a y));
        }

pub ruleset contents = (
  over_one,
  nothing_taken,
  taken,
  none_reduced,
  content_positive,
  content_some,
  content_splitter,
  take_asked,
  lead_asked,
  primitive_reduced,
)
