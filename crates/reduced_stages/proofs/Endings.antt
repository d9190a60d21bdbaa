-- What a content stage asks and answers, from what the calls in it promise, for words of any width.
--
--   scale-…, unit_solved, unit_kept    B is a constant unit
--   leading_asked, counted         the leading word of B is a unit: what the division stage asks, and its answer
--   cleared_falls, cleared_asked, product_most, cleared_splitter, cleared_solved     B is cleared of its content and its unit factor
--   over-…                         the same where a modulus has a record of its own
--   overs, scales, endings         the rules
use mathlib.Core.Path.{◌≡◌, sym, ap, subst, ◌∙◌}
use mathlib.Core.List.{List}
use mathlib.Core.Logic.{⊎_elim}
use Prim.Native.Nat.{ℕ, zero, suc, ◌+◌, ◌-◌, ◌*◌, ◌/◌, ◌%◌, ◌≤◌, ◌<◌, ◌∣◌}
use native.Mathlib.Omega.{arith}
use native.Mathlib.Nat.{mod-lt, mod-mod, mul-zero, mul_assoc, mul-pos, mul-one, one-mul, mul-le-mul_left, dvd_trans, dvd-mul_left}
use lib.ListN.{length, get_or}
use Rattle.std.specs.Prelude.{Result}
use Rattle.definitions.specs.Polynomials.{coef, constant}
use Rattle.law_numbers.specs.Divisors.{GcdCofactor}
use Rattle.windows.specs.Window.{piece, Moved, mulBy, Clear, Kept}
use Rattle.windows.proofs.Leaf.{lt_or_le, piece_at, piece_over}
use Rattle.windows.proofs.Lift.{moved_around}
use Rattle.law_multipliers.specs.Multipliers.{HasMultiplier, Completes, multiplier_unity}
use Rattle.law_multipliers.specs.Reductions.{reduced_unit_constant}
use Rattle.reduced_units.specs.States.{Stage, StageAt, Solved, Splitter, UnitCleared}
use Rattle.reduced_units.specs.declared.Places.{Places}
use Rattle.reduced_units.proofs.Regions.{kept_around, kept_piece, kept_trans}
use Rattle.residue.specs.declared.Split.{Split}
use Rattle.reduced_stages.specs.StageAnswers.{DivisionAsked, StageAnswer}

leading_inverse : {ν x g s : ℕ} → GcdCofactor ν x g s → g ≡ 1 → (s * x) % ν ≡ 1 % ν
leading_inverse {ν} c e = c.bezout ∙ ap (λ (y : ℕ). y % ν) e

-- what the multiplier over a word asks
module _ {n ν t pa a pb al be l : ℕ} {w : List ℕ} (st : Stage n ν t pa a pb a al be l w) where
  pub scale_source : be + t ≤ length w
  scale_source = omega (arith, st.room, st.places.be_high)

  pub scale_target : t + 1 + t ≤ length w
  scale_target = omega (arith, st.room)

  pub scale_clear : Clear be (t + 1) t
  scale_clear = record { ok = λ i j p q e. omega (arith, st.places.be_low) }

-- B of one word, a unit: D is 1, and the multiplier of B over that word is left
pub unit_kept : {op : ℕ → ℕ → ℕ} {src dst len : ℕ} {w w' : List ℕ} → Moved op src dst len w w' → Kept dst w w'
unit_kept mv = kept_around (omega arith) (moved_around mv)

module _ {n ν t pa a pb al be l g i : ℕ} {w w' : List ℕ} (st : Stage n ν t pa a pb a al be l w)
    (cf : GcdCofactor ν (get_or w (pb + (a - 1)) 0) g i) (is_one : g ≡ 1) (one : a ≡ 1) (mv : Moved (mulBy n i) be (t + 1) t w w') where
  word : (k : ℕ) → (i * coef (piece w pb a) k) % ν ≡ constant 1 k % ν
  word zero =
      ap (λ (x : ℕ). (i * x) % ν) (piece_at w pb a 0 (omega arith) ∙ ap (λ (x : ℕ). get_or w (pb + x) 0) (let z : 0 ≡ a - 1 = omega arith in
      z))
      ∙ leading_inverse cf is_one
  word (suc k) = ap (λ (x : ℕ). (i * x) % ν) (piece_over w pb a (suc k) (omega arith)) ∙ ap (λ (x : ℕ). x % ν) (mul-zero i)

  found : (k : ℕ) → coef (piece w' (t + 1) t) k % n ≡ (i * coef (piece w be (2 * (t + 1))) k) % n
  found k =
      ⊎_elim
      (λ h. ap (λ (x : ℕ). x % n) (piece_at w' (t + 1) t k h ∙ mv.mid k h) ∙ mod-mod _ n ∙ ap (λ (x : ℕ). (i * x) % n)
      (sym (piece_at w be (2 * (t + 1)) k (omega arith))))
      (λ h. ap (λ (x : ℕ). x % n) (piece_over w' (t + 1) t k h) ∙ sym (ap (λ (x : ℕ). (i * x) % n) (nought k h) ∙ ap (λ (x : ℕ). x % n)
      (mul-zero i)))
      (lt_or_le k t)
    where
      nought : (k : ℕ) → t ≤ k → coef (piece w be (2 * (t + 1))) k ≡ 0
      nought k h = ⊎_elim (λ b. piece_at w be (2 * (t + 1)) k b ∙ st.beta.zero k (omega (arith, st.most)) b) (λ b. piece_over w be
          (2 * (t + 1)) k b) (lt_or_le k (2 * (t + 1)))

  pub unit_solved : Solved n ν t pa a pb a al be 1 w w'
  unit_solved = record {
    reduced = reduced_unit_constant ν i (omega (arith, st.above)) (piece w pa (a + 1)) (piece w pb a) (λ k h. piece_over w pb a k
        (omega arith)) (word 0);
    below = record { at = λ k h. subst (λ (x : ℕ). x < n) (sym (mv.mid k h)) (mod-lt _ st.positive) };
    completes = λ g m p e x y.
        subst (Completes n (piece w 0 (t + 1)) g (piece w' (t + 1) t)) (sym (mul-one m))
        (multiplier_unity n m ν i p (omega (arith, st.above)) e (piece w 0 (t + 1)) g (piece w be (2 * (t + 1))) (piece w' (t + 1) t)
        (piece w pb a) found word y);
  }

-- the leading word of B is a unit: B is counted by its degree for the division stage, and by its words here
pub leading_asked : {n ν a b g i l : ℕ} (p : Places) {w : List ℕ} → StageAt n ν p a a l w
    → GcdCofactor ν (get_or w (p.pb + (a - 1)) 0) g i → g ≡ 1 → (a ≡ 1 → ⊥) → b ≡ a - 1 → DivisionAsked n ν p a b i l w
leading_asked {n} {ν} {a} {b} {g} {i} {l} p {w} st cf is_one more is_b = record {
  stage = subst (λ (x : ℕ). StageAt n ν p a x l w) (let z : a ≡ b + 1 = omega (arith, st.degree) in z) st;
  degree = omega (arith, st.degree);
  shorter = omega (arith, st.degree);
  inverse = subst (λ (x : ℕ). (i * get_or w (p.pb + x) 0) % ν ≡ 1 % ν) (sym is_b) (leading_inverse cf is_one);
}

pub counted : (n ν a l : ℕ) (p : Places) (w w' : List ℕ) (r : Result ℕ (Split ℕ)) → StageAt n ν p a a l w → StageAnswer n ν p a (a - 1 + 1) w w' r
    → StageAnswer n ν p a a w w' r
counted n ν a l p w w' r st x = subst (λ (y : ℕ). StageAnswer n ν p a y w w' r) (let z : a - 1 + 1 ≡ a = omega (arith, st.degree) in z) x

-- a modulus ν with a record of its own
module _ (n ν ν' a b i l : ℕ) (p : Places) (w : List ℕ) where
  pub over_asked : DivisionAsked n ν p a b i l w → ν' ≡ ν → DivisionAsked n ν' p a b i l w
  over_asked x e = rw e x

  pub over_answer : (w' : List ℕ) (c : ℕ) (r : Result ℕ (Split ℕ)) → StageAnswer n ν' p a c w w' r → ν' ≡ ν → StageAnswer n ν p a c w w' r
  over_answer w' c r x e = subst (λ (y : ℕ). StageAnswer n y p a c w w' r) e x

pub over_positive : {n ν a b i l : ℕ} {p : Places} {w : List ℕ} → DivisionAsked n ν p a b i l w → 1 ≤ ν
over_positive x = omega (arith, x.stage.above)

pub over_falls : (b ν ν' m : ℕ) → ν' ≡ ν → 4 * (b + ν) + 3 ≡ m → 4 * (b + ν') + 2 < m
over_falls b ν ν' m e h = rw e (omega arith)

-- after the clearing
module _ {n ν t pa a pb al be c s l : ℕ} {w w₁ : List ℕ} (cl : UnitCleared n ν t pa a pb al be c s l w w₁) where
  whole : c * (ν / c) ≡ ν
  whole = sym cl.change.whole

  pub cleared_falls : {m : ℕ} → 4 * (a + ν) ≡ m → 4 * (s + ν / c) + 3 < m
  cleared_falls e = omega (arith, more c (ν / c) cl.positive, whole, cl.shorter)
    where
      more : (c x : ℕ) → 1 ≤ c → x ≤ c * x
      more c x h = omega (arith, mul-le-mul_left x h)

  pub cleared_splitter : {f g : ℕ} → Splitter (ν / c) f g → Splitter ν f g
  cleared_splitter {f} {g} x = record {
    divides₁ = dvd_trans f x.divides₁ less;
    divides₂ = dvd_trans g x.divides₂ less;
    above₁ = x.above₁;
    above₂ = x.above₂;
    coprime = x.coprime;
  }
    where
      less : ν / c ∣ ν
      less = subst (λ (x : ℕ). ν / c ∣ x) whole (dvd-mul_left (ν / c) c)

  module _ {D : ℕ} {w' : List ℕ} (sv : Solved n (ν / c) t pa a pb (s + 1) al be D w₁ w') where
    pub product_most : c * D ≤ ν
    product_most = subst (λ (x : ℕ). c * D ≤ x) whole (mul-le-mul_left c sv.reduced.most)

    pub cleared_solved : {k : ℕ} → Stage n ν t pa a pb a al be k w → Kept (t + 1) w w₁ → Solved n ν t pa a pb a al be (c * D) w w'
    cleared_solved st kept = record {
      reduced = cl.change.reduced D sv.reduced;
      below = sv.below;
      completes = λ g m p e x y.
          subst (Completes n (piece w 0 (t + 1)) g (piece w' (t + 1) t)) (mul_assoc m c D)
          (subst (λ (h : List ℕ). Completes n h g (piece w' (t + 1) t) (m * c * D)) same_h
          (sv.completes g (m * c) (mul-pos p cl.positive) (e ∙ ap (λ (z : ℕ). m * z) (sym whole) ∙ sym (mul_assoc m c (ν / c)))
          (subst (λ (h : List ℕ). HasMultiplier n (m * c) h g (piece w₁ al (2 * (t + 1))) (piece w₁ pa (a + 1))) (sym same_h)
          (cl.change.first g m p e x))
          (subst (λ (h : List ℕ). HasMultiplier n (m * c) h g (piece w₁ be (2 * (t + 1))) (piece w₁ pb (s + 1))) (sym same_h)
          (cl.change.second g m p e y))));
    }
      where
        same_h : piece w₁ 0 (t + 1) ≡ piece w 0 (t + 1)
        same_h = kept_piece kept (omega (arith, st.room))

pub cleared_asked : {n ν a c s l : ℕ} (p : Places) {w w₁ : List ℕ} → UnitCleared n ν p.t p.pa a p.pb p.al p.be c s l w w₁
    → DivisionAsked n (ν / c) p a s 1 l w₁
cleared_asked {n} {ν} {a} {c} {s} {l} p {w} {w₁} cl = record {
  stage = cl.stage;
  degree = cl.degree;
  shorter = cl.shorter;
  inverse = ap (λ (y : ℕ). y % (ν / c)) (one-mul (get_or w₁ (p.pb + s) 0) ∙ cl.monic);
}

pub ruleset overs = (tt, over_asked, over_answer, over_positive, over_falls)

pub ruleset scales = (tt, scale_source, scale_target, scale_clear)

pub ruleset endings = (unit_solved, unit_kept, leading_asked, counted, kept_trans)
