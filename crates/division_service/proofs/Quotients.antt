-- Quotient and remainder by words, for words of any width.
--
--   Quotienting                     what a round of `quotient_words` keeps, with its start, round and end
--   remainders, remainder_next      the words of the remainder, and a round of `remainder_words`
--   asked_by, divided               what the stages are asked by the record; both together are the division
--   quotients, divides              the rules
use mathlib.Core.Path.{◌≡◌, refl, sym, ap, ap₂, subst, ◌∙◌}
use mathlib.Core.List.{List}
use mathlib.Core.Logic.{⊎_elim}
use Prim.Native.Nat.{ℕ, zero, suc, ◌+◌, ◌-◌, ◌*◌, ◌%◌, ◌≤◌, ◌<◌}
use native.Mathlib.Nat.{mod-lt, add-zero, add_comm, mul-one, eq-or-lt_of_le, zero-mul}
use native.Mathlib.Omega.{arith}
use borrow.Author.Rules.{rules}
use lib.ListN.{length, get_or, take, drop, set, replicate, length-set, length-drop, length-replicate, get_or-eq_default}
use lib.Seq.{get_or-set_same, get_or-set_other, get_or-drop, take_all}
use Rattle.law_numbers.specs.Congruence.{Cong, c_refl, c_sym, c_trans, c_eq, c_add, c_mul, c_mod, c_sub, ring}
use Rattle.definitions.specs.Polynomials.{coef, deg, convolve, tabulate, quotient_length, Division}
use Rattle.law_polynomials.specs.Words.{total_cong, coef_out, coef_tabulate, length_tabulate}
use Rattle.law_polynomials.specs.ReachedSteps.{coef_beyond}
use Rattle.convolution.specs.Sums.{total_none, convolve_shift, convolve_first, zeros_at}
use Rattle.windows.proofs.Leaf.{lt_or_le}
use Rattle.reduction.proofs.Reciprocals.{modulo, within}
use Rattle.law_polynomial_tests.specs.Buffers.{deg_is, Filled, filled_none, filled_step, filled_end}
use Rattle.division_service.specs.DivisionStages.{QuotientAsked, QuotientWords, difference}

-- the words from s on are made; those below are 0
pub record Quotienting (n s : ℕ) (f g q₀ q : List ℕ) : Type 0 where
  pub most : s ≤ length q₀
  pub reach : s ≤ length f - (length g - 1)
  pub same : length q ≡ length q₀
  pub low : (j : ℕ) → j < s → coef q j ≡ 0
  pub below : (j : ℕ) → coef q j < n
  pub high : (j : ℕ) → length f ≤ deg g + j → coef q j ≡ 0
  pub at : (j : ℕ) → s ≤ j → Cong n (convolve (coef (drop j q)) (coef g) (deg g)) (coef f (deg g + j))

-- the loop begins within the quotient
starts_within : (f g : List ℕ) (l s : ℕ) → 1 ≤ length f → l ≡ quotient_length (deg f) (deg g) → s ≡ length f - (length g - 1) → s ≤ l
starts_within f g l s one el es =
    let e : l ≡ suc (length f - 1 - (length g - 1)) = el ∙ ap₂ (λ (x y : ℕ). suc (x - y)) (deg_is f) (deg_is g) in
    omega arith

pub quotienting_start : {n i s : ℕ} {f g p q : List ℕ} → QuotientAsked n i f g p → q ≡ replicate (length p) 0
    → s ≡ length f - (length g - 1) → Quotienting n s f g q q
quotienting_start {n} {i} {s} {f} {g} {p} {q} a e es =
    let z : (k : ℕ) → coef q k ≡ 0 = λ k. ap (λ (w : List ℕ). coef w k) e ∙ zeros_at (length p) k in
    record {
      most = starts_within f g (length q) s a.some_f (ap length e ∙ length-replicate (length p) 0 ∙ a.length_q) es;
      reach = omega arith;
      same = refl;
      low = λ j l. z j;
      below = λ j. subst (λ (x : ℕ). x < n) (sym (z j)) a.modulus;
      high = λ j l. z j;
      at = λ j l. c_eq
          (total_none (suc (deg g)) _ (λ i b. ap (λ (x : ℕ). x * coef g (deg g - i)) (get_or-drop j q i 0 ∙ z (j + i))
          ∙ zero-mul (coef g (deg g - i)))
          ∙ sym (coef_beyond f (deg g + j) (omega (arith, deg_is g))));
    }

-- the slice that is read is all that stands from s on
read_is : (q : List ℕ) (s m k : ℕ) → m ≡ length q → k ≡ m - s → take k (drop s q) ≡ drop s q
read_is q s m k em ek = take_all k (drop s q) (omega (arith, length-drop s q))

module _ (n i s x v : ℕ) (f g q₀ q : List ℕ) (pos : 0 < n) (inside : s < length q₀) (reach : deg g + s < length f)
    (unit : (i * coef g (deg g)) % n ≡ 1 % n)
    (qs : Quotienting n (s + 1) f g q₀ q) (ex : x ≡ convolve (coef (drop s q)) (coef g) (deg g) % n)
    (ev : v ≡ (i * ((coef f (deg g + s) + (n - x)) % n)) % n) where
  q' : List ℕ
  q' = set q s v

  -- the word that is made, and the others
  first : coef (drop s q') 0 ≡ v
  unfolding q'
  first = get_or-drop s q' 0 0 ∙ ap (λ (k : ℕ). get_or q' k 0) (add-zero s) ∙ get_or-set_same q s v 0 (omega (arith, qs.same))

  rest : (k : ℕ) → coef (drop s q') (suc k) ≡ coef (drop s q) (suc k)
  unfolding q'
  rest k = get_or-drop s q' (suc k) 0 ∙ get_or-set_other q s (s + suc k) v 0 (omega arith) ∙ sym (get_or-drop s q (suc k) 0)

  none : coef (drop s q) 0 ≡ 0
  none = get_or-drop s q 0 0 ∙ ap (λ (k : ℕ). get_or q k 0) (add-zero s) ∙ qs.low s (omega arith)

  made : Cong n (convolve (coef (drop s q')) (coef g) (deg g)) (coef f (deg g + s))
  made =
      let X : ℕ = convolve (coef (drop s q)) (coef g) (deg g) in
      let a : ℕ = coef f (deg g + s) in
      let y : ℕ = (a + (n - X % n)) % n in
      let top : ℕ = coef g (deg g) in
      let w : v ≡ (i * y) % n = ev ∙ ap (λ (z : ℕ). (i * ((a + (n - z)) % n)) % n) ex in
      c_trans (c_eq (convolve_first (coef (drop s q')) (coef (drop s q)) (coef g) (deg g) none rest
      ∙ ap (λ (z : ℕ). z * top + X) (first ∙ w)))
      (c_trans (c_add (c_trans (c_mul (c_mod (i * y)) (c_refl {a = top}))
      (c_trans (c_eq {b = y * (i * top)} (simp ring)) (c_trans (c_mul (c_refl {a = y}) (record { same = unit })) (c_eq (mul-one y)))))
      (c_refl {a = X}))
      (c_sub X pos))

  kept : (j : ℕ) → s < j → convolve (coef (drop j q')) (coef g) (deg g) ≡ convolve (coef (drop j q)) (coef g) (deg g)
  unfolding q'
  kept j l = total_cong (suc (deg g)) _ _ (λ k b. ap (λ (z : ℕ). z * coef g (deg g - k))
      (get_or-drop j q' k 0 ∙ get_or-set_other q s (j + k) v 0 (omega arith) ∙ sym (get_or-drop j q k 0)))

  quotienting_step : Quotienting n s f g q₀ (set q s v)
  unfolding q'
  quotienting_step = record {
    most = omega arith;
    reach = omega (arith, qs.reach);
    same = length-set q s v ∙ qs.same;
    low = λ j l. get_or-set_other q s j v 0 (omega arith) ∙ qs.low j (omega arith);
    below = λ j. ⊎_elim
        (λ l. subst (λ (z : ℕ). z < n) (sym (get_or-set_other q s j v 0 (omega arith))) (qs.below j))
        (λ l. ⊎_elim
        (λ e. subst (λ (z : ℕ). z < n) (sym (ap (λ (k : ℕ). get_or q' k 0) (sym e) ∙ get_or-set_same q s v 0 (omega (arith, qs.same)) ∙ ev))
        (mod-lt _ pos))
        (λ b. subst (λ (z : ℕ). z < n) (sym (get_or-set_other q s j v 0 (omega arith))) (qs.below j))
        (eq-or-lt_of_le l))
        (lt_or_le j s);
    high = λ j l. get_or-set_other q s j v 0 (omega arith) ∙ qs.high j l;
    at = λ j l. ⊎_elim
        (λ e. subst (λ (k : ℕ). Cong n (convolve (coef (drop k q')) (coef g) (deg g)) (coef f (deg g + k))) e made)
        (λ b. c_trans (c_eq (kept j b)) (qs.at j (omega arith)))
        (eq-or-lt_of_le l);
  }

-- i (a - x), by one sum of two products
pub quotient_word_is : (n i a z r : ℕ) → r ≡ (0 + i * a + z * i) % n → r ≡ (i * ((a + z) % n)) % n
quotient_word_is n i a z r e = e ∙ (c_trans (c_eq (sums i a z)) (c_mul (c_refl {a = i}) (c_sym (c_mod (a + z))))).same
  where
    sums : (i a z : ℕ) → 0 + i * a + z * i ≡ i * (a + z)
    sums i a z = omega arith

-- the round, as the code has it: a is the modulus found with its reciprocal
pub quotienting_next : {n' s' : ℕ} {f' g' q₀' q' : List ℕ} (n i s a b e x v : ℕ) (f g h p q₀ q y : List ℕ) → Quotienting n s f g q₀ q
    → QuotientAsked n i f g p → x ≡ convolve (coef y) (coef h) e % a → v ≡ (i * ((b + (a - x)) % a)) % a → a ≡ n → 0 < s
    → n' ≡ n → f' ≡ f → g' ≡ g → q₀' ≡ q₀ → s' ≡ s - 1 → q' ≡ set q s' v → h ≡ g → e ≡ length g - 1
    → y ≡ take (length q₀ - s') (drop s' q) → b ≡ coef f (length g - 1 + s') → Quotienting n' s' f' g' q₀' q'
quotienting_next {n'} {s'} n i s a b e x v f g h p q₀ q y qs asked ex ev ea l en ef eg e₀ es eq eh ee ey eb =
    let k : s ≡ s' + 1 = omega arith in
    rw (en, ef, eg, e₀, eq) (quotienting_step n i s' x v f g q₀ q asked.modulus (omega (arith, qs.most))
    (omega (arith, deg_is g, qs.reach)) asked.inverse (rw k at qs)
    (modulo _ ea ex ∙ rw (ey, eh, ee, read_is q s' (length q) (length q₀ - s') refl (omega (arith, qs.same)), deg_is g) refl)
    (ev ∙ ap (λ (z : ℕ). (i * ((b + (z - x)) % z)) % z) ea ∙ rw (eb, deg_is g) refl))

pub quotienting_end : {n i s : ℕ} {f g p q₀ q : List ℕ} → QuotientAsked n i f g p → q₀ ≡ replicate (length p) 0 → Quotienting n s f g q₀ q
    → s ≤ 0 → QuotientWords n f g q
quotienting_end {n} {i} {s} {f} {g} {p} a e qs l = record {
  length_q = qs.same ∙ ap length e ∙ length-replicate (length p) 0 ∙ a.length_q;
  residues = record { at = λ k b. qs.below k };
  short = λ b. qs.high 0 (omega (arith, deg_is f, a.some_f));
  equation = λ j. (qs.at j (omega arith)).same;
}

-- ---- the division

module _ (n : ℕ) (f g q r : List ℕ) (pos : 0 < n) (one : 1 ≤ length g) (qw : QuotientWords n f g q)
    (is : r ≡ tabulate (deg g) (λ (k : ℕ). difference n (coef f k) (convolve (coef q) (coef g) k))) where
  above : (k : ℕ) → deg g < k → coef g k ≡ 0
  above k l = coef_out g k l

  equation : (k : ℕ) → (convolve (coef q) (coef g) k + coef r k) % n ≡ coef f k % n
  equation k = ⊎_elim low (λ l. high (k - deg g) (omega arith)) (lt_or_le k (deg g))
    where
      low : k < deg g → (convolve (coef q) (coef g) k + coef r k) % n ≡ coef f k % n
      low l =
          ap (λ (x : ℕ). (convolve (coef q) (coef g) k + x) % n)
          (ap (λ (w : List ℕ). coef w k) is ∙ coef_tabulate (deg g)
          (λ (k : ℕ). difference n (coef f k) (convolve (coef q) (coef g) k)) k l)
          ∙ ap (λ (x : ℕ). x % n) (add_comm (convolve (coef q) (coef g) k) (difference n (coef f k) (convolve (coef q) (coef g) k)))
          ∙ (c_sub {a = coef f k} (convolve (coef q) (coef g) k) pos).same

      high : (j : ℕ) → k ≡ j + deg g → (convolve (coef q) (coef g) k + coef r k) % n ≡ coef f k % n
      high j e =
          ap₂ (λ (x y : ℕ). (x + y) % n)
          (ap (convolve (coef q) (coef g)) e ∙ convolve_shift j (deg g) (coef q) (coef g) above
          ∙ total_cong (suc (deg g)) _ _ (λ i b. ap (λ (x : ℕ). x * coef g (deg g - i)) (sym (get_or-drop j q i 0))))
          (get_or-eq_default r 0 (omega (
            arith,
            ap length is,
            length_tabulate (deg g)
                (λ (k : ℕ). difference n (coef f k) (convolve (coef q) (coef g) k)),
          )))
          ∙ ap (λ (x : ℕ). x % n) (add-zero _)
          ∙ qw.equation j
          ∙ ap (λ (x : ℕ). coef f x % n) (add_comm (deg g) j ∙ sym e)

  division_of : Division n f g q r
  division_of = record {
    length_q = qw.length_q;
    length_r = ap length is ∙ length_tabulate (deg g) (λ (k : ℕ). difference n (coef f k) (convolve (coef q) (coef g) k));
    residues_q = qw.residues;
    residues_r = record {
      at = λ k l. subst (λ (x : ℕ). x < n)
          (sym (ap (λ (w : List ℕ). coef w k) is ∙ coef_tabulate (deg g)
          (λ (k : ℕ). difference n (coef f k) (convolve (coef q) (coef g) k)) k
          (subst (λ (x : ℕ). k < x) (ap length is ∙ length_tabulate (deg g)
          (λ (k : ℕ). difference n (coef f k) (convolve (coef q) (coef g) k))) l))) (mod-lt _ pos);
    };
    short = qw.short;
    equation = record { at = equation };
  }

abbrev pub remainders : ℕ → List ℕ → List ℕ → List ℕ → ℕ → ℕ
remainders n f g q k = difference n (coef f k) (convolve (coef q) (coef g) k)

-- the record's modulus a is n
pub asked_by : {a n i : ℕ} {f g q : List ℕ} → QuotientAsked n i f g q → a ≡ n → QuotientAsked a i f g q
asked_by h e = rw e h

pub divided : {n i : ℕ} {f g p q r' : List ℕ} (a : ℕ) (r : List ℕ) → QuotientAsked n i f g p → length r ≡ deg g → QuotientWords a f g q
    → r' ≡ tabulate (length r) (remainders a f g q) → a ≡ n → Division n f g q r'
divided {n} {i} {f} {g} {p} {q} {r'} a r asked l qw e ea =
    division_of n f g q r' asked.modulus asked.some_g (subst (λ (k : ℕ). QuotientWords k f g q) ea qw)
    (e ∙ ap₂ (λ (j k : ℕ). tabulate j (remainders k f g q)) l ea)

-- a word of the remainder, as the code makes it
pub remainder_next : {k k' : ℕ} {r₀ r r' : List ℕ} (n a x y v : ℕ) (f g q : List ℕ) → Filled (remainders n f g q) k r₀ r → k < length r
    → a ≡ n → x ≡ convolve (coef q) (coef g) k % a → y ≡ coef f k → v ≡ (y + (a - x)) % a → r' ≡ set r k v → k' ≡ k + 1
    → Filled (remainders n f g q) k' r₀ r'
remainder_next {k} {k'} {r₀} {r} {r'} n a x y v f g q h l ea ex ey ev er ek =
    rw (er, ek) (filled_step h (omega (arith, h.same))
    (ev ∙ ap (λ (z : ℕ). (y + (z - x)) % z) ea ∙ ap₂ (λ (u w : ℕ). (u + (n - w)) % n) ey (modulo _ ea ex)))

pub residue_within : {b y : ℕ} (a v x : ℕ) → v ≡ x % a → 1 ≤ a → y ≡ v → b ≡ a → y ≤ b
residue_within a v x h l ey eb = omega (arith, within x l h)

pub ruleset rounds = (quotienting_start, quotienting_next, quotienting_end, quotient_word_is, residue_within)

pub ruleset remains = (filled_none, remainder_next)

pub ruleset quotients = (rules, rounds, remains)

pub ruleset divides = (rules, asked_by, divided)
