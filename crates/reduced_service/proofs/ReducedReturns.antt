-- The reduced resultant's promise at each place where it returns, and that the run has the words that it asks for, over any width W.
--
--   first_some, second_some, cofactor_fits             what the code asks after the refusals 1, 2 and 3
--   late                                               the refusals 6 and 7
--   Serves W k         K of a modulus of the width is at most k, and the working words of the width are enough for it
--   first_room, second_room, run_asked, run_swapped, done     what the run asks, and the answer
use mathlib.Core.Path.{◌≡◌, refl, sym, ap, ap₂, subst, ◌∙◌}
use mathlib.Core.List.{List, [], ◌∷◌, ◌++◌}
use Prim.Native.Nat.{ℕ, zero, suc, max, ◌+◌, ◌-◌, ◌*◌, ◌≤◌, ◌<◌}
use native.Mathlib.Numerals.{sub-one}
use native.Mathlib.Omega.{arith}
use native.Mathlib.Nat.{mul-le-mul, sub-zero}
use lib.Dec.{T, leb, leb→le}
use lib.ListN.{length, take, replicate}
use lib.Seq.{length-take-le}
use borrow.Rule.Slice.PartMut.{post_of}
use Rattle.definitions.specs.Residues.{K}
use Rattle.definitions.specs.Polynomials.{deg, L}
use Rattle.definitions.specs.Resultants.{Combination}
use Rattle.law_numbers.specs.Logarithm.{K_below}
use Rattle.windows.specs.Window.{Scratch}
use Rattle.refusals.specs.Refusals.{Width, Tested, short, first_refusal, refusals_of_pair}
use Rattle.refusals.specs.Conditions.{Accepted, Passed, accepted_pair, status_zero}
use Rattle.refusals.proofs.Cascade.{below_bound}
use Rattle.refusals.proofs.Statuses.{refused_early, passed_on, too_short, long_enough, left_refused}
use Rattle.answers.specs.Cofactors.{held as held_at}
use Rattle.reduced_cofactors.specs.Cofactors.{Certified}
use Rattle.reduced.specs.Runs.{run_room, RunAsked}
use Rattle.reduced_service.specs.ReducedService.{reduced_refusals, reduced_status, reduced_conditions, reduced_listed}
use Rattle.reduced_service.specs.ReducedService.{LeastConstants, ReducedLeft, ReducedAnswer}
use Rattle.reduced_service.specs.Asked.{ReducedAsked}

left_alone : (s n : ℕ) (f g u v : List ℕ) → (s ≡ 0 → ⊥) → ReducedLeft s n f g u u v v 0
left_alone zero n f g u v z = absurd (z refl)
left_alone (suc s) n f g u v z = record { nothing = refl; first = refl; second = refl }

-- ---- after the refusals 1, 2 and 3

module _ (B n s : ℕ) (f g : List ℕ) (e : s ≡ first_refusal (refusals_of_pair (below_bound B) n f g)) (z : s ≡ 0) where
  known : Accepted (below_bound B) n f × Accepted (below_bound B) n g
  known = accepted_pair (below_bound B) n f g (sym e ∙ z)

  pub first_some : {k : ℕ} → k ≡ length f → 1 ≤ k
  first_some i = omega (arith, known.0.some)

  pub second_some : {k : ℕ} → k ≡ length g → 1 ≤ k
  second_some i = omega (arith, known.1.some)

  -- K is at most 62, and the larger degree at most 48
  pub cofactor_fits : (a b : ℕ) → T (leb B 9223372036854775808) → a ≡ length f → b ≡ length g
      → L n (a - 1) (b - 1) < 18446744073709551616
  cofactor_fits a b top ea eb =
      let k = K_below n 63 (omega (arith, known.0.modulus)) (omega (arith, known.0.bounded, leb→le B 9223372036854775808 top)) in
      let q : max (a - 1) (b - 1) ≤ 48 = omega (arith, known.0.few, known.1.few) in
      small (K n * max (a - 1) (b - 1)) (mul-le-mul {n₁ = K n} {m₁ = max (a - 1) (b - 1)} {n₂ = 62} {m₂ = 48} (omega arith) q)
    where
      small : (x : ℕ) → x ≤ 62 * 48 → suc x < 18446744073709551616
      small x q = omega arith

-- ---- the refusals

-- 6 and 7, where a cofactor needs m words
abbrev later : Width → List ℕ → List ℕ → List ℕ → ℕ → List Tested
later W u v work m = (6, short (length u) m) ∷ (6, short (length v) m) ∷ (7, short (length work) W.working) ∷ []

module _ (W : Width) (n : ℕ) (f g u v work : List ℕ) (s : ℕ) (e : s ≡ first_refusal (refusals_of_pair W n f g)) where
  module _ (z : s ≡ 0) (l : ℕ) (el : l ≡ L n (length f - 1) (length g - 1)) where
    length_is : l ≡ L n (deg f) (deg g)
    length_is = el ∙ ap₂ (L n) (sub-one (length f)) (sub-one (length g))

    -- the first refusal among 6 and 7, found for l
    found : (t : ℕ) → t ≡ first_refusal (later W u v work l) → t ≡ reduced_status W n f g (length u) (length v) (length work)
    found t h =
        passed_on (refusals_of_pair W n f g) (later W u v work (L n (deg f) (deg g))) s t e z
        (subst (λ (m : ℕ). t ≡ first_refusal (later W u v work m)) length_is h)

    pub late : (t : ℕ) → t ≡ first_refusal (later W u v work l) → (t ≡ 0 → ⊥) → ReducedAnswer W n f g u u v v work work 0 t
    late t h b = record { status_is = found t h; result = left_alone t n f g u v b; work_is = left_refused t work b }

-- ---- the answer

-- K of a modulus of the width is at most k, and the working words suffice for sent degrees up to 48
pub record Serves (W : Width) (k : ℕ) : Type 0 where
  pub most : (n : ℕ) → 2 ≤ n → n < W.bound → K n ≤ k
  pub room : 2 * (k * 49) + (16 * 49 + 2 * (k * 48)) ≤ W.working

module _ {W : Width} {n l : ℕ} {f g u v work : List ℕ} (asked : ReducedAsked W n f g l u v work) where
  passed : Passed (reduced_conditions W n f g (length u) (length v) (length work))
  passed = (status_zero (reduced_refusals W n f g (length u) (length v) (length work))
      (reduced_conditions W n f g (length u) (length v) (length work))
      (reduced_listed W n f g (length u) (length v) (length work))).0 asked.none

  first_fits : l ≤ length u
  first_fits = subst (λ (i : ℕ). i ≤ length u) (sym asked.words) passed.1.1.1.1.1.0

  second_fits : l ≤ length v
  second_fits = subst (λ (i : ℕ). i ≤ length v) (sym asked.words) passed.1.1.1.1.1.1.0

  pub first_room : {i j : ℕ} → i ≡ l → j ≡ length u → i ≤ j
  first_room ei ej = omega (arith, first_fits)

  pub second_room : {i j : ℕ} → i ≡ l → j ≡ length v → i ≤ j
  second_room ei ej = omega (arith, second_fits)

  -- the words that the run asks for are there
  enough : (k : ℕ) → Serves W k → run_room n (max (length f - 1) (length g - 1)) ≤ length work
  enough k serves =
      room (K n) (max (length f - 1) (length g - 1)) (serves.most n passed.0.least passed.0.most)
      (omega (arith, passed.1.0.few, passed.1.1.0.few))
    where
      room : (x m : ℕ) → x ≤ k → m ≤ 48 → 2 * (x * (m + 1)) + (16 * (m + 1) + 2 * (x * m)) ≤ length work
      room x m p q =
          let a = mul-le-mul {n₁ = x} {m₁ = m + 1} {n₂ = k} {m₂ = 49} p (omega arith) in
          let b = mul-le-mul {n₁ = x} {m₁ = m} {n₂ = k} {m₂ = 48} p q in
          omega (arith, serves.room, passed.1.1.1.1.1.1.1.0)

  lent : (b : List ℕ) → l ≤ length b → length (take (l - 0) b) ≡ l
  lent b h = length-take-le (l - 0) b (omega arith) ∙ sub-zero l

  code_length : l ≡ L n (length f - 1) (length g - 1)
  code_length = asked.words ∙ sym (ap₂ (L n) (sub-one (length f)) (sub-one (length g)))

  run : (k : ℕ) → Serves W k → (x y : List ℕ) → length x ≡ l → length y ≡ l → RunAsked n f g x y work
  run k serves x y lx ly = record {
    modulus = passed.0.least;
    some_f = passed.1.0.some;
    some_g = passed.1.1.0.some;
    room = enough k serves;
    first = omega (arith, lx, code_length);
    second = omega (arith, ly, code_length);
  }

  pub run_asked : (k : ℕ) → Serves W k → {n' : ℕ} {f' g' x y work' : List ℕ} → n' ≡ n → f' ≡ f → g' ≡ g → x ≡ take (l - 0) u
      → y ≡ take (l - 0) v → work' ≡ work → RunAsked n' f' g' x y work'
  run_asked k serves en ef eg ex ey ew =
      rw (en, ef, eg, ex, ey, ew) (run k serves (take (l - 0) u) (take (l - 0) v) (lent u first_fits) (lent v second_fits))

  -- of buffers that are exchanged it asks no less: that the answer is then wrong shows at the return
  pub run_swapped : (k : ℕ) → Serves W k → {n' : ℕ} {f' g' x y work' : List ℕ} → n' ≡ n → f' ≡ f → g' ≡ g → x ≡ take (l - 0) v
      → y ≡ take (l - 0) u → work' ≡ work → RunAsked n' f' g' x y work'
  run_swapped k serves en ef eg ex ey ew =
      rw (en, ef, eg, ex, ey, ew) (run k serves (take (l - 0) v) (take (l - 0) u) (lent v second_fits) (lent u first_fits))

  pub done : {u' v' work' : List ℕ} {value status : ℕ} (len D : ℕ) (x y w₁ : List ℕ) → Certified n len f g x y D
      → LeastConstants n f g x y D → Scratch work w₁ → length x ≡ length (take (l - 0) u) → length y ≡ length (take (l - 0) v)
      → work' ≡ replicate (length w₁) 0 → (value ≡ D) × (status ≡ 0) → u' ≡ x ++ post_of 0 (l - 0) u → v' ≡ y ++ post_of 0 (l - 0) v
      → ReducedAnswer W n f g u u' v v' work work' value status
  done len D x y w₁ c least sc lx ly ew is eu ev =
      let a : ℕ = L n (deg f) (deg g) in
      let m = sub-zero l ∙ asked.words in
      let p = held_at n (l - 0) a u x m passed.1.1.1.1.1.0 (lx ∙ lent u first_fits ∙ asked.words)
      (record { at = λ k _. c.below_u k }) in
      let q = held_at n (l - 0) a v y m passed.1.1.1.1.1.1.0 (ly ∙ lent v second_fits ∙ asked.words)
      (record { at = λ k _. c.below_v k }) in
      rw (eu, ev, is.0, is.1) (record {
        status_is = sym asked.none;
        result = record {
          reduced = c.reduced;
          first = p.0;
          second = q.0;
          combination = subst (λ (i : List ℕ). Combination n f g i (take a (y ++ post_of 0 (l - 0) v)) D) (sym p.1)
              (subst (λ (i : List ℕ). Combination n f g x i D) (sym q.1) c.combination);
          least = subst (λ (i : List ℕ). LeastConstants n f g i (take a (y ++ post_of 0 (l - 0) v)) D) (sym p.1)
              (subst (λ (i : List ℕ). LeastConstants n f g x i D) (sym q.1) least);
        };
        work_is = ew ∙ ap (λ (i : ℕ). replicate i 0) sc.same;
      })
