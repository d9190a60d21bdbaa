-- The table of the seventeen primes up to 60 (S86), and what a test of it against n says: for every bound b up to 60, that no word of the
-- table up to b divides n is exactly that no prime up to b divides n, and that is exactly that the differences of the points 0, …, b are
-- units.
--
--   NoSmallPrime n b      no prime up to b divides n
--   small_units           then 1, …, b are units
--   UnitDifferences n b   the differences of the points 0, …, b are units modulo n
--   differences_none, none_differences    which is the same
--   differences_above     then b is below n
--   table                 the seventeen primes; table_above, table_sorted: they are above 1 and ascend
--   table_complete        every prime up to 60 is in it, by a computed test: each number from 2 to 60 is divided by a word of the table
--   Passed n b            no word of the table up to b divides n
--   passed_none, none_passed     which is the same, for b up to 60
--   passed_differences, differences_passed    the test says exactly that the differences are units
--
-- Letters: n is the modulus; b a bound; t a word of the table, i its place; k a number up to b.
use Rattle.std.specs.Prelude.{◌≡◌, refl, List, [], ◌∷◌, Bool, true, false, ◌&&◌, ℕ, zero, suc, ◌+◌, ◌-◌, ◌%◌, ◌<◌, ◌≤◌, T, eqb, leb, length, get_or}
use Rattle.std.proofs.Common.{sym, subst, arith, eqb→eq, leb→le}
use Rattle.std.specs.Int.{◌∣◌}
use Rattle.std.proofs.Math.Decide.{ℕ_discrete, dec_lt}
use Rattle.std.proofs.Math.Nat.{dvd_of_mod-eq-zero, dvd_refl, dvd_trans, le_of_dvd, pos_of_dvd_of_pos}
use Rattle.definitions.specs.Residues.{IsUnit}
use Rattle.law_numbers.specs.Primes.{Prime, prime_of}
use Rattle.law_numbers.specs.Units.{unit_of_coprime, coprime_of_unit}

-- ---- small primes and units

pub record NoSmallPrime (n b : ℕ) : Type 0 where
  pub none : (p : ℕ) → Prime p → p ≤ b → p ∣ n → ⊥

-- 1, …, b are units
pub small_units : (n b : ℕ) → 1 ≤ n → NoSmallPrime n b → (k : ℕ) → 1 ≤ k → k ≤ b → IsUnit n k
small_units n b l h k p q = unit_of_coprime l (record { only = λ c u v. pick c u v (ℕ_discrete c 1) })
  where
    pick : (c : ℕ) → c ∣ n → c ∣ k → Dec (c ≡ 1) → c ≡ 1
    pick c u v (yes e) = e
    pick c u v (no e) =
        let s : 0 < c = pos_of_dvd_of_pos v (omega arith) in
        let r = prime_of c (omega arith) in
        let t : r.p ≤ k = le_of_dvd (omega arith) (dvd_trans r.p r.divides v) in
        absurd (h.none r.p r.prime (omega arith) (dvd_trans r.p r.divides u))

-- a divisor of n above 1 is no unit
no_unit : {n k : ℕ} → 1 < k → k ∣ n → IsUnit n k → ⊥
no_unit {n} {k} l d u = let one : k ≡ 1 = (coprime_of_unit u).only k d (dvd_refl k) in omega arith

pub record UnitDifferences (n b : ℕ) : Type 0 where
  pub at : (i j : ℕ) → i < j → j ≤ b → IsUnit n (j - i)

pub none_differences : {n b : ℕ} → 1 ≤ n → NoSmallPrime n b → UnitDifferences n b
none_differences {n} {b} l h = record { at = λ i j p q. small_units n b l h (j - i) (omega arith) (omega arith) }

pub differences_none : {n b : ℕ} → UnitDifferences n b → NoSmallPrime n b
differences_none {n} u = record { none = λ p r l d. let big = r.above in no_unit big d (from p (u.at 0 p (omega arith) l)) }
  where
    from : (p : ℕ) → IsUnit n (p - 0) → IsUnit n p
    from p = subst (IsUnit n) (less p)
      where
        less : (p : ℕ) → p - 0 ≡ p
        less p = omega arith

-- so the points are residues
pub differences_above : {n b : ℕ} → 2 ≤ n → UnitDifferences n b → b < n
differences_above {n} {b} l u = go (dec_lt b n)
  where
    whole : (n : ℕ) → n - 0 ≡ n
    whole n = omega arith

    go : Dec (b < n) → b < n
    go (yes h) = h
    go (no h) = absurd (no_unit l (dvd_refl n) (subst (IsUnit n) (whole n) (u.at 0 n (omega arith) (omega arith))))

-- ---- the table

abbrev pub table : List ℕ
table = 2 ∷ 3 ∷ 5 ∷ 7 ∷ 11 ∷ 13 ∷ 17 ∷ 19 ∷ 23 ∷ 29 ∷ 31 ∷ 37 ∷ 41 ∷ 43 ∷ 47 ∷ 53 ∷ 59 ∷ []

-- some t of ts divides k
abbrev covered : ℕ → List ℕ → Bool
covered k [] = false
covered k (t ∷ ts) = elim (eqb (k % t) 0) [ true ↦ true | false ↦ covered k ts ]

-- P 0, …, P (n - 1)
abbrev every : ℕ → (ℕ → Bool) → Bool
every zero P = true
every (suc n) P = P n && every n P

and_left : (x y : Bool) → T (x && y) → T x
and_left true y h = tt
and_left false y h = h

and_right : (x y : Bool) → T (x && y) → T y
and_right true y h = h
and_right false y h = absurd h

every_at : (n : ℕ) (P : ℕ → Bool) → T (every n P) → (k : ℕ) → k < n → T (P k)
every_at zero P h k l = absurd (omega arith)
every_at (suc n) P h k l = go (ℕ_discrete k n) (every_at n P (and_right (P n) (every n P) h) k)
  where
    go : Dec (k ≡ n) → (k < n → T (P k)) → T (P k)
    go (yes e) r = subst (λ (j : ℕ). T (P j)) (sym e) (and_left (P n) (every n P) h)
    go (no e) r = r (omega arith)

-- the place of a word of ts that divides k
pub record Place (k : ℕ) (ts : List ℕ) : Type 0 where
  pub i : ℕ
  pub inside : i < length ts
  pub divides : get_or ts i 0 ∣ k

covered_at : (k : ℕ) (ts : List ℕ) → T (covered k ts) → Place k ts
covered_at k [] h = absurd h
covered_at k (t ∷ ts) h = go (eqb (k % t) 0) refl h (λ h. later (covered_at k ts h))
  where
    later : Place k ts → Place k (t ∷ ts)
    later p = record { i = suc p.i; inside = let l = p.inside in omega arith; divides = p.divides }

    go : (x : Bool) → eqb (k % t) 0 ≡ x → T (elim x [ true ↦ true | false ↦ covered k ts ])
        → (T (covered k ts) → Place k (t ∷ ts)) → Place k (t ∷ ts)
    go true e h r = record { i = 0; inside = omega arith; divides = dvd_of_mod-eq-zero t (eqb→eq (k % t) 0 (subst T (sym e) tt)) }
    go false e h r = r h

-- every word of the table is above 1
pub table_above : (i : ℕ) → i < 17 → 1 < get_or table i 0
table_above i l = leb→le 2 (get_or table i 0) (every_at 17 (λ i. leb 2 (get_or table i 0)) tt i l)

-- the table ascends
ascends : (k : ℕ) → k < 16 → get_or table k 0 ≤ get_or table (suc k) 0
ascends k l = leb→le (get_or table k 0) (get_or table (suc k) 0)
    (every_at 16 (λ k. leb (get_or table k 0) (get_or table (suc k) 0)) tt k l)

pub table_sorted : (i r j : ℕ) → i + r ≡ j → j < 17 → get_or table i 0 ≤ get_or table j 0
table_sorted i zero j e l = let s : i ≡ j = omega arith in subst (λ (k : ℕ). get_or table i 0 ≤ get_or table k 0) s (omega arith)
table_sorted i (suc r) zero e l = absurd (omega arith)
table_sorted i (suc r) (suc j) e l =
    let a = table_sorted i r j (omega arith) (omega arith) in let b = ascends j (omega arith) in omega arith

-- the computed test: each number from 2 to 60 is divided by a word of the table
all_covered : (k : ℕ) → k < 59 → T (covered (suc (suc k)) table)
all_covered = every_at 59 (λ k. covered (suc (suc k)) table) tt

pub record InTable (p : ℕ) : Type 0 where
  pub i : ℕ
  pub inside : i < 17
  pub is : get_or table i 0 ≡ p

-- EVERY PRIME UP TO 60 IS IN THE TABLE
pub table_complete : (p : ℕ) → Prime p → p ≤ 60 → InTable p
table_complete zero pr l = let h = pr.above in absurd (omega arith)
table_complete (suc zero) pr l = let h = pr.above in absurd (omega arith)
table_complete (suc (suc k)) pr l =
    let c = covered_at (suc (suc k)) table (all_covered k (omega arith)) in
    record { i = c.i; inside = c.inside; is = pr.only (get_or table c.i 0) (table_above c.i c.inside) c.divides }

-- no word of the table up to b divides n
pub record Passed (n b : ℕ) : Type 0 where
  pub at : (i : ℕ) → i < 17 → get_or table i 0 ≤ b → get_or table i 0 ∣ n → ⊥

pub passed_none : {n b : ℕ} → b ≤ 60 → Passed n b → NoSmallPrime n b
passed_none {n} {b} h t = record {
  none = λ p pr q d.
      let m = table_complete p pr (omega arith) in
      t.at m.i m.inside (subst (λ (x : ℕ). x ≤ b) (sym m.is) q) (subst (λ (x : ℕ). x ∣ n) (sym m.is) d);
}

pub none_passed : {n b : ℕ} → NoSmallPrime n b → Passed n b
none_passed {n} {b} h = record {
  at = λ i l q d.
      let r = prime_of (get_or table i 0) (table_above i l) in
      let big = table_above i l in
      let s : r.p ≤ get_or table i 0 = le_of_dvd (omega arith) r.divides in
      h.none r.p r.prime (omega arith) (dvd_trans r.p r.divides d);
}

-- THE TEST SAYS EXACTLY that the differences of the points 0, …, b are units
pub passed_differences : {n b : ℕ} → 1 ≤ n → b ≤ 60 → Passed n b → UnitDifferences n b
passed_differences l h t = none_differences l (passed_none h t)

pub differences_passed : {n b : ℕ} → UnitDifferences n b → Passed n b
differences_passed u = none_passed (differences_none u)
