-- The steps of the elimination on two rows, between the matrix before and the one after.
--
--   less                         a row less a multiple of a row, word by word
--   quotient_fits                a quotient of residues is no larger than n
--   row_reduced, exchanged       the two row operations, as the code writes them, keep the leading minors
--   combined_none                nothing is done
--   divisor_first, divisor_second, exchange_asked     what the steps of Euclid's algorithm ask for
--   round, falls, swapped, all_cleared                a round of it; the word that falls; its two ends
--   rows                         the rules
use mathlib.Core.Path.{◌≡◌, refl, sym, ◌∙◌, ap, subst}
use mathlib.Core.Logic.{◌≢◌}
use mathlib.Core.List.{List, []}
use Prim.Native.Nat.{ℕ, zero, suc, ◌+◌, ◌*◌, ◌-◌, ◌/◌, ◌%◌, ◌<◌, ◌≤◌}
use native.Mathlib.Decide.{ℕ_discrete}
use native.Mathlib.Nat.{mod-lt, mod-mod, mod-eq_of_lt, zero-mod, mul-mod_right, div-add-mod, add-mul-mod_self_left}
use native.Mathlib.Omega.{arith}
use lib.ListN.{length, get_or, set, length-set}
use lib.Seq.{get_or-set_same, get_or-set_other}
use borrow.Author.Rules.{rules}
use Rattle.law_numbers.specs.Congruence.{Cong, c_eq, c_mod, c_trans, c_add, c_refl}
use Rattle.evaluator_matrices.specs.LeadingMinors.{minor_add_row, minor_exchange}
use Rattle.evaluator_matrices.specs.Elimination.{cell, ResidueCells, LessMultiple, Combined, RowReduced, Exchanged, EntryCleared}
use Rattle.evaluator_matrices.specs.Elimination.{Reducible, Exchangeable, BelowDiagonal}

-- a row less a multiple of a row
abbrev pub less : ℕ → ℕ → List ℕ → List ℕ → ℕ → ℕ → Type 0
less n q x y i w = w ≡ (get_or x i 0 + (n - q) * get_or y i 0) % n

-- a row z put in at i
module _ (m : List (List ℕ)) (i : ℕ) (z : List ℕ) where
  cell_same : (c : ℕ) → i < length m → cell (set m i z) i c ≡ get_or z c 0
  cell_same c l = ap (λ (x : List ℕ). get_or x c 0) (get_or-set_same m i z [] l)

  cell_other : (r c : ℕ) → r ≢ i → cell (set m i z) r c ≡ cell m r c
  cell_other r c e = ap (λ (x : List ℕ). get_or x c 0) (get_or-set_other m i r z [] e)

times_none : (n q y : ℕ) → y ≡ 0 → (q * y) % n ≡ 0
times_none n q y h = ap (λ (w : ℕ). w % n) (omega (arith, ap (λ (w : ℕ). q * w) h)) ∙ zero-mod n

none : (n q x y : ℕ) → x ≡ 0 → y ≡ 0 → (x + q * y) % n ≡ 0
none n q x y h g = ap (λ (w : ℕ). w % n) (omega arith) ∙ times_none n q y g

quotient_below : (n a b : ℕ) → a < n → 1 ≤ b → a / b ≤ n
quotient_below n a b l one = go (a / b) b (a % b) one (div-add-mod a b)
  where
    go : (q b s : ℕ) → 1 ≤ b → b * q + s ≡ a → q ≤ n
    go q zero s one e = absurd (omega arith)
    go q (suc b) s one e = omega arith

pub quotient_fits : (n i h j : ℕ) (m : List (List ℕ)) → Reducible n i h j m → cell m i j / cell m h j ≤ n
quotient_fits n i h j m a = quotient_below n (cell m i j) (cell m h j) (a.residues.at i j a.row a.column) a.divisor

-- a + (n - q) b leaves what the division of a by b leaves
left_over : (n a b : ℕ) → a < n → 1 ≤ b → (a + (n - a / b) * b) % n ≡ a % b
left_over n a b l one =
    ap (λ (w : ℕ). w % n) (split (a / b) (a % b) (n - a / b) (div-add-mod a b) (omega (arith, quotient_below n a b l one)))
    ∙ add-mul-mod_self_left (a % b) n b ∙ mod-eq_of_lt (omega (arith, div-add-mod a b))
  where
    split : (q s t : ℕ) → b * q + s ≡ a → n ≡ q + t → a + t * b ≡ s + n * b
    split q s t e h = omega (arith, ap (λ (w : ℕ). w * b) h)

-- z, the row i less so many times the row h, is put in at i
module _ {n i h j : ℕ} {m : List (List ℕ)} (z : List ℕ) (a : Reducible n i h j m)
    (taken : LessMultiple n (cell m i j / cell m h j) (get_or m i []) (get_or m h []) z) (size : length m ≡ 8) where
  less_at : (c : ℕ) → c < 8 → cell (set m i z) i c ≡ (cell m i c + (n - cell m i j / cell m h j) * cell m h c) % n
  less_at c l = cell_same m i z c (omega (arith, a.row)) ∙ taken.at c l

  apart : i ≢ h
  apart = a.apart

  pub row_reduced : {m' : List (List ℕ)} → m' ≡ set m i z → RowReduced n i h j m m'
  row_reduced e =
      rw e (record {
        combined = record {
          others = λ r c p q e d. cell_other m i z r c e;
          zeros = λ c l p q. (less_at c l ∙ none n _ _ _ p q, cell_other m i z h c (λ e. apart (sym e)) ∙ q);
          residues = record { at = λ r c p q. below r c p q (ℕ_discrete r i) };
          minor = λ k l p q. minor_add_row n k h i (n - cell m i j / cell m h j) (omega (arith, a.modulus)) q p (λ e. apart (sym e))
              (cell m) (cell (set m i z))
              (λ c u. record { same = ap (λ (x : ℕ). x % n) (less_at c (omega arith)) ∙ mod-mod _ n })
              (λ r c u v w. cell_other m i z r c w);
        };
        remainder = less_at j a.column
            ∙ left_over n (cell m i j) (cell m h j) (a.residues.at i j a.row a.column) a.divisor;
        divisor = cell_other m i z h j (λ e. apart (sym e));
      })
    where
      below : (r c : ℕ) → r < 8 → c < 8 → Dec (r ≡ i) → cell (set m i z) r c < n
      below r c p q (yes e) =
          subst (λ (k : ℕ). cell (set m i z) k c < n) (sym e)
          (subst (λ (x : ℕ). x < n) (sym (less_at c q)) (mod-lt _ (omega (arith, a.modulus))))
      below r c p q (no e) = subst (λ (x : ℕ). x < n) (sym (cell_other m i z r c e)) (a.residues.at r c p q)

-- the row j less twice itself is put in at i, and the row i at j
module _ {n i j : ℕ} {m : List (List ℕ)} (z : List ℕ) (a : Exchangeable n i j m) (taken : LessMultiple n 2 (get_or m j []) (get_or m j []) z)
    (size : length m ≡ 8) where
  m' : List (List ℕ)
  m' = set (set m i z) j (get_or m i [])

  at_first : (c : ℕ) → c < 8 → cell m' i c ≡ ((n - 1) * cell m j c) % n
  unfolding m'
  at_first c l =
      cell_other (set m i z) j (get_or m i []) i c a.apart ∙ cell_same m i z c (omega (arith, a.first)) ∙ taken.at c l
      ∙ ap (λ (x : ℕ). x % n) (minus (cell m j c) (n - 2) (n - 1) (omega (arith, a.modulus)))
    where
      minus : (w t u : ℕ) → u ≡ 1 + t → w + t * w ≡ u * w
      minus w t u h = omega (arith, ap (λ (x : ℕ). x * w) h)

  at_second : (c : ℕ) → cell m' j c ≡ cell m i c
  unfolding m'
  at_second c = cell_same (set m i z) j (get_or m i []) c (omega (arith, length-set m i z, a.second))

  elsewhere : (r c : ℕ) → r ≢ i → r ≢ j → cell m' r c ≡ cell m r c
  unfolding m'
  elsewhere r c p q = cell_other (set m i z) j (get_or m i []) r c q ∙ cell_other m i z r c p

  -- w and n - 1 times w
  opposite : (w x : ℕ) → x ≡ ((n - 1) * w) % n → Cong n (w + x) 0
  opposite w x e =
      c_trans (c_add c_refl (c_eq e)) (c_trans (c_add c_refl (c_mod ((n - 1) * w)))
      (record { same = ap (λ (x : ℕ). x % n) (whole (n - 1) (omega (arith, a.modulus))) ∙ mul-mod_right n w ∙ sym (zero-mod n) }))
    where
      whole : (t : ℕ) → n ≡ 1 + t → w + t * w ≡ n * w
      whole t h = omega (arith, ap (λ (x : ℕ). x * w) h)

  pub exchanged : {m'' : List (List ℕ)} → m'' ≡ set (set m i z) j (get_or m i []) → Exchanged n i j m m''
  unfolding m'
  exchanged e =
      rw e (record {
        combined = record {
          others = λ r c p q e d. elsewhere r c e d;
          zeros = λ c l p q. (at_first c l ∙ times_none n (n - 1) (cell m j c) q, at_second c ∙ p);
          residues = record { at = λ r c p q. below r c p q (ℕ_discrete r i) (ℕ_discrete r j) };
          minor = λ k l p q. minor_exchange n k i j (omega (arith, a.modulus)) p q a.apart (cell m) (cell m') (λ c u. at_second c)
              (λ c u. opposite (cell m j c) (cell m' i c) (at_first c (omega arith)))
              (λ r c u v w x. elsewhere r c w x);
        };
        first = at_first;
        second = λ c l. at_second c;
      })
    where
      below : (r c : ℕ) → r < 8 → c < 8 → Dec (r ≡ i) → Dec (r ≡ j) → cell m' r c < n
      below r c p q (yes e) d =
          subst (λ (k : ℕ). cell m' k c < n) (sym e) (subst (λ (x : ℕ). x < n) (sym (at_first c q)) (mod-lt _ (omega (arith, a.modulus))))
      below r c p q (no e) (yes d) =
          subst (λ (k : ℕ). cell m' k c < n) (sym d) (subst (λ (x : ℕ). x < n) (sym (at_second c)) (a.residues.at i c a.first q))
      below r c p q (no e) (no d) = subst (λ (x : ℕ). x < n) (sym (elsewhere r c e d)) (a.residues.at r c p q)

-- one step after another
pub combined_none : {n i j : ℕ} {m : List (List ℕ)} → ResidueCells n m → Combined n i j m m
combined_none h = record { others = λ r c p q e d. refl; zeros = λ c l p q. (p, q); residues = h; minor = λ k l p q. refl }

combined_flip : {n i j : ℕ} {m m' : List (List ℕ)} → Combined n i j m m' → Combined n j i m m'
combined_flip h =
    record {
      others = λ r c p q e d. h.others r c p q d e;
      zeros = λ c l p q. ((h.zeros c l q p).1, (h.zeros c l q p).0);
      residues = h.residues;
      minor = λ k l p q. h.minor k l q p;
    }

combined_both : {n i j : ℕ} {m m' m'' : List (List ℕ)} → Combined n i j m m' → Combined n i j m' m'' → Combined n i j m m''
combined_both h g =
    record {
      others = λ r c p q e d. g.others r c p q e d ∙ h.others r c p q e d;
      zeros = λ c l p q. let o = h.zeros c l p q in g.zeros c l o.0 o.1;
      residues = g.residues;
      minor = λ k l p q. g.minor k l p q ∙ h.minor k l p q;
    }

-- what the steps of a round ask for: row j by row i, then row i by row j, or an exchange
module _ {n i j : ℕ} {m : List (List ℕ)} (b : BelowDiagonal n i j m) where
  pub divisor_first : {r : List (List ℕ)} → Combined n i j m r → (cell r i j ≡ 0 → ⊥) → Reducible n j i j r
  divisor_first h z = record {
    modulus = b.modulus;
    row = omega (arith, b.below, b.row);
    other = b.row;
    column = omega (arith, b.below, b.row);
    apart = omega (arith, b.below);
    residues = h.residues;
    divisor = omega arith;
  }

  module _ {r s : List (List ℕ)} (first : RowReduced n j i j r s) where
    pub divisor_second : {n' i' h' j' : ℕ} {s' : List (List ℕ)} → (cell s j j ≡ 0 → ⊥) → n' ≡ n → i' ≡ i → h' ≡ j → j' ≡ j → s' ≡ s
        → Reducible n' i' h' j' s'
    divisor_second z en ei eh ej es = rw (en, ei, eh, ej, es) (record {
      modulus = b.modulus;
      row = b.row;
      other = omega (arith, b.below, b.row);
      column = omega (arith, b.below, b.row);
      apart = omega (arith, b.below);
      residues = first.combined.residues;
      divisor = omega arith;
    })

    pub exchange_asked : {n' i' j' : ℕ} {s' : List (List ℕ)} → n' ≡ n → i' ≡ i → j' ≡ j → s' ≡ s → Exchangeable n' i' j' s'
    exchange_asked en ei ej es = rw (en, ei, ej, es) (record {
      modulus = b.modulus;
      first = b.row;
      second = omega (arith, b.below, b.row);
      apart = omega (arith, b.below);
      residues = first.combined.residues;
    })

    half : Combined n i j m r → Combined n i j m s
    half before = combined_both before (combined_flip first.combined)

    pub round : {t : List (List ℕ)} → Combined n i j m r → RowReduced n i j j s t → Combined n i j m t
    round before second = combined_both (half before) second.combined

    pub swapped : {t : List (List ℕ)} → Combined n i j m r → Exchanged n i j s t → cell s j j ≡ 0 → EntryCleared n i j m t
    swapped {t} before e z = record {
      combined = combined_both (half before) e.combined;
      zero = e.first j (omega (arith, b.below, b.row)) ∙ times_none n (n - 1) (cell s j j) z;
    }

pub falls : {n i j : ℕ} {r s t : List (List ℕ)} → RowReduced n j i j r s → RowReduced n i j j s t → (cell r i j ≡ 0 → ⊥)
    → (cell s j j ≡ 0 → ⊥) → cell t i j < cell r i j
falls {n} {i} {j} {r} {s} {t} first second p q =
    omega (
      arith,
      second.remainder,
      first.remainder,
      mod-lt (cell s i j) {m = cell s j j} (omega arith),
      mod-lt (cell r j j) {m = cell r i j} (omega arith),
    )

pub all_cleared : {n i j : ℕ} {m r : List (List ℕ)} → Combined n i j m r → cell r i j ≡ 0 → EntryCleared n i j m r
all_cleared h z = record { combined = h; zero = z }

pub ruleset rounds = (combined_none, divisor_first, divisor_second, exchange_asked, round, falls, swapped, all_cleared)

pub ruleset rows = (rules, quotient_fits, row_reduced, exchanged, rounds)
