-- Many pairs in one call: what is asked, what is refused and what is left in every lent word, over any width W and any number that a pair
-- has. f holds count polynomials of sent degree d one after the other, g as many of sent degree e.
--
--   piece d i f             the i-th polynomial of sent degree d in f
--   bad_pieces_of d count l    l words are not count polynomials of sent degree d
--   batch_refusals, batch_status    the refusals in their order, and the number of the first that applies
--   Pairs P f d g e count out out'    word i of out' is P's number of the i-th pair for each i below count, and no other word is changed
--   BatchLeft               that, or nothing
--   BatchAnswer P           all that is promised of a call; P x y r says that r is the number of the pair x, y
--   ServedPieces, pieces_fail    what passes refusal 2
--   batch_listed            each refusal under its condition and no other
--   BatchServed, batch_served    what is known of an answered call
use Rattle.std.specs.Prelude.{◌≡◌, Bool, true, not, cond, List, [], ◌∷◌, ℕ, zero, suc, ◌*◌, ◌<◌, ◌≤◌, ltb, eqb, length, take, drop}
use Rattle.std.proofs.Common.{arith}
use Rattle.definitions.specs.Polynomials.{coef, Residues}
use Rattle.refusals.specs.Refusals.{Width, Tested, bad_modulus_of, all_below_of, short, first_refusal, left}
use Rattle.refusals.specs.Conditions.{Listed, Fails, ServedModulus, modulus_fails, words_fail, short_fails, either_fails, equal_fails}
use Rattle.refusals.specs.Conditions.{status_zero}

abbrev pub piece : (d i : ℕ) → List ℕ → List ℕ
piece d i f = take (suc d) (drop (i * suc d) f)

-- d is above 48, or l is not count times d + 1: the product is one of numbers, and never too large
abbrev pub bad_pieces_of : (d count l : ℕ) → Bool
bad_pieces_of d count l = cond (ltb 48 d) true (not (eqb l (count * suc d)))

-- 1, 2, 3, 6 and 7 in this order, f before g; l and m are the lengths of the result buffer and of the working buffer
abbrev pub batch_refusals : Width → ℕ → List ℕ → ℕ → List ℕ → (e count l m : ℕ) → List Tested
batch_refusals W n f d g e count l m =
    (1, bad_modulus_of W n) ∷ (2, bad_pieces_of d count (length f)) ∷ (2, bad_pieces_of e count (length g)) ∷ (3, not (all_below_of n f))
    ∷ (3, not (all_below_of n g)) ∷ (6, short l count) ∷ (7, short m W.working) ∷ []

abbrev pub batch_status : Width → ℕ → List ℕ → ℕ → List ℕ → (e count l m : ℕ) → ℕ
batch_status W n f d g e count l m = first_refusal (batch_refusals W n f d g e count l m)

-- word i of out' is the number of the i-th pair; words of out beyond count are unchanged
pub record Pairs (P : List ℕ → List ℕ → ℕ → Type 0) (f : List ℕ) (d : ℕ) (g : List ℕ) (e count : ℕ) (out out' : List ℕ) : Type 0 where
  pub same : length out' ≡ length out
  pub each : (i : ℕ) → i < count → P (piece d i f) (piece e i g) (coef out' i)
  pub beyond : (i : ℕ) → count ≤ i → coef out' i ≡ coef out i

-- all or nothing: a refusal writes nothing
abbrev pub BatchLeft : (List ℕ → List ℕ → ℕ → Type 0) → ℕ → List ℕ → ℕ → List ℕ → (e count : ℕ) → (out out' : List ℕ) → Type 0
BatchLeft P zero f d g e count out out' = Pairs P f d g e count out out'
BatchLeft P (suc s) f d g e count out out' = out' ≡ out

-- the value is 0: the words are the answer
pub record BatchAnswer (P : List ℕ → List ℕ → ℕ → Type 0) (W : Width) (n : ℕ) (f : List ℕ) (d : ℕ) (g : List ℕ) (e count : ℕ)
    (out out' work work' : List ℕ) (value status : ℕ) : Type 0 where
  pub status_is : status ≡ batch_status W n f d g e count (length out) (length work)
  pub value_is : value ≡ 0
  pub out_is : BatchLeft P status f d g e count out out'
  pub work_is : work' ≡ left status work

-- ---- what the tests mean

pub record ServedPieces (d count l : ℕ) : Type 0 where
  pub most : d ≤ 48
  pub words : l ≡ count * suc d

pub pieces_fail : (d count l : ℕ) → Fails (bad_pieces_of d count l) (ServedPieces d count l)
pieces_fail d count l =
    either_fails (short_fails 48 d) (equal_fails l (count * suc d)) (λ a b. record { most = a; words = b }) (λ s. s.most) (λ s. s.words)

-- the conditions of an answer: so `status_zero` and `status_is` (refusals/Conditions) say when the status is 0, and when it is k
abbrev pub batch_conditions : Width → ℕ → List ℕ → ℕ → List ℕ → (e count l m : ℕ) → List (Type 0)
batch_conditions W n f d g e count l m =
    ServedModulus W n ∷ ServedPieces d count (length f) ∷ ServedPieces e count (length g) ∷ Residues n f ∷ Residues n g ∷ (count ≤ l)
    ∷ (W.working ≤ m) ∷ []

pub batch_listed : (W : Width) (n : ℕ) (f : List ℕ) (d : ℕ) (g : List ℕ) (e count l m : ℕ)
    → Listed (batch_refusals W n f d g e count l m) (batch_conditions W n f d g e count l m)
batch_listed W n f d g e count l m = search (arith, tt, modulus_fails, pieces_fail, words_fail, short_fails) depth 20

pub record BatchServed (W : Width) (n : ℕ) (f : List ℕ) (d : ℕ) (g : List ℕ) (e count l m : ℕ) : Type 0 where
  pub modulus : ServedModulus W n
  pub first : ServedPieces d count (length f)
  pub second : ServedPieces e count (length g)
  pub residues_f : Residues n f
  pub residues_g : Residues n g
  pub out : count ≤ l
  pub working : W.working ≤ m

pub batch_served : (W : Width) (n : ℕ) (f : List ℕ) (d : ℕ) (g : List ℕ) (e count l m : ℕ) → batch_status W n f d g e count l m ≡ 0
    → BatchServed W n f d g e count l m
batch_served W n f d g e count l m h =
    let p = (status_zero (batch_refusals W n f d g e count l m) (batch_conditions W n f d g e count l m)
    (batch_listed W n f d g e count l m)).0 h in
    record {
      modulus = p.0;
      first = p.1.0;
      second = p.1.1.0;
      residues_f = p.1.1.1.0;
      residues_g = p.1.1.1.1.0;
      out = p.1.1.1.1.1.0;
      working = p.1.1.1.1.1.1.0;
    }
