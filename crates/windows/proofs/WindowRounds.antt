-- What a round of each leaf keeps, at any width. A rule's premises are facts as a leaf's code hands them over, so that
-- `search leaves` finds them; its conclusion shows the words and the place after the round as variables, with an equation for each.
--
--   Moving, Writing, Pairing, Dividing    the invariants, with a round of each
--   leaves, masked                        the rules; `masked` where n is a power of two, or is asked for one
use mathlib.Core.Path.{◌≡◌, refl, sym, ap, subst, ◌∙◌}
use mathlib.Core.Bool.{Bool, true}
use mathlib.Core.List.{List}
use Prim.Native.Nat.{ℕ, ◌+◌, ◌-◌, ◌*◌, ◌%◌, ◌≤◌, ◌<◌}
use native.Mathlib.Nat.{add-zero, zero-add}
use native.Mathlib.Omega.{arith}
use borrow.Author.Rules.{rules}
use lib.ListN.{length, get_or, set}
use Rattle.law_numbers.specs.Divisors.{IsGcd}
use Rattle.reduction.specs.Powers.{PowerOfTwo, PowerTest}
use Rattle.reduction.proofs.Reciprocals.{modulo}
use Rattle.definitions.specs.Polynomials.{coef}
use Rattle.windows.specs.Window.{Moved, Clear, Apart, Written}
use Rattle.windows.specs.Window.{Paired, PairAsked, behind, Content, addMul, mulBy}
use Rattle.windows.proofs.Leaf.{moved_step, written_none, written_step, written_source}
use Rattle.windows.proofs.Pairs.{paired_step, source, next_behind}
use Rattle.windows.proofs.Contents.{Common, common_step, common_one}

-- ---- words made of those of another window

pub record Moving (op : ℕ → ℕ → ℕ) (src dst len : ℕ) (w₀ w : List ℕ) (j : ℕ) : Type 0 where
  pub most : j ≤ len
  pub done : Moved op src dst j w₀ w

module _ {op : ℕ → ℕ → ℕ} {src dst len j j' : ℕ} {w₀ w w' : List ℕ} (m : Moving op src dst len w₀ w j) (free : Clear src dst len)
    (fit : dst + len ≤ length w₀) (l : j < len) where
  pub moving_next : w' ≡ set w (dst + j) (op (get_or w (dst + j) 0) (get_or w (src + j) 0)) → j' ≡ j + 1 → Moving op src dst len w₀ w' j'
  moving_next ew ej = rw (ew, ej) (record { most = omega arith; done = moved_step m.done free l (omega arith) refl })

  -- a word that was found modulo a, which is n
  pub moving_by : (a n r x : ℕ) → r ≡ x % a → a ≡ n → w' ≡ set w (dst + j) r → x % n ≡ op (get_or w (dst + j) 0) (get_or w (src + j) 0)
      → j' ≡ j + 1 → Moving op src dst len w₀ w' j'
  moving_by a n r x er ea ew ex ej = moving_next (ew ∙ ap (set w (dst + j)) (modulo x ea er ∙ ex)) ej

-- a window that is made of itself
pub clear_own : (a len : ℕ) → Clear a a len
clear_own a len = record { ok = λ i j l h q. omega arith }

-- ---- words known by their place

pub record Writing (F : ℕ → ℕ) (dst len : ℕ) (w₀ w : List ℕ) (j : ℕ) : Type 0 where
  pub most : j ≤ len
  pub done : Written F dst j w₀ w

pub writing_none : (F : ℕ → ℕ) (dst len : ℕ) (w : List ℕ) → Writing F dst len w w 0
writing_none F dst len w = record { most = omega arith; done = written_none _ _ _ }

pub writing_end : {F : ℕ → ℕ} {dst len j : ℕ} {w₀ w : List ℕ} → Writing F dst len w₀ w j → len ≤ j → Written F dst len w₀ w
writing_end {F} {dst} {len} {j} m h = let e : j ≡ len = omega arith in rw e at m.done

module _ {F : ℕ → ℕ} {dst len j j' : ℕ} {w₀ w w' : List ℕ} (m : Writing F dst len w₀ w j) (fit : dst + len ≤ length w₀) (l : j < len) where
  pub writing_next : (v : ℕ) → v ≡ F j → w' ≡ set w (dst + j) v → j' ≡ j + 1 → Writing F dst len w₀ w' j'
  writing_next v e ew ej = rw (ew, ej) (record { most = omega arith; done = written_step m.done (omega arith) e })

abbrev pub backwards : List ℕ → ℕ → ℕ → ℕ → ℕ
backwards w src len k = get_or w (src + (len - 1 - k)) 0

pub backwards_next : {src dst len j j' : ℕ} {w₀ w w' : List ℕ} → Writing (backwards w₀ src len) dst len w₀ w j → Apart src len dst len
    → dst + len ≤ length w₀ → j < len → w' ≡ set w (dst + j) (backwards w src len j) → j' ≡ j + 1
    → Writing (backwards w₀ src len) dst len w₀ w' j'
backwards_next m free fit l ew ej = writing_next m fit l _ (written_source m.done _ _ free m.most _ (omega arith)) ew ej

abbrev pub residues : List ℕ → ℕ → ℕ → ℕ
residues f n k = get_or f k 0 % n

-- ---- two words at a time

pub record Pairing (n c m src dst len : ℕ) (w₀ w : List ℕ) (j y : ℕ) : Type 0 where
  pub most : j ≤ len
  pub done : Paired n c m src dst j w₀ w
  pub before : y ≡ behind (λ (k : ℕ). get_or w₀ (src + k) 0) j

module _ {n c m src dst len j y : ℕ} {w₀ w : List ℕ} (p : Pairing n c m src dst len w₀ w j y) (asked : PairAsked n m src dst len w₀)
    (l : j < len) where
  pub pairing_next : {j' y' : ℕ} {w' : List ℕ} (r : ℕ) → r ≡ (get_or w (dst + j) 0 + c * y + m * get_or w (src + j) 0) % n
      → w' ≡ set w (dst + j) r → y' ≡ get_or w (src + j) 0
      → j' ≡ j + 1 → Pairing n c m src dst len w₀ w' j' y'
  pairing_next r er ew ey ej =
      rw (ew, ej, ey) (record {
        most = omega arith;
        done = paired_step p.done asked.apart l (omega (arith, asked.target)) p.before er;
        before = source p.done asked.apart p.most j l ∙ sym (next_behind (λ (k : ℕ). get_or w₀ (src + k) 0) j);
      })

  pub pairing_by : {j' y' : ℕ} {w' : List ℕ} (a r : ℕ) → a ≡ n → r ≡ (get_or w (dst + j) 0 + c * y + m * get_or w (src + j) 0) % a
      → w' ≡ set w (dst + j) r
      → y' ≡ get_or w (src + j) 0 → j' ≡ j + 1 → Pairing n c m src dst len w₀ w' j' y'
  pairing_by a r ea er ew ey ej = pairing_next r (modulo _ ea er) ew ey ej

-- ---- what is read

pub record Dividing (n : ℕ) (s : List ℕ) (c j : ℕ) : Type 0 where
  pub most : j ≤ length s
  pub done : Common n s j c

pub dividing_next : {n c c' j j' : ℕ} {s : List ℕ} → Dividing n s c j → j < length s → IsGcd (coef s j) c c' → j' ≡ j + 1
    → Dividing n s c' j'
dividing_next p l g ej = rw ej (record { most = omega arith; done = common_step p.done g })

pub dividing_one : {n c j : ℕ} {s : List ℕ} → Dividing n s c j → c ≡ 1 → Content n s 1
dividing_one p e = common_one p.most e p.done

-- ---- powers of two

pub power_told : {n : ℕ} {r : Bool} → r ≡ true → PowerTest n r → PowerOfTwo n
power_told {n} e t = subst (PowerTest n) e t

module _ (n c : ℕ) {src dst len j j' : ℕ} {w₀ w w' : List ℕ} (free : Clear src dst len) (fit : dst + len ≤ length w₀) (l : j < len) where
  pub added_masked : (r : ℕ) → Moving (addMul n c) src dst len w₀ w j
      → r ≡ (get_or w (dst + j) 0 + c * get_or w (src + j) 0 + 0 * 0) % n → w' ≡ set w (dst + j) r → j' ≡ j + 1
      → Moving (addMul n c) src dst len w₀ w' j'
  added_masked r m er ew ej = moving_by m free fit l n n r _ er refl ew (ap (λ (z : ℕ). z % n) (add-zero _)) ej

  pub scaled_masked : (r : ℕ) → Moving (mulBy n c) src dst len w₀ w j → r ≡ (0 + c * get_or w (src + j) 0 + 0 * 0) % n
      → w' ≡ set w (dst + j) r → j' ≡ j + 1 → Moving (mulBy n c) src dst len w₀ w' j'
  scaled_masked r m er ew ej = moving_by m free fit l n n r _ er refl ew (ap (λ (z : ℕ). z % n) (add-zero _ ∙ zero-add _)) ej

pub ruleset leaves = (rules, moving_next, moving_by, clear_own, writing_next, backwards_next, pairing_next, pairing_by, dividing_next, dividing_one)

pub ruleset masked = (leaves, power_told, added_masked, scaled_masked)
