-- Newlines, and an unfinished line that is kept in a buffer as far as it can be a frame. A text is the list of its characters; a
-- newline is 10.
--
--   has_newline t                    whether a newline stands in t
--   Clear p a r                      no newline stands in p from place a to place r
--   NewlineAt p a r                  r is the place of the first newline of p from place a on, or the length of p
--   Pending s h b                    the unfinished line s is kept: h counts its characters, up to 799, and they stand at the front of b
--   KeepsPending h b p r b'          whatever line is kept, the part p is kept after it
--   LineAfter h b b'                 what becomes of the buffer's words
use Rattle.std.specs.Prelude.{◌≡◌, refl, Bool, true, false, ◌||◌, List, [], ◌∷◌, ◌++◌, ℕ, min, ◌-◌, ◌≤◌, ◌<◌, length, get_or, take, drop, eqb}
use Rattle.std.proofs.Common.{sym, ap, ap₂, ◌∙◌, true≢false}

-- whether a newline stands in t
unfoldable pub has_newline : List ℕ → Bool
has_newline [] = false
has_newline (c ∷ t) = eqb c 10 || has_newline t

-- no newline stands in p from place a to place r
pub record Clear (p : List ℕ) (a r : ℕ) : Type 0 where
  pub least : a ≤ r
  pub most : r ≤ length p
  pub before : has_newline (take (r - a) (drop a p)) ≡ false

-- r is the place of the first newline of p from place a on, or the length of p
pub record NewlineAt (p : List ℕ) (a r : ℕ) : Type 0 where
  pub least : a ≤ r
  pub most : r ≤ length p
  pub before : has_newline (take (r - a) (drop a p)) ≡ false
  pub at : r < length p → get_or p r 0 ≡ 10

-- A line of more than 798 characters is no frame, whatever they are.
pub record Pending (s : List ℕ) (h : ℕ) (b : List ℕ) : Type 0 where
  pub single : has_newline s ≡ false
  pub count : h ≡ min (length s) 799
  pub kept : h ≤ 798 → take h b ≡ s

-- Whatever line is kept as h in b, the part p is kept after it as r in b'.
pub record KeepsPending (h : ℕ) (b p : List ℕ) (r : ℕ) (b' : List ℕ) : Type 0 where
  pub pending : (s : List ℕ) → Pending s h b → has_newline p ≡ false → Pending (s ++ p) r b'

-- The buffer of the pending line after a step or a part of one: h characters are kept, at most 799; the words from 798 on are as they were,
-- and those between are of no use.
pub record LineAfter (h : ℕ) (b b' : List ℕ) : Type 0 where
  pub most : h ≤ 799
  pub same : length b' ≡ length b
  pub beyond : drop 798 b' ≡ drop 798 b

-- ---- laws of newlines

-- neither of two tests
pub or_neither : (a b : Bool) → (a || b) ≡ false → (a ≡ false) × (b ≡ false)
or_neither true b h = absurd (true≢false h)
or_neither false b h = (refl, h)

or_assoc : (a b c : Bool) → ((a || b) || c) ≡ (a || (b || c))
or_assoc true b c = refl
or_assoc false b c = refl

pub has_newline_append : (s t : List ℕ) → has_newline (s ++ t) ≡ (has_newline s || has_newline t)
unfolding has_newline
has_newline_append [] t = refl
has_newline_append (c ∷ s) t =
    ap (λ (b : Bool). eqb c 10 || b) (has_newline_append s t) ∙ sym (or_assoc (eqb c 10) (has_newline s) (has_newline t))

pub none_in_either : (s t : List ℕ) → has_newline s ≡ false → has_newline t ≡ false → has_newline (s ++ t) ≡ false
none_in_either s t h k = has_newline_append s t ∙ ap₂ ◌||◌ h k
