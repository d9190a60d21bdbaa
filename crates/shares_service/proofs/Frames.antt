-- The frames of a run, one after the other, and the planner's answer.
--
--   Handed n w s i                i of n frames are given out and s is left, where w waited: the invariant of `shares`
--   framing                       the rules
--   too_few, too_many, refused_shares     n out of the range
use mathlib.Core.Path.{◌≡◌, refl, sym, ap, subst, ◌∙◌}
use mathlib.Core.Bool.{true, false}
use mathlib.Core.List.{List, [], ◌∷◌}
use Prim.Native.Nat.{ℕ, zero, suc, ◌+◌, ◌≤◌, ◌<◌}
use native.Mathlib.Numerals.{add-one}
use native.Mathlib.Omega.{arith}
use mir.Syntax.{w32}
use mir.Val.{Fits}
use borrow.Author.Rules.{rules}
use lib.Dec.{T, ltb, leb, leb→le, ltb→lt}
use lib.ListN.{get_or}
use borrow.Author.Tests.{lt-ltb, le-ltb}
use Rattle.refusals.proofs.Statuses.{row_applies, row_passes}
use Rattle.shares_service.specs.GivingOut.{Giving, giving, give_frame_of, give_frames}
use Rattle.shares_service.specs.SharesService.{bad_frames, SharesAnswer}
use Rattle.shares_service.specs.GivingLaws.{after}

pub record Handed (n : ℕ) (w : List ℕ) (s : Giving) (i : ℕ) : Type 0 where
  pub most : i ≤ n
  pub so : s ≡ give_frames i (giving 0 w (0 ∷ 0 ∷ 0 ∷ 0 ∷ []))

pub handed_none : (n : ℕ) (w : List ℕ) → Handed n w (giving 0 w (0 ∷ 0 ∷ 0 ∷ 0 ∷ [])) 0
unfolding give_frames
handed_none n w = record { most = omega arith; so = refl }

pub handed_next : {n i i' : ℕ} {w : List ℕ} {s r : Giving} → Handed n w s i → i < n → r ≡ give_frame_of s → i' ≡ i + 1 → Handed n w r i'
unfolding give_frames
handed_next {i = i} h l e ei = rw ei (record { most = omega arith; so = e ∙ ap give_frame_of h.so ∙ rw (add-one i) })

words_at : (a b c d : ℕ) → a < 4294967296 → b < 4294967296 → c < 4294967296 → d < 4294967296
    → (i : ℕ) → get_or (a ∷ b ∷ c ∷ d ∷ []) i 0 < 4294967296
words_at a b c d p q r s zero = p
words_at a b c d p q r s (suc zero) = q
words_at a b c d p q r s (suc (suc zero)) = r
words_at a b c d p q r s (suc (suc (suc zero))) = s
words_at a b c d p q r s (suc (suc (suc (suc i)))) = omega arith

-- what the next frame requires
module _ {n a b c d t i : ℕ} {w g : List ℕ} (h : Handed n (a ∷ b ∷ c ∷ d ∷ []) (giving t w g) i) where
  ready : ((giving t w g).turn < 4) × ((j : ℕ) → get_or w j 0 + get_or g j 0 ≡ get_or (a ∷ b ∷ c ∷ d ∷ []) j 0)
  ready =
      let k = after i (a ∷ b ∷ c ∷ d ∷ []) refl in
      subst (λ (s : Giving). (s.turn < 4) × ((j : ℕ) → get_or s.waiting j 0 + get_or s.given j 0 ≡ get_or (a ∷ b ∷ c ∷ d ∷ []) j 0))
      (sym h.so) (omega arith, k.kept)

  pub ready_turn : t < 4
  ready_turn = ready.0

  pub ready_words : Fits w32 a → Fits w32 b → Fits w32 c → Fits w32 d → (j : ℕ) → get_or w j 0 + get_or g j 0 < 4294967296
  ready_words p q r s j = omega (arith, ready.1 j, words_at a b c d p.fits q.fits r.fits s.fits j)

pub answered_shares : {n t i : ℕ} {w x g : List ℕ} → Handed n w (giving t x g) i → 1 ≤ n → ltb 1024 n ≡ false → n ≤ i → SharesAnswer n w g 0
answered_shares {n} {t} {i} {w} h l m z =
    let e : i ≡ n = omega (arith, h.most) in
    record {
      status_is = row_passes 15 (bad_frames n) [] 0 (rw (le-ltb n 1 l) m) refl;
      share_is = ap (λ (s : Giving). s.given) h.so ∙ ap (λ (k : ℕ). (give_frames k (giving 0 w (0 ∷ 0 ∷ 0 ∷ 0 ∷ []))).given) e;
    }

pub too_few : (n : ℕ) → n < 1 → bad_frames n ≡ true
too_few n l = rw (lt-ltb n 1 l)

pub too_many : (k n : ℕ) → T (leb 1024 k) → 1 ≤ n → ltb k n ≡ true → bad_frames n ≡ true
too_many k n t l m = rw (le-ltb n 1 l) (lt-ltb 1024 n (omega (arith, leb→le 1024 k t, ltb→lt k n (subst T (sym m) tt))))

pub refused_shares : (n : ℕ) (w : List ℕ) → bad_frames n ≡ true → SharesAnswer n w (0 ∷ 0 ∷ 0 ∷ 0 ∷ []) 15
refused_shares n w e = record { status_is = row_applies 14 (bad_frames n) [] e; share_is = refl }

pub ruleset framing = (rules, handed_none, handed_next, ready_turn, ready_words, answered_shares)
