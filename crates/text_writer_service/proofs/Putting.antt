-- Writing one part after another.
--
--   put_none, put_one, put_then, put_set     no character, one, a part after another, one character after a part
--   put_as                                   a part of which the characters are known under another name
--   Zeroed                                   zeros from place at up to i, the invariant of `put_zeros`
--   zeroing                                  its rules
use mathlib.Core.Path.{◌≡◌, refl, sym, ap, ap₂, ◌∙◌, subst}
use mathlib.Core.List.{List, [], ◌∷◌, ◌++◌, append_assoc}
use Prim.Native.Nat.{ℕ, suc, ◌+◌, ◌-◌, ◌≤◌, ◌<◌}
use native.Mathlib.Omega.{arith}
use borrow.Author.Rules.{rules}
use lib.ListN.{length, take, drop, set, replicate, length-append, length-drop, take-append-drop, replicate-append-replicate}
use lib.Seq.{length-take-le, take_at, drop_at, drop-drop, set_split}
use Rattle.text_writer_service.specs.Parts.{Put}

pub put_none : (at : ℕ) (o : List ℕ) → Put [] at at o o
put_none at o = record { end = omega arith; is = sym (take-append-drop at o) }

pub put_as : {s t : List ℕ} {at r : ℕ} {o o' : List ℕ} → s ≡ t → Put s at r o o' → Put t at r o o'
put_as {at = at} {r = r} {o = o} {o' = o'} e p = subst (λ (x : List ℕ). Put x at r o o') e p

pub put_one : (c at : ℕ) {r : ℕ} (o : List ℕ) → r ≡ at + 1 → at < length o → Put (c ∷ []) at r o (set o at c)
put_one c at {r} o er h =
    let e : suc at ≡ r = omega arith in
    record { end = er; is = set_split o at c h ∙ ap (λ (k : ℕ). take at o ++ c ∷ drop k o) e }

module _ {s : List ℕ} {at m : ℕ} {o w : List ℕ} (p : Put s at m o w) (fits : m ≤ length o) where
  front : length (take at o ++ s) ≡ m
  front = length-append (take at o) s ∙ ap (λ (k : ℕ). k + length s) (length-take-le at o (omega (arith, p.end))) ∙ sym p.end

  parts : w ≡ (take at o ++ s) ++ drop m o
  parts = p.is ∙ sym (append_assoc (take at o) s (drop m o))

  pub put_length : length w ≡ length o
  put_length = ap length parts ∙ length-append (take at o ++ s) (drop m o) ∙ omega (arith, front, length-drop m o)

  put_front : take m w ≡ take at o ++ s
  put_front = ap (take m) parts ∙ take_at (take at o ++ s) (drop m o) m front

  put_rest : (j : ℕ) → drop (m + j) w ≡ drop (m + j) o
  put_rest j =
      sym (drop-drop j m w) ∙ ap (drop j) (ap (drop m) parts ∙ drop_at (take at o ++ s) (drop m o) m front) ∙ drop-drop j m o

  pub put_then : {t : List ℕ} {r : ℕ} {v : List ℕ} → Put t m r w v → Put (s ++ t) at r o v
  put_then {t} {r} {v} q =
      let e : r ≡ m + length t = q.end in
      record {
        end = omega (arith, p.end, q.end, length-append s t);
        is = q.is
            ∙ ap₂ (λ (x y : List ℕ). x ++ (t ++ y)) put_front
            (ap (λ (k : ℕ). drop k w) e ∙ put_rest (length t) ∙ ap (λ (k : ℕ). drop k o) (sym e))
            ∙ append_assoc (take at o) s (t ++ drop r o)
            ∙ ap (λ (x : List ℕ). take at o ++ x) (sym (append_assoc s t (drop r o)));
      }

  pub put_set : (c : ℕ) {r : ℕ} → r ≡ m + 1 → m < length o → Put (s ++ c ∷ []) at r o (set w m c)
  put_set c e h = put_then (put_one c m w e (omega (arith, put_length)))

-- ---- zeros

pub record Zeroed (at end : ℕ) (o w : List ℕ) (i : ℕ) : Type 0 where
  pub from : at ≤ i
  pub most : i ≤ end
  pub put : Put (replicate (i - at) 0) at i o w
  pub same : length w ≡ length o

pub zeroed_none : (at end : ℕ) (o : List ℕ) → at ≤ end → Zeroed at end o o at
zeroed_none at end o h =
    let e : 0 ≡ at - at = omega arith in
    record { from = omega arith; most = h; put = put_as (ap (λ (k : ℕ). replicate k 0) e) (put_none at o); same = refl }

module _ {at end i : ℕ} {o w : List ℕ} (z : Zeroed at end o w i) where
  pub zeroed_next : {i' : ℕ} {w' : List ℕ} → end ≤ length o → i < end → w' ≡ set w i 0 → i' ≡ i + 1 → Zeroed at end o w' i'
  zeroed_next fit l ew ei =
      let e : i - at + 1 ≡ i + 1 - at = omega (arith, z.from) in
      let p = put_as (replicate-append-replicate (i - at) 1 0 ∙ ap (λ (k : ℕ). replicate k 0) e)
      (put_set z.put (omega arith) 0 refl (omega arith)) in
      rw (ew, ei) (record { from = omega (arith, z.from); most = omega arith; put = p; same = put_length p (omega arith) })

  pub zeroed_end : end ≤ i → Put (replicate (end - at) 0) at end o w
  zeroed_end h = let e : i ≡ end = omega (arith, z.most) in rw e at z.put

pub ruleset zeroing = (rules, zeroed_none, zeroed_next, zeroed_end)
