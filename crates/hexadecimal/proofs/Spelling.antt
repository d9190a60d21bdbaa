-- Reading and writing one character at a time.
--
--   Spelling t i x             the first i characters of t are digits and spell x
--   Spelled s at count i x     the same of the count characters of s from place at on
--   Writing k x at w₀ i y w    of the k digits of x, all but the first i stand in w from place at on; those are the i digits of y
--   spells, writes             the rules
use mir.Syntax.{w32}
use mir.Val.{Fits}
use borrow.Author.Rules.{rules}
use mathlib.Core.Path.{◌≡◌, refl, sym, ap, ap₂, ◌∙◌, subst}
use mathlib.Core.Bool.{Bool, true, false, ◌&&◌, and-false}
use mathlib.Core.List.{List, [], ◌∷◌, ◌++◌, append_assoc}
use Prim.Native.Nat.{ℕ, suc, ◌+◌, ◌-◌, ◌*◌, ◌/◌, ◌%◌, ◌^◌, ◌<◌, ◌≤◌}
use native.Mathlib.Omega.{arith}
use native.Mathlib.Nat.{mul-le-mul}
use native.Mathlib.Numerals.{add-one}
use lib.ListN.{length, get_or, take, drop, set, length-drop, length-set, take-append-drop}
use lib.Dec.{ltb}
use lib.Seq.{take-suc, take_all, split_at, length-take-le, get_or-take, get_or-drop, take-set-le, drop-cons, drop-set-lt, get_or-set_same}
use lib.Seq.{take-take}
use borrow.Author.Tests.{lt-ltb, le-ltb}
use Rattle.hexadecimal.specs.Hexadecimal.{digit_of, all_digits, spelled, number_of, character_of, digits_of}
use Rattle.std.specs.Prelude.{Some, None}
use Rattle.hexadecimal.specs.Readings.{if_digits, reading_of}
use Rattle.hexadecimal.specs.DigitLaws.{all_digits_append, number_snoc, number_below}
use Rattle.hexadecimal.proofs.Values.{values, digit_low, digit_high, value_at, value_is}

-- the count characters of s from at on
part_length : (s : List ℕ) (at count : ℕ) → at + count ≤ length s → length (take count (drop at s)) ≡ count
part_length s at count h = length-take-le count (drop at s) (omega (arith, length-drop at s))

part_at : (s : List ℕ) (at count i : ℕ) → i < count → get_or (take count (drop at s)) i 0 ≡ get_or s (at + i) 0
part_at s at count i h = get_or-take count (drop at s) i 0 h ∙ get_or-drop at s i 0

pub record Spelling (t : List ℕ) (i x : ℕ) : Type 0 where
  pub good : all_digits (take i t) ≡ true
  pub value : number_of (take i t) ≡ x

pub spelling_none : (t : List ℕ) → Spelling t 0 0
unfolding all_digits spelled
spelling_none t = record { good = refl; value = refl }

pub spelling_step : {t : List ℕ} {i x : ℕ} (v : ℕ) → i < length t → digit_of (get_or t i 0) ≡ v → v < 16 → Spelling t i x
    → Spelling t (i + 1) (x * 16 + v)
unfolding all_digits
spelling_step {t} {i} {x} v h e l p =
    let c = get_or t i 0 in
    let e₁ : take (i + 1) t ≡ take i t ++ c ∷ [] = rw (add-one i) (take-suc t i 0 h) in
    record {
      good = ap all_digits e₁ ∙ all_digits_append (take i t) (c ∷ [])
          ∙ ap₂ (λ (a b : Bool). a && (b && true)) p.good (ap (λ (y : ℕ). ltb y 16) e ∙ lt-ltb v 16 l);
      value = ap number_of e₁ ∙ number_snoc (take i t) c ∙ ap₂ (λ (a b : ℕ). a * 16 + b) p.value e;
    }

-- a character that is no digit
pub spelling_stop : (t : List ℕ) (i v : ℕ) → i < length t → digit_of (get_or t i 0) ≡ v → 15 < v → all_digits t ≡ false
unfolding all_digits
spelling_stop t i v h e l =
    ap all_digits (split_at t i 0 h)
    ∙ all_digits_append (take i t) (get_or t i 0 ∷ drop (suc i) t)
    ∙ ap (λ (b : Bool). all_digits (take i t) && (b && all_digits (drop (suc i) t))) (ap (λ (y : ℕ). ltb y 16) e ∙ le-ltb v 16 l)
    ∙ and-false (all_digits (take i t))

pub spelling_end : {t : List ℕ} {i x : ℕ} → length t ≤ i → Spelling t i x → (all_digits t ≡ true) × (number_of t ≡ x)
spelling_end {t} {i} {x} h p = let e = take_all i t h in (ap all_digits (sym e) ∙ p.good, ap number_of (sym e) ∙ p.value)

pub spelling_below : {t : List ℕ} {i x : ℕ} (k : ℕ) → i ≤ k → i ≤ length t → Spelling t i x → x < 16 ^ k
spelling_below {t} {i} {x} k h l p =
    subst (λ (y : ℕ). y < 16 ^ k) p.value (number_below (take i t) k p.good (omega (arith, length-take-le i t l)))

-- the same of the count characters of s from place at on
pub record Spelled (s : List ℕ) (at count i x : ℕ) : Type 0 where
  pub most : i ≤ count
  pub is : Spelling (take count (drop at s)) i x

pub spelled_none : (s : List ℕ) (at count : ℕ) → Spelled s at count 0 0
spelled_none s at count = record { most = omega arith; is = spelling_none (take count (drop at s)) }

module _ (s : List ℕ) (at count : ℕ) (fits : at + count ≤ length s) where
  part_stop : (i v : ℕ) → i < count → v ≡ digit_of (get_or s (at + i) 0) → 15 < v → None ≡ reading_of (take count (drop at s))
  part_stop i v h e l =
      ap (λ (b : Bool). if_digits b (number_of (take count (drop at s))))
      (sym (spelling_stop (take count (drop at s)) i v (omega (arith, part_length s at count fits))
      (ap digit_of (part_at s at count i h) ∙ sym e) l))

  pub stop_low : (i : ℕ) → i < count → get_or s (at + i) 0 < 48 → None ≡ reading_of (take count (drop at s))
  stop_low i h l = part_stop i 16 h (digit_low (get_or s (at + i) 0) l) (omega arith)

  pub stop_high : (i : ℕ) → i < count → 102 < get_or s (at + i) 0 → None ≡ reading_of (take count (drop at s))
  stop_high i h l = part_stop i 16 h (digit_high (get_or s (at + i) 0) l) (omega arith)

  pub stop_between : (i : ℕ) → i < count → 48 ≤ get_or s (at + i) 0 → get_or s (at + i) 0 ≤ 102
      → 15 < get_or values (get_or s (at + i) 0 - 48) 0 - 48 → None ≡ reading_of (take count (drop at s))
  stop_between i h l m k = part_stop i _ h (value_is (get_or s (at + i) 0) l m) k

  pub spelled_next : {i i' x x' : ℕ} → Spelled s at count i x → i < count → 48 ≤ get_or s (at + i) 0 → get_or s (at + i) 0 ≤ 102
      → get_or values (get_or s (at + i) 0 - 48) 0 - 48 ≤ 15 → x' ≡ x * 16 + (get_or values (get_or s (at + i) 0 - 48) 0 - 48) → i' ≡ i + 1
      → Spelled s at count i' x'
  spelled_next {i} p h l m k ex ei =
      rw (ex, ei) (record {
        most = omega arith;
        is = spelling_step _ (omega (arith, part_length s at count fits))
            (ap digit_of (part_at s at count i h) ∙ sym (value_is (get_or s (at + i) 0) l m)) (omega arith) p.is;
      })

  pub spelled_end : {i x : ℕ} → Spelled s at count i x → count ≤ i → Some x ≡ reading_of (take count (drop at s))
  spelled_end p h =
      let e = spelling_end (omega (arith, part_length s at count fits)) p.is in
      ap₂ if_digits (sym e.0) (sym e.1)

  part_below : {i x : ℕ} → Spelled s at count i x → count ≤ 8 → i < count → x < 16 ^ 7
  part_below p e h = spelling_below 7 (omega arith) (omega (arith, part_length s at count fits)) p.is

  scaled_most : {i x : ℕ} (k : ℕ) → Spelled s at count i x → count ≤ 8 → i < count → k ≤ 16 → x * k ≤ 268435455 * 16
  scaled_most {x = x} k p e h l =
      mul-le-mul {n₁ = x} {m₁ = k} {n₂ = 268435455} {m₂ = 16} (omega (arith, part_below p e h)) l

  pub scaled_fit : {i x : ℕ} (k : ℕ) → Spelled s at count i x → count ≤ 8 → i < count → k ≤ 16 → Fits w32 (x * k)
  scaled_fit k p e h l = record { fits = omega (arith, scaled_most k p e h l) }

  pub sum_fits : {i x : ℕ} (k v : ℕ) → Spelled s at count i x → count ≤ 8 → i < count → k ≤ 16 → v ≤ 15 → Fits w32 (x * k + v)
  sum_fits k v p e h l m = record { fits = omega (arith, scaled_most k p e h l) }

pub value_enough : (c : ℕ) → 48 ≤ c → c ≤ 102 → 48 ≤ get_or values (c - 48) 0
value_enough c l m = omega (arith, value_at c l m)

pub ruleset spells = (rules, spelled_none, stop_low, stop_high, stop_between, spelled_next, spelled_end, scaled_fit, sum_fits, value_enough)

pub record Writing (k x at : ℕ) (w₀ : List ℕ) (i y : ℕ) (w : List ℕ) : Type 0 where
  pub most : i ≤ k
  pub same : length w ≡ length w₀
  pub low : take (at + i) w ≡ take (at + i) w₀
  pub high : digits_of i y ++ drop (at + i) w ≡ digits_of k x ++ drop (at + k) w₀

pub writing_none : (k x at : ℕ) (w₀ : List ℕ) → Writing k x at w₀ k x w₀
writing_none k x at w₀ = record { most = omega arith; same = refl; low = refl; high = refl }

pub writing_next : {k x at i i' y y' : ℕ} {w₀ w w' : List ℕ} (c : ℕ) → Writing k x at w₀ i y w → at + k ≤ length w₀ → 0 < i
    → c ≡ character_of (y % 16) → w' ≡ set w (at + (i - 1)) c → i' ≡ i - 1 → y' ≡ y / 16 → Writing k x at w₀ i' y' w'
unfolding digits_of
writing_next {k} {x} {at} {i} {i'} {y} {y'} {w₀} {w} c p fit h e ew ei ey =
    let j = i - 1 in
    let q = at + j in
    let e₁ : i ≡ suc j = omega arith in
    let e₂ : at + i ≡ suc q = omega arith in
    let w' = set w q c in
    let lq : q < length w' = omega (arith, length-set w q c, p.same, p.most) in
    let after : drop (suc q) w' ≡ drop (at + i) w = drop-set-lt (suc q) w q c (omega arith) ∙ ap (λ (a : ℕ). drop a w) (sym e₂) in
    let own : get_or w' q 0 ≡ c = get_or-set_same w q c 0 (omega (arith, p.same, p.most)) in
    let d : drop q w' ≡ c ∷ drop (at + i) w = drop-cons w' q 0 lq ∙ ap₂ (λ (a : ℕ) (b : List ℕ). a ∷ b) own after in
    rw (ew, ei, ey) (record {
      most = omega (arith, p.most);
      same = length-set w q c ∙ p.same;
      low = take-set-le q w q c (omega arith) ∙ sym (take-take q (at + i) w (omega arith)) ∙ ap (take q) p.low
          ∙ take-take q (at + i) w₀ (omega arith);
      high = ap (λ (a : List ℕ). digits_of j (y / 16) ++ a) (d ∙ ap (λ (a : ℕ). a ∷ drop (at + i) w) e)
          ∙ sym (append_assoc (digits_of j (y / 16)) (character_of (y % 16) ∷ []) (drop (at + i) w))
          ∙ ap (λ (a : ℕ). digits_of a y ++ drop (at + i) w) (sym e₁)
          ∙ p.high;
    })

pub writing_end : {k x at i y : ℕ} {w₀ w : List ℕ} → Writing k x at w₀ i y w → i ≤ 0
    → w ≡ take at w₀ ++ (digits_of k x ++ drop (at + k) w₀)
unfolding digits_of
writing_end {k} {x} {at} {i} {y} {w₀} {w} q h =
    let z : i ≡ 0 = omega arith in
    let p = rw z at q in
    let e : at + 0 ≡ at = omega arith in
    sym (take-append-drop at w)
    ∙ ap₂ ◌++◌ (ap (λ (a : ℕ). take a w) (sym e) ∙ p.low ∙ ap (λ (a : ℕ). take a w₀) e) (ap (λ (a : ℕ). drop a w) (sym e) ∙ p.high)

pub ruleset writes = (rules, writing_none, writing_next, writing_end)
