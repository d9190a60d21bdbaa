-- Eight characters at once: what is done to a number of eight bytes is done to each of them, as long as none passes 255.
--
--   each f t                  the values of f at the characters t, as one number
--   and_each, add_each        `&`, and `+` with `*`, of such numbers
--   mask, masked              a number of eight equal bytes, and what `&` with it leaves of the characters
--   upto, looked_up           a test that holds of every character
--   letter, value, ten        what is done to one character: see `word` in src
--   tested, wanted            the two sides of the test
--   digits_all, digits_not    the test tells digits from other characters, and then the values are theirs
--   byte_at, packed_eight     a byte of a number; eight values as one number
--   eights                    the rules
use mathlib.Core.Path.{◌≡◌, refl, sym, ap, ap₂, ◌∙◌, subst}
use mathlib.Core.Bool.{Bool, true, false, cond, not, ◌&&◌, and-false}
use mathlib.Core.List.{List, [], ◌∷◌, ◌++◌}
use Prim.Native.Nat.{ℕ, zero, suc, ◌+◌, ◌*◌, ◌/◌, ◌%◌, ◌<◌, ◌≤◌}
use native.Mathlib.Omega.{arith}
use native.Mathlib.Decide.{ℕ_discrete}
use lib.Arith.{digits_div, digits_mod}
use lib.ListN.{length, take, drop, length-drop}
use lib.Seq.{drop-drop, take-add, length-take-le}
use lib.Dec.{ltb, eqb}
use lib.Bits.{bit_and, and_block, and_le_r}
use borrow.Author.Rules.{rules}
use borrow.Author.Tests.{eqb-true, eq-eqb, ne_eqb, ltb-true, not-true}
use Rattle.hexadecimal.specs.Hexadecimal.{digit_of, all_digits, spelled, number_of}
use Rattle.hexadecimal.specs.Joining.{joined, Bytes, Joined, packed_of}
use Rattle.std.specs.Prelude.{Some, None}
use Rattle.hexadecimal.specs.Readings.{if_digits, reading_of}
use Rattle.hexadecimal.specs.DigitLaws.{and_both}

-- ---- characters joined

-- x, that many bytes higher
abbrev higher : ℕ → ℕ → ℕ
higher x zero = x
higher x (suc k) = higher x k * 256

joined_append : (t u : List ℕ) → joined (t ++ u) ≡ higher (joined u) (length t) + joined t
joined_append [] u = omega arith
joined_append (c ∷ t) u = omega (arith, joined_append t u)

bytes_append : (t u : List ℕ) → Bytes t → Bytes u → Bytes (t ++ u)
bytes_append [] u p q = q
bytes_append (c ∷ t) u p q = (p.0, bytes_append t u p.1 q)

pub eight_joined : (s : List ℕ) (at x y r : ℕ) → at + 8 ≤ length s → Joined (take 4 (drop at s)) x
    → Joined (take 4 (drop (at + 4) s)) y → r ≡ x + y * 4294967296 → Joined (take 8 (drop at s)) r
eight_joined s at x y r h kx ky e =
    let t = take 4 (drop at s) in
    let u = take 4 (drop (at + 4) s) in
    let cut : take 8 (drop at s) ≡ t ++ u = take-add 4 4 (drop at s) ∙ ap (λ (v : List ℕ). t ++ take 4 v) (drop-drop 4 at s) in
    let l : length t ≡ 4 = length-take-le 4 (drop at s) (omega (arith, length-drop at s)) in
    subst (λ (v : List ℕ). Joined v r) (sym cut)
    (record {
      is = omega (arith, kx.is, ky.is, joined_append t u ∙ ap (λ (k : ℕ). higher (joined u) k + joined t) l);
      bytes = bytes_append t u kx.bytes ky.bytes;
    })

-- ---- what is done to each byte

unfoldable pub each : (ℕ → ℕ) → List ℕ → ℕ
each f [] = 0
each f (c ∷ t) = each f t * 256 + f c

abbrev pub own : ℕ → ℕ
own c = c

pub each_own : (t : List ℕ) → joined t ≡ each own t
unfolding each
each_own [] = refl
each_own (c ∷ t) = ap (λ (x : ℕ). x * 256 + c) (each_own t)

pub and_each : (f : ℕ → ℕ) (m : ℕ) (t : List ℕ) → ((c : ℕ) → c < 256 → f c < 256) → m < 256 → Bytes t
    → bit_and (each f t) (each (λ (c : ℕ). m) t) ≡ each (λ (c : ℕ). bit_and (f c) m) t
unfolding each
and_each f m [] h l b = refl
and_each f m (c ∷ t) h l b =
    and_block 8 (each f t) (each (λ (c : ℕ). m) t) (f c) m (h c b.0) l
    ∙ ap (λ (x : ℕ). x * 256 + bit_and (f c) m) (and_each f m t h l b.1)

pub add_each : (f g : ℕ → ℕ) (k : ℕ) (t : List ℕ) → each f t + each g t * k ≡ each (λ (c : ℕ). f c + g c * k) t
unfolding each
add_each f g k [] = omega arith
add_each f g k (c ∷ t) = omega (arith, add_each f g k t)

pub same_each : (f g : ℕ → ℕ) (t : List ℕ) → ((c : ℕ) → c < 256 → f c ≡ g c) → Bytes t → each f t ≡ each g t
unfolding each
same_each f g [] h b = refl
same_each f g (c ∷ t) h b = ap₂ (λ (x y : ℕ). x * 256 + y) (same_each f g t h b.1) (h c b.0)

abbrev ones : ℕ → ℕ
ones zero = 0
ones (suc k) = ones k * 256 + 1

equal_bytes : (m : ℕ) (t : List ℕ) → each (λ (c : ℕ). m) t ≡ m * ones (length t)
unfolding each
equal_bytes m [] = omega arith
equal_bytes m (c ∷ t) = omega (arith, equal_bytes m t)

-- the same byte eight times
pub mask : (m : ℕ) (t : List ℕ) → length t ≡ 8 → each (λ (c : ℕ). m) t ≡ m * 72340172838076673
mask m t l = equal_bytes m t ∙ ap (λ (k : ℕ). m * ones k) l

-- ---- what is done to one character, looked up for each

upto : ℕ → (ℕ → Bool) → Bool
upto zero p = true
upto (suc k) p = p k && upto k p

upto_at : (k : ℕ) (p : ℕ → Bool) → upto k p ≡ true → (c : ℕ) → c < k → p c ≡ true
unfolding upto
upto_at zero p h c l = absurd (omega arith)
upto_at (suc k) p h c l = elim (ℕ_discrete c k) [
  | yes e ↦ ap p e ∙ (and_both (p k) (upto k p) h).0
  | no n ↦ upto_at k p (and_both (p k) (upto k p) h).1 c (omega arith)
]

abbrev pub letter : ℕ → ℕ
letter c = bit_and c 64 / 64

abbrev unit : ℕ → ℕ
unit c = bit_and c 15 + letter c * 9

abbrev pub value : ℕ → ℕ
value c = bit_and (unit c) 15

abbrev raised : ℕ → ℕ
raised c = value c + 1 * 6

abbrev pub ten : ℕ → ℕ
ten c = bit_and (raised c) 16 / 16

abbrev pub tested : ℕ → ℕ
tested c = bit_and c 240 + ten c * 1

abbrev pub wanted : ℕ → ℕ
wanted c = 48 + letter c * 49

module _ (c : ℕ) (l : c < 256) where
  unit_below : unit c < 256
  unit_below = omega (arith, and_le_r c 15, and_le_r c 64)

  raised_below : raised c < 256
  raised_below = omega (arith, and_le_r (unit c) 15)

  tested_below : tested c < 256
  tested_below = omega (arith, and_le_r c 240, and_le_r (raised c) 16)

  wanted_below : wanted c < 256
  wanted_below = omega (arith, and_le_r c 64)

  looked_up : (p : ℕ → Bool) → upto 256 p ≡ true → p c ≡ true
  looked_up p h = upto_at 256 p h c l

  letter_whole : bit_and c 64 ≡ 0 + letter c * 64
  unfolding upto
  letter_whole = eqb-true _ _ (looked_up (λ (c : ℕ). eqb (bit_and c 64) (0 + letter c * 64)) refl)

  ten_whole : bit_and (raised c) 16 ≡ 0 + ten c * 16
  unfolding upto
  ten_whole = eqb-true _ _ (looked_up (λ (c : ℕ). eqb (bit_and (raised c) 16) (0 + ten c * 16)) refl)

  digit_right : tested c ≡ wanted c → (ltb (digit_of c) 16 ≡ true) × (value c ≡ digit_of c)
  unfolding upto
  digit_right e =
      let right : ℕ → Bool = λ (c : ℕ). cond (eqb (tested c) (wanted c)) (ltb (digit_of c) 16 && eqb (value c) (digit_of c)) true in
      let b = and_both _ _ (ap (λ (x : Bool). cond x (ltb (digit_of c) 16 && eqb (value c) (digit_of c)) true)
      (sym (eq-eqb (tested c) (wanted c) e)) ∙ looked_up right refl) in
      (b.0, eqb-true _ _ b.1)

  digit_wrong : (tested c ≡ wanted c → ⊥) → ltb (digit_of c) 16 ≡ false
  unfolding upto
  digit_wrong n =
      not-true _ (ap (λ (x : Bool). cond x true (not (ltb (digit_of c) 16))) (sym (ne_eqb (tested c) (wanted c) n))
      ∙ looked_up (λ (c : ℕ). cond (eqb (tested c) (wanted c)) true (not (ltb (digit_of c) 16))) refl)

pub digits_all : (t : List ℕ) → Bytes t → each tested t ≡ each wanted t → (all_digits t ≡ true) × (each value t ≡ each digit_of t)
unfolding each all_digits
digits_all [] b e = (refl, refl)
digits_all (c ∷ t) b e =
    let x = tested_below c b.0 in
    let y = wanted_below c b.0 in
    let here = digit_right c b.0 (omega arith) in
    let more = digits_all t b.1 (omega arith) in
    (ap₂ ◌&&◌ here.0 more.0, ap₂ (λ (p q : ℕ). p * 256 + q) more.1 here.1)

pub digits_not : (t : List ℕ) → Bytes t → (each tested t ≡ each wanted t → ⊥) → all_digits t ≡ false
unfolding each all_digits
digits_not [] b n = absurd (n refl)
digits_not (c ∷ t) b n =
    let d = ltb (digit_of c) 16 in
    let more : tested c ≡ wanted c → all_digits t ≡ false =
    λ e. digits_not t b.1 (λ m. n (ap₂ (λ (p q : ℕ). p * 256 + q) m e)) in
    elim (ℕ_discrete (tested c) (wanted c)) [
      | yes e ↦ ap (λ (x : Bool). d && x) (more e) ∙ and-false d
      | no m ↦ ap (λ (x : Bool). x && all_digits t) (digit_wrong c b.0 m)
    ]

-- ---- the values of eight digits as one number

-- byte v of a number
byte_at : {p m v : ℕ} (q r : ℕ) → p ≡ (q * 256 + v) * m + r → v < 256 → r < m → p / m % 256 ≡ v
byte_at q r e h l = rw e (ap (λ (x : ℕ). x % 256) (digits_div _ l) ∙ digits_mod q h)

packed_bytes : (w x y z p : ℕ) {q : ℕ} → p * 16 + p / 256 ≡ q → q % 256 ≡ w → q / 65536 % 256 ≡ x → q / 4294967296 % 256 ≡ y
    → q / 281474976710656 % 256 ≡ z → packed_of p ≡ w * 16777216 + x * 65536 + y * 256 + z
packed_bytes w x y z p e h i j k = rw (e, h, i, j, k)

-- two values in each byte, of which each second is taken
packed_eight : {a b c d e f g h : ℕ} → a < 16 → b < 16 → c < 16 → d < 16 → e < 16 → f < 16 → g < 16 → h < 16
    → packed_of ((((((((0 * 256 + h) * 256 + g) * 256 + f) * 256 + e) * 256 + d) * 256 + c) * 256 + b) * 256 + a)
    ≡ (((((((0 * 16 + a) * 16 + b) * 16 + c) * 16 + d) * 16 + e) * 16 + f) * 16 + g) * 16 + h
packed_eight {a} {b} {c} {d} {e} {f} {g} {h} ha hb hc hd he hf hg hh =
    let s : ℕ = h * 16 * 256 + (g * 16 + h) in
    let t : ℕ = (s * 256 + (f * 16 + g)) * 256 + (e * 16 + f) in
    let u : ℕ = (t * 256 + (d * 16 + e)) * 256 + (c * 16 + d) in
    let p : ℕ = (u * 256 + (b * 16 + c)) * 256 + (a * 16 + b) in
    let x : ℕ = (b * 16 + c) * 256 + (a * 16 + b) in
    let y : ℕ = ((d * 16 + e) * 256 + (c * 16 + d)) * 65536 + x in
    let z : ℕ = ((f * 16 + g) * 256 + (e * 16 + f)) * 4294967296 + y in
    packed_bytes (a * 16 + b) (c * 16 + d) (e * 16 + f) (g * 16 + h) _ {q = p} (omega arith)
    (digits_mod (u * 256 + (b * 16 + c)) (omega arith)) (byte_at (t * 256 + (d * 16 + e)) x (omega arith) (omega arith) (omega arith))
    (byte_at (s * 256 + (f * 16 + g)) y (omega arith) (omega arith) (omega arith))
    (byte_at (h * 16) z (omega arith) (omega arith) (omega arith))
    ∙ omega arith

abbrev Below : List ℕ → Type 0
Below [] = Unit
Below (c ∷ t) = (digit_of c < 16) × Below t

digits_below : (t : List ℕ) → all_digits t ≡ true → Below t
unfolding all_digits
digits_below [] h = tt
digits_below (c ∷ t) h = let b = and_both (ltb (digit_of c) 16) (all_digits t) h in (ltb-true _ _ b.0, digits_below t b.1)

pub packed_digits : (t : List ℕ) → length t ≡ 8 → Below t → packed_of (each digit_of t) ≡ number_of t
unfolding each spelled
packed_digits (a ∷ b ∷ c ∷ d ∷ e ∷ f ∷ g ∷ h ∷ []) l k =
    packed_eight k.0 k.1.0 k.1.1.0 k.1.1.1.0 k.1.1.1.1.0 k.1.1.1.1.1.0 k.1.1.1.1.1.1.0
    k.1.1.1.1.1.1.1.0
packed_digits [] l k = absurd (omega arith)
packed_digits (a ∷ []) l k = absurd (omega arith)
packed_digits (a ∷ b ∷ []) l k = absurd (omega arith)
packed_digits (a ∷ b ∷ c ∷ []) l k = absurd (omega arith)
packed_digits (a ∷ b ∷ c ∷ d ∷ []) l k = absurd (omega arith)
packed_digits (a ∷ b ∷ c ∷ d ∷ e ∷ []) l k = absurd (omega arith)
packed_digits (a ∷ b ∷ c ∷ d ∷ e ∷ f ∷ []) l k = absurd (omega arith)
packed_digits (a ∷ b ∷ c ∷ d ∷ e ∷ f ∷ g ∷ []) l k = absurd (omega arith)
packed_digits (a ∷ b ∷ c ∷ d ∷ e ∷ f ∷ g ∷ h ∷ x ∷ t) l k = absurd (omega arith)

-- ---- the whole word

abbrev letters_of : ℕ → ℕ
letters_of x = bit_and x 0x4040404040404040 / 64

abbrev values_of : ℕ → ℕ
values_of x = bit_and (bit_and x 0x0f0f0f0f0f0f0f0f + letters_of x * 9) 0x0f0f0f0f0f0f0f0f

abbrev tens_of : ℕ → ℕ
tens_of x = bit_and (values_of x + 0x0606060606060606) 0x1010101010101010 / 16

divided : (m : ℕ) {k y z : ℕ} → y ≡ k + z * suc m → k ≡ 0 → y / suc m ≡ z
divided m {z = z} e h = ap (λ (x : ℕ). x / suc m) (e ∙ omega (arith, h)) ∙ digits_div z {r = 0} (omega arith)

module _ {t : List ℕ} {x : ℕ} (l : length t ≡ 8) (j : Joined t x) where
  pub masked : (m : ℕ) → m < 256 → bit_and x (m * 72340172838076673) ≡ each (λ (c : ℕ). bit_and c m) t
  masked m h = ap₂ bit_and (j.is ∙ each_own t) (sym (mask m t l)) ∙ and_each own m t (λ c k. k) h j.bytes

  letters_are : letters_of x ≡ each letter t
  letters_are =
      let whole = same_each _ _ t letter_whole j.bytes in
      divided 63 (masked 64 (omega arith) ∙ whole ∙ sym (add_each (λ (c : ℕ). 0) letter 64 t)) (mask 0 t l)

  units_are : bit_and x 0x0f0f0f0f0f0f0f0f + letters_of x * 9 ≡ each unit t
  units_are = ap₂ (λ (y z : ℕ). y + z * 9) (masked 15 (omega arith)) letters_are ∙ add_each (λ (c : ℕ). bit_and c 15) letter 9 t

  values_are : values_of x ≡ each value t
  values_are = ap₂ bit_and units_are (sym (mask 15 t l)) ∙ and_each unit 15 t unit_below (omega arith) j.bytes

  tens_are : tens_of x ≡ each ten t
  tens_are =
      let up : values_of x + 0x0606060606060606 ≡ each raised t =
      ap₂ (λ (y z : ℕ). y + z * 6) values_are (sym (mask 1 t l)) ∙ add_each value (λ (c : ℕ). 1) 6 t in
      let whole = same_each _ _ t ten_whole j.bytes in
      divided 15 (ap₂ bit_and up (sym (mask 16 t l)) ∙ and_each raised 16 t raised_below (omega arith) j.bytes ∙ whole
      ∙ sym (add_each (λ (c : ℕ). 0) ten 16 t)) (mask 0 t l)

  tested_are : bit_and x 0xf0f0f0f0f0f0f0f0 + tens_of x ≡ each tested t
  tested_are =
      ap₂ ◌+◌ (masked 240 (omega arith)) tens_are ∙ ap (λ (y : ℕ). each (λ (c : ℕ). bit_and c 240) t + y) (once (each ten t))
      ∙ add_each (λ (c : ℕ). bit_and c 240) ten 1 t
    where
      once : (y : ℕ) → y ≡ y * 1
      once y = omega arith

  wanted_are : 0x3030303030303030 + letters_of x * 49 ≡ each wanted t
  wanted_are = ap₂ (λ (y z : ℕ). y + z * 49) (sym (mask 48 t l)) letters_are ∙ add_each (λ (c : ℕ). 48) letter 49 t

  other_read : (bit_and x 0xf0f0f0f0f0f0f0f0 + tens_of x ≡ 0x3030303030303030 + letters_of x * 49 → ⊥) → None ≡ reading_of t
  other_read n =
      ap (λ (b : Bool). if_digits b (number_of t)) (sym (digits_not t j.bytes (λ e. n (tested_are ∙ e ∙ sym wanted_are))))

  number_read : (r : ℕ) → bit_and x 0xf0f0f0f0f0f0f0f0 + tens_of x ≡ 0x3030303030303030 + letters_of x * 49 → r ≡ packed_of (values_of x)
      → Some r ≡ reading_of t
  number_read r e h =
      let k = digits_all t j.bytes (sym tested_are ∙ e ∙ wanted_are) in
      ap₂ if_digits (sym k.0) (h ∙ ap packed_of (values_are ∙ k.1) ∙ packed_digits t l (digits_below t k.0))

-- ---- the rules

part_length : (s : List ℕ) (at : ℕ) → at + 8 ≤ length s → length (take 8 (drop at s)) ≡ 8
part_length s at h = length-take-le 8 (drop at s) (omega (arith, length-drop at s))

pub word_other : (s : List ℕ) (at x : ℕ) → at + 8 ≤ length s → Joined (take 8 (drop at s)) x
    → (bit_and x 0xf0f0f0f0f0f0f0f0 + tens_of x ≡ 0x3030303030303030 + letters_of x * 49 → ⊥) → None ≡ reading_of (take 8 (drop at s))
word_other s at x h j n = other_read (part_length s at h) j n

pub word_number : (s : List ℕ) (at x r : ℕ) → at + 8 ≤ length s → Joined (take 8 (drop at s)) x
    → bit_and x 0xf0f0f0f0f0f0f0f0 + tens_of x ≡ 0x3030303030303030 + letters_of x * 49 → r ≡ packed_of (values_of x)
    → Some r ≡ reading_of (take 8 (drop at s))
word_number s at x r h j e k = number_read (part_length s at h) j r e k

pub ruleset eights = (rules, eight_joined, word_other, word_number)
