-- From the parts of a term to the text: each rule takes the facts as the code hands them over, so that `search writing` finds them.
--
--   …-room      a part has room in the buffer
--   Done        the terms of the words from place k on are written, the invariant of `put_text`
--   writing     the rules
use mathlib.Core.Path.{◌≡◌, refl, sym, ap, ◌∙◌, subst}
use mathlib.Core.List.{List, [], ◌∷◌, ◌++◌, append-nil}
use Prim.Native.Nat.{ℕ, zero, suc, ◌+◌, ◌-◌, ◌*◌, ◌/◌, ◌%◌, ◌^◌, ◌≤◌, ◌<◌}
use native.Mathlib.Nat.{pos_of_ne-zero}
use native.Mathlib.Omega.{arith}
use mir.Syntax.{w32, w64}
use mir.Val.{Fits}
use borrow.Author.Rules.{rules}
use lib.ListN.{length, drop, get_or, set, length-append, length-set}
use lib.Seq.{drop-length, drop-cons}
use Rattle.text_notation.specs.Notation.{decimal, power_text, term, plus_joined, terms, or_zero, text}
use Rattle.text_notation.proofs.Decimals.{decimal_small, decimal_large, decimal_some, decimal_short}
use Rattle.text_notation.proofs.Lengths.{power_short}
use Rattle.text_writer_service.specs.Parts.{Put, Room, plus, added}
use Rattle.text_writer_service.proofs.Putting.{put_none, put_as, put_one, put_length, put_then, put_set}

-- ---- a number

module _ (x at : ℕ) (o : List ℕ) (l : at + length (decimal x) ≤ length o) where
  pub first_room : at < length o
  first_room = omega (arith, decimal_some x)

  pub number_small : x < 10 → Put (decimal x) at (at + 1) o (set o at (48 + x))
  number_small h = put_as (sym (decimal_small x h)) (put_one (48 + x) at o refl first_room)

  -- the last digit after those of x / 10
  module _ (h : 10 ≤ x) where
    digits_before : length (decimal x) ≡ length (decimal (x / 10)) + 1
    digits_before = ap length (decimal_large x h) ∙ length-append (decimal (x / 10)) ((48 + x % 10) ∷ [])

    pub tenth_room : at + length (decimal (x / 10)) ≤ length o
    tenth_room = omega (arith, digits_before)

    module _ {r : ℕ} {w : List ℕ} (p : Put (decimal (x / 10)) at r o w) where
      digit_inside : r < length o
      digit_inside = omega (arith, p.end, digits_before)

      pub digit_room : r < length w
      digit_room = omega (arith, digit_inside, put_length p (omega (arith, digit_inside)))

      pub digit_fits : length o < 2 ^ 64 → Fits w64 (r + 1)
      digit_fits top = record { fits = omega (arith, digit_inside) }

      pub number_large : Put (decimal x) at (r + 1) o (set w r (48 + x % 10))
      number_large = put_as (sym (decimal_large x h)) (put_set p (omega (arith, digit_inside)) (48 + x % 10) refl digit_inside)

-- ---- a power

power_large : (k : ℕ) → 2 ≤ k → (42 ∷ 120 ∷ []) ++ (94 ∷ []) ++ decimal k ≡ power_text k
power_large zero h = absurd (omega arith)
power_large (suc zero) h = absurd (omega arith)
power_large (suc (suc k)) h = refl

power_some : (k : ℕ) → (k ≡ 0 → ⊥) → 2 ≤ length (power_text k)
power_some zero n = absurd (n refl)
power_some (suc zero) n = omega arith
power_some (suc (suc k)) n = omega arith

pub power_none : (k at : ℕ) (o : List ℕ) → k ≡ 0 → Put (power_text k) at at o o
power_none k at o e = put_as (ap power_text (sym e)) (put_none at o)

module _ (k at : ℕ) (o : List ℕ) (l : at + length (power_text k) ≤ length o) (some : k ≡ 0 → ⊥) where
  pub star_room : at < length o
  star_room = omega (arith, power_some k some)

  pub letter_room : at + 1 < length o
  letter_room = omega (arith, power_some k some)

  star : Put (42 ∷ 120 ∷ []) at (at + 2) o (set (set o at 42) (at + 1) 120)
  star = put_set (put_one 42 at o refl star_room) (omega (arith, letter_room)) 120 (omega arith) letter_room

  pub power_one : k ≡ 1 → Put (power_text k) at (at + 2) o (set (set o at 42) (at + 1) 120)
  power_one e = put_as (ap power_text (sym e)) star

  module _ (more : k ≡ 1 → ⊥) where
    two : 2 ≤ k
    two = omega (arith, some, more)

    power_length : length (power_text k) ≡ 3 + length (decimal k)
    power_length = ap length (sym (power_large k two)) ∙ omega arith

    pub circumflex_room : at + 2 < length o
    circumflex_room = omega (arith, power_length, decimal_some k)

    pub digits_room : (w : List ℕ) → length w ≡ length o → at + 3 + length (decimal k) ≤ length w
    digits_room w e = omega (arith, power_length)

    pub power_more : {r : ℕ} {w : List ℕ} → Put (decimal k) (at + 3) r (set (set (set o at 42) (at + 1) 120) (at + 2) 94) w
        → Put (power_text k) at r o w
    power_more p =
        put_as (power_large k two)
        (put_then (put_set star (omega (arith, letter_room)) 94 (omega arith) circumflex_room) (omega (arith, circumflex_room)) p)

pub three_kept : (i j k a b d : ℕ) (o v : List ℕ) → length v ≡ length (set (set (set o i a) j b) k d) → length v ≡ length o
three_kept i j k a b d o v h = h ∙ simp length-set

-- ---- a term

pub plus_first : (at : ℕ) (o : List ℕ) → at ≡ 0 → Put (plus at) at 0 o o
plus_first zero o e = put_none 0 o
plus_first (suc at) o e = absurd (omega arith)

pub plus_later : (at : ℕ) (o : List ℕ) → (at ≡ 0 → ⊥) → at + 1 ≤ length o → Put (plus at) at (at + 1) o (set o at 43)
plus_later zero o n h = absurd (n refl)
plus_later (suc at) o n h = put_one 43 (suc at) o refl (omega arith)

added_some : (at c k : ℕ) → 1 ≤ c → plus at ++ (decimal c ++ power_text k) ≡ added at c k
added_some at zero k h = absurd (omega arith)
added_some at (suc c) k h = refl

pub added_none : (at c k : ℕ) (o : List ℕ) → c ≡ 0 → Put (added at c k) at at o o
added_none at zero k o e = put_none at o
added_none at (suc c) k o e = absurd (omega arith)

plus_short : (at : ℕ) → length (plus at) ≤ 1
plus_short zero = omega arith
plus_short (suc at) = omega arith

number_and_power : (c k : ℕ) → c < 4294967296 → k ≤ 48 → length (decimal c) + length (power_text k) ≤ 15
number_and_power c k l m = omega (arith, decimal_short 9 c (omega arith), power_short k (omega arith))

added_short : (at c k : ℕ) → c < 4294967296 → k ≤ 48 → length (added at c k) ≤ 16
added_short at zero k l m = omega arith
added_short at (suc c) k l m =
    let n = number_and_power (suc c) k l m in
    omega (arith, plus_short at, length-append (plus at) (term (suc c) k), length-append (decimal (suc c)) (power_text k))

-- the sign, the number and the power, one after the other
module _ (at c k : ℕ) (o : List ℕ) (l : at + 16 ≤ length o) (m : k ≤ 48) (some : c ≡ 0 → ⊥) (b : Fits w32 c) {r : ℕ} {w : List ℕ}
    (p : Put (plus at) at r o w) where
  both : length (decimal c) + length (power_text k) ≤ 15
  both = number_and_power c k b.fits m

  first : r ≤ length o
  first = omega (arith, p.end, plus_short at)

  pub number_room : r + length (decimal c) ≤ length w
  number_room = omega (arith, p.end, plus_short at, both, put_length p first)

  module _ {q : ℕ} {v : List ℕ} (d : Put (decimal c) r q w v) where
    pub power_room : q + length (power_text k) ≤ length v
    power_room =
        omega (arith, p.end, d.end, plus_short at, both, put_length p first, put_length d (omega (arith, d.end, number_room)))

    pub term_put : {i : ℕ} {u : List ℕ} → Put (power_text k) q i v u → Put (added at c k) at i o u
    term_put e =
        put_as (added_some at c k (pos_of_ne-zero some)) (put_then p first (put_then d (omega (arith, d.end, number_room)) e))

-- ---- one term after the others

term_some : (c k : ℕ) → 1 ≤ length (term (suc c) k)
term_some c k = omega (arith, length-append (decimal (suc c)) (power_text k), decimal_some (suc c))

joined_added : (s : List ℕ) (c k : ℕ) → s ++ added (length s) c k ≡ plus_joined s (term c k)
joined_added [] zero k = refl
joined_added [] (suc c) k = refl
joined_added (a ∷ s) zero k = append-nil (a ∷ s)
joined_added (a ∷ s) (suc c) k = go (term (suc c) k) (term_some c k)
  where
    go : (t : List ℕ) → 1 ≤ length t → (a ∷ s) ++ (43 ∷ t) ≡ plus_joined (a ∷ s) t
    go [] h = absurd (omega arith)
    go (b ∷ t) h = refl

-- the terms of the words from place k on are written
pub record Done (f : List ℕ) (k at : ℕ) (o w : List ℕ) : Type 0 where
  pub most : k ≤ length f
  pub put : Put (terms k (drop k f)) 0 at o w
  pub room : at ≤ 16 * (length f - k)
  pub same : length w ≡ length o

pub done_none : (f o : List ℕ) → Done f (length f) 0 o o
unfolding terms
done_none f o =
    record {
      most = omega arith;
      put = put_as (ap (terms (length f)) (sym (drop-length f))) (put_none 0 o);
      room = omega arith;
      same = refl;
    }

module _ {f : List ℕ} {k at : ℕ} {o w : List ℕ} (p : Done f k at o w) (room : Room f o) where
  module _ (h : 0 < k) where
    pub term_room : at + 16 ≤ length w
    term_room = omega (arith, p.room, p.most, p.same, room.few, room.bytes)

    pub term_power : k - 1 ≤ 48
    term_power = omega (arith, p.most, room.few)

    pub done_next : {k' r : ℕ} {v : List ℕ} → ((i : ℕ) → Fits w32 (get_or f i 0)) → Put (added at (get_or f (k - 1) 0) (k - 1)) at r w v
        → k' ≡ k - 1 → Done f k' r o v
    unfolding terms
    done_next {r = r} {v = v} b q ek =
        let j = k - 1 in
        let c = get_or f j 0 in
        let e : k ≡ suc j = omega arith in
        let s = terms k (drop k f) in
        let n : at ≡ length s = omega (arith, p.put.end) in
        let cut : drop j f ≡ c ∷ drop k f = drop-cons f j 0 (omega (arith, p.most)) ∙ ap (λ (i : ℕ). c ∷ drop i f) (sym e) in
        let t : s ++ added at c j ≡ terms j (drop j f) =
        ap (λ (i : ℕ). s ++ added i c j) n ∙ joined_added s c j ∙ ap (λ (i : ℕ). plus_joined (terms i (drop k f)) (term c j)) e
        ∙ ap (terms j) (sym cut) in
        let short = added_short at c j (b j).fits term_power in
        rw ek (record {
          most = omega (arith, p.most);
          put = put_as t (put_then p.put (omega (arith, term_room, p.same)) q);
          room = omega (arith, p.room, p.most, q.end, short);
          same = put_length q (omega (arith, q.end, short, term_room)) ∙ p.same;
        })

  -- ---- the text

  module _ (z : k ≤ 0) where
    whole : terms k (drop k f) ≡ terms 0 f
    whole = let e : k ≡ 0 = omega arith in ap (λ (i : ℕ). terms i (drop i f)) e

    pub done_all : (at ≡ 0 → ⊥) → Put (text f) 0 at o w
    done_all n = go (terms 0 f) (put_as whole p.put)
      where
        go : (s : List ℕ) → Put s 0 at o w → Put (or_zero s) 0 at o w
        go [] q = absurd (n q.end)
        go (a ∷ s) q = q

    pub done_zero : at ≡ 0 → Put (text f) 0 1 o (set w 0 48)
    done_zero n = go (terms 0 f) (put_as whole p.put)
      where
        go : (s : List ℕ) → Put s 0 at o w → Put (or_zero s) 0 1 o (set w 0 48)
        go [] q = put_set (subst (λ (i : ℕ). Put [] 0 i o w) n q) (omega arith) 48 refl (omega (arith, room.bytes))
        go (a ∷ s) q = absurd (omega (arith, q.end))

pub ruleset numbers = (first_room, number_small, tenth_room, digit_room, digit_fits, number_large)

pub ruleset powers = (power_none, star_room, letter_room, power_one, circumflex_room, digits_room, power_more, three_kept)

pub ruleset terms_written = (plus_first, plus_later, added_none, number_room, power_room, term_put)

pub ruleset text_written = (done_none, term_room, done_next, done_all, done_zero)

pub ruleset writing = (rules, numbers, powers, terms_written, text_written)
