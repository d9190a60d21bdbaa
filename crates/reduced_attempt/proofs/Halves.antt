-- The half of an attempt that factors the first polynomial, for words of any width: words over the common content, and back.
--
--   common_of, arranged_of, arranged_plain                                   two polynomials in the buffer
--   common_positive, common_whole, common_above, common_primitive, common_swap    the common content
--   positive, above, scaled_asked, over_asked, over_known, core_asked        what a half asks of its calls
--   unit_splits, over_nilpotents, nilpotents_told, over_splitter, product_word, leaving, half_certified, plain_certified    what it answers
--   split_unit, split_nilpotent, split_factors                               two coprime divisors split n
--   halves                                                                   the rules
use mathlib.Core.Path.{◌≡◌, refl, sym, ap, subst, ◌∙◌}
use mathlib.Core.List.{List}
use mathlib.Core.Logic.{⊎_elim}
use Prim.Native.Nat.{ℕ, zero, suc, max, ◌+◌, ◌-◌, ◌*◌, ◌/◌, ◌%◌, ◌^◌, ◌≤◌, ◌<◌, ◌∣◌}
use native.Mathlib.Omega.{arith}
use native.Mathlib.Nat.{sub-zero, mod-lt, mod-mod, zero-mod, zero-add, zero-div, mul-zero, mul-one, mul-le-mul_left, mul-le-mul_right}
use native.Mathlib.Nat.{mul-div_cancel', mul-dvd-mul_left, dvd-zero, dvd_trans, dvd_refl, dvd-mul_left, pos_of_dvd_of_pos, le_of_dvd}
use native.Mathlib.Nat.{dvd_of_mod-eq-zero}
use lib.ListN.{length, get_or}
use borrow.Rule.Slice.PartMut.{mid_of}
use Rattle.definitions.specs.Residues.{K, Inverse, IsNilpotent, Splitting}
use Rattle.definitions.specs.Polynomials.{coef, L}
use Rattle.definitions.specs.Resultants.{Combination, Reduced}
use Rattle.law_numbers.specs.Coprimality.{coprime_power, coprime_sym}
use Rattle.law_numbers.specs.Logarithm.{K_monotone}
use Rattle.law_numbers.specs.Nilpotents.{nilpotent_radical}
use Rattle.law_numbers.specs.Primes.{prime_of}
use Rattle.law_numbers.specs.Units.{coprime_of_unit}
use Rattle.law_polynomials.specs.ReachedSteps.{Times, coef_beyond}
use Rattle.law_polynomials.specs.ReducedLaws.{reduced_content}
use Rattle.windows.specs.Window.{piece, Moved, quotient_by, Loaded, Content, Below}
use Rattle.windows.proofs.Leaf.{lt_or_le, piece_at, piece_over, piece_length}
use Rattle.window_factor.specs.Factors.{SplitOf, LeadingUnit, AllNilpotents as NilpotentWords}
use Rattle.law_multipliers.specs.Joining.{combination_content}
use Rattle.reduced_units.specs.States.{Splitter}
use Rattle.reduced_units.proofs.Regions.{part_piece}
use Rattle.reduced_clearing.proofs.UnitSteps.{split_splitter}
use Rattle.reduced_cofactors.specs.Cofactors.{core_room, CoreAsked, Certified, CoreCertified}
use Rattle.reduced_attempt.specs.ReducedAttempts.{CommonContent, PairLoaded, Arranged, BothLeave, Left}
use Rattle.reduced_attempt.specs.ReducedAttempts.{NilpotentOver, HalfAsked, ScaledAsked, OverAsked}
use Rattle.reduced_attempt.proofs.Scalings.{scaled, scaled_at, scaled_times, reduced_unscaled, combination_unscaled, divides_scaled}
use Rattle.reduced_attempt.proofs.Scalings.{nilpotent_unscaled, pair_plain, left_one}

-- ---- two polynomials in the buffer

module _ {n : ℕ} {f g w w₁ w₂ : List ℕ} (fits : length f + length g ≤ length w) (lf : Loaded n 0 f w w₁)
    (lg : Loaded n (length f) g w₁ w₂) where
  first_loaded : (k : ℕ) → k < length f → get_or w₂ k 0 ≡ coef f k % n
  first_loaded k h = lg.low k h ∙ ap (λ (x : ℕ). get_or w₁ x 0) (sym (zero-add k)) ∙ lf.mid k h

  second_loaded : (k : ℕ) → k < length g → get_or w₂ (length f + k) 0 ≡ coef g k % n
  second_loaded k h = lg.mid k h

  long : length w₂ ≡ length w
  long = lg.same ∙ lf.same

  pub common_of : {c : ℕ} → Content n (mid_of 0 (length f + length g - 0) w₂) c → CommonContent n f g c
  common_of {c} x =
      let ct = subst (λ (s : List ℕ). Content n s c) (part_piece w₂ 0 (length f + length g) _ (sub-zero _)) x in
      record {
        divides_n = ct.divides_n;
        divides_f = λ k. ⊎_elim
            (λ h. subst (λ (x : ℕ). c ∣ x) (at k (omega arith) ∙ first_loaded k h) (ct.divides k (omega (arith, size))))
            (λ h. beyond f k h c) (lt_or_le k (length f));
        divides_g = λ k. ⊎_elim
            (λ h. subst (λ (x : ℕ). c ∣ x) (at (length f + k) (omega arith) ∙ second_loaded k h)
            (ct.divides (length f + k) (omega (arith, size))))
            (λ h. beyond g k h c) (lt_or_le k (length g));
        greatest = λ x d p q. ct.greatest x d (λ k h. ⊎_elim
            (λ b. subst (λ (y : ℕ). x ∣ y) (sym (at k (omega (arith, size)) ∙ first_loaded k b)) (p k))
            (λ b. subst (λ (y : ℕ). x ∣ y) (sym (at k (omega (arith, size)) ∙ ap (λ (y : ℕ). get_or w₂ y 0)
            (let z : k ≡ length f + (k - length f) = omega arith in z) ∙ second_loaded (k - length f) (omega (arith, size))))
            (q (k - length f)))
            (lt_or_le k (length f)));
      }
    where
      size : length (piece w₂ 0 (length f + length g)) ≡ length f + length g
      size = piece_length w₂ 0 (length f + length g) (omega (arith, long))

      at : (k : ℕ) → k < length f + length g → coef (piece w₂ 0 (length f + length g)) k ≡ get_or w₂ k 0
      at k h = piece_at w₂ 0 (length f + length g) k h ∙ ap (λ (x : ℕ). get_or w₂ x 0) (zero-add k)

      beyond : (f : List ℕ) (k : ℕ) → length f ≤ k → (c : ℕ) → c ∣ coef f k % n
      beyond f k h c = subst (λ (x : ℕ). c ∣ x) (sym (ap (λ (x : ℕ). x % n) (coef_beyond f k h) ∙ zero-mod n)) (dvd-zero c)

-- each word over c
module _ {n c r : ℕ} {f g w w₂ w₃ : List ℕ} (fits : length f + length g ≤ length w) (mv : Moved (quotient_by c) 0 0 (length f + length g)
    w₂ w₃) where
  pub arranged_of : PairLoaded n r (length f) f g w w₂ → Arranged n c r g f w w₃
  arranged_of ld = record {
    unit = ld.unit;
    same = mv.same ∙ ld.same;
    first = λ k h. word (length f + k) (omega arith) ∙ ap (λ (x : ℕ). x / c) (ld.second k h);
    second = λ k h. word k (omega arith) ∙ ap (λ (x : ℕ). x / c) (ld.first k h);
  }
    where
      word : (k : ℕ) → k < length f + length g → get_or w₃ k 0 ≡ get_or w₂ k 0 / c
      word k h = ap (λ (x : ℕ). get_or w₃ x 0) (sym (zero-add k)) ∙ mv.mid k h ∙ ap (λ (x : ℕ). get_or w₂ x 0 / c) (zero-add k)

pub arranged_plain : {n c : ℕ} {f g w w₁ w₂ w₃ : List ℕ} → 1 ≤ n → length f + length g ≤ length w → Loaded n 0 f w w₁
    → Loaded n (length f) g w₁ w₂ → Moved (quotient_by c) 0 0 (length f + length g) w₂ w₃ → Arranged n c 1 g f w w₃
arranged_plain {n} {c} {f} {g} pos fits lf lg mv = arranged_of fits mv (pair_plain n (length f) f g pos (omega arith) lf lg)

-- ---- modulo n / c

module _ (n c : ℕ) (a b : List ℕ) (two : 2 ≤ n) (cm : CommonContent n a b c) where
  pub common_positive : 0 < c
  common_positive = pos_of_dvd_of_pos cm.divides_n (omega arith)

  pub common_whole : n ≡ c * (n / c)
  common_whole = sym (mul-div_cancel' c cm.divides_n)

  pub common_above : (c ≡ n → ⊥) → 2 ≤ n / c
  common_above ne = go (n / c) common_whole
    where
      go : (r : ℕ) → n ≡ c * r → 2 ≤ r
      go zero e = absurd (omega (arith, mul-zero c))
      go (suc zero) e = absurd (ne (sym (e ∙ mul-one c)))
      go (suc (suc r)) e = omega arith

  pub common_most : n / c ≤ n
  common_most = omega (arith, common_whole, more c (n / c) common_positive)
    where
      more : (c x : ℕ) → 0 < c → x ≤ c * x
      more c x h = omega (arith, mul-le-mul_left x h)

  -- the logarithm of n / c
  fewer : (ne : c ≡ n → ⊥) → K (n / c) ≤ K n
  fewer ne = K_monotone (n / c) n (omega (arith, common_above ne)) common_most

  room_less : (ne : c ≡ n → ⊥) (d e x : ℕ) → core_room n d e ≤ x → core_room (n / c) d e ≤ x
  room_less ne d e x h = omega (arith, mul-le-mul_right d (fewer ne))

  length_less : (ne : c ≡ n → ⊥) (d e x : ℕ) → L n d e ≤ x → L (n / c) d e ≤ x
  length_less ne d e x h = omega (arith, mul-le-mul_right (max d e) (fewer ne))

-- ---- what a half asks of its calls

module _ {n c : ℕ} {a b x y w : List ℕ} (ha : HalfAsked n c a b x y w) where
  two : 2 ≤ n
  two = ha.modulus

  cm : CommonContent n a b c
  cm = ha.content

  ne : c ≡ n → ⊥
  ne = ha.proper

  pub positive : 0 < c
  positive = common_positive n c a b two cm

  pub above : 2 ≤ n / c
  above = common_above n c a b two cm ne

  whole : n ≡ c * (n / c)
  whole = common_whole n c a b two cm

  most : n / c ≤ n
  most = common_most n c a b two cm

  divides : n / c ∣ n
  divides = subst (λ (x : ℕ). n / c ∣ x) (sym whole) (dvd-mul_left (n / c) c)

module _ {n c r : ℕ} {a b x y w w₁ : List ℕ} (ha : HalfAsked n c a b x y w) (ar : Arranged n c r a b w w₁) where
  more_a : length a - 1 + 1 ≡ length a
  more_a = omega arith

  more_b : length b - 1 + 1 ≡ length b
  more_b = omega arith

  -- the words as polynomials
  first_at : (k : ℕ) → coef (piece w₁ (length b - 1 + 1) (length a - 1 + 1)) k ≡ ((r * coef a k) % n) / c
  first_at k = ⊎_elim
      (λ h. piece_at w₁ (length b - 1 + 1) (length a - 1 + 1) k (omega arith) ∙ ap (λ (x : ℕ). get_or w₁ (x + k) 0) more_b ∙ ar.first k h)
      (λ h. piece_over w₁ (length b - 1 + 1) (length a - 1 + 1) k (omega arith) ∙ sym (beyond a k h))
      (lt_or_le k (length a))
    where
      beyond : (a : List ℕ) (k : ℕ) → length a ≤ k → ((r * coef a k) % n) / c ≡ 0
      beyond a k h = ap (λ (x : ℕ). (r * x) % n / c) (coef_beyond a k h) ∙ ap (λ (x : ℕ). x % n / c) (mul-zero r) ∙ ap (λ (x : ℕ). x / c)
          (zero-mod n) ∙ zero-div c

  second_at : (k : ℕ) → coef (piece w₁ 0 (length b - 1 + 1)) k ≡ ((r * coef b k) % n) / c
  second_at k = ⊎_elim
      (λ h. piece_at w₁ 0 (length b - 1 + 1) k (omega arith) ∙ ap (λ (x : ℕ). get_or w₁ x 0) (zero-add k) ∙ ar.second k h)
      (λ h. piece_over w₁ 0 (length b - 1 + 1) k (omega arith) ∙ sym (beyond b k h))
      (lt_or_le k (length b))
    where
      beyond : (a : List ℕ) (k : ℕ) → length a ≤ k → ((r * coef a k) % n) / c ≡ 0
      beyond a k h = ap (λ (x : ℕ). (r * x) % n / c) (coef_beyond a k h) ∙ ap (λ (x : ℕ). x % n / c) (mul-zero r) ∙ ap (λ (x : ℕ). x / c)
          (zero-mod n) ∙ zero-div c

  -- y / c is below n / c
  small : (y : ℕ) → c ∣ y % n → (y % n) / c < n / c
  small y d = less c ((y % n) / c) (n / c) (positive ha)
      (subst (λ (x : ℕ). x < c * (n / c)) (sym (mul-div_cancel' c d)) (subst (λ (x : ℕ). y % n < x) (whole ha)
      (mod-lt y (omega arith))))
    where
      less : (c x y : ℕ) → 0 < c → c * x < c * y → x < y
      less c x y p q = ⊎_elim (λ h. h) (λ h. absurd (omega (arith, mul-le-mul_left c h))) (lt_or_le x y)

  below_second : Below (n / c) 0 (length b - 1 + 1) w₁
  below_second = record {
    at = λ k h. subst (λ (x : ℕ). x < n / c) (sym
        (ap (λ (x : ℕ). get_or w₁ x 0) (zero-add k) ∙ ar.second k (omega arith))) (small (r * coef b k)
        (divides_scaled n c r (coef b k) ha.content.divides_n (ha.content.divides_g k)));
  }

  below_first : Below (n / c) (length b - 1 + 1) (length a - 1 + 1) w₁
  below_first = record {
    at = λ k h. subst (λ (x : ℕ). x < n / c) (sym
        (ap (λ (x : ℕ). get_or w₁ (x + k) 0) more_b ∙ ar.first k (omega arith))) (small (r * coef a k)
        (divides_scaled n c r (coef a k) ha.content.divides_n (ha.content.divides_f k)));
  }

  pub nilpotents_told : NilpotentWords (n / c) (piece w₁ (length b - 1 + 1) (length a - 1 + 1)) → NilpotentOver n c a
  nilpotents_told z = record {
    at = λ k. nilpotent_unscaled n c (n / c) r (coef a k) (whole ha) (positive ha) (omega (arith, above ha)) ar.unit
        ha.content.divides_n (ha.content.divides_f k) (small (coef a k) (ha.content.divides_f k))
        (subst (IsNilpotent (n / c)) (first_at k) (z.at k));
  }

  pub scaled_asked : ScaledAsked n c r a b x y w₁
  scaled_asked = record {
    half = record {
      modulus = ha.modulus;
      some_a = ha.some_a;
      some_b = ha.some_b;
      room = omega (arith, ha.room, ar.same);
      first = ha.first;
      second = ha.second;
      content = ha.content;
      proper = ha.proper;
    };
    words = record { unit = ar.unit; same = refl; first = ar.first; second = ar.second };
  }

  -- the words, as r a and r b over c
  times : (a f : List ℕ) → ((k : ℕ) → coef f k ≡ ((r * coef a k) % n) / c) → ((k : ℕ) → c ∣ coef a k % n) → Times (c * (n / c)) c
      (scaled r a) f
  times a f at d = record {
    at = λ k. subst (λ (x : ℕ). coef (scaled r a) k % x ≡ (c * coef f k) % x) (whole ha)
        (ap (λ (x : ℕ). x % n) (scaled_at r a k) ∙ sym (ap (λ (x : ℕ). (c * x) % n) (at k)
        ∙ ap (λ (x : ℕ). x % n) (mul-div_cancel' c (divides_scaled n c r (coef a k) ha.content.divides_n (d k)))
        ∙ mod-mod (r * coef a k) n));
  }

  times_first : Times (c * (n / c)) c (scaled r a) (piece w₁ (length b - 1 + 1) (length a - 1 + 1))
  times_first = times a (piece w₁ (length b - 1 + 1) (length a - 1 + 1)) first_at ha.content.divides_f

  times_second : Times (c * (n / c)) c (scaled r b) (piece w₁ 0 (length b - 1 + 1))
  times_second = times b (piece w₁ 0 (length b - 1 + 1)) second_at ha.content.divides_g

-- ---- words over the content

pub core_asked : {n d e t i : ℕ} {x y w : List ℕ} → OverAsked n d e x y w → LeadingUnit n t i (mid_of (e + 1) (e + 1 + (d + 1) - (e + 1)) w)
    → CoreAsked n d e t i w x y
core_asked {n} {d} {e} {t} {i} {w = w} o l = record {
  space = o.space;
  second = o.second;
  first = o.first;
  lead = subst (LeadingUnit n t i) (part_piece w (e + 1) (d + 1) _ (let z : e + 1 + (d + 1) - (e + 1) ≡ d + 1 = omega arith in z)) l;
}

pub over_nilpotents : {n : ℕ} (d e : ℕ) (w : List ℕ) → NilpotentWords n (mid_of (e + 1) (e + 1 + (d + 1) - (e + 1)) w)
    → NilpotentWords n (piece w (e + 1) (d + 1))
over_nilpotents {n} d e w =
    subst (NilpotentWords n) (part_piece w (e + 1) (d + 1) _ (let z : e + 1 + (d + 1) - (e + 1) ≡ d + 1 = omega arith in z))

pub unit_splits : {n p q : ℕ} → SplitOf n p q → Splitter n p q
unit_splits s = split_splitter _ _ _ _ (dvd_refl _) s

-- the modulus has a record of its own
pub over_known : {n ν d e : ℕ} {x y w : List ℕ} → OverAsked n d e x y w → ν ≡ n → OverAsked ν d e x y w
over_known o eq = rw eq o

pub over_some : {n d e : ℕ} {x y w : List ℕ} → OverAsked n d e x y w → 1 ≤ n
over_some o = omega (arith, o.space.above)

module _ {n c r : ℕ} {a b x y w : List ℕ} (o : ScaledAsked n c r a b x y w) where
  abbrev d : ℕ
  d = length a - 1

  abbrev e : ℕ
  e = length b - 1

  ha : HalfAsked n c a b x y w
  ha = o.half

  ar : Arranged n c r a b w w
  ar = o.words

  pub scaled_positive : 0 < c
  scaled_positive = positive ha

  pub over_asked : OverAsked (n / c) (length a - 1) (length b - 1) x y w
  over_asked = record {
    space = record {
      above = above ha;
      room = room_less n c a b ha.modulus ha.content ha.proper d e _ ha.room;
      long_x = length_less n c a b ha.modulus ha.content ha.proper d e _ ha.first;
      long_y = length_less n c a b ha.modulus ha.content ha.proper d e _ ha.second;
    };
    second = below_second ha ar;
    first = below_first ha ar;
  }

  pub over_splitter : {p q : ℕ} {x₁ y₁ : List ℕ} → Splitter (n / c) p q × ((x₁ ≡ x) × (y₁ ≡ y)) → Splitter n p q × ((x₁ ≡ x) × (y₁ ≡ y))
  over_splitter (s, same) = (
    record {
      divides₁ = dvd_trans _ s.divides₁ (divides ha);
      divides₂ = dvd_trans _ s.divides₂ (divides ha);
      above₁ = s.above₁;
      above₂ = s.above₂;
      coprime = s.coprime;
    },
    same,
  )

  module _ {D : ℕ} {x₁ y₁ : List ℕ} (ce : CoreCertified (n / c) (length a - 1) (length b - 1) w x₁ y₁ D) where
    pub product_word : {m : ℕ} → n < m → c * D < m
    product_word h = omega (arith, subst (λ (z : ℕ). c * D ≤ z) (sym (whole ha)) (mul-le-mul_left c ce.reduced.most))

    pub leaving : BothLeave n x₁ y₁
    leaving = record {
      first = record { below = λ k. omega (arith, ce.below_u k, most ha) };
      second = record { below = λ k. omega (arith, ce.below_v k, most ha) };
    }

    pub half_certified : {x₂ y₂ : List ℕ} → Left n r x₁ x₂ → Left n r y₁ y₂
        → Certified n (L n (length a - 1) (length b - 1)) a b x₂ y₂ (c * D)
    half_certified {x₂} {y₂} lx ly = record {
      reduced = reduced_unscaled n r (c * D) pos ar.unit a (scaled r a) b (scaled r b) (scaled_times n r a) (scaled_times n r b)
          (subst (λ (z : ℕ). Reduced z (scaled r a) (scaled r b) (c * D)) (sym (whole ha))
          (reduced_content c (n / c) D (scaled r a) _ (scaled r b) _ (positive ha) (omega (arith, above ha)) (times_first ha ar)
          (times_second ha ar) ce.reduced));
      combination = combination_unscaled n r (c * D) pos a (scaled r a) b (scaled r b) x₁ y₁ x₂ y₂ (scaled_times n r a) (scaled_times n r b)
          lx.at ly.at
          (subst (λ (z : ℕ). Combination z (scaled r a) (scaled r b) x₁ y₁ (c * D)) (sym (whole ha))
          (combination_content c (n / c) D (positive ha) (omega (arith, above ha)) (scaled r a) _ (scaled r b) _ x₁ y₁
          (times_first ha ar) (times_second ha ar) ce.combination));
      below_u = λ k. subst (λ (z : ℕ). z < n) (sym (lx.at k)) (mod-lt _ pos);
      below_v = λ k. subst (λ (z : ℕ). z < n) (sym (ly.at k)) (mod-lt _ pos);
      short_u = λ k h. lx.at k ∙ none (ce.short_u k (shorter k h));
      short_v = λ k h. ly.at k ∙ none (ce.short_v k (shorter k h));
    }
      where
        pos : 1 ≤ n
        pos = omega (arith, ha.modulus)

        shorter : (k : ℕ) → L n (length a - 1) (length b - 1) ≤ k → L (n / c) (length a - 1) (length b - 1) ≤ k
        shorter = length_less n c a b ha.modulus ha.content ha.proper (length a - 1) (length b - 1)

        none : {z : ℕ} → z ≡ 0 → (r * z) % n ≡ 0
        none e = ap (λ (z : ℕ). (r * z) % n) e ∙ ap (λ (z : ℕ). z % n) (mul-zero r) ∙ zero-mod n

-- the same where the words are those of a and b
pub plain_certified : {n c D : ℕ} {a b x y w x₁ y₁ : List ℕ} → ScaledAsked n c 1 a b x y w
    → CoreCertified (n / c) (length a - 1) (length b - 1) w x₁ y₁ D → Certified n (L n (length a - 1) (length b - 1)) a b x₁ y₁ (c * D)
plain_certified o ce = half_certified o ce (left_one _ 1 _ (leaving o ce).first refl) (left_one _ 1 _ (leaving o ce).second refl)

-- not all coefficients of both are nilpotent
pub common_primitive : (n c : ℕ) (a b : List ℕ) → 2 ≤ n → CommonContent n a b c → (c ≡ n → ⊥) → NilpotentOver n c a → NilpotentOver n c b
    → ⊥
common_primitive n c a b two cm ne na nb =
    let above = common_above n c a b two cm ne in
    let pos = common_positive n c a b two cm in
    let p = prime_of (n / c) (omega arith) in
    let go : (y : ℕ) → c ∣ y % n → IsNilpotent (n / c) ((y % n) / c) → c * p.p ∣ y % n = λ y d x.
    subst (λ (z : ℕ). c * p.p ∣ z) (mul-div_cancel' c d) (mul-dvd-mul_left p.p c ((nilpotent_radical x).at p.p p.prime
    p.divides)) in
    let d : c * p.p ∣ c =
    cm.greatest (c * p.p) (subst (λ (x : ℕ). c * p.p ∣ x) (sym (common_whole n c a b two cm)) (mul-dvd-mul_left p.p c p.divides))
    (λ k. go (coef a k) (cm.divides_f k) (na.at k)) (λ k. go (coef b k) (cm.divides_g k) (nb.at k)) in
    big c p.p pos p.prime.above (le_of_dvd pos d)
  where
    big : (c p : ℕ) → 0 < c → 1 < p → c * p ≤ c → ⊥
    big c p h q l = let z : c * 2 ≤ c * p = mul-le-mul_left c q in omega arith

pub common_swap : (n c : ℕ) (a b : List ℕ) → CommonContent n a b c → CommonContent n b a c
common_swap n c a b x = record {
  divides_n = x.divides_n;
  divides_f = x.divides_g;
  divides_g = x.divides_f;
  greatest = λ y d p q. x.greatest y d q p;
}

-- ---- two coprime divisors split n

module _ {n p q : ℕ} (s : Splitter n p q) where
  pub split_unit : {i : ℕ} → Inverse n p i → ⊥
  split_unit {i} u =
      let one : p ≡ 1 = (coprime_of_unit (record { inverse = i; is = u })).only p s.divides₁ (dvd_refl p) in
      omega (arith, s.above₁)

  pub split_nilpotent : IsNilpotent n p → ⊥
  split_nilpotent x =
      let d : q ∣ p ^ x.exponent = dvd_trans q s.divides₂ (dvd_of_mod-eq-zero n x.power) in
      let one : q ≡ 1 = (coprime_power (omega (arith, s.above₂)) (coprime_sym s.coprime) x.exponent).only q (dvd_refl q) d in
      omega (arith, s.above₂)

pub split_factors : {n p a b : ℕ} → Splitting n p a b → SplitOf n a b
split_factors s = record { product = s.product; above₁ = s.above₁; above₂ = s.above₂; coprime = s.coprime }

pub ruleset halves = (common_of, arranged_of, arranged_plain, positive, scaled_asked, scaled_positive, over_asked, over_known, over_some)
