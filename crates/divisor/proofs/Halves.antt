-- The half of an attempt that gives the first polynomial a leading unit: words over the common content, and back. Each rule takes the facts
-- as the code has them.
--
--   over_one, padded        both polynomials in the buffer
--   windows-…               D of the two polynomials there
--   half-…                  D of the two polynomials sent, from D modulo n / c
--   turned-…, neither_reduced    the half with the polynomials in the other order, after one that found none but nilpotents
--   whole_reduced           both polynomials are 0 modulo n
--   content-…, half_asked, half_after    the content and the modulus over it are above 0, and a half is asked
--   parted_attempted        two coprime factors of n are an answer
--   split-…, product-…      D modulo n, from D modulo each of the two
--   halves, rounds          the rules
use mathlib.Core.Path.{◌≡◌, refl, sym, ap, subst, ◌∙◌}
use mathlib.Core.List.{List, []}
use mathlib.Core.Logic.{⊎_elim}
use Prim.Native.Nat.{ℕ, max, ◌+◌, ◌-◌, ◌*◌, ◌/◌, ◌%◌, ◌≤◌, ◌<◌, ◌∣◌}
use native.Mathlib.Omega.{arith}
use native.Mathlib.Nat.{mod-lt, mod-mod, zero-mod, zero-add, zero-div, div-one, mul-zero, mul-one, mul-le-mul, mul-le-mul_left}
use native.Mathlib.Nat.{mul-le-mul_right, mul-div_cancel', dvd_refl, dvd-mul_left, mod-eq-zero_of_dvd, mul-mod_right}
use lib.ListN.{length, get_or}
use borrow.Author.Rules.{rules}
use mir.Syntax.{Width}
use mir.Val.{Fits}
use mir.Facts.{Fits-le}
use Rattle.std.specs.Prelude.{Result, Ok, Err}
use Rattle.definitions.specs.Residues.{IsNilpotent}
use Rattle.definitions.specs.Polynomials.{coef}
use Rattle.definitions.specs.Resultants.{Reduced}
use Rattle.law_polynomials.specs.ReachedSteps.{Times, coef_beyond}
use Rattle.law_polynomials.specs.ReducedLaws.{reduced_content, reduced_one, reduced_flip, reduced_coprime}
use Rattle.windows.specs.Window.{piece, Moved, Scratch, quotient_by, zeroed}
use Rattle.windows.proofs.Leaf.{lt_or_le, piece_at, piece_over, piece_same}
use Rattle.window_factor.specs.Factors.{SplitOf, AllNilpotents}
use Rattle.reduced_units.specs.States.{Splitter}
use Rattle.reduced_attempt.specs.ReducedAttempts.{CommonContent, PairLoaded, NilpotentOver, Parted}
use Rattle.reduced_attempt.proofs.Halves.{common_positive, common_whole, common_above, common_swap, common_primitive}
use Rattle.reduced_attempt.proofs.Scalings.{scaled, scaled_at, scaled_times, reduced_unscaled, divides_scaled, nilpotent_unscaled}
use Rattle.divisor_stages.specs.LeadingUnits.{Leading}
use Rattle.divisor_stages.specs.DivisorStages.{DivisionAsked}
use Rattle.divisor_stages.proofs.Contents.{splitter_dvd, split_splitter}
use Rattle.residue.specs.declared.Split.{Split}
use Rattle.divisor.specs.Sizes.{DivisorLengthsAsked, sizes_swapped, sizes_after}
use Rattle.reduced_attempt.specs.declared.HalfAttempt.{HalfAttempt}
use Rattle.divisor.specs.DivisorAttempts.{ArrangeAsked, Padded, WindowsAsked, WindowsAnswer, HalfAsked, Attempted}

-- ---- both polynomials in the buffer

pub over_one : {c len : ℕ} {w : List ℕ} → c ≡ 1 → Moved (quotient_by c) 0 0 len w w
over_one {c} {len} {w} e = record {
  same = refl;
  low = λ k h. refl;
  mid = λ i h. sym (ap (λ (x : ℕ). get_or w (0 + i) 0 / x) e ∙ div-one (get_or w (0 + i) 0));
  high = λ k h. refl;
}

module _ {n c m r : ℕ} {f g w w₁ w₃ w₄ : List ℕ} (ar : ArrangeAsked n c f g w) (cl : Moved zeroed 0 0 (2 * m) w w₁)
    (ld : PairLoaded n r m g f w₁ w₃) (dv : Moved (quotient_by c) 0 0 (2 * m) w₃ w₄) (is_m : m ≡ max (length f) (length g)) where
  nought : (k : ℕ) → k < 2 * m → get_or w₁ k 0 ≡ 0
  nought k h = ap (λ (x : ℕ). get_or w₁ x 0) (sym (zero-add k)) ∙ cl.mid k h

  nothing : (f : List ℕ) (k : ℕ) → length f ≤ k → 0 ≡ (r * coef f k) % n
  nothing f k h = sym (ap (λ (x : ℕ). (r * x) % n) (coef_beyond f k h) ∙ ap (λ (x : ℕ). x % n) (mul-zero r) ∙ zero-mod n)

  word_g : (k : ℕ) → k < m → get_or w₃ k 0 ≡ (r * coef g k) % n
  word_g k h = ⊎_elim
      (λ l. ld.first k l)
      (λ l. ld.between k l h ∙ nought k (omega arith) ∙ nothing g k l)
      (lt_or_le k (length g))

  word_f : (k : ℕ) → k < m → get_or w₃ (m + k) 0 ≡ (r * coef f k) % n
  word_f k h = ⊎_elim
      (λ l. ld.second k l)
      (λ l. ld.high (m + k) (omega arith) ∙ nought (m + k) (omega arith) ∙ nothing f k l)
      (lt_or_le k (length f))

  divided : (k : ℕ) → k < 2 * m → get_or w₄ k 0 ≡ get_or w₃ k 0 / c
  divided k h = ap (λ (x : ℕ). get_or w₄ x 0) (sym (zero-add k)) ∙ dv.mid k h ∙ ap (λ (x : ℕ). get_or w₃ x 0 / c) (zero-add k)

  pub padded : {n' c' m' : ℕ} {f' g' w' w₅ : List ℕ} → n' ≡ n → c' ≡ c → m' ≡ m → f' ≡ f → g' ≡ g → w' ≡ w → w₅ ≡ w₄
      → Padded n' c' m' f' g' w' w₅
  padded e₁ e₂ e₃ e₄ e₅ e₆ e₇ = rw (e₁, e₂, e₃, e₄, e₅, e₆, e₇) (record {
    same = dv.same ∙ ld.same ∙ cl.same;
    words = is_m;
    factor = r;
    unit = ld.unit;
    first = λ k h. divided (m + k) (omega arith) ∙ ap (λ (x : ℕ). x / c) (word_f k h);
    second = λ k h. divided k (omega arith) ∙ ap (λ (x : ℕ). x / c) (word_g k h);
  })

-- ---- D of the two polynomials in the buffer

module _ {n m : ℕ} {w : List ℕ} (wa : WindowsAsked n m w) where
  pub windows_splitter : {p q : ℕ} → SplitOf n p q → Splitter n p q
  windows_splitter x = split_splitter n n _ _ (dvd_refl n) x

  module _ {t i : ℕ} {w₁ : List ℕ} (ld : Leading n m m t i (2 * m) w w₁) where
    kept : (k : ℕ) → k < m → get_or w₁ (0 + k) 0 ≡ get_or w (0 + k) 0
    kept k h = ld.beyond.at (0 + k) (omega arith) (λ x p e. omega arith)

    pub windows_division : DivisionAsked n 0 (m - 1) m t i (2 * m) w₁
    windows_division = record {
      two = wa.two;
      near = omega (arith, ld.shorter);
      first = omega (arith, wa.some);
      second = omega (arith, ld.shorter);
      fits = omega (arith, ld.shorter, wa.room, ld.beyond.same);
      below_first = record {
        at = λ k h. subst (λ (x : ℕ). x < n) (sym (kept k (omega (arith, wa.some)))) (wa.second.at k (omega (arith, wa.some)));
      };
      below_second = ld.below;
      apart = record { ok = λ x y p q e. omega (arith, wa.some) };
      inverse = ld.inverse;
    }

    same_second : piece w₁ 0 (m - 1 + 1) ≡ piece w 0 m
    same_second = ap (λ (l : ℕ). piece w₁ 0 l) one_more ∙ piece_same w w₁ 0 m (omega (arith, wa.room)) ld.beyond.same kept
      where
        one_more : m - 1 + 1 ≡ m
        one_more = omega (arith, wa.some)

    pub windows_reduced : {D : ℕ} → Reduced n (piece w₁ 0 (m - 1 + 1)) (piece w₁ m (t + 1)) D → Reduced n (piece w m m) (piece w 0 m) D
    windows_reduced {D} x =
        ld.constants (piece w 0 m) D (reduced_flip n (omega (arith, wa.two)) (piece w 0 m) (piece w₁ m (t + 1)) D
        (subst (λ (h : List ℕ). Reduced n h (piece w₁ m (t + 1)) D) same_second x))

-- ---- modulo n / c

module _ {n v c : ℕ} {f g w : List ℕ} (ha : HalfAsked n v c f g w) where
  two : 2 ≤ n
  two = ha.modulus

  cm : CommonContent n f g c
  cm = ha.content

  pub half_positive : 0 < c
  half_positive = common_positive n c f g two cm

  whole : n ≡ c * v
  whole = common_whole n c f g two cm ∙ ap (λ (x : ℕ). c * x) (sym ha.rest)

  above : 2 ≤ v
  above = omega (arith, common_above n c f g two cm ha.proper, ha.rest)

  pub half_arrange : ArrangeAsked n c f g w
  half_arrange = record {
    modulus = two;
    content = half_positive;
    few_f = ha.sizes.most_f;
    few_g = ha.sizes.most_g;
    fits = omega (arith, ha.sizes.working);
  }

  pub half_splitter : {p q : ℕ} → Splitter v p q → Splitter n p q
  half_splitter = splitter_dvd n v _ _ (subst (λ (x : ℕ). v ∣ x) (sym whole) (dvd-mul_left v c))

  -- the other half
  pub swapped_asked : HalfAsked n v c g f w
  swapped_asked = record {
    modulus = two;
    rest = ha.rest;
    sizes = sizes_swapped ha.sizes;
    content = common_swap n c f g cm;
    proper = ha.proper;
  }

  pub swapped_reduced : {D : ℕ} → Reduced n g f D → Reduced n f g D
  swapped_reduced {D} x = reduced_flip n (omega (arith, two)) g f D x

  pub neither_reduced : {D : ℕ} → NilpotentOver n c f → NilpotentOver n c g → Reduced n f g D
  neither_reduced x y = absurd (common_primitive n c f g two cm ha.proper x y)

  module _ {m : ℕ} {w₁ : List ℕ} (pd : Padded n c m f g w w₁) where
    le_f : length f ≤ m
    le_f = omega (arith, pd.words, go (length f) (length g))
      where
        go : (a b : ℕ) → a ≤ max a b
        go a b = omega arith

    le_g : length g ≤ m
    le_g = omega (arith, pd.words, go (length f) (length g))
      where
        go : (a b : ℕ) → b ≤ max a b
        go a b = omega arith

    few : m ≤ 49
    few = omega (arith, pd.words, go (length f) (length g) ha.sizes.most_f ha.sizes.most_g)
      where
        go : (a b : ℕ) → a ≤ 49 → b ≤ 49 → max a b ≤ 49
        go a b p q = omega arith

    some : 1 ≤ m
    some = omega (arith, le_f, ha.sizes.least_f)

    long : 5 * m ≤ length w₁
    long = omega (arith, few, ha.sizes.working, pd.same)

    abbrev r : ℕ
    r = pd.factor

    beyond : (f : List ℕ) (k : ℕ) → length f ≤ k → 0 ≡ ((r * coef f k) % n) / c
    beyond f k h = sym (ap (λ (x : ℕ). (r * x) % n / c) (coef_beyond f k h) ∙ ap (λ (x : ℕ). x % n / c) (mul-zero r)
        ∙ ap (λ (x : ℕ). x / c) (zero-mod n) ∙ zero-div c)

    -- the words as polynomials
    first_at : (k : ℕ) → coef (piece w₁ m m) k ≡ ((r * coef f k) % n) / c
    first_at k = ⊎_elim
        (λ h. piece_at w₁ m m k h ∙ pd.first k h)
        (λ h. piece_over w₁ m m k h ∙ beyond f k (omega (arith, le_f)))
        (lt_or_le k m)

    second_at : (k : ℕ) → coef (piece w₁ 0 m) k ≡ ((r * coef g k) % n) / c
    second_at k = ⊎_elim
        (λ h. piece_at w₁ 0 m k h ∙ ap (λ (x : ℕ). get_or w₁ x 0) (zero-add k) ∙ pd.second k h)
        (λ h. piece_over w₁ 0 m k h ∙ beyond g k (omega (arith, le_g)))
        (lt_or_le k m)

    -- y / c is below v
    small : (y : ℕ) → c ∣ y % n → (y % n) / c < v
    small y d = less c ((y % n) / c) v half_positive
        (subst (λ (x : ℕ). x < c * v) (sym (mul-div_cancel' c d))
        (subst (λ (x : ℕ). y % n < x) whole (mod-lt y (omega (arith, two)))))
      where
        less : (c x y : ℕ) → 0 < c → c * x < c * y → x < y
        less c x y p q = ⊎_elim (λ h. h) (λ h. absurd (omega (arith, mul-le-mul_left c h))) (lt_or_le x y)

    -- word k, as the unit r times x over c
    word_below : (x k : ℕ) → c ∣ x % n → get_or w₁ k 0 ≡ ((r * x) % n) / c → get_or w₁ k 0 < v
    word_below x k d e = subst (λ (y : ℕ). y < v) (sym e) (small (r * x) (divides_scaled n c r x cm.divides_n d))

    pub half_windows : WindowsAsked v m w₁
    half_windows = record {
      two = above;
      some = some;
      room = long;
      first = record { at = λ k h. word_below (coef f k) (m + k) (cm.divides_f k) (pd.first k h) };
      second = record {
        at = λ k h. word_below (coef g k) (0 + k) (cm.divides_g k) (ap (λ (x : ℕ). get_or w₁ x 0) (zero-add k) ∙ pd.second k h);
      };
    }

    pub half_nilpotents : AllNilpotents v (piece w₁ m m) → NilpotentOver n c f
    half_nilpotents x = record {
      at = λ k. subst (λ (z : ℕ). IsNilpotent z (coef f k % n / c)) ha.rest
          (nilpotent_unscaled n c v r (coef f k) whole half_positive (omega (arith, above)) pd.unit cm.divides_n
          (cm.divides_f k) (small (coef f k) (cm.divides_f k)) (subst (IsNilpotent v) (first_at k) (x.at k)));
    }

    -- the words, as r f and r g over c
    times : (f h : List ℕ) → ((k : ℕ) → coef h k ≡ ((r * coef f k) % n) / c) → ((k : ℕ) → c ∣ coef f k % n)
        → Times (c * v) c (scaled r f) h
    times f h at d = record {
      at = λ k. subst (λ (x : ℕ). coef (scaled r f) k % x ≡ (c * coef h k) % x) whole
          (ap (λ (x : ℕ). x % n) (scaled_at r f k) ∙ sym (ap (λ (x : ℕ). (c * x) % n) (at k)
          ∙ ap (λ (x : ℕ). x % n) (mul-div_cancel' c (divides_scaled n c r (coef f k) cm.divides_n (d k))) ∙ mod-mod (r * coef f k) n));
    }

    pub half_fits : {W : Width} {D : ℕ} (y : ℕ) → Reduced v (piece w₁ m m) (piece w₁ 0 m) D → Fits W n → y ≤ c → Fits W (y * D)
    half_fits {W} {D} y x h l = Fits-le (subst (λ (z : ℕ). y * D ≤ z) (sym whole) (mul-le-mul l x.most)) h

    pub half_reduced : {D : ℕ} → Reduced v (piece w₁ m m) (piece w₁ 0 m) D → Reduced n f g (c * D)
    half_reduced {D} x =
        reduced_unscaled n r (c * D) (omega (arith, two)) pd.unit f (scaled r f) g (scaled r g) (scaled_times n r f) (scaled_times n r g)
        (subst (λ (z : ℕ). Reduced z (scaled r f) (scaled r g) (c * D)) (sym whole)
        (reduced_content c v D (scaled r f) (piece w₁ m m) (scaled r g) (piece w₁ 0 m) half_positive (omega (arith, above))
        (times f (piece w₁ m m) first_at cm.divides_f) (times g (piece w₁ 0 m) second_at cm.divides_g) x))

-- ---- both polynomials are 0 modulo n

none_reduced : (n : ℕ) (f g : List ℕ) → 2 ≤ n → CommonContent n f g n → Reduced n f g n
none_reduced n f g two cm =
    subst (λ (z : ℕ). Reduced z f g z) (mul-one n)
    (reduced_content n 1 1 f [] g [] (omega arith) (omega arith) (times f cm.divides_f) (times g cm.divides_g) (reduced_one [] []))
  where
    times : (f : List ℕ) → ((k : ℕ) → n ∣ coef f k % n) → Times (n * 1) n f []
    times f d = record {
      at = λ k. subst (λ (z : ℕ). coef f k % z ≡ (n * coef [] k) % z) (sym (mul-one n))
          (sym (mod-mod (coef f k) n) ∙ mod-eq-zero_of_dvd n (d k) ∙ sym (mul-mod_right n (coef [] k)));
    }

pub whole_reduced : {n c : ℕ} {f g : List ℕ} → CommonContent n f g c → 2 ≤ n → c ≡ n → Reduced n f g c
whole_reduced {n} {c} {f} {g} cm two e = rw e (none_reduced n f g two (subst (CommonContent n f g) e cm))

-- a half is asked, after the content was found and the working words lost
pub half_asked : {n v c : ℕ} {f g w w₁ : List ℕ} → CommonContent n f g c → (c ≡ n → ⊥) → v ≡ n / c → 2 ≤ n → DivisorLengthsAsked f g w
    → Scratch w w₁ → HalfAsked n v c f g w₁
half_asked cm proper is two s h = record {
  modulus = two;
  rest = is;
  sizes = sizes_after s h;
  content = cm;
  proper = proper;
}

pub half_after : {n v c : ℕ} {f g w w₁ : List ℕ} → HalfAsked n v c f g w → Scratch w w₁ → HalfAsked n v c f g w₁
half_after a h = half_asked a.content a.proper a.rest a.modulus a.sizes h

-- what the modulus over the content asks
pub content_positive : {n c : ℕ} {f g : List ℕ} → CommonContent n f g c → 2 ≤ n → 1 ≤ c
content_positive {n} {c} {f} {g} cm two = common_positive n c f g two cm

pub content_some : {n c : ℕ} {f g : List ℕ} → CommonContent n f g c → 2 ≤ n → (c ≡ n → ⊥) → 1 ≤ n / c
content_some {n} {c} {f} {g} cm two proper = omega (arith, common_above n c f g two cm proper)

pub parted_attempted : (n : ℕ) (f g : List ℕ) (r : Result ℕ (Split ℕ)) → Parted n r → Attempted n f g r
parted_attempted n f g (Ok D) x = absurd x
parted_attempted n f g (Err p) x = x

-- ---- two coprime factors

module _ {n p q : ℕ} (s : SplitOf n p q) where
  pub split_first : (t : ℕ) → n ≡ t → p < t
  split_first t e = let a : p * 2 ≤ p * q = mul-le-mul_left p s.above₂ in omega (arith, s.product, s.above₁)

  pub split_second : (t : ℕ) → n ≡ t → q < t
  split_second t e = let b : 2 * q ≤ p * q = mul-le-mul_right q s.above₁ in omega (arith, s.product, s.above₂)

  module _ {f g : List ℕ} {D₁ D₂ : ℕ} (x : Reduced p f g D₁) (y : Reduced q f g D₂) where
    pub product_below : (B : ℕ) → n < B → D₁ * D₂ < B
    product_below B h = let m : D₁ * D₂ ≤ n = subst (λ (z : ℕ). D₁ * D₂ ≤ z) s.product (mul-le-mul x.most y.most) in omega arith

    pub product_reduced : (r : ℕ) → r ≡ D₁ * D₂ → Reduced n f g r
    product_reduced r e = subst (Reduced n f g) (sym e) (subst (λ (z : ℕ). Reduced z f g (D₁ * D₂)) s.product
        (reduced_coprime (omega (arith, s.above₁)) (omega (arith, s.above₂)) s.coprime f g D₁ D₂ x y))

pub ruleset halves = (rules, half_positive, half_arrange, half_windows)

pub ruleset rounds = (rules, swapped_asked, whole_reduced, content_positive, content_some, parted_attempted)
