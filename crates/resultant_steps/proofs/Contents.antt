-- The content c of f and n = c m. Only f / c and g modulo m matter: the resultant of f and g is c^e times theirs.
--
--   factors            c m = n
--   content_law        the law, over lists
--   first_of, lent     the words of f as a call is lent them
--   cleared, cleared_none, left_none    what the division by c and the reduction modulo m leave; the content 1 needs neither
--   content_two, content_below, content_primitive   m is above 1, the words are residues of it, f / c is primitive modulo m
--   content_times      the value, from that modulo m
--   content_whole      c = n: the resultant is 0
--   clearing           the rules of the function that takes the content out
use mathlib.Core.Path.{◌≡◌, refl, sym, ap, ap₂, subst, ◌∙◌}
use mathlib.Core.List.{List}
use mathlib.Core.Logic.{⊎_elim}
use Prim.Native.Nat.{ℕ, zero, suc, ◌+◌, ◌-◌, ◌*◌, ◌/◌, ◌%◌, ◌^◌, ◌≤◌, ◌<◌, ◌∣◌}
use native.Mathlib.Omega.{arith}
use native.Mathlib.Nat.{div-one, mod-lt, mod-eq_of_lt, mod-mod, mul-div_cancel', pos_of_dvd_of_pos, pow-suc, mul-one, mul-zero, zero-add}
use native.Mathlib.Nat.{zero-mod, mul-le-mul_left, mul-dvd-mul_left, dvd-mul_left, dvd_of_mul-dvd-mul_left, dvd-one, mod-eq-zero_of_dvd}
use lib.ListN.{length, get_or}
use Rattle.definitions.specs.Polynomials.{coef, deg}
use Rattle.definitions.specs.Resultants.{resultant}
use Rattle.law_numbers.specs.Congruence.{c_refl, c_mul, c_mod}
use Rattle.law_polynomials.specs.ReachedSteps.{coef_beyond}
use Rattle.law_polynomials.specs.ResultantLaws.{resultant_cong, resultant_content, resultant_scale_first}
use borrow.Author.Rules.{rules}
use borrow.Rule.Slice.PartMut.{mid_of}
use Rattle.windows.specs.Window.{piece, Moved, quotient_by, reduced_by, Below, Content}
use Rattle.windows.proofs.Leaf.{lt_or_le, piece_at, piece_length}
use Rattle.resultant_steps.specs.Layouts.{Primitive, ContentCleared}
use Rattle.resultant_signs.specs.Degrees.{deg_of}

-- ---- numbers

-- c divides n: c m = n
pub factors : (n c : ℕ) → c ∣ n → c * (n / c) ≡ n
factors n c h = mul-div_cancel' c h

pub factor_above : (n c : ℕ) → 2 ≤ n → c ∣ n → (c ≡ n → ⊥) → (1 ≤ c) × (2 ≤ n / c)
factor_above n c l h ne = (pos_of_dvd_of_pos h (omega arith), above (n / c) (factors n c h))
  where
    above : (m : ℕ) → c * m ≡ n → 2 ≤ m
    above zero e = absurd (omega (arith, mul-zero c))
    above (suc zero) e = absurd (ne (omega arith))
    above (suc (suc m)) e = omega arith

quotient_lt : (c a b : ℕ) {x n : ℕ} → c * a ≡ x → c * b ≡ n → x < n → a < b
quotient_lt c a b {x} {n} h k l = ⊎_elim (λ p. p) (λ p. absurd (omega (arith, mul-le-mul_left c p))) (lt_or_le a b)

-- ---- lists

-- f = c f' and g' = g modulo m
module _ (n c m d e : ℕ) (f f' g g' : List ℕ) (product : c * m ≡ n) (lc : 1 ≤ c) (lm : 1 ≤ m) (le : 1 ≤ e)
    (lf : length f ≡ d + 1) (lf' : length f' ≡ d + 1) (lg : length g ≡ e + 1) (lg' : length g' ≡ e + 1)
    (first : (k : ℕ) → k < d + 1 → coef f k ≡ c * coef f' k) (second : (k : ℕ) → k < e + 1 → coef g' k ≡ coef g k % m) where
  scaled : (k : ℕ) → coef f k ≡ c * coef f' k
  scaled k = ⊎_elim (first k) (λ l. coef_beyond f k (omega arith)
      ∙ sym (ap (λ (x : ℕ). c * x) (coef_beyond f' k (omega arith)) ∙ mul-zero c)) (lt_or_le k (d + 1))

  reduced : (k : ℕ) → coef g k % m ≡ coef g' k % m
  reduced k =
      ⊎_elim (λ l. sym (ap (λ (x : ℕ). x % m) (second k l) ∙ mod-mod (coef g k) m))
      (λ l. ap (λ (x : ℕ). x % m) (coef_beyond g k (omega arith) ∙ sym (coef_beyond g' k (omega arith)))) (lt_or_le k (e + 1))

  same_resultant : resultant m f' g ≡ resultant m f' g'
  same_resultant = go m lm reduced
    where
      go : (m : ℕ) → 1 ≤ m → ((k : ℕ) → coef g k % m ≡ coef g' k % m) → resultant m f' g ≡ resultant m f' g'
      go zero l r = absurd (omega arith)
      go (suc m) l r = resultant_cong m f' f' g g' refl (deg_of g e lg ∙ sym (deg_of g' e lg')) (λ k. refl) r

  pub content_law : resultant n f g ≡ (c ^ e * resultant m f' g') % n
  content_law =
      ap (λ (x : ℕ). resultant x f g) (sym product)
      ∙ resultant_content c m lc lm f f' g (e - 1) (deg_of f d lf ∙ sym (deg_of f' d lf')) degree
      (record { at = λ k. ap (λ (x : ℕ). x % (c * m)) (scaled k) })
      ∙ ap₂ (λ (x y : ℕ). (c ^ x * y) % (c * m)) (deg_of g e lg) same_resultant
      ∙ ap (λ (x : ℕ). (c ^ e * resultant m f' g') % x) product
    where
      back : e ≡ suc (e - 1)
      back = omega arith

      degree : deg g ≡ suc (e - 1)
      degree = deg_of g e lg ∙ back

-- every word of f is 0 modulo n
pub none_law : (n d e : ℕ) (f g : List ℕ) → 1 ≤ n → 1 ≤ e → length f ≡ d + 1 → length g ≡ e + 1 → ((k : ℕ) → k < length f → n ∣ coef f k)
    → resultant n f g ≡ 0
none_law zero d e f g l le lf lg h = absurd (omega arith)
none_law (suc n) d e f g l le lf lg h =
    resultant_scale_first n 0 f f g refl (record {
      at = λ k. ⊎_elim (λ b. mod-eq-zero_of_dvd (suc n) (h k b) ∙ sym (nothing (coef f k)))
          (λ b. ap (λ (x : ℕ). x % suc n) (coef_beyond f k b) ∙ sym (nothing (coef f k) ∙ sym (zero-mod (suc n)))) (lt_or_le k (length f));
    })
    ∙ ap (λ (x : ℕ). (x * resultant (suc n) f g) % suc n) no_power
    ∙ nothing (resultant (suc n) f g)
  where
    nothing : (x : ℕ) → (0 * x) % suc n ≡ 0
    nothing x = ap (λ (y : ℕ). y % suc n) none ∙ zero-mod (suc n)
      where
        none : 0 * x ≡ 0
        none = omega arith

    back : e ≡ suc (e - 1)
    back = omega arith

    no_power : 0 ^ deg g ≡ 0
    no_power = ap (λ (x : ℕ). 0 ^ x) (deg_of g e lg ∙ back) ∙ pow-suc 0 (e - 1) ∙ mul-zero (0 ^ (e - 1))

-- ---- words: g of degree e at 0, f of degree d above it

-- the words of f as a call is lent them
abbrev pub first_of : ℕ → ℕ → List ℕ → List ℕ
first_of d e w = mid_of (e + 1) (e + 1 + (d + 1) - (e + 1)) w

pub lent : (P : List ℕ → Type 0) (d e : ℕ) (w : List ℕ) → P (first_of d e w) → P (piece w (e + 1) (d + 1))
unfolding piece
lent P d e w = let h : e + 1 + (d + 1) - (e + 1) ≡ d + 1 = omega arith in subst (λ (k : ℕ). P (mid_of (e + 1) k w)) h

module _ {n c : ℕ} {f : List ℕ} (h : Content n f c) (l : 1 ≤ n) where
  pub content_positive : 1 ≤ c
  content_positive = pos_of_dvd_of_pos h.divides_n l

  pub content_left : 1 ≤ n / c
  content_left = pos_of_dvd_of_pos (subst (λ (x : ℕ). n / c ∣ x) (factors n c h.divides_n) (dvd-mul_left (n / c) c)) l

module _ {n c : ℕ} (d e : ℕ) {w : List ℕ} (ct : Content n (first_of d e w) c) where
  pub cleared : {w₁ w₂ : List ℕ} {m : ℕ} → Moved (quotient_by c) (e + 1) (e + 1) (d + 1) w w₁ → Moved (reduced_by m) 0 0 (e + 1) w₁ w₂
      → m ≡ n / c → e + 1 + (d + 1) ≤ length w → {n' c' d' e' : ℕ} {w' w'' : List ℕ} → n' ≡ n → c' ≡ c → d' ≡ d → e' ≡ e → w' ≡ w → w'' ≡ w₂
      → ContentCleared n' d' e' c' w' w''
  cleared {w₁} {w₂} x y₀ em fits en ec ed ee ew ew₂ =
      let y : Moved (reduced_by (n / c)) 0 0 (e + 1) w₁ w₂ = rw em at y₀ in rw (en, ec, ed, ee, ew, ew₂) (record {
        content = lent (λ f. Content n f c) d e w ct;
        around = record {
          same = y.same ∙ x.same;
          low = λ k l. absurd (omega arith);
          high = λ k l. y.high k (omega arith) ∙ x.high k (omega arith);
        };
        first = λ k l. y.high (e + 1 + k) (omega arith) ∙ x.mid k l;
        second = λ k l. ap (λ (i : ℕ). get_or w₂ i 0) (sym (zero-add k)) ∙ y.mid k l
            ∙ ap (λ (i : ℕ). i % (n / c)) (ap (λ (i : ℕ). get_or w₁ i 0) (zero-add k) ∙ x.low k (omega arith));
      })

  -- the content 1: nothing is to be done
  pub cleared_none : c ≡ 1 → Below n 0 (e + 1) w → ContentCleared n d e c w w
  cleared_none one below = subst (λ (x : ℕ). ContentCleared n d e x w w) (sym one) (record {
    content = subst (Content n (piece w (e + 1) (d + 1))) one (lent (λ f. Content n f c) d e w ct);
    around = record { same = refl; low = λ k l. refl; high = λ k l. refl };
    first = λ k l. sym (div-one (get_or w (e + 1 + k) 0));
    second = λ k l. sym (ap (λ (x : ℕ). get_or w k 0 % x) (div-one n)
        ∙ mod-eq_of_lt (subst (λ (x : ℕ). get_or w x 0 < n) (zero-add k) (below.at k l)));
  })

pub left_none : {n c : ℕ} → c ≡ 1 → n ≡ n / c
left_none {n} e = sym (ap (λ (x : ℕ). n / x) e ∙ div-one n)

pub ruleset clearing = (rules, content_positive, content_left, cleared, cleared_none, left_none)

module _ (n c d e : ℕ) (w w' : List ℕ) (two : 2 ≤ n) (one : 1 ≤ d) (near : d ≤ e) (fits : e + 1 + (d + 1) ≤ length w)
    (below : Below n 0 (e + 1 + (d + 1)) w) (cl : ContentCleared n d e c w w') where
  lf : length (piece w (e + 1) (d + 1)) ≡ d + 1
  lf = piece_length w (e + 1) (d + 1) fits

  lf' : length (piece w' (e + 1) (d + 1)) ≡ d + 1
  lf' = piece_length w' (e + 1) (d + 1) (omega (arith, cl.around.same))

  lg : length (piece w 0 (e + 1)) ≡ e + 1
  lg = piece_length w 0 (e + 1) (omega arith)

  lg' : length (piece w' 0 (e + 1)) ≡ e + 1
  lg' = piece_length w' 0 (e + 1) (omega (arith, cl.around.same))

  divides : (k : ℕ) → k < d + 1 → c ∣ get_or w (e + 1 + k) 0
  divides k l = subst (λ (x : ℕ). c ∣ x) (piece_at w (e + 1) (d + 1) k l) (cl.content.divides k (omega (arith, lf)))

  first : (k : ℕ) → k < d + 1 → coef (piece w (e + 1) (d + 1)) k ≡ c * coef (piece w' (e + 1) (d + 1)) k
  first k l =
      piece_at w (e + 1) (d + 1) k l ∙ sym (mul-div_cancel' c (divides k l))
      ∙ ap (λ (x : ℕ). c * x) (sym (piece_at w' (e + 1) (d + 1) k l ∙ cl.first k l))

  second : (k : ℕ) → k < e + 1 → coef (piece w' 0 (e + 1)) k ≡ coef (piece w 0 (e + 1)) k % (n / c)
  second k l =
      piece_at w' 0 (e + 1) k l ∙ ap (λ (x : ℕ). get_or w' x 0) (zero-add k) ∙ cl.second k l
      ∙ ap (λ (x : ℕ). x % (n / c)) (sym (piece_at w 0 (e + 1) k l ∙ ap (λ (x : ℕ). get_or w x 0) (zero-add k)))

  -- c = n
  pub content_whole : c ≡ n → (0 ≡ resultant n (piece w (e + 1) (d + 1)) (piece w 0 (e + 1))) × (0 < n)
  content_whole h = (
    sym (none_law n d e (piece w (e + 1) (d + 1)) (piece w 0 (e + 1)) (omega arith) (omega arith) lf lg
        (λ k l. subst (λ (x : ℕ). x ∣ coef (piece w (e + 1) (d + 1)) k) h (cl.content.divides k l))),
    omega arith,
  )

  module _ (ne : c ≡ n → ⊥) where
    above : (1 ≤ c) × (2 ≤ n / c)
    above = factor_above n c two cl.content.divides_n ne

    pub content_two : 2 ≤ n / c
    content_two = above.1

    product : c * (n / c) ≡ n
    product = factors n c cl.content.divides_n

    -- what the attempt modulo n / c asks
    pub content_below : Below (n / c) 0 (e + 1 + (d + 1)) w'
    content_below = record {
      at = λ k l. ⊎_elim (λ b. in_second k b) (λ b. in_first k (k - (e + 1)) (omega arith) (omega arith))
          (lt_or_le k (e + 1));
    }
      where
        in_second : (k : ℕ) → k < e + 1 → get_or w' (0 + k) 0 < n / c
        in_second k l = subst (λ (x : ℕ). x < n / c) (sym (ap (λ (x : ℕ). get_or w' x 0) (zero-add k)
            ∙ cl.second k l)) (mod-lt (get_or w k 0) (omega (arith, above)))

        in_first : (k i : ℕ) → 0 + k ≡ e + 1 + i → i < d + 1 → get_or w' (0 + k) 0 < n / c
        in_first k i h l =
            subst (λ (x : ℕ). x < n / c) (sym (ap (λ (x : ℕ). get_or w' x 0) h ∙ cl.first i l))
            (quotient_lt c (get_or w (e + 1 + i) 0 / c) (n / c) (mul-div_cancel' c (divides i l)) product
            (subst (λ (x : ℕ). get_or w x 0 < n) (zero-add (e + 1 + i)) (below.at (e + 1 + i) (omega arith))))

    pub content_primitive : Primitive (n / c) (piece w' (e + 1) (d + 1))
    content_primitive = record {
      only = λ x p q. dvd-one.0 (dvd_of_mul-dvd-mul_left x above.0 (subst (λ (y : ℕ). c * x ∣ y) (sym (mul-one c))
          (cl.content.greatest (c * x) (subst (λ (y : ℕ). c * x ∣ y) product (mul-dvd-mul_left x c p))
          (λ k l. let b : k < d + 1 = omega (arith, lf) in
          subst (λ (y : ℕ). c * x ∣ y) (sym (first k b)) (mul-dvd-mul_left x c (q k (omega (arith, lf'))))))));
    }

    pub content_times : (p : ℕ) → p ≡ (c ^ e) % n
        → (p * resultant (n / c) (piece w' (e + 1) (d + 1)) (piece w' 0 (e + 1))) % n
        ≡ resultant n (piece w (e + 1) (d + 1)) (piece w 0 (e + 1))
    content_times p hp =
        ap (λ (x : ℕ). (x * resultant (n / c) (piece w' (e + 1) (d + 1)) (piece w' 0 (e + 1))) % n) hp ∙ (c_mul (c_mod (c ^ e)) c_refl).same
        ∙ sym (content_law n c (n / c) d e (piece w (e + 1) (d + 1)) (piece w' (e + 1) (d + 1)) (piece w 0 (e + 1))
        (piece w' 0 (e + 1)) product above.0 (omega (arith, above)) (omega arith)
        lf lf' lg lg' first second)
