-- Exact quotients: by a unit polynomial, and by the monic H. The rules take what the calls promise, as the code hands it over, for words of
-- any width.
--
--   over-…        the calls of `over_first`, and what it promises
--   quotient-…    the calls of `exact_quotient`, and what it promises
--   overs, quotients    the rules
use mathlib.Core.Path.{◌≡◌, refl, sym, ap, ap₂, subst, ◌∙◌}
use mathlib.Core.List.{List, []}
use mathlib.Core.Logic.{⊎_elim}
use Prim.Native.Nat.{ℕ, zero, suc, ◌+◌, ◌-◌, ◌*◌, ◌%◌, ◌≤◌, ◌<◌}
use native.Mathlib.Omega.{arith}
use native.Mathlib.Nat.{mod-lt, mod-mod, zero-mod, one-mul, add-zero, zero-add, mul-le-mul_right}
use lib.ListN.{length, get_or, set, take, drop, replicate, length-set}
use lib.Seq.{get_or-set_same, get_or-set_other}
use Rattle.definitions.specs.Residues.{K}
use Rattle.definitions.specs.Polynomials.{coef, convolve, constant, Divided}
use Rattle.law_numbers.specs.Congruence.{c_refl, c_trans, c_eq, c_add, c_mod}
use Rattle.law_polynomials.specs.ReachedSteps.{coef_beyond}
use Rattle.convolution.specs.Sums.{zeros_at}
use Rattle.windows.specs.Window.{piece, Moved, zeroed, Loaded, Below, Around, Apart, Scratch}
use Rattle.windows.proofs.Leaf.{lt_or_le, piece_at, piece_over, piece_length}
use Rattle.windows.proofs.Lift.{moved_around}
use Rattle.window_division.specs.Remainders.{DivisionLengthsAsked, Pair, Quotient}
use Rattle.reduced_products.specs.Products.{ProductAsked, Factors, Subtracted}
use Rattle.reduced_units.specs.Factorings.{Negated}
use Rattle.reduced_units.proofs.Regions.{apart_low, below_apart, piece_apart, part_piece}
use Rattle.reduced_quotients.specs.Quotients.{OverUnitAsked, OverFirst, ExactQuotientAsked, ExactQuotient}

-- ---- by a unit polynomial

module _ {n up k zp lz len : ℕ} {w w₁ x₀ : List ℕ} (asked : OverUnitAsked n up k zp lz w x₀) (ng : Negated n up k len w w₁) where
  some : 1 ≤ len
  some = omega (arith, ng.is_len)

  short : len ≤ K n * k + 1
  short = omega (arith, ng.is_len, mul-le-mul_right k (fewer (K n)))
    where
      fewer : (x : ℕ) → x - 1 ≤ x
      fewer x = omega arith

  pub over_room : up + (k + 1) + len + (len + lz - 1) ≤ length w₁
  over_room = omega (arith, short, ng.around.same)

  module _ {w₂ : List ℕ} (cl : Moved zeroed (up + (k + 1) + len) (up + (k + 1) + len) (len + lz - 1) w₁ w₂) where
    cleared : Around (up + (k + 1) + len) (len + lz - 1) w₁ w₂
    cleared = moved_around cl

    pub over_bounds : ProductAsked n (up + (k + 1)) len zp lz (up + (k + 1) + len) w₂
    over_bounds = let r = over_room in let s = cl.same in
        record {
          modulus = omega arith;
          some_first = some;
          some_second = asked.some;
          first = omega arith;
          second = omega arith;
          product = omega arith;
        }

    pub over_factors : Factors n (up + (k + 1)) len zp lz (up + (k + 1) + len) w₂
    over_factors = record {
      first = below_apart (apart_low (up + (k + 1)) len (up + (k + 1) + len) (len + lz - 1) (omega arith)) cleared ng.below;
      second = below_apart (apart_low zp lz (up + (k + 1) + len) (len + lz - 1) (omega arith)) cleared
          (below_apart (apart_low zp lz (up + (k + 1)) len (omega arith)) ng.around asked.below);
      product = record { at = λ i h. subst (λ (x : ℕ). x < n) (sym (cl.mid i h)) (omega arith) };
      apart_first = apart_low (up + (k + 1)) len (up + (k + 1) + len) (len + lz - 1) (omega arith);
      apart_second = apart_low zp lz (up + (k + 1) + len) (len + lz - 1) (omega arith);
    }

    module _ {w₃ : List ℕ} (sb : Subtracted n (up + (k + 1)) len zp lz (up + (k + 1) + len) w₂ w₃) where
      pub over_part : up + (k + 1) + len + (len + lz - 1) ≤ length w₃
      over_part = omega (arith, over_room, cl.same, sb.around.same)

      pub over_scratch : Scratch w w₃
      over_scratch = record { same = sb.around.same ∙ cl.same ∙ ng.around.same }

      -- the words of the product, as they are lent
      abbrev lent : List ℕ
      lent = take (up + (k + 1) + len + (len + lz - 1) - (up + (k + 1) + len)) (drop (up + (k + 1) + len) w₃)

      is_lent : lent ≡ piece w₃ (up + (k + 1) + len) (len + lz - 1)
      is_lent =
          part_piece w₃ (up + (k + 1) + len) (len + lz - 1) (up + (k + 1) + len + (len + lz - 1) - (up + (k + 1) + len)) (omega arith)

      length_s : length (piece w₃ (up + (k + 1) + len) (len + lz - 1)) ≡ len + lz - 1
      length_s = piece_length w₃ (up + (k + 1) + len) (len + lz - 1) (omega (arith, over_room, cl.same, sb.around.same))

      pub over_place : length lent ≤ length x₀
      over_place =
          subst (λ (f : List ℕ). length f ≤ length x₀) (sym is_lent) (omega (arith, length_s, asked.quotient, ng.is_len))

      same_z : piece w₂ zp lz ≡ piece w zp lz
      same_z =
          piece_apart (apart_low zp lz (up + (k + 1) + len) (len + lz - 1) (omega arith)) cleared (omega (arith, over_room))
          ∙ piece_apart (apart_low zp lz (up + (k + 1)) len (omega arith)) ng.around (omega arith)

      same_j : piece w₂ (up + (k + 1)) len ≡ piece w₁ (up + (k + 1)) len
      same_j = piece_apart (apart_low (up + (k + 1)) len (up + (k + 1) + len) (len + lz - 1) (omega arith)) cleared
          (omega (arith, over_room))

      none : (i : ℕ) → coef (piece w₂ (up + (k + 1) + len) (len + lz - 1)) i ≡ coef [] i
      none i = ⊎_elim
          (λ h. piece_at w₂ (up + (k + 1) + len) (len + lz - 1) i h ∙ cl.mid i h)
          (λ h. piece_over w₂ (up + (k + 1) + len) (len + lz - 1) i h)
          (lt_or_le i (len + lz - 1)) ∙ sym (coef_beyond [] i (omega arith))

      module _ {x : List ℕ} (ld : Loaded n 0 lent (replicate (length x₀) 0) x) where
        loaded : Loaded n 0 (piece w₃ (up + (k + 1) + len) (len + lz - 1)) (replicate (length x₀) 0) x
        loaded = subst (λ (f : List ℕ). Loaded n 0 f (replicate (length x₀) 0) x) is_lent ld

        -- a word of x
        word : (i : ℕ) → coef x i ≡ coef (piece w₃ (up + (k + 1) + len) (len + lz - 1)) i % n
        word i = ⊎_elim
            (λ h. ap (λ (y : ℕ). get_or x y 0) (sym (zero-add i)) ∙ loaded.mid i (omega (arith, length_s)))
            (λ h. loaded.high i (omega (arith, length_s)) ∙ zeros_at (length x₀) i ∙ sym (ap (λ (y : ℕ). y % n)
            (piece_over w₃ (up + (k + 1) + len) (len + lz - 1) i h) ∙ zero-mod n))
            (lt_or_le i (len + lz - 1))

        pub over_first : OverFirst n up k zp lz w x
        over_first = record {
          j = piece w₁ (up + (k + 1)) len;
          inverse = ng.inverse;
          divided = record {
            at = λ i.
                (c_trans (c_add (c_refl {a = convolve (coef (piece w₁ (up + (k + 1)) len)) (coef (piece w zp lz)) i})
                (c_trans (c_eq (word i)) (c_mod _)))
                (c_trans (c_eq (ap₂ (λ (f g : List ℕ). convolve (coef f) (coef g) i + coef (piece w₃ (up + (k + 1) + len) (len + lz - 1))
                i) (sym same_j) (sym same_z)))
                (c_trans (record { same = sb.divided.at i }) (c_eq (none i))))).same;
          };
          below = λ i. subst (λ (y : ℕ). y < n) (sym (word i)) (mod-lt _ (omega arith));
          short = λ i h. word i ∙ ap (λ (y : ℕ). y % n) (piece_over w₃ (up + (k + 1) + len) (len + lz - 1) i (omega (arith, ng.is_len)))
              ∙ zero-mod n;
        }

-- ---- by H

module _ {n e q t v : ℕ} {w w₁ : List ℕ} (c : ℕ) (asked : ExactQuotientAsked n e q t w) (below_h : Below n q (t + 1) w)
    (lead : get_or w (q + t) 0 ≡ 1) (below_v : Below n (q + (t + 1)) t w)
    (cl : Moved zeroed (q + 2 * (t + 1)) (q + 2 * (t + 1)) (t + e + 1) w w₁) (is_v : v ≡ c % n) where
  quotient_start : Around (q + 2 * (t + 1)) (t + e + 1) w (set w₁ (q + 2 * (t + 1)) v)
  quotient_start = record {
    same = length-set w₁ (q + 2 * (t + 1)) v ∙ cl.same;
    low = λ k h. get_or-set_other w₁ (q + 2 * (t + 1)) k v 0 (omega arith) ∙ cl.low k h;
    high = λ k h. get_or-set_other w₁ (q + 2 * (t + 1)) k v 0 (omega arith) ∙ cl.high k h;
  }

  -- the words of the constant
  first_word : (k : ℕ) → k < t + e + 1 → get_or (set w₁ (q + 2 * (t + 1)) v) (q + 2 * (t + 1) + k) 0 ≡ constant v k
  first_word zero h = ap (λ (x : ℕ). get_or (set w₁ (q + 2 * (t + 1)) v) x 0) (add-zero (q + 2 * (t + 1))) ∙ get_or-set_same w₁
      (q + 2 * (t + 1)) v 0 (omega (arith, cl.same))
  first_word (suc k) h = get_or-set_other w₁ (q + 2 * (t + 1)) (q + 2 * (t + 1) + suc k) v 0 (omega arith) ∙ cl.mid (suc k) h

  small : (k : ℕ) → constant v k < n
  small zero = subst (λ (x : ℕ). x < n) (sym is_v) (mod-lt c (omega arith))
  small (suc k) = omega arith

  below_start : Below n (q + 2 * (t + 1)) (t + e + 1) (set w₁ (q + 2 * (t + 1)) v)
  below_start = record { at = λ k h. subst (λ (x : ℕ). x < n) (sym (first_word k h)) (small k) }

  bounds : ProductAsked n (q + (t + 1)) t 0 (e + 1) (q + 2 * (t + 1)) (set w₁ (q + 2 * (t + 1)) v)
  bounds = let s = quotient_start.same in
      record {
        modulus = omega arith;
        some_first = asked.degree;
        some_second = omega arith;
        first = omega arith;
        second = omega arith;
        product = omega arith;
      }

  factors : Factors n (q + (t + 1)) t 0 (e + 1) (q + 2 * (t + 1)) (set w₁ (q + 2 * (t + 1)) v)
  factors = record {
    first = below_apart (apart_low (q + (t + 1)) t (q + 2 * (t + 1)) (t + e + 1) (omega arith)) quotient_start below_v;
    second = below_apart (apart_low 0 (e + 1) (q + 2 * (t + 1)) (t + e + 1) (omega arith)) quotient_start asked.second;
    product = record { at = λ k h. below_start.at k (omega arith) };
    apart_first = apart_low (q + (t + 1)) t (q + 2 * (t + 1)) (t + (e + 1) - 1) (omega arith);
    apart_second = apart_low 0 (e + 1) (q + 2 * (t + 1)) (t + (e + 1) - 1) (omega arith);
  }

  module _ {n' p lp z lz dst : ℕ} {u : List ℕ} (en : n' ≡ n) (ep : p ≡ q + (t + 1)) (el : lp ≡ t) (ez : z ≡ 0) (em : lz ≡ e + 1)
      (ed : dst ≡ q + 2 * (t + 1)) (eu : u ≡ set w₁ (q + 2 * (t + 1)) v) where
    pub quotient_bounds : ProductAsked n' p lp z lz dst u
    quotient_bounds = rw (en, ep, el, ez, em, ed, eu) bounds

    pub quotient_factors : Factors n' p lp z lz dst u
    quotient_factors = rw (en, ep, el, ez, em, ed, eu) factors

  module _ {w₃ : List ℕ} (sb : Subtracted n (q + (t + 1)) t 0 (e + 1) (q + 2 * (t + 1)) (set w₁ (q + 2 * (t + 1)) v) w₃) where
    later : Around (q + 2 * (t + 1)) (t + e + 1) (set w₁ (q + 2 * (t + 1)) v) w₃
    later = record { same = sb.around.same; low = λ k h. sb.around.low k h; high = λ k h. sb.around.high k (omega arith) }

    apart_h : Apart q (t + 1) (q + 2 * (t + 1)) (t + e + 1)
    apart_h = apart_low q (t + 1) (q + 2 * (t + 1)) (t + e + 1) (omega arith)

    top : get_or w₃ (q + 2 * (t + 1) + (t + e)) 0 ≡ 0
    top = sb.around.high (q + 2 * (t + 1) + (t + e)) (omega arith) ∙ first_word (t + e) (omega arith) ∙ nought (t + e) (omega arith)
      where
        nought : (k : ℕ) → 1 ≤ k → constant v k ≡ 0
        nought zero h = absurd (omega arith)
        nought (suc k) h = refl

    pair : Pair n q t (q + 2 * (t + 1)) (t + e) w₃
    pair = record {
      first = below_apart apart_h later (below_apart apart_h quotient_start below_h);
      second = record {
        at = λ k h. ⊎_elim (λ b. sb.below.at k (omega arith))
            (λ b. let here : t + e ≡ k = omega arith in subst (λ (x : ℕ). get_or w₃ (q + 2 * (t + 1) + x) 0 < n) here
            (subst (λ (x : ℕ). x < n) (sym top) (omega arith))) (lt_or_le k (t + e));
      };
      apart = record { ok = λ i j a b h. omega arith };
    }

    lead₃ : get_or w₃ (q + t) 0 ≡ 1
    lead₃ = later.low (q + t) (omega arith) ∙ quotient_start.low (q + t) (omega arith) ∙ lead

    pub quotient_unit : (n' q' t' : ℕ) (u : List ℕ) → n' ≡ n → q' ≡ q → t' ≡ t → u ≡ w₃ → (1 * get_or u (q' + t') 0) % n' ≡ 1 % n'
    quotient_unit n' q' t' u en eq et eu = rw (en, eq, et, eu) (ap (λ (x : ℕ). x % n) (one-mul _ ∙ lead₃))

    sizes : DivisionLengthsAsked n q t (q + 2 * (t + 1)) (t + e) w₃
    sizes = let s = later.same in let r = quotient_start.same in
        record { modulus = omega arith; degree = asked.degree; near = omega arith; divisor = omega arith; dividend = omega arith }

    module _ {n' q' t' b e' : ℕ} {u : List ℕ} (en : n' ≡ n) (eq : q' ≡ q) (et : t' ≡ t) (eb : b ≡ q + 2 * (t + 1)) (ee : e' ≡ t + e)
        (eu : u ≡ w₃) where
      pub quotient_sizes : DivisionLengthsAsked n' q' t' b e' u
      quotient_sizes = rw (en, eq, et, eb, ee, eu) sizes

      pub quotient_pair : Pair n' q' t' b e' u
      quotient_pair = rw (en, eq, et, eb, ee, eu) pair

    module _ {w₄ : List ℕ} (dv : Quotient n q t (q + 2 * (t + 1)) (t + e) w₃ w₄) where
      same_g : piece (set w₁ (q + 2 * (t + 1)) v) 0 (e + 1) ≡ piece w 0 (e + 1)
      same_g = piece_apart (apart_low 0 (e + 1) (q + 2 * (t + 1)) (t + e + 1) (omega arith)) quotient_start (omega arith)

      same_v : piece (set w₁ (q + 2 * (t + 1)) v) (q + (t + 1)) t ≡ piece w (q + (t + 1)) t
      same_v = piece_apart (apart_low (q + (t + 1)) t (q + 2 * (t + 1)) (t + e + 1) (omega arith)) quotient_start (omega arith)

      same_h : piece w₃ q (t + 1) ≡ piece w q (t + 1)
      same_h = piece_apart apart_h later (omega (arith, quotient_start.same)) ∙ piece_apart apart_h quotient_start (omega arith)

      -- one more word, a zero
      longer : (k : ℕ) → coef (piece w₃ (q + 2 * (t + 1)) (t + e + 1)) k ≡ coef (piece w₃ (q + 2 * (t + 1)) (t + (e + 1) - 1)) k
      longer k = ⊎_elim
          (λ h. piece_at w₃ (q + 2 * (t + 1)) (t + e + 1) k (omega arith) ∙ sym (piece_at w₃ (q + 2 * (t + 1)) (t + (e + 1) - 1) k
          (omega arith)))
          (λ h. ⊎_elim
          (λ b. let here : k ≡ t + e = omega arith in piece_at w₃ (q + 2 * (t + 1)) (t + e + 1) k b ∙ ap (λ (x : ℕ). get_or w₃
          (q + 2 * (t + 1) + x) 0) here ∙ top)
          (λ b. piece_over w₃ (q + 2 * (t + 1)) (t + e + 1) k b) (lt_or_le k (t + e + 1))
          ∙ sym (piece_over w₃ (q + 2 * (t + 1)) (t + (e + 1) - 1) k (omega arith)))
          (lt_or_le k (t + e))

      start_at : (k : ℕ) → coef (piece (set w₁ (q + 2 * (t + 1)) v) (q + 2 * (t + 1)) (t + (e + 1) - 1)) k % n ≡ constant c k % n
      start_at k = ⊎_elim
          (λ h. ap (λ (x : ℕ). x % n) (piece_at (set w₁ (q + 2 * (t + 1)) v) (q + 2 * (t + 1)) (t + (e + 1) - 1) k h ∙ first_word k
          (omega arith)) ∙ same k)
          (λ h. ap (λ (x : ℕ). x % n) (piece_over (set w₁ (q + 2 * (t + 1)) v) (q + 2 * (t + 1)) (t + (e + 1) - 1) k h) ∙ ap
          (λ (x : ℕ). x % n) (sym (nought k (omega arith))))
          (lt_or_le k (t + (e + 1) - 1))
        where
          same : (k : ℕ) → constant v k % n ≡ constant c k % n
          same zero = ap (λ (x : ℕ). x % n) is_v ∙ mod-mod c n
          same (suc k) = refl

          nought : (k : ℕ) → 1 ≤ k → constant c k ≡ 0
          nought zero h = absurd (omega arith)
          nought (suc k) h = refl

      less : t + e + 1 - t ≡ e + 1
      less = omega arith

      pub quotient_length : length w₄ ≡ length w
      quotient_length = dv.around.same ∙ sb.around.same ∙ quotient_start.same

      pub quotient_exact : ExactQuotient n e q t c w w₄
      quotient_exact = record {
        around = record {
          same = quotient_length;
          low = λ k h. dv.around.low k h ∙ later.low k h ∙ quotient_start.low k h;
          high = λ k h. dv.around.high k (omega arith) ∙ later.high k h ∙ quotient_start.high k h;
        };
        below = dv.below;
        s = piece (set w₁ (q + 2 * (t + 1)) v) (q + 2 * (t + 1)) (t + (e + 1) - 1);
        r = piece w₃ (q + 2 * (t + 1)) (t + e + 1);
        start = start_at;
        product = record {
          at = λ k.
              ap₂ (λ (f g : List ℕ). (convolve (coef f) (coef g) k + coef (piece w₃ (q + 2 * (t + 1)) (t + e + 1)) k) % n)
              (sym same_v) (sym same_g)
              ∙ ap (λ (x : ℕ). (convolve (coef (piece (set w₁ (q + 2 * (t + 1)) v) (q + (t + 1)) t))
              (coef (piece (set w₁ (q + 2 * (t + 1)) v) 0 (e + 1))) k + x) % n) (longer k) ∙ sb.divided.at k;
        };
        divided = subst (λ (x : ℕ). Divided n (piece w₃ (q + 2 * (t + 1)) (t + e + 1)) (piece w q (t + 1)) (piece w₄ (q + 2 * (t + 1) + t)
            x) (piece w₄ (q + 2 * (t + 1)) t)) less
            (subst (λ (f : List ℕ). Divided n (piece w₃ (q + 2 * (t + 1)) (t + e + 1)) f (piece w₄ (q + 2 * (t + 1) + t) (t + e + 1 - t))
            (piece w₄ (q + 2 * (t + 1)) t)) same_h dv.divided);
      }

pub ruleset overs = (over_room, over_bounds, over_factors, over_part, over_place, over_first, over_scratch)

pub ruleset quotients = (
  quotient_bounds,
  quotient_factors,
  quotient_sizes,
  quotient_pair,
  quotient_unit,
  quotient_length,
  quotient_exact,
)
