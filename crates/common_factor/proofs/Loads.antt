-- f and g are loaded modulo m, f first: what is said of the words in the buffer is said of f and g.
--
--   both_loaded      f and g, side by side
--   start_asked      what the search asks of the words in the buffer
--   ground_loaded    the ground for them is one for f and g
--   loadings         the rules
use mathlib.Core.Path.{◌≡◌, sym, ap, subst, ◌∙◌}
use mathlib.Core.List.{List}
use mathlib.Core.Logic.{⊎_elim}
use Prim.Native.Nat.{ℕ, ◌+◌, ◌%◌, ◌<◌, ◌≤◌, ◌∣◌}
use native.Mathlib.Nat.{mod-mod, dvd_refl}
use native.Mathlib.Omega.{arith}
use borrow.Author.Rules.{rules}
use lib.ListN.{length, get_or}
use Rattle.definitions.specs.Polynomials.{coef}
use Rattle.law_numbers.specs.Congruence.{c_trans, c_dvd, c_zero, dvd_c}
use Rattle.law_polynomials.specs.ReachedSteps.{coef_beyond}
use Rattle.modulus.specs.Values.{ModulusOf}
use Rattle.modulus.specs.declared.Modulus.{Modulus}
use Rattle.windows.specs.Window.{piece, Loaded, Scratch}
use Rattle.windows.proofs.Leaf.{piece_at, piece_over, lt_or_le}
use Rattle.common_factor.specs.Common.{OnlyZero}
use Rattle.common_factor.specs.CommonLaws.{only_zero_cong}
use Rattle.common_factor.specs.Searches.{StartAsked, SearchAsked, BothLoaded, GroundIn}
use Rattle.common_factor.specs.declared.Ground.{Ground}
use Rattle.common_factor.specs.declared.Ground.TheVariants.{Zero, Common}
use Rattle.common_factor.proofs.EuclidRounds.{common_cong}

loaded : (m a : ℕ) (f w : List ℕ) → ((i : ℕ) → i < length f → get_or w (a + i) 0 ≡ get_or f i 0 % m) → (k : ℕ)
    → coef (piece w a (length f)) k % m ≡ coef f k % m
loaded m a f w h k = ⊎_elim
    (λ (p : k < length f). ap (λ (x : ℕ). x % m) (piece_at w a (length f) k p ∙ h k p) ∙ mod-mod (coef f k) m)
    (λ (p : length f ≤ k). ap (λ (x : ℕ). x % m) (piece_over w a (length f) k p ∙ sym (coef_beyond f k p))) (lt_or_le k (length f))

pub both_loaded : {m : ℕ} {f g w w₁ w₂ : List ℕ} → Loaded m 0 f w w₁ → Loaded m (length f) g w₁ w₂ → BothLoaded m f g w w₂
both_loaded {m} {f} {g} {w} {w₁} {w₂} h₁ h₂ = record {
  same = h₂.same ∙ h₁.same;
  first = loaded m 0 f w₂ (λ i l. h₂.low (0 + i) (omega arith) ∙ h₁.mid i l);
  second = loaded m (length f) g w₂ h₂.mid;
}

-- m is the record of n
module _ {n : ℕ} {m : Modulus} {f g w w₂ : List ℕ} (o : ModulusOf n m) (q : SearchAsked n f g w) (h : BothLoaded n f g w w₂) where
  pub start_asked : {x y : ℕ} → x ≡ length f → y ≡ length g → StartAsked m.n x y w₂
  start_asked ex ey = rw (ex, ey) (record {
    two = subst (λ (x : ℕ). 2 ≤ x) (sym o.is) q.two;
    room = omega (arith, h.same, q.room);
    few_x = q.few_f;
    few_y = q.few_g;
    only = subst (λ (x : ℕ). OnlyZero x (piece w₂ 0 (length f)) (piece w₂ (length f) (length g))) (sym o.is)
        (only_zero_cong n (omega (arith, q.two)) _ _ _ _ (λ k. sym (h.first k)) (λ k. sym (h.second k)) q.only);
  })

  pub scratch : {w₃ : List ℕ} → Scratch w₂ w₃ → Scratch w w₃
  scratch s = record { same = s.same ∙ h.same }

  ground_back : (w' : List ℕ) (r : Ground) → GroundIn n (piece w₂ 0 (length f)) (piece w₂ (length f) (length g)) w' r → GroundIn n f g w' r
  ground_back w' (Zero m') z = record {
    divides = z.divides;
    two = z.two;
    first = record { at = λ k. down (coef f k) _ (h.first k) (z.first.at k) };
    second = record { at = λ k. down (coef g k) _ (h.second k) (z.second.at k) };
  }
    where
      down : (x y : ℕ) → y % n ≡ x % n → m' ∣ y → m' ∣ x
      down x y p h = dvd_c (c_trans (c_dvd z.divides (record { same = sym p })) (c_zero h))
  ground_back w' (Common _) x = common_cong x (dvd_refl n) (omega arith) h.first h.second

  pub ground_loaded : (w' : List ℕ) (r : Ground) → GroundIn m.n (piece w₂ 0 (length f)) (piece w₂ (length f) (length g)) w' r
      → GroundIn n f g w' r
  ground_loaded w' r x =
      ground_back w' r (subst (λ (t : ℕ). GroundIn t (piece w₂ 0 (length f)) (piece w₂ (length f) (length g)) w' r) o.is x)

pub ruleset loadings = (rules, both_loaded, start_asked, scratch, ground_loaded)
