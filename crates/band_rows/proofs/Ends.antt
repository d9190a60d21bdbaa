-- What coming in and leaving promise, at each place where the code returns.
--
--   came_both, came_first, came_second, came_none    what coming in promises, by cases
--   left_last, left_other                            what leaving promises, by cases
--   comings, leavings                                the rules
use mathlib.Core.Path.{◌≡◌, refl, sym, ap, ◌∙◌, subst}
use mathlib.Core.List.{List}
use Prim.Native.Nat.{ℕ, suc, ◌+◌, ◌*◌, ◌-◌, ◌%◌, ◌<◌, ◌≤◌}
use native.Mathlib.Nat.{mod-lt}
use native.Mathlib.Omega.{arith}
use lib.ListN.{get_or}
use Rattle.law_polynomials.specs.ResultantLaws.{signed}
use Rattle.windows.specs.Window.{Moved, second}
use Rattle.band_clearing.specs.Bands.{Band, RowEntered, Shifted, LeaveAsked, RowLeft, ComeAsked, CameIn}
use Rattle.band_rows.proofs.ColumnTurns.{band_cast, entering_both, entering_first, entering_second, entering_none}
use Rattle.band_rows.proofs.ColumnTurns.{leaving_last, leaving_other}

module _ {n : ℕ} {f g : List ℕ} {d e j l x : ℕ} {w : List ℕ} (a : ComeAsked n f g d e j l x w) where
  both_first : j < e → j < d → l + suc (d - 1 - j) ≡ d
  both_first p q = omega (arith, a.count)

  both_second : j < e → j < d → l + suc (e - 1 - j) ≡ e
  both_second p q = omega (arith, a.count)

  pub came_both : {x' : ℕ} {w₁ w₂ : List ℕ} → j < e → j < d → RowEntered l f 49 (e - 1 - j) w w₁ → RowEntered (l + 1) g 97 (d - 1 - j) w₁ w₂
      → x' ≡ signed n (e - 1 - j) x → CameIn n f g d e j l x w (l + 2) x' w₂
  came_both {x'} {w₁} {w₂} p q F G h = record {
    count = omega (arith, a.count);
    band = λ b shape rf rg t. subst (λ (y : ℕ). Band n f g b d e 1 (l + 2) (e - (j + 1)) (d - (j + 1)) y w₂) (sym h)
        (band_cast (omega arith) (omega arith) (omega arith)
        (entering_both n f g b d e a.modulus shape a.first a.second rf rg l (e - 1 - j) (d - 1 - j) x w w₁ w₂ (both_first p q)
        (both_second p q) F (subst (λ (y : ℕ). RowEntered y g 97 (d - 1 - j) w₁ w₂) one G)
        (band_cast refl (omega arith) (omega arith) t)));
  }
    where
      one : l + 1 ≡ suc l
      one = omega arith

  pub came_first : {w₁ : List ℕ} → j < e → d ≤ j → RowEntered l f 49 (e - 1 - j) w w₁ → CameIn n f g d e j l x w (l + 1) x w₁
  came_first {w₁} p q F = record {
    count = omega (arith, a.count);
    band = λ b shape rf rg t. band_cast (omega arith) (omega arith) (omega arith)
        (entering_first n f g b d e a.modulus shape a.first a.second rf rg l (e - 1 - j) x w w₁ (omega arith)
        (omega (arith, a.count)) F (band_cast refl (omega arith) (omega arith) t));
  }

  pub came_second : {w₁ : List ℕ} → e ≤ j → j < d → RowEntered l g 97 (d - 1 - j) w w₁ → CameIn n f g d e j l x w (l + 1) x w₁
  came_second {w₁} p q G = record {
    count = omega (arith, a.count);
    band = λ b shape rf rg t. band_cast (omega arith) (omega arith) (omega arith)
        (entering_second n f g b d e a.modulus shape a.first a.second rf rg l (d - 1 - j) x w w₁ (omega arith)
        (omega (arith, a.count)) G (band_cast refl (omega arith) (omega arith) t));
  }

  pub came_none : e ≤ j → d ≤ j → CameIn n f g d e j l x w l x w
  came_none p q = record {
    count = omega (arith, a.count);
    band = λ b shape rf rg t. band_cast refl (omega arith) (omega arith)
        (entering_none n f g b d e a.modulus shape a.first a.second rf rg l x w (band_cast refl (omega arith) (omega arith) t));
  }

-- ---- leaving

pub residue_small : (r a n : ℕ) → r ≡ a % n → 1 ≤ n → r < n
residue_small r a n h pos = omega (arith, h, mod-lt a {m = n} pos)

module _ {n b t l x : ℕ} {w : List ℕ} (a : LeaveAsked n b t l x w) where
  pub left_last : {z y : ℕ} {w' : List ℕ} → t ≡ l → Shifted l b w w' → z ≡ (x * get_or w (145 * t) 0) % n → y ≡ signed n l z
      → RowLeft n b t l x w w' y
  left_last {z} {y} {w'} h s hz hy = record {
    band = λ f g d e p q shape zs u. subst (λ (v : ℕ). Band n f g b d e 0 l p q v w')
        (sym (hy ∙ ap (signed n l) (hz ∙ ap (λ (i : ℕ). (x * get_or w (145 * i) 0) % n) h)))
        (leaving_last n f g b d e l p q x w a.modulus shape u w' (λ r i v. zs r i (λ k. v (k ∙ h))) s);
  }

  pub left_other : {v z y : ℕ} {w₁ w' : List ℕ} → (t ≡ l → ⊥) → Moved second (145 * l) (145 * t) 145 w w₁ → Shifted l b w₁ w'
      → v ≡ (n - x) % n → z ≡ (v * get_or w (145 * t) 0) % n → y ≡ signed n l z → RowLeft n b t l x w w' y
  left_other {v} {z} {y} {w₁} {w'} h c s hv hz hy = record {
    band = λ f g d e p q shape zs u. subst (λ (k : ℕ). Band n f g b d e 0 l p q k w')
        (sym (hy ∙ ap (signed n l) (hz ∙ ap (λ (k : ℕ). (k * get_or w (145 * t) 0) % n) hv)))
        (leaving_other n f g b d e l p q x w a.modulus shape u t w₁ w' (omega (arith, a.row)) zs c s);
  }

pub ruleset comings = (came_both, came_first, came_second, came_none)

pub ruleset leavings = (residue_small, left_last, left_other)
