-- A certificate of D: multipliers that reach it, and a ground that no smaller constant is reached, a monic polynomial of degree 1 or more
-- that divides both modulo D.
--
--   Ground D f g      w monic of degree t, f = w a and g = w b modulo D
--   ground_divides    then D divides what is reached
--   certified         D is the reduced resultant
--
-- Letters: n, f, g, D as in the definitions; c is a constant.
use Rattle.std.specs.Prelude.{◌≡◌, List, ℕ, zero, suc, ◌≤◌, ◌%◌, length}
use Rattle.std.proofs.Common.{◌∙◌, ap, mod-eq_of_lt, zero-lt-suc, arith}
use Rattle.std.specs.Int.{◌∣◌}
use native.Mathlib.Fin
use Rattle.std.proofs.Math.Nat.{dvd_of_mod-eq-zero}
use Rattle.definitions.specs.Polynomials.{coef, Multiplied}
use Rattle.definitions.specs.Resultants.{Reached, Reduced}
use Rattle.law_algebra.specs.Ideal.{grounded}
use Rattle.law_algebra.specs.Residues.{Res, toRes, Res_ring}
use Rattle.law_polynomials.specs.ReachedLaws.{words_finite, words_short, to_ring, reduced_from}
use Rattle.law_polynomials.specs.ReducedLaws.{reached_mod}
use Rattle.law_polynomials.specs.Words.{words, multiplied_is}

-- w monic of degree t ≥ 1 modulo D divides both
pub record Ground (D : ℕ) (f g : List ℕ) : Type 0 where
  pub w : List ℕ
  pub a : List ℕ
  pub b : List ℕ
  pub t : ℕ
  pub t_pos : 1 ≤ t
  pub top : coef w t % D ≡ 1 % D
  pub above : length w ≤ suc t
  pub left : Multiplied D f w a
  pub right : Multiplied D g w b

pub ground_divides : (D : ℕ) → 1 ≤ D → (f g : List ℕ) → Ground D f g → (c : ℕ) → Reached D f g c → D ∣ c
ground_divides zero l f g G c r = absurd (omega arith)
ground_divides (suc m) l f g G c r =
    dvd_of_mod-eq-zero (suc m) (ap (λ (z : Res m). z.0) (grounded (Res_ring m) G.t (words m G.w) (words m G.a) (words m G.b)
    (toRes m c) G.t_pos
    (Fin.val_path G.top) (record { out = λ k h. (words_short m G.w).out k (omega (arith, G.above)) }) (words_finite m G.a)
    (words_finite m G.b)
    (rw (multiplied_is m f G.w G.a G.left, multiplied_is m g G.w G.b G.right) at (to_ring m r)))
    ∙ mod-eq_of_lt (zero-lt-suc m))

pub certified : (n D : ℕ) (f g : List ℕ) → 1 ≤ n → D ∣ n → 1 ≤ D → D ≤ n → Reached n f g D → Ground D f g → Reduced n f g D
certified n D f g l d p q r G = reduced_from n D f g l d p q r (λ c x. ground_divides D p f g G c (reached_mod D n f g c d x))
