-- The record of a modulus, from what its parts are found by.
--
--   some_bit, remainder_fits, form_odd    what the steps before it ask
--   found_held, found_plain               m is the record of n: its fields belong to n
--   finding                               the rules
use mathlib.Core.Path.{◌≡◌, refl, sym, ap, subst, ◌∙◌}
use mathlib.Core.Bool.{Bool, true, false}
use Prim.Native.Nat.{ℕ, zero, suc, ◌+◌, ◌-◌, ◌*◌, ◌%◌, ◌^◌, ◌≤◌, ◌<◌}
use native.Mathlib.Omega.{arith}
use native.Mathlib.Nat.{mod-eq_of_lt, add-mul-mod_self_left, mul_comm, pow-zero, pow-suc}
use mir.Syntax.{w32}
use mir.Val.{Fits}
use borrow.Author.Rules.{rules}
use lib.Count.{count_leading_zeros, leading_length}
use Rattle.definitions.specs.Residues.{K}
use Rattle.law_numbers.specs.Logarithm.{K_unique}
use Rattle.reduction.specs.Moduli.{Ready, open_ready}
use Rattle.reduction.specs.declared.Reciprocal.{Reciprocal}
use Rattle.montgomery.specs.Held.{Fitting, Fits as HasForm}
use Rattle.modulus.specs.declared.Modulus.{Modulus}
use Rattle.modulus.specs.Values.{ModulusOf}

-- n has K n + 1 of 32 bits
bits : (n : ℕ) → 1 ≤ n → n < 2 ^ 32 → count_leading_zeros 32 n + suc (K n) ≡ 32
bits n pos h = let s = leading_length 32 n h in go s.0 s.1 s.2 s.3
  where
    go : (j : ℕ) → count_leading_zeros 32 n + j ≡ 32 → n < 2 ^ j → 2 ^ j ≤ 2 * n + 1 → count_leading_zeros 32 n + suc (K n) ≡ 32
    go zero e lt le = absurd (omega (arith, pow-zero 2))
    go (suc j) e lt le =
        let k : K n ≡ j = K_unique n j (record { low = omega (arith, pow-suc 2 j, le); high = lt }) in
        omega (arith, e, k)

pub some_bit : (n : ℕ) → Fits w32 n → 1 ≤ n → count_leading_zeros 32 n ≤ 31
some_bit n h pos = omega (arith, bits n pos h.fits)

first_bit : (n : ℕ) → Fits w32 n → 1 ≤ n → 31 - count_leading_zeros 32 n ≡ K n
first_bit n h pos = omega (arith, bits n pos h.fits)

has_form : {n : ℕ} {b : Bool} → b ≡ true → Fitting n b → HasForm n
has_form {n} e t = subst (Fitting n) e t

pub form_odd : (n : ℕ) {b : Bool} → b ≡ true → Fitting n b → n % 2 ≡ 1
form_odd n e t = (has_form e t).odd

module _ {n : ℕ} (r : Reciprocal) (word : Fits w32 n) (pos : 1 ≤ n) (ok : Ready r) (e : r.n ≡ n) where
  small : r.c < n
  small = subst (λ (z : ℕ). r.c < z) e (open_ready ok).below

  pub remainder_fits : Fits w32 r.c
  remainder_fits = record { fits = omega (arith, small, word.fits) }

  again : Ready (record { n = n; v = r.v; c = r.c })
  again = subst (λ (z : ℕ). Ready (record { n = z; v = r.v; c = r.c })) e ok

  square : r.c ≡ (4294967296 * 4294967296) % n
  square =
      let o = open_ready again in
      sym (mod-eq_of_lt small) ∙ sym (add-mul-mod_self_left r.c n o.quotient)
      ∙ ap (λ (z : ℕ). z % n) (ap (λ (z : ℕ). r.c + z) (mul_comm n o.quotient) ∙ o.is)

  pub found_held : {m : Modulus} (b : Bool) (i : ℕ) → b ≡ true → Fitting n b → i < 4294967296 → (n * i) % 4294967296 ≡ 1
      → m ≡ record { wide = n; n = n; k = 31 - count_leading_zeros 32 n; held = 1; negative = 4294967295 - n + 1; v = r.v; c = r.c; inverse = i }
      → ModulusOf n m
  found_held b i eb told li inv em =
      let fits = has_form eb told in
      rw em (record {
        known = record {
          pos = pos;
          small = small;
          ready = again;
          formed = λ _. record { fits = fits; negative = omega (arith, fits.small); inverse = inv; word = li; square = square };
        };
        is = refl;
        wide = refl;
        k = first_bit n word pos;
        held = λ _. refl;
      })

  pub found_plain : {m : Modulus} (b : Bool) → b ≡ false → Fitting n b
      → m ≡ record { wide = n; n = n; k = 31 - count_leading_zeros 32 n; held = 0; negative = 0; v = r.v; c = r.c; inverse = 0 } → ModulusOf n m
  found_plain b eb told em =
      rw em (record {
        known = record { pos = pos; small = small; ready = again; formed = λ f. absurd (f refl) };
        is = refl;
        wide = refl;
        k = first_bit n word pos;
        held = λ fits. absurd (subst (Fitting n) eb told fits);
      })

pub ruleset finding = (rules, some_bit, remainder_fits, form_odd, found_held, found_plain)
