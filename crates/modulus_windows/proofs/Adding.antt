-- Multiples of words that are added to others: entered multipliers make of words as they are what the multipliers themselves make.
--
--   paired_held, moved_held, scaled_entered    what the held loops make, with 1 entered for the words at dst
--   clear_of                                   what the other loops ask
--   additions                                  the rules
use mathlib.Core.Path.{◌≡◌, refl, ap, subst, ◌∙◌}
use mathlib.Core.List.{List}
use Prim.Native.Nat.{ℕ, ◌+◌, ◌*◌, ◌%◌, ◌≤◌, ◌<◌}
use native.Mathlib.Nat.{one-mul, zero-mul, add-zero, le_of_lt}
use native.Mathlib.Omega.{arith}
use lib.ListN.{length, get_or}
use Rattle.law_numbers.specs.Congruence.{Cong, c_refl, c_trans, c_eq, c_mod, c_add, c_mul}
use Rattle.windows.specs.Window.{Clear, Apart, Below, PairAsked, Paired, Moved, Written, addMul, mulBy, behind}
use Rattle.window_combining.specs.Combined.{combination}
use Rattle.montgomery.specs.Held.{plain}
use Rattle.montgomery.specs.Decoding.{plain_none}
use Rattle.modulus.specs.declared.Modulus.{Modulus}
use Rattle.modulus.specs.Values.{Known, value}
use Rattle.modulus.proofs.Valuing.{value_held, formed_of, ready_of}

-- what an entered multiplier is modulo n
entered : (m : Modulus) (a x : ℕ) → (m.held ≡ 0 → ⊥) → value m x ≡ a % m.n → Cong m.n (plain m.n x) a
entered m a x h e = c_trans (c_eq (subst (λ (u : ℕ → ℕ). u x ≡ a % m.n) (value_held m h) e)) (c_mod a)

module _ (m : Modulus) (known : Known m) (held : m.held ≡ 0 → ⊥) {src dst len : ℕ} {w w' : List ℕ} where
  pub paired_held : (l x y c e : ℕ)
      → Written (combination m.n (plain m.n l) (plain m.n x) (plain m.n y) src dst w) dst len w w'
      → value m l ≡ 1 % m.n → value m x ≡ c % m.n → value m y ≡ e % m.n → Paired m.n c e src dst len w w'
  unfolding combination
  paired_held l x y c e wr hl hx hy = record {
    same = wr.same;
    low = wr.low;
    mid = λ i g. wr.mid i g ∙ (c_add (c_add (c_trans (c_mul (entered m 1 l held hl) c_refl) (c_eq (one-mul _)))
        (c_mul (entered m c x held hx) c_refl)) (c_mul (entered m e y held hy) c_refl)).same;
    high = wr.high;
  }

  pub moved_held : (l x c : ℕ)
      → Written (combination m.n (plain m.n l) (plain m.n 0) (plain m.n x) src dst w) dst len w w'
      → value m l ≡ 1 % m.n → value m x ≡ c % m.n → Moved (addMul m.n c) src dst len w w'
  unfolding combination
  moved_held l x c wr hl hx = record {
    same = wr.same;
    low = wr.low;
    mid = λ i g. wr.mid i g ∙ (c_add (c_trans (c_add (c_trans (c_mul (entered m 1 l held hl) c_refl) (c_eq (one-mul _)))
        (c_eq (ap (λ (z : ℕ). z * behind (λ (k : ℕ). get_or w (src + k) 0) i) (plain_none m.n (known.formed held).fits.odd)
        ∙ zero-mul _))) (c_eq (add-zero _))) (c_mul (entered m c x held hx) c_refl)).same;
    high = wr.high;
  }

  pub scaled_entered : (x c : ℕ) → Moved (mulBy m.n (plain m.n x)) src dst len w w' → value m x ≡ c % m.n
      → Moved (mulBy m.n c) src dst len w w'
  scaled_entered x c mv hx = record {
    same = mv.same;
    low = mv.low;
    mid = λ i g. mv.mid i g ∙ (c_mul (entered m c x held hx) c_refl).same;
    high = mv.high;
  }

pub clear_of : {n e src dst len : ℕ} {w : List ℕ} → PairAsked n e src dst len w → Clear src dst len
clear_of a = record { ok = λ i j p q h. a.apart.ok i j q (omega arith) h }

pub ruleset additions = (clear_of, paired_held, moved_held, scaled_entered)
