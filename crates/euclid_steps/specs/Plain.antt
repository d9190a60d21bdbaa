-- What the laws of Euclid's steps ask of the form that words are in, and a modulus of any size whose words stand for themselves.
--
--   Sound m                    n is above 0, 0 stands for 0, and a residue for a residue
--   values_at, values_below    what the words of a buffer stand for
--   known_sound                so it is of every record of a modulus of 32 bits
--   plainly n                  the modulus n, of any size, with words as they are
--   plain_sound                so it is of this one
--   plain_words                a statement about words as they are is one about what they stand for
use Rattle.std.specs.Prelude.{◌≡◌, refl, List, map, ℕ, ◌+◌, ◌≤◌, ◌<◌}
use Rattle.std.proofs.Common.{sym, subst, ◌∙◌, map-id}
use Rattle.std.proofs.Math.Path.{ap, fun_ext}
use Rattle.std.proofs.Math.ListN.{get_or, get_or-map}
use Rattle.windows.specs.Window.{Below}
use Rattle.modulus.specs.declared.Modulus.{Modulus}
use Rattle.modulus.specs.Values.{Known, value, values}
use Rattle.modulus.proofs.Valuing.{value_none, value_below}

pub record Sound (m : Modulus) : Type 0 where
  pub pos : 1 ≤ m.n
  pub none : value m 0 ≡ 0
  pub residue : {x : ℕ} → x < m.n → value m x < m.n

module _ (m : Modulus) (sound : Sound m) where
  pub values_at : (w : List ℕ) (i : ℕ) → get_or (values m w) i 0 ≡ value m (get_or w i 0)
  unfolding values
  values_at w i = ap (λ (z : ℕ). get_or (values m w) i z) (sym sound.none) ∙ get_or-map (value m) w i 0

  pub values_below : {a l : ℕ} {w : List ℕ} → Below m.n a l w → Below m.n a l (values m w)
  values_below {a} {l} {w} b = record {
    at = λ i h. subst (λ (x : ℕ). x < m.n) (sym (values_at w (a + i))) (sound.residue (b.at i h));
  }

pub known_sound : {m : Modulus} → Known m → Sound m
known_sound {m} k = record { pos = k.pos; none = value_none m k; residue = λ l. value_below m k l }

abbrev pub plainly : ℕ → Modulus
plainly n = record { wide = n; v = 0; inverse = 0; n = n; c = 0; negative = 0; k = 0; held = 0 }

pub plain_sound : {n : ℕ} → 1 ≤ n → Sound (plainly n)
unfolding value
plain_sound l = record { pos = l; none = refl; residue = λ h. h }

pub plain_words : (n : ℕ) (P : (ℕ → ℕ) → (List ℕ → List ℕ) → Type 0) → P (λ (x : ℕ). x) (λ (w : List ℕ). w)
    → P (value (plainly n)) (values (plainly n))
unfolding value values
plain_words n P h = subst (λ (v : List ℕ → List ℕ). P (λ (x : ℕ). x) v) (sym (fun_ext (λ (w : List ℕ). map-id w))) h
