-- The kind of a residue (S13): "every residue is one of three: unit with its inverse, nilpotent, or splitting with
-- two factors."
--
--   KindOf n a r    the answer r is true of the residue a modulo n
--   kind_one        one answer is true of it, and no other
use Rattle.std.specs.Prelude.{◌≡◌, refl, ◌⊎◌, ℕ, ◌≤◌}
use Rattle.std.proofs.Common.{ap, ap₂, ⊎_elim}
use Rattle.definitions.specs.Residues.{Inverse, IsUnit, IsNilpotent, Splitting}
use Rattle.law_numbers.specs.Units.{inverse_unique}
use Rattle.law_numbers.proofs.KindExists.{kind_exists}
use Rattle.law_numbers.specs.Kinds.{Splits, unit_not_nilpotent, unit_not_splitting, nilpotent_not_splitting, splitting_unique}
use Rattle.residue.specs.declared.Kind.{Kind}
use Rattle.residue.specs.declared.Kind.TheVariants.{Unit as Unit', Nilpotent, Splits as Splits'}

abbrev pub KindOf : ℕ → ℕ → Kind ℕ → Type 0
KindOf n a (Unit' i) = Inverse n a i
KindOf n a Nilpotent = IsNilpotent n a
KindOf n a (Splits' n₁ n₂) = Splitting n a n₁ n₂

unit_is : {n a i : ℕ} → Inverse n a i → IsUnit n a
unit_is {n} {a} {i} x = record { inverse = i; is = x }

-- two answers that are true of a are one
pub kind_unique : (n a : ℕ) → 2 ≤ n → (r r' : Kind ℕ) → KindOf n a r → KindOf n a r' → r ≡ r'
kind_unique n a l (Unit' i) (Unit' j) x y = ap Unit' (inverse_unique x y)
kind_unique n a l (Unit' i) Nilpotent x y = absurd (unit_not_nilpotent l (unit_is x) y)
kind_unique n a l (Unit' i) (Splits' p q) x y = absurd (unit_not_splitting (unit_is x) y)
kind_unique n a l Nilpotent (Unit' j) x y = absurd (unit_not_nilpotent l (unit_is y) x)
kind_unique n a l Nilpotent Nilpotent x y = refl
kind_unique n a l Nilpotent (Splits' p q) x y = absurd (nilpotent_not_splitting x y)
kind_unique n a l (Splits' n₁ n₂) (Unit' j) x y = absurd (unit_not_splitting (unit_is y) x)
kind_unique n a l (Splits' n₁ n₂) Nilpotent x y = absurd (nilpotent_not_splitting y x)
kind_unique n a l (Splits' n₁ n₂) (Splits' p q) x y = let e = splitting_unique x y in ap₂ Splits' e.0 e.1

pub record TheKind (n a : ℕ) : Type 0 where
  pub kind : Kind ℕ
  pub is : KindOf n a kind
  pub only : (r : Kind ℕ) → KindOf n a r → r ≡ kind

-- S13: "every residue is one of three"
pub kind_one : (n a : ℕ) → 2 ≤ n → TheKind n a
kind_one n a l =
    ⊎_elim (λ (u : IsUnit n a). the (Unit' u.inverse) u.is)
    (λ (y : IsNilpotent n a ⊎ Splits n a).
    ⊎_elim (λ (x : IsNilpotent n a). the Nilpotent x) (λ (z : Splits n a). the (Splits' z.n₁ z.n₂) z.is) y)
    (kind_exists n a l)
  where
    the : (r : Kind ℕ) → KindOf n a r → TheKind n a
    the r x = record { kind = r; is = x; only = λ s y. kind_unique n a l s r y x }
