-- What S4, S13 and S14 say of single residues. n is the modulus, a and b are residues, numbers only.
--
--   K n                    the largest whole number with 2^K <= n
--   Inverse n a i          i is the inverse of a
--   IsUnit, IsNilpotent    the kinds of a residue that carry no factors
--   Splitting n a n₁ n₂    a splits n into n₁ and n₂
--   GcdWithCofactors       g = s a + t b is the greatest common divisor of a, b and n
--   LeastCofactors         of all s and t with s a + t b = g, the least s, and then the least t
use Rattle.std.specs.Prelude.{◌≡◌, true, false, ℕ, zero, suc, ◌+◌, ◌*◌, ◌/◌, ◌%◌, ◌^◌, ◌<◌, ◌≤◌, leb}
use Rattle.std.specs.Int.{◌∣◌}

-- how often n can be halved until it is below 2, at most s times
unfoldable pub halvings : ℕ → ℕ → ℕ
halvings zero n = 0
halvings (suc s) n = elim (leb 2 n) [ true ↦ suc (halvings s (n / 2)) | false ↦ 0 ]

-- S4: "K is the largest whole number with 2^K <= n."
unfoldable pub K : ℕ → ℕ
K n = halvings n n

-- S13: "unit with its inverse": the inverse is the residue whose product with a is 1
pub record Inverse (n a i : ℕ) : Type 0 where
  pub below : i < n
  pub one : (a * i) % n ≡ 1 % n

pub record IsUnit (n a : ℕ) : Type 0 where
  pub inverse : ℕ
  pub is : Inverse n a inverse

-- S13: "Nilpotent: some power is 0 (0 is nilpotent)."
pub record IsNilpotent (n a : ℕ) : Type 0 where
  pub exponent : ℕ
  pub power : (a ^ exponent) % n ≡ 0

-- no number but 1 divides both
pub record Coprime (a b : ℕ) : Type 0 where
  pub only : (k : ℕ) → k ∣ a → k ∣ b → k ≡ 1

-- S13: "n = n1 times n2, both above 1 and coprime, the residue nilpotent modulo n1 and a unit modulo n2."
pub record Splitting (n a n₁ n₂ : ℕ) : Type 0 where
  pub product : n₁ * n₂ ≡ n
  pub above₁ : 1 < n₁
  pub above₂ : 1 < n₂
  pub coprime : Coprime n₁ n₂
  pub nilpotent : IsNilpotent n₁ a
  pub unit : IsUnit n₂ a

-- the greatest common divisor of a, b and n
pub record Gcd (a b n g : ℕ) : Type 0 where
  pub divides_a : g ∣ a
  pub divides_b : g ∣ b
  pub divides_n : g ∣ n
  pub greatest : (k : ℕ) → k ∣ a → k ∣ b → k ∣ n → k ∣ g

-- S14: "g = gcd(a, b, n) from 1 to n, with residues s and t so that s times a plus t times b is g modulo n."
pub record GcdWithCofactors (n a b g s t : ℕ) : Type 0 where
  pub gcd : Gcd a b n g
  pub least : 1 ≤ g
  pub most : g ≤ n
  pub below_s : s < n
  pub below_t : t < n
  pub sum : (s * a + t * b) % n ≡ g % n

-- S14: "s is the least number from 0 upward for which some t fits, and t is then the least that fits."
pub record LeastCofactors (n a b g s t : ℕ) : Type 0 where
  pub below_s : s < n
  pub below_t : t < n
  pub sum : (s * a + t * b) % n ≡ g % n
  pub first : (s' t' : ℕ) → (s' * a + t' * b) % n ≡ g % n → s ≤ s'
  pub second : (t' : ℕ) → (s * a + t' * b) % n ≡ g % n → t ≤ t'
