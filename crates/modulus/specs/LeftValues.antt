-- Inner work decoded: what a run makes of entered words, by the operations on words, leaves as the number that it should be. From what
-- the functions of this crate promise (`ModulusOf`, `Enters`, `Multiplies`, `Adds`, `Subtracts`, `Leaves`), for every n.
--
--   held_word       where n has the form, a word that enters is held: multiplied by 2^32 modulo n
--   product_left    the product of two entered words leaves as a b modulo n
--   sum_left        their sum as a + b modulo n
--   difference_left their difference as the residue that with b makes a
use Rattle.std.specs.Prelude.{◌≡◌, ℕ, ◌+◌, ◌-◌, ◌*◌, ◌%◌, ◌<◌}
use Rattle.std.proofs.Common.{sym, ap, ap₂, subst, ◌∙◌, mod-lt, mod-eq_of_lt, arith}
use Rattle.law_numbers.specs.Congruence.{Cong, c_refl, c_trans, c_eq, c_mod, c_add, c_mul, c_neg}
use Rattle.montgomery.specs.Held.{held, plain, Fits}
use Rattle.montgomery.specs.Decoding.{enter_leave}
use Rattle.modulus.specs.declared.Modulus.{Modulus}
use Rattle.modulus.specs.Values.{value, value_by, ModulusOf, Enters, Leaves, Multiplies, Adds, Subtracts}

pub held_word : (n : ℕ) (m : Modulus) (a x : ℕ) → ModulusOf n m → Fits n → Enters m a x → x ≡ held n a
unfolding value held
held_word n m a x f fits e =
    sym (mod-eq_of_lt (subst (λ (k : ℕ). x < k) f.is e.0)) ∙ sym (enter_leave n fits.odd x) ∙ ap (held n) stands ∙ again
  where
    decoded : value m x ≡ plain n x
    decoded = ap₂ (λ (h k : ℕ). value_by h k x) (f.held fits) f.is

    stands : plain n x ≡ a % n
    stands = sym decoded ∙ subst (λ (k : ℕ). value m x ≡ a % k) f.is e.1

    again : held n (a % n) ≡ held n a
    again = (c_mul (c_mod a) (c_refl {a = 4294967296})).same

module _ (n : ℕ) (m : Modulus) (f : ModulusOf n m) (a b x y z r : ℕ) (ex : Enters m a x) (ey : Enters m b y) (l : Leaves m z r) where
  pub product_left : Multiplies m x y z → r ≡ (a * b) % n
  product_left h =
      subst (λ (k : ℕ). r ≡ (a * b) % k) f.is
      (l ∙ h.1 ∙ (c_mul (c_trans (c_eq ex.1) (c_mod a)) (c_trans (c_eq ey.1) (c_mod b))).same)

  pub sum_left : Adds m x y z → r ≡ (a + b) % n
  sum_left h =
      subst (λ (k : ℕ). r ≡ (a + b) % k) f.is
      (l ∙ h.1 ∙ (c_add (c_trans (c_eq ex.1) (c_mod a)) (c_trans (c_eq ey.1) (c_mod b))).same)

  pub difference_left : Subtracts m x y z → (r < n) × ((r + b) % n ≡ a % n)
  difference_left h = subst (λ (k : ℕ). (r < k) × ((r + b) % k ≡ a % k)) f.is (below, back.same)
    where
      add : (u v : ℕ) → u + v + b ≡ u + (b + v)
      add u v = omega arith

      none : (u : ℕ) → u + 0 ≡ u
      none u = omega arith

      back : Cong m.n (r + b) a
      back =
          c_trans (c_add (c_trans (c_eq (l ∙ h.1 ∙ ap (λ (k : ℕ). (value m x + (m.n - k)) % m.n) ey.1)) (c_mod _)) (c_refl {a = b}))
          (c_trans (c_eq (add (value m x) (m.n - b % m.n)))
          (c_trans (c_add (c_trans (c_eq ex.1) (c_mod a)) (c_neg m.n b f.known.pos)) (c_eq (none a))))

      below : r < m.n
      below = subst (λ (k : ℕ). k < m.n) (sym (l ∙ h.1)) (mod-lt _ f.known.pos)
