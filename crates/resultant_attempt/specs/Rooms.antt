-- The working words that an attempt asks for beyond its two polynomials, f of degree d and g of degree e, d at most e.
--
--   room d e     enough for a copy of both, for the unit and the monic factor of f, and for the attempts at those
--   place d e t  where such an attempt begins: above g, f, the monic factor of degree t and the unit factor
use Rattle.std.specs.Prelude.{◌≡◌, ℕ, zero, suc, ◌+◌, ◌-◌, ◌*◌, ◌≤◌}
use Rattle.std.proofs.Common.{sym, subst, arith}

abbrev pub room : ℕ → ℕ → ℕ
room d e = 2 * e + 3 * (d * d) + 9 * d

abbrev pub place : ℕ → ℕ → ℕ → ℕ
place d e t = e + 1 + (d + 1) + (t + 1) + (d + 1)

-- both polynomials copied
pub room_copies : (d e : ℕ) → 1 ≤ d → d ≤ e → e + 1 + (d + 1) ≤ room d e
room_copies d e one l = omega arith

-- after a division, the remainder and the divisor
pub room_next : (d e : ℕ) → 1 ≤ d → d ≤ e → room (d - 1) d ≤ room d e
room_next d e one l = subst (λ (x : ℕ). room (d - 1) x ≤ room x e) (sym back) (less (d - 1) e (omega arith))
  where
    back : d ≡ d - 1 + 1
    back = omega arith

    less : (c e : ℕ) → c + 1 ≤ e → room c (c + 1) ≤ room (c + 1) e
    less c e l = omega arith

-- after a leading word was dropped
pub room_dropped : (d e : ℕ) → 1 ≤ d → room (d - 1) e ≤ room d e
room_dropped d e one = subst (λ (x : ℕ). room (d - 1) e ≤ room x e) (sym back) (less (d - 1))
  where
    back : d ≡ d - 1 + 1
    back = omega arith

    less : (c : ℕ) → room c e ≤ room (c + 1) e
    less c = omega arith

-- after a division, with both polynomials copied before
pub room_copied : (d e : ℕ) → 1 ≤ d → d ≤ e → e + 1 + (d + 1) + room (d - 1) d ≤ room d e
room_copied d e one l = subst (λ (x : ℕ). e + 1 + (x + 1) + room (d - 1) x ≤ room x e) (sym back) (less (d - 1) e (omega arith))
  where
    back : d ≡ d - 1 + 1
    back = omega arith

    less : (c e : ℕ) → c + 1 ≤ e → e + 1 + (c + 1 + 1) + room c (c + 1) ≤ room (c + 1) e
    less c e l = omega arith

-- above g, f and the two factors of f: a factor of degree j and g, divided
pub room_factor : (d e t j : ℕ) → t ≤ d → 1 ≤ j → j ≤ d → place d e t + (j + 1 + (e + 1) + room (j - 1) j) ≤ room d e
room_factor d e t j lt one lj =
    subst (λ (x : ℕ). place d e t + (x + 1 + (e + 1) + room (j - 1) x) ≤ room d e) (sym back)
    (subst (λ (x : ℕ). place x e t + (j - 1 + 1 + 1 + (e + 1) + room (j - 1) (j - 1 + 1)) ≤ room x e) (sym more)
    (less (j - 1) (d - j) e t (omega arith)))
  where
    back : j ≡ j - 1 + 1
    back = omega arith

    more : d ≡ j - 1 + 1 + (d - j)
    more = omega arith

    less : (c b e t : ℕ) → t ≤ c + 1 + b → place (c + 1 + b) e t + (c + 1 + 1 + (e + 1) + room c (c + 1)) ≤ room (c + 1 + b) e
    less c b e t l = omega arith

-- the factors themselves
pub room_place : (d e t : ℕ) → 1 ≤ d → d ≤ e → t ≤ d → place d e t ≤ room d e
room_place d e t one l lt = omega (arith, room_factor d e t d lt one (le_self d))
  where
    le_self : (x : ℕ) → x ≤ x
    le_self x = omega arith

-- a factor of degree below d, and perhaps 0
pub room_monic : (d e t : ℕ) → 1 ≤ d → t ≤ d → place d e t + (t + 1 + (e + 1) + room (t - 1) t) ≤ room d e
room_monic d e zero one l = omega (arith, room_factor d e 0 d l one (le_self d))
  where
    le_self : (x : ℕ) → x ≤ x
    le_self x = omega arith
room_monic d e (suc t) one l = room_factor d e (suc t) (suc t) l (omega arith) l
