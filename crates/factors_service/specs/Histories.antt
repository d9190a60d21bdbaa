-- "What is said of readings holds for a state that an answered start made and only these calls changed": what such a state stands for, and
-- what a reading of it is.
--
--   Place                        a place of a state: free, or a factor held under a number
--   numbers, degrees             of the places, in their order; a free place has the number 0 and the degree 0
--   factors_present, product_of  the factors present, and the product of factors, folded from the constant 1
--   places_arrived, places_left       the places after an arrival and after a leaving of any status
--   History                   a start, then any calls, answered or refused: the state, and the places that it stands for
--   history_reading           the reading is the resultant of the product of the factors present
--   history_arrival, history_leaving  the refusals of a call, by the places
--   Reordered, any_order      in which order factors are multiplied does not matter
--
-- Letters: s and r are states, S places, k a number, f a factor, h the second polynomial, t a status; m is n less 1.
use Rattle.std.specs.Prelude.{◌≡◌, refl, Bool, true, false, cond, ℤ, pos, negsuc, length, take, set, replicate}
use Rattle.std.proofs.Common.{sym, ap₂, ◌∙◌, mod-eq_of_lt, mod-lt, mul_comm, mul_assoc, arith, le-ltb}
use Rattle.std.proofs.Math.Path.{ap}
use mathlib.Core.List.{List, [], ◌∷◌, ◌++◌, map}
use Prim.Native.Nat.{ℕ, zero, suc, ◌+◌, ◌*◌, ◌-◌, ◌%◌, ◌^◌, ◌≤◌, ◌<◌}
use Rattle.std.proofs.Math.Seq.{take-append_seam}
use Rattle.definitions.specs.Polynomials.{deg, product}
use Rattle.definitions.specs.Resultants.{resultant, residue, determinant, sylvester}
use Rattle.law_algebra.specs.Residues.{mul_mod_r}
use Rattle.law_polynomials.specs.ResultantLaws.{law_of_products, resultant_const_first}
use Rattle.refusals.specs.Refusals.{Width, bad_modulus_of, short, first_refusal, refusals_of_pair, answered}
use Rattle.refusals.specs.Conditions.{Accepted, accepted_one, ServedModulus, modulus_fails, status_zero}
use Rattle.factor_places.specs.Places.{first_place_of, multiplied, absent, taken, full}
use Rattle.factors_service.specs.declared.Factors.{Factors}
use Rattle.factors_service.specs.FactorsService.{state_h, replaced_at_of, arrived, left_by}
use Rattle.factors_service.specs.FactorsService.{arrive_refusals, leave_refusals, reading_refusals}
use Rattle.factors_service.specs.FactorsService.{StartAnswer, ArriveAnswer, LeaveAnswer, ReadingAnswer}

pub data Place : Type 0 where
  free : Place
  present : ℕ → List ℕ → Place

abbrev pub number_of : Place → ℕ
number_of free = 0
number_of (present k f) = k

-- "With no factor held, the product is the constant 1"
abbrev pub factor_of : Place → List ℕ
factor_of free = 1 ∷ []
factor_of (present k f) = f

abbrev pub numbers : List Place → List ℕ
numbers S = map number_of S

abbrev pub degrees : List Place → List ℕ
degrees S = map (λ (p : Place). deg (factor_of p)) S

abbrev pub factors_present : List Place → List (List ℕ)
factors_present [] = []
factors_present (p ∷ S) = elim p [ free ↦ factors_present S | present k f ↦ f ∷ factors_present S ]

-- "the multiplied factors in their summed sent degree"
abbrev pub product_of : ℕ → List (List ℕ) → List ℕ
product_of n [] = 1 ∷ []
product_of n (f ∷ F) = product n f (product_of n F)

-- "Factors arrive and leave": an arriving factor takes the first free place. "A refusal leaves the held factors unchanged."
abbrev pub places_arrived : ℕ → ℕ → List ℕ → List Place → List Place
places_arrived zero k f S = set S (first_place_of 0 (numbers S)) (present k f)
places_arrived (suc t) k f S = S

abbrev pub places_left : ℕ → ℕ → List Place → List Place
places_left zero k S = set S (first_place_of k (numbers S)) free
places_left (suc t) k S = S

-- "a state that an answered start made and only these calls changed"; a reading changes no state
pub data History (W : Width) (n : ℕ) (h : List ℕ) : Factors → List Place → Type 0 where
  start : {s : Factors} → StartAnswer W n h s 0 → History W n h s (replicate 16 free)
  arrive : {s r : Factors} {S : List Place} (k : ℕ) (f work work' : List ℕ) (t : ℕ) → History W n h s S
      → ArriveAnswer W s k f work work' r t → History W n h r (places_arrived t k f S)
  leave : {s r : Factors} {S : List Place} (k t : ℕ) → History W n h s S → LeaveAnswer W s k r t → History W n h r (places_left t k S)

-- ---- the resultant of a product

power_of_one : (e : ℕ) → 1 ^ e ≡ 1
power_of_one zero = refl
power_of_one (suc e) = let i = power_of_one e in omega arith

resultant_of_one : (n : ℕ) → 2 ≤ n → (h : List ℕ) → resultant n (1 ∷ []) h ≡ 1
resultant_of_one zero l h = absurd (omega arith)
resultant_of_one (suc m) l h =
    resultant_const_first m (1 ∷ []) h refl ∙ ap (λ (x : ℕ). x % suc m) (power_of_one (deg h)) ∙ mod-eq_of_lt (omega arith)

residue_below : (n : ℕ) → 0 < n → (x : ℤ) → residue n x < n
residue_below n l (pos a) = mod-lt a l
residue_below n l (negsuc a) = mod-lt (n - suc a % n) l

resultant_below : (n : ℕ) → 0 < n → (f h : List ℕ) → resultant n f h < n
unfolding resultant
resultant_below n l f h = residue_below n l (determinant (deg f + deg h) (sylvester f h))

-- the product of what the places hold
pub product_law : (n : ℕ) → 2 ≤ n → (h : List ℕ) (S : List Place)
    → multiplied n (map (λ (p : Place). resultant n (factor_of p) h) S) ≡ resultant n (product_of n (factors_present S)) h
unfolding multiplied
product_law n l h [] = sym (resultant_of_one n l h)
product_law n l h (free ∷ S) =
    let i = product_law n l h S in
    let b = resultant_below n (omega arith) (product_of n (factors_present S)) h in
    ap₂ (λ (x y : ℕ). (x * y) % n) (resultant_of_one n l h) i ∙ ap (λ (x : ℕ). x % n) (omega arith) ∙ mod-eq_of_lt b
product_law n l h (present k f ∷ S) =
    ap (λ (x : ℕ). (resultant n f h * x) % n) (product_law n l h S)
    ∙ sym (law_of_products n (omega arith) f (product_of n (factors_present S)) h)

-- ---- what a state stands for

state : ℕ → List ℕ → List ℕ → List ℕ → List ℕ → Factors
state n h a b c = record { n = n; len = length h; h = h ++ replicate (49 - length h) 0; number = a; degree = b; resultant = c }

stored : ℕ → List ℕ → List Place → Factors
stored n h S = state n h (numbers S) (degrees S) (map (λ (p : Place). resultant n (factor_of p) h) S)

record Stands (W : Width) (n : ℕ) (h : List ℕ) (s : Factors) (S : List Place) : Type 0 where
  accepted : Accepted W n h
  is : s ≡ stored n h S

map_set : (F : Place → ℕ) (S : List Place) (i : ℕ) (p : Place) → map F (set S i p) ≡ set (map F S) i (F p)
map_set F [] i p = refl
map_set F (q ∷ S) zero p = refl
map_set F (q ∷ S) (suc i) p = ap (λ (z : List ℕ). F q ∷ z) (map_set F S i p)

present_of : (n : ℕ) (h : List ℕ) (S : List Place) → length h ≤ 49 → state_h (stored n h S) ≡ h
unfolding stored state
present_of n h S l =
    ap (λ (b : Bool). take (cond b 0 (length h)) (h ++ replicate (49 - length h) 0)) (le-ltb 49 (length h) l)
    ∙ take-append_seam h (replicate (49 - length h) 0)

placed_is : (n : ℕ) (h : List ℕ) (S : List Place) (i : ℕ) (p : Place)
    → replaced_at_of (stored n h S) i (number_of p) (deg (factor_of p)) (resultant n (factor_of p) h) ≡ stored n h (set S i p)
unfolding stored state
placed_is n h S i p =
    ap (λ (a : List ℕ). state n h a (set (degrees S) i (deg (factor_of p)))
    (set (map (λ (q : Place). resultant n (factor_of q) h) S) i (resultant n (factor_of p) h))) (sym (map_set number_of S i p))
    ∙ ap (λ (b : List ℕ). state n h (numbers (set S i p)) b
    (set (map (λ (q : Place). resultant n (factor_of q) h) S) i (resultant n (factor_of p) h)))
    (sym (map_set (λ (q : Place). deg (factor_of q)) S i p))
    ∙ ap (λ (c : List ℕ). state n h (numbers (set S i p)) (degrees (set S i p)) c)
    (sym (map_set (λ (q : Place). resultant n (factor_of q) h) S i p))

-- ---- histories

module _ (W : Width) (n : ℕ) (h : List ℕ) where
  stands_start : (s : Factors) → StartAnswer W n h s 0 → Stands W n h s (replicate 16 free)
  unfolding stored state
  stands_start s a =
      let c = accepted_one W n h (sym a.status_is) in
      record {
        accepted = c;
        is = a.factors_is ∙ ap (λ (x : ℕ). state n h (replicate 16 0) (replicate 16 0) (replicate 16 x))
            (sym (resultant_of_one n c.modulus h));
      }

  stands_arrival : (s r : Factors) (S : List Place) (k : ℕ) (f : List ℕ) (t : ℕ) → Stands W n h s S → r ≡ arrived t s k f
      → Stands W n h r (places_arrived t k f S)
  unfolding stored state
  stands_arrival s r S k f zero d e = record {
    accepted = d.accepted;
    is = e ∙ ap (λ (x : Factors). arrived 0 x k f) d.is ∙ taken_in;
  }
    where
      taken_in : arrived 0 (stored n h S) k f ≡ stored n h (places_arrived 0 k f S)
      taken_in =
          ap (λ (g : List ℕ). replaced_at_of (stored n h S) (first_place_of 0 (numbers S)) k (deg f) (resultant n f g))
          (present_of n h S d.accepted.few)
          ∙ placed_is n h S (first_place_of 0 (numbers S)) (present k f)
  stands_arrival s r S k f (suc t) d e = record { accepted = d.accepted; is = e ∙ d.is }

  stands_leaving : (s r : Factors) (S : List Place) (k t : ℕ) → Stands W n h s S → r ≡ left_by t s k → Stands W n h r (places_left t k S)
  unfolding stored state
  stands_leaving s r S k zero d e = record {
    accepted = d.accepted;
    is = e ∙ ap (λ (x : Factors). left_by 0 x k) d.is ∙ given_up;
  }
    where
      given_up : left_by 0 (stored n h S) k ≡ stored n h (places_left 0 k S)
      given_up =
          ap (λ (x : ℕ). replaced_at_of (stored n h S) (first_place_of k (numbers S)) 0 0 x) (sym (resultant_of_one n d.accepted.modulus h))
          ∙ placed_is n h S (first_place_of k (numbers S)) free
  stands_leaving s r S k (suc t) d e = record { accepted = d.accepted; is = e ∙ d.is }

  stands : {s : Factors} {S : List Place} → History W n h s S → Stands W n h s S
  stands {s} (start a) = stands_start s a
  stands (arrive {s = s} {r = r} {S = S} k f work work' t y a) = stands_arrival s r S k f t (stands y) a.factors_is
  stands (leave {s = s} {r = r} {S = S} k t y a) = stands_leaving s r S k t (stands y) a.factors_is

-- "the resultant of their product with h is read at any time. It must equal the resultant worked afresh from the multiplied factors in
-- their summed sent degree."
pub record Reading (n : ℕ) (h : List ℕ) (S : List Place) (value status : ℕ) : Type 0 where
  pub status_is : status ≡ 0
  pub value_is : value ≡ resultant n (product_of n (factors_present S)) h

pub history_reading : (W : Width) (n : ℕ) (h : List ℕ) (s : Factors) (S : List Place) (value status : ℕ)
    → History W n h s S → ReadingAnswer W s value status → Reading n h S value status
unfolding stored state
history_reading W n h s S v t y a = record { status_is = zero_status; value_is = value }
  where
    d : Stands W n h s S
    d = stands W n h y

    zero_status : t ≡ 0
    zero_status =
        a.status_is ∙ ap (λ (x : Factors). first_refusal (reading_refusals W x)) d.is
        ∙ (status_zero ((1, bad_modulus_of W n) ∷ []) (ServedModulus W n ∷ []) ((omega arith, modulus_fails W n), tt)).1
        (record { least = d.accepted.modulus; most = d.accepted.bounded }, tt)

    value : v ≡ resultant n (product_of n (factors_present S)) h
    value =
        a.value_is ∙ ap₂ (λ (x : ℕ) (z : Factors). answered x (multiplied z.n z.resultant)) zero_status d.is
        ∙ product_law n d.accepted.modulus h S

-- "It refuses with 14 a number 0 or one already held on arrival, and one not held on leaving, then with 13 a seventeenth factor or a summed
-- degree above 48, both after 3": by the places that the state stands for
pub history_arrival : (W : Width) (n : ℕ) (h : List ℕ) (s r : Factors) (S : List Place) (k : ℕ) (f work work' : List ℕ) (t : ℕ)
    → History W n h s S → ArriveAnswer W s k f work work' r t
    → t ≡ first_refusal (refusals_of_pair W n f h
    ++ ((14, taken k (numbers S)) ∷ (13, full (deg f) (numbers S) (degrees S)) ∷ (7, short (length work) W.working) ∷ []))
unfolding stored state
history_arrival W n h s r S k f work work' t y a =
    let d = stands W n h y in
    a.status_is ∙ ap (λ (x : Factors). first_refusal (arrive_refusals W x k f (length work))) d.is
    ∙ ap (λ (g : List ℕ). first_refusal (refusals_of_pair W n f g
    ++ ((14, taken k (numbers S)) ∷ (13, full (deg f) (numbers S) (degrees S)) ∷ (7, short (length work) W.working) ∷ [])))
    (present_of n h S d.accepted.few)

pub history_leaving : (W : Width) (n : ℕ) (h : List ℕ) (s r : Factors) (S : List Place) (k t : ℕ)
    → History W n h s S → LeaveAnswer W s k r t → t ≡ first_refusal ((14, absent k (numbers S)) ∷ [])
unfolding stored state
history_leaving W n h s r S k t y a =
    let d = stands W n h y in
    a.status_is ∙ ap (λ (x : Factors). first_refusal (leave_refusals W x k)) d.is ∙ passes (bad_modulus_of W n) (served d)
  where
    passes : (b : Bool) → b ≡ false
        → first_refusal ((1, b) ∷ (14, absent k (numbers S)) ∷ []) ≡ first_refusal ((14, absent k (numbers S)) ∷ [])
    passes b e = ap (λ (x : Bool). first_refusal ((1, x) ∷ (14, absent k (numbers S)) ∷ [])) e

    served : Stands W n h s S → bad_modulus_of W n ≡ false
    served d = go (bad_modulus_of W n) refl
      where
        go : (b : Bool) → bad_modulus_of W n ≡ b → b ≡ false
        go false e = refl
        go true e = absurd ((modulus_fails W n).failed e (record { least = d.accepted.modulus; most = d.accepted.bounded }))

-- ---- order

pub data Reordered : List (List ℕ) → List (List ℕ) → Type 0 where
  same : {F : List (List ℕ)} → Reordered F F
  behind : {f : List ℕ} {F G : List (List ℕ)} → Reordered F G → Reordered (f ∷ F) (f ∷ G)
  exchanged : {f g : List ℕ} {F : List (List ℕ)} → Reordered (f ∷ g ∷ F) (g ∷ f ∷ F)
  then : {F G H : List (List ℕ)} → Reordered F G → Reordered G H → Reordered F H

exchange : (n a b c : ℕ) → (a * (b * c % n)) % n ≡ (b * (a * c % n)) % n
exchange n a b c =
    mul_mod_r a (b * c) n ∙ ap (λ (x : ℕ). x % n) (sym (mul_assoc a b c) ∙ ap (λ (x : ℕ). x * c) (mul_comm a b) ∙ mul_assoc b a c)
    ∙ sym (mul_mod_r b (a * c) n)

resultants : (n : ℕ) → 0 < n → (f : List ℕ) (F : List (List ℕ)) (h : List ℕ)
    → resultant n (product_of n (f ∷ F)) h ≡ (resultant n f h * resultant n (product_of n F) h) % n
resultants n l f F h = law_of_products n l f (product_of n F) h

pub any_order : (n : ℕ) → 0 < n → (h : List ℕ) {F G : List (List ℕ)} → Reordered F G
    → resultant n (product_of n F) h ≡ resultant n (product_of n G) h
any_order n l h same = refl
any_order n l h (behind {f = f} {F = F} {G = G} p) =
    resultants n l f F h ∙ ap (λ (x : ℕ). (resultant n f h * x) % n) (any_order n l h p) ∙ sym (resultants n l f G h)
any_order n l h (exchanged {f = f} {g = g} {F = F}) =
    let a = resultant n f h in
    let b = resultant n g h in
    let c = resultant n (product_of n F) h in
    resultants n l f (g ∷ F) h ∙ ap (λ (x : ℕ). (a * x) % n) (resultants n l g F h) ∙ exchange n a b c
    ∙ ap (λ (x : ℕ). (b * x) % n) (sym (resultants n l f F h)) ∙ sym (resultants n l g (f ∷ F) h)
any_order n l h (then p q) = any_order n l h p ∙ any_order n l h q
