-- The quick attempt: D = 1 from a constant that is a unit.
--
--   certified_one       cofactors of D = 1
--   run_asked, hand_asked       what the run and the cofactors ask
--   unit_found, settled_attempt    what a constant that is a unit gives
--   attempted_flip          f and g exchanged
--   attempted_true, attempted_later    what each answer says
--   quick_asked, quick_swapped    what the quick attempt asks, from what an attempt asks; f and g exchanged
--   tries, both_tries   the rules
use mathlib.Core.Path.{◌≡◌, refl, sym, ap, subst, ◌∙◌}
use mathlib.Core.List.{List}
use mathlib.Core.Bool.{Bool, true, false}
use Prim.Native.Nat.{ℕ, zero, suc, max, ◌+◌, ◌-◌, ◌*◌, ◌%◌, ◌≤◌, ◌<◌}
use native.Mathlib.Omega.{arith}
use native.Mathlib.Nat.{mod-lt, mul-zero, zero-mod, one-dvd, mul-le-mul, max_comm}
use lib.ListN.{length}
use borrow.Author.Rules.{rules}
use Rattle.std.specs.Prelude.{Result}
use Rattle.definitions.specs.Residues.{K}
use Rattle.definitions.specs.Polynomials.{coef, L}
use Rattle.definitions.specs.Resultants.{Combination}
use Rattle.law_numbers.specs.Divisors.{GcdCofactor}
use Rattle.law_numbers.specs.Logarithm.{K_positive}
use Rattle.law_polynomials.specs.ReachedLaws.{reduced_from}
use Rattle.windows.specs.Window.{piece}
use Rattle.windows.proofs.Leaf.{piece_over}
use Rattle.modulus.specs.declared.Modulus.{Modulus}
use Rattle.modulus.specs.Values.{Known, value, values}
use Rattle.euclid_steps.specs.declared.Ending.{Ending}
use Rattle.euclid_steps.specs.Multiplied.{Asked, Multiplied}
use Rattle.multiplier_words.specs.Words.{Put, HandAsked, Handed}
use Rattle.multiplier_words.proofs.Scaling.{handed_combination}
use Rattle.residue.specs.declared.Split.{Split}
use Rattle.reduced_cofactors.specs.Cofactors.{Certified}
use Rattle.reduced_attempt.specs.ReducedAttempts.{AttemptAsked, Attempted}
use Rattle.reduced_attempt.proofs.Whole.{certified_flip}
use Rattle.reduced_quick.specs.Quick.{QuickAsked, Unit, Settled, QuickAttempted}

max_right : (a b : ℕ) → a ≤ b → max (a - 1) (b - 1) ≡ b - 1
max_right a b l = omega arith

-- a row of words fits where L do
pub long : (n a b : ℕ) → 2 ≤ n → 1 ≤ b → a ≤ b → b ≤ L n (a - 1) (b - 1)
long n a b two one l = omega (arith, more (K n) (max (a - 1) (b - 1)) (K_positive n two), max_right a b l)
  where
    more : (k m : ℕ) → 1 ≤ k → m ≤ k * m
    more k m h = let g : 1 * m ≤ k * m = mul-le-mul h (same m) in omega (arith, g)
      where
        same : (m : ℕ) → m ≤ m
        same m = omega arith

pub long_enough : {n : ℕ} {f g u v w : List ℕ} {x : ℕ} → QuickAsked n f g u v w → length f ≤ length g
    → L n (length f - 1) (length g - 1) ≤ x → length g ≤ x
long_enough {n} {f} {g} k l h = omega (arith, long n (length f) (length g) k.modulus k.some_g l)

-- words of two windows, times s and times t, that combine to 1
pub certified_one : (n : ℕ) (f g u v x y u' v' : List ℕ) (s t a b : ℕ) → 2 ≤ n → 1 ≤ length g → length f ≤ length g
    → Combination n f g u' v' 1 → Put n s a (length g) x u u' → Put n t b (length g) y v v'
    → Certified n (L n (length f - 1) (length g - 1)) f g u' v' 1
certified_one n f g u v x y u' v' s t a b two one l both pu pv = record {
  reduced = reduced_from n 1 f g pos (one-dvd n) (omega arith) pos (record { u = u'; v = v'; combination = both }) (λ c _. one-dvd c);
  combination = both;
  below_u = λ j. subst (λ (x : ℕ). x < n) (sym (pu.words j)) (mod-lt _ pos);
  below_v = λ j. subst (λ (x : ℕ). x < n) (sym (pv.words j)) (mod-lt _ pos);
  short_u = λ j h. pu.words j ∙ above s x a j h;
  short_v = λ j h. pv.words j ∙ above t y b j h;
}
  where
    pos : 1 ≤ n
    pos = omega arith

    above : (s : ℕ) (x : List ℕ) (at j : ℕ) → L n (length f - 1) (length g - 1) ≤ j → (s * coef (piece x at (length g)) j) % n ≡ 0
    above s x at j h =
        ap (λ (z : ℕ). (s * z) % n) (piece_over x at (length g) j (omega (arith, long n (length f) (length g) two one l)))
        ∙ ap (λ (z : ℕ). z % n) (mul-zero s) ∙ zero-mod n

-- ---- the quick attempt

pub run_asked : {n : ℕ} {f g w : List ℕ} (u v : List ℕ) → QuickAsked n f g u v w → length f ≤ length g → Asked f g w
run_asked u v k l = record { some = k.some_f; order = l; room = omega (arith, k.room) }

module _ {m : Modulus} {f g u v w : List ℕ} (k : QuickAsked m.n f g u v w) (l : length f ≤ length g)
    {r : Ending ℕ} {w' : List ℕ} (mu : Multiplied m f g r w') where
  pub hand_asked : Known m → HandAsked m r (length g) (length g) w' u v
  hand_asked known = record {
    known = known;
    factor = omega (arith, mu.k_below);
    inside_u = mu.inside_u;
    inside_v = mu.inside_v;
    below_u = mu.below_u;
    below_v = mu.below_v;
    room_u = long_enough k l k.first;
    room_v = long_enough k l k.second;
  }

  certified_quick : {u' v' : List ℕ} → Unit m r (length g) w' u v u' v'
      → Certified m.n (L m.n (length f - 1) (length g - 1)) f g u' v' 1
  certified_quick {u'} {v'} x =
      certified_one m.n f g u v (values m w') (values m w') u' v' x.s (x.s * value m r.k) r.u r.v k.modulus k.some_g l
      (handed_combination (omega (arith, k.modulus)) mu x.handed (omega arith) (omega arith)
      (λ j q. piece_over (values m w') r.u (length g) j q)
      (λ j q. piece_over (values m w') r.v (length g) j q) (sym x.inverse))
      x.handed.first x.handed.second

  attempted_here : (u' v' : List ℕ) (b : Bool) → Settled m r (length g) w' u v u' v' b → QuickAttempted m.n f g u v u' v' b
  attempted_here u' v' true x = certified_quick x
  attempted_here u' v' false x = x

pub settled_attempt : {n : ℕ} {m : Modulus} {f g w w' : List ℕ} {r : Ending ℕ} (u v u' v' : List ℕ) (b : Bool) → Multiplied m f g r w'
    → Settled m r (length g) w' u v u' v' b → QuickAsked n f g u v w → length f ≤ length g → m.n ≡ n → QuickAttempted n f g u v u' v' b
settled_attempt {f = f} {g} {w} u v u' v' b mu x k l is =
    subst (λ (z : ℕ). QuickAttempted z f g u v u' v' b) is
    (attempted_here (subst (λ (z : ℕ). QuickAsked z f g u v w) (sym is) k) l mu u' v' b x)

-- the constant c is decoded, and s is its inverse
pub unit_found : {m : Modulus} {r : Ending ℕ} {h c i s : ℕ} {w u v u' v' : List ℕ} → c ≡ value m r.c → GcdCofactor m.n c i s → i ≡ 1
    → Handed m r s h h w u v u' v' → Unit m r h w u v u' v'
unit_found {m} {s = s} e g is h = record {
  s = s;
  inverse = ap (λ (x : ℕ). (s * x) % m.n) (sym e) ∙ g.bezout ∙ ap (λ (x : ℕ). x % m.n) is;
  handed = h;
}

-- ---- f and g exchanged

pub quick_swapped : {n : ℕ} {f g u v w : List ℕ} → QuickAsked n f g u v w → QuickAsked n g f v u w
quick_swapped {n} {f} {g} {u} {v} {w} k = record {
  modulus = k.modulus;
  some_f = k.some_g;
  some_g = k.some_f;
  room = subst (λ (x : ℕ). 12 * x + 6 ≤ length w) (max_comm (length f - 1) (length g - 1)) k.room;
  first = subst (λ (x : ℕ). suc (K n * x) ≤ length v) (max_comm (length f - 1) (length g - 1)) k.second;
  second = subst (λ (x : ℕ). suc (K n * x) ≤ length u) (max_comm (length f - 1) (length g - 1)) k.first;
}

pub attempted_flip : (n : ℕ) (f g u v u' v' : List ℕ) (r : Bool) → 2 ≤ n → QuickAttempted n g f v u v' u' r
    → QuickAttempted n f g u v u' v' r
attempted_flip n f g u v u' v' true two t =
    subst (λ (x : ℕ). Certified n (suc (K n * x)) f g u' v' 1) (max_comm (length g - 1) (length f - 1))
    (certified_flip n (L n (length g - 1) (length f - 1)) g f v' u' 1 two t)
attempted_flip n f g u v u' v' false two t = (t.1, t.0)

pub quick_asked : {n : ℕ} {f g u v w : List ℕ} → AttemptAsked n f g u v w → QuickAsked n f g u v w
quick_asked {n} {f} {g} k = record {
  modulus = k.modulus;
  some_f = k.some_f;
  some_g = k.some_g;
  room = omega (arith, k.room);
  first = k.first;
  second = k.second;
}

-- ---- the answer

pub attempted_true : (n : ℕ) (f g u v u' v' : List ℕ) (r : Bool) → r ≡ true → QuickAttempted n f g u v u' v' r
    → Certified n (L n (length f - 1) (length g - 1)) f g u' v' 1
attempted_true n f g u v u' v' r e t = subst (λ (x : Bool). QuickAttempted n f g u v u' v' x) e t

-- the buffers are as found, and the general attempt has to try
pub attempted_later : (n : ℕ) (f g u v u₁ v₁ u' v' : List ℕ) (r : Bool) (x : Result ℕ (Split ℕ)) → r ≡ false → QuickAttempted n f g u v u₁ v₁ r
    → Attempted n f g u₁ v₁ u' v' x → Attempted n f g u v u' v' x
attempted_later n f g u v u₁ v₁ u' v' r x h t a =
    let e = subst (λ (b : Bool). QuickAttempted n f g u v u₁ v₁ b) h t in
    subst (λ (y : List ℕ). Attempted n f g y v u' v' x) e.0 (subst (λ (y : List ℕ). Attempted n f g u₁ y u' v' x) e.1 a)

pub ruleset tries = (rules, run_asked, hand_asked, settled_attempt, unit_found, quick_swapped, attempted_flip)

pub ruleset both_tries = (rules, quick_asked, attempted_true, attempted_later)
