-- From what the search finds to the grounds as the service words them.
--
--   wiped_zeros, wiped_asked, coprime    the buffer after the wipe; d is 1
--   both_zero       the first ground
--   degree_fits, monic_known, monic_asked, common_divisor     the second
--   grounds, coprimes    the rules
use mathlib.Core.Path.{◌≡◌, refl, sym, ap, subst, ◌∙◌}
use mathlib.Core.List.{List}
use mathlib.Core.Logic.{⊎_elim}
use Prim.Native.Nat.{ℕ, ◌+◌, ◌*◌, ◌%◌, ◌<◌, ◌≤◌, ◌∣◌}
use native.Mathlib.Nat.{mod-lt, mod-mod, mod-eq_of_lt, zero-mod, one-mul, mul-zero}
use native.Mathlib.Omega.{arith}
use mir.Syntax.{w32}
use mir.Val.{Fits}
use borrow.Author.Rules.{rules}
use lib.ListN.{length, get_or, replicate, length-replicate}
use Rattle.definitions.specs.Polynomials.{coef}
use Rattle.law_numbers.specs.Congruence.{Cong, c_refl, c_sym, c_trans, c_eq, c_mul, c_mod}
use Rattle.modulus.specs.Values.{Known}
use Rattle.modulus.specs.declared.Modulus.{Modulus}
use Rattle.windows.specs.Window.{piece}
use Rattle.windows.proofs.Leaf.{piece_at, piece_over, lt_or_le}
use Rattle.common_factor.specs.Common.{DividesModulo}
use Rattle.common_factor.specs.CommonLaws.{divides_constant, divides_trans}
use Rattle.common_factor.specs.Searches.{CommonIn, GroundIn, MonicAsked, MonicOf}
use Rattle.common_factor.specs.declared.Found.{Found}
use Rattle.common_factor.specs.declared.Ground.{Ground}
use Rattle.common_factor.specs.declared.Ground.TheVariants.{Zero, Common}
use Rattle.why_service.specs.Asked.{GroundAsked}
use Rattle.why_service.specs.WhyService.{NamedDivisor, Coprime, BothZero, CommonDivisor}

pub wiped_zeros : {d : ℕ} {f g o w work : List ℕ} → GroundAsked d f g w work → o ≡ replicate (length w) 0 → o ≡ replicate 49 0
wiped_zeros a e = e ∙ ap (λ (x : ℕ). replicate x 0) a.words

pub wiped_asked : {d : ℕ} {f g o w work : List ℕ} → GroundAsked d f g w work → o ≡ replicate (length w) 0 → GroundAsked d f g o work
wiped_asked {w = w} a e = record {
  least = a.least;
  words = ap length e ∙ length-replicate (length w) 0 ∙ a.words;
  few_f = a.few_f;
  few_g = a.few_g;
  room = a.room;
  only = a.only;
}

pub coprime : {d : ℕ} {f g o w work : List ℕ} → GroundAsked d f g w work → o ≡ replicate (length w) 0 → d ≡ 1 → Coprime d o 0 0
coprime a e h = record { one = h; zeros = wiped_zeros a e; no_modulus = refl; no_degree = refl }

-- o' is the divisor times the inverse of its leading word
module _ (m t a : ℕ) (w o o' : List ℕ) (two : 2 ≤ m) (r : MonicOf m a t w o o') where
  pos : 1 ≤ m
  pos = omega (arith, two)

  lead : ℕ
  lead = get_or w (a + t) 0

  inverse_lead : Cong m (r.inverse * lead) 1
  unfolding lead
  inverse_lead = record { same = sym (r.words t (omega arith)) ∙ r.lead ∙ sym one }
    where
      one : 1 % m ≡ 1
      one = mod_of m two
        where
          mod_of : (m : ℕ) → 2 ≤ m → 1 % m ≡ 1
          mod_of m l = mod-eq_of_lt l

  back : (k : ℕ) → coef (piece w a (t + 1)) k % m ≡ (lead * coef o' k) % m
  back k = ⊎_elim low high (lt_or_le k (t + 1))
    where
      round : (l i x : ℕ) → l * (i * x) ≡ i * l * x
      round l i x = omega arith

      low : k < t + 1 → coef (piece w a (t + 1)) k % m ≡ (lead * coef o' k) % m
      low p = (c_sym (c_trans (c_mul (c_refl {a = lead}) (c_trans (c_eq (r.words k (omega arith))) (c_mod (r.inverse * get_or w (a + k) 0))))
          (c_trans (c_eq (round lead r.inverse (get_or w (a + k) 0))) (c_trans (c_mul inverse_lead (c_refl {a = get_or w (a + k) 0}))
          (c_eq (one-mul (get_or w (a + k) 0) ∙ sym (piece_at w a (t + 1) k p))))))).same

      high : t + 1 ≤ k → coef (piece w a (t + 1)) k % m ≡ (lead * coef o' k) % m
      high p = ap (λ (x : ℕ). x % m)
          (piece_over w a (t + 1) k p ∙ sym (ap (λ (x : ℕ). lead * x) (r.above k (omega arith)) ∙ mul-zero lead))

  pub monic_divides : DividesModulo m o' (piece w a (t + 1))
  monic_divides = divides_constant m lead o' _ back

  pub below : (k : ℕ) → coef o' k < m
  below k = ⊎_elim (λ (p : k < t + 1). subst (λ (x : ℕ). x < m) (sym (r.words k (omega arith))) (mod-lt _ pos))
      (λ (p : t + 1 ≤ k). subst (λ (x : ℕ). x < m) (sym (r.above k (omega arith))) pos) (lt_or_le k (t + 1))

named : (d m : ℕ) → m ∣ d → 2 ≤ m → NamedDivisor d d m
named d m h l = record { divides_n = h; above = l; divides_D = h }

module _ (d : ℕ) (f g work : List ℕ) (r : Ground) where
  pub both_zero : {m : ℕ} {w : List ℕ} → r ≡ Zero m → GroundIn d f g work r → w ≡ replicate 49 0 → BothZero d d f g w m 0
  both_zero {m} e y h = let z = subst (GroundIn d f g work) e y in
      record {
        modulus = named d m z.divides z.two;
        first = z.first;
        second = z.second;
        zeros = h;
        no_degree = refl;
      }

  module _ (h : Found) (e : r ≡ Common h) (y : GroundIn d f g work r) where
    common : CommonIn d 48 f g work h
    common = subst (GroundIn d f g work) e y

    pub degree_fits : {t : ℕ} → t ≡ h.degree → Fits w32 t
    degree_fits et = record { fits = omega (arith, common.few) }

    pub monic_known : {m : Modulus} → m ≡ h.m → Known m
    monic_known em = rw em common.known

    pub monic_asked : {m a t : ℕ} {w work₀ : List ℕ} → GroundAsked d f g w work₀ → m ≡ h.m.n → a ≡ h.at → t ≡ h.degree
        → MonicAsked m a t w work
    monic_asked s em ea et = rw (em, ea, et) (record {
      two = common.two;
      fits = omega (arith, common.few, s.words);
      inside = common.inside;
      unit = common.unit;
    })

    pub common_divisor : {o o' : List ℕ} {m t : ℕ} → MonicOf h.m.n h.at h.degree work o o' → m ≡ h.m.n → t ≡ h.degree
        → CommonDivisor d d f g o' m t
    common_divisor {o} {o'} v em et = rw (em, et) (record {
      modulus = named d h.m.n common.divides common.two;
      some = common.one;
      residues = record { at = λ k _. below h.m.n h.degree h.at work o o' common.two v k };
      monic = record {
        lead = ap (λ (x : ℕ). x % h.m.n) v.lead;
        above = λ k l. ap (λ (x : ℕ). x % h.m.n) (v.above k l) ∙ zero-mod h.m.n;
      };
      first = divides_trans h.m.n some_m o' _ f written common.first;
      second = divides_trans h.m.n some_m o' _ g written common.second;
    })
      where
        some_m : 1 ≤ h.m.n
        some_m = omega (arith, common.two)

        written : DividesModulo h.m.n o' (piece work h.at (h.degree + 1))
        written = monic_divides h.m.n h.degree h.at work o o' common.two v

pub ruleset grounds = (rules, both_zero, degree_fits, monic_known, monic_asked, common_divisor)

pub ruleset coprimes = (rules, wiped_zeros, wiped_asked, coprime)
