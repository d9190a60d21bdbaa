-- An attempt whose polynomials are 0 modulo n, the exchange of the two polynomials, and the calls of an attempt.
--
--   none_certified, certified_flip                        D of polynomials that are 0 modulo n; f and g exchanged
--   halves_asked, later_asked                             what the two halves ask
--   none_told, parted, other_told, swapped_told, never_told    what an attempt answers
--   wholes                                                the rules
use mathlib.Core.Path.{◌≡◌, sym, ap, subst, ◌∙◌}
use mathlib.Core.List.{List, []}
use Prim.Native.Nat.{ℕ, suc, max, ◌+◌, ◌-◌, ◌*◌, ◌%◌, ◌≤◌, ◌<◌, ◌∣◌}
use native.Mathlib.Omega.{arith}
use native.Mathlib.Nat.{mod-mod, mod-one, mul-one, mul-le-mul_left, mod-eq-zero_of_dvd, mul-mod_right, max_comm}
use lib.ListN.{length, replicate}
use Rattle.std.specs.Prelude.{Result, Ok, Err}
use Rattle.definitions.specs.Residues.{K}
use Rattle.definitions.specs.Polynomials.{coef, L}
use Rattle.definitions.specs.Resultants.{Combination, Reduced}
use Rattle.law_polynomials.specs.ReachedSteps.{Times}
use Rattle.law_polynomials.specs.ReducedLaws.{reduced_content, reduced_one, reduced_flip}
use Rattle.law_multipliers.specs.Joining.{combination_content, combination_flip}
use Rattle.reduced_cofactors.specs.Cofactors.{Certified, core_room}
use Rattle.convolution.specs.Sums.{zeros_at}
use Rattle.residue.specs.declared.Split.{Split}
use Rattle.windows.specs.Window.{Scratch}
use Rattle.reduced_attempt.specs.ReducedAttempts.{CommonContent, NilpotentOver, HalfAsked, HalvesAsked, OtherAsked, Parted}
use Rattle.reduced_attempt.specs.ReducedAttempts.{attempt_room, AttemptAsked, Attempted}
use Rattle.reduced_attempt.proofs.Halves.{common_swap, common_primitive}

-- ---- both polynomials are 0 modulo n

pub none_certified : (n len : ℕ) (f g x y : List ℕ) → 2 ≤ n → CommonContent n f g n
    → Certified n len f g (replicate (length x) 0) (replicate (length y) 0) n
none_certified n len f g x y two cm = record {
  reduced = subst (λ (z : ℕ). Reduced z f g z) (mul-one n)
      (reduced_content n 1 1 f [] g [] (omega arith) (omega arith) (times f cm.divides_f) (times g cm.divides_g) (reduced_one [] []));
  combination = subst (λ (z : ℕ). Combination z f g (replicate (length x) 0) (replicate (length y) 0) z) (mul-one n)
      (combination_content n 1 1 (omega arith) (omega arith) f [] g [] (replicate (length x) 0) (replicate (length y) 0)
      (times f cm.divides_f) (times g cm.divides_g) (record { sum = λ k. mod-one _ ∙ sym (mod-one _) }));
  below_u = λ k. subst (λ (z : ℕ). z < n) (sym (zeros_at (length x) k)) (omega arith);
  below_v = λ k. subst (λ (z : ℕ). z < n) (sym (zeros_at (length y) k)) (omega arith);
  short_u = λ k h. zeros_at (length x) k;
  short_v = λ k h. zeros_at (length y) k;
}
  where
    times : (f : List ℕ) → ((k : ℕ) → n ∣ coef f k % n) → Times (n * 1) n f []
    times f d = record {
      at = λ k. subst (λ (z : ℕ). coef f k % z ≡ (n * coef [] k) % z) (sym (mul-one n))
          (sym (mod-mod (coef f k) n) ∙ mod-eq-zero_of_dvd n (d k) ∙ sym (mul-mod_right n (coef [] k)));
    }

pub certified_flip : (n len : ℕ) (f g u v : List ℕ) (D : ℕ) → 2 ≤ n → Certified n len f g u v D → Certified n len g f v u D
certified_flip n len f g u v D two x = record {
  reduced = reduced_flip n (omega arith) f g D x.reduced;
  combination = combination_flip x.combination;
  below_u = x.below_v;
  below_v = x.below_u;
  short_u = x.short_v;
  short_v = x.short_u;
}

-- ---- rooms

le_left : (d e : ℕ) → d ≤ max d e
le_left d e = omega arith

le_right : (d e : ℕ) → e ≤ max d e
le_right d e = omega arith

half_room : (n d e x : ℕ) → attempt_room n (max d e) ≤ x → core_room n d e ≤ x
half_room n d e x h = omega (arith, mul-le-mul_left (K n) (le_left d e), le_left d e, le_right d e)

half_room_swap : (n d e x : ℕ) → attempt_room n (max d e) ≤ x → core_room n e d ≤ x
half_room_swap n d e x h = half_room n e d x (subst (λ (m : ℕ). attempt_room n m ≤ x) (max_comm d e) h)

length_swap : (n d e : ℕ) → L n d e ≡ L n e d
length_swap n d e = ap (λ (m : ℕ). suc (K n * m)) (max_comm d e)

-- ---- what an attempt asks of its halves

module _ {n c : ℕ} {f g u v w : List ℕ} (a : AttemptAsked n f g u v w) (cm : CommonContent n f g c) where
  pub none_told : {u' v' : List ℕ} (x y : List ℕ) → c ≡ n → u' ≡ replicate (length x) 0 → v' ≡ replicate (length y) 0
      → Certified n (L n (length f - 1) (length g - 1)) f g u' v' n
  none_told x y e eu ev = rw (eu, ev) (none_certified n _ f g x y a.modulus (subst (CommonContent n f g) e cm))

  pub halves_asked : {w₁ : List ℕ} → (c ≡ n → ⊥) → Scratch w w₁ → HalvesAsked n c f g u v w₁
  halves_asked {w₁} ne sw = record {
    first = record {
      modulus = a.modulus;
      some_a = a.some_f;
      some_b = a.some_g;
      room = omega (arith, half_room n (length f - 1) (length g - 1) _ a.room, sw.same);
      first = a.first;
      second = a.second;
      content = cm;
      proper = ne;
    };
    second = record {
      modulus = a.modulus;
      some_a = a.some_g;
      some_b = a.some_f;
      room = omega (arith, half_room_swap n (length f - 1) (length g - 1) _ a.room, sw.same);
      first = omega (arith, length_swap n (length f - 1) (length g - 1), a.second);
      second = omega (arith, length_swap n (length f - 1) (length g - 1), a.first);
      content = common_swap n c f g cm;
      proper = ne;
    };
  }

-- the second, after the first
pub later_asked : {n c : ℕ} {f g u v w u₁ v₁ w₁ : List ℕ} → HalvesAsked n c f g u v w → u₁ ≡ u → v₁ ≡ v → Scratch w w₁ → NilpotentOver n c f
    → OtherAsked n c f g u₁ v₁ w₁
later_asked hs eu ev sw x = record {
  half = let h = hs.second in rw (eu, ev) (record {
    modulus = h.modulus;
    some_a = h.some_a;
    some_b = h.some_b;
    room = omega (arith, h.room, sw.same);
    first = h.first;
    second = h.second;
    content = h.content;
    proper = h.proper;
  });
  nilpotent = x;
}

-- ---- what the halves say of the attempt

pub parted : (n : ℕ) (f g u v u' v' : List ℕ) (r : Result ℕ (Split ℕ)) → u' ≡ u → v' ≡ v → Parted n r → Attempted n f g u v u' v' r
parted n f g u v u' v' (Ok D) hu hv x = absurd x
parted n f g u v u' v' (Err p) hu hv x = (x, (hu, hv))

pub other_told : (n : ℕ) (f g u v u₁ v₁ u' v' : List ℕ) (r : Result ℕ (Split ℕ)) → u₁ ≡ u → v₁ ≡ v → Attempted n f g u₁ v₁ u' v' r
    → Attempted n f g u v u' v' r
other_told n f g u v u₁ v₁ u' v' r hu hv x =
    subst (λ (y : List ℕ). Attempted n f g u y u' v' r) hv (subst (λ (y : List ℕ). Attempted n f g y v₁ u' v' r) hu x)

module _ {n c : ℕ} {f g u v w : List ℕ} (h : HalfAsked n c g f v u w) where
  pub swapped_told : {D : ℕ} {u' v' : List ℕ} → Certified n (L n (length g - 1) (length f - 1)) g f v' u' D
      → Certified n (L n (length f - 1) (length g - 1)) f g u' v' D
  swapped_told {D} {u'} {v'} x =
      subst (λ (len : ℕ). Certified n len f g u' v' D) (sym (length_swap n (length f - 1) (length g - 1)))
      (certified_flip _ _ _ _ _ _ _ h.modulus x)

  pub never_told : {D : ℕ} {u' v' : List ℕ} → NilpotentOver n c f → NilpotentOver n c g
      → Certified n (L n (length f - 1) (length g - 1)) f g u' v' D
  never_told x y = absurd (common_primitive n c g f h.modulus h.content h.proper y x)

pub ruleset wholes = (none_told, halves_asked, swapped_told, never_told)
