-- S47: "accepts exactly when …, whoever made the claim": an answer of the engine, D with its cofactors, is accepted as a claim, over any
-- width of at most 64 bits.
--
--   own_length       a cofactor has 1 to 4096 words
--   own_accepted     the answer of the reduced resultant, sent as a claim
--   own_case         the same for the case told
use Rattle.std.specs.Prelude.{◌≡◌, refl, List, ℕ, suc, pred, max, ◌*◌, ◌^◌, ◌≤◌, ◌<◌, length, take}
use Rattle.std.proofs.Common.{sym, subst, ◌∙◌, arith, mul-le-mul, lt_of_lt_of_le, zero-lt-suc, length-take-le}
use Rattle.definitions.specs.Residues.{K}
use Rattle.definitions.specs.Polynomials.{deg, L}
use Rattle.law_numbers.specs.Logarithm.{K_below}
use Rattle.refusals.specs.Refusals.{Width}
use Rattle.refusals.specs.Conditions.{Passed, status_zero}
use Rattle.reduced_service.specs.ReducedService.{reduced_refusals, reduced_conditions, reduced_listed, HoldsCofactor, ReducedAnswer}
use Rattle.claims.specs.Claims.{Judged}
use Rattle.claims.specs.ClaimLaws.{judged_once}
use Rattle.claim_service.specs.declared.Claim.{Claim}
use Rattle.claim_service.specs.declared.Claim.TheVariants.{Accepted}
use Rattle.claim_service.specs.ClaimService.{ServedMultiplier, claim_refusals, claim_conditions, claim_listed}
use Rattle.claim_service.specs.ClaimService.{claim_number, claim_value, same_case}
use Rattle.claim_service.specs.ClaimService.{ClaimSaid, ClaimAnswer, ClaimCase}

-- K is at most 63 and a degree at most 48
own_length : (n : ℕ) (f g : List ℕ) → 1 ≤ n → n < 2 ^ 64 → length f ≤ 49 → length g ≤ 49 → L n (deg f) (deg g) ≤ 4096
own_length n f g l b lf lg =
    let k = K_below n 64 l b in
    let m : max (deg f) (deg g) ≤ 48 = most (length f) (length g) lf lg in
    let p = mul-le-mul {n₁ = K n} {m₁ = max (deg f) (deg g)} {n₂ = 63} {m₂ = 48} (omega arith) m in
    small (K n * max (deg f) (deg g)) p
  where
    most : (a b : ℕ) → a ≤ 49 → b ≤ 49 → max (pred a) (pred b) ≤ 48
    most a b p q = omega arith

    small : (x : ℕ) → x ≤ 63 * 48 → suc x ≤ 4096
    small x h = omega arith

own_multiplier : (n l : ℕ) (b b' : List ℕ) → 1 ≤ l → l ≤ 4096 → l ≤ length b → HoldsCofactor n l b b' → ServedMultiplier (take l b')
own_multiplier n l b b' some few fits h =
    let e = length-take-le l b' (omega (arith, h.same)) in record { some = omega (arith, e); few = omega (arith, e) }

module _ (W : Width) (fits : W.bound ≤ 2 ^ 64) (n D : ℕ) (f g u u' v v' work work' : List ℕ)
    (own : ReducedAnswer W n f g u u' v v' work work' D 0) (lent lent' : List ℕ) (room : W.working ≤ length lent) where
  -- none of the refusals applies
  own_passed : Passed (claim_conditions W n f g (take (L n (deg f) (deg g)) u') (take (L n (deg f) (deg g)) v') (length lent))
  own_passed =
      let l = L n (deg f) (deg g) in
      let p = (status_zero (reduced_refusals W n f g (length u) (length v) (length work))
      (reduced_conditions W n f g (length u) (length v) (length work)) (reduced_listed W n f g (length u) (length v) (length work))).0
      (sym own.status_is) in
      let most = own_length n f g (omega (arith, p.0.least)) (lt_of_lt_of_le p.0.most fits) p.1.0.few p.1.1.0.few in
      let fu = p.1.1.1.1.1.0 in
      let fv = p.1.1.1.1.1.1.0 in (
        p.0,
        (
          p.1.0,
          (
            p.1.1.0,
            (
              own_multiplier n l u u' (zero-lt-suc _) most fu own.result.first,
              (
                own_multiplier n l v v' (zero-lt-suc _) most fv own.result.second,
                (
                  p.1.1.1.0,
                  (p.1.1.1.1.0, (own.result.first.residues, (own.result.second.residues, (room, tt)))),
                ),
              ),
            ),
          ),
        ),
      )

  own_judged : Judged 0 n f g D (take (L n (deg f) (deg g)) u') (take (L n (deg f) (deg g)) v')
  own_judged = (own.result.reduced.divides, (own.result.combination, own.result.reduced))

  -- whoever checks it, on however many working words
  pub own_accepted : (value status : ℕ)
      → ClaimAnswer W n f g D (take (L n (deg f) (deg g)) u') (take (L n (deg f) (deg g)) v') lent lent' value status
      → (value ≡ 0) × (status ≡ 0)
  own_accepted value status a = (value_zero, zero_here)
    where
      zero_here : status ≡ 0
      zero_here =
          a.status_is
          ∙ (status_zero (claim_refusals W n f g (take (L n (deg f) (deg g)) u') (take (L n (deg f) (deg g)) v') (length lent))
          (claim_conditions W n f g (take (L n (deg f) (deg g)) u') (take (L n (deg f) (deg g)) v') (length lent))
          (claim_listed W n f g (take (L n (deg f) (deg g)) u') (take (L n (deg f) (deg g)) v') (length lent))).1 own_passed

      value_zero : value ≡ 0
      value_zero =
          judged_once value 0 n f g D (take (L n (deg f) (deg g)) u') (take (L n (deg f) (deg g)) v')
          (subst (λ (s : ℕ). ClaimSaid s value n f g D (take (L n (deg f) (deg g)) u') (take (L n (deg f) (deg g)) v')) zero_here a.said)
          own_judged

  pub own_case : (r : Claim)
      → ClaimCase W n f g D (take (L n (deg f) (deg g)) u') (take (L n (deg f) (deg g)) v') lent lent' r → r ≡ Accepted
  own_case r c =
      let z = own_accepted (claim_value r) (claim_number r) c.answer in
      same_case r Accepted z.1 refl z.0
