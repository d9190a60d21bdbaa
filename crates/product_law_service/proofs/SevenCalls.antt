-- The seven calls answer, once none of the refusals applies, and their answers obey the law.
--
--   Asked                        what is known of n, f, g and h once none of the refusals 1, 2 and 3 applies
--   Room                         what is known of the buffers
--   product_answers, far_answers                            a call answers, and what it answers
--   first_some, second_some, third_some, cofactor_fits      what the code asks after the refusals 1, 2 and 3
--   law_stops, law_passes        the first refusal of the seven calls
--   factor_some, other_some, part_end    what the code asks once none applies
--   law_refused, law_done        what is promised at each return
--   sends                        the rules after the refusals 1, 2 and 3
use mathlib.Core.Path.{◌≡◌, refl, sym, ap, ap₂, subst, ◌∙◌}
use mathlib.Core.List.{List, [], ◌∷◌, ◌++◌}
use Prim.Native.Nat.{ℕ, zero, suc, pred, max, ◌+◌, ◌-◌, ◌*◌, ◌%◌, ◌≤◌, ◌<◌}
use native.Mathlib.Nat.{mod-lt, mul-le-mul, le_trans}
use native.Mathlib.Numerals.{sub-one}
use native.Mathlib.Omega.{arith}
use lib.Dec.{T, leb, leb→le}
use lib.ListN.{length, take, drop, replicate, length-replicate}
use lib.Seq.{drop-drop, take_at}
use Rattle.definitions.specs.Residues.{K}
use Rattle.definitions.specs.Polynomials.{coef, deg, convolve, product, Residues, L}
use Rattle.definitions.specs.Resultants.{resultant}
use Rattle.law_polynomials.specs.PointThree.{SevenAnswers, point_three}
use Rattle.law_polynomials.specs.Words.{coef_tabulate}
use Rattle.law_numbers.specs.Logarithm.{K_below}
use Rattle.refusals.specs.Refusals.{Width, Tested, first_of, first_refusal, answered, left, replaced}
use Rattle.refusals.specs.Conditions.{Listed, ServedModulus, ServedLength, status_zero}
use Rattle.refusals.specs.Conditions.{modulus_fails, length_fails, words_fail, short_fails}
use Rattle.refusals.proofs.Cascade.{below_bound}
use Rattle.refusals.proofs.Statuses.{refused_early, passed_on, front_passes, first_append, left_refused, replaced_refused}
use Rattle.product_service.specs.ProductService.{ProductAnswer, product_refusals, product_conditions, product_listed}
use Rattle.product_service.proofs.ProductReturns.{product_length, product_words}
use Rattle.reduced_service.specs.ReducedService.{ReducedLeft, HoldsCofactor, HoldsReduced}
use Rattle.reduced_service.specs.ReducedService.{reduced_refusals, reduced_conditions, reduced_listed}
use Rattle.product_law_refusals.specs.LawRefusals.{law_sent, law_room}
use Rattle.product_law_service.specs.HowFar.{HowFarAnswer}
use Rattle.product_law_service.specs.LawService.{law_refusals, FactorNumbers, LawLeft, LawAnswer}

-- ---- what is known

pub record Asked (W : Width) (n : ℕ) (f g h : List ℕ) : Type 0 where
  pub modulus : ServedModulus W n
  pub length_f : ServedLength f
  pub length_g : ServedLength g
  pub sum : deg f + deg g ≤ 48
  pub length_h : ServedLength h
  pub words_f : Residues n f
  pub words_g : Residues n g
  pub words_h : Residues n h

abbrev sent_conditions : Width → ℕ → List ℕ → List ℕ → List ℕ → List (Type 0)
sent_conditions W n f g h =
    ServedModulus W n ∷ ServedLength f ∷ ServedLength g ∷ (deg f + deg g ≤ 48) ∷ ServedLength h ∷ Residues n f ∷ Residues n g
    ∷ Residues n h ∷ []

sent_listed : (W : Width) (n : ℕ) (f g h : List ℕ) → Listed (law_sent W n f g h) (sent_conditions W n f g h)
sent_listed W n f g h = search (arith, tt, modulus_fails, length_fails, words_fail, short_fails) depth 20

pub asked : (W : Width) (n : ℕ) (f g h : List ℕ) (s : ℕ) → s ≡ first_refusal (law_sent W n f g h) → s ≡ 0 → Asked W n f g h
asked W n f g h s e z =
    let p = (status_zero (law_sent W n f g h) (sent_conditions W n f g h) (sent_listed W n f g h)).0 (sym e ∙ z) in
    record {
      modulus = p.0;
      length_f = p.1.0;
      length_g = p.1.1.0;
      sum = p.1.1.1.0;
      length_h = p.1.1.1.1.0;
      words_f = p.1.1.1.1.1.0;
      words_g = p.1.1.1.1.1.1.0;
      words_h = p.1.1.1.1.1.1.1.0;
    }

pub record Room (W : Width) (lp m lu lv l lw : ℕ) : Type 0 where
  pub product : m ≤ lp
  pub first : l ≤ lu
  pub second : l ≤ lv
  pub work : W.working ≤ lw

pub roomy : (W : Width) (lp m lu lv l lw s : ℕ) → s ≡ first_refusal (law_room W lp m lu lv l lw) → s ≡ 0 → Room W lp m lu lv l lw
roomy W lp m lu lv l lw s e z =
    let c : List (Type 0) = (m ≤ lp) ∷ (l ≤ lu) ∷ (l ≤ lv) ∷ (W.working ≤ lw) ∷ [] in
    let x : Listed (law_room W lp m lu lv l lw) c = (
      (omega arith, short_fails lp m),
      ((omega arith, short_fails lu l), ((omega arith, short_fails lv l), ((omega arith, short_fails lw W.working), tt))),
    ) in
    let p = (status_zero (law_room W lp m lu lv l lw) c x).0 (sym e ∙ z) in
    record { product = p.0; first = p.1.0; second = p.1.1.0; work = p.1.1.1.0 }

-- ---- the product's words

product_residues : (n : ℕ) (f g : List ℕ) → 1 ≤ n → Residues n (product n f g)
product_residues n f g l = record {
  at = λ k h. subst (λ (x : ℕ). x < n)
      (sym (coef_tabulate (suc (deg f + deg g)) (λ i. convolve (coef f) (coef g) i % n) k (omega (arith, product_words n f g))))
      (mod-lt (convolve (coef f) (coef g) k) l);
}

product_served : (n : ℕ) (f g : List ℕ) → deg f + deg g ≤ 48 → ServedLength (product n f g)
product_served n f g l = record { some = omega (arith, product_words n f g); few = omega (arith, product_words n f g) }

-- ---- a call answers

-- what a call of `how_far` that answered has left
record Answered (n : ℕ) (f h u u' v v' work work' : List ℕ) (r D : ℕ) : Type 0 where
  pub resultant_is : r ≡ resultant n f h
  pub held : HoldsReduced n f h u u' v v' D
  pub wiped : work' ≡ replicate (length work) 0
  pub same : length work' ≡ length work

module _ (W : Width) (n : ℕ) (mo : ServedModulus W n) where
  product_answers : (f g out out' : List ℕ) (x s : ℕ) → ServedLength f → ServedLength g → deg f + deg g ≤ 48 → Residues n f
      → Residues n g → suc (deg f + deg g) ≤ length out → ProductAnswer W n f g out out' x s
      → (s ≡ 0) × (out' ≡ product n f g ++ drop (length (product n f g)) out)
  product_answers f g out out' x s lf lg d wf wg r a =
      let z : s ≡ 0 =
      a.status_is
      ∙ (status_zero (product_refusals W n f g (length out)) (product_conditions W n f g (length out))
      (product_listed W n f g (length out))).1 (mo, (lf, (lg, (d, (wf, (wg, (r, tt))))))) in
      (z, a.out_is ∙ ap (λ (t : ℕ). replaced t (product n f g) out) z)

  -- both numbers of f and h
  far_answers : (f h u u' v v' work work' : List ℕ) (r D s : ℕ) → ServedLength f → ServedLength h → Residues n f → Residues n h
      → L n (deg f) (deg h) ≤ length u → L n (deg f) (deg h) ≤ length v → W.working ≤ length work
      → HowFarAnswer W n f h u u' v v' work work' r D s → Answered n f h u u' v v' work work' r D
  far_answers f h u u' v v' work work' r D s lf lh wf wh ru rv rw a =
      let z : s ≡ 0 =
      a.reduced_is.status_is
      ∙ (status_zero (reduced_refusals W n f h (length u) (length v) (length work))
      (reduced_conditions W n f h (length u) (length v) (length work))
      (reduced_listed W n f h (length u) (length v) (length work))).1 (mo, (lf, (lh, (wf, (wh, (ru, (rv, (rw, tt)))))))) in
      let e : work' ≡ replicate (length work) 0 = a.reduced_is.work_is ∙ ap (λ (t : ℕ). left t work) z in
      record {
        resultant_is = a.resultant_is ∙ ap (λ (t : ℕ). answered t (resultant n f h)) z;
        held = subst (λ (t : ℕ). ReducedLeft t n f h u u' v v' D) z a.reduced_is.result;
        wiped = e;
        same = ap length e ∙ length-replicate (length work) 0;
      }

-- ---- what the code asks after the refusals 1, 2 and 3

pub shorter : (n d e b : ℕ) → d ≤ e → L n d b ≤ L n e b
shorter n d e b l = omega (arith, mul-le-mul {n₁ = K n} {m₁ = max d b} {n₂ = K n} {m₂ = max e b} (omega arith) (omega arith))

module _ (B n s : ℕ) (f g h : List ℕ) (e : s ≡ first_refusal (law_sent (below_bound B) n f g h)) (z : s ≡ 0) where
  known : Asked (below_bound B) n f g h
  known = asked (below_bound B) n f g h s e z

  pub first_some : {k : ℕ} → k ≡ length f → 1 ≤ k
  first_some i = omega (arith, known.length_f.some)

  pub second_some : {k : ℕ} → k ≡ length g → 1 ≤ k
  second_some i = omega (arith, known.length_g.some)

  pub third_some : {k : ℕ} → k ≡ length h → 1 ≤ k
  third_some i = omega (arith, known.length_h.some)

  -- K is at most 62, and the larger degree at most 48
  pub cofactor_fits : (m b : ℕ) → T (leb B 9223372036854775808) → m ≡ length f - 1 + (length g - 1) + 1 → b ≡ length h
      → L n (m - 1) (b - 1) < 18446744073709551616
  cofactor_fits m b top em eb =
      let a = known in
      let k = K_below n 63 (omega (arith, a.modulus.least)) (omega (arith, a.modulus.most, leb→le B 9223372036854775808 top)) in
      let d : m ≤ 49 = omega (arith, product_length f g, a.sum) in
      let q : max (m - 1) (b - 1) ≤ 48 = omega (arith, a.length_h.few) in
      small (K n * max (m - 1) (b - 1)) (mul-le-mul {n₁ = K n} {m₁ = max (m - 1) (b - 1)} {n₂ = 62} {m₂ = 48} (omega arith) q)
    where
      small : (x : ℕ) → x ≤ 62 * 48 → suc x < 18446744073709551616
      small x q = omega arith

-- ---- buffers that were lent twice

beyond_more : (a b : ℕ) (x y : List ℕ) → a ≤ b → drop a x ≡ drop a y → drop b x ≡ drop b y
beyond_more a b x y l e =
    let z : a + (b - a) ≡ b = omega arith in
    ap (λ (i : ℕ). drop i x) (sym z) ∙ sym (drop-drop (b - a) a x) ∙ ap (drop (b - a)) e ∙ drop-drop (b - a) a y
    ∙ ap (λ (i : ℕ). drop i y) z

cofactor_then : {n : ℕ} (k l : ℕ) {b b₁ b₂ : List ℕ} → k ≤ l → HoldsCofactor n k b b₁ → HoldsCofactor n l b₁ b₂ → HoldsCofactor n l b b₂
cofactor_then k l {b} {b₁} {b₂} m p q = record {
  same = q.same ∙ p.same;
  residues = q.residues;
  beyond = q.beyond ∙ beyond_more k l b₁ b m p.beyond;
}

-- ---- the returns

nothing_done : (s n : ℕ) (f g h u v : List ℕ) → (s ≡ 0 → ⊥) → LawLeft s n f g h u u v v 0 0 0 0 0 0
nothing_done zero n f g h u v z = absurd (z refl)
nothing_done (suc s) n f g h u v z = record {
  resultants = (refl, (refl, refl));
  reduced = (refl, (refl, refl));
  first = refl;
  second = refl;
}

abbrev room : Width → ℕ → List ℕ → List ℕ → List ℕ → ℕ → ℕ → ℕ → ℕ → List Tested
room W n f g h lp lu lv lw = law_room W lp (suc (deg f + deg g)) lu lv (L n (deg f + deg g) (deg h)) lw

-- a width of two numbers: where a goal shows no width, `search` takes them from the status
abbrev sized : ℕ → ℕ → Width
sized B w = record { bound = B; working = w }

module _ (W : Width) (n : ℕ) (f g h : List ℕ) (lp lu lv lw s : ℕ) (e : s ≡ first_refusal (law_sent W n f g h)) where
  pub law_stops : (s ≡ 0 → ⊥) → s ≡ first_refusal (law_refusals W n f g h lp lu lv lw)
  law_stops z = refused_early (law_sent W n f g h) (room W n f g h lp lu lv lw) s e z

  -- m and l are the lengths of the product and of a cofactor, as the code has them
  pub law_passes : {t : ℕ} (m l : ℕ) → s ≡ 0 → l ≡ L n (m - 1) (length h - 1) → t ≡ first_refusal (law_room W lp m lu lv l lw)
      → m ≡ length f - 1 + (length g - 1) + 1 → t ≡ first_refusal (law_refusals W n f g h lp lu lv lw)
  law_passes {t} m l z el et em =
      let m_is : m ≡ suc (deg f + deg g) = em ∙ product_length f g in
      let l_is : l ≡ L n (deg f + deg g) (deg h) =
      el ∙ ap₂ (L n) (let y : m - 1 ≡ deg f + deg g = omega (arith, m_is) in y) (sub-one (length h)) in
      passed_on (law_sent W n f g h) (room W n f g h lp lu lv lw) s t e z
      (et ∙ ap₂ (λ (i j : ℕ). first_refusal (law_room W lp i lu lv j lw)) m_is l_is)

-- ---- the refusals of the seven calls

module _ (W : Width) (n : ℕ) (f g h p u v work : List ℕ) (s : ℕ)
    (e : s ≡ first_refusal (law_refusals W n f g h (length p) (length u) (length v) (length work))) where
  pub law_refused : (s ≡ 0 → ⊥) → LawAnswer W n f g h p p u u v v work work 0 0 0 0 0 0 s
  law_refused z = record {
    status_is = e;
    result = nothing_done s n f g h u v z;
    product_is = replaced_refused s (product n f g) p z;
    work_is = left_refused s work z;
  }

  module _ (z : s ≡ 0) where
    a : Asked W n f g h
    a = asked W n f g h (first_refusal (law_sent W n f g h)) refl
        (front_passes (law_sent W n f g h) (room W n f g h (length p) (length u) (length v) (length work)) (sym e ∙ z))

    rm : Room W (length p) (suc (deg f + deg g)) (length u) (length v) (L n (deg f + deg g) (deg h)) (length work)
    rm =
        let b : List Tested = room W n f g h (length p) (length u) (length v) (length work) in
        let y = front_passes (law_sent W n f g h) b (sym e ∙ z) in
        roomy W (length p) (suc (deg f + deg g)) (length u) (length v) (L n (deg f + deg g) (deg h)) (length work) (first_refusal b) refl
        (sym (ap (λ (x : ℕ). first_of x (first_refusal b)) y) ∙ sym (first_append (law_sent W n f g h) b) ∙ sym e ∙ z)

    -- the product's words are within p, whatever stands there
    pub part_end : {i j : ℕ} (p₁ : List ℕ) → length p₁ ≡ length p → i ≡ length f - 1 + (length g - 1) + 1 → j ≡ length p₁ → i ≤ j
    part_end p₁ q ei ej = omega (arith, rm.product, product_length f g)

    -- ---- the seven numbers

    abbrev pr : List ℕ
    pr = product n f g

    l_p : L n (deg pr) (deg h) ≡ L n (deg f + deg g) (deg h)
    l_p = ap (λ (i : ℕ). L n (pred i) (deg h)) (product_words n f g)

    lf : L n (deg f) (deg h) ≤ L n (deg f + deg g) (deg h)
    lf = shorter n (deg f) (deg f + deg g) (deg h) (omega arith)

    lg : L n (deg g) (deg h) ≤ L n (deg f + deg g) (deg h)
    lg = shorter n (deg g) (deg f + deg g) (deg h) (omega arith)

    longest : (i : ℕ) → i ≤ L n (deg f + deg g) (deg h) → i ≤ L n (deg pr) (deg h)
    longest i q = subst (λ (j : ℕ). i ≤ j) (sym l_p) q

    module _ {p₁ q u₂ v₂ w₂ u₃ v₃ w₃ : List ℕ} {r rf rg D Df Dg : ℕ} (m x₁ s₁ t : ℕ) (c₁ : ProductAnswer W n f g p p₁ x₁ s₁)
        (two : FactorNumbers W n f g h u u₂ v v₂ work w₂ rf rg Df Dg) (last : HowFarAnswer W n q h u₂ u₃ v₂ v₃ w₂ w₃ r D t)
        (eq : q ≡ take (m - 0) p₁) (em : m ≡ length f - 1 + (length g - 1) + 1) where
      pa : p₁ ≡ pr ++ drop (length pr) p
      pa =
          (product_answers W n a.modulus f g p p₁ x₁ s₁ a.length_f a.length_g a.sum a.words_f a.words_g rm.product c₁
          ).1

      -- the front of the buffer
      part_is : q ≡ pr
      part_is =
          let i : m - 0 ≡ length pr = omega (arith, em, product_length f g, product_words n f g) in
          eq ∙ ap (λ (j : ℕ). take j p₁) i ∙ ap (take (length pr)) pa ∙ take_at pr (drop (length pr) p) (length pr) refl

      k₁ : Answered n f h u two.u₁ v two.v₁ work two.w₁ rf Df
      k₁ = far_answers W n a.modulus f h u two.u₁ v two.v₁ work two.w₁ rf Df two.t₁ a.length_f a.length_h
          a.words_f a.words_h (le_trans lf rm.first) (le_trans lf rm.second) rm.work two.first

      k₂ : Answered n g h two.u₁ u₂ two.v₁ v₂ two.w₁ w₂ rg Dg
      k₂ = far_answers W n a.modulus g h two.u₁ u₂ two.v₁ v₂ two.w₁ w₂ rg Dg two.t₂ a.length_g a.length_h
          a.words_g a.words_h (omega (arith, lg, rm.first, k₁.held.first.same))
          (omega (arith, lg, rm.second, k₁.held.second.same)) (omega (arith, rm.work, k₁.same)) two.second

      k₃ : Answered n pr h u₂ u₃ v₂ v₃ w₂ w₃ r D
      k₃ = far_answers W n a.modulus pr h u₂ u₃ v₂ v₃ w₂ w₃ r D t (product_served n f g a.sum) a.length_h
          (product_residues n f g (omega (arith, a.modulus.least))) a.words_h
          (omega (arith, l_p, rm.first, k₁.held.first.same, k₂.held.first.same))
          (omega (arith, l_p, rm.second, k₁.held.second.same, k₂.held.second.same))
          (omega (arith, rm.work, k₁.same, k₂.same))
          (subst (λ (i : List ℕ). HowFarAnswer W n i h u₂ u₃ v₂ v₃ w₂ w₃ r D t) part_is last)

      numbers : SevenAnswers n f g h pr r rf rg D Df Dg
      numbers = record {
        product_of = refl;
        resultant_of_product = k₃.resultant_is;
        resultant_of_first = k₁.resultant_is;
        resultant_of_second = k₂.resultant_is;
        reduced_of_product = k₃.held.reduced;
        reduced_of_first = k₁.held.reduced;
        reduced_of_second = k₂.held.reduced;
      }

      -- u and v beyond the longest cofactor are as they were
      pub law_done : LawAnswer W n f g h p p₁ u u₃ v v₃ work w₃ r rf rg D Df Dg 0
      law_done = record {
        status_is = sym z ∙ e;
        result = record {
          numbers = numbers;
          law = point_three n (omega (arith, a.modulus.least)) f g h pr r rf rg D Df Dg numbers;
          cofactors = record {
            reduced = k₃.held.reduced;
            first = cofactor_then (L n (deg f) (deg h)) _ (longest _ lf) k₁.held.first
                (cofactor_then (L n (deg g) (deg h)) _ (longest _ lg) k₂.held.first k₃.held.first);
            second = cofactor_then (L n (deg f) (deg h)) _ (longest _ lf) k₁.held.second
                (cofactor_then (L n (deg g) (deg h)) _ (longest _ lg) k₂.held.second k₃.held.second);
            combination = k₃.held.combination;
            least = k₃.held.least;
          };
        };
        product_is = pa;
        work_is = k₃.wiped ∙ ap (λ (i : ℕ). replicate i 0) (k₂.same ∙ k₁.same);
      }

-- what the code asks once no refusal applies
module _ (B w n s : ℕ) (f g h p u v work : List ℕ)
    (e : s ≡ first_refusal (law_refusals (sized B w) n f g h (length p) (length u) (length v) (length work))) (z : s ≡ 0) where
  pub factor_some : {k : ℕ} → k ≡ length f → 1 ≤ k
  factor_some i = omega (arith, (a (sized B w) n f g h p u v work s e z).length_f.some)

  pub other_some : {k : ℕ} → k ≡ length g → 1 ≤ k
  other_some i = omega (arith, (a (sized B w) n f g h p u v work s e z).length_g.some)

pub ruleset sends = (tt, first_some, second_some, third_some, cofactor_fits)
