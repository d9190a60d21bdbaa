-- What follows from the definition of an answer line.
--
--   outcome_unique, answer_unique    a line has one answer: status, value and so the answer line are fixed by its characters
use Rattle.std.specs.Prelude.{◌≡◌, refl, List, ℕ, zero, suc}
use Rattle.std.proofs.Common.{sym, ap₂, ◌∙◌, subst, true≢false, le_trans, arith}
use Rattle.law_polynomials.specs.ReachedLaws.{reduced_unique}
use Rattle.frame_lines.specs.FrameLines.{kind_of, answer_line}
use Rattle.frames.specs.Frames.{Value, Outcome, AnswerOf, refused, answered}

value_unique : (k n : ℕ) (f g : List ℕ) (v x : ℕ) → Value k n f g v → Value k n f g x → v ≡ x
value_unique zero n f g v x p q = absurd p
value_unique (suc zero) n f g v x p q = p ∙ sym q
value_unique (suc (suc k)) n f g v x p q = reduced_unique (le_trans p.least p.most) p q

values_of : (r k n : ℕ) (f g : List ℕ) (v x : ℕ) → Outcome k n f g r v → Outcome k n f g r x → v ≡ x
values_of zero k n f g v x p q = value_unique k n f g v x (p.value refl) (q.value refl)
values_of (suc r) k n f g v x p q = p.refused (λ z. omega arith) ∙ sym (q.refused (λ z. omega arith))

pub outcome_unique : {k n : ℕ} {f g : List ℕ} (r s v x : ℕ) → Outcome k n f g r v → Outcome k n f g s x → (r ≡ s) × (v ≡ x)
outcome_unique {k} {n} {f} {g} r s v x p q =
    let e : r ≡ s = p.status ∙ sym q.status in
    (e, values_of r k n f g v x p (subst (λ (y : ℕ). Outcome k n f g y x) (sym e) q))

pub answer_unique : {s a b : List ℕ} → AnswerOf s a → AnswerOf s b → a ≡ b
answer_unique (refused h) (refused k) = refl
answer_unique (refused h) (answered r v k o) = absurd (true≢false (sym k ∙ h))
answer_unique (answered r v k o) (refused h) = absurd (true≢false (sym k ∙ h))
answer_unique {s} (answered r v h o) (answered t x k p) = let e = outcome_unique r t v x o p in ap₂ (answer_line (kind_of s)) e.0 e.1
