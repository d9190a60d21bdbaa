-- The steps down and back in the buffer, for words of 64 bits: the notions of `euclid_multipliers`, at a modulus with plain words.
--
--   descent_of    where the steps down ended, as at 32 bits
use Rattle.std.specs.Prelude.{List, ℕ}
use Rattle.euclid_multipliers.specs.StepsInBuffer as narrow
use Rattle.euclid_multipliers.specs.declared.Descent.{Descent as NarrowDescent}
use Rattle.reduction64.specs.declared.Reciprocal.{Reciprocal}
use Rattle.modulus64.specs.Plain.{plain}
use Rattle.euclid_steps.specs.declared.Stage.{Stage}
use Rattle.euclid_steps.specs.declared.Logged.{Logged}
use Rattle.euclid_steps.specs.declared.Found.{Found}
use Rattle.euclid_multipliers64.specs.declared.Descent.{Descent}

abbrev pub descent_of : Descent → NarrowDescent
descent_of r = record { a = r.a; d = r.d; b = r.b; e = r.e; s = r.s; p = r.p; t = r.t; steps = r.steps }

abbrev pub Reads : ℕ → ℕ → ℕ → List ℕ → Logged ℕ → Type 0
Reads at d e w r = narrow.Reads at d e w r

abbrev pub DescentAsked : Reciprocal → ℕ → Stage ℕ → List ℕ → Type 0
DescentAsked m h x w = narrow.DescentAsked (plain m) h x w

abbrev pub Descending : Reciprocal → ℕ → Stage ℕ → List ℕ → ℕ → Stage ℕ → List ℕ → Type 0
Descending m h x w j y v = narrow.Descending (plain m) h x w j y v

abbrev pub Descended : Reciprocal → ℕ → Stage ℕ → List ℕ → Descent → List ℕ → Type 0
Descended m h x w r v = narrow.Descended (plain m) h x w (descent_of r) v

abbrev pub Rises : Reciprocal → ℕ → ℕ → Found ℕ → List ℕ → Type 0
Rises m h j r w = narrow.Rises (plain m) h j r w

abbrev pub Raising : Reciprocal → ℕ → ℕ → Found ℕ → List ℕ → ℕ → Found ℕ → List ℕ → Type 0
Raising m h j r w i o v = narrow.Raising (plain m) h j r w i o v

abbrev pub Raised : Reciprocal → ℕ → ℕ → Found ℕ → List ℕ → Found ℕ → List ℕ → Type 0
Raised m h j r w o v = Raising m h j r w 0 o v

abbrev pub Started : Reciprocal → List ℕ → List ℕ → List ℕ → Stage ℕ → List ℕ → Type 0
Started m f g w x v = narrow.Started (plain m) f g w x v
