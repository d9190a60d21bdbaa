-- What is known where the reduced resultant is answered: none of the refusals applies, and l is the length of a cofactor.
use Rattle.std.specs.Prelude.{◌≡◌, List, ℕ, length}
use Rattle.definitions.specs.Polynomials.{deg, L}
use Rattle.refusals.specs.Refusals.{Width}
use Rattle.reduced_service.specs.ReducedService.{reduced_status}

pub record ReducedAsked (W : Width) (n : ℕ) (f g : List ℕ) (l : ℕ) (u v work : List ℕ) : Type 0 where
  pub none : reduced_status W n f g (length u) (length v) (length work) ≡ 0
  pub words : l ≡ L n (deg f) (deg g)
