-- A modulus of 64 bits as a record of a modulus with plain words, so that what is said and proved of such a record holds of it.
--
--   plain m     the modulus of m with plain words
use Rattle.modulus.specs.declared.Modulus.{Modulus}
use Rattle.euclid_steps.specs.Plain.{plainly}
use Rattle.reduction64.specs.declared.Reciprocal.{Reciprocal}

abbrev pub plain : Reciprocal → Modulus
plain m = plainly m.n
