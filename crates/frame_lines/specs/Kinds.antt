-- The kinds of frames, and their numbers.
--
--   kind_number k       the number of the kind k
--   kind_of_number x    the kind whose number is x, if there is one
use Rattle.std.specs.Prelude.{ℕ, zero, suc, Option, Some, None}
use Rattle.frame_lines.specs.declared.FrameKind.{FrameKind}
use Rattle.frame_lines.specs.declared.FrameKind.TheVariants.{Resultant, Reduced}

-- S65: "01 resultant, 02 reduced resultant"
abbrev pub kind_number : FrameKind → ℕ
kind_number Resultant = 1
kind_number Reduced = 2

abbrev pub kind_of_number : ℕ → Option FrameKind
kind_of_number (suc zero) = Some Resultant
kind_of_number (suc (suc zero)) = Some Reduced
kind_of_number _ = None
