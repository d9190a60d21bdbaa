use Rattle.hexadecimal.proofs.Spelling.{spells}
use Rattle.hexadecimal.proofs.number.Goals as goal

pub loop-i-init : goal.loop-i-init
loop-i-init c = search spells

pub returns-then-c-lt48 : goal.returns-then-c-lt48
returns-then-c-lt48 c = search spells

pub returns-then-c-gt102 : goal.returns-then-c-gt102
returns-then-c-gt102 c = search spells

pub overflow_sub-v : goal.overflow_sub-v
overflow_sub-v c = search spells

pub returns-then-v-gt15 : goal.returns-then-v-gt15
returns-then-v-gt15 c = search spells

pub overflow_mul-x : goal.overflow_mul-x
overflow_mul-x c = search spells

pub overflow_add-x : goal.overflow_add-x
overflow_add-x c = search spells

pub loop-i-preserved : goal.loop-i-preserved
loop-i-preserved c = search spells

pub returns : goal.returns
returns c = search spells
