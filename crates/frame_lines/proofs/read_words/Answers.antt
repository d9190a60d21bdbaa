use Rattle.std.proofs.Common.{refl}
use Rattle.frame_lines.proofs.WordsRead.{words_next, words_read}
use Rattle.frame_lines.proofs.read_words.Goals as goal

pub loop-i-init : goal.loop-i-init
loop-i-init c = search words_read

pub returns-in_default : goal.returns-in_default
returns-in_default c = search words_read

pub loop-i-preserved : goal.loop-i-preserved
loop-i-preserved c = words_next _ c.loop-i.invariant c.requires.1 c.loop-i-test.true c.in-Some.ensures refl refl

pub returns : goal.returns
returns c = search words_read
