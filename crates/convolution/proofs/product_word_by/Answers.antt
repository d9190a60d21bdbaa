use Rattle.convolution.proofs.Terms.{terms}
use Rattle.convolution.proofs.product_word_by.Goals as goal

pub returns-then-g-eq0 : goal.returns-then-g-eq0
returns-then-g-eq0 c = search terms

pub returns-then-start-last : goal.returns-then-start-last
returns-then-start-last c = search terms

pub loop-i-init : goal.loop-i-init
loop-i-init c = search terms

pub loop-i-preserved : goal.loop-i-preserved
loop-i-preserved c = search terms

pub returns : goal.returns
returns c = search terms
