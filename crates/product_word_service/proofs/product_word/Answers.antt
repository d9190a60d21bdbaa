use Rattle.product_word_service.proofs.ProductWordReturns.{word_above, word_done}
use Rattle.product_word_service.proofs.product_word.Goals as goal

pub returns-then-m-k : goal.returns-then-m-k
returns-then-m-k c = search word_above

pub returns : goal.returns
returns c = search word_done
