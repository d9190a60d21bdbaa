use Rattle.convolution.proofs.Terms.{products}
use Rattle.convolution.proofs.carries.Goals as goal

pub returns-then-s-p : goal.returns-then-s-p
returns-then-s-p c = search products

pub returns : goal.returns
returns c = search products
