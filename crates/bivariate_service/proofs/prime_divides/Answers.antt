use Rattle.bivariate_service.proofs.Primes.{primes}
use Rattle.bivariate_service.proofs.prime_divides.Goals as goal

pub returns-then-last-p : goal.returns-then-last-p
returns-then-last-p c = search primes

pub returns-then-n-p-eq0 : goal.returns-then-n-p-eq0
returns-then-n-p-eq0 c = search primes

pub loop-i-preserved : goal.loop-i-preserved
loop-i-preserved c = search primes

pub returns : goal.returns
returns c = search primes
