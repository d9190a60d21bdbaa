-- The terms of the words from k on are written, and a term has at most 16 characters.
use Rattle.text_writer_service.proofs.Terms.{Done}
use Rattle.text_writer_service.proofs.put_text.Given as goal

abbrev pub invariant-loop-k : goal.invariant-loop-k
invariant-loop-k l = Done l.f l.k l.at l.fn.out l.out
