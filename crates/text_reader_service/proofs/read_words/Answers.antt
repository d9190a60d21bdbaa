use Rattle.text_reader_service.proofs.ReadReturns.{by_degree}
use Rattle.text_reader_service.proofs.read_words.Goals as goal

pub overflow_add-k : goal.overflow_add-k
overflow_add-k c = search by_degree

pub returns-in-At : goal.returns-in-At
returns-in-At c = search by_degree
