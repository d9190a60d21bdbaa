use Rattle.text_writer_service.proofs.WriteReturns.{bytes_after, count_most, done}
use Rattle.text_writer_service.proofs.write_text.Goals as goal

pub put_zeros-requires : goal.put_zeros-requires
put_zeros-requires c = let a = c.args in (
  count_most a.n a.f.now a.text.now c.in_default.ensures c.put_text-count.ensures,
  bytes_after a.n a.f.now a.text.now c.in_default.ensures _ c.put_text-count.auto.out,
)

pub returns : goal.returns
returns c = let a = c.args in done a.n a.f.now a.text.now c.in_default.ensures c.put_text-count.ensures c.put_zeros.ensures
