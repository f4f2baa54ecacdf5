use Rattle.std.proofs.Common.{arith}
use Rattle.pg_term_io.specs.Writing.{big_bytes}
use Rattle.pg_term_io.proofs.WrittenDigits.{digits_step, digits_end, digits_count}
use Rattle.pg_term_io.proofs.writer.writing.put_big.Goals as goal

pub loop-rest-preserved : goal.loop-rest-preserved
loop-rest-preserved c = (
  digits_step c.loop-rest.out.items _ _ c.loop-rest.rest (omega arith) c.extend_reserved-in-loop-rest.ensures.items c.loop-rest.invariant.0,
  omega (arith, digits_count c.loop-rest.rest (omega arith)),
)

pub returns-clause-items : goal.returns-clause-items
unfolding big_bytes
returns-clause-items c = digits_end c.loop-rest.out.items _ c.loop-rest.rest c.loop-rest-test.false c.loop-rest.invariant.0
