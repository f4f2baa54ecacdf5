use Rattle.pg_term_io.proofs.Lists.{tail_spelt, tail_untold, text_none, text_some}
use Rattle.pg_term_io.proofs.reading.lists.text_end.Goals as goal

pub returns-then-count-eq0-clause-next : goal.returns-then-count-eq0-clause-next
returns-then-count-eq0-clause-next c room ts rest e = text_none c.in-Ok.count c.in-Ok.rest.now ts rest c.if-count-eq0.true (tail_spelt room c.in-Ok.count c.in-Ok.rest.now ts rest c.args.bytes.now c.in-Ok.ensures.told e)

pub returns-else-count-eq0-clause-next : goal.returns-else-count-eq0-clause-next
returns-else-count-eq0-clause-next c room ts rest e = text_some c.in-Ok.count c.in-Ok.rest.now ts rest c.if-count-eq0.false (tail_spelt room c.in-Ok.count c.in-Ok.rest.now ts rest c.args.bytes.now c.in-Ok.ensures.told e)

pub returns-in-Err-clause-next : goal.returns-in-Err-clause-next
returns-in-Err-clause-next c room ts rest e = absurd (tail_untold room c.in-Err.field-0 c.args.bytes.now ts rest c.in-Err.ensures.told e)
