use Rattle.pg_message_reader.proofs.Shapes.ListShapes.{goes_somewhere}
use Rattle.pg_message_reader.proofs.shape.groups.past_end.Goals as goal

pub returns-in-End-clause-over : goal.returns-in-End-clause-over
returns-in-End-clause-over c others rest e = let done = c.in-End.ensures.next others rest e in (done.after, done.none)

pub returns-in_default-clause-over : goal.returns-in_default-clause-over
returns-in_default-clause-over c others rest e = goes_somewhere c.next_element.result others rest c.in_default.not-End (c.next_element.ensures.next others rest e)
