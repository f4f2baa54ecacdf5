use Rattle.std.proofs.Common.{sym, ◌∙◌}
use Rattle.pg_message_types.specs.PgTermIo.Reading.{item_at}
use Rattle.pg_message_types.specs.Parts.{pid_of}
use Rattle.pg_message_reader.proofs.Shapes.ListShapes.{is_nothing, has_end}
use Rattle.pg_message_reader.proofs.shape.pids.past_pid.Goals as goal

pub returns-then-not-is_pid-clause-none : goal.returns-then-not-is_pid-clause-none
returns-then-not-is_pid-clause-none c t rest e = is_nothing (pid_of t) (sym (c.is_pid.ensures c.args.levels t rest e) ∙ c.if-not-is_pid.true)

pub returns-in-Err-clause-none : goal.returns-in-Err-clause-none
returns-in-Err-clause-none c t rest e = absurd (has_end (item_at c.args.levels c.args.bytes.now) t rest c.in-Err.field-0 e c.in-Err.ensures.exact)
