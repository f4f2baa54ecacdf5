use Rattle.std.proofs.Common.{codes}
use Rattle.pg_term.specs.declared.term.Term.TheVariants.{Pid as Process}
use Rattle.pg_message_reader.proofs.Standing.{pair_stands}
use Rattle.pg_message_reader.proofs.direct.down_at.Goals as goal

pub returns-clause-term : goal.returns-clause-term
returns-clause-term c = λ front opens.
    pair_stands 61 (codes "down") front c.args.bytes.now (Process c.in_ok-pid.pid) c.in_ok-pid.rest.now opens (c.in_ok-pid.ensures 61)
