use Rattle.std.proofs.Common.{codes}
use Rattle.pg_term.specs.declared.term.Term.TheVariants.{Pid as Process}
use Rattle.pg_message_reader.proofs.Standing.{triple_stands}
use Rattle.pg_message_reader.proofs.direct.join_at.Goals as goal

pub returns-clause-term : goal.returns-clause-term
returns-clause-term c = λ front opens.
    let read = c.in_ok-name in
    triple_stands 60 (codes "join") front c.args.bytes.now read.name (Process read.pid) read.ensures.terms.0 read.rest.now opens read.ensures.terms.1 read.ensures.terms.2
