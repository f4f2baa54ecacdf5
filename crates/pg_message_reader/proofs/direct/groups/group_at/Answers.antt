use Rattle.std.proofs.Common.{map}
use Rattle.pg_term.specs.declared.term.Term.{List as Listed}
use Rattle.pg_term.specs.declared.term.Term.TheVariants.{Pid as Process}
use Rattle.pg_message_reader.proofs.Rows.{pair_listed}
use Rattle.pg_message_reader.proofs.direct.groups.group_at.Goals as goal

pub returns-in-Ok-clause-term : goal.returns-in-Ok-clause-term
returns-in-Ok-clause-term c =
    let last = c.in-Ok in
    pair_listed 58 c.in_ok-name.name (Listed (map Process last.members)) c.args.bytes.now c.in_ok-rest.rest.now c.in_ok-name.rest.now last.ensures.0 last.rest.now
    c.in_ok-rest.ensures.found c.in_ok-name.ensures.term last.ensures.1 last.ensures.2
