use Rattle.std.proofs.Common.{codes}
use Rattle.pg_message_reader.proofs.Standing.{pair_stands}
use Rattle.pg_message_reader.proofs.direct.delete_at.Goals as goal

pub returns-clause-term : goal.returns-clause-term
returns-clause-term c = λ front opens.
    pair_stands 60 (codes "delete") front c.args.bytes.now c.in_ok-name.name c.in_ok-name.rest.now opens c.in_ok-name.ensures.term
