use Rattle.std.proofs.Common.{codes}
use Rattle.pg_term.specs.declared.term.Term.TheVariants.{Ref}
use Rattle.pg_message_types.specs.Writing.{said_term}
use Rattle.pg_message_reader.proofs.Standing.{triple_stands}
use Rattle.pg_message_reader.proofs.direct.reply_at.Goals as goal

pub returns-clause-term : goal.returns-clause-term
returns-clause-term c = λ front opens.
    triple_stands 61 (codes "reply") front c.args.bytes.now (Ref c.in_ok-reference.reference) (said_term c.in_ok-said.said) c.in_ok-reference.rest.now c.in_ok-said.rest.now
    opens (c.in_ok-reference.ensures 61) c.in_ok-said.ensures.term
