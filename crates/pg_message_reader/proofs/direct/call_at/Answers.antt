use Rattle.std.proofs.Common.{codes}
use Rattle.pg_term.specs.declared.term.Term.TheVariants.{Ref}
use Rattle.pg_message_types.specs.Writing.{request_term}
use Rattle.pg_message_reader.proofs.Standing.{triple_stands}
use Rattle.pg_message_reader.proofs.direct.call_at.Goals as goal

pub returns-clause-term : goal.returns-clause-term
returns-clause-term c = λ front opens.
    triple_stands 61 (codes "call") front c.args.bytes.now (Ref c.in_ok-reference.reference) (request_term c.in_ok-request.request) c.in_ok-reference.rest.now c.in_ok-request.rest.now
    opens (c.in_ok-reference.ensures 61) c.in_ok-request.ensures.term

pub returns-clause-sayable : goal.returns-clause-sayable
returns-clause-sayable c = c.in_ok-request.ensures.sayable c.in_ok-reference.reference
