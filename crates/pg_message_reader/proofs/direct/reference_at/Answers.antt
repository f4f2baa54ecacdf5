use Rattle.pg_message_reader.proofs.Standing.{reference_stands}
use Rattle.pg_message_reader.proofs.direct.reference_at.Goals as goal

pub returns : goal.returns
returns c = λ room. reference_stands room c.args.bytes.now c.in_ok-rest.rest.now c.in_ok-decode_reference.field-0.0 c.in_ok-decode_reference.field-0.1.now c.in_ok-rest.ensures.found c.in_ok-decode_reference.ensures.exact
