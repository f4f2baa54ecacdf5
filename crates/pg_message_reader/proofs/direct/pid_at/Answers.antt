use Rattle.pg_message_reader.proofs.Standing.{pid_stands}
use Rattle.pg_message_reader.proofs.direct.pid_at.Goals as goal

pub returns : goal.returns
returns c = λ room. pid_stands room c.args.bytes.now c.in_ok-rest.rest.now c.in_ok-decode_pid.field-0.0 c.in_ok-decode_pid.field-0.1.now c.in_ok-rest.ensures.found c.in_ok-decode_pid.ensures.exact
