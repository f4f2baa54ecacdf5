use Rattle.pg_message_types.proofs.ReadBack as back
use Rattle.pg_message_types.proofs.laws.read_back.Goals as goal

pub returns : goal.returns
returns c p = back.read_back p
