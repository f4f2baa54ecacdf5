use Rattle.pg_process.proofs.Replying.{chains_reply}
use Rattle.pg_process.proofs.laws.chains_reply.Goals as goal

pub returns : goal.returns
returns c = chains_reply
