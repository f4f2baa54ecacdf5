use Rattle.std.proofs.Common.{sym, ◌∙◌}
use Rattle.pg_world_packets.proofs.Fitted.{has_none}
use Rattle.pg_world_packets.proofs.starts.opened.Goals as goal

pub returns-in-Err-clause-fault : goal.returns-in-Err-clause-fault
returns-in-Err-clause-fault c = has_none c.args.packet.now c.in-Err.field-0 c.requires.named c.requires.stamp (sym c.in-Err.is ∙ c.packet_len.ensures.exact)
