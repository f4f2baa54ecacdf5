use Rattle.pg_world_packets.proofs.Fitted.{said_all}
use Rattle.pg_world_packets.proofs.starts.opening.Goals as goal

pub opened-outgoing-requires-clause-named : goal.opened-outgoing-requires-clause-named
opened-outgoing-requires-clause-named g c = said_all _ _ c.in-Ok.packet c.requires.named c.in-Ok.ensures
