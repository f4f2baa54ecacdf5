use Rattle.std.proofs.Crossing.{crosses}
use denote.Param.Send.{sendable}
use Rattle.pg_talk.proofs.Sent.{reading_send}
use Rattle.pg_talk.proofs.service.reader.Reader.start.Goals as goal

-- what the thread gets and gives may cross
pub spawn_with-requires-send-F : goal.spawn_with-requires-send-F
spawn_with-requires-send-F g c κs within = let s = c.type_bounds.send-S in let d = c.type_bounds.send-C in search (sendable, crosses, reading_send) depth 30

pub spawn_with-requires-send-T : goal.spawn_with-requires-send-T
spawn_with-requires-send-T g c κs within = let s = c.type_bounds.send-S in search (sendable, crosses, reading_send) depth 30
