use Rattle.std.proofs.Common.{◌∙◌, ap}
use Rattle.pg_cluster.specs.Threads.{begun_by, limit_of}
use Rattle.pg_cluster.proofs.NodesSent.{run_send, ran_send, ring_out_send, ring_in_send}
use Rattle.pg_cluster.proofs.PartsSent.{index_send}
use Rattle.std.proofs.Crossing.{crosses}
use denote.Param.Send.{sendable}
use Rattle.pg_cluster.proofs.threads.start_one.Goals as goal

-- what the thread gets and gives may cross
pub spawn_with-requires-send-F : goal.spawn_with-requires-send-F
spawn_with-requires-send-F g c κs within = let k = c.type_bounds.send-K in let a = c.type_bounds.send-G in let b = c.type_bounds.sync-G in let d = c.type_bounds.send-C in search (sendable, crosses, run_send, ring_out_send, ring_in_send, index_send) depth 30

pub spawn_with-requires-send-T : goal.spawn_with-requires-send-T
spawn_with-requires-send-T g c κs within = let k = c.type_bounds.send-K in search (sendable, crosses, ran_send, ring_out_send, ring_in_send, index_send) depth 30

pub returns-in-Ok-spawn_with-clause-begun : goal.returns-in-Ok-spawn_with-clause-begun
returns-in-Ok-spawn_with-clause-begun g c = ap begun_by c.new.ensures.thread ∙ (ap (λ p. p.run.value) c.in-Ok-spawn_with.ensures.ok ∙ c.of.ensures)

pub returns-in-Ok-spawn_with-clause-limit : goal.returns-in-Ok-spawn_with-clause-limit
returns-in-Ok-spawn_with-clause-limit g c = ap limit_of c.new.ensures.thread ∙ ap (λ p. p.limit) c.in-Ok-spawn_with.ensures.ok
