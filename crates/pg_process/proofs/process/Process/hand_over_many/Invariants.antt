use Rattle.std.proofs.Common.{◌<◌, ℕ, length}
use Rattle.pg_node.specs.Nodes.{held_by}
use Rattle.pg_node.specs.PgNodeState.Issued.{ports_of}
use Rattle.pg_process.specs.Chains.{Works}
use Rattle.pg_process.specs.Situations.{situation_of}
use Rattle.pg_process.specs.Turns.{HandsSome}
use Rattle.pg_process.proofs.process.Process.hand_over_many.Given as goal

-- what follows was done so far: so many were handed over
abbrev pub invariant-loop-fault : goal.invariant-loop-fault
invariant-loop-fault l = record {
  works : Works l.fn.self l.self;
  hands : (count : ℕ) × HandsSome count l.port l.fn.self l.self;
  there : l.port < ports_of (held_by l.self.node);
}

-- those that wait
abbrev pub decreases-loop-fault : goal.decreases-loop-fault
decreases-loop-fault l = length ((situation_of l.self).ports l.port).waiting
