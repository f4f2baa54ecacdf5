use Rattle.std.proofs.Common.{◌≡◌, ◌≢◌, ◌<◌, ℕ, length}
use Rattle.pg_node.specs.Nodes.{held_by}
use Rattle.pg_node.specs.PgNodeState.Issued.{ports_of}
use Rattle.pg_node.specs.PgNodeState.States.{answers_of}
use Rattle.pg_process.specs.Chains.{Works}
use Rattle.pg_process.specs.Turns.{Says}
use Rattle.pg_process.proofs.process.Process.answer_all.Given as goal

-- what follows was done so far
abbrev pub invariant-loop-fault : goal.invariant-loop-fault
invariant-loop-fault l = record {
  works : Works l.fn.self l.self;
  says : Says l.port l.fn.self l.self;
  others : (other : ℕ) → other ≢ l.port → answers_of (held_by l.self.node) other ≡ answers_of (held_by l.fn.self.node) other;
  there : l.port < ports_of (held_by l.self.node);
}

-- the answers that are left
abbrev pub decreases-loop-fault : goal.decreases-loop-fault
decreases-loop-fault l = length (answers_of (held_by l.self.node) l.port)
