use Rattle.std.proofs.Common.{◌≡◌, ◌<◌, ℕ, []}
use Rattle.pg_node.specs.Nodes.{held_by}
use Rattle.pg_node.specs.PgNodeState.States.{answers_of}
use Rattle.pg_process.specs.Chains.{Works}
use Rattle.pg_process.proofs.process.Process.answer_ports.Given as goal

-- what follows was done so far, and no answer is left at the ports before this one
abbrev pub invariant-loop-port : goal.invariant-loop-port
invariant-loop-port l = record {
  works : Works l.fn.self l.self;
  said : (other : ℕ) → other < l.port → answers_of (held_by l.self.node) other ≡ [];
}
