use Rattle.std.proofs.Common.{◌≡◌, ◌<◌, ◌≤◌, ℕ, [], length}
use Rattle.pg_node.specs.Nodes.{held_by}
use Rattle.pg_node.specs.PgNodeState.States.{answers_of}
use Rattle.pg_process.specs.Chains.{Works}
use Rattle.pg_process.specs.Settled.{KeepsNone}
use Rattle.pg_process.specs.Situations.{situation_of}
use Rattle.pg_process.specs.Turns.{HandsUpTo}
use Rattle.pg_process.proofs.process.Process.hand_over_all.Given as goal

-- what follows was done so far: the ports before this one had their turn
abbrev pub invariant-loop-port : goal.invariant-loop-port
invariant-loop-port l = record {
  works : Works l.fn.self l.self;
  hands : HandsUpTo l.port l.is_tick l.fn.self l.self;
  said : (other : ℕ) → other < l.port → answers_of (held_by l.self.node) other ≡ [];
  keeps : (other : ℕ) → other < l.port → KeepsNone (situation_of l.self) other;
  within : l.port ≤ length l.fn.self.desks.items;
}
