use Rattle.std.proofs.Common.{◌≡◌, ◌<◌, ℕ, get_or}
use Rattle.pg_node.specs.Nodes.{held_by}
use Rattle.pg_node.specs.PgNodeState.Issued.{ports_of}
use Rattle.pg_process.specs.Chains.{Works}
use Rattle.pg_process.specs.Settled.{IsToldDenied, OnlyDenied}
use Rattle.pg_process.specs.Situations.{situation_of}
use Rattle.pg_process.proofs.Waiting.{no_op}
use Rattle.pg_process.proofs.process.Process.tell_each_denied.Given as goal

-- what follows was done so far, the node is the same, and those before this one were told
abbrev pub invariant-loop-op : goal.invariant-loop-op
invariant-loop-op l = record {
  works : Works l.fn.self l.self;
  node : l.self.node ≡ l.fn.self.node;
  only : OnlyDenied (situation_of l.fn.self) (situation_of l.self);
  told : (place : ℕ) → place < l.op-index → (get_or l.ops place no_op).port < ports_of (held_by l.fn.self.node) → IsToldDenied (situation_of l.self) (get_or l.ops place no_op).port;
}
