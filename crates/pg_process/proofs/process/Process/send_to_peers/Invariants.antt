use Rattle.std.proofs.Common.{◌≡◌, ◌<◌, ℕ, []}
use Rattle.pg_node.specs.Nodes.{links_of}
use Rattle.pg_process.specs.Chains.{Works}
use Rattle.pg_process.specs.Settled.{OnlyLinks}
use Rattle.pg_process.proofs.process.Process.send_to_peers.Given as goal

-- what follows was done so far, and nothing waits for the peers before this one
abbrev pub invariant-loop-peer : goal.invariant-loop-peer
invariant-loop-peer l = record {
  works : Works l.fn.self l.self;
  links : OnlyLinks l.fn.self l.self;
  unsent : (other : ℕ) → other < l.peer → (links_of l.self.node other).outbox ≡ [];
}
