use Rattle.std.proofs.Common.{◌<◌, ℕ}
use Rattle.pg_process.specs.Chains.{Works}
use Rattle.pg_process.specs.Takings.{HasNone}
use Rattle.pg_process.proofs.process.Process.take_from_peers.Given as goal

-- what follows was done so far, and nothing is there to be taken of the peers before this one
abbrev pub invariant-loop-peer : goal.invariant-loop-peer
invariant-loop-peer l = record {
  works : Works l.fn.self l.self;
  none : (other : ℕ) → other < l.peer → HasNone other l.self;
}
