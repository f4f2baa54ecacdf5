use Rattle.std.proofs.Common.{take}
use Rattle.pg_process.specs.Chains.{Works}
use Rattle.pg_process.specs.Turns.{TriesEach}
use Rattle.pg_process.proofs.process.Process.retry_each.Given as goal

-- what follows was done so far, and those before this one had their turn
abbrev pub invariant-loop-op : goal.invariant-loop-op
invariant-loop-op l = record {
  works : Works l.fn.self l.self;
  each : TriesEach (take l.op-index l.ops) l.is_tick l.fn.self l.self;
}
