use Rattle.std.proofs.Common.{◌≡◌, ◌<◌, ℕ}
use Rattle.pg_world_account.specs.Histories.{applied_in}
use Rattle.pg_world_account.proofs.histories.Histories.same_counts.Given as goal

-- the nodes so far have
abbrev pub invariant-loop-node : goal.invariant-loop-node
invariant-loop-node l = (i : ℕ) → i < l.node → applied_in l.self i l.name ≡ applied_in l.other i l.name
