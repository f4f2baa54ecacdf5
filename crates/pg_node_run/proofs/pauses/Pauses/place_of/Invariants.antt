use Rattle.std.proofs.Common.{◌≡◌, ◌≢◌, ◌<◌, ℕ}
use Rattle.std.specs.Prelude.{slice_get, Some}
use Rattle.pg_node_run.specs.declared.pauses.Pause.{Pause}
use Rattle.pg_node_run.proofs.pauses.Pauses.place_of.Given as goal

abbrev pub invariant-loop-place : goal.invariant-loop-place
invariant-loop-place l = (k : ℕ) (pause : Pause) → k < l.place → slice_get l.fn.self.entries.items k ≡ Some pause → pause.op ≢ l.fn.op
