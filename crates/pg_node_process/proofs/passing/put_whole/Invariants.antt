use Rattle.std.proofs.Common.{◌≡◌, ℕ, List, ◌++◌, length}
use Rattle.std.specs.Io.KnownBytes.{Appends}
use Rattle.pg_node_process.proofs.passing.put_whole.Given as goal

-- some bytes were written, and the rest is left
abbrev pub invariant-loop-rest : goal.invariant-loop-rest
invariant-loop-rest g l = (done : List ℕ) × (done ++ l.rest ≡ l.bytes) × Appends (g.S.Sink.contents l.fn.sink) (g.S.Sink.contents l.sink) done

abbrev pub decreases-loop-rest : goal.decreases-loop-rest
decreases-loop-rest g l = length l.rest
