use Rattle.std.proofs.Common.{List, ℕ}
use Rattle.std.specs.Io.KnownBytes.{Appends}
use Rattle.pg_script.proofs.running.run_lines.Given as goal

-- some bytes were written
abbrev pub invariant-loop-line : goal.invariant-loop-line
invariant-loop-line g l = (text : List ℕ) × Appends (g.W.Sink.contents l.fn.writer) (g.W.Sink.contents l.writer) text
