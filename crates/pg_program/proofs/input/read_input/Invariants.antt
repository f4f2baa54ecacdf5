use Rattle.std.proofs.Common.{◌≡◌, ◌≤◌, length}
use Rattle.std.specs.Io.KnownBytes.{Consumes}
use Rattle.std.specs.Prelude.{◌-◌, vec_len}
use Rattle.pg_program.specs.Inputs.{GaveBytes}
use Rattle.pg_program.proofs.input.read_input.Given as goal

-- what reads gave so far
abbrev pub invariant-loop-count : goal.invariant-loop-count
invariant-loop-count g l = record {
  gave : GaveBytes g.R.Source.gives l.fn.reader l.reader l.input.items;
  consumed : Consumes (g.R.Source.remaining l.fn.reader) (g.R.Source.remaining l.reader) l.input.items;
  few : length l.input.items ≤ 16777216;
  size : vec_len l.input ≡ length l.input.items;
}

abbrev pub decreases-loop-count : goal.decreases-loop-count
decreases-loop-count g l = 16777216 - length l.input.items
