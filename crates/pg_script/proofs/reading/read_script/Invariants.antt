use Rattle.std.proofs.Common.{length}
use Rattle.std.specs.Prelude.{option_map}
use Rattle.pg_script.specs.Scripts.{draft_of, lines_of_rest, IsPlaced}
use Rattle.pg_script.proofs.Walking.{Walked}
use Rattle.pg_script.proofs.reading.read_script.Given as goal

abbrev pub invariant-loop-rest : goal.invariant-loop-rest
invariant-loop-rest l = record {
  placed : IsPlaced l.reading;
  walked : Walked l.text (draft_of l.reading) l.number (lines_of_rest (option_map (λ rest. rest.now) l.rest));
}

abbrev pub decreases-loop-rest : goal.decreases-loop-rest
decreases-loop-rest l = length (lines_of_rest (option_map (λ rest. rest.now) l.rest))
