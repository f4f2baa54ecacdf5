use Rattle.std.proofs.Common.{length}
use Rattle.std.specs.Prelude.{option_map}
use Rattle.pg_script.specs.Scripts.{lines_of_rest}
use Rattle.pg_explore_survey.proofs.Planning.{Looked}
use Rattle.pg_explore_survey.proofs.forms.other_line.Given as goal

-- what is looked for is in the lines that are left
abbrev pub invariant-loop-rest : goal.invariant-loop-rest
invariant-loop-rest l = Looked l.text l.number (lines_of_rest (option_map (λ rest. rest.now) l.rest))

abbrev pub decreases-loop-rest : goal.decreases-loop-rest
decreases-loop-rest l = length (lines_of_rest (option_map (λ rest. rest.now) l.rest))
