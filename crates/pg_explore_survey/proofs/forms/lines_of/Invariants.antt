use Rattle.std.proofs.Common.{◌≡◌, ◌++◌, length}
use Rattle.std.specs.Prelude.{option_map}
use Rattle.pg_script.specs.Scripts.{lines_in, lines_of_rest}
use Rattle.pg_explore_survey.specs.Scenarios.{texts_of}
use Rattle.pg_explore_survey.proofs.forms.lines_of.Given as goal

-- those so far, and those that are left
abbrev pub invariant-loop-rest : goal.invariant-loop-rest
invariant-loop-rest l = texts_of l.lines.items ++ lines_of_rest (option_map (λ rest. rest.now) l.rest) ≡ lines_in l.text

abbrev pub decreases-loop-rest : goal.decreases-loop-rest
decreases-loop-rest l = length (lines_of_rest (option_map (λ rest. rest.now) l.rest))
