use Rattle.std.proofs.Common.{length}
use Rattle.pg_script_lines.specs.Words.{words_left}
use Rattle.pg_script_lines.proofs.PidsSaid.{Goes}
use Rattle.pg_script_lines.proofs.forms.LineWords.pids.Given as goal

abbrev pub decreases-loop-word : goal.decreases-loop-word
decreases-loop-word l = length (words_left l.self.words)

abbrev pub invariant-loop-word : goal.invariant-loop-word
invariant-loop-word l = Goes (words_left l.initial.self.words) l.pids.items (words_left l.self.words)
