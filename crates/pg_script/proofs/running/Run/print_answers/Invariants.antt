use Rattle.std.proofs.Common.{◌≡◌, length}
use Rattle.pg_script.proofs.running.Run.print_answers.Given as goal

abbrev pub invariant-loop-place : goal.invariant-loop-place
invariant-loop-place l = length l.self.starts.now ≡ length l.initial.self.starts.now
