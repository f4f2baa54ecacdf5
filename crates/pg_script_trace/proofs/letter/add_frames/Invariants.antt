use Rattle.std.proofs.Common.{◌≤◌, length}
use Rattle.pg_script_trace.proofs.letter.add_frames.Given as goal

-- no packet is lost
abbrev pub invariant-loop : goal.invariant-loop
invariant-loop l = length l.initial.letters.items ≤ length l.letters.items
