use Rattle.std.proofs.Common.{◌≡◌, ◌≤◌, ℕ, List, Option, length, Ok}
use Rattle.pg_term.specs.declared.pid.Pid.{Pid}
use Rattle.pg_term.specs.declared.term.Term.{Term}
use Rattle.pg_message_types.specs.PgTermIo.Reading.{item_at}
use Rattle.pg_message_types.specs.Parts.{pid_of}
use Rattle.pg_message_reader.specs.Shapes.Lists.{EndsAlike}
use Rattle.pg_message_reader.proofs.shape.pids.past_alike.Given as goal

abbrev pub invariant-loop-others : goal.invariant-loop-others
invariant-loop-others l = record {
  pids : (room : ℕ) (t : Term) (end : List ℕ) → item_at room l.first ≡ Ok (t, end) → (levels : ℕ) (whole : Option (List Pid)) (rest : List ℕ) → EndsAlike pid_of levels l.count l.bytes whole rest → EndsAlike pid_of levels l.others l.left whole rest;
  shorter : length l.left ≤ length l.bytes;
}

abbrev pub decreases-loop-others : goal.decreases-loop-others
decreases-loop-others l = l.others
