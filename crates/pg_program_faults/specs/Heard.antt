-- What is heard of what is written, and what is left of what is read.
use Rattle.std.specs.Prelude.{ℕ, List, Option, if◌then◌else◌}
use Rattle.pg_program_faults.specs.declared.heard.Heard.{Heard}
use Rattle.pg_program_faults.specs.declared.heard.Kept.{Kept}

-- what the writer holds that all goes to
abbrev pub held_by : {O E : Type 0} → (O → Option (List ℕ)) → (E → Option (List ℕ)) → Heard O E → Option (List ℕ)
held_by output error heard = if heard.is_output then output heard.output else error heard.error

-- what its reader has left
abbrev pub left_by : {R : Type 0} → (R → Option (List ℕ)) → Kept R → Option (List ℕ)
left_by remaining kept = remaining kept.reader
