use Rattle.pg_text.proofs.Adding.{adds_then, adds_last}
use Rattle.pg_text.proofs.writing.write_pid.Goals as goal

pub returns : goal.returns
returns c = adds_last _ _ _ (adds_then (adds_then (adds_then (adds_then c.in_ok-put.ensures c.in_ok-write_atom.ensures) c.in_ok-write_part.ensures) c.in_ok-write_part-2.ensures) c.in_ok-write_creation.ensures) c.put-2.ensures
