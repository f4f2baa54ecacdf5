use Rattle.pg_text.proofs.Adding.{adds_then, adds_last}
use Rattle.pg_text.proofs.writing.write_membership.Goals as goal

pub returns : goal.returns
returns c = adds_last _ _ _ (adds_then (adds_then (adds_then c.in_ok-put_text.ensures c.in_ok-write_term.ensures.text) c.in_ok-put.ensures) c.in_ok-write_pid.ensures) c.put-2.ensures
