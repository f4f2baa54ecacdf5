use Rattle.pg_text.proofs.Adding.{adds_then, adds_last}
use Rattle.pg_text.proofs.writing.write_change.Goals as goal

pub returns : goal.returns
returns c = adds_last _ _ _ (adds_then c.in_ok-put_text.ensures c.in_ok-write_term.ensures.text) c.put.ensures
