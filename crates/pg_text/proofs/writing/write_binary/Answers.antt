use Rattle.pg_text.proofs.Adding.{adds_then, adds_last}
use Rattle.pg_text.proofs.writing.write_binary.Goals as goal

pub returns : goal.returns
returns c = adds_last _ _ _ (adds_then (adds_then (adds_then c.in_ok-put.ensures c.in_ok-put-2.ensures) c.in_ok-write_bytes.ensures) c.in_ok-put-3.ensures) c.put-4.ensures
