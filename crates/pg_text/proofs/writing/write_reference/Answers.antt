use Rattle.pg_text.proofs.Adding.{adds_then, adds_last, adds_same}
use Rattle.pg_text.proofs.writing.write_reference.Goals as goal

pub returns : goal.returns
returns c = adds_same c.put-3.result _ _ (cc (c.node.ensures, c.creation.ensures, c.words.ensures.value)) (adds_last _ _ _ (adds_then (adds_then (adds_then (adds_then c.in_ok-put.ensures c.in_ok-put-2.ensures) c.in_ok-write_atom.ensures) c.in_ok-write_part.ensures) c.in_ok-write_words.ensures) c.put-3.ensures)
