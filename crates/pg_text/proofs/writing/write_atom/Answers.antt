use Rattle.std.proofs.Common.{sym, ◌∙◌}
use Rattle.pg_text.proofs.Adding.{adds_then, adds_last, adds_same, quoted_atom}
use Rattle.pg_text.proofs.writing.write_atom.Goals as goal

pub returns : goal.returns
returns c = adds_same c.put-2.result _ _ (quoted_atom _ _ c.as_str-text.ensures.characters (sym c.is_bare.ensures ∙ c.if-is_bare.false)) (adds_last _ _ _ (adds_then c.in_ok-put.ensures c.in_ok-write_all_quoted.ensures) c.put-2.ensures)
