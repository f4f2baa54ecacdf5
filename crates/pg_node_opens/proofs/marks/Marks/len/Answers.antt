use Rattle.std.proofs.Common.{◌∙◌, List, length, ap, sym}
use Rattle.pg_node_opens.specs.declared.mark.Mark.{Mark}
use Rattle.pg_node_opens.proofs.Kept.{kept_len}
use Rattle.pg_node_opens.proofs.marks.Marks.len.Goals as goal

pub returns-clause-len : goal.returns-clause-len
returns-clause-len c = sym (kept_len c.self.inside) ∙ ap (λ (ms : List Mark). length ms) c.self.view_is
