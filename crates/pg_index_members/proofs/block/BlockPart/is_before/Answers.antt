use Rattle.std.proofs.Common.{◌-◌, List, sym, ap, subst, ◌∙◌}
use Rattle.pg_index_members.specs.declared.row.Row.{Row}
use Rattle.pg_index_members.specs.Edges.{before}
use Rattle.pg_index_members.specs.Rows.{AreRows}
use Rattle.pg_index_members.proofs.Order.{downward}
use Rattle.pg_index_members.proofs.Cut.{last_of}
use Rattle.std.specs.Prelude.{slice_get, length}
use Rattle.pg_index_members.proofs.block.BlockPart.is_before.Goals as goal

pub returns-in-Some : goal.returns-in-Some
returns-in-Some c =
    c.is_after.ensures
    ∙ sym (last_of (before c.args.edge) (downward c.args.edge) c.args.self.now c.in-Some.row.now (subst AreRows c.self.view_is c.self.invariant.1) (ap (λ (l : List Row). slice_get l (length l - 1)) (sym (c.deref.ensures.value ∙ c.self.view_is)) ∙ sym c.in-Some.ensures.value))
