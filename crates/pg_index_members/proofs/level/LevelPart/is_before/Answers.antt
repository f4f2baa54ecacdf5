use Rattle.std.proofs.Common.{◌-◌, List, length, sym, ap, ◌∙◌}
use Rattle.std.specs.Prelude.{slice_get}
use Rattle.pg_index_members.specs.Edges.{before}
use Rattle.pg_index_members.specs.Rows.{all_before}
use Rattle.pg_index_members.proofs.Order.{downward}
use Rattle.pg_index_members.proofs.Parts.{last_of}
use Rattle.pg_index_members.proofs.level.LevelPart.is_before.Goals as goal

pub returns-in-Some : goal.returns-in-Some
returns-in-Some g c =
    let items = c.self.inside.parts.items in
    c.is_before.ensures
    ∙ sym (last_of g.P.Part.rows (before c.args.edge) (downward c.args.edge) items c.in-Some.part.now c.self.invariant.in_order c.self.invariant.some (ap (λ (l : List g.row.P.Denot). slice_get l (length l - 1)) (sym c.deref.ensures.value) ∙ sym c.in-Some.ensures.value))
    ∙ ap (all_before (before c.args.edge)) c.self.view_is
