use Rattle.std.proofs.Common.{List, sym, ap, subst, ◌∙◌}
use Rattle.pg_index_members.specs.Rows.{counts_of}
use Rattle.pg_index_members.specs.Levels.{IsHome}
use Rattle.pg_index_members.proofs.Parts.{counts_home}
use Rattle.pg_index_members.proofs.level.LevelPart.count.Goals as goal

pub returns : goal.returns
returns g c =
    let rows = g.P.Part.rows in
    let parts = c.self.inside.parts.items in
    let pid = c.args.pid.now in
    let home : IsHome rows pid parts c.home-at.result = subst (λ (l : List g.row.P.Denot). IsHome rows pid l c.home-at.result) c.deref.ensures.value c.home-at.ensures in
    c.count.ensures ∙ sym (counts_home rows pid parts c.home-at.result home c.index.result.now c.index.ensures) ∙ ap (λ l. counts_of l pid) c.self.view_is
