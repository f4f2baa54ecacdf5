use Rattle.std.proofs.Common.{◌+◌, ◌-◌, ◌<◌, ◌≤◌, drop, ap, ◌∙◌, arith}
use Rattle.std.specs.Prelude.{slice_get}
use Rattle.std.specs.List.{flat_map}
use Rattle.pg_index_members.specs.Rows.{total_of, spread}
use Rattle.pg_index_members.proofs.Parts.{found_here, found_later}
use Rattle.pg_group.specs.Scope.{anywhere}
use Rattle.pg_index_members.proofs.level.LevelPart.at.Goals as goal

pub returns-then-left-total : goal.returns-then-left-total
returns-then-left-total g c =
    let few : c.loop-part.left < total_of (g.P.Part.rows c.part-item.result) = omega arith in
    c.at.ensures ∙ found_here g.P.Part.rows c.args.self.now c.deref-part-items.result.now (ap (flat_map g.P.Part.rows) c.deref-part-items.ensures.value ∙ c.self.view_is) c.loop-part.part-index c.part-item.result c.loop-part.left c.loop-part-test.true c.part-item.is few ∙ c.loop-part.invariant

pub loop-part-preserved : goal.loop-part-preserved
loop-part-preserved g c =
    let many : total_of (g.P.Part.rows c.part-item.result) ≤ c.loop-part.left = omega arith in
    ap (λ n. slice_get (spread anywhere (flat_map g.P.Part.rows (drop (c.loop-part.part-index + 1) c.deref-part-items.result.now))) (c.loop-part.left - n)) c.total-total.ensures.value
    ∙ found_later g.P.Part.rows c.args.self.now c.deref-part-items.result.now (ap (flat_map g.P.Part.rows) c.deref-part-items.ensures.value ∙ c.self.view_is) c.loop-part.part-index c.part-item.result c.loop-part.left c.loop-part-test.true c.part-item.is many ∙ c.loop-part.invariant
