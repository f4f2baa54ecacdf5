use Rattle.std.proofs.Common.{◌≡◌, sym, ap, ◌∙◌, arith}
use Rattle.std.proofs.lemmas.Bool.Decides.{nat_tests}
use Rattle.std.specs.List.{flat_map}
use Rattle.pg_index_members.specs.Rows.{total_of}
use Rattle.pg_index_members.proofs.Parts.{empty_if}
use Rattle.pg_index_members.proofs.level.LevelPart.is_empty.Goals as goal

pub returns : goal.returns
returns g c =
    let flat = flat_map g.P.Part.rows c.self.inside.parts.items in
    let sum = c.self.invariant.sum in (
      λ yes. sym c.self.view_is ∙ empty_if flat c.self.invariant.in_order (let zero : c.self.inside.total ≡ 0 = grind (arith, nat_tests) in omega arith),
      λ none. (let zero : total_of flat ≡ 0 = ap total_of (c.self.view_is ∙ none) in let is : c.self.inside.total ≡ 0 = omega arith in grind (arith, nat_tests)),
    )
