use Rattle.std.proofs.Common.{◌-◌, sym, ap, ◌∙◌, take, drop}
use Rattle.std.specs.List.{flat_map}
use Rattle.pg_group.specs.Scope.{in_scope}
use Rattle.pg_index_members.specs.Rows.{spread}
use Rattle.pg_index_members.proofs.level.asked.Goals as goal

pub returns-in-At : goal.returns-in-At
returns-in-At g c =
    let rows = g.P.Part.rows in
    let parts = c.args.parts.now in
    ap (λ s. spread (in_scope s) (flat_map rows (take (c.span-from.result.1 - c.span-from.result.0) (drop c.span-from.result.0 parts)))) c.in-At.is
    ∙ c.span-from.ensures.members
    ∙ ap (λ s. spread (in_scope s) (flat_map rows parts)) (sym c.in-At.is)
