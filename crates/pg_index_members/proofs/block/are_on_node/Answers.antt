use Rattle.std.proofs.Common.{sym, subst, ◌∙◌}
use Rattle.std.specs.List.{AllByRecursion}
use Rattle.pg_index_members.specs.declared.row.Row.{Row}
use Rattle.pg_index_members.specs.declared.edge.Edge.{Edge}
use Rattle.pg_index_members.specs.Edges.{IsOnNode}
use Rattle.pg_index_members.proofs.Alike.{all_on_node}
use Rattle.pg_index_members.proofs.block.are_on_node.Goals as goal

pub returns-then-is_on : goal.returns-then-is_on
returns-then-is_on c is =
    let first = c.is_on.ensures c.if-is_on.true in
    let last = c.is_on-then-is_on.ensures is in
    subst (λ (e : Edge). AllByRecursion (λ (r : Row). IsOnNode e r.pid) c.args.rows.now) (sym c.in-AtPid.is)
    (all_on_node c.in-AtPid.pid.now.node c.args.rows.now first.0 last.0 c.requires (sym c.first.ensures.value ∙ first.1) (sym c.last.ensures.value ∙ last.1) first.2 last.2)
