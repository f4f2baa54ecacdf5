use Rattle.std.proofs.Common.{sym, ap, subst, ◌∙◌}
use Rattle.std.specs.Ordering.{is_lt, ordering_then}
use Rattle.pg_index_members.specs.declared.edge.Edge.{Edge}
use Rattle.pg_index_members.specs.Edges.{before, IsOnNode}
use Rattle.pg_index_members.proofs.Order.{numbers_decide}
use Rattle.pg_index_members.proofs.edge.Edge.is_after_on_node.Goals as goal

pub returns-in-AtPid : goal.returns-in-AtPid
returns-in-AtPid c =
    let on = subst (λ (e : Edge). IsOnNode e c.args.pid.now) c.in-AtPid.is c.requires in
    c.is_lt.ensures
    ∙ ap is_lt (c.then.ensures ∙ (λ i. ordering_then (c.cmp-in-AtPid-2.ensures i) ((c.then-later.ensures ∙ (λ j. ordering_then (c.cmp.ensures j) (c.cmp-in-AtPid.ensures j))) i)))
    ∙ numbers_decide c.args.pid.now c.in-AtPid.edge.now on
    ∙ ap (λ (e : Edge). before e c.args.pid.now) (sym c.in-AtPid.is)
