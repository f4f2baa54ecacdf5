use Rattle.std.proofs.Common.{sym, ap₂, subst, ◌∙◌}
use Rattle.pg_world.proofs.PgQuery.SameGroups.{answers_too}
use Rattle.pg_cluster_judges.specs.Judges.{AreOne, is_end_pending}
use Rattle.pg_cluster_judges.proofs.closed.Closed.agrees.Goals as goal

pub returns : goal.returns
returns c =
    let nodes_is = c.as_slice-nodes.ensures.value in
    let none = ap₂ is_end_pending (sym nodes_is) (sym c.as_slice.ensures.value) ∙ (sym c.is_end_pending.ensures ∙ c.if-is_end_pending.false) in
    answers_too c.are_one.result (λ one pending. subst AreOne nodes_is one) (λ agree. subst AreOne (sym nodes_is) (agree none)) c.are_one.ensures
