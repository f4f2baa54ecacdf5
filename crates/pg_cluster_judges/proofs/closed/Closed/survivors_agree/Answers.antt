use Rattle.std.proofs.Common.{sym, ap₂, ◌∙◌}
use Rattle.pg_world.proofs.PgQuery.SameGroups.{answers_too}
use Rattle.pg_cluster_judges.specs.Judges.{is_end_pending}
use Rattle.pg_cluster_judges.specs.Survivors.{is_loss_pending, survivors}
use Rattle.pg_cluster_judges.proofs.Surviving.{among_same}
use Rattle.pg_cluster_judges.proofs.closed.Closed.survivors_agree.Goals as goal

pub returns : goal.returns
returns c =
    let nodes_is = c.as_slice-nodes.ensures.value in
    let lost_is = c.as_slice-lost.ensures.value in
    let logs_is = c.as_slice-logs.ensures.value in
    let no_loss = ap₂ is_loss_pending (sym lost_is) (sym logs_is) ∙ (sym c.is_loss_pending.ensures ∙ c.if-is_loss_pending.false) in
    let no_end = ap₂ is_end_pending (ap₂ survivors (sym lost_is) (sym nodes_is)) (sym logs_is) ∙ (sym c.is_end_pending.ensures ∙ c.if-is_end_pending.false) in
    let self = c.args.self.now in
    let nodes = c.as_slice-nodes.result.now in
    let lost = c.as_slice-lost.result.now in
    let logs = c.as_slice-logs.result.now in
    answers_too c.are_one.result
    (λ one loss ends. among_same nodes self.nodes.items lost self.lost.items logs self.logs.items nodes_is lost_is logs_is one)
    (λ agree. among_same self.nodes.items nodes self.lost.items lost self.logs.items logs (sym nodes_is) (sym lost_is) (sym logs_is) (agree no_loss no_end))
    c.are_one.ensures
