use Rattle.std.proofs.Common.{sym, ap, ◌∙◌}
use Rattle.pg_world.specs.PgNodeState.States.{kept_by, live_of}
use Rattle.pg_world.proofs.PgQuery.SameGroups.{answers_too}
use Rattle.pg_world.specs.PgStep.State.{formed}
use Rattle.pg_cluster_judges.specs.Survivors.{is_compared, survivors}
use Rattle.pg_cluster_judges.proofs.Surviving.{agreed_forth, agreed_back}
use Rattle.pg_cluster_judges.proofs.closed.survivors.agrees_if_formed.Goals as goal

pub returns : goal.returns
returns c =
    let nodes = c.args.nodes.now in
    let left = survivors c.args.lost.now nodes in
    let compared = is_compared left c.args.lost.now c.args.logs.now in
    let x = c.args.node.now in
    let is_formed = sym (c.formed.ensures ∙ ap (λ s. formed (live_of s) (kept_by s)) c.state.ensures) ∙ c.if-not-formed.false in
    let is = c.table.ensures ∙ ap (λ s. (kept_by s).table) c.state-2.ensures in
    answers_too c.agrees_on.result
    (λ all formed. agreed_forth compared left x _ c.in_ok-names.names.items c.as_slice.result.now is c.in_ok-names.ensures c.as_slice.ensures.value all)
    (λ agreed. agreed_back compared left x _ c.in_ok-names.names.items c.as_slice.result.now is c.in_ok-names.ensures c.as_slice.ensures.value (agreed is_formed))
    c.agrees_on.ensures
