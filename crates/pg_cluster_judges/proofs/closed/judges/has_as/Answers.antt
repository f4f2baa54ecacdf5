use Rattle.std.proofs.Common.{sym, ap, ◌∙◌}
use Rattle.pg_world.specs.PgNodeState.States.{kept_by, live_of}
use Rattle.pg_world.specs.PgStep.State.{formed}
use Rattle.pg_cluster_judges.proofs.Agreeing.{has_as_so}
use Rattle.pg_cluster_judges.proofs.closed.judges.has_as.Goals as goal

pub returns : goal.returns
returns c =
    has_as_so c.same_group.result c.args.one.now c.args.other.now c.args.name.now _ _
    (c.table.ensures ∙ ap (λ s. (kept_by s).table) c.state-2.ensures)
    (c.table-2.ensures ∙ ap (λ s. (kept_by s).table) c.state-3.ensures)
    (sym (c.formed.ensures ∙ ap (λ s. formed (live_of s) (kept_by s)) c.state.ensures) ∙ c.if-not-formed.false)
    c.same_group.ensures
