use Rattle.std.proofs.Common.{◌∙◌, ap, refl, sym}
use Rattle.std.specs.List.{list_any}
use Rattle.pg_node.specs.Nodes.{held_by}
use Rattle.pg_node.specs.PgNodeState.States.{kept_by, live_of}
use Rattle.pg_node.specs.PgStep.Attempts.{same_op, waits}
use Rattle.pg_node_run.specs.Follows.{log_of, node_of}
use Rattle.pg_node_run.specs.Logs.{IsDueRetry}
use Rattle.pg_node_run.specs.Tries.{is_ready_at, waits_at}
use Rattle.pg_node_run.proofs.GoingOn.{goes_itself}
use Rattle.pg_node_run.proofs.Logging.{logs_same}
use Rattle.pg_node_run.proofs.Pausing.{waits_still}
use Rattle.pg_node_run.proofs.Retrying.{none_waits, tried_where_waits, where_waits}
use Rattle.pg_node_run.proofs.Wanting.{listing_wants, not_both}
use Rattle.pg_node_run.proofs.retries.retry_all.Goals as goal

-- ---- no command is open

pub returns-then-open_count-eq0-clause-goes : goal.returns-then-open_count-eq0-clause-goes
returns-then-open_count-eq0-clause-goes g c = goes_itself g.L.Link.accepts g.I.Inlet.gives g.met.L.Link.rests g.met.I.Inlet.rests c.args.linked.now

pub returns-then-open_count-eq0-clause-wanting : goal.returns-then-open_count-eq0-clause-wanting
returns-then-open_count-eq0-clause-wanting g c = λ short. not_both _ c.idle.ensures.whole short

pub returns-then-open_count-eq0-clause-tried : goal.returns-then-open_count-eq0-clause-tried
returns-then-open_count-eq0-clause-tried g c = λ whole op there due.
    none_waits (node_of c.args.linked.now) (ap (λ s. (kept_by s).opened) (sym (c.state-state.ensures ∙ ap held_by c.node.ensures)) ∙ (sym c.open_count.ensures ∙ c.if-open_count-eq0.true)) op there

pub returns-then-open_count-eq0-clause-waits : goal.returns-then-open_count-eq0-clause-waits
returns-then-open_count-eq0-clause-waits g c = λ op there.
    none_waits (node_of c.args.linked.now) (ap (λ s. (kept_by s).opened) (sym (c.state-state.ensures ∙ ap held_by c.node.ensures)) ∙ (sym c.open_count.ensures ∙ c.if-open_count-eq0.true)) op there

pub returns-then-open_count-eq0-clause-logs : goal.returns-then-open_count-eq0-clause-logs
returns-then-open_count-eq0-clause-logs g c = logs_same (IsDueRetry (is_ready_at (node_of c.args.linked.now)) c.args.pauses.now c.args.pauses.now) (log_of c.args.linked.now) (log_of c.args.linked.now) refl

-- ---- those that wait

pub returns-in-Err-clause-goes : goal.returns-in-Err-clause-goes
returns-in-Err-clause-goes g c = goes_itself g.L.Link.accepts g.I.Inlet.gives g.met.L.Link.rests g.met.I.Inlet.rests c.args.linked.now

pub returns-in-Err-clause-waits : goal.returns-in-Err-clause-waits
returns-in-Err-clause-waits g c = λ op waits. waits_still (is_ready_at (node_of c.args.linked.now) op) c.of.result.whole (λ whole. c.of.ensures.no_want whole) _ _ refl

pub returns-in-Err-clause-logs : goal.returns-in-Err-clause-logs
returns-in-Err-clause-logs g c = logs_same (IsDueRetry (is_ready_at (node_of c.args.linked.now)) c.args.pauses.now c.args.pauses.now) (log_of c.args.linked.now) (log_of c.args.linked.now) refl

pub returns-in-Ok-clause-tried : goal.returns-in-Ok-clause-tried
returns-in-Ok-clause-tried g c = λ whole.
    tried_where_waits g.L.Link.accepts g.I.Inlet.gives g.met.L.Link.rests g.met.I.Inlet.rests g.met.L.Link.composes g.met.I.Inlet.composes c.as_slice.result.now (is_ready_at (node_of c.args.linked.now)) c.args.pauses.now c.args.linked.now
    c.retry_listed.new.linked
    (λ op. ap (list_any (λ other. same_op other op)) c.as_slice.ensures.value
    ∙ (c.in-Ok.ensures.each.each op ∙ ap (λ s. waits (live_of s) ((kept_by s).stages op) (kept_by s)) (c.state-state.ensures ∙ ap held_by c.node.ensures)))
    (c.retry_listed.ensures.tried whole)

pub returns-in-Ok-clause-waits : goal.returns-in-Ok-clause-waits
returns-in-Ok-clause-waits g c =
    where_waits c.as_slice.result.now (is_ready_at (node_of c.args.linked.now)) c.retry_listed.result.whole c.args.pauses.now c.retry_listed.new.pauses (waits_at (node_of c.args.linked.now))
    (λ op. ap (list_any (λ other. same_op other op)) c.as_slice.ensures.value
    ∙ (c.in-Ok.ensures.each.each op ∙ ap (λ s. waits (live_of s) ((kept_by s).stages op) (kept_by s)) (c.state-state.ensures ∙ ap held_by c.node.ensures)))
    c.retry_listed.ensures.waits

pub returns-in-Ok-clause-others : goal.returns-in-Ok-clause-others
returns-in-Ok-clause-others g c = λ op waits_not.
    c.retry_listed.ensures.others op
    (ap (list_any (λ other. same_op other op)) c.as_slice.ensures.value
    ∙ (c.in-Ok.ensures.each.each op ∙ (ap (λ s. waits (live_of s) ((kept_by s).stages op) (kept_by s)) (c.state-state.ensures ∙ ap held_by c.node.ensures) ∙ waits_not)))

pub returns-in-Err-clause-wanting : goal.returns-in-Err-clause-wanting
returns-in-Err-clause-wanting g c = λ short. listing_wants g.L.Link.accepts g.I.Inlet.gives g.met.L.Link.rests g.met.I.Inlet.rests g.met.L.Link.composes g.met.I.Inlet.composes c.args.linked.now
