use Rattle.std.proofs.Common.{◌≡◌, refl, subst}
use Rattle.pg_cluster.specs.PgNode.Replicas.Causes.{FailedAt}
use Rattle.pg_cluster.specs.Running.{config_in}
use Rattle.pg_node_requests.specs.Layouts.{layout_of}
use Rattle.pg_talk.specs.Readers.{Reads}
use Rattle.pg_talk.specs.Servings.{running_of}
use Rattle.pg_talk.proofs.Passing.{stopped, unread}
use Rattle.pg_talk.proofs.Turns.{if_ok}
use Rattle.pg_talk.proofs.service.run.serve_by.Goals as goal

pub returns-in-Ok-clause-served : goal.returns-in-Ok-clause-served
returns-in-Ok-clause-served g c =
    let remaining = g.S.Source.remaining in
    let source = remaining c.args.source in
    if_ok c.serve_all.result _ _ c.serve_all.ensures.served
    (λ served was service nodes count begins. was service source
    (subst (λ n. Reads remaining (layout_of 0 service.config.starts.items) n source c.in-Ok.reader) count
    (subst (λ all. Reads remaining all c.args.requests source c.in-Ok.reader) nodes c.in-Ok.ensures.reads)) begins)

pub returns-in-Ok-clause-fault : goal.returns-in-Ok-clause-fault
returns-in-Ok-clause-fault g c =
    let config = config_in (running_of c.args.serving) in
    let before = c.args.writer.now in
    let after = c.serve_all.new.writer in
    stopped config.ring config.starts.items (after ≡ before) (FailedAt g.W.Sink.fails after) c.serve_all.result c.serve_all.ensures.fault

pub returns-clause-fault : goal.returns-clause-fault
returns-clause-fault g c =
    let config = config_in (running_of c.args.serving) in
    let now = c.args.writer.now in
    unread config.ring config.starts.items (now ≡ now) (FailedAt g.W.Sink.fails now) c.in-Err.fault c.args.serving.running.can c.in-Err.ensures.fault refl
