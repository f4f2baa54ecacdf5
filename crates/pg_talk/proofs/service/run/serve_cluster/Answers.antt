use Rattle.std.proofs.Common.{◌≡◌, [], ap, refl, subst, sym, ◌∙◌}
use Rattle.std.specs.Prelude.{IfErr}
use Rattle.pg_cluster.specs.PgNode.Replicas.Causes.{FailedAt}
use Rattle.pg_cluster.specs.PgWorldConfig.declared.config.Config.{Config}
use Rattle.pg_cluster.specs.Running.{config_in}
use Rattle.pg_talk.specs.Faults.{NotServed}
use Rattle.pg_talk.specs.Services.{Begins, WasServed}
use Rattle.pg_talk.proofs.Turns.{if_ok}
use Rattle.pg_talk.proofs.Whole.{served_at_first}
use Rattle.pg_talk.proofs.service.run.serve_cluster.Goals as goal

pub returns-in-Ok-start-clause-served : goal.returns-in-Ok-start-clause-served
returns-in-Ok-start-clause-served g c =
    let service = c.args.service in
    let given = service.config.starts.items in
    let remaining = g.S.Source.remaining in
    let before = g.W.Sink.contents c.args.writer.now in
    let after = g.W.Sink.contents c.serve_by.new.writer in
    let starts = c.as_slice.ensures.value in
    let started = c.in-Ok-start.ensures in
    if_ok c.serve_by.result _ (WasServed remaining g.S.Source.fails service (remaining c.args.source) before after) c.serve_by.ensures.served
    (λ served was. was service (rw starts at c.in-Ok.ensures.layout) refl (subst (λ view. Begins service view before) (sym c.new-serving.ensures.view) (record {
      own = record { rings = started.rings; seeds = started.seeds; limits = started.limit };
      serves = served_at_first given before c.in-Ok-start.running c.in-Ok.rooms.1.desks.items c.in-Ok.rooms.1.nodes.items (ap (λ config. config.starts.items) started.config)
          (rw starts at c.in-Ok.ensures.ports) c.in-Ok.ensures.new (rw starts at c.in-Ok.ensures.names) (rw starts at c.in-Ok.ensures.there) started.lost started.silent;
    })))

pub returns-in-Ok-start-clause-fault : goal.returns-in-Ok-start-clause-fault
returns-in-Ok-start-clause-fault g c =
    let before = c.args.writer.now in
    let after = c.serve_by.new.writer in
    let same = ap (λ view. config_in view.running) c.new-serving.ensures.view ∙ c.in-Ok-start.ensures.config in
    subst (λ (config : Config). IfErr c.serve_by.result (NotServed config.ring config.starts.items (after ≡ before) (FailedAt g.W.Sink.fails after))) same c.serve_by.ensures.fault
