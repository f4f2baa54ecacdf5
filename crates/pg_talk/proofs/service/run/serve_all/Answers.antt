use Rattle.std.proofs.Common.{[], ◌++◌, Some, ap, inl, refl, subst, sym, ◌∙◌, append-nil}
use Rattle.pg_cluster.specs.Running.{threads_in}
use Rattle.pg_node_requests.specs.Layouts.{layout_of}
use Rattle.pg_talk.specs.Readings.{AreRead}
use Rattle.pg_talk.specs.Servings.{Begun, kept_in, view_of}
use Rattle.pg_talk.proofs.ThreadReads.{moved}
use Rattle.pg_talk.proofs.Turns.{if_ok, on_ok}
use Rattle.pg_talk.proofs.Whole.{served_to_the_end}
use Rattle.pg_talk.proofs.service.run.serve_all.Goals as goal

pub returns-in_ok-verdict-in-Ok-Over-clause-served : goal.returns-in_ok-verdict-in-Ok-Over-clause-served
returns-in_ok-verdict-in-Ok-Over-clause-served g c service source reads begins =
    let remaining = g.S.Source.remaining in
    let fails = g.S.Source.fails in
    let given = service.config.starts.items in
    let wanted = service.requests in
    let before = g.W.Sink.contents c.args.writer.now in
    let after = g.W.Sink.contents c.run.new.writer in
    let first : Begun = record { threads = threads_in c.args.serving.running; written = before } in
    let ended = c.in-Ok-Over.ensures.advances given first (record { inputs = []; whole = c.requires.came ∙ ap kept_in (sym c.requires.kept); serves = begins.serves }) in
    let over = c.in-Ok-Over.ensures.over c.in-Ok-Over.field-0-is in
    let read = c.join.ensures (layout_of 0 given) wanted source (moved remaining c.args.reader (record c.args.reader { inlet = c.run.new.inlet }) (layout_of 0 given) wanted source refl reads) in
    let came = ended.whole ∙ (ap (λ kept. ended.inputs ++ kept_in kept) over.kept ∙ append-nil ended.inputs) in
    served_to_the_end remaining fails service source first after ended.inputs read.0 (view_of c.run.new.self) _
    (subst (λ all. AreRead remaining fails (layout_of 0 given) wanted source (all ++ read.0)) came read.1)
    (over.over ∙ ap Some (sym (c.fault-fault.ensures over.fault over.over))) over.idle
    (rw c.into_running.ensures at c.in_ok-verdict-in-Ok-Over.ensures) begins.own ended.serves

pub returns-in_ok-verdict-in-Ok-Over-clause-flushed : goal.returns-in_ok-verdict-in-Ok-Over-clause-flushed
returns-in_ok-verdict-in-Ok-Over-clause-flushed g c = c.in-Ok-Over.ensures.passed c.args.writer.now (λ e. inl refl) (c.in-Ok-Over.ensures.passed_on c.in-Ok-Over.field-0-is)

pub returns-in-Ok-Full-clause-served : goal.returns-in-Ok-Full-clause-served
returns-in-Ok-Full-clause-served g c =
    let remaining = g.S.Source.remaining in
    let before = g.W.Sink.contents c.args.writer.now in
    let first : Begun = record { threads = threads_in c.args.serving.running; written = before } in
    if_ok c.serve_full.result _ _ c.serve_full.ensures.served
    (λ served was service source reads begins. was service first source
    (moved remaining c.args.reader (record c.args.reader { inlet = c.run.new.inlet }) (layout_of 0 service.config.starts.items) service.requests source refl reads) begins.own
    (c.in-Ok-Full.ensures.advances service.config.starts.items first (record { inputs = []; whole = c.requires.came ∙ ap kept_in (sym c.requires.kept); serves = begins.serves })))

pub returns-in-Ok-Full-clause-flushed : goal.returns-in-Ok-Full-clause-flushed
returns-in-Ok-Full-clause-flushed g c =
    on_ok c.serve_full.result _ _ c.serve_full.ensures.flushed (λ all. all c.args.writer.now (c.in-Ok-Full.ensures.passed c.args.writer.now (λ e. inl refl)))
