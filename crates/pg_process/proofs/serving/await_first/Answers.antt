use Rattle.std.proofs.Common.{◌∙◌, Bool, [], Ok, ap, refl, subst, sym, arith, ◌∷◌}
use Rattle.std.specs.Option.{option_copied}
use Rattle.pg_node.specs.Replicas.Progress.{ReadsSome}
use Rattle.pg_process.proofs.Ended.{arrives, cant_arrive, lapses, never_arrives, too_long_arrives, waits_first, waits_on}
use Rattle.pg_process.proofs.serving.await_first.Goals as goal

pub loop-init : goal.loop-init
loop-init g c = ([], waits_first g.R.Source.gives g.R.Source.remaining g.R.Source.fails c.args.reader.now c.args.deframer.now.unread c.requires, refl)

pub loop-preserved : goal.loop-preserved
loop-preserved g c =
    let so = c.loop.invariant in
    let some = subst (λ (more : Bool). ReadsSome (λ bytes. g.R.Source.gives c.loop.reader bytes c.read.new.reader) (g.R.Source.remaining c.loop.reader) (g.R.Source.remaining c.read.new.reader) c.loop.deframer.unread c.read.new.deframer.unread more)
    c.in-Ok-true.field-0-test c.in-Ok-true.ensures.piece in (
      some.piece ∷ so.0,
      waits_on g.R.Source.gives g.R.Source.remaining g.R.Source.fails c.args.reader.now c.loop.reader c.read.new.reader so.0 c.loop.deframer.unread c.read.new.deframer.unread so.1 some (sym c.in-Ok-None.ensures.body ∙ ap (λ o. Ok (option_copied o)) c.in-Ok-None.field-0-is),
      omega (arith, so.2),
    )

pub returns-in-Ok-Some-clause-came : goal.returns-in-Ok-Some-clause-came
returns-in-Ok-Some-clause-came g c =
    let so = c.loop.invariant in
    let some = subst (λ (more : Bool). ReadsSome (λ bytes. g.R.Source.gives c.loop.reader bytes c.read.new.reader) (g.R.Source.remaining c.loop.reader) (g.R.Source.remaining c.read.new.reader) c.loop.deframer.unread c.read.new.deframer.unread more)
    c.in-Ok-true.field-0-test c.in-Ok-true.ensures.piece in
    λ is. arrives g.R.Source.gives g.R.Source.remaining g.R.Source.fails c.args.reader.now c.loop.reader c.read.new.reader so.0 c.loop.deframer.unread c.read.new.deframer.unread _ so.1 some
    (sym c.in-Ok-Some.ensures.body ∙ ap (λ o. Ok (option_copied o)) c.in-Ok-Some.field-0-is)

pub returns-in-Ok-false-clause-over : goal.returns-in-Ok-false-clause-over
returns-in-Ok-false-clause-over g c =
    let so = c.loop.invariant in
    let none = subst (λ (more : Bool). ReadsSome (λ bytes. g.R.Source.gives c.loop.reader bytes c.read.new.reader) (g.R.Source.remaining c.loop.reader) (g.R.Source.remaining c.read.new.reader) c.loop.deframer.unread c.read.new.deframer.unread more)
    c.in-Ok-false.field-0-test c.in-Ok-false.ensures.piece in
    λ is. lapses g.R.Source.gives g.R.Source.remaining g.R.Source.fails c.args.reader.now c.loop.reader c.read.new.reader so.0 c.loop.deframer.unread c.read.new.deframer.unread so.1 none

pub returns-in-Err-clause-fault : goal.returns-in-Err-clause-fault
returns-in-Err-clause-fault g c =
    let so = c.loop.invariant in
    cant_arrive g.R.Source.gives g.R.Source.remaining g.R.Source.fails c.args.reader.now c.loop.reader c.read.new.reader so.0 c.loop.deframer.unread c.in-Err.fault so.1 c.in-Err.ensures.fault

pub returns-in-Err-front-clause-fault : goal.returns-in-Err-front-clause-fault
returns-in-Err-front-clause-fault g c =
    let so = c.loop.invariant in
    let some = subst (λ (more : Bool). ReadsSome (λ bytes. g.R.Source.gives c.loop.reader bytes c.read.new.reader) (g.R.Source.remaining c.loop.reader) (g.R.Source.remaining c.read.new.reader) c.loop.deframer.unread c.read.new.deframer.unread more)
    c.in-Ok-true.field-0-test c.in-Ok-true.ensures.piece in
    too_long_arrives g.R.Source.gives g.R.Source.remaining g.R.Source.fails c.args.reader.now c.loop.reader c.read.new.reader so.0 c.loop.deframer.unread c.read.new.deframer.unread so.1 some (sym c.in-Err-front.ensures.body)

pub returns-clause-fault : goal.returns-clause-fault
returns-clause-fault g c =
    let so = c.loop.invariant in
    never_arrives g.R.Source.gives g.R.Source.remaining g.R.Source.fails c.args.reader.now c.loop.reader so.0 c.loop.deframer.unread so.1 (omega (arith, so.2, c.loop-test.false, c.loop.auto.counter-end))
