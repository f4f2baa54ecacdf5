use Rattle.std.proofs.Common.{ℕ, Bool, List, inr, refl, subst, sym, arith, ◌∷◌}
use Rattle.std.specs.Prelude.{Result}
use Rattle.pg_node.specs.Replicas.Causes.{joined}
use Rattle.pg_node.specs.Replicas.Progress.{ReadsSome}
use Rattle.pg_process.specs.declared.fault.EndFault.{EndFault}
use Rattle.pg_process.specs.Serving.{Ends}
use Rattle.pg_process.specs.Stories.{IsServing}
use Rattle.pg_process.proofs.Ended.{broken_ends, reads_more, served_ends, spent_ends, unread_ends}
use Rattle.pg_process.proofs.Storied.{is_up_to_date, reads}
use Rattle.pg_process.proofs.serving.Serving.go_on.Goals as goal

pub loop-init : goal.loop-init
loop-init g c = record { served = λ story first pieces read served. (pieces, read, served, omega arith); rest = c.requires }

pub loop-preserved : goal.loop-preserved
loop-preserved g c = record {
  served = λ story first pieces read served.
      let so = c.loop.invariant.served story first pieces read served in
      let now = c.loop.self in
      let some = subst (λ (more : Bool). ReadsSome (λ bytes. g.R.Source.gives c.loop.reader bytes c.read.new.reader) (g.R.Source.remaining c.loop.reader) (g.R.Source.remaining c.read.new.reader) now.deframer.unread c.read.new.deframer.unread more)
      c.in-Ok-true.field-0-test c.in-Ok-true.ensures.piece in (
        some.piece ∷ so.0,
        reads_more g.R.Source.gives g.R.Source.remaining g.R.Source.fails first c.loop.reader c.read.new.reader so.0 some.piece so.1 some.gave some.consumed (some.some refl),
        c.in-Ok.ensures.served story (joined (some.piece ∷ so.0))
            (subst (λ (bytes : List ℕ). IsServing g.W.Sink.contents g.W.Sink.flushed g.L.Sink.contents g.L.Sink.flushed story (joined (some.piece ∷ so.0)) bytes now.process c.loop.writer c.loop.log) (sym some.fed)
            (reads g.W.Sink.contents g.W.Sink.flushed g.L.Sink.contents g.L.Sink.flushed story (joined so.0) now.deframer.unread some.piece now.process c.loop.writer c.loop.log so.2.serving)),
        omega (arith, so.3),
      );
  rest = c.in-Ok.ensures.rest;
}

pub returns-in-Ok-false : goal.returns-in-Ok-false
returns-in-Ok-false g c = λ story first pieces read served.
    let so = c.loop.invariant.served story first pieces read served in
    let now = c.loop.self in
    let none = subst (λ (more : Bool). ReadsSome (λ bytes. g.R.Source.gives c.loop.reader bytes c.read.new.reader) (g.R.Source.remaining c.loop.reader) (g.R.Source.remaining c.read.new.reader) now.deframer.unread c.read.new.deframer.unread more)
    c.in-Ok-false.field-0-test c.in-Ok-false.ensures.piece in
    subst (λ (result : Result (Unit {0}) EndFault). Ends g.W.Sink.contents g.W.Sink.flushed g.W.Sink.fails g.L.Sink.contents g.L.Sink.flushed g.L.Sink.fails g.R.Source.gives g.R.Source.remaining g.R.Source.fails story.config first c.read.new.reader
    story.out c.loop.writer story.log c.loop.log result) (sym c.end_of.ensures)
    (served_ends g.W.Sink.contents g.W.Sink.flushed g.W.Sink.fails g.L.Sink.contents g.L.Sink.flushed g.L.Sink.fails g.R.Source.gives g.R.Source.remaining g.R.Source.fails story first c.loop.reader c.read.new.reader so.0
    now.deframer.unread c.read.new.deframer.unread now.process c.loop.writer c.loop.log so.1 so.2 none)

pub returns-in-Err : goal.returns-in-Err
returns-in-Err g c = λ story first pieces read served.
    let so = c.loop.invariant.served story first pieces read served in
    let now = c.loop.self in
    unread_ends g.W.Sink.contents g.W.Sink.flushed g.W.Sink.fails g.L.Sink.contents g.L.Sink.flushed g.L.Sink.fails g.R.Source.gives g.R.Source.remaining g.R.Source.fails story first c.loop.reader c.read.new.reader so.0
    now.deframer.unread now.process c.loop.writer c.loop.log c.in-Err.fault so.1 so.2 c.in-Err.ensures.fault

pub returns-in-Err-hear_all : goal.returns-in-Err-hear_all
returns-in-Err-hear_all g c = λ story first pieces read served.
    let so = c.loop.invariant.served story first pieces read served in
    let now = c.loop.self in
    let some = subst (λ (more : Bool). ReadsSome (λ bytes. g.R.Source.gives c.loop.reader bytes c.read.new.reader) (g.R.Source.remaining c.loop.reader) (g.R.Source.remaining c.read.new.reader) now.deframer.unread c.read.new.deframer.unread more)
    c.in-Ok-true.field-0-test c.in-Ok-true.ensures.piece in
    broken_ends g.W.Sink.contents g.W.Sink.flushed g.W.Sink.fails g.L.Sink.contents g.L.Sink.flushed g.L.Sink.fails g.R.Source.gives g.R.Source.remaining g.R.Source.fails story first c.read.new.reader some.piece now.deframer.unread so.0
    c.loop.writer c.hear_all.new.writer c.loop.log c.hear_all.new.log c.in-Err-hear_all.fault
    (reads_more g.R.Source.gives g.R.Source.remaining g.R.Source.fails first c.loop.reader c.read.new.reader so.0 some.piece so.1 some.gave some.consumed (some.some refl))
    (inr (is_up_to_date g.W.Sink.contents g.W.Sink.flushed g.L.Sink.contents g.L.Sink.flushed story g.W.Sink.fails g.L.Sink.fails (joined so.0) now.deframer.unread now.process c.loop.writer c.loop.log so.2))
    (c.in-Err-hear_all.ensures.fault story (joined (some.piece ∷ so.0))
    (subst (λ (bytes : List ℕ). IsServing g.W.Sink.contents g.W.Sink.flushed g.L.Sink.contents g.L.Sink.flushed story (joined (some.piece ∷ so.0)) bytes now.process c.loop.writer c.loop.log) (sym some.fed)
    (reads g.W.Sink.contents g.W.Sink.flushed g.L.Sink.contents g.L.Sink.flushed story (joined so.0) now.deframer.unread some.piece now.process c.loop.writer c.loop.log so.2.serving)))

pub returns : goal.returns
returns g c = λ story first pieces read served.
    let so = c.loop.invariant.served story first pieces read served in
    spent_ends g.W.Sink.contents g.W.Sink.flushed g.W.Sink.fails g.L.Sink.contents g.L.Sink.flushed g.L.Sink.fails g.R.Source.gives g.R.Source.remaining g.R.Source.fails story first c.loop.reader so.0 c.loop.self.deframer.unread
    c.loop.self.process c.loop.writer c.loop.log so.1 so.2 (omega (arith, so.3, c.loop-test.false, c.loop.auto.counter-end))
