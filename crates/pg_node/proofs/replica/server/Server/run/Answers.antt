use Rattle.std.proofs.Common.{inl, inr, refl, sym, subst, ◌∙◌, arith}
use Rattle.std.specs.Prelude.{⊤, Err}
use Rattle.std.proofs.lemmas.Result.{err_from_is_err_and}
use Rattle.pg_node.specs.declared.replica.fault.ServeFault.{ServeFault}
use Rattle.pg_node.specs.declared.replica.fault.ServeFault.TheVariants.{ReadFault}
use Rattle.pg_node.specs.Replicas.Progress.{HasServed, Stops}
use Rattle.pg_node.specs.Replicas.Replica.{Pair, State, pair_of, frames_of}
use Rattle.pg_node_state.specs.States.{state_of}
use Rattle.pg_node.proofs.Replicas.Streams.{appends_kept}
use Rattle.pg_node.proofs.Replicas.Served.{at_start, goes_on, stopped, finished, unread_ends, unwritten_ends}
use Rattle.pg_node.proofs.Replicas.Served.{gave_more, read_failed, reads_spent, cause_of, left_flushed}
use Rattle.pg_node.proofs.Replicas.Served.{each_gave, read_too}
use Rattle.pg_node.proofs.Replicas.Served.{left_unread, where_ok, if_write, not_write, wrote_part, in_turn}
use Rattle.pg_node.proofs.replica.server.Server.run.Goals as goal

pub loop-init : goal.loop-init
loop-init g c =
    let node = c.args.self.now.node in (
      refl,
      at_start (pair_of node) _ (g.R.Source.remaining c.args.reader.now) (g.W.Sink.contents c.args.writer.now) c.args.self.now.deframer.unread
          (state_of node) (refl, refl) c.requires.fresh c.requires.start,
      inl refl,
    )

pub returns-in_err-read-clause-known : goal.returns-in_err-read-clause-known
returns-in_err-read-clause-known g c =
    let node = c.loop.self.node in
    let s = state_of node in
    let p = err_from_is_err_and c.from_residual.result c.from_residual.ensures.1 in
    rw (p.1, p.2)
    (unread_ends (pair_of c.args.self.now.node) _ (g.R.Source.remaining c.args.reader.now) (g.R.Source.remaining c.loop.reader) c.loop.self.deframer.unread s (g.W.Sink.contents c.args.writer.now) (g.W.Sink.contents c.loop.writer) c.loop.invariant.1
    c.in_err-read.field-0.0 c.in_err-read.ensures.fault)

pub returns-in_err-read-clause-cause : goal.returns-in_err-read-clause-cause
returns-in_err-read-clause-cause g c =
    let p = err_from_is_err_and c.from_residual.result c.from_residual.ensures.1 in
    rw (p.1, p.2)
    (cause_of (read_failed g.R.Source.gives g.R.Source.fails c.args.reader.now c.loop.reader c.loop.counter (pair_of c.args.self.now.node) (g.R.Source.remaining c.args.reader.now) (g.R.Source.remaining c.loop.reader)
    c.loop.self.deframer.unread (state_of c.loop.self.node) (g.W.Sink.contents c.args.writer.now) (g.W.Sink.contents c.loop.writer) c.loop.invariant.1 c.read.new.reader) (λ none. absurd none) c.in_err-read.field-0.0 c.in_err-read.ensures.cause)

pub returns-in_err-read-clause-flushed : goal.returns-in_err-read-clause-flushed
returns-in_err-read-clause-flushed g c =
    let p = err_from_is_err_and c.from_residual.result c.from_residual.ensures.1 in
    rw (p.1, p.2) (left_flushed g.W.Sink.flushed c.args.writer.now c.loop.writer c.loop.invariant.2 (Err c.in_err-read.field-0.0))

pub returns-then-not-branch-clause-known : goal.returns-then-not-branch-clause-known
returns-then-not-branch-clause-known g c =
    let node = c.loop.self.node in
    let s = state_of node in
    finished (pair_of c.args.self.now.node) _ (g.R.Source.remaining c.args.reader.now) (g.R.Source.remaining c.loop.reader) c.loop.self.deframer.unread s (g.W.Sink.contents c.args.writer.now) (g.W.Sink.contents c.loop.writer) c.loop.invariant.1
    _ (g.R.Source.remaining c.read.new.reader) c.read.new.self.deframer.unread c.in_ok-read.field-0 c.in_ok-read.ensures.piece c.if-not-branch.true c.finish.result c.finish.ensures

pub returns-then-not-branch-clause-flushed : goal.returns-then-not-branch-clause-flushed
returns-then-not-branch-clause-flushed g c = left_flushed g.W.Sink.flushed c.args.writer.now c.loop.writer c.loop.invariant.2 c.finish.result

pub returns-in_err-answer_all-clause-known : goal.returns-in_err-answer_all-clause-known
returns-in_err-answer_all-clause-known g c =
    let node = c.loop.self.node in
    let s = state_of node in
    let fault = c.in_err-answer_all.field-0.0 in
    let same = c.in_ok-read.ensures.pair ∙ c.loop.invariant.0 in
    let stops = subst (λ (t : State). Stops (pair_of c.args.self.now.node) fault c.read.new.self.deframer.unread t (g.W.Sink.contents c.loop.writer) (g.W.Sink.contents c.answer_all.new.writer)) c.in_ok-read.ensures.state
    (subst (λ (pair : Pair). Stops pair fault c.read.new.self.deframer.unread (state_of c.read.new.self.node) (g.W.Sink.contents c.loop.writer) (g.W.Sink.contents c.answer_all.new.writer)) same c.in_err-answer_all.ensures.fault) in
    let p = err_from_is_err_and c.from_residual-in_err-answer_all.result c.from_residual-in_err-answer_all.ensures.1 in
    rw (p.1, p.2)
    (stopped (pair_of c.args.self.now.node) _ (g.R.Source.remaining c.args.reader.now) (g.R.Source.remaining c.loop.reader) c.loop.self.deframer.unread s (g.W.Sink.contents c.args.writer.now) (g.W.Sink.contents c.loop.writer) c.loop.invariant.1
    _ (g.R.Source.remaining c.read.new.reader) c.read.new.self.deframer.unread c.in_ok-read.field-0 c.in_ok-read.ensures.piece fault (g.W.Sink.contents c.answer_all.new.writer) stops)

pub returns-in_err-answer_all-clause-cause : goal.returns-in_err-answer_all-clause-cause
returns-in_err-answer_all-clause-cause g c =
    let p = err_from_is_err_and c.from_residual-in_err-answer_all.result c.from_residual-in_err-answer_all.ensures.1 in
    rw (p.1, p.2) (cause_of (λ none. absurd none) (λ h. h) c.in_err-answer_all.field-0.0 c.in_err-answer_all.ensures.cause)

pub returns-in_err-answer_all-clause-flushed : goal.returns-in_err-answer_all-clause-flushed
returns-in_err-answer_all-clause-flushed g c =
    let p = err_from_is_err_and c.from_residual-in_err-answer_all.result c.from_residual-in_err-answer_all.ensures.1 in
    rw (p.1, p.2) (left_unread g.W.Sink.flushed c.args.writer.now c.answer_all.new.writer _ c.in_err-answer_all.field-0.0 c.in_err-answer_all.ensures.cause)

pub returns-then-is_err-clause-known : goal.returns-then-is_err-clause-known
returns-then-is_err-clause-known g c =
    let node = c.loop.self.node in
    let new = c.answer_all.new.self.node in
    let s = state_of node in
    let t = state_of new in
    let unread = c.answer_all.new.self.deframer.unread in
    let same = c.in_ok-read.ensures.pair ∙ c.loop.invariant.0 in
    let progress = subst (λ (u : State). HasServed (pair_of c.args.self.now.node) c.read.new.self.deframer.unread unread u t (g.W.Sink.contents c.loop.writer) (g.W.Sink.contents c.answer_all.new.writer)) c.in_ok-read.ensures.state
    (subst (λ (pair : Pair). HasServed pair c.read.new.self.deframer.unread unread (state_of c.read.new.self.node) t (g.W.Sink.contents c.loop.writer) (g.W.Sink.contents c.answer_all.new.writer)) same c.in_ok-answer_all.ensures.progress) in
    let serving =
    goes_on (pair_of c.args.self.now.node) _ (g.R.Source.remaining c.args.reader.now) (g.R.Source.remaining c.loop.reader) c.loop.self.deframer.unread s (g.W.Sink.contents c.args.writer.now) (g.W.Sink.contents c.loop.writer) c.loop.invariant.1
    _ (g.R.Source.remaining c.read.new.reader) c.read.new.self.deframer.unread c.in_ok-read.field-0 c.in_ok-read.ensures.piece (λ pieces. ⊤) tt unread t (g.W.Sink.contents c.answer_all.new.writer) (g.W.Sink.contents c.flush_all.new.self) progress
    c.in_ok-answer_all.ensures.none c.flush_all.ensures.bytes in
    unwritten_ends (pair_of c.args.self.now.node) _ (g.R.Source.remaining c.args.reader.now) (g.R.Source.remaining c.read.new.reader) unread t (g.W.Sink.contents c.args.writer.now) (g.W.Sink.contents c.flush_all.new.self) serving

pub loop-preserved : goal.loop-preserved
loop-preserved g c =
    let node = c.loop.self.node in
    let new = c.answer_all.new.self.node in
    let s = state_of node in
    let t = state_of new in
    let unread = c.answer_all.new.self.deframer.unread in
    let same = c.in_ok-read.ensures.pair ∙ c.loop.invariant.0 in
    let got = c.in_ok-read.ensures.piece in
    let progress = subst (λ (u : State). HasServed (pair_of c.args.self.now.node) c.read.new.self.deframer.unread unread u t (g.W.Sink.contents c.loop.writer) (g.W.Sink.contents c.answer_all.new.writer)) c.in_ok-read.ensures.state
    (subst (λ (pair : Pair). HasServed pair c.read.new.self.deframer.unread unread (state_of c.read.new.self.node) t (g.W.Sink.contents c.loop.writer) (g.W.Sink.contents c.answer_all.new.writer)) same c.in_ok-answer_all.ensures.progress) in (
      c.answer_all.ensures.pair ∙ same,
      goes_on (pair_of c.args.self.now.node) _ (g.R.Source.remaining c.args.reader.now) (g.R.Source.remaining c.loop.reader) c.loop.self.deframer.unread s (g.W.Sink.contents c.args.writer.now) (g.W.Sink.contents c.loop.writer) c.loop.invariant.1
          _ (g.R.Source.remaining c.read.new.reader) c.read.new.self.deframer.unread c.in_ok-read.field-0 got _
          (gave_more g.R.Source.gives c.args.reader.now c.loop.reader c.read.new.reader c.loop.counter c.loop.invariant.1.pieces got.piece c.loop.invariant.1.gave got.gave (got.some c.if-not-branch.false)) unread t (g.W.Sink.contents c.answer_all.new.writer) (g.W.Sink.contents c.flush_all.new.self) progress
          c.in_ok-answer_all.ensures.none c.flush_all.ensures.bytes,
      inr (where_ok c.flush_all.result (sym c.is_err.ensures.value ∙ c.if-is_err.false) c.flush_all.ensures.ok),
    )

pub returns-clause-known : goal.returns-clause-known
returns-clause-known g c =
    let node = c.loop.self.node in
    let s = state_of node in
    unread_ends (pair_of c.args.self.now.node) _ (g.R.Source.remaining c.args.reader.now) (g.R.Source.remaining c.loop.reader) c.loop.self.deframer.unread s (g.W.Sink.contents c.args.writer.now) (g.W.Sink.contents c.loop.writer) c.loop.invariant.1 ReadFault (inl refl)

pub returns-clause-cause : goal.returns-clause-cause
returns-clause-cause g c =
    reads_spent g.R.Source.gives g.R.Source.fails c.args.reader.now c.loop.reader c.loop.counter (pair_of c.args.self.now.node) (g.R.Source.remaining c.args.reader.now) (g.R.Source.remaining c.loop.reader)
    c.loop.self.deframer.unread (state_of c.loop.self.node) (g.W.Sink.contents c.args.writer.now) (g.W.Sink.contents c.loop.writer) c.loop.invariant.1 (omega (arith, c.loop-test.false, c.loop.auto.counter-end))

pub returns-clause-flushed : goal.returns-clause-flushed
returns-clause-flushed g c = left_flushed g.W.Sink.flushed c.args.writer.now c.loop.writer c.loop.invariant.2 (Err ReadFault)

pub returns-in_err-read-clause-order : goal.returns-in_err-read-clause-order
returns-in_err-read-clause-order g c =
    let p = err_from_is_err_and c.from_residual.result c.from_residual.ensures.1 in
    rw (p.1, p.2) (not_write _ c.in_err-read.field-0.0 c.in_err-read.ensures.fault)

pub returns-in_err-answer_all-clause-order : goal.returns-in_err-answer_all-clause-order
returns-in_err-answer_all-clause-order g c =
    let contents = g.W.Sink.contents in
    let got = c.in_ok-read.ensures.piece in
    let new = c.read.new.self in
    let p = err_from_is_err_and c.from_residual-in_err-answer_all.result c.from_residual-in_err-answer_all.ensures.1 in
    rw (p.1, p.2) (if_write _ c.in_err-answer_all.field-0.0 (λ is.
    in_turn g.R.Source.gives g.W.Sink.flushed contents c.args.reader.now c.loop.reader c.read.new.reader c.loop.counter (pair_of c.args.self.now.node) (g.R.Source.remaining c.args.reader.now) (g.R.Source.remaining c.loop.reader)
    c.loop.self.deframer.unread (state_of c.loop.self.node) c.args.writer.now c.loop.writer c.answer_all.new.writer c.loop.invariant.1 c.loop.invariant.2 got.piece got.gave (got.some c.if-not-branch.false)
    (wrote_part (pair_of new.node) new.deframer.unread (state_of new.node) (contents c.loop.writer) (contents c.answer_all.new.writer)
    (subst (λ (f : ServeFault). Stops (pair_of new.node) f new.deframer.unread (state_of new.node) (contents c.loop.writer) (contents c.answer_all.new.writer)) is c.in_err-answer_all.ensures.fault))))

pub returns-then-is_err-clause-order : goal.returns-then-is_err-clause-order
returns-then-is_err-clause-order g c =
    let contents = g.W.Sink.contents in
    let got = c.in_ok-read.ensures.piece in
    let progress = c.in_ok-answer_all.ensures.progress in
    in_turn g.R.Source.gives g.W.Sink.flushed contents c.args.reader.now c.loop.reader c.read.new.reader c.loop.counter (pair_of c.args.self.now.node) (g.R.Source.remaining c.args.reader.now) (g.R.Source.remaining c.loop.reader)
    c.loop.self.deframer.unread (state_of c.loop.self.node) c.args.writer.now c.loop.writer c.flush_all.new.self c.loop.invariant.1 c.loop.invariant.2 got.piece got.gave (got.some c.if-not-branch.false)
    (frames_of progress.replies, appends_kept (contents c.loop.writer) (contents c.answer_all.new.writer) (contents c.flush_all.new.self) (frames_of progress.replies) progress.wrote c.flush_all.ensures.bytes)

pub returns-in_err-read-clause-memory : goal.returns-in_err-read-clause-memory
returns-in_err-read-clause-memory g c =
    let p = err_from_is_err_and c.from_residual.result c.from_residual.ensures.1 in
    rw (p.1, p.2) (λ is. each_gave g.R.Source.gives c.args.reader.now c.loop.reader c.read.new.reader c.loop.counter c.loop.invariant.1.pieces c.loop.invariant.1.gave (c.in_err-read.ensures.memory (read_too c.in_err-read.field-0.0 is)))

pub returns-in_err-answer_all-clause-memory : goal.returns-in_err-answer_all-clause-memory
returns-in_err-answer_all-clause-memory g c = λ is.
    let got = c.in_ok-read.ensures.piece in
    each_gave g.R.Source.gives c.args.reader.now c.loop.reader c.read.new.reader c.loop.counter c.loop.invariant.1.pieces c.loop.invariant.1.gave (got.piece, got.gave, got.some c.if-not-branch.false)
