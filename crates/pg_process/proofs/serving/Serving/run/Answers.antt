use Rattle.std.proofs.Common.{ℕ, List, inl, refl, subst, ◌∷◌}
use Rattle.pg_node.specs.Replicas.Causes.{joined}
use Rattle.pg_process.specs.Serving.{Stops}
use Rattle.pg_process.specs.Stories.{HasServed}
use Rattle.pg_process.proofs.Ended.{broken_ends}
use Rattle.pg_process.proofs.serving.Serving.run.Goals as goal

pub returns : goal.returns
returns g c = λ story first came new.
    c.go_on.ensures story first (came.piece ∷ came.earlier) came.read
    (subst (λ (input : List ℕ). HasServed g.W.Sink.contents g.W.Sink.flushed g.L.Sink.contents g.L.Sink.flushed story input c.start.new.self.deframer.unread c.start.new.self.process c.start.new.writer c.start.new.log) came.all
    (c.in-Ok.ensures.served story c.args.self.now.deframer.unread new))

pub returns-in-Err : goal.returns-in-Err
returns-in-Err g c = λ story first came new.
    broken_ends g.W.Sink.contents g.W.Sink.flushed g.W.Sink.fails g.L.Sink.contents g.L.Sink.flushed g.L.Sink.fails g.R.Source.gives g.R.Source.remaining g.R.Source.fails story first c.args.reader.now came.piece (joined came.earlier) came.earlier
    c.args.writer.now c.start.new.writer c.args.log.now c.start.new.log c.in-Err.fault came.read (inl (record { all = refl; none = came.none; alone = new.alone }))
    (subst (λ (input : List ℕ). Stops g.W.Sink.contents g.W.Sink.flushed g.W.Sink.fails g.L.Sink.contents g.L.Sink.flushed g.L.Sink.fails story.config c.in-Err.fault input story.out c.start.new.writer story.log c.start.new.log) came.all
    (c.in-Err.ensures.fault story c.args.self.now.deframer.unread new))
