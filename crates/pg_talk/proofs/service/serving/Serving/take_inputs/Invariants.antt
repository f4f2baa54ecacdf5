use Rattle.pg_cluster.specs.PgRing.Slots.{SameSlotIn, taken}
use Rattle.pg_talk.specs.Outlets.{StaysPassedOn}
use Rattle.pg_talk.specs.Servings.{Advances}
use Rattle.pg_talk.proofs.service.serving.Serving.take_inputs.Given as goal

-- what came until then was served
abbrev pub invariant-loop-count : goal.invariant-loop-count
invariant-loop-count g l =
    SameSlotIn l.fn.inlet l.inlet × Advances l.fn.self l.self (taken l.fn.inlet) (taken l.inlet) (g.W.Sink.contents l.fn.writer) (g.W.Sink.contents l.writer)
    × StaysPassedOn g.W.Sink.flushed l.fn.self.outlet l.self.outlet l.fn.writer l.writer
