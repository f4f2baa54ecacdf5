use Rattle.std.proofs.Common.{ℕ, List, length}
use Rattle.pg_process.specs.Settled.{IsAtRest}
use Rattle.pg_process.specs.Situations.{setting_of, situation_of}
use Rattle.pg_process.specs.Stories.{IsServing, Story}
use Rattle.pg_process.proofs.serving.Serving.hear_all.Given as goal

-- what follows so far is written or gathered, and what is due is done
abbrev pub invariant-loop-self : goal.invariant-loop-self
invariant-loop-self g l = record {
  served : (story : Story g.row.W.Denot g.row.L.Denot) (input : List ℕ)
      → IsServing g.W.Sink.contents g.W.Sink.flushed g.L.Sink.contents g.L.Sink.flushed story input l.fn.self.deframer.unread l.fn.self.process l.fn.writer l.fn.log
      → IsServing g.W.Sink.contents g.W.Sink.flushed g.L.Sink.contents g.L.Sink.flushed story input l.self.deframer.unread l.self.process l.writer l.log;
  rest : IsAtRest (setting_of l.self.process) (situation_of l.self.process);
}

-- the bytes of which no body was taken
abbrev pub decreases-loop-self : goal.decreases-loop-self
decreases-loop-self g l = length l.self.deframer.unread
