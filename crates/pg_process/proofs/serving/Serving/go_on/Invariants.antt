use Rattle.std.proofs.Common.{◌≡◌, ◌+◌, ℕ, List, length}
use Rattle.pg_node.specs.Replicas.Causes.{joined}
use Rattle.pg_process.specs.Serving.{HasRead}
use Rattle.pg_process.specs.Settled.{IsAtRest}
use Rattle.pg_process.specs.Situations.{setting_of, situation_of}
use Rattle.pg_process.specs.Stories.{HasServed, Story}
use Rattle.pg_process.proofs.serving.Serving.go_on.Given as goal

-- all that came so far was heard and passed on
abbrev pub invariant-loop : goal.invariant-loop
invariant-loop g l = record {
  served : (story : Story g.row.W.Denot g.row.L.Denot) (first : g.row.R.Denot) (pieces : List (List ℕ)) → HasRead g.R.Source.gives g.R.Source.remaining first pieces l.fn.reader
      → HasServed g.W.Sink.contents g.W.Sink.flushed g.L.Sink.contents g.L.Sink.flushed story (joined pieces) l.fn.self.deframer.unread l.fn.self.process l.fn.writer l.fn.log
      → (more : List (List ℕ)) × HasRead g.R.Source.gives g.R.Source.remaining first more l.reader
      × HasServed g.W.Sink.contents g.W.Sink.flushed g.L.Sink.contents g.L.Sink.flushed story (joined more) l.self.deframer.unread l.self.process l.writer l.log
      × (length more ≡ length pieces + l.counter);
  rest : IsAtRest (setting_of l.self.process) (situation_of l.self.process);
}
