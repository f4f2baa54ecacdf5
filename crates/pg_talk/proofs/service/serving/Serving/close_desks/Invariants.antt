use Rattle.std.proofs.Common.{◌≡◌}
use Rattle.pg_talk.specs.Outlets.{StaysPassedOn}
use Rattle.pg_talk.specs.Servings.{ServingGoes}
use Rattle.pg_talk.proofs.service.serving.Serving.close_desks.Given as goal

-- so much was written until then
abbrev pub invariant-loop : goal.invariant-loop
invariant-loop g l = ServingGoes l.fn.self l.self (g.W.Sink.contents l.fn.writer) (g.W.Sink.contents l.writer) × (l.self.end ≡ l.fn.self.end)
    × StaysPassedOn g.W.Sink.flushed l.fn.self.outlet l.self.outlet l.fn.writer l.writer
