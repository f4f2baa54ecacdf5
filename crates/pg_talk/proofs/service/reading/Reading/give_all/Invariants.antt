use Rattle.pg_talk.specs.ReadingThread.{GoesOn}
use Rattle.pg_talk.proofs.service.reading.Reading.give_all.Given as goal

-- frames were taken out until then
abbrev pub invariant-loop : goal.invariant-loop
invariant-loop g l = GoesOn g.S.Source.remaining g.S.Source.fails l.fn.self l.self
