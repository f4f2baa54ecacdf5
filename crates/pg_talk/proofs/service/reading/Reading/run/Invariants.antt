use Rattle.std.proofs.Common.{◌≡◌, length}
use Rattle.pg_talk.specs.ReadingThread.{GoesOn}
use Rattle.pg_talk.proofs.service.reading.Reading.run.Given as goal

-- it was read until then
abbrev pub invariant-loop : goal.invariant-loop
invariant-loop g l = GoesOn g.S.Source.remaining g.S.Source.fails l.fn.self l.self × (length l.piece ≡ 65536)
