use Rattle.std.proofs.Common.{◌≡◌}
use Rattle.pg_cluster.specs.PgRing.Slots.{SameSlotOut, given}
use Rattle.pg_talk.proofs.service.reading.Reading.give.Given as goal

-- nothing was given so far
abbrev pub invariant-loop : goal.invariant-loop
invariant-loop g l = (l.self ≡ record l.fn.self { out = l.self.out }) × SameSlotOut l.fn.self.out l.self.out × (given l.self.out ≡ given l.fn.self.out) × (l.kept ≡ l.fn.input)
