use Rattle.pg_multicall.proofs.Bits.{has_without, past_all}
use Rattle.pg_multicall.proofs.places.Places.without.Goals as goal

pub returns-then-place-ge-MAX_PLACES : goal.returns-then-place-ge-MAX_PLACES
returns-then-place-ge-MAX_PLACES c = λ other. past_all c.args.self.bits c.args.place other c.if-place-ge-MAX_PLACES.true

pub returns : goal.returns
returns c = has_without c.args.self.bits c.args.place c.if-place-ge-MAX_PLACES.false
