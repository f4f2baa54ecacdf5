use Rattle.pg_multicall.proofs.Bits.{has_with}
use Rattle.pg_multicall.proofs.places.Places.with.Goals as goal

pub returns : goal.returns
returns c = has_with c.args.self.bits c.args.place c.requires
