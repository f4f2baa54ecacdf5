use Rattle.pg_explore.specs.Moments.{sight_of}
use Rattle.pg_explore.proofs.Expanding.{NoneBelow}
use Rattle.pg_explore.proofs.explored.Explored.find.Given as goal

abbrev pub invariant-loop-spot : goal.invariant-loop-spot
invariant-loop-spot l = NoneBelow l.self.met.items (sight_of l.moment) l.number l.spot-items l.spot-index
