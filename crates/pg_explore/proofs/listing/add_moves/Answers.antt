use Rattle.pg_explore.specs.Moments.{sight_of}
use Rattle.pg_explore.proofs.Listed.{kinds}
use Rattle.pg_explore.proofs.listing.add_moves.Goals as goal

pub returns : goal.returns
returns c = kinds c.args.plans.now c.args.limits.retries (sight_of c.args.moment.now) c.args.node _ _ _ _ c.in_ok-add_peers.ensures c.in_ok-add_planned.ensures c.in_ok-add_retries.ensures
