use Rattle.pg_explore.proofs.Sized.{place_low, place_next}
use Rattle.pg_explore.proofs.ways.peer_at.Goals as goal

pub returns-then-place-node-clause-place : goal.returns-then-place-node-clause-place
returns-then-place-node-clause-place c = place_low c.args.node c.args.place c.if-place-node.true

pub returns-else-place-node-clause-place : goal.returns-else-place-node-clause-place
returns-else-place-node-clause-place c = place_next c.args.node c.args.place c.if-place-node.false
