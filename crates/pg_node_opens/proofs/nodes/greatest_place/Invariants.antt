use Rattle.std.proofs.Common.{◌≡◌, ◌<◌, length, get_or, false}
use Rattle.pg_step.specs.Nodes.{greatest}
use Rattle.pg_node_opens.specs.Places.{name_at, live_in}
use Rattle.pg_node_opens.proofs.Greatest.{greatest_from}
use Rattle.pg_node_opens.proofs.nodes.greatest_place.Given as goal

abbrev pub invariant-loop-place : goal.invariant-loop-place
invariant-loop-place l = record {
  within : l.best < length l.names;
  counts : get_or l.lost l.best false ≡ false;
  so_far : greatest_from l.names l.lost (name_at l.names l.best) l.place ≡ greatest (live_in l.names l.lost);
}
