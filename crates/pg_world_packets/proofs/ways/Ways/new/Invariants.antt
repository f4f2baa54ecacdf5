use Rattle.std.proofs.Common.{◌≡◌, [], map, replicate}
use Rattle.pg_world_packets.specs.Views.{packets_of}
use Rattle.pg_world_packets.proofs.ways.Ways.new.Given as goal

abbrev pub invariant-loop : goal.invariant-loop
invariant-loop l = map packets_of l.ways.items ≡ replicate l.counter []
