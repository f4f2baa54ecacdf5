use Rattle.std.proofs.Common.{◌≡◌, drop}
use Rattle.std.specs.List.{list_all}
use Rattle.std.specs.Prelude.{nat_le, length}
use Rattle.pg_world_packets.proofs.begun.are_few.Given as goal

-- what is left of the list says what all of it says
abbrev pub invariant-loop-group : goal.invariant-loop-group
invariant-loop-group l = list_all (λ group. nat_le (length group.1) 4294967296) (drop l.group-index l.groups) ≡ list_all (λ group. nat_le (length group.1) 4294967296) l.groups
