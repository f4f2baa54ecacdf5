use Rattle.std.proofs.Common.{◌≡◌, drop}
use Rattle.std.specs.List.{list_all}
use Rattle.pg_world_packets.specs.Openings.{are_few}
use Rattle.pg_world_packets.proofs.begun.have_few.Given as goal

-- what is left of the list says what all of it says
abbrev pub invariant-loop-start : goal.invariant-loop-start
invariant-loop-start l = list_all (λ start. are_few start.groups) (drop l.start-index l.starts) ≡ list_all (λ start. are_few start.groups) l.starts
