-- Why an exploration ends early.
use Rattle.std.specs.Prelude.{ℕ, List}
use Rattle.pg_world_packets.specs.PgWorldConfig.declared.config.Config.{Config}
use Rattle.pg_world_packets.specs.PgWorldConfig.Faults.{world_number_of}
use Rattle.pg_world_packets.specs.Openings.{CantBegin}
use Rattle.pg_explore.specs.declared.fault.ExploreFault.{ExploreFault}
use Rattle.pg_explore.specs.declared.fault.ExploreFault.TheVariants.{World, OutOfMemory}

-- the number of a fault in the one list of faults
abbrev pub explore_number_of : ExploreFault → ℕ
explore_number_of (World fault) = world_number_of fault
explore_number_of OutOfMemory = 10

-- no world of a configuration can begin, or memory ran out
abbrev pub CantExplore : Config → ExploreFault → Type 0
CantExplore config (World fault) = CantBegin config.ring config.starts.items fault
CantExplore config OutOfMemory = Unit {0}
