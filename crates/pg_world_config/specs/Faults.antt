-- The faults of a world that can't begin: their place in the one list of faults.
use Rattle.std.specs.Prelude.{ℕ}
use Rattle.pg_term.specs.declared.faults.TheConstants.{BAD_CAPACITY, BAD_CONFIG, NAME_TOO_LARGE, OUT_OF_MEMORY, TOO_LONG}
use Rattle.pg_world_config.specs.declared.fault.WorldFault.{WorldFault}
use Rattle.pg_world_config.specs.declared.fault.WorldFault.TheVariants.{BadConfig, NameTooLarge}
use Rattle.pg_world_config.specs.declared.fault.WorldFault.TheVariants.{BadCapacity, TooLong, OutOfMemory}

-- the number of a fault
abbrev pub world_number_of : WorldFault → ℕ
world_number_of OutOfMemory = OUT_OF_MEMORY
world_number_of TooLong = TOO_LONG
world_number_of BadConfig = BAD_CONFIG
world_number_of BadCapacity = BAD_CAPACITY
world_number_of NameTooLarge = NAME_TOO_LARGE
