-- Why no cluster was started, and the faults' place in the one list of faults.
use Rattle.std.specs.Prelude.{ℕ}
use Rattle.pg_term.specs.declared.faults.TheConstants.{NO_THREAD}
use Rattle.pg_cluster_judges.specs.PgWorldConfig.declared.fault.WorldFault.TheVariants.{OutOfMemory}
use Rattle.pg_cluster_judges.specs.PgWorldConfig.Faults.{world_number_of}
use Rattle.pg_cluster_judges.specs.PgWorldPackets.Openings.{CanBegin, CantBegin}
use Rattle.pg_cluster_judges.specs.PgStep.Config.{Config}
use Rattle.pg_cluster.specs.declared.fault.StartFault.{StartFault}
use Rattle.pg_cluster.specs.declared.fault.StartFault.TheVariants.{World, NoThread}

abbrev pub start_number_of : StartFault → ℕ
start_number_of (World fault) = world_number_of fault
start_number_of NoThread = NO_THREAD

-- No cluster of a configuration with such rings was started: a world of it can't begin, as this fault tells; or it can, and a thread
-- could not be started.
abbrev pub CantRun : ℕ → Config → StartFault → Type 0
CantRun ring given (World fault) = CantBegin ring given fault
CantRun ring given NoThread = CanBegin ring given

-- memory ran out, or a thread could not be started
abbrev pub IsShortage : StartFault → Type 0
IsShortage (World OutOfMemory) = Unit {0}
IsShortage (World fault) = ⊥
IsShortage NoThread = Unit {0}
