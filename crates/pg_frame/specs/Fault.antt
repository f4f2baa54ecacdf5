-- The faults' place in the one list of faults.
use Rattle.std.specs.Prelude.{ℕ}
use Rattle.pg_term.specs.declared.faults.TheConstants.{OUT_OF_MEMORY, TOO_LONG}
use Rattle.pg_frame.specs.declared.fault.FrameFault.{FrameFault}
use Rattle.pg_frame.specs.declared.fault.FrameFault.TheVariants.{OutOfMemory, TooLong}

-- the number of a fault
abbrev pub number_of : FrameFault → ℕ
number_of OutOfMemory = OUT_OF_MEMORY
number_of TooLong = TOO_LONG
