-- The faults' place in the one list of faults.
use Rattle.std.specs.Prelude.{ℕ}
use Rattle.pg_term.specs.declared.faults.TheConstants.{CLOCK_FULL, OUT_OF_MEMORY}
use Rattle.pg_refs.specs.declared.fault.RefFault.{RefFault}
use Rattle.pg_refs.specs.declared.fault.RefFault.TheVariants.{ClockFull, OutOfMemory}

-- the number of a fault
abbrev pub number_of : RefFault → ℕ
number_of ClockFull = CLOCK_FULL
number_of OutOfMemory = OUT_OF_MEMORY
