-- The faults' place in the one list of faults.
use Rattle.std.specs.Prelude.{ℕ}
use Rattle.pg_term.specs.declared.faults.TheConstants.{BAD_CAPACITY, OUT_OF_MEMORY}
use Rattle.pg_ring.specs.declared.fault.RingFault.{RingFault}
use Rattle.pg_ring.specs.declared.fault.RingFault.TheVariants.{BadCapacity, OutOfMemory}

-- the number of a fault
abbrev pub number_of : RingFault → ℕ
number_of BadCapacity = BAD_CAPACITY
number_of OutOfMemory = OUT_OF_MEMORY
