-- The numbers of the faults of making and ending.
use Rattle.std.specs.Prelude.{ℕ}
use Rattle.pg_term.specs.declared.faults.TheConstants.{ALREADY_ENDED, FOREIGN_PID, NOT_MADE, OUT_OF_MEMORY, PROCESS_LIMIT}
use Rattle.pg_ends.specs.declared.fault.EndFault.{EndFault}
use Rattle.pg_ends.specs.declared.fault.EndFault.TheVariants.{ForeignPid, NotMade, AlreadyEnded}
use Rattle.pg_ends.specs.declared.fault.EndFault.TheVariants.{ProcessLimit, OutOfMemory}

abbrev pub end_number_of : EndFault → ℕ
end_number_of OutOfMemory = OUT_OF_MEMORY
end_number_of ForeignPid = FOREIGN_PID
end_number_of NotMade = NOT_MADE
end_number_of AlreadyEnded = ALREADY_ENDED
end_number_of ProcessLimit = PROCESS_LIMIT
