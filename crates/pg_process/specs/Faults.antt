-- The numbers of faults by which a process ends, or can't begin.
use Rattle.std.specs.Prelude.{ℕ}
use Rattle.pg_term.specs.declared.faults.TheConstants.{BAD_CONFIG, CLOCK_FULL, OUT_OF_MEMORY, READ_FAULT, TOO_LONG, TRUNCATED, WRITE_FAULT}
use Rattle.pg_step.specs.PgMessageTypes.Fault.{message_number_of}
use Rattle.pg_node_process.specs.Groups.{groups_number_of}
use Rattle.pg_process.specs.declared.fault.BeginFault.{BeginFault}
use Rattle.pg_process.specs.declared.fault.BeginFault.TheVariants as begin
use Rattle.pg_process.specs.declared.fault.EndFault.{EndFault}
use Rattle.pg_process.specs.declared.fault.EndFault.TheVariants as ends
use Rattle.pg_process.specs.declared.fault.ProcessFault.{ProcessFault}
use Rattle.pg_process.specs.declared.fault.ProcessFault.TheVariants.{ClockFull, OutOfMemory}

abbrev pub process_number_of : ProcessFault → ℕ
process_number_of ClockFull = CLOCK_FULL
process_number_of OutOfMemory = OUT_OF_MEMORY

abbrev pub begin_number_of : BeginFault → ℕ
begin_number_of begin.BadConfig = BAD_CONFIG
begin_number_of (begin.Groups fault) = groups_number_of fault
begin_number_of (begin.Message fault) = message_number_of fault
begin_number_of begin.OutOfMemory = OUT_OF_MEMORY

abbrev pub end_number_of : EndFault → ℕ
end_number_of (ends.Begin fault) = begin_number_of fault
end_number_of ends.NoGroups = BAD_CONFIG
end_number_of (ends.Work fault) = process_number_of fault
end_number_of ends.TooLong = TOO_LONG
end_number_of ends.Truncated = TRUNCATED
end_number_of ends.ReadFault = READ_FAULT
end_number_of (ends.Pass fault) = WRITE_FAULT
