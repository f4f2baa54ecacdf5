-- The numbers of the faults, and where they come from.
use Rattle.std.specs.Prelude.{ℕ}
use Rattle.pg_term.specs.declared.faults.TheConstants.{BAD_CONFIG, BAD_LINE, LATE_DECLARATION}
use Rattle.pg_term.specs.declared.faults.TheConstants.{OUT_OF_MEMORY, UNKNOWN_NODE, WRITE_FAULT}
use Rattle.pg_script_trace.specs.PgText.declared.fault.TextFault.{TextFault}
use Rattle.pg_script_trace.specs.PgText.declared.fault.TextFault.TheVariants as text
use Rattle.pg_script_trace.specs.PgWorldConfig.Faults.{world_number_of}
use Rattle.pg_script.specs.declared.fault.LineFault.{LineFault}
use Rattle.pg_script.specs.declared.fault.LineFault.TheVariants as line
use Rattle.pg_script.specs.declared.fault.RunFault.{RunFault}
use Rattle.pg_script.specs.declared.fault.RunFault.TheVariants as run

abbrev pub line_number_of : LineFault → ℕ
line_number_of line.OutOfMemory = OUT_OF_MEMORY
line_number_of line.BadConfig = BAD_CONFIG
line_number_of line.BadLine = BAD_LINE
line_number_of line.UnknownNode = UNKNOWN_NODE
line_number_of line.LateDeclaration = LATE_DECLARATION

abbrev pub run_number_of : RunFault → ℕ
run_number_of (run.World fault) = world_number_of fault
run_number_of run.OutOfMemory = OUT_OF_MEMORY
run_number_of run.WriteFault = WRITE_FAULT

-- what is wrong with a line of which this is wrong
abbrev pub line_fault_of : TextFault → LineFault
line_fault_of text.BadText = line.BadLine
line_fault_of text.OutOfMemory = line.OutOfMemory
