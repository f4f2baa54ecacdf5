-- What the program ends with, and prints, for a fault.
use Rattle.std.specs.Prelude.{ℕ, List}
use Rattle.pg_program.specs.Told.{refused_line, line_refused}
use Rattle.pg_program.specs.declared.fault.Fault.{Fault}
use Rattle.pg_program.specs.declared.fault.Fault.TheVariants.{Run, Given, Line}

-- 1: the run was refused; 2: what was given was refused
abbrev pub status_number : Fault → ℕ
status_number (Run number) = 1
status_number (Given number) = 2
status_number (Line line number) = 2

-- `refused N` or `line L refused N`
abbrev pub fault_line : Fault → List ℕ
fault_line (Run number) = refused_line number
fault_line (Given number) = refused_line number
fault_line (Line line number) = line_refused line number
