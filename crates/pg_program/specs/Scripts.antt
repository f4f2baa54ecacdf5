-- How a run of a script ends.
use Rattle.std.specs.Prelude.{◌≡◌, ◌≢◌, ◌⊎◌, ℕ, List, Result, Ok, Err}
use Rattle.pg_script.specs.Faults.{line_number_of}
use Rattle.pg_script.specs.Runs.{CanRun}
use Rattle.pg_script.specs.Scripts.{Contents}
use Rattle.pg_script.specs.declared.fault.LineFault.{LineFault}
use Rattle.pg_script.specs.declared.fault.LineFault.TheVariants as lines
use Rattle.pg_script.specs.declared.fault.RunFault.{RunFault}
use Rattle.pg_script.specs.declared.fault.RunFault.TheVariants as run
use Rattle.pg_script.specs.declared.fault.ScriptFault.{ScriptFault}
use Rattle.pg_cluster.specs.PgWorldConfig.Faults.{world_number_of}
use Rattle.pg_cluster.specs.PgWorldPackets.Openings.{CantBegin}
use Rattle.pg_cluster.specs.PgWorldConfig.declared.fault.WorldFault.{WorldFault}
use Rattle.pg_cluster.specs.PgWorldConfig.declared.fault.WorldFault.TheVariants.{OutOfMemory}
use Rattle.pg_program.specs.declared.fault.Fault.{Fault}
use Rattle.pg_program.specs.declared.fault.Fault.TheVariants.{Run, Given, Line}
use Rattle.pg_program.specs.Inputs.{NotRead, IsReadAs}

-- the configuration of a script is refused, by this number
pub record IsRefused (contents : Contents) (number : ℕ) : Type 0 where
  pub fault : WorldFault
  pub cause : CantBegin contents.ring contents.starts fault
  pub other : fault ≢ OutOfMemory
  pub is : number ≡ world_number_of fault

-- there was no memory, or a write failed
abbrev pub NotWritten : Type 0 → ℕ → Type 0
NotWritten unwritten number = (number ≡ 10) ⊎ ((number ≡ 32) × unwritten)

-- How a script that was read ends: its configuration is one, it was run, and what it printed was flushed; or its configuration is
-- refused, and nothing was written; or there was no memory, or a write failed.
abbrev pub ScriptEnds : Contents → Type 0 → Type 0 → Type 0 → Result (Unit {0}) Fault → Type 0
ScriptEnds contents unchanged unwritten flushed (Ok done) = CanRun contents.ring contents.starts × flushed
ScriptEnds contents unchanged unwritten flushed (Err (Run number)) = NotWritten unwritten number
ScriptEnds contents unchanged unwritten flushed (Err (Given number)) = IsRefused contents number × unchanged
ScriptEnds contents unchanged unwritten flushed (Err (Line line number)) = ⊥

-- what is told of a run that ended early
abbrev pub run_fault_of : RunFault → Fault
run_fault_of (run.World OutOfMemory) = Run 10
run_fault_of (run.World fault) = Given (world_number_of fault)
run_fault_of run.OutOfMemory = Run 10
run_fault_of run.WriteFault = Run 32

-- what is told of a line
abbrev pub line_told : ℕ → LineFault → Fault
line_told line lines.OutOfMemory = Run 10
line_told line fault = Line line (line_number_of fault)

-- what is told of a text that is no script
abbrev pub script_fault_of : ScriptFault → Fault
script_fault_of fault = line_told fault.line fault.fault

-- a diagram was not drawn
abbrev pub NotDrawn : Type 0 → Fault → Type 0
NotDrawn unmade (Run number) = NotWritten unmade number
NotDrawn unmade other = ⊥

-- there was no memory to read the input, or a read failed
abbrev pub EndsUnread : Type 0 → Result (Unit {0}) Fault → Type 0
EndsUnread unread (Err (Run number)) = NotRead unread number
EndsUnread unread other = ⊥

-- the input is no script, and this is why
abbrev pub IsNoScript : (List ℕ → Type 0) → Result (Unit {0}) Fault → Type 0
IsNoScript is_input (Ok done) = ⊥
IsNoScript is_input (Err fault) = IsReadAs is_input (Err fault)

-- How `script` ends: the input was not read, or it is no script, and nothing was written; or it says a script, which ends so.
abbrev pub ScriptEnd : (List ℕ → Type 0) → Type 0 → Type 0 → Type 0 → Type 0 → Result (Unit {0}) Fault → Type 0
ScriptEnd is_input unread unchanged unwritten flushed end =
    (EndsUnread unread end × unchanged) ⊎ (IsNoScript is_input end × unchanged)
    ⊎ ((contents : Contents) × IsReadAs is_input (Ok contents) × ScriptEnds contents unchanged unwritten flushed end)
