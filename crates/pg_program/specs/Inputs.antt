-- The input of a script: how it is read, and what it says.
use Rattle.std.specs.Prelude.{◌≡◌, ◌⊎◌, ◌<◌, ◌≤◌, ℕ, List, [], length, nat_lt, Option, Result, Ok, Err, if◌then◌else◌}
use Rattle.std.specs.Io.KnownBytes.{Consumes, IsAtEnd}
use Rattle.std.specs.Str.{is_utf8}
use Rattle.pg_cluster.specs.PgNode.Replicas.Causes.{GaveChunks, joined}
use Rattle.pg_script.specs.Faults.{line_number_of}
use Rattle.pg_script.specs.Scripts.{Contents, contents_of, script_of}
use Rattle.pg_script.specs.declared.fault.ScriptFault.{ScriptFault}
use Rattle.pg_script.specs.declared.script.Script.{Script}
use Rattle.pg_program.specs.declared.fault.Fault.{Fault}
use Rattle.pg_program.specs.declared.fault.Fault.TheVariants.{Run, Given, Line}
use Rattle.pg_program.specs.Limits.{max_script_len}

-- ---- reading

-- reads gave these bytes, each of them some
pub record GaveBytes {R : Type 0} (gives : R → List ℕ → R → Type 0) (old new : R) (bytes : List ℕ) : Type 0 where
  pub pieces : List (List ℕ)
  pub gave : GaveChunks gives old pieces new
  pub are : joined pieces ≡ bytes

-- the last read found the end; or there are more bytes than a script may have
abbrev pub IsOver : {R : Type 0} → (R → Option (List ℕ)) → (R → List ℕ → R → Type 0) → R → R → List ℕ → Type 0
IsOver remaining gives before new input = (gives before [] new × IsAtEnd (remaining new)) ⊎ ((new ≡ before) × (max_script_len < length input))

-- these are the bytes of the input: all that the source has, or the first of more than a script may have
pub record IsInput {R : Type 0} (remaining : R → Option (List ℕ)) (gives : R → List ℕ → R → Type 0) (old new : R) (input : List ℕ) : Type 0 where
  pub before : R
  pub gave : GaveBytes gives old before input
  pub over : IsOver remaining gives before new input
  pub consumed : Consumes (remaining old) (remaining new) input

-- after reads that gave no more bytes than a script may have a read failed
pub record IsUnread {R : Type 0} (gives : R → List ℕ → R → Type 0) (fails : R → R → Type 0) (old new : R) : Type 0 where
  pub before : R
  pub bytes : List ℕ
  pub gave : GaveBytes gives old before bytes
  pub few : length bytes ≤ max_script_len
  pub failed : fails before new

-- there was no memory, or a read failed
abbrev pub NotRead : Type 0 → ℕ → Type 0
NotRead unread number = (number ≡ 10) ⊎ ((number ≡ 31) × unread)

-- why an input is not read: there are too many bytes, or it was not read
abbrev pub NoInput : (List ℕ → Type 0) → Type 0 → Fault → Type 0
NoInput is_input unread (Run number) = NotRead unread number
NoInput is_input unread (Given number) = (number ≡ 11) × ((bytes : List ℕ) × is_input bytes × (max_script_len < length bytes))
NoInput is_input unread (Line line number) = ⊥

-- ---- what it says

abbrev pub Said : Type 0
Said = Result Contents Fault

-- the first faulty line is told
abbrev pub told_fault : Result Contents ScriptFault → Said
told_fault (Ok contents) = Ok contents
told_fault (Err fault) = Err (Line fault.line (line_number_of fault.fault))

-- what bytes say: they are no text, or a text that is a script or none
abbrev pub bytes_said : List ℕ → Said
bytes_said bytes = if is_utf8 bytes then told_fault (script_of bytes) else Err (Given 40)

-- what an input says: it is too long, or its bytes say it
abbrev pub input_said : List ℕ → Said
input_said input = if nat_lt max_script_len (length input) then Err (Given 11) else bytes_said input

-- this is said of some input
abbrev pub IsReadAs : (List ℕ → Type 0) → Said → Type 0
IsReadAs is_input said = (input : List ℕ) × is_input input × (input_said input ≡ said)

-- the script that an input is, or why it is none
abbrev pub ScriptRead : (List ℕ → Type 0) → Type 0 → Result Script Fault → Type 0
ScriptRead is_input unread (Ok script) = IsReadAs is_input (Ok (contents_of script))
ScriptRead is_input unread (Err (Run number)) = NotRead unread number
ScriptRead is_input unread (Err fault) = IsReadAs is_input (Err fault)
