-- How the program ends.
use Rattle.std.specs.Prelude.{◌≡◌, ◌⊎◌, ℕ, List, Option, Result, Ok, Err, IfErr}
use Rattle.std.specs.Str.{chars}
use Rattle.pg_cluster.specs.PgNode.Replicas.Fault.{number_of}
use Rattle.pg_script.specs.declared.fault.RunFault.{RunFault}
use Rattle.pg_program.specs.declared.bytes.BytesFault.{BytesFault}
use Rattle.pg_program.specs.declared.bytes.BytesFault.TheVariants.{Names, Serve}
use Rattle.pg_program.specs.declared.fault.Fault.{Fault}
use Rattle.pg_program.specs.declared.fault.Fault.TheVariants.{Run, Given}
use Rattle.pg_program.specs.Bytes.{ServesAs}
use Rattle.pg_program.specs.Faults.{status_number, fault_line}
use Rattle.pg_program.specs.Told.{WritesOut}

-- how serving ends, for the program
abbrev pub end_of_bytes : Result (Unit {0}) BytesFault → Result (Unit {0}) Fault
end_of_bytes (Ok done) = Ok tt
end_of_bytes (Err (Names number)) = Err (Given number)
end_of_bytes (Err (Serve fault)) = Err (Run (number_of fault))

-- 0: done
abbrev pub end_status : Result (Unit {0}) Fault → ℕ
end_status (Ok done) = 0
end_status (Err fault) = status_number fault

-- the line of a fault was written: whole, or a prefix of it where a write failed
abbrev pub ToldEnd : {F : Type 0} → (F → F → Type 0) → (F → Option (List ℕ)) → F → F → Result (Unit {0}) Fault → Type 0
ToldEnd fails contents old new (Ok done) = new ≡ old
ToldEnd fails contents old new (Err fault) = (told : Result (Unit {0}) RunFault) × WritesOut fails (contents old) (contents new) new (fault_line fault) told

-- an input was served, a fault has its cause C, T is said of the line on standard error, and this is the status
pub record BytesEnd (own peer : List ℕ) (C : BytesFault → Type 0) (T : Result (Unit {0}) Fault → Type 0) (before after : Option (List ℕ)) (input : List ℕ) (status : ℕ) : Type 0 where
  pub result : Result (Unit {0}) BytesFault
  pub cause : IfErr result C
  pub serves : ServesAs (chars own) (chars peer) before after input result
  pub told : T (end_of_bytes result)
  pub is : status ≡ end_status (end_of_bytes result)

-- a run ends as E says, T is said of the line on standard error, and this is the status
pub record Ends (E T : Result (Unit {0}) Fault → Type 0) (status : ℕ) : Type 0 where
  pub end : Result (Unit {0}) Fault
  pub is : E end
  pub told : T end
  pub status_is : status ≡ end_status end

-- words are refused: status 2; or there was no memory to read them, and T is said of the line on standard error
abbrev pub WordsEnd : (Result (Unit {0}) Fault → Type 0) → ℕ → Type 0
WordsEnd T status = (status ≡ 2) ⊎ ((status ≡ 1) × T (Err (Run 10)))
