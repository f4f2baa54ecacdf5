-- The faults of messages: their place in the one list of faults, and what a call that can refuse answers.
use Rattle.std.specs.Prelude.{◌≡◌, ℕ, Result, Ok, Err}
use Rattle.pg_term.specs.declared.faults.TheConstants.{NAME_TOO_LARGE, NOT_A_MESSAGE, STAMP_TOO_LARGE}
use Rattle.pg_term.specs.declared.fault.TermFault.TheVariants.{OutOfMemory}
use Rattle.pg_term.specs.Fault as term
use Rattle.pg_message_types.specs.declared.fault.MessageFault.{MessageFault}
use Rattle.pg_message_types.specs.declared.fault.MessageFault.TheVariants.{Term, NotAMessage, StampTooLarge, NameTooLarge}

-- the number of a fault
abbrev pub message_number_of : MessageFault → ℕ
message_number_of (Term fault) = term.number_of fault
message_number_of NotAMessage = NOT_A_MESSAGE
message_number_of StampTooLarge = STAMP_TOO_LARGE
message_number_of NameTooLarge = NAME_TOO_LARGE

-- memory ran out
abbrev pub out_of_memory : MessageFault
out_of_memory = Term OutOfMemory

-- a fault is what is told, or memory ran out
abbrev pub Fails : {Y : Type 0} → MessageFault → Result Y MessageFault → Type 0
Fails (Term OutOfMemory) told = Unit {0}
Fails fault told = told ≡ Err fault

-- an answer, seen by view, is what is told, or memory ran out
abbrev pub Gives : {X Y : Type 0} → (X → Y) → Result X MessageFault → Result Y MessageFault → Type 0
Gives view (Ok x) told = told ≡ Ok (view x)
Gives view (Err fault) told = Fails fault told
