-- The numbers of faults and refusals in the one list of faults, and which of several is told.
use Rattle.std.specs.Prelude.{ℕ, Bool, cond, List, [], ◌∷◌, Option, Some, None}
use Rattle.pg_term.specs.declared.faults.TheConstants.{ALREADY_ENDED, BUSY, CLOCK_FULL, FOREIGN_PID, NAME_TOO_LARGE}
use Rattle.pg_term.specs.declared.faults.TheConstants.{NODE_LOST, NOT_A_MESSAGE, NOT_DRAINED, NOT_FORMED, NOT_LOST}
use Rattle.pg_term.specs.declared.faults.TheConstants.{NOT_MADE, NOT_WAITING, NO_SUCH_PLACE, PROCESS_LIMIT}
use Rattle.pg_step.specs.declared.command_fault.CommandFault.{CommandFault}
use Rattle.pg_step.specs.declared.command_fault.CommandFault.TheVariants as fault
use Rattle.pg_step.specs.declared.refusal.Refusal.{Refusal}
use Rattle.pg_step.specs.declared.refusal.Refusal.TheVariants as refusal

-- the number of the fault that a command is answered by
abbrev pub command_number_of : CommandFault → ℕ
command_number_of fault.Busy = BUSY
command_number_of fault.NameTooLarge = NAME_TOO_LARGE
command_number_of fault.ForeignPid = FOREIGN_PID
command_number_of fault.NotFormed = NOT_FORMED
command_number_of fault.NotMade = NOT_MADE
command_number_of fault.AlreadyEnded = ALREADY_ENDED
command_number_of fault.ProcessLimit = PROCESS_LIMIT

-- the number of the reason why an event does not happen
abbrev pub refusal_number_of : Refusal → ℕ
refusal_number_of refusal.NotAMessage = NOT_A_MESSAGE
refusal_number_of refusal.NoSuchPlace = NO_SUCH_PLACE
refusal_number_of refusal.NotWaiting = NOT_WAITING
refusal_number_of refusal.NodeLost = NODE_LOST
refusal_number_of refusal.NotDrained = NOT_DRAINED
refusal_number_of refusal.ClockFull = CLOCK_FULL
refusal_number_of refusal.NotLost = NOT_LOST

-- what stands beside the first test that holds
abbrev pub first_that_holds : {A : Type 0} → List (Bool × A) → Option A
first_that_holds [] = None
first_that_holds (test ∷ tests) = cond test.0 (Some test.1) (first_that_holds tests)
