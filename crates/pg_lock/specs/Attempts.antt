-- The rounds in which the lock of a name is asked for at all nodes.
use Rattle.std.specs.Prelude.{Bool, true, false, Option, Some, None}
use Rattle.pg_lock.specs.declared.attempt.Attempt.{Attempt}
use Rattle.pg_lock.specs.declared.attempt.Attempt.TheVariants.{Waiting, AskingFirst, AskingRest, Held}

-- the greatest node is asked first
abbrev pub first_attempt : Attempt
first_attempt = AskingFirst

-- what follows a round in which all have answered; the second argument tells whether each of them has granted
abbrev pub after_round : Attempt → Bool → Attempt
-- the rest are asked
after_round AskingFirst true = AskingRest
-- every node has granted
after_round AskingRest true = Held
-- one has denied
after_round AskingFirst false = Waiting
after_round AskingRest false = Waiting
-- nobody is asked
after_round Waiting granted = Waiting
after_round Held granted = Held

abbrev pub does_wait : Attempt → Bool
does_wait Waiting = true
does_wait _ = false

-- only a command that waits is tried again
abbrev pub retry_of : Attempt → Option Attempt
retry_of Waiting = Some first_attempt
retry_of _ = None
