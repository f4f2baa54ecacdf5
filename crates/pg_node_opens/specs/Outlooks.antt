-- What follows once answers to a request for the lock are in (`go_on` and `locks_in` of the step).
use Rattle.std.specs.Prelude.{ℕ, Bool, true, false, not, cond, get_or, List}
use Rattle.pg_step.specs.PgGroup.declared.update.Update.{Update}
use Rattle.pg_step.specs.PgLock.Attempts.{after_round, does_wait}
use Rattle.pg_step.specs.PgLock.declared.attempt.Attempt.{Attempt}
use Rattle.pg_step.specs.PgLock.declared.attempt.Attempt.TheVariants.{AskingFirst, AskingRest}
use Rattle.pg_step.specs.declared.command.OpId.{OpId}
use Rattle.pg_step.specs.Nodes.{Node, Nodes}
use Rattle.pg_step.specs.State.{State, Status, Use}
use Rattle.pg_step.specs.State.Use.{Locking}
use Rattle.pg_step.specs.Turns.{NodeTurn, becomes, and_then}
use Rattle.pg_step.specs.Attempts.{none_missing, none_denied, all_granted, round_of}
use Rattle.pg_step.specs.Attempts.{with_asked, ask, give_up, begin, replies_in}
use Rattle.pg_node_opens.specs.declared.mark.Mark.{Mark}
use Rattle.pg_node_opens.specs.declared.mark.Mark.TheVariants as mark
use Rattle.pg_node_opens.specs.declared.mark.Asked.TheVariants.{Nobody, All}
use Rattle.pg_node_opens.specs.declared.mark.Wanted.TheVariants.{Answered, NotDenied, Granted}
use Rattle.pg_node_opens.specs.Marks.{has_yes, all_marks}
use Rattle.pg_node_opens.specs.declared.command.Phase.{Phase}
use Rattle.pg_node_opens.specs.declared.command.Phase.TheVariants as phase
use Rattle.pg_node_opens.specs.declared.outlook.Outlook.{Outlook}
use Rattle.pg_node_opens.specs.declared.outlook.Outlook.TheVariants.{Wait, GiveUp, Ask, Begin}

abbrev pub outlook_by : (answered goes_on granted no_miss : Bool) → Outlook
outlook_by false goes_on granted no_miss = Wait
outlook_by true false granted no_miss = GiveUp
outlook_by true true true no_miss = Begin
outlook_by true true false true = GiveUp
outlook_by true true false false = Ask

-- By the tests of the step, of the answers as they are and once the rest was asked, where the own node would answer so. The
-- second test is that none has denied: in both rounds a command waits exactly where one has.
abbrev pub outlook_of : Nodes → Bool → Use → Outlook
outlook_of m granted (Locking op update first st) = outlook_by (none_missing m st) (not (does_wait (after_round (round_of first st) (none_denied m st))))
    (all_granted m (with_asked m (λ q. true) st granted)) (none_missing m (with_asked m (λ q. true) st granted))
outlook_of m granted used = Wait

-- the round of a request with these marks, by the place of the node that was asked first
abbrev pub round_in : List Mark → ℕ → Attempt
round_in marks first = cond (has_yes (get_or marks first mark.Unasked)) AskingRest AskingFirst

-- the same of one command
abbrev pub outlook_in : Phase → List Mark → List Bool → Bool → Outlook
outlook_in phase.Waiting marks lost granted = Wait
outlook_in (phase.Asking lock first) marks lost granted = outlook_by (all_marks marks lost Answered Nobody granted)
    (not (does_wait (after_round (round_in marks first) (all_marks marks lost NotDenied Nobody granted))))
    (all_marks marks lost Granted All granted) (all_marks marks lost Answered All granted)
outlook_in (phase.Changing lock number) marks lost granted = Wait

-- The turn that follows, by the outlook. Where the rest is asked, the own node answers as it would; where the update begins
-- and there is no peer, all replies are in at once.
abbrev pub turn_by : Outlook → Nodes → ℕ → OpId → Update → Node → (Node → Status) → State → NodeTurn
turn_by Wait m c op update first st s = becomes s
turn_by GiveUp m c op update first st s = give_up m c op update st s
turn_by Ask m c op update first st s = ask m (λ q. true) c op update first st s
turn_by Begin m c op update first st s = and_then (ask m (λ q. true) c op update first st s)
    (λ t. and_then (begin m c op update t) (λ r. replies_in m r.references (r.uses r.references) r))
