-- What has come of the nodes that a command asks, by their places.
use Rattle.std.specs.Prelude.{ℕ, zero, suc, Bool, true, false, not, ◌&&◌, ◌||◌, ◌==◌, cond, nat_eq}
use Rattle.std.specs.Prelude.{get_or, length, List, Option, Some, None}
use Rattle.pg_step.specs.PgMulticall.Gathered.{what_of}
use Rattle.pg_step.specs.PgMulticall.declared.gather.Taken.{Taken}
use Rattle.pg_step.specs.PgMulticall.declared.gather.Taken.TheVariants.{Counted, Stranger, Double}
use Rattle.pg_step.specs.State.{Status}
use Rattle.pg_step.specs.State.Status.{Unasked, Asked, Yes, No}
use Rattle.pg_step.specs.Attempts.{is_yes, is_unasked, is_asked, is_no, lock_entry}
use Rattle.pg_node_opens.specs.declared.mark.Mark.{Mark}
use Rattle.pg_node_opens.specs.declared.mark.Mark.TheVariants as mark
use Rattle.pg_node_opens.specs.declared.mark.Asked.{Asked as Whom}
use Rattle.pg_node_opens.specs.declared.mark.Asked.TheVariants.{Nobody, One, All}
use Rattle.pg_node_opens.specs.declared.mark.Wanted.{Wanted}
use Rattle.pg_node_opens.specs.declared.mark.Wanted.TheVariants.{Answered, NotDenied, Granted}

-- of a request for the lock
abbrev pub status_of : Mark → Status
status_of mark.Unasked = Unasked
status_of mark.Asked = Asked
status_of mark.Yes = Yes
status_of mark.No = No

-- of an update: whether the node has applied it
abbrev pub has_yes : Mark → Bool
has_yes mark = is_yes (status_of mark)

abbrev pub verdict_mark : Bool → Mark
verdict_mark true = mark.Yes
verdict_mark false = mark.No

-- by what is gathered of a node: whether it was asked, has replied, and has granted
abbrev pub mark_of : Option (Option Bool) → Mark
mark_of None = mark.Unasked
mark_of (Some None) = mark.Asked
mark_of (Some (Some granted)) = verdict_mark granted

-- a node is asked, where that is wanted and it was not: the own one answers at once
abbrev pub asked_mark : Mark → (wanted is_own granted : Bool) → Mark
asked_mark mark.Unasked true true granted = verdict_mark granted
asked_mark mark.Unasked true false granted = mark.Asked
asked_mark mark wanted is_own granted = mark

abbrev pub passes : Wanted → Status → Bool
passes Answered st = not (is_asked st)
passes NotDenied st = not (is_no st)
passes Granted st = is_yes st

-- who is asked
abbrev pub is_wanted : Whom → ℕ → Bool
is_wanted Nobody place = false
is_wanted (One only) place = only == place
is_wanted All place = true

-- the mark at a place once these were asked, of those that count
abbrev pub mark_at : Mark → (lost : Bool) → Whom → ℕ → Bool → Mark
mark_at mark lost who place granted = asked_mark mark (not lost && is_wanted who place) (place == 0) granted

-- whether the node at a place is asked, where these are: it counts and was not asked
abbrev pub asked_in : Mark → (lost : Bool) → Whom → ℕ → Bool
asked_in mark lost who place = not lost && (is_wanted who place && is_unasked (status_of mark))

-- the mark at a place where at most the own node has one
abbrev pub first_mark : Mark → ℕ → Mark
first_mark own place = cond (place == 0) own mark.Unasked

-- what an answer to a request for the lock is: in the second round the node that was asked first is not asked
abbrev pub heard_by : Taken → Bool → Taken
heard_by Double true = Stranger
heard_by Double false = Double
heard_by Counted is_first = Counted
heard_by Stranger is_first = Stranger

abbrev pub lock_heard : Mark → Bool → Taken
lock_heard mark is_first = what_of true (lock_entry (status_of mark) is_first)

-- ---- of all nodes

-- whether each place below n passes a test
abbrev pub all_below : ℕ → (ℕ → Bool) → Bool
all_below zero test = true
all_below (suc n) test = test n && all_below n test

-- whether all nodes that count have a mark as wanted, once these were asked
abbrev pub all_marks : List Mark → List Bool → Wanted → Whom → Bool → Bool
all_marks marks lost wanted who granted = all_below (length marks) (λ place. get_or lost place false
    || passes wanted (status_of (mark_at (get_or marks place mark.Unasked) (get_or lost place false) who place granted)))

-- ---- of two commands

abbrev pub same_mark : Mark → Mark → Bool
same_mark mark.Unasked mark.Unasked = true
same_mark mark.Asked mark.Asked = true
same_mark mark.Yes mark.Yes = true
same_mark mark.No mark.No = true
same_mark one other = false

abbrev pub same_test : Bool → Bool → Bool
same_test true b = b
same_test false true = false
same_test false false = true

-- the same marks at all places
abbrev pub same_marks : List Mark → List Mark → Bool
same_marks ms ns = nat_eq (length ms) (length ns) && all_below (length ms) (λ place. same_mark (get_or ms place mark.Unasked) (get_or ns place mark.Unasked))

-- the same nodes have applied the update
abbrev pub same_replies : List Mark → List Mark → Bool
same_replies ms ns = nat_eq (length ms) (length ns) && all_below (length ms) (λ place. same_test (has_yes (get_or ms place mark.Unasked)) (has_yes (get_or ns place mark.Unasked)))
