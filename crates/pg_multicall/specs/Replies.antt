-- The replies to one call, by the places of the nodes in their set.
use Rattle.std.specs.Prelude.{ℕ, Bool, true, false, cond, nat_eq, Option, Some, None}
use Rattle.pg_multicall.specs.declared.gather.Gather.{Gather}
use Rattle.pg_multicall.specs.declared.gather.Taken.{Taken}
use Rattle.pg_multicall.specs.declared.gather.Taken.TheVariants.{Counted, Stranger, Double}
use Rattle.pg_multicall.specs.Places.{has_of}

-- of each place: None where its node was not asked, Some None while it has not replied, and then Some of whether it has granted
abbrev pub Replies : Type 0
Replies = ℕ → Option (Option Bool)

-- nothing has replied, and these were asked
abbrev pub asked_of : (ℕ → Bool) → Replies
asked_of asked place = cond (asked place) (Some None) None

-- what is gathered after a reply: only a counted one changes anything
abbrev pub after : Taken → Replies → ℕ → Bool → Replies
after Counted replies place granted other = cond (nat_eq place other) (Some (Some granted)) (replies other)
after Stranger replies place granted other = replies other
after Double replies place granted other = replies other

-- what is gathered without a node: it was not asked, and its reply is gone
abbrev pub forgotten : Replies → ℕ → Replies
forgotten replies place other = cond (nat_eq place other) None (replies other)

-- what is gathered once a node is asked, whatever came of it before: it has not replied
abbrev pub asked_anew : Replies → ℕ → Replies
asked_anew replies place other = cond (nat_eq place other) (Some None) (replies other)

-- by whether it was asked, has replied, and has granted
abbrev pub entry_by : (asked replied granted : Bool) → Option (Option Bool)
entry_by false replied granted = None
entry_by true false granted = Some None
entry_by true true granted = Some (Some granted)

abbrev pub replies_of : Gather → Replies
replies_of gather place = entry_by (has_of gather.asked place) (has_of gather.replied place) (has_of gather.granted place)
