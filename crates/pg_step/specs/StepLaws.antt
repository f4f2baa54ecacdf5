-- Words for the laws of a node's step.
use Rattle.std.specs.Prelude.{◌≡◌, ◌≢◌, ℕ, ◌+◌, ◌≤◌, Bool, true, false, not, ◌&&◌, cond, nat_eq}
use Rattle.std.specs.Prelude.{nat_le, length, List, [], ◌∷◌, ◌++◌, Option, Some, None, Result, Ok, Err}
use Rattle.pg_message_types.specs.PgGroup.Functions.{upd}
use Rattle.pg_message_types.specs.declared.message.Message.{Message}
use Rattle.pg_message_types.specs.declared.message.Message.TheVariants.{Reply, Exchange}
use Rattle.pg_message_types.specs.declared.message.Said.{Said}
use Rattle.pg_multicall.specs.Gathered.{what_of}
use Rattle.pg_multicall.specs.declared.gather.Taken.{Taken as Heard}
use Rattle.pg_multicall.specs.declared.gather.Taken.TheVariants as what
use Rattle.pg_step.specs.Machines.Places.{is_place, is_pair}
use Rattle.pg_step.specs.Machines.Machine.{Input, Turn, Taken, Own}
use Rattle.pg_step.specs.Machines.Clocked.{Timed, Stamped}
use Rattle.pg_step.specs.Nodes.{Node, Nodes}
use Rattle.pg_step.specs.declared.command.Command.{Command}
use Rattle.pg_step.specs.declared.command.Command.TheVariants.{Members, LocalMembers, WhichGroups, Closest}
use Rattle.pg_step.specs.State.{State, Use, Response}
use Rattle.pg_step.specs.Turns.{Report, nothing}
use Rattle.pg_step.specs.Peers.{is_bad_exchange}
use Rattle.pg_step.specs.Attempts.{gathered, is_kind, use_of, waits}
use Rattle.pg_step.specs.Commands.{next_op}
use Rattle.pg_step.specs.FrameMachine.{FrameWorld}
use Rattle.pg_step.specs.Step.{CLOCK_LIMIT, Action, Issue, Retry, TimedTurn}
use Rattle.pg_step.specs.Config.{Config, name_at}
use Rattle.pg_step.specs.declared.refusal.Refusal.{Refusal}

-- ---- the step with a clock, as one of a machine

-- a turn with a clock, with places for the names of those it sends to
abbrev pub place_timed : Config → TimedTurn → Turn (Timed State) (Stamped Message) Report
place_timed config t = record {
  state = t.state;
  sends = λ q. cond (is_place (length config) q) (t.sends (name_at config q)) [];
  reported = t.reported;
}

abbrev pub timed_placed : Config → Result TimedTurn Refusal → Option (Turn (Timed State) (Stamped Message) Report)
timed_placed config (Ok t) = Some (place_timed config t)
timed_placed config (Err refusal) = None

-- ---- refusals

abbrev pub refusal_of : {T : Type 0} → Result T Refusal → Option Refusal
refusal_of (Ok t) = None
refusal_of (Err refusal) = Some refusal

-- the port at which a node does something of its own
abbrev pub port_of : Action → ℕ
port_of (Issue port c) = port
port_of (Retry op) = op.port

-- a retry of a command that does not wait
abbrev pub retries_none : Nodes → Action → State → Bool
retries_none m (Issue port c) s = false
retries_none m (Retry op) s = not (waits m (s.stages op) s)

-- the clock that an event would set is past the limit
abbrev pub is_full : ℕ → Bool
is_full clock = not (nat_le clock CLOCK_LIMIT)

abbrev pub is_stranger : Heard → Bool
is_stranger what.Stranger = true
is_stranger _ = false

-- A reply of another kind than is gathered, by a node that is heard, or was heard in this round.
abbrev pub is_wrong_kind : Use → Node → Said → Bool
is_wrong_kind used p said = not (is_stranger (what_of true (gathered used p))) && not (is_kind used said)

-- what a node refuses of a peer: a reply of another kind, an exchange of another node, and a second one
abbrev pub is_no_message : Nodes → Node → Message → State → Bool
is_no_message m p (Reply reference said) s = is_wrong_kind (use_of m reference s) p said
is_no_message m p (Exchange node groups) s = is_bad_exchange p node s
is_no_message m p _ s = false

-- ---- packets

-- the places that an input names are there, for node i
abbrev pub comes_from_there : {P C : Type 0} → ℕ → ℕ → Input P C → Bool
comes_from_there size i (Taken p x) = is_pair size i p
comes_from_there size i (Own c) = is_place size i

-- a turn of node i sends at most one packet to each node, and none to itself
pub record SendsOne {S P O : Type 0} (i : ℕ) (t : Turn S P O) : Type 0 where
  pub one : (q : ℕ) → length (t.sends q) ≤ 1
  pub none_to_itself : t.sends i ≡ []

-- ---- commands that are answered at once

abbrev pub is_query : Command → Bool
is_query (Members name) = true
is_query (LocalMembers name) = true
is_query WhichGroups = true
is_query (Closest name word) = true
is_query _ = false

-- A command that came in at a port of node i was answered so, and nothing else came of it.
pub record OnlyAnswers (i port : ℕ) (response : Response) (w v : FrameWorld) : Type 0 where
  pub node : v.node i ≡ record (w.node i) { counts = upd nat_eq (w.node i).counts port ((w.node i).counts port + 1) }
  pub others : (j : ℕ) → j ≢ i → v.node j ≡ w.node j
  pub ways : (x y : ℕ) → v.wire x y ≡ w.wire x y
  pub reported : v.reported ≡ w.reported ++ (i, record nothing { gave = Some (next_op port (w.node i), response) }) ∷ []
