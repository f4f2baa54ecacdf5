-- Quiet worlds: no packet is on the way. Each node is formed there, no lock is held, and no command asks for anything.
use Rattle.std.specs.Prelude.{◌≡◌, ℕ, zero, suc, ◌+◌, ◌-◌, ◌*◌, ◌<◌, ◌≤◌, Bool, true}
use Rattle.std.specs.Prelude.{false, nat_lt, List, [], ◌∷◌, Some, None, length}
use Rattle.pg_term.specs.declared.term.Term.{Term}
use Rattle.pg_step.specs.PgMessageTypes.declared.message.Message.{Message}
use Rattle.pg_step.specs.Machines.Clocked.{Stamped, plain}
use Rattle.pg_step.specs.Machines.Machine.{Event, Take, Do, happens}
use Rattle.pg_step.specs.Machines.Places.{is_place, is_pair}
use Rattle.pg_step.specs.declared.command.OpId.{OpId}
use Rattle.pg_step.specs.Nodes.{Node}
use Rattle.pg_step.specs.State.{State, Stage}
use Rattle.pg_step.specs.State.Stage.{Waiting}
use Rattle.pg_step.specs.Attempts.{gathered}
use Rattle.pg_step.specs.Config.{Config}
use Rattle.pg_step.specs.FrameMachine.{FrameWorld, frame_machine}
use Rattle.pg_step.specs.Step.{CLOCK_LIMIT, Action, Issue, Retry}
use Rattle.pg_laws.specs.Counted.{is_open}
use Rattle.pg_laws.specs.History.{IsAnsweredOk, LockFree, answers_by, is_formed}
use Rattle.pg_laws.specs.Reached.{TimedFrameWorld}

-- no packet is on the way from one node to another
abbrev pub IsQuiet : Config → FrameWorld → Type 0
IsQuiet config w = (x y : ℕ) → is_pair (length config) x y ≡ true → w.wire x y ≡ []

-- each node has taken the exchange of each peer
abbrev pub AllFormed : Config → FrameWorld → Type 0
AllFormed config w = (i : ℕ) → is_place (length config) i ≡ true → is_formed config w i ≡ true

-- no node holds the lock of any name, for whomever
abbrev pub NoLockHeld : Config → FrameWorld → Type 0
NoLockHeld config w = (i : ℕ) (name : Term) → is_place (length config) i ≡ true → LockFree w i name

-- a command waits for its retry, with no attempt under way
abbrev pub is_waiting : Stage → Bool
is_waiting (Waiting update) = true
is_waiting stage = false

-- Of a node: nothing is under way.
pub record NothingUnderWay (s : State) : Type 0 where
  -- each open command waits for its retry, and no other does
  pub waits : (op : OpId) → is_waiting (s.stages op) ≡ is_open (s.stages op)
  -- and no reply is waited for
  pub none_gathered : (c : ℕ) (q : Node) → gathered (s.uses c) q ≡ None

-- ---- a retry

-- each of these events takes a packet
abbrev pub OnlyTakes : List (Event Action) → Type 0
OnlyTakes [] = Unit {0}
OnlyTakes (Take i p ∷ events) = OnlyTakes events
OnlyTakes (Do i action ∷ events) = ⊥

-- how many peers each node has
abbrev pub peer_count : Config → ℕ
peer_count config = length config - 1

-- no clock is nearer to its limit than so many events
abbrev pub HasClockRoom : Config → TimedFrameWorld → ℕ → Type 0
HasClockRoom config w events = (i : ℕ) → is_place (length config) i ≡ true → (w.node i).clock + events ≤ CLOCK_LIMIT

-- What a retry of a command of node i in a quiet world has come to once so many packets were taken behind it.
pub record RetryGoes (config : Config) (i : ℕ) (op : OpId) (count : ℕ) (v : TimedFrameWorld) : Type 0 where
  -- five packets for each peer are taken, and no more: three that the peer takes, and two replies
  pub within : count ≤ 5 * peer_count config
  -- the command is open until four for each peer are
  pub open_until : is_open (((plain v).node i).stages op) ≡ nat_lt count (4 * peer_count config)
  -- then it is answered ok
  pub answered : 4 * peer_count config ≤ count → IsAnsweredOk op (answers_by i (plain v).reported)
  -- and where all are taken the world is quiet again
  pub quiet : count ≡ 5 * peer_count config → IsQuiet config (plain v)
  -- until then a packet is on the way
  pub on_the_way : count < 5 * peer_count config
      → (x : ℕ) × (y : ℕ) × (packet : Stamped Message) × (rest : List (Stamped Message)) × (is_pair (length config) x y ≡ true) × (v.wire x y ≡ packet ∷ rest)
  -- and each that is next on its way can be taken
  pub is_taken : (x y : ℕ) (packet : Stamped Message) (rest : List (Stamped Message)) → is_pair (length config) x y ≡ true → v.wire x y ≡ packet ∷ rest
      → (u : TimedFrameWorld) × (happens (frame_machine config) v (Take y x) ≡ Some u)

-- ---- how much is still to be taken

-- the sum of the first so many
unfoldable pub total : ℕ → (ℕ → ℕ) → ℕ
total zero f = 0
total (suc n) f = f n + total n f

abbrev pub packets_on_the_way : Config → FrameWorld → ℕ
packets_on_the_way config w = total (length config) (λ x. total (length config) (λ y. length (w.wire x y)))

abbrev pub open_commands : Config → FrameWorld → ℕ
open_commands config w = total (length config) (λ i. (w.node i).opened)

-- How many packets can be taken at most before a command comes in or one is tried again: those on the way and the replies
-- to them, and five for each peer of each command that is open.
abbrev pub most_takes : Config → FrameWorld → ℕ
most_takes config w = 2 * packets_on_the_way config w + 5 * peer_count config * open_commands config w

-- ---- until all is answered

-- each of these events takes a packet or tries a command again
abbrev pub OnlyTakesAndRetries : List (Event Action) → Type 0
OnlyTakesAndRetries [] = Unit {0}
OnlyTakesAndRetries (Take i p ∷ events) = OnlyTakesAndRetries events
OnlyTakesAndRetries (Do i (Retry op) ∷ events) = OnlyTakesAndRetries events
OnlyTakesAndRetries (Do i (Issue port c) ∷ events) = ⊥

-- no command of any node is open: each that came in is answered
abbrev pub NoneOpen : Config → FrameWorld → Type 0
NoneOpen config w = (i : ℕ) (op : OpId) → is_place (length config) i ≡ true → is_open ((w.node i).stages op) ≡ false

-- how many events answer every open command, where none comes in meanwhile: takes until the world is quiet, and for each open
-- command its retry and five takes for each peer
abbrev pub most_events : Config → FrameWorld → ℕ
most_events config w = most_takes config w + (1 + 5 * peer_count config) * open_commands config w
