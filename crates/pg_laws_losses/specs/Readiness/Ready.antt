-- Commands that a loss has left ready: whose locks they hold, and what becomes of them.
use Rattle.std.specs.Prelude.{◌≡◌, ◌≢◌, ◌↔◌, ◌⊎◌, ℕ, ◌+◌, ◌≤◌, Bool, true, false, ◌&&◌, ◌||◌, nat_eq}
use Rattle.std.specs.Prelude.{length, List, [], ◌∷◌, ◌++◌, Some, None}
use Rattle.pg_term.specs.RefParts.{RefParts}
use Rattle.pg_term.specs.declared.term.Term.{Term}
use Rattle.pg_laws.specs.PgGroup.Value.{name_of}
use Rattle.pg_laws.specs.PgGroup.declared.update.Update.{Update}
use Rattle.pg_laws.specs.PgMessageTypes.declared.message.Message.{Message}
use Rattle.pg_laws.specs.PgStep.Machines.Clocked.{Stamped}
use Rattle.pg_laws.specs.PgStep.Machines.Losing.{LosingLeads, Noticed, Step, all_steps, losing_happens}
use Rattle.pg_laws.specs.PgStep.Machines.Machine.{Event, Take, Do}
use Rattle.pg_laws.specs.PgStep.Machines.Places.{is_pair, is_place}
use Rattle.pg_laws.specs.PgRefs.Numbered.{numbered}
use Rattle.pg_laws.specs.PgStep.Attempts.{is_complete, same_op}
use Rattle.pg_laws.specs.PgStep.Config.{Config, name_at, nodes_at}
use Rattle.pg_laws.specs.PgStep.FrameMachine.{last_notice, losing_frame_machine}
use Rattle.pg_laws.specs.PgStep.LossLaws.{LosingFrameWorld}
use Rattle.pg_laws.specs.PgStep.Nodes.{Node, Nodes}
use Rattle.pg_laws.specs.PgStep.State.{Stage, State, Status, live_nodes}
use Rattle.pg_laws.specs.PgStep.State.Response.{Given}
use Rattle.pg_laws.specs.PgStep.State.Stage.{Asking, Changing, Closed, Waiting}
use Rattle.pg_laws.specs.PgStep.State.Use.{Locking, Updating}
use Rattle.pg_laws.specs.PgStep.Step.{Action, CLOCK_LIMIT, Issue, Retry}
use Rattle.pg_laws.specs.PgStep.declared.answer.Reply.TheVariants as reply
use Rattle.pg_laws.specs.PgStep.declared.command.OpId.{OpId}
use Rattle.pg_laws.specs.History.{answers_by, entries}
use Rattle.pg_laws.specs.Quiet.{OnlyTakes}
use Rattle.pg_laws_losses.specs.Agreeing.{SawAll}
use Rattle.pg_laws_losses.specs.Quiet.{IsQuietLive, live_open, most_takes_live}

-- Each live node has seen each loss, and nothing is on the way between two of them. What is on the way to a lost
-- node stays.
pub record IsQuietAmongLive (config : Config) (w : LosingFrameWorld) : Type 0 where
  pub seen : (i : ℕ) → is_place (length config) i ≡ true → w.gone i ≡ false → SawAll config w i
  pub none : (x y : ℕ) → is_pair (length config) x y ≡ true → w.gone x ≡ false → w.gone y ≡ false → w.world.wire x y ≡ []

-- All has come that the command gathers, as where the last that it waited for was lost: a retry goes on from there.
abbrev pub is_ready : Nodes → Stage → State → Bool
is_ready m (Asking c) s = is_complete m (s.uses c)
is_ready m (Changing n) s = is_complete m (s.uses n)
is_ready m stage s = false

-- a command of node i is ready
abbrev pub is_ready_at : Config → LosingFrameWorld → ℕ → OpId → Bool
is_ready_at config w i op = is_ready (live_nodes (nodes_at config i) (w.world.node i).state) ((w.world.node i).state.stages op) (w.world.node i).state

-- no command of a live node is ready
abbrev pub NoneReadyLive : Config → LosingFrameWorld → Type 0
NoneReadyLive config w = (i : ℕ) (op : OpId)
    → is_place (length config) i ≡ true → w.gone i ≡ false → is_ready_at config w i op ≡ false

-- no live node holds the lock of any name, for whomever
abbrev pub NoLockLive : Config → LosingFrameWorld → Type 0
NoLockLive config w = (i : ℕ) (name : Term)
    → is_place (length config) i ≡ true → w.gone i ≡ false → (w.world.node i).state.locks name ≡ None

-- each live node has seen each loss
abbrev pub LossesSeen : Config → LosingFrameWorld → Type 0
LossesSeen config w = (i : ℕ) → is_place (length config) i ≡ true → w.gone i ≡ false → SawAll config w i

-- one of these events tries the command of node i again
abbrev pub is_retried : ℕ → OpId → List (Event Action) → Bool
is_retried i op [] = false
is_retried i op (Take j p ∷ events) = is_retried i op events
is_retried i op (Do j (Issue port c) ∷ events) = is_retried i op events
is_retried i op (Do j (Retry other) ∷ events) = (nat_eq j i && same_op other op) || is_retried i op events

-- each of these events tries a command again
abbrev pub OnlyRetries : List (Event Action) → Type 0
OnlyRetries [] = Unit {0}
OnlyRetries (Take j p ∷ events) = ⊥
OnlyRetries (Do j (Issue port c) ∷ events) = ⊥
OnlyRetries (Do j (Retry op) ∷ events) = OnlyRetries events

-- each ready command of a live node is tried again by one of these events
abbrev pub EachIsRetried : Config → LosingFrameWorld → List (Event Action) → Type 0
EachIsRetried config w events = (i : ℕ) (op : OpId) → is_place (length config) i ≡ true → w.gone i ≡ false
    → is_ready_at config w i op ≡ true → is_retried i op events ≡ true

-- and each that one of them tries again is ready
abbrev pub OnlyReady : Config → LosingFrameWorld → List (Event Action) → Type 0
OnlyReady config w events = (i : ℕ) (op : OpId) → is_retried i op events ≡ true → is_ready_at config w i op ≡ true

-- no clock is nearer to its limit than so many events, of a lost node neither, since what it sent may be on the way
abbrev pub AllHaveRoom : Config → LosingFrameWorld → ℕ → Type 0
AllHaveRoom config w events = (i : ℕ)
    → is_place (length config) i ≡ true → (w.world.node i).clock + events ≤ CLOCK_LIMIT

-- The holder of the lock of a group is a reference of a node that is not lost, and of a ready command of it.
pub record OfReady (config : Config) (w : LosingFrameWorld) (name : Term) (holder : RefParts) : Type 0 where
  pub node : ℕ
  pub here : is_place (length config) node ≡ true
  pub lives : w.gone node ≡ false
  pub number : ℕ
  pub is : holder ≡ numbered (name_at config node) number
  pub op : OpId
  pub ready : is_ready_at config w node op ≡ true
  -- it asks for the lock of the group under that reference, or its update of the group goes out under it
  pub update : Update
  pub named : name_of update ≡ name
  pub under : ((first : Node) × (status : Node → Status) × ((w.world.node node).state.uses number ≡ Locking op update first status))
      ⊎ ((n : ℕ) × (replied : Node → Bool) × ((w.world.node node).state.uses n ≡ Updating op update number replied))

-- What a retry of a ready command of node i comes to at once, from the world w to the world v.
pub data RetryGoesOn (config : Config) (w v : LosingFrameWorld) (i : ℕ) (op : OpId) : Type 0 where
  -- each live node has its update: it is answered ok
  IsAnswered : answers_by i v.world.reported op.port ≡ answers_by i w.world.reported op.port ++ (op.number, Given reply.Ok) ∷ []
      → (v.world.node i).state.stages op ≡ Closed → RetryGoesOn config w v i op
  -- it has the last grant: its update enters the history, and goes out
  HasBegun : (u : Update) (n : ℕ) → entries v.world.reported ≡ entries w.world.reported ++ record { node = i; op = op; update = u } ∷ []
      → (v.world.node i).state.stages op ≡ Changing n → is_ready_at config v i op ≡ false → RetryGoesOn config w v i op
  -- it asks those for the lock that it has not asked, and waits for them
  AsksOn : (c : ℕ) → (v.world.node i).state.stages op ≡ Asking c → is_ready_at config v i op ≡ false → RetryGoesOn config w v i op
  -- it was denied: it gives back the locks that it has, and waits for its next attempt
  GaveUp : (u : Update) → (v.world.node i).state.stages op ≡ Waiting u → RetryGoesOn config w v i op

-- What becomes of commands that a loss has left ready, where a world is reached.
pub record ReadyGoOn (config : Config) (w : LosingFrameWorld) : Type 0 where
  -- nothing is on the way to a live node exactly where each has seen each loss, and nothing is on the way between two of them
  pub silence : IsQuietLive config w ↔ IsQuietAmongLive config w
  -- there a lock that is held at such a node is that of a ready command, and where none is ready none is held
  pub holders : (i : ℕ) (name : Term) (holder : RefParts) → IsQuietLive config w → is_place (length config) i ≡ true → w.gone i ≡ false
      → (w.world.node i).state.locks name ≡ Some holder → OfReady config w name holder
  pub free : IsQuietLive config w → NoneReadyLive config w → NoLockLive config w
  -- a ready command can be tried again, where the clock of its node is not full, and goes on
  pub tried : (i : ℕ) (op : OpId) → is_ready_at config w i op ≡ true → is_place (length config) i ≡ true → w.gone i ≡ false → (w.world.node i).clock + 1 ≤ CLOCK_LIMIT
      → (v : LosingFrameWorld) × (losing_happens (losing_frame_machine config) last_notice w (Step (Do i (Retry op))) ≡ Some v)
  pub goes : (v : LosingFrameWorld) (i : ℕ) (op : OpId) → is_ready_at config w i op ≡ true
      → losing_happens (losing_frame_machine config) last_notice w (Step (Do i (Retry op))) ≡ Some v → RetryGoesOn config w v i op
  -- once each was tried again, in whatever order and whatever else came in, none is ready; and where nothing is on the way then, no lock is held
  pub retried : (v : LosingFrameWorld) (steps : List (Event Action)) → LossesSeen config w → LosingLeads (losing_frame_machine config) last_notice w (all_steps steps) v
      → EachIsRetried config w steps → NoneReadyLive config v
  pub freed : (v : LosingFrameWorld) (steps : List (Event Action)) → LossesSeen config w → LosingLeads (losing_frame_machine config) last_notice w (all_steps steps) v
      → EachIsRetried config w steps → IsQuietLive config v → NoLockLive config v
  -- after a retry each other command is ready exactly where it was before
  pub others : (v : LosingFrameWorld) (i j : ℕ) (op other : OpId) → losing_happens (losing_frame_machine config) last_notice w (Step (Do i (Retry op))) ≡ Some v
      → (j ≡ i → op ≢ other) → is_ready_at config v j other ≡ is_ready_at config w j other
  -- with room in the clocks the ready commands, and no others, can be tried again one after another
  pub all : (room : ℕ) → LossesSeen config w → AllHaveRoom config w (live_open config w + room)
      → (retries : List (Event Action)) × (v : LosingFrameWorld) × OnlyRetries retries
      × LosingLeads (losing_frame_machine config) last_notice w (all_steps retries) v × EachIsRetried config w retries × OnlyReady config w retries
      × NoneReadyLive config v × AllHaveRoom config v room
  -- and each packet that is next on its way to a live node can be taken, until nothing is
  pub taken : (x y : ℕ) (packet : Stamped (Noticed Message)) (rest : List (Stamped (Noticed Message))) → AllHaveRoom config w 1
      → is_pair (length config) x y ≡ true → w.gone y ≡ false → w.world.wire x y ≡ packet ∷ rest
      → (v : LosingFrameWorld) × (losing_happens (losing_frame_machine config) last_notice w (Step (Take y x)) ≡ Some v)
  pub rests : AllHaveRoom config w (most_takes_live config w + 1)
      → (takes : List (Event Action)) × (v : LosingFrameWorld) × OnlyTakes takes
      × LosingLeads (losing_frame_machine config) last_notice w (all_steps takes) v × IsQuietLive config v
