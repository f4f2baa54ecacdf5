-- What a retry comes to where nodes were lost, and nothing is on the way to a live node.
use Rattle.std.specs.Prelude.{◌≡◌, ℕ, ◌+◌, ◌-◌, ◌*◌, ◌<◌, ◌≤◌, true, false, cond, nat_lt}
use Rattle.std.specs.Prelude.{length, List, ◌∷◌, None, Some}
use Rattle.pg_term.specs.declared.term.Term.{Term}
use Rattle.pg_laws.specs.PgGroup.Value.{name_of}
use Rattle.pg_laws.specs.PgGroup.declared.update.Update.{Update}
use Rattle.pg_laws.specs.PgMessageTypes.declared.message.Message.{Message}
use Rattle.pg_laws.specs.PgStep.Machines.Clocked.{Stamped}
use Rattle.pg_laws.specs.PgStep.Machines.Losing.{LosingLeads, Noticed, Step, all_steps, losing_happens}
use Rattle.pg_laws.specs.PgStep.Machines.Machine.{Do, Event, Take}
use Rattle.pg_laws.specs.PgStep.Machines.Places.{is_pair, is_place}
use Rattle.pg_laws.specs.PgStep.Config.{Config}
use Rattle.pg_laws.specs.PgStep.FrameMachine.{last_notice, losing_frame_machine}
use Rattle.pg_laws.specs.PgStep.LossLaws.{LosingFrameWorld}
use Rattle.pg_laws.specs.PgStep.State.Stage.{Waiting}
use Rattle.pg_laws.specs.PgStep.Step.{Action, CLOCK_LIMIT, Retry}
use Rattle.pg_laws.specs.PgStep.declared.command.OpId.{OpId}
use Rattle.pg_laws.specs.Counted.{is_open}
use Rattle.pg_laws.specs.History.{IsAnsweredOk, answers_by}
use Rattle.pg_laws.specs.Quiet.{OnlyTakes, OnlyTakesAndRetries, peer_count, total}
use Rattle.pg_laws_losses.specs.Quiet.{IsQuietLive, live_open, most_takes_live}
use Rattle.pg_laws_losses.specs.Readiness.Ready.{EachIsRetried, AllHaveRoom, NoLockLive, NoneReadyLive, OnlyReady, OnlyRetries}

-- how many nodes are live
abbrev pub live_count : Config → LosingFrameWorld → ℕ
live_count config w = total (length config) (λ i. cond (w.gone i) 0 1)

-- how many peers each of them has among the other live nodes
abbrev pub live_peer_count : Config → LosingFrameWorld → ℕ
live_peer_count config w = live_count config w - 1

-- no live node holds the lock of this name, for whomever
abbrev pub IsFreeLive : Config → LosingFrameWorld → Term → Type 0
IsFreeLive config w name = (i : ℕ) → is_place (length config) i ≡ true → w.gone i ≡ false
    → (w.world.node i).state.locks name ≡ None

-- no clock of a live node is nearer to its limit than so many events
abbrev pub LiveHaveRoom : Config → LosingFrameWorld → ℕ → Type 0
LiveHaveRoom config w events = (i : ℕ) → is_place (length config) i ≡ true → w.gone i ≡ false
    → (w.world.node i).clock + events ≤ CLOCK_LIMIT

-- What a retry of a command of node i in the world w, where nothing was on the way to a live node, has come to once so
-- many packets were taken behind it.
pub record RetryGoesPastLosses (config : Config) (w : LosingFrameWorld) (i : ℕ) (op : OpId) (count : ℕ) (v : LosingFrameWorld) : Type 0 where
  -- nobody is lost meanwhile
  pub gone : v.gone ≡ w.gone
  -- five packets for each live peer are taken, and no more: three that the peer takes, and two replies
  pub within : count ≤ 5 * live_peer_count config w
  -- the command is open until four for each of them are
  pub open_until : is_open ((v.world.node i).state.stages op) ≡ nat_lt count (4 * live_peer_count config w)
  -- then it is answered ok
  pub answered : 4 * live_peer_count config w ≤ count → IsAnsweredOk op (answers_by i v.world.reported)
  -- and where all are taken nothing is on the way again to a live node
  pub quiet : count ≡ 5 * live_peer_count config w → IsQuietLive config v
  -- until then a packet is on the way from one of them to another
  pub on_the_way : count < 5 * live_peer_count config w
      → (x : ℕ) × (y : ℕ) × (packet : Stamped (Noticed Message)) × (rest : List (Stamped (Noticed Message)))
      × (is_pair (length config) x y ≡ true) × (v.gone x ≡ false) × (v.gone y ≡ false) × (v.world.wire x y ≡ packet ∷ rest)
  -- and each that is next on its way to one of them can be taken
  pub is_taken : (x y : ℕ) (packet : Stamped (Noticed Message)) (rest : List (Stamped (Noticed Message)))
      → is_pair (length config) x y ≡ true → v.gone y ≡ false → v.world.wire x y ≡ packet ∷ rest
      → (u : LosingFrameWorld) × (losing_happens (losing_frame_machine config) last_notice v (Step (Take y x)) ≡ Some u)

-- ---- until no lock is held, and until all is answered

-- How much room in the clocks suffices to free every lock, where no command comes in and no node is lost: takes until nothing is on the way, a retry of each
-- open command at most, and six takes for each peer of each.
abbrev pub most_events_to_free : Config → LosingFrameWorld → ℕ
most_events_to_free config w = most_takes_live config w + live_open config w + 6 * peer_count config * live_open config w

-- Takes that bring a world to rest, retries of the commands that are ready there, and takes that bring it to rest again.
pub record FreesLocks (config : Config) (w : LosingFrameWorld) : Type 0 where
  pub first : List (Event Action)
  pub rested : LosingFrameWorld
  pub only_first : OnlyTakes first
  pub leads_first : LosingLeads (losing_frame_machine config) last_notice w (all_steps first) rested
  pub rests : IsQuietLive config rested
  pub retries : List (Event Action)
  pub tried : LosingFrameWorld
  -- of each command that is ready there, and of no other
  pub only_retries : OnlyRetries retries
  pub each : EachIsRetried config rested retries
  pub ready : OnlyReady config rested retries
  pub leads_tried : LosingLeads (losing_frame_machine config) last_notice rested (all_steps retries) tried
  pub last : List (Event Action)
  pub world : LosingFrameWorld
  pub only_last : OnlyTakes last
  pub leads_last : LosingLeads (losing_frame_machine config) last_notice tried (all_steps last) world
  -- nothing is on the way to a live node, no command of one is ready, and none holds a lock
  pub quiet : IsQuietLive config world
  pub none : NoneReadyLive config world
  pub free : NoLockLive config world

-- no command of a live node is open: each that came in there is answered
abbrev pub NoneOpenLive : Config → LosingFrameWorld → Type 0
NoneOpenLive config w = (i : ℕ) (op : OpId) → is_place (length config) i ≡ true → w.gone i ≡ false
    → is_open ((w.world.node i).state.stages op) ≡ false

-- How much room in the clocks suffices to answer every open command of a live node, where no command comes in and no node is lost: those that
-- free every lock, and for each open command its retry and five takes for each peer.
abbrev pub most_events_live : Config → LosingFrameWorld → ℕ
most_events_live config w = most_events_to_free config w + (1 + 5 * peer_count config) * live_open config w

-- What becomes of retries, where a world is reached.
pub record RetriesGoOn (config : Config) (w : LosingFrameWorld) : Type 0 where
  -- where nothing is on the way to a live node, each open command of one can be tried again
  pub begins : (i : ℕ) (op : OpId) → IsQuietLive config w → is_place (length config) i ≡ true → w.gone i ≡ false
      → is_open ((w.world.node i).state.stages op) ≡ true → (w.world.node i).clock + 1 ≤ CLOCK_LIMIT
      → (v : LosingFrameWorld) × (losing_happens (losing_frame_machine config) last_notice w (Step (Do i (Retry op))) ≡ Some v)
  -- and goes so, where it waits for its next attempt and the lock of its group is free
  pub goes : (v : LosingFrameWorld) (takes : List (Event Action)) (i : ℕ) (op : OpId) (update : Update)
      → IsQuietLive config w → is_place (length config) i ≡ true → w.gone i ≡ false
      → (w.world.node i).state.stages op ≡ Waiting update → IsFreeLive config w (name_of update)
      → LiveHaveRoom config w (1 + 5 * live_peer_count config w) → OnlyTakes takes
      → LosingLeads (losing_frame_machine config) last_notice w (all_steps (Do i (Retry op) ∷ takes)) v
      → RetryGoesPastLosses config w i op (length takes) v
  -- or where no command of a live node is ready
  pub answered : (v : LosingFrameWorld) (takes : List (Event Action)) (i : ℕ) (op : OpId)
      → IsQuietLive config w → NoneReadyLive config w → is_place (length config) i ≡ true → w.gone i ≡ false
      → is_open ((w.world.node i).state.stages op) ≡ true
      → LiveHaveRoom config w (1 + 5 * live_peer_count config w) → OnlyTakes takes
      → LosingLeads (losing_frame_machine config) last_notice w (all_steps (Do i (Retry op) ∷ takes)) v
      → RetryGoesPastLosses config w i op (length takes) v
  -- none is ready meanwhile, and where all is taken no lock is held
  pub unready : (v : LosingFrameWorld) (takes : List (Event Action)) (i : ℕ) (op : OpId) → IsQuietLive config w → NoneReadyLive config w
      → LosingLeads (losing_frame_machine config) last_notice w (all_steps (Do i (Retry op) ∷ takes)) v → NoneReadyLive config v
  pub unlocked : (v : LosingFrameWorld) (takes : List (Event Action)) (i : ℕ) (op : OpId)
      → IsQuietLive config w → NoneReadyLive config w → is_place (length config) i ≡ true → w.gone i ≡ false
      → is_open ((w.world.node i).state.stages op) ≡ true
      → LiveHaveRoom config w (1 + 5 * live_peer_count config w) → OnlyTakes takes
      → LosingLeads (losing_frame_machine config) last_notice w (all_steps (Do i (Retry op) ∷ takes)) v
      → length takes ≡ 5 * live_peer_count config w → NoLockLive config v
  -- with room in the clocks takes and retries free every lock
  pub frees : AllHaveRoom config w (most_events_to_free config w + 1) → FreesLocks config w
  -- and answer every open command of the live nodes
  pub answers : AllHaveRoom config w (most_events_live config w + 1)
      → (more : List (Event Action)) × (v : LosingFrameWorld) × OnlyTakesAndRetries more
      × LosingLeads (losing_frame_machine config) last_notice w (all_steps more) v
      × NoneOpenLive config v × IsQuietLive config v
