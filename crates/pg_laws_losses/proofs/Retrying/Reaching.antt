-- A retry in a world that was reached, whoever was lost, with the clocks of its nodes.
use Rattle.std.proofs.Common.{◌≡◌, ◌⊎◌, inl, inr, ℕ, suc, ◌+◌, ◌*◌, ◌<◌, ◌≤◌, Bool, true, false, cond}
use Rattle.std.proofs.Common.{nat_lt, length, List, [], ◌∷◌, ◌++◌, Some, None, Ok, Err, refl, ap, sym, ◌∙◌, subst, arith}
use Rattle.std.specs.Prelude.{option_map}
use Rattle.std.specs.List.{IsDistinct}
use Rattle.std.proofs.lemmas.Bool.{cases_eq, cases_lt, le-leb, le-ltb, lt-ltb}
use Rattle.pg_term.specs.Same.{same_atom}
use Rattle.pg_laws.specs.PgGroup.declared.update.Update.{Update}
use Rattle.pg_laws.specs.PgGroup.Value.{name_of}
use Rattle.pg_laws.specs.PgMessageTypes.declared.message.Message.{Message}
use Rattle.pg_laws.specs.PgStep.Machines.Clocked.{Stamped, next_clock, packets_of, plain}
use Rattle.pg_laws.specs.PgStep.Machines.Happened.{Happened}
use Rattle.pg_laws.specs.PgStep.Machines.Losing.{LosingEvent, Noticed, Sent, Step, all_steps, losing_happens, mapped_turn, nobody_gone}
use Rattle.pg_laws.specs.PgStep.Machines.Machine.{Do, Event, Input, Own, Take, Taken, Turn, happens, node_of, perform, start_of}
use Rattle.pg_laws.specs.PgStep.Machines.Places.{is_pair}
use Rattle.pg_laws.proofs.PgStep.Machines.Options.{map_is_some}
use Rattle.pg_laws.proofs.PgStep.Machines.Plain.{plain_happens}
use Rattle.pg_laws.proofs.PgStep.Machines.Timing.{ticks}
use Rattle.std.specs.List.{AllByRecursion}
use Rattle.pg_laws.proofs.PgStep.Machines.Steps.{pair_apart, happened, happens_so}
use Rattle.pg_laws.specs.PgStep.declared.command.OpId.{OpId}
use Rattle.pg_laws.specs.PgStep.declared.refusal.Refusal.TheVariants.{NoSuchPlace, NotWaiting}
use Rattle.pg_laws.specs.PgStep.Attempts.{tried_again, waits}
use Rattle.pg_laws.specs.PgStep.Config.{Config, name_at, names_of, nodes_at, ports_at}
use Rattle.pg_laws.specs.PgStep.FrameMachine.{last_notice, losing_frame_machine, losing_machine_of, place_turn, placed}
use Rattle.pg_laws.specs.PgStep.LossLaws.{LosingFrameWorld}
use Rattle.pg_laws.specs.PgStep.Nodes.{Node, Nodes}
use Rattle.pg_laws.specs.PgStep.State.{State, live_nodes}
use Rattle.pg_laws.specs.PgStep.State.Stage.{Asking, Changing, Closed, Waiting}
use Rattle.pg_laws.specs.PgStep.State.{Stage}
use Rattle.pg_laws.specs.PgStep.Step.{Action, CLOCK_LIMIT, Retry}
use Rattle.pg_laws.specs.PgStep.Turns.{Report}
use Rattle.pg_laws.specs.Counted.{is_open}
use Rattle.pg_laws.specs.Quiet.{OnlyTakes}
use Rattle.pg_laws.proofs.ends.Apart.{pair_first, pair_second}
use Rattle.pg_laws.proofs.steps.Ways.{packet_there, pair_there}
use Rattle.pg_laws.proofs.places.Shown.{IsHere}
use Rattle.pg_laws.proofs.quiet.Sums.{total}
use Rattle.pg_laws_losses.specs.Quiet.{IsQuietLive}
use Rattle.pg_laws_losses.specs.Reached.{LosingReaches}
use Rattle.pg_laws_losses.proofs.Bridge.{live_same, not_true}
use Rattle.pg_laws_losses.proofs.Bridges.{Bridged, bridged}
use Rattle.pg_laws_losses.proofs.Counting.{all_count}
use Rattle.pg_laws_losses.proofs.Formation.{is_formed_live}
use Rattle.pg_laws_losses.proofs.Lossy.{Died, Passed, Went, bare, passed}
use Rattle.pg_laws_losses.proofs.Retries.{waits_for_retries}
use Rattle.pg_laws_losses.proofs.Remains.Passing.{Leads, Leaves, leads_more}
use Rattle.pg_laws_losses.specs.Readiness.Ready.{AllHaveRoom, LossesSeen, NoLockLive, NoneReadyLive, is_ready, is_ready_at}
use Rattle.pg_laws_losses.proofs.Readiness.Going.{no_loss, retry_is}
use Rattle.pg_laws_losses.proofs.Readiness.Resting.{next_with_room, on_time, room_left, went}
use Rattle.pg_laws_losses.proofs.Readiness.Retried.{fewer_ready, gone_later, no_lock, seen_later}
use Rattle.pg_laws_losses.proofs.Readiness.Silence.{all_silent, among_live}
use Rattle.pg_laws_losses.specs.Retrying.Retried.{LiveHaveRoom, IsFreeLive, RetryGoesPastLosses, live_peer_count}
use Rattle.pg_laws_losses.proofs.Retrying.Alone.{Alone, weight}
use Rattle.pg_laws_losses.proofs.Retrying.Answered.{IsStill, begun, begun_many, ends_answered, opens, some_packet, still_again, taken_all}
use Rattle.pg_laws.proofs.quiet.Phases.Phase.{Ahead}

-- ---- runs

pub leads_on : (config : Config) (es more : List (LosingEvent Action)) (w v u : LosingFrameWorld) → Leads config w es v
    → Leads config v more u → Leads config w (es ++ more) u
leads_on config [] more w v u l k = subst (λ z. Leads config z more u) (sym l) k
leads_on config (e ∷ es) more w v u l k = (l.0, l.1, leads_on config es more l.0 v u l.2 k)

-- each event takes one from the room
pub room_run : (config : Config) (ts : List (Event Action)) (es : List (LosingEvent Action)) (w v : LosingFrameWorld) (k : ℕ)
    → LosingReaches config es w → Leads config w (all_steps ts) v → AllHaveRoom config w (length ts + k) → AllHaveRoom config v k
room_run config [] es w v k l more room = subst (λ z. AllHaveRoom config z k) more
    (λ i here. let all : (w.world.node i).clock + (0 + k) ≤ CLOCK_LIMIT = room i here in omega (arith, all))
room_run config (d ∷ ts) es w v k l more room =
    let u : LosingFrameWorld = more.0 in
    room_run config ts (es ++ Step d ∷ []) u v k
    (leads_more config es (nobody_gone (start_of (losing_frame_machine config))) w u (Step d) l more.1) more.2
    (room_left config w u d (happened (losing_frame_machine config) w.world u.world d (went config w u d more.1).0) (length ts + k)
    (on_time config es w l)
    (λ i here. let all : (w.world.node i).clock + (suc (length ts) + k) ≤ CLOCK_LIMIT = room i here in omega (arith, all)))

-- ---- runs where each loss was seen

pub seen_run : (config : Config) (apart : IsDistinct same_atom (names_of config)) (ts : List (Event Action))
    (es : List (LosingEvent Action)) (w v : LosingFrameWorld) → LosingReaches config es w → LossesSeen config w
    → Leads config w (all_steps ts) v → LossesSeen config v
seen_run config apart [] es w v l seen more = subst (LossesSeen config) more seen
seen_run config apart (d ∷ ts) es w v l seen more = seen_run config apart ts (es ++ Step d ∷ []) more.0 v
    (leads_more config es (nobody_gone (start_of (losing_frame_machine config))) w more.0 (Step d) l more.1)
    (seen_later config apart es w more.0 l seen d more.1) more.2

-- an event takes one from the room of the live nodes, since what they take comes from one of them
module _ (config : Config) (apart : IsDistinct same_atom (names_of config)) (es : List (LosingEvent Action)) (w v : LosingFrameWorld)
    (l : LosingReaches config es w) (seen : LossesSeen config w) (d : Event Action) (leaves : Leaves config w (Step d) v) (k : ℕ)
    (room : LiveHaveRoom config w (suc k)) where
  went_so : Happened (losing_frame_machine config) w.world d v.world
  went_so = happened (losing_frame_machine config) w.world v.world d (went config w v d leaves).0

  same_lost_ones : v.gone ≡ w.gone
  same_lost_ones = (went config w v d leaves).1

  -- what is on the way to one of them is from one of them
  sender_lives : (p : ℕ) (packet : Stamped (Noticed Message)) (rest : List (Stamped (Noticed Message))) → is_pair (length config) (node_of d) p ≡ true
      → w.gone (node_of d) ≡ false → w.world.wire p (node_of d) ≡ packet ∷ rest → w.gone p ≡ false
  sender_lives p packet rest pair alive is = not_true (w.gone p) (λ away.
      let here = pair_first (length config) (node_of d) p pair in
      let there = pair_second (length config) (node_of d) p pair in
      absurd (cc (sym (all_silent config apart es w l p (node_of d) there here (λ e. pair_apart (length config) (node_of d) p pair (sym e))
      (seen (node_of d) here alive p there away)) ∙ ap packets_of is)))

  within : IsHere config (node_of d) → w.gone (node_of d) ≡ false → (input : Input (Stamped (Noticed Message)) Action) → went_so.input ≡ input
      → next_clock (w.world.node (node_of d)).clock input + k ≤ CLOCK_LIMIT
  within here alive (Own action) is =
      let own : (w.world.node (node_of d)).clock + suc k ≤ CLOCK_LIMIT = room (node_of d) here alive in omega (arith, own)
  within here alive (Taken p x) is =
      let first = packet_there (losing_frame_machine config) w.world v.world d went_so p x is in
      let pair = pair_there (losing_frame_machine config) w.world v.world d went_so p x is in
      let stamp : x.stamp ≤ (w.world.node p).clock = (subst (AllByRecursion (λ (packet : Stamped (Noticed Message)). packet.stamp ≤ (w.world.node p).clock)) first.1
      ((on_time config es w l).stamps p (node_of d))).0 in
      let own : (w.world.node (node_of d)).clock + suc k ≤ CLOCK_LIMIT = room (node_of d) here alive in
      let peer : (w.world.node p).clock + suc k ≤ CLOCK_LIMIT = room p (pair_second (length config) (node_of d) p pair) (sender_lives p x first.0 pair alive first.1) in
      omega (arith, stamp, own, peer)

  pub room_among : LiveHaveRoom config v k
  room_among i here lives = go (cases_eq i (node_of d))
    where
      alive : w.gone i ≡ false
      alive = ap (λ (f : ℕ → Bool). f i) (sym same_lost_ones) ∙ lives

      go : (i ≡ node_of d) ⊎ (i ≡ node_of d → ⊥) → (v.world.node i).clock + k ≤ CLOCK_LIMIT
      go (inl own) =
          let clock : (v.world.node (node_of d)).clock ≡ next_clock (w.world.node (node_of d)).clock went_so.input =
          (ticks (losing_machine_of config) CLOCK_LIMIT w.world v.world d went_so).clock in
          let few : next_clock (w.world.node (node_of d)).clock went_so.input + k ≤ CLOCK_LIMIT =
          within (subst (IsHere config) own here) (subst (λ z. w.gone z ≡ false) own alive) went_so.input refl in
          subst (λ j. (v.world.node j).clock + k ≤ CLOCK_LIMIT) (sym own) (subst (λ n. n + k ≤ CLOCK_LIMIT) (sym clock) few)
      go (inr other) =
          let same : (v.world.node i).clock ≡ (w.world.node i).clock = (ticks (losing_machine_of config) CLOCK_LIMIT w.world v.world d went_so).others i other in
          let before : (w.world.node i).clock + suc k ≤ CLOCK_LIMIT = room i here alive in
          omega (arith, same, before)

room_among_run : (config : Config) (apart : IsDistinct same_atom (names_of config)) (ts : List (Event Action)) (es : List (LosingEvent Action))
    (w v : LosingFrameWorld) (k : ℕ) → LosingReaches config es w → LossesSeen config w → Leads config w (all_steps ts) v
    → LiveHaveRoom config w (length ts + k) → LiveHaveRoom config v k
room_among_run config apart [] es w v k l seen more room = subst (λ z. LiveHaveRoom config z k) more
    (λ i here lives. let all : (w.world.node i).clock + (0 + k) ≤ CLOCK_LIMIT = room i here lives in omega (arith, all))
room_among_run config apart (d ∷ ts) es w v k l seen more room =
    room_among_run config apart ts (es ++ Step d ∷ []) more.0 v k
    (leads_more config es (nobody_gone (start_of (losing_frame_machine config))) w more.0 (Step d) l more.1)
    (seen_later config apart es w more.0 l seen d more.1) more.2
    (room_among config apart es w more.0 l seen d more.1 (length ts + k)
    (λ i here lives. let all : (w.world.node i).clock + (suc (length ts) + k) ≤ CLOCK_LIMIT = room i here lives in omega (arith, all)))

-- where none is ready none becomes ready
pub none_on : (config : Config) (apart : IsDistinct same_atom (names_of config)) (events : List (LosingEvent Action)) (w : LosingFrameWorld)
    → LosingReaches config events w → LossesSeen config w → NoneReadyLive config w → (steps : List (Event Action)) (v : LosingFrameWorld)
    → Leads config w (all_steps steps) v → NoneReadyLive config v
none_on config apart events w l seen none steps v more i o there alive = not_true (is_ready_at config v i o)
    (λ ready. never (fewer_ready config apart i o steps events w v l seen more ready).0)
  where
    never : is_ready_at config w i o ≡ true → ⊥
    never ready = absurd (cc (sym ready ∙ none i o there (ap (λ (f : ℕ → Bool). f i) (sym (gone_later config apart steps w v more)) ∙ alive)))

timed_way : (xs : List (Stamped (Noticed Message))) (packet : Noticed Message) (rest : List (Noticed Message)) → packets_of xs ≡ packet ∷ rest
    → (x : Stamped (Noticed Message)) × (ys : List (Stamped (Noticed Message))) × (xs ≡ x ∷ ys)
timed_way [] packet rest e = absurd (cc)
timed_way (x ∷ ys) packet rest e = (x, ys, refl)

no_packets : (xs : List (Stamped (Noticed Message))) → packets_of xs ≡ [] → xs ≡ []
no_packets [] e = refl
no_packets (x ∷ xs) e = absurd (cc)

module _ (config : Config) (apart : IsDistinct same_atom (names_of config)) (events : List (LosingEvent Action)) (w : LosingFrameWorld)
    (l : LosingReaches config events w) (quiet : IsQuietLive config w) (h : ℕ) (here : IsHere config h) (lives : w.gone h ≡ false)
    (op : OpId) where
  abbrev s : State
  s = (w.world.node h).state

  abbrev counting : Nodes
  counting = live_nodes (nodes_at config h) (w.world.node h).state

  -- ---- it can be tried again

  module _ (opened : is_open ((w.world.node h).state.stages op) ≡ true) where
    waiting_so : waits counting (s.stages op) s ≡ true
    waiting_so = waits_for_retries config apart events w l quiet h here lives op ∙ opened

    port_there : nat_lt op.port (ports_at config h) ≡ true
    port_there = lt-ltb op.port (ports_at config h) ((all_count config events w h l).counts.within op opened).1

    abbrev turn : Turn State (Noticed Message) Report
    turn = mapped_turn Sent (place_turn config (tried_again (s.stages op) counting op s))

    made_so : (losing_machine_of config).step h (w.world.node h).state (Own (Retry op)) ≡ Some turn
    made_so = λ k. option_map (mapped_turn Sent) (placed config
        (cond (port_there k) (cond (waiting_so k) (Ok (tried_again (s.stages op) counting op s)) (Err NotWaiting)) (Err NoSuchPlace)))

    plain_so : happens (losing_machine_of config) (plain w.world) (Do h (Retry op)) ≡ Some (perform (plain w.world) h turn)
    plain_so = happens_so (losing_machine_of config) (plain w.world) (perform (plain w.world) h turn) (Do h (Retry op))
        (record { there = here; input = Own (Retry op); given = refl; turn = turn; made = made_so; leaves = refl })

    pub retry_happens : (w.world.node h).clock + 1 ≤ CLOCK_LIMIT → (v : LosingFrameWorld) × Leaves config w (Step (Do h (Retry op))) v
    unfolding losing_happens
    retry_happens room =
        let got = map_is_some plain (happens (losing_frame_machine config) w.world (Do h (Retry op))) (perform (plain w.world) h turn)
        (plain_happens (losing_machine_of config) CLOCK_LIMIT w.world (Do h (Retry op))
        ∙ (ap (λ b. cond b (happens (losing_machine_of config) (plain w.world) (Do h (Retry op))) None)
        (le-leb ((w.world.node h).clock + 1) CLOCK_LIMIT room) ∙ plain_so)) in (
          record { world = got.0; gone = w.gone },
          ap (λ b. cond b None (option_map (λ u. record { world = u; gone = w.gone }) (happens (losing_frame_machine config) w.world (Do h (Retry op))))) lives
              ∙ ap (option_map (λ u. record { world = u; gone = w.gone })) got.1,
        )

  -- ---- and is answered

  b : Bridged config apart (bare w)
  b = bridged config apart events w l

  -- each live node has seen each loss
  seen : LossesSeen config w
  seen = (among_live config apart events w l quiet).seen

  abbrev lost : Node → Bool
  lost = (w.world.node h).state.lost

  -- and no other
  known : (q : ℕ) → IsHere config q → (w.world.node h).state.lost (name_at config q) ≡ w.gone q
  known q there = go (w.gone q) refl
    where
      go : (away : Bool) → w.gone q ≡ away → (w.world.node h).state.lost (name_at config q) ≡ w.gone q
      go true away = seen h here lives q there away ∙ sym away
      go false alive = not_true ((w.world.node h).state.lost (name_at config q))
          (λ is. clash_of (b.has.gone (name_at config h) q there (b.has.sees h (name_at config q) here ∙ is)) alive) ∙ sym alive
        where
          clash_of : w.gone q ≡ true → w.gone q ≡ false → ⊥
          clash_of a c = absurd (cc (sym a ∙ c))

  still : IsStill config apart h here w.gone lost known lives (plain w.world)
  still x y pair alive = ap packets_of (quiet x y pair alive)

  module _ (u : Update) (waiting : (w.world.node h).state.stages op ≡ Waiting u) (free : IsFreeLive config w (name_of u))
      (ts : List (Event Action)) (only : OnlyTakes ts) (v : LosingFrameWorld) (more : Leads config w (all_steps (Do h (Retry op) ∷ ts)) v) where
    abbrev c : ℕ
    c = (w.world.node h).state.references + 1

    abbrev x : LosingFrameWorld
    x = more.0

    retried_by : Passed config (bare w) (bare x) (Step (Do h (Retry op)))
        → Happened (losing_machine_of config) (plain w.world) (Do h (Retry op)) (plain x.world) × (x.gone ≡ w.gone)
    retried_by (Went d is alive h_ same) =
        (subst (λ z. Happened (losing_machine_of config) (plain w.world) z (plain x.world)) (retry_is is) h_, same)
    retried_by (Died j keep is there alive cut gone) = absurd (no_loss is)

    retried : Happened (losing_machine_of config) (plain w.world) (Do h (Retry op)) (plain x.world) × (x.gone ≡ w.gone)
    retried = retried_by (passed config w x (Step (Do h (Retry op))) more.1)

    abbrev total_weight : ℕ
    total_weight = total (length config) (weight config apart h here w.gone lost known lives op u c (λ q. Ahead))

    first : Alone config apart h here w.gone lost known lives op u c (plain x.world) total_weight
    first = begun config apart h here w.gone lost known lives (plain w.world) (plain x.world) op u waiting retried.0 refl still
        (λ i there alive. is_formed_live config apart events w l quiet i there alive) (λ i there alive. free i there alive)

    last : (now : ℕ) × (total_weight ≡ length ts + now) × Alone config apart h here w.gone lost known lives op u c (plain v.world) now
    last = taken_all config apart h here w.gone lost known lives op u c ts only x v more.2 retried.1 total_weight first

    abbrev now : ℕ
    now = last.0

    abbrev peers : ℕ
    peers = live_peer_count config w

    sum : length ts + now ≡ 5 * peers
    sum =
        let all : total_weight ≡ 5 * peers = begun_many config apart h here w.gone lost known lives (plain w.world) (plain x.world) op u waiting retried.0 refl still
        (λ i there alive. is_formed_live config apart events w l quiet i there alive) (λ i there alive. free i there alive) in
        let taken : total_weight ≡ length ts + now = last.1 in
        omega (arith, all, taken)

    abbrev all_events : List (LosingEvent Action)
    all_events = events ++ all_steps (Do h (Retry op) ∷ ts)

    reached : LosingReaches config all_events v
    reached = leads_on config events (all_steps (Do h (Retry op) ∷ ts)) (nobody_gone (start_of (losing_frame_machine config))) w v l more

    gone_same : v.gone ≡ w.gone
    gone_same = gone_later config apart (Do h (Retry op) ∷ ts) w v more

    alive_there : v.gone h ≡ false
    alive_there = ap (λ (f : ℕ → Bool). f h) gone_same ∙ lives

    -- those that count are the same
    same_nodes : live_nodes (nodes_at config h) (v.world.node h).state ≡ counting
    same_nodes = live_same (nodes_at config h) (v.world.node h).state (w.world.node h).state (sym (last.2.knew))

    unready_there : is_ready_at config v h op ≡ false
    unready_there = not_true (is_ready_at config v h op)
        (λ ready. never ((fewer_ready config apart h op (Do h (Retry op) ∷ ts) events w v l seen more ready).0))
      where
        never : is_ready_at config w h op ≡ true → ⊥
        never ready = absurd (cc (sym ready ∙ ap (λ z. is_ready counting z s) waiting))

    unready : is_ready counting ((v.world.node h).state.stages op) (v.world.node h).state ≡ false
    unready = ap (λ z. is_ready z ((v.world.node h).state.stages op) (v.world.node h).state) (sym same_nodes) ∙ unready_there

    quiet_if : IsStill config apart h here w.gone lost known lives (plain v.world) → IsQuietLive config v
    quiet_if none a y pair alive = no_packets (v.world.wire a y) (none a y pair (ap (λ (f : ℕ → Bool). f y) (sym gone_same) ∙ alive))

    waits_so : IsStill config apart h here w.gone lost known lives (plain v.world)
        → waits counting ((v.world.node h).state.stages op) (v.world.node h).state ≡ is_open ((v.world.node h).state.stages op)
    waits_so none = ap (λ z. waits z ((v.world.node h).state.stages op) (v.world.node h).state) (sym same_nodes)
        ∙ waits_for_retries config apart all_events v reached (quiet_if none) h here alive_there op

    as_many : nat_lt peers now ≡ nat_lt (length ts) (4 * peers)
    as_many = go (cases_lt peers now)
      where
        go : (peers < now) ⊎ (now ≤ peers) → nat_lt peers now ≡ nat_lt (length ts) (4 * peers)
        go (inl more_) = lt-ltb peers now more_ ∙ sym (lt-ltb (length ts) (4 * peers) (omega (arith, sum, more_)))
        go (inr few) = le-ltb peers now few ∙ sym (le-ltb (length ts) (4 * peers) (omega (arith, sum, few)))

    module _ (room : LiveHaveRoom config w (1 + 5 * live_peer_count config w)) where
      room_later : LiveHaveRoom config v now
      room_later = room_among_run config apart (Do h (Retry op) ∷ ts) events w v now l seen more
          (λ i there alive. let before : (w.world.node i).clock + (1 + 5 * peers) ≤ CLOCK_LIMIT = room i there alive in omega (arith, before, sum))

      seen_there : LossesSeen config v
      seen_there = seen_run config apart (Do h (Retry op) ∷ ts) events w v l seen more

      next_taken : (a y : ℕ) (packet : Stamped (Noticed Message)) (rest : List (Stamped (Noticed Message))) → is_pair (length config) a y ≡ true
          → v.gone y ≡ false → v.world.wire a y ≡ packet ∷ rest
          → (z : LosingFrameWorld) × (losing_happens (losing_frame_machine config) last_notice v (Step (Take y a)) ≡ Some z)
      next_taken a y packet rest pair alive is = go (cases_lt 0 now)
        where
          there : IsHere config a
          there = pair_first (length config) a y pair

          by_peer : v.gone a ≡ false
          by_peer = not_true (v.gone a) (λ away.
              absurd (cc (sym (all_silent config apart all_events v reached a y there (pair_second (length config) a y pair)
              (pair_apart (length config) a y pair) (seen_there y (pair_second (length config) a y pair) alive a there away)) ∙ ap packets_of is)))

          go : (0 < now) ⊎ (now ≤ 0) → (z : LosingFrameWorld) × (losing_happens (losing_frame_machine config) last_notice v (Step (Take y a)) ≡ Some z)
          go (inl some) =
              let own : (v.world.node y).clock + now ≤ CLOCK_LIMIT = room_later y (pair_second (length config) a y pair) alive in
              let peer : (v.world.node a).clock + now ≤ CLOCK_LIMIT = room_later a there by_peer in
              next_with_room config apart all_events v reached a y (omega (arith, own, some)) (omega (arith, peer, some)) packet rest pair alive is
          go (inr none) =
              let nothing : v.world.wire a y ≡ [] = quiet_if (still_again config apart h here w.gone lost known lives op u c (plain v.world) now last.2 unready waits_so (omega (arith, none))) a y pair alive in
              absurd (cc (sym nothing ∙ is))

      pub retry_goes : RetryGoesPastLosses config w h op (length ts) v
      retry_goes = record {
        gone = gone_same;
        within = omega (arith, sum);
        open_until = opens config apart h here w.gone lost known lives op u c (plain v.world) now last.2 unready waits_so ∙ as_many;
        answered = λ enough. ends_answered config apart h here w.gone lost known lives op u c (plain v.world) now last.2 unready waits_so (omega (arith, sum, enough));
        quiet = λ all. quiet_if (still_again config apart h here w.gone lost known lives op u c (plain v.world) now last.2 unready waits_so (omega (arith, sum, all)));
        on_the_way = λ fewer.
            let found = some_packet config apart h here w.gone lost known lives op u c (plain v.world) now last.2 unready waits_so (omega (arith, sum, fewer)) in
            let way = timed_way (v.world.wire found.0 found.1) found.2 found.3 found.7 in (
              found.0,
              found.1,
              way.0,
              way.1,
              found.4,
              ap (λ (f : ℕ → Bool). f found.0) gone_same ∙ found.5,
              ap (λ (f : ℕ → Bool). f found.1) gone_same ∙ found.6,
              way.2,
            );
        is_taken = next_taken;
      }

  -- ---- where none is ready

  module _ (none : NoneReadyLive config w) where
    -- each open command waits for its retry, with no attempt under way
    waiting_is : is_open ((w.world.node h).state.stages op) ≡ true → (u : Update) × ((w.world.node h).state.stages op ≡ Waiting u)
    waiting_is opened = go (s.stages op) refl (waiting_so opened) opened (none h op here lives)
      where
        go : (stage : Stage) → s.stages op ≡ stage → waits counting (s.stages op) s ≡ true → is_open (s.stages op) ≡ true
            → is_ready counting (s.stages op) s ≡ false → (u : Update) × (s.stages op ≡ Waiting u)
        go (Waiting u) is _ _ _ = (u, is)
        go Closed is _ open_ _ = absurd (cc (sym open_ ∙ ap is_open is))
        go (Asking k) is wait _ ready = absurd (cc (sym wait ∙ (ap (λ z. waits counting z s) is ∙ (sym (ap (λ z. is_ready counting z s) is) ∙ ready))))
        go (Changing k) is wait _ ready = absurd (cc (sym wait ∙ (ap (λ z. waits counting z s) is ∙ (sym (ap (λ z. is_ready counting z s) is) ∙ ready))))

    pub free_for : (u : Update) → IsFreeLive config w (name_of u)
    free_for u i there alive = no_lock config apart events w l quiet none i (name_of u) there alive

    pub none_later : (steps : List (Event Action)) (v : LosingFrameWorld) → Leads config w (all_steps steps) v → NoneReadyLive config v
    none_later steps v more = none_on config apart events w l seen none steps v more

    pub open_waits : is_open ((w.world.node h).state.stages op) ≡ true → (u : Update) × ((w.world.node h).state.stages op ≡ Waiting u)
    open_waits opened = waiting_is opened

    -- so it is answered
    module _ (opened : is_open ((w.world.node h).state.stages op) ≡ true) (room : LiveHaveRoom config w (1 + 5 * live_peer_count config w))
        (ts : List (Event Action)) (only : OnlyTakes ts) (v : LosingFrameWorld) (more : Leads config w (all_steps (Do h (Retry op) ∷ ts)) v) where
      pub retry_answered : RetryGoesPastLosses config w h op (length ts) v
      retry_answered =
          let waits_now = waiting_is opened in
          retry_goes waits_now.0 waits_now.1 (free_for waits_now.0) ts only v more room

      pub locks_free : length ts ≡ 5 * live_peer_count config w → NoLockLive config v
      locks_free all = no_lock config apart (events ++ all_steps (Do h (Retry op) ∷ ts)) v
          (leads_on config events (all_steps (Do h (Retry op) ∷ ts)) (nobody_gone (start_of (losing_frame_machine config))) w v l more)
          (retry_answered.quiet all) (none_later (Do h (Retry op) ∷ ts) v more)

pub none_on_quiet : (config : Config) (apart : IsDistinct same_atom (names_of config)) (events : List (LosingEvent Action)) (w : LosingFrameWorld)
    → LosingReaches config events w → IsQuietLive config w → NoneReadyLive config w → (i : ℕ) (op : OpId) (ts : List (Event Action)) (v : LosingFrameWorld)
    → Leads config w (all_steps (Do i (Retry op) ∷ ts)) v → NoneReadyLive config v
none_on_quiet config apart events w l quiet none i op ts v more =
    none_on config apart events w l ((among_live config apart events w l quiet).seen) none (Do i (Retry op) ∷ ts) v more
