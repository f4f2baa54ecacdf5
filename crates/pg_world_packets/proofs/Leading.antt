-- The past of a world, and what a step adds to it.
use Rattle.std.proofs.Common.{◌≡◌, ◌↔◌, ◌<◌, ◌≤◌, ℕ, Bool, true, false, length, take, List, [], ◌∷◌}
use Rattle.std.proofs.Common.{◌++◌, Option, Some, None, Result, Ok, Err, refl, sym, ap, ◌∙◌, subst, arith}
use Rattle.std.specs.Prelude.{drop, is_none, slice_get}
use Rattle.std.specs.List.{IsDistinct, list_all}
use Rattle.std.specs.Option.{option_map_or}
use Rattle.std.proofs.lemmas.Option.{slice_get_within}
use Rattle.std.proofs.lemmas.Bool.{lt-ltb}
use Rattle.std.proofs.lemmas.List.{take-append-le}
use Rattle.std.proofs.Math.Seq.{take-length}
use Rattle.pg_term.specs.declared.term.Term.{Term}
use Rattle.pg_term.specs.RefParts.{RefParts}
use Rattle.pg_term.specs.Same.{same_atom}
use Rattle.pg_node_state.specs.PgStep.Machines.Clocked.{Timed, plain}
use Rattle.pg_node_state.specs.PgStep.Machines.Losing.{LosingEvent, Step, Lose, LosingLeads}
use Rattle.pg_node_state.specs.PgStep.Machines.Losing.{losing_happens, nobody_gone, all_steps}
use Rattle.pg_node_state.specs.PgStep.Machines.Machine.{start_of}
use Rattle.pg_node_state.specs.PgStep.Machines.Places.{is_place}
use Rattle.pg_node_state.specs.PgStep.Config.{Config, names_of, nodes_at}
use Rattle.pg_node_state.specs.PgStep.FrameMachine.{losing_frame_machine, last_notice}
use Rattle.pg_node_state.specs.PgStep.LossLaws.{LosingFrameWorld}
use Rattle.pg_node_state.specs.PgStep.Nodes.{Node}
use Rattle.pg_node_state.specs.PgStep.State.{State, formed as formed_by}
use Rattle.pg_node_state.specs.PgStep.Step.{Action}
use Rattle.pg_node_state.proofs.PgStep.Unnoticed.{without_losses}
use Rattle.pg_laws_losses.proofs.PgLaws.places.Clauses.{one_history}
use Rattle.pg_laws_losses.proofs.PgLaws.quiet.Unstuck.{unstuck}
use Rattle.pg_laws_losses.specs.Reached.{LosingReaches, steps_of}
use Rattle.pg_laws_losses.specs.Retrying.Survived.{LossesSurvived}
use Rattle.pg_laws_losses.specs.PgLaws.History.{Entry, LockFree, NonePending, history, applied_count, is_formed}
use Rattle.pg_laws_losses.specs.PgLaws.WithLosses.{NonePendingLive}
use Rattle.pg_laws_losses.proofs.PgLaws.steps.Lossless.{NoneLost, nobody_timed}
use Rattle.pg_laws_losses.proofs.Lasts.{history_later, lost_for_good}
use Rattle.pg_node_state.specs.declared.state.fault.NodeFault.{NodeFault}
use Rattle.pg_node_state.specs.declared.state.fault.NodeFault.TheVariants.{Refused, OutOfMemory}
use Rattle.pg_node_state.specs.declared.state.fault.NodeFault.TheVariants.{Message as BadMessage, TooLong, Damaged}
use Rattle.pg_world_packets.specs.declared.step.FrameStep.{FrameStep}
use Rattle.pg_world_packets.specs.declared.step.Stepped.{Stepped}
use Rattle.pg_world_packets.specs.declared.step.Stepped.TheVariants.{Happened, Moved, Nothing, Gone}
use Rattle.pg_world_packets.specs.Losing.{Telling, LosingComesTo, ShowsLosing, formed_after, losing_of, told_of}
use Rattle.pg_world_packets.specs.Runs.{GoesTo, IsToldEvent}
use Rattle.pg_world_account.specs.Losses.{is_lost}
use Rattle.pg_world_packets.specs.Past.{Adds, HasHeadline, IsPast, HasPast, LedOn, PastGoesOn, FramesHavePast}
use Rattle.pg_world_packets.specs.Past.{FormedFirst, FramesGoOn, FramesRunOn, HistoriesGrow, MissedInRun, RanFrames, missed_in}
use Rattle.pg_world_packets.specs.Pending.{AgreeOn, has_formed, pending_of, sees_free}
use Rattle.pg_world_packets.specs.Starts.{Begins, Orders}
use Rattle.pg_world_config.specs.Seen.{Seen}
use Rattle.pg_world_packets.specs.Views.{View}
use Rattle.pg_world_account.specs.Histories.{Account}
use Rattle.pg_world_packets.specs.Worlds.{TimedFrameWorld, ShowsNodes, ShowsUpdates}
use Rattle.pg_world_packets.proofs.AtLosses.{ToldBehind, lost_here, none_told, told_more, told_same}
use Rattle.pg_world_packets.proofs.FormedSeen.{ToldOf, told_frames}
use Rattle.pg_world_packets.proofs.Ordered.{ordered_length}
use Rattle.pg_laws_losses.specs.Remains.Missed.{missed}
use Rattle.pg_world_packets.proofs.MissedSeen.{missed_is}
use Rattle.pg_world_packets.proofs.Running.{leads, start_shown}

-- ---- events of which none is a loss

-- where nobody is gone, all events are steps
pub none_lost : (config : Config) (events : List (LosingEvent Action)) (u v : LosingFrameWorld) → LosingLeads (losing_frame_machine config) last_notice u events v → ((i : ℕ) → v.gone i ≡ false)
    → events ≡ all_steps (steps_of events)
none_lost config [] u v led none = refl
none_lost config (Step e ∷ es) u v led none = ap (λ (xs : List (LosingEvent Action)). Step e ∷ xs) (none_lost config es led.0 v led.2 none)
none_lost config (Lose i keep ∷ es) u v led none =
    let gone = lost_for_good config led.0 v es i (lost_here config u led.0 i keep led.1) led.2 in
    let never : true ≡ false = sym gone ∙ none i in absurd (cc)

pub headline : (config : Config) (events : List (LosingEvent Action)) (u : LosingFrameWorld) → IsDistinct same_atom (names_of config) → LosingReaches config events u
    → ((i : ℕ) → u.gone i ≡ false) → HasHeadline config events u
headline config events u apart reached none =
    let steps = none_lost config events (nobody_gone (start_of (losing_frame_machine config))) u reached none in
    let run = without_losses config (steps_of events) u (subst (λ (es : List (LosingEvent Action)). LosingReaches config es u) steps reached) in
    record {
      w = run.0;
      is = run.2;
      reached = run.1;
      history = one_history config apart (steps_of events) run.0 run.1;
      unstuck = unstuck config apart (steps_of events) run.0 run.1;
    }

-- where nobody is gone no node has seen a loss
pub none_seen : (config : Config) (events : List (LosingEvent Action)) (u : LosingFrameWorld) → LosingReaches config events u → ((x : ℕ) → u.gone x ≡ false) → (k : ℕ) → NoneLost (u.world.node k).state
none_seen config events u reached none k =
    let steps = none_lost config events (nobody_gone (start_of (losing_frame_machine config))) u reached none in
    let run = without_losses config (steps_of events) u (subst (λ (es : List (LosingEvent Action)). LosingReaches config es u) steps reached) in
    ap (λ (x : LosingFrameWorld). (x.world.node k).state.lost) run.2 ∙ nobody_timed config (steps_of events) run.0 run.1 k

-- ---- what leads on

pub leads_on : (config : Config) (es fs : List (LosingEvent Action)) (w u v : LosingFrameWorld) → LosingLeads (losing_frame_machine config) last_notice w es u → LosingLeads (losing_frame_machine config) last_notice u fs v
    → LosingLeads (losing_frame_machine config) last_notice w (es ++ fs) v
leads_on config [] fs w u v same led = subst (λ (x : LosingFrameWorld). LosingLeads (losing_frame_machine config) last_notice x fs v) (sym same) led
leads_on config (e ∷ es) fs w u v (x, happened, rest) led = (x, happened, leads_on config es fs x u v rest led)

abbrev pub Survive : Type 0
Survive = (config : Config) (u : LosingFrameWorld) (events : List (LosingEvent Action)) → IsDistinct same_atom (names_of config) → LosingReaches config events u → LossesSurvived config events u

abbrev pub AreApart : (Config → LosingFrameWorld → Type 0) → Type 0
AreApart Shown = (config : Config) (u : LosingFrameWorld) → Shown config u → IsDistinct same_atom (names_of config)

-- The world v is the world u, and S is told, or one event leads there, of which T is told.
pub data Near (config : Config) (T : LosingEvent Action → Type 0) (S : Type 0) (u v : LosingFrameWorld) : Type 0 where
  Here : u ≡ v → S → Near config T S u v
  Next : (e : LosingEvent Action) → losing_happens (losing_frame_machine config) last_notice u e ≡ Some v → T e → Near config T S u v

-- where it is told whether every node was formed when the first was lost, before it and behind it, and which events are added
abbrev pub NearBy : Config → (List (LosingEvent Action) → Type 0) → Bool → Bool → LosingFrameWorld → LosingFrameWorld → Type 0
NearBy config Added was now u v = Near config (λ e. ToldBehind config u e was now × Added (e ∷ [])) ((now ≡ was) × Added []) u v

module _ (given : Config) (New : Config → LosingFrameWorld → Type 0) (apart : AreApart New) (survive : Survive) where
  pub past_of : (config : Config) (events : List (LosingEvent Action)) (u : LosingFrameWorld) → Orders given config → LosingReaches config events u → New config u → IsPast given New config events u
  past_of config events u orders reached shows = record {
    orders = orders;
    reached = reached;
    shows = shows;
    survived = survive config u events (apart config u shows) reached;
    history = headline config events u (apart config u shows) reached;
  }

  past_here : (config : Config) (events : List (LosingEvent Action)) (u v : LosingFrameWorld) → Orders given config → LosingReaches config events u → u ≡ v → New config v → IsPast given New config (events ++ []) v
  past_here config events u v orders reached same shows =
      past_of config (events ++ []) v orders (leads_on config events [] (nobody_gone (start_of (losing_frame_machine config))) u v reached same) shows

  past_next : (config : Config) (events : List (LosingEvent Action)) (u v : LosingFrameWorld) (e : LosingEvent Action) → Orders given config → LosingReaches config events u
      → losing_happens (losing_frame_machine config) last_notice u e ≡ Some v → New config v → IsPast given New config (events ++ e ∷ []) v
  past_next config events u v e orders reached happened shows =
      past_of config (events ++ e ∷ []) v orders (leads_on config events (e ∷ []) (nobody_gone (start_of (losing_frame_machine config))) u v reached (v, happened, refl)) shows

  -- what is near
  pub led_near : (Added : List (LosingEvent Action) → Type 0) (was now : Bool) (config : Config) (events : List (LosingEvent Action)) (u v : LosingFrameWorld) → Orders given config → LosingReaches config events u
      → NearBy config Added was now u v → New config v → LedOn given New Added config events u v
  led_near Added was now config events u v orders reached (Here same told) shows = record {
    more = [];
    added = told.1;
    led = same;
    past = past_here config events u v orders reached same shows;
  }
  led_near Added was now config events u v orders reached (Next e happened told) shows = record {
    more = e ∷ [];
    added = told.1;
    led = (v, happened, refl);
    past = past_next config events u v e orders reached happened shows;
  }

  module _ (Is : Config → LosingFrameWorld → LosingEvent Action → Type 0) (result : Result Stepped NodeFault) (was now : Bool) (Old : Config → LosingFrameWorld → Type 0)
      (Comes : Config → LosingFrameWorld → (LosingFrameWorld → Type 0) → Type 0)
      -- what comes of a step leads to near worlds
      (mapped : (config : Config) (u : LosingFrameWorld) → Old config u → (((x : ℕ) → u.gone x ≡ false) → (k : ℕ) → NoneLost (u.world.node k).state)
      → (P Q : LosingFrameWorld → Type 0) → ((v : LosingFrameWorld) → NearBy config (Adds (Is config u) result) was now u v → P v → Q v) → Comes config u P → Comes config u Q) where
    pub goes_on : HasPast given was Old → ((config : Config) (u : LosingFrameWorld) (events : List (LosingEvent Action)) → LosingReaches config events u → Old config u → Comes config u (New config))
        → PastGoesOn Is given Old New result Comes
    goes_on past came = record {
      config = past.config;
      events = past.events;
      u = past.u;
      past = past.is;
      comes = mapped past.config past.u past.is.shows (none_seen past.config past.events past.u past.is.reached) (New past.config) (LedOn given New (Adds (Is past.config past.u) result) past.config past.events past.u)
          (λ v near shows. led_near (Adds (Is past.config past.u) result) was now past.config past.events past.u v past.is.orders past.is.reached near shows)
          (came past.config past.u past.events past.is.reached past.is.shows);
    }

    -- what it leaves has a past
    pub past_after : ((config : Config) (u : LosingFrameWorld) (Q : LosingFrameWorld → Type 0) → Comes config u Q → (v : LosingFrameWorld) × Q v) → HasPast given was Old
        → ((config : Config) (u : LosingFrameWorld) (events : List (LosingEvent Action)) → LosingReaches config events u → Old config u → Comes config u (New config)) → HasPast given now New
    past_after some past came =
        let Q = λ (v : LosingFrameWorld). NearBy config (Adds (Is config u) result) was now u v × New config v in
        let led = some config u Q (mapped config u past.is.shows (none_seen config events u past.is.reached) (New config) Q (λ v near shows. (near, shows)) (came config u events past.is.reached past.is.shows)) in
        go led.0 led.1.0 led.1.1
      where
        config : Config
        config = past.config

        events : List (LosingEvent Action)
        events = past.events

        u : LosingFrameWorld
        u = past.u

        go : (v : LosingFrameWorld) → NearBy config (Adds (Is config u) result) was now u v → New config v → HasPast given now New
        go v (Here same told) shows = record {
          config = config;
          events = events ++ [];
          u = v;
          is = past_here config events u v past.is.orders past.is.reached same shows;
          at_losses = told_same config events was now told.0 past.at_losses;
          few = past.few;
        }
        go v (Next e happened told) shows = record {
          config = config;
          events = events ++ e ∷ [];
          u = v;
          is = past_next config events u v e past.is.orders past.is.reached happened shows;
          at_losses = told_more config events u past.is.reached e was now told.0 past.at_losses;
          few = past.few;
        }

-- ---- over packets

-- worlds that a step leads to
module _ (config : Config) (u : LosingFrameWorld) (T : LosingEvent Action → Type 0) (S : Type 0) (told : Telling) (P Q : LosingFrameWorld → Type 0) (onward : (v : LosingFrameWorld) → Near config T S u v → P v → Q v) where
  pub comes_on : (result : Result Stepped NodeFault) → ToldOf T S told.event result → LosingComesTo config u told result P → LosingComesTo config u told result Q
  comes_on (Ok (Happened effect)) so (kind, busy, did, (v, happened, shown)) = (kind, busy, did, (v, happened, onward v (Next told.event happened so) shown))
  comes_on (Ok Gone) so (kind, busy, (v, happened, shown)) = (kind, busy, (v, happened, onward v (Next told.event happened so) shown))
  comes_on (Ok Nothing) so (idle, unrefused, shown) = (idle, unrefused, onward u (Here refl so) shown)
  comes_on (Ok (Moved count)) so comes = absurd comes
  comes_on (Err OutOfMemory) so (late, shown) = (late, onward u (Here refl so) shown)
  comes_on (Err (Refused refusal)) so (is, shown) = (is, onward u (Here refl so) shown)
  comes_on (Err (BadMessage m)) so comes = absurd comes
  comes_on (Err TooLong) so comes = absurd comes
  comes_on (Err Damaged) so comes = absurd comes

-- the events that a step adds, beside what is told of it
pub with_added : (config : Config) (u : LosingFrameWorld) (T : LosingEvent Action → Type 0) (S : Type 0) (told : Telling) (P : LosingFrameWorld → Type 0) (result : Result Stepped NodeFault)
    → LosingComesTo config u told result P → ToldOf T S told.event result
    → ToldOf (λ e. T e × Adds (IsToldEvent told) result (e ∷ [])) (S × Adds (IsToldEvent told) result []) told.event result
with_added config u T S told P (Ok (Happened effect)) comes so = (so, (told.event, (refl, comes.1), refl))
with_added config u T S told P (Ok Gone) comes so = (so, (told.event, (refl, comes.1), refl))
with_added config u T S told P (Ok Nothing) comes so = (so, refl)
with_added config u T S told P (Ok (Moved count)) comes so = absurd comes
with_added config u T S told P (Err fault) comes so = (so, refl)

-- one of them
pub some_comes : (config : Config) (u : LosingFrameWorld) (told : Telling) (Q : LosingFrameWorld → Type 0) (result : Result Stepped NodeFault) → LosingComesTo config u told result Q → (v : LosingFrameWorld) × Q v
some_comes config u told Q (Ok (Happened effect)) (kind, busy, did, (v, happened, shown)) = (v, shown)
some_comes config u told Q (Ok Gone) comes = (comes.2.0, comes.2.2)
some_comes config u told Q (Ok Nothing) comes = (u, comes.2)
some_comes config u told Q (Ok (Moved count)) comes = absurd comes
some_comes config u told Q (Err OutOfMemory) comes = (u, comes.1)
some_comes config u told Q (Err (Refused refusal)) comes = (u, comes.1)
some_comes config u told Q (Err (BadMessage m)) comes = absurd comes
some_comes config u told Q (Err TooLong) comes = absurd comes
some_comes config u told Q (Err Damaged) comes = absurd comes

module _ (given : Config) (survive : Survive) (old : View) (lost : List ℕ) (step : FrameStep) (result : Result Stepped NodeFault) (new : View) (now : List ℕ)
    (came : (config : Config) (u : LosingFrameWorld) → ShowsLosing config old lost u → LosingComesTo config u (told_of config u step) result (ShowsLosing config new now))
    (told : new.account.formed ≡ formed_after step result old.traffic.nodes lost old.account.formed) where
  abbrev After : Config → LosingFrameWorld → Type 0
  After config u = ShowsLosing config new now u

  apart : AreApart After
  apart config u shows = shows.shows.traffic.nodes.apart

  abbrev Comes : Config → LosingFrameWorld → (LosingFrameWorld → Type 0) → Type 0
  Comes config u Shown = LosingComesTo config u (told_of config u step) result Shown

  abbrev Before : Config → LosingFrameWorld → Type 0
  Before config u = ShowsLosing config old lost u

  abbrev IsEvent : Config → LosingFrameWorld → LosingEvent Action → Type 0
  IsEvent config u e = IsToldEvent (told_of config u step) e

  onward_from : (config : Config) (u : LosingFrameWorld) → Before config u → (((x : ℕ) → u.gone x ≡ false) → (k : ℕ) → NoneLost (u.world.node k).state)
      → (P Q : LosingFrameWorld → Type 0) → ((v : LosingFrameWorld) → NearBy config (Adds (IsToldEvent (told_of config u step)) result) old.account.formed new.account.formed u v → P v → Q v) → Comes config u P → Comes config u Q
  onward_from config u shows seen P Q onward comes =
      let Added = Adds (IsToldEvent (told_of config u step)) result in
      let Behind = λ (e : LosingEvent Action). ToldBehind config u e old.account.formed new.account.formed in
      let Same = new.account.formed ≡ old.account.formed in
      comes_on config u (λ e. Behind e × Added (e ∷ [])) (Same × Added []) (told_of config u step) P Q onward result
      (with_added config u Behind Same (told_of config u step) P result comes
      (told_frames config old.traffic.nodes lost shows.frames u shows.shows.traffic.nodes shows.is seen P old.account.formed new.account.formed step result told comes)) comes

  pub frames_go_on : FramesHavePast given old lost → FramesGoOn given old lost step result new now
  frames_go_on past = goes_on given After apart survive IsEvent result old.account.formed new.account.formed Before Comes onward_from past (λ config u events reached shows. came config u shows)

  pub frames_past : FramesHavePast given old lost → FramesHavePast given new now
  frames_past past = past_after given After apart survive IsEvent result old.account.formed new.account.formed Before Comes onward_from
      (λ config u Q comes. some_comes config u (told_of config u step) Q result comes) past (λ config u events reached shows. came config u shows)

-- steps, one after another
pub frames_run_on : (given : Config) → Survive → (old : View) (lost : List ℕ) (all : List FrameStep) (numbers : List ℕ) (new : View) (now : List ℕ)
    → ((config : Config) (u : LosingFrameWorld) → ShowsLosing config old lost u → GoesTo config u all numbers (ShowsLosing config new now))
    → FramesHavePast given old lost → FramesRunOn given old lost all numbers new now
frames_run_on given survive old lost all numbers new now came past =
    let start = nobody_gone (start_of (losing_frame_machine past.config)) in
    let goes = came past.config past.u past.is.shows in
    let led = leads past.config all numbers past.u goes.left goes.events goes.runs in
    record {
      config = past.config;
      events = past.events;
      u = past.u;
      past = past.is;
      more = goes.events;
      v = goes.left;
      runs = goes.runs;
      later = past_of given (λ config u. ShowsLosing config new now u) (λ config u shows. shows.shows.traffic.nodes.apart) survive past.config (past.events ++ goes.events) goes.left past.is.orders
          (leads_on past.config past.events goes.events start past.u goes.left past.is.reached led) goes.shown;
    }

-- a run from the start of a configuration
pub frames_ran : Survive → (given : Config) (before : View) (all : List FrameStep) (numbers : List ℕ) (new : View) (now : List ℕ) → Begins given before
    → ((config : Config) (u : LosingFrameWorld) → ShowsLosing config before [] u → GoesTo config u all numbers (ShowsLosing config new now))
    → RanFrames given all numbers (λ config. ShowsLosing config new now)
frames_ran survive given before all numbers new now begins came =
    let config = begins.0 in
    let start = nobody_gone (start_of (losing_frame_machine config)) in
    let goes = came config start (start_shown config before begins.2) in
    record {
      config = config;
      events = goes.events;
      u = goes.left;
      runs = goes.runs;
      past = past_of given (λ c u. ShowsLosing c new now u) (λ c u shows. shows.shows.traffic.nodes.apart) survive config goes.events goes.left begins.1
          (leads config all numbers start goes.left goes.events goes.runs) goes.shown;
    }

-- the start of a configuration
pub frames_begin : (survive : Survive) (given : Config) (view : View) (lost : List ℕ) → lost ≡ [] → view.account.formed ≡ true → length given ≤ 16 → Begins given view → FramesHavePast given view lost
frames_begin survive given view lost none formed few begins =
    let config = begins.0 in
    let start = nobody_gone (start_of (losing_frame_machine config)) in
    record {
      config = config;
      events = [];
      u = start;
      is = past_of given (λ c u. ShowsLosing c view lost u) (λ c u shows. shows.shows.traffic.nodes.apart) survive config [] start begins.1 refl
          (subst (λ (l : List ℕ). ShowsLosing config view l start) (sym none) (start_shown config view begins.2));
      at_losses = (λ _. none_told config, λ _. formed);
      few = let same = ordered_length given config begins.1 in omega (arith, few, same);
    }

-- ---- what is known of a world with a past

grown : (was is old new : List Entry) → ((more : List Entry) × (is ≡ was ++ more)) → old ≡ was → new ≡ is → take (length old) new ≡ old
grown was is old new (more, same) from to =
    ap (λ (xs : List Entry). take (length xs) new) from ∙ ap (take (length was)) (to ∙ same) ∙ take-append-le (length was) was more (omega arith) ∙ take-length was ∙ sym from

-- each history begins with the older one, where events led on
pub histories_grow : (config : Config) (old new : Account) (u v : LosingFrameWorld) (events : List (LosingEvent Action)) → ((name : Term) → old.histories name ≡ history name u.world.reported)
    → ((name : Term) → new.histories name ≡ history name v.world.reported) → LosingLeads (losing_frame_machine config) last_notice u events v → HistoriesGrow old new
histories_grow config old new u v events before after led name =
    grown (history name u.world.reported) (history name v.world.reported) (old.histories name) (new.histories name) (history_later config u v events led name) (before name) (after name)

-- a node that sees a lock free
unheld : (o : Option RefParts) → is_none o ≡ true → o ≡ None
unheld None e = refl
unheld (Some holder) e = absurd (cc)

freed : (at : Option Seen) (name : Term) → option_map_or (λ (node : Seen). is_none (node.state.state.locks name)) at false ≡ true → (node : Seen) × (at ≡ Some node) × (node.state.state.locks name ≡ None)
freed None name e = absurd (cc)
freed (Some node) name e = (node, refl, unheld (node.state.state.locks name) e)

-- nodes, and what is kept of their updates, are those of a world with losses
module _ (config : Config) (nodes : List Seen) (account : Account) (lost : List ℕ) (frames : TimedFrameWorld) (u : LosingFrameWorld)
    (shows : ShowsNodes config nodes frames) (updates : ShowsUpdates account frames) (is : u ≡ losing_of config frames lost) where
  pub history_is : (name : Term) → account.histories name ≡ history name u.world.reported
  history_is name = updates.history name ∙ sym (ap (λ (x : LosingFrameWorld). history name x.world.reported) is)

  -- where a node sees the lock of a group free, and no node is lost, each node has applied all of its history
  pub applied_there : (events : List (LosingEvent Action)) → (((i : ℕ) → u.gone i ≡ false) → HasHeadline config events u) → lost ≡ [] → (x : ℕ) (node : Seen) (name : Term) → slice_get nodes x ≡ Some node
      → node.state.state.locks name ≡ None → x < length nodes → (i : ℕ) → i < length nodes → account.applied i name ≡ length (account.histories name)
  applied_there events headlines none x node name at free inside i within =
      let gone = λ (k : ℕ). ap (λ (w : LosingFrameWorld). w.gone k) is ∙ ap (λ (l : List ℕ). is_lost l k) none in
      let headline = headlines gone in
      let one = sym headline.is ∙ is in
      let reported = ap (λ (w : LosingFrameWorld). w.world.reported) one in
      let locks = ap (λ (w : LosingFrameWorld). (w.world.node x).state.locks name) one ∙ ap (λ (s : Timed State). s.state.locks name) (shows.each x node at).state ∙ free in
      let applied = headline.history.applies.free i x name (lt-ltb i (length config) (omega (arith, within, shows.size))) (lt-ltb x (length config) (omega (arith, inside, shows.size))) locks in
      updates.applied i name ∙ ap (applied_count i name) (sym reported) ∙ applied ∙ ap (λ ts. length (history name ts)) reported ∙ ap length (sym (updates.history name))

  -- where a node sees the lock of a group free, no end is pending and no node is lost, formed nodes have the same of it
  pub agreed_there : (events : List (LosingEvent Action)) → (((i : ℕ) → u.gone i ≡ false) → HasHeadline config events u) → lost ≡ [] → NonePendingLive config u → (x : ℕ) (name : Term) → sees_free nodes x name ≡ true
      → AgreeOn nodes name
  agreed_there events headlines none nothing x name free i j one other at_one at_other formed_one formed_other =
      let gone = λ (k : ℕ). ap (λ (v : LosingFrameWorld). v.gone k) is ∙ ap (λ (l : List ℕ). is_lost l k) none in
      let headline = headlines gone in
      let w = headline.w in
      let same = sym headline.is ∙ is in
      let state : (k : ℕ) (node : Seen) → slice_get nodes k ≡ Some node → (w.node k).state ≡ node.state.state =
      λ k node at. ap (λ (v : LosingFrameWorld). (v.world.node k).state) same ∙ ap (λ (s : Timed State). s.state) (shows.each k node at).state in
      let there : (k : ℕ) (node : Seen) → slice_get nodes k ≡ Some node → is_place (length config) k ≡ true = λ k node at. lt-ltb k (length config) (subst (λ n. k < n) shows.size (slice_get_within nodes k node at)) in
      let full : (k : ℕ) (node : Seen) → slice_get nodes k ≡ Some node → has_formed node ≡ true → is_formed config (plain w) k ≡ true =
      λ k node at formed. ap (formed_by (nodes_at config k)) (state k node at) ∙ sym (ap (λ (names : List Node). list_all node.state.state.merged (drop 1 names)) (shows.each k node at).names) ∙ formed in
      let pending : NonePending config (plain w) = λ home k pid home_there k_there named ended.
      sym (ap (λ (v : LosingFrameWorld). (v.world.node k).state.ended pid) headline.is)
      ∙ nothing home k pid home_there k_there (gone home) (gone k) named (ap (λ (v : LosingFrameWorld). (v.world.node home).state.ended pid) headline.is ∙ ended) in
      let seer = freed (slice_get nodes x) name free in
      let unlocked : LockFree (plain w) x name = ap (λ (s : State). s.locks name) (state x seer.0 seer.1) ∙ seer.2 in
      let agreed = headline.history.tables.agree i j x name (there i one at_one) (there j other at_other) (there x seer.0 seer.1) (full i one at_one formed_one) (full j other at_other formed_other) unlocked pending in
      sym (ap (λ (s : State). s.table name) (state i one at_one)) ∙ agreed ∙ ap (λ (s : State). s.table name) (state j other at_other)

-- ---- the same over packets

shown_history : (config : Config) (view : View) (lost : List ℕ) (u : LosingFrameWorld) → ShowsLosing config view lost u → (name : Term) → view.account.histories name ≡ history name u.world.reported
shown_history config view lost u shows = history_is config view.traffic.nodes view.account lost shows.frames u shows.shows.traffic.nodes shows.shows.updates shows.is

pub step_grows : (given : Config) (old new : View) (lost now : List ℕ) (step : FrameStep) (result : Result Stepped NodeFault) → FramesGoOn given old lost step result new now → HistoriesGrow old.account new.account
step_grows given old new lost now step result goes =
    let led = some_comes goes.config goes.u (told_of goes.config goes.u step) _ result goes.comes in
    histories_grow goes.config old.account new.account goes.u led.0 led.1.more (shown_history goes.config old lost goes.u goes.past.shows) (shown_history goes.config new now led.0 led.1.past.shows) led.1.led

pub run_grows : (given : Config) (old new : View) (lost now : List ℕ) (all : List FrameStep) (numbers : List ℕ) → FramesRunOn given old lost all numbers new now → HistoriesGrow old.account new.account
run_grows given old new lost now all numbers ran =
    histories_grow ran.config old.account new.account ran.u ran.v ran.more (shown_history ran.config old lost ran.u ran.past.shows) (shown_history ran.config new now ran.v ran.later.shows)
    (leads ran.config all numbers ran.u ran.v ran.more ran.runs)

pub applied_all : (given : Config) (view : View) (lost : List ℕ) (x : ℕ) (node : Seen) (name : Term) → FramesHavePast given view lost → lost ≡ [] → slice_get view.traffic.nodes x ≡ Some node → node.state.state.locks name ≡ None
    → x < length view.traffic.nodes → (i : ℕ) → i < length view.traffic.nodes → view.account.applied i name ≡ length (view.account.histories name)
applied_all given view lost x node name past none at free inside =
    let shows = past.is.shows in
    applied_there past.config view.traffic.nodes view.account lost shows.frames past.u shows.shows.traffic.nodes shows.shows.updates shows.is past.events past.is.history none x node name at free inside

-- the law of pending ends: the list is empty where none is
abbrev pub Lists : Type 0
Lists = (config : Config) (nodes : List Seen) (lost : List ℕ) (frames : TimedFrameWorld) (u : LosingFrameWorld) (events : List (LosingEvent Action)) → ShowsNodes config nodes frames
    → u ≡ losing_of config frames lost → LosingReaches config events u → (pending_of nodes lost ≡ []) ↔ NonePendingLive config u

pub agreed_all : Lists → (given : Config) (view : View) (lost : List ℕ) (x : ℕ) (name : Term) → FramesHavePast given view lost → pending_of view.traffic.nodes lost ≡ [] → lost ≡ [] → sees_free view.traffic.nodes x name ≡ true
    → AgreeOn view.traffic.nodes name
agreed_all lists given view lost x name past empty none free =
    let shows = past.is.shows in
    agreed_there past.config view.traffic.nodes view.account lost shows.frames past.u shows.shows.traffic.nodes shows.shows.updates shows.is past.events past.is.history none
    ((lists past.config view.traffic.nodes lost shows.frames past.u past.events shows.shows.traffic.nodes shows.is past.is.reached).0 empty) x name free

-- what a node that is not lost has missed
pub missed_there : (given config : Config) (events : List (LosingEvent Action)) (u : LosingFrameWorld) (nodes : List Seen) (account : Account) (lost : List ℕ) (frames : TimedFrameWorld) → length config ≤ 16
    → LosingReaches config events u → LossesSurvived config events u → ShowsNodes config nodes frames → ShowsUpdates account frames → u ≡ losing_of config frames lost
    → (i : ℕ) (name : Term) → i < length nodes → is_lost lost i ≡ false → missed_in nodes account i name ≡ missed config u i name
missed_there given config events u nodes account lost frames few reached survived shows updates is i name within lives =
    let there = lt-ltb i (length config) (subst (λ n. i < n) shows.size within) in
    let stays = ap (λ (v : LosingFrameWorld). v.gone i) is ∙ lives in
    missed_is config shows.apart few nodes account lost frames u shows updates is events reached i name within lives (survived.along i name there stays).whole

pub frames_missed : (given : Config) (view : View) (lost : List ℕ) (i : ℕ) (name : Term) → i < length view.traffic.nodes → is_lost lost i ≡ false
    → (entries : List Entry) → entries ≡ missed_in view.traffic.nodes view.account i name → FramesHavePast given view lost → MissedInRun given view lost i name entries
frames_missed given view lost i name within lives entries told past = record {
  past = past;
  is = let shows = past.is.shows in told ∙ missed_there given past.config past.events past.u view.traffic.nodes view.account lost shows.frames past.few past.is.reached past.is.survived
      shows.shows.traffic.nodes shows.shows.updates shows.is i name within lives;
}

pub frames_formed : (given : Config) (view : View) (lost : List ℕ) (formed : Bool) → formed ≡ view.account.formed → FramesHavePast given view lost → FormedFirst given view lost formed
frames_formed given view lost formed told past = record { past = past; is = (λ e. past.at_losses.0 (sym told ∙ e), λ all. told ∙ past.at_losses.1 all) }
