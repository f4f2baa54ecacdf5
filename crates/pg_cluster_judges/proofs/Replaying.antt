-- A schedule that leads from the start does so again, unless memory runs out.
use Rattle.std.proofs.Common.{◌≡◌, ◌≢◌, ◌↔◌, ◌∙◌, ◌++◌, inl, inr, ℕ, nat_eq, Bool, true, false, ◌&&◌, ◌||◌}
use Rattle.std.proofs.Common.{cond, get_or, List, [], ◌∷◌, length, map, Some, Result, Ok, Err, refl, sym, ap, subst, arith}
use Rattle.std.specs.Prelude.{IfOk, IsTrue, slice_get}
use Rattle.std.specs.List.{IsDistinct}
use Rattle.std.specs.Option.{option_map_or}
use Rattle.std.proofs.lemmas.Option.{slice_get-get_or, slice_get_within}
use Rattle.pg_term.specs.Same.{same_atom}
use Rattle.pg_world.specs.PgGroup.declared.table.GroupTable.{Ghosts}
use Rattle.pg_world.specs.PgStep.Machines.Losing.{LosingEvent, Step, losing_happens, nobody_gone}
use Rattle.pg_world.specs.PgStep.Machines.Machine.{Event, start_of}
use Rattle.pg_world.specs.PgStep.Machines.Runs.{Leads}
use Rattle.pg_world.proofs.PgStep.Machines.Options.{some_is}
use Rattle.pg_world.proofs.PgLaws.steps.Lossless.{nobody_timed}
use Rattle.pg_world.specs.PgLaws.Reached.{Reaches}
use Rattle.pg_world.specs.PgNode.declared.node.Node.{Node}
use Rattle.pg_node_run.specs.declared.log.NodeEvent.{NodeEvent}
use Rattle.pg_world.specs.PgStep.Config.{Config, name_at, names_of}
use Rattle.pg_world.specs.PgStep.Faults.{refusal_number_of}
use Rattle.pg_world.specs.PgStep.FrameMachine.{frame_machine, last_notice, losing_frame_machine}
use Rattle.pg_world.specs.PgStep.LossLaws.{LosingFrameWorld}
use Rattle.pg_world.specs.PgStep.Nodes.{Node as Name}
use Rattle.pg_world.specs.PgStep.Step.{Action}
use Rattle.pg_world.specs.PgWorldPackets.declared.step.FrameStep.{FrameStep}
use Rattle.pg_world.specs.PgWorldPackets.declared.step.FrameStep.TheVariants as steps
use Rattle.pg_world.specs.PgWorldConfig.declared.fault.WorldFault.{WorldFault}
use Rattle.pg_world.specs.PgWorldConfig.declared.fault.WorldFault.TheVariants.{OutOfMemory}
use Rattle.pg_world.specs.Crossings.{node_of}
use Rattle.pg_world.specs.PgWorldPackets.Losing.{CanBeMade, ShowsLosing, Telling, losing_of, told_of}
use Rattle.pg_world.specs.PgWorldPackets.Openings.{CanBegin, CantBegin}
use Rattle.pg_world.specs.PgWorldPackets.Past.{RanFrames}
use Rattle.pg_world.specs.PgWorldPackets.Runs.{IsLeftOut, RunsTo}
use Rattle.pg_world.specs.PgWorldPackets.Starts.{Orders}
use Rattle.pg_world.specs.PgWorldConfig.Seen.{Seen}
use Rattle.pg_world.specs.PgWorldPackets.Views.{View}
use Rattle.pg_world.specs.PgWorldPackets.Worlds.{TimedFrameWorld, ShowsNode, ShowsNodes, event_of}
use Rattle.pg_world.proofs.PgWorldPackets.Leading.{Survive, headline}
use Rattle.pg_world.proofs.PgWorldPackets.OrderedOnce.{ordered_once}
use Rattle.pg_world.proofs.PgWorldPackets.Running.{leads, start_is}
use Rattle.pg_world.proofs.PgWorldPackets.Unlost.{can_be_made, happens_too}
use Rattle.pg_cluster_judges.specs.ApartWithLosses.{nodes_in}
use Rattle.pg_cluster_judges.specs.Judges.{AreShown, Replays, all_made, ran_out}
use Rattle.pg_cluster_judges.specs.NodeOf.{NodeOf}
use Rattle.pg_cluster_judges.specs.Together.{AreOneLosingRun, AreOneRun, MadeInTurn, losing_event}
use Rattle.pg_cluster_judges.proofs.ShownOnce.{shown_once}

-- ---- a step that was passed over where it can be made

pub none_first : (number : ℕ) (b : Bool) → (nat_eq number 10 || b) ≡ false → number ≡ 10 → ⊥
none_first number b none is = absurd (let clash = sym none ∙ ap (λ n. nat_eq n 10 || b) is in cc)

pub none_later : (a b : Bool) → (a || b) ≡ false → b ≡ false
none_later true b e = absurd cc
none_later false b e = e

-- ---- the whole run

-- what is told of a step is its event
event_is : (config : Config) (u : LosingFrameWorld) (step : FrameStep) → (told_of config u step).event ≡ losing_event step
event_is config u (steps.Take i p) = refl
event_is config u (steps.Command i port command) = refl
event_is config u (steps.Retry i op) = refl
event_is config u (steps.SeeLoss i p) = refl
event_is config u (steps.Lose i keep) = refl

-- a step that can be made, and was left out, has the number of no memory
left_ten : (told : Telling) (number : ℕ) → CanBeMade told → IsLeftOut told number → number ≡ 10
left_ten told number can (inl is) = is ∙ (ap (λ r. option_map_or refusal_number_of r (cond told.is_idle 0 10)) can.allowed ∙ ap (λ b. cond {A = ℕ} b 0 10) can.busy)
left_ten told number can (inr is) = is.1

-- where no step was refused for memory, all happened, and led to the same world
abbrev Again : LosingFrameWorld → LosingFrameWorld → List ℕ → Type 0
Again u v numbers = (v ≡ u) × (all_made numbers ≡ true)

made_again : (config : Config) (schedule : List FrameStep) (numbers : List ℕ) (events : List (LosingEvent Action)) (w u v : LosingFrameWorld)
    → MadeInTurn config w schedule u → RunsTo config w schedule numbers events v → ran_out numbers ≡ false → Again u v numbers
made_again config [] [] events w u v made runs none = (sym runs.1 ∙ made, refl)
made_again config [] (number ∷ numbers) events w u v made runs none = absurd runs
made_again config (step ∷ schedule) [] events w u v made runs none = absurd runs
made_again config (step ∷ schedule) (number ∷ numbers) events w u v (can, x, happened, made) (inl goes) none =
    let event : goes.e ≡ losing_event step = goes.is.0 ∙ event_is config w step in
    let left : goes.left ≡ x = some_is (sym goes.happened ∙ (ap (losing_happens (losing_frame_machine config) last_notice w) event ∙ happened)) in
    let later : Again u v numbers = made_again config schedule numbers goes.rest.later x u v made
    (subst (λ (y : LosingFrameWorld). RunsTo config y schedule numbers goes.rest.later v) left goes.rest.rest)
    (none_later (nat_eq number 10) (ran_out numbers) none) in
    (later.0, ap (λ n. nat_eq n 0 && all_made numbers) goes.listed ∙ later.1)
made_again config (step ∷ schedule) (number ∷ numbers) events w u v (can, x, happened, made) (inr (left, runs)) none =
    absurd (none_first number (ran_out numbers) none (left_ten (told_of config w step) number can left))

-- a node of a world with losses is the node of the world without them that is shown
shown_back : (config : Config) (frames : TimedFrameWorld) (lost : List ℕ) (u : LosingFrameWorld) (i : ℕ) (seen : Seen) → u ≡ losing_of config frames lost → ShowsNode config (nodes_in u) i seen
    → ShowsNode config frames i seen
shown_back config frames lost u i seen is shows =
    let there : ShowsNode config (nodes_in (losing_of config frames lost)) i seen = subst (λ (v : LosingFrameWorld). ShowsNode config (nodes_in v) i seen) is shows in
    record { names = there.names; ports = there.ports; state = there.state; answers = there.answers }

-- ---- the nodes

module _ {T : Type 0} {g : Ghosts T} (config : Config) (seen : List Seen) (nodes : List (Node T g)) (w : TimedFrameWorld) (shows : ShowsNodes config seen w) (size : length nodes ≡ length config)
    (shown : (i : ℕ) (node : Node T g) → slice_get nodes i ≡ Some node → ShowsNode config w i (node_of node)) where
  -- nodes of which one frame world shows each are seen as a world that shows the same
  pub seen_again : AreShown seen nodes
  seen_again i node at =
      let low = slice_get_within nodes i node at in
      let other = get_or seen i (node_of node) in
      let there : slice_get seen i ≡ Some other = slice_get-get_or seen i (node_of node) (let l = shows.size in omega (arith, low, size, l)) in
      there ∙ ap Some (shown_once config w i other (node_of node) (shows.each i other there) (shown i node at))

-- ---- a run of the frame machine

-- events that lead on from where others led
led_on : (config : Config) (es fs : List (Event Action)) (w u v : TimedFrameWorld) → Leads (frame_machine config) w es u → Leads (frame_machine config) u fs v → Leads (frame_machine config) w (es ++ fs) v
led_on config [] fs w u v same led = subst (λ (x : TimedFrameWorld). Leads (frame_machine config) x fs v) (sym same) led
led_on config (e ∷ es) fs w u v (x, happened, rest) led = (x, happened, led_on config es fs x u v rest led)

-- the event of a step is that of the machine with losses
step_event : (step : FrameStep) (e : Event Action) → event_of step ≡ Some e → losing_event step ≡ Step e
step_event (steps.Take i p) e is = ap (λ (d : Event Action). Step d) (some_is is)
step_event (steps.Command i port command) e is = ap (λ (d : Event Action). Step d) (some_is is)
step_event (steps.Retry i op) e is = ap (λ (d : Event Action). Step d) (some_is is)
step_event (steps.SeeLoss i p) e is = absurd cc
step_event (steps.Lose i keep) e is = absurd cc

-- steps that are events which lead from where no node is lost can be made there, one after another
in_turn : (config : Config) (schedule : List FrameStep) (first events : List (Event Action)) (w v : TimedFrameWorld) → Reaches config first w → map event_of schedule ≡ map Some events
    → Leads (frame_machine config) w events v → MadeInTurn config (losing_of config w []) schedule (losing_of config v [])
in_turn config [] first [] w v reached are leads = ap (λ (x : TimedFrameWorld). losing_of config x []) leads
in_turn config [] first (e ∷ events) w v reached are leads = absurd cc
in_turn config (step ∷ schedule) first [] w v reached are leads = absurd cc
in_turn config (step ∷ schedule) first (e ∷ events) w v reached are (x, happened, leads) =
    let one : event_of step ≡ Some e = cc in
    let rest : map event_of schedule ≡ map Some events = cc in
    let unseen : (i p : ℕ) → (w.node i).state.lost (name_at config p) ≡ false = λ i p. ap (λ (f : Name → Bool). f (name_at config p)) (nobody_timed config first w reached i) in (
      can_be_made config w x unseen step e one happened,
      losing_of config x [],
      ap (losing_happens (losing_frame_machine config) last_notice (losing_of config w [])) (step_event step e one) ∙ happens_too config w x unseen e happened,
      in_turn config schedule (first ++ e ∷ []) events x v (led_on config first (e ∷ []) (start_of (frame_machine config)) w x reached (x, happened, refl)) rest leads,
    )

-- ---- of one run

-- Steps that can be made one after another from the start of a configuration, and lead to a world that shows these nodes.
pub record LeadsThere (given : Config) (nodes : List NodeOf) (schedule : List FrameStep) : Type 0 where
  pub config : Config
  pub orders : Orders given config
  pub apart : IsDistinct same_atom (names_of config)
  pub u : LosingFrameWorld
  pub made : MadeInTurn config (nobody_gone (start_of (losing_frame_machine config))) schedule u
  pub size : length nodes ≡ length config
  pub shown : (i : ℕ) (node : NodeOf) → slice_get nodes i ≡ Some node → ShowsNode config (nodes_in u) i (node_of node)

pub run_there : (given : Config) (nodes : List NodeOf) (logs : List (List (ℕ × NodeEvent))) (schedule : List FrameStep) → AreOneRun given nodes logs schedule → LeadsThere given nodes schedule
run_there given nodes logs schedule run = record {
  config = run.config;
  orders = run.orders;
  apart = run.apart;
  u = losing_of run.config run.w [];
  made = subst (λ (x : LosingFrameWorld). MadeInTurn run.config x schedule (losing_of run.config run.w [])) (sym (start_is run.config))
      (in_turn run.config schedule [] run.events (start_of (frame_machine run.config)) run.w refl run.are run.leads);
  size = run.size;
  shown = λ i node at. let shows = run.shown i node at in record { names = shows.names; ports = shows.ports; state = shows.state; answers = shows.answers };
}

pub losing_run_there : (given : Config) (lost : List Bool) (nodes : List NodeOf) (schedule : List FrameStep) → AreOneLosingRun given lost nodes schedule → LeadsThere given nodes schedule
losing_run_there given lost nodes schedule run = record { config = run.config; orders = run.orders; apart = run.apart; u = run.u; made = run.made; size = run.size; shown = run.shown }

module _ (given : Config) (nodes : List NodeOf) (schedule : List FrameStep) (there : LeadsThere given nodes schedule) where
  -- they lead to these nodes again, where no step is refused for memory
  pub there_again : (view : View) (gone numbers : List ℕ) → RanFrames given schedule numbers (λ config. ShowsLosing config view gone) → ran_out numbers ≡ false
      → (all_made numbers ≡ true) × AreShown view.traffic.nodes nodes
  there_again view gone numbers ran none = by (ordered_once given ran.config there.config ran.past.orders there.orders) ran.events ran.runs ran.past.shows
    where
      by : ran.config ≡ there.config → (events : List (LosingEvent Action))
          → RunsTo ran.config (nobody_gone (start_of (losing_frame_machine ran.config))) schedule numbers events ran.u → ShowsLosing ran.config view gone ran.u
          → (all_made numbers ≡ true) × AreShown view.traffic.nodes nodes
      by same events runs shows =
          let here = subst (λ (config : Config). RunsTo config (nobody_gone (start_of (losing_frame_machine config))) schedule numbers events ran.u) same runs in
          let again : Again there.u ran.u numbers = made_again there.config schedule numbers events (nobody_gone (start_of (losing_frame_machine there.config))) there.u ran.u there.made here none in
          let shown : ShowsLosing there.config view gone there.u =
          subst (ShowsLosing there.config view gone) again.0 (subst (λ (config : Config). ShowsLosing config view gone ran.u) same shows) in (
            again.1,
            seen_again there.config view.traffic.nodes nodes shown.frames shown.shows.traffic.nodes there.size
                (λ i node at. shown_back there.config shown.frames gone there.u i (node_of node) shown.is (there.shown i node at)),
          )

-- so a look at a run of them never tells no
pub never_no : {E : Type 0} (ring : ℕ) (given : Config) (nodes : List NodeOf) (schedule : List FrameStep) (view : View) (gone numbers : List ℕ) (result : Result Bool E)
    → RanFrames given schedule numbers (λ config. ShowsLosing config view gone)
    → IfOk result (λ yes. IsTrue yes ↔ ((all_made numbers ≡ true) × AreShown view.traffic.nodes nodes)) → IfOk result (λ yes. ran_out numbers ≡ false)
    → IfOk result (λ yes. CanBegin ring given → LeadsThere given nodes schedule → yes ≡ true)
never_no ring given nodes schedule view gone numbers (Ok answer) ran shown none = λ can there. shown.1 (there_again given nodes schedule there view gone numbers ran none)
never_no ring given nodes schedule view gone numbers (Err e) ran shown none = tt

-- no is told where no world could begin, which is so of no configuration of which one can
pub unbegun_so : {E : Type 0} (ring : ℕ) (given : Config) (Run : Type 0) (fault : WorldFault) (result : Result Bool E)
    → (CanBegin ring given → CantBegin ring given fault → fault ≡ OutOfMemory) → CantBegin ring given fault → IfOk result (λ answer. (answer ≡ false) × (fault ≢ OutOfMemory))
    → IfOk result (λ answer. CanBegin ring given → Run → answer ≡ true)
unbegun_so ring given Run fault (Ok answer) memory cant told = λ can run. absurd (told.1 (memory can cant))
unbegun_so ring given Run fault (Err e) memory cant told = tt

-- ---- a run with no refusals

-- steps that can be made are steps that all happen
all_happen : (config : Config) (schedule : List FrameStep) (w v : LosingFrameWorld) → MadeInTurn config w schedule v
    → RunsTo config w schedule (map (λ step. 0) schedule) (map losing_event schedule) v
all_happen config [] w v made = (refl, made)
all_happen config (step ∷ schedule) w v (can, x, happened, made) =
    inl (record {
      listed = refl;
      e = losing_event step;
      is = (sym (event_is config w step), can);
      left = x;
      happened = happened;
      rest = record { later = map losing_event schedule; first = refl; rest = all_happen config schedule x v made };
    })

none_refused : (schedule : List FrameStep) → all_made (map (λ step. 0) schedule) ≡ true
none_refused [] = refl
none_refused (step ∷ schedule) = none_refused schedule

-- so the schedule of one run replays
pub there_replays : Survive → (given : Config) (nodes : List NodeOf) (schedule : List FrameStep) → LeadsThere given nodes schedule → Replays given schedule nodes
there_replays survive given nodes schedule there =
    let start = nobody_gone (start_of (losing_frame_machine there.config)) in
    let runs = all_happen there.config schedule start there.u there.made in
    let reached = leads there.config schedule (map (λ step. 0) schedule) start there.u (map losing_event schedule) runs in
    record {
      numbers = map (λ step. 0) schedule;
      made = none_refused schedule;
      ran = record {
        config = there.config;
        events = map losing_event schedule;
        u = there.u;
        runs = runs;
        past = record {
          orders = there.orders;
          reached = reached;
          shows = there.shown;
          survived = survive there.config there.u (map losing_event schedule) there.apart reached;
          history = headline there.config (map losing_event schedule) there.u there.apart reached;
        };
      };
    }
