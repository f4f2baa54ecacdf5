-- What is ready after a run in which nobody is lost: no more than before, and nothing that was tried again.
use Rattle.std.proofs.Common.{◌≡◌, ◌≢◌, ℕ, Bool, true, false, ◌&&◌, ◌||◌, nat_eq, length}
use Rattle.std.proofs.Common.{List, [], ◌∷◌, ◌++◌, Option, Some, None, refl, ap, sym, ◌∙◌, subst}
use Rattle.std.specs.Cmp.{first_so, second_so}
use Rattle.std.specs.List.{IsDistinct}
use Rattle.pg_term.specs.RefParts.{RefParts}
use Rattle.pg_term.specs.Same.{same_atom}
use Rattle.pg_laws.specs.PgMessageTypes.declared.message.Message.{Message}
use Rattle.pg_laws.specs.PgStep.Machines.Happened.{Happened}
use Rattle.pg_laws.specs.PgStep.Machines.Losing.{Last, LosingEvent, Noticed, Step, all_steps, nobody_gone}
use Rattle.pg_laws.specs.PgStep.Machines.Machine.{Do, Event, Input, Own, Take, Turn, World, node_of, start_of}
use Rattle.pg_laws.proofs.PgStep.Machines.Options.{some_is}
use Rattle.pg_laws.proofs.PgStep.Machines.Steps.{pair_apart}
use Rattle.pg_laws.specs.PgStep.Attempts.{same_op}
use Rattle.pg_laws.specs.PgStep.Config.{Config, name_at, names_of, nodes_at}
use Rattle.pg_laws.specs.PgStep.FrameMachine.{losing_frame_machine, losing_machine_of, node_step}
use Rattle.pg_laws.specs.PgStep.LossLaws.{LosingFrameWorld}
use Rattle.pg_laws.specs.PgStep.Nodes.{Node}
use Rattle.pg_laws.specs.PgStep.State.{State, live_nodes}
use Rattle.pg_laws.specs.PgStep.Step.{Action, Issue, Retry}
use Rattle.pg_laws.specs.PgStep.Turns.{Report}
use Rattle.pg_laws.specs.PgStep.declared.command.OpId.{OpId}
use Rattle.pg_laws.proofs.ends.Apart.{pair_second}
use Rattle.pg_laws.proofs.locks.Stages.{commands}
use Rattle.pg_laws.proofs.places.Shown.{IsHere}
use Rattle.pg_laws.proofs.references.Keys.{atoms, numbers, upd_same}
use Rattle.pg_laws.proofs.steps.Lossless.{step_sees_none}
use Rattle.pg_laws.proofs.steps.Ways.{own_place, packet_there, pair_there, state_after}
use Rattle.pg_laws_losses.specs.Quiet.{IsQuietLive}
use Rattle.pg_laws_losses.specs.Reached.{LosingReaches}
use Rattle.pg_laws_losses.proofs.Bridge.{Left, not_true}
use Rattle.pg_laws_losses.proofs.Bridges.{Bridged, bridged}
use Rattle.pg_laws_losses.proofs.Lossy.{Died, Makes, Passed, Sees, Steps, Went, bare, makes, passed}
use Rattle.pg_laws_losses.proofs.Remains.Passing.{Leads, Leaves, leads_more}
use Rattle.pg_laws_losses.specs.Readiness.Ready.{EachIsRetried, LossesSeen, NoLockLive, NoneReadyLive, OfReady, is_ready}
use Rattle.pg_laws_losses.specs.Readiness.Ready.{is_ready_at, is_retried}
use Rattle.pg_laws_losses.proofs.Readiness.Fewer.{step_makes_none, step_others, step_unready}
use Rattle.pg_laws_losses.proofs.Readiness.Going.{no_loss, own_given, retry_is}
use Rattle.pg_laws_losses.proofs.Readiness.Holders.{all_linked}
use Rattle.pg_laws_losses.proofs.Readiness.Ready.{of_ready}

-- ---- where none is ready

pub no_lock : (config : Config) → IsDistinct same_atom (names_of config)
    → (es : List (LosingEvent Action)) (w : LosingFrameWorld) → LosingReaches config es w → IsQuietLive config w
    → NoneReadyLive config w → NoLockLive config w
no_lock config apart es w l quiet none i name here lives = go ((w.world.node i).state.locks name) refl
  where
    go : (o : Option RefParts) → (w.world.node i).state.locks name ≡ o → (w.world.node i).state.locks name ≡ None
    go None is = is
    go (Some holder) is =
        let of : OfReady config w name holder = of_ready config apart es w l quiet i here lives name holder is in
        absurd (cc (sym of.ready ∙ none of.node of.op of.here of.lives))

-- ---- an event

-- behind a last notice stands one that is lost
last_left : (b : Bool) (rest : List (Noticed Message)) (all : List Message) → Left b (Last ∷ rest) all → b ≡ true
last_left true rest all e = refl
last_left false rest [] e = absurd (cc)
last_left false rest (y ∷ ys) e = absurd (cc)

module _ (config : Config) (es : List (LosingEvent Action)) (w v : LosingFrameWorld)
    (l : LosingReaches config es w) where
  -- what is ready in a state of node i was ready
  abbrev WasReady : ℕ → OpId → State → Type 0
  WasReady i op s = is_ready (live_nodes (nodes_at config i) s) (s.stages op) s ≡ true → is_ready_at config w i op ≡ true

  abbrev SameLost : ℕ → State → Type 0
  SameLost i s = s.lost ≡ (w.world.node i).state.lost

  turn_makes_none : (i : ℕ) (op : OpId) (input : Input (Noticed Message) Action)
      (turn : Turn State (Noticed Message) Report) → Makes config i (w.world.node i).state input turn
      → SameLost i turn.state → WasReady i op turn.state
  turn_makes_none i op input turn (Steps given t is made same) lost =
      subst (λ (z : Turn State (Noticed Message) Report). WasReady i op z.state) (sym same)
      (step_makes_none config i (w.world.node i).state (all_linked config es w l i) given t made op)
  turn_makes_none i op input turn (Sees p is not_yet same) lost = absurd (cc (sym not_yet
      ∙ (ap (λ (f : Node → Bool). f (name_at config p)) (sym lost)
      ∙ (ap (λ (z : Turn State (Noticed Message) Report). z.state.lost (name_at config p)) same
      ∙ upd_same same_atom atoms (w.world.node i).state.lost (name_at config p) true))))

  -- no command becomes ready but where its node sees a loss
  pub event_makes_none : (e : LosingEvent Action) → Leaves config w e v → (i : ℕ) (op : OpId)
      → (v.world.node i).state.lost ≡ (w.world.node i).state.lost → is_ready_at config v i op ≡ true
      → is_ready_at config w i op ≡ true
  event_makes_none e happens i op = go (passed config w v e happens)
    where
      go : Passed config (bare w) (bare v) e → SameLost i (v.world.node i).state → WasReady i op (v.world.node i).state
      go (Went d is alive h same) =
          state_after (losing_machine_of config) (bare w).world (bare v).world d h
          (λ (s : State). SameLost i s → WasReady i op s) i
          (λ own. subst (λ k. SameLost k h.turn.state → WasReady k op h.turn.state) (sym own)
          (turn_makes_none (node_of d) op h.input h.turn
          (makes config (node_of d) (w.world.node (node_of d)).state h.input h.turn h.made)))
          (λ other lost ready. ready)
      go (Died j keep is there alive cut gone) =
          subst (λ (u : World State (Noticed Message) Report). SameLost i (u.node i) → WasReady i op (u.node i))
          (sym cut) (λ lost ready. ready)

  -- a retry leaves its command not ready
  module _ (i : ℕ) (op : OpId) where
    pub retried_unready : Leaves config w (Step (Do i (Retry op))) v → is_ready_at config v i op ≡ false
    retried_unready happens = go (passed config w v (Step (Do i (Retry op))) happens)
      where
        turned : (input : Input (Noticed Message) Action) (turn : Turn State (Noticed Message) Report)
            → Own (Retry op) ≡ input → Makes config i (w.world.node i).state input turn
            → is_ready (live_nodes (nodes_at config i) turn.state) (turn.state.stages op) turn.state ≡ false
        turned input turn own (Steps given t is made same) =
            subst (λ (z : Turn State (Noticed Message) Report). is_ready (live_nodes (nodes_at config i) z.state)
            (z.state.stages op) z.state ≡ false) (sym same)
            (step_unready config i (w.world.node i).state (all_linked config es w l i) op t
            (subst (λ z. node_step config i (w.world.node i).state z ≡ Some t)
            (own_given given (Retry op) (own ∙ is)) made))
        turned input turn own (Sees p is not_yet same) = absurd (cc (own ∙ is))

        by : Happened (losing_machine_of config) (bare w).world (Do i (Retry op)) (bare v).world
            → is_ready_at config v i op ≡ false
        by h = state_after (losing_machine_of config) (bare w).world (bare v).world (Do i (Retry op)) h
            (λ (s : State). is_ready (live_nodes (nodes_at config i) s) (s.stages op) s ≡ false) i
            (λ own. turned h.input h.turn (some_is h.given)
            (makes config i (w.world.node i).state h.input h.turn h.made)) (λ other. absurd (other refl))

        go : Passed config (bare w) (bare v) (Step (Do i (Retry op))) → is_ready_at config v i op ≡ false
        go (Went d is alive h same) =
            by (subst (λ z. Happened (losing_machine_of config) (bare w).world z (bare v).world) (retry_is is) h)
        go (Died j keep is there alive cut gone) = absurd (no_loss is)

    -- and each other as it was
    pub retried_others : Leaves config w (Step (Do i (Retry op))) v → (j : ℕ) (other : OpId) → (j ≡ i → op ≢ other)
        → is_ready_at config v j other ≡ is_ready_at config w j other
    retried_others happens j other differ = go (passed config w v (Step (Do i (Retry op))) happens)
      where
        turned : (op ≢ other) → (input : Input (Noticed Message) Action) (turn : Turn State (Noticed Message) Report)
            → Own (Retry op) ≡ input → Makes config i (w.world.node i).state input turn
            → is_ready (live_nodes (nodes_at config i) turn.state) (turn.state.stages other) turn.state
            ≡ is_ready_at config w i other
        turned apart input turn own (Steps given t is made same) =
            subst (λ (z : Turn State (Noticed Message) Report). is_ready (live_nodes (nodes_at config i) z.state)
            (z.state.stages other) z.state ≡ is_ready_at config w i other) (sym same)
            (step_others config i (w.world.node i).state (all_linked config es w l i) op other apart t
            (subst (λ z. node_step config i (w.world.node i).state z ≡ Some t)
            (own_given given (Retry op) (own ∙ is)) made))
        turned apart input turn own (Sees p is not_yet same) = absurd (cc (own ∙ is))

        by : Happened (losing_machine_of config) (bare w).world (Do i (Retry op)) (bare v).world
            → is_ready_at config v j other ≡ is_ready_at config w j other
        by h = state_after (losing_machine_of config) (bare w).world (bare v).world (Do i (Retry op)) h
            (λ (s : State). is_ready (live_nodes (nodes_at config j) s) (s.stages other) s
            ≡ is_ready_at config w j other) j
            (λ own. subst (λ k. is_ready (live_nodes (nodes_at config k) h.turn.state) (h.turn.state.stages other) h.turn.state
            ≡ is_ready_at config w k other) (sym own) (turned (differ own) h.input h.turn (some_is h.given)
            (makes config i (w.world.node i).state h.input h.turn h.made))) (λ _. refl)

        go : Passed config (bare w) (bare v) (Step (Do i (Retry op)))
            → is_ready_at config v j other ≡ is_ready_at config w j other
        go (Went d is alive h same) =
            by (subst (λ z. Happened (losing_machine_of config) (bare w).world z (bare v).world) (retry_is is) h)
        go (Died k keep is there alive cut gone) = absurd (no_loss is)

-- ---- a run in which nobody is lost

pub same_gone : (config : Config) (w v : LosingFrameWorld) (d : Event Action) → Passed config (bare w) (bare v) (Step d)
    → v.gone ≡ w.gone
same_gone config w v d (Went f is alive h same) = same
same_gone config w v d (Died j keep is there alive cut gone) = absurd (no_loss is)

module _ (config : Config) (apart : IsDistinct same_atom (names_of config)) where
  module _ (es : List (LosingEvent Action)) (w v : LosingFrameWorld) (l : LosingReaches config es w)
      (seen : LossesSeen config w) (d : Event Action) (happens : Leaves config w (Step d) v) where
    b : Bridged config apart (bare w)
    b = bridged config apart es w l

    -- no loss is seen, as each was
    turn_sees_none : (f : Event Action) (h : Happened (losing_machine_of config) (bare w).world f (bare v).world)
        → w.gone (node_of f) ≡ false → Makes config (node_of f) (w.world.node (node_of f)).state h.input h.turn
        → h.turn.state.lost ≡ (w.world.node (node_of f)).state.lost
    turn_sees_none f h alive (Steps given t is made same) =
        ap (λ (z : Turn State (Noticed Message) Report). z.state.lost) same
        ∙ step_sees_none config (node_of f) (w.world.node (node_of f)).state given t made
    turn_sees_none f h alive (Sees p is not_yet same) =
        let first = packet_there (losing_machine_of config) (bare w).world (bare v).world f h p Last is in
        let pair = pair_there (losing_machine_of config) (bare w).world (bare v).world f h p Last is in
        let here : IsHere config (node_of f) = own_place (losing_machine_of config) (bare w).world (bare v).world f h in
        let there : IsHere config p = pair_second (length config) (node_of f) p pair in
        let gone : w.gone p ≡ true =
        last_left (w.gone p) first.0 (b.has.ways p (node_of f))
        (subst (λ z. Left (w.gone p) z (b.has.ways p (node_of f))) first.1
        (b.has.cut p (node_of f) there here (λ e. pair_apart (length config) (node_of f) p pair (sym e)) not_yet)) in
        absurd (cc (sym not_yet ∙ seen (node_of f) here alive p there gone))

    same_lost : Passed config (bare w) (bare v) (Step d) → (i : ℕ)
        → (v.world.node i).state.lost ≡ (w.world.node i).state.lost
    same_lost (Went f is alive h same) i =
        state_after (losing_machine_of config) (bare w).world (bare v).world f h
        (λ (s : State). s.lost ≡ (w.world.node i).state.lost) i
        (λ own. turn_sees_none f h alive
        (makes config (node_of f) (w.world.node (node_of f)).state h.input h.turn h.made)
        ∙ ap (λ k. (w.world.node k).state.lost) (sym own)) (λ other. refl)
    same_lost (Died j keep is there alive cut gone) i = absurd (no_loss is)

    lost_as_before : (i : ℕ) → (v.world.node i).state.lost ≡ (w.world.node i).state.lost
    lost_as_before = same_lost (passed config w v (Step d) happens)

    pub seen_later : LossesSeen config v
    seen_later i here lives p there gone =
        let gone_as = same_gone config w v d (passed config w v (Step d) happens) in
        ap (λ (f : Node → Bool). f (name_at config p)) (lost_as_before i)
        ∙ seen i here (ap (λ (f : ℕ → Bool). f i) (sym gone_as) ∙ lives) p there
        (ap (λ (f : ℕ → Bool). f p) (sym gone_as) ∙ gone)

    pub was_ready : (i : ℕ) (op : OpId) → is_ready_at config v i op ≡ true → is_ready_at config w i op ≡ true
    was_ready i op = event_makes_none config es w v l (Step d) happens i op (lost_as_before i)

  module _ (i : ℕ) (op : OpId) where
    -- not by the first event, and not by a later one
    not_by : (d : Event Action) (steps : List (Event Action)) (es : List (LosingEvent Action)) (w v : LosingFrameWorld)
        → LosingReaches config es w → Leaves config w (Step d) v → is_ready_at config v i op ≡ true
        → is_retried i op steps ≡ false → is_retried i op (d ∷ steps) ≡ false
    not_by (Take j p) steps es w v l happens ready none = none
    not_by (Do j (Issue port c)) steps es w v l happens ready none = none
    not_by (Do j (Retry other)) steps es w v l happens ready none = go (nat_eq j i && same_op other op) refl
      where
        go : (c : Bool) → (nat_eq j i && same_op other op) ≡ c
            → ((nat_eq j i && same_op other op) || is_retried i op steps) ≡ false
        go false is = ap (λ c. c || is_retried i op steps) is ∙ none
        go true is =
            let place : j ≡ i = numbers.is j i (first_so (nat_eq j i) (same_op other op) is) in
            let same : other ≡ op = commands.is other op (second_so (nat_eq j i) (same_op other op) is) in
            let unready : is_ready_at config v j other ≡ false = retried_unready config es w v l j other happens in
            absurd (cc (sym ready
            ∙ (ap (λ k. is_ready_at config v k op) (sym place)
            ∙ (ap (λ o. is_ready_at config v j o) (sym same) ∙ unready))))

    pub fewer_ready : (steps : List (Event Action)) (es : List (LosingEvent Action)) (w v : LosingFrameWorld)
        → LosingReaches config es w → LossesSeen config w → Leads config w (all_steps steps) v
        → is_ready_at config v i op ≡ true → (is_ready_at config w i op ≡ true) × (is_retried i op steps ≡ false)
    fewer_ready [] es w v l seen more ready = (subst (λ z. is_ready_at config z i op ≡ true) (sym more) ready, refl)
    fewer_ready (d ∷ steps) es w v l seen more ready =
        let later = fewer_ready steps (es ++ Step d ∷ []) more.0 v
        (leads_more config es (nobody_gone (start_of (losing_frame_machine config))) w more.0 (Step d) l more.1)
        (seen_later es w more.0 l seen d more.1) more.2 ready in
        (was_ready es w more.0 l seen d more.1 i op later.0, not_by d steps es w more.0 l more.1 later.0 later.1)

  -- nobody is lost
  pub gone_later : (steps : List (Event Action)) (w v : LosingFrameWorld) → Leads config w (all_steps steps) v
      → v.gone ≡ w.gone
  gone_later [] w v more = ap (λ (u : LosingFrameWorld). u.gone) (sym more)
  gone_later (d ∷ steps) w v more = gone_later steps more.0 v more.2
      ∙ same_gone config w more.0 d (passed config w more.0 (Step d) more.1)

  reached_later : (more es : List (LosingEvent Action)) (w v : LosingFrameWorld) → LosingReaches config es w
      → Leads config w more v → (all : List (LosingEvent Action)) × LosingReaches config all v
  reached_later [] es w v l more = (es, subst (LosingReaches config es) more l)
  reached_later (e ∷ rest) es w v l more =
      reached_later rest (es ++ e ∷ []) more.0 v
      (leads_more config es (nobody_gone (start_of (losing_frame_machine config))) w more.0 e l more.1) more.2

  module _ (es : List (LosingEvent Action)) (w v : LosingFrameWorld) (l : LosingReaches config es w)
      (steps : List (Event Action)) (seen : LossesSeen config w)
      (more : Leads config w (all_steps steps) v) (each : EachIsRetried config w steps) where
    pub none_ready : NoneReadyLive config v
    none_ready i op here lives = not_true (is_ready_at config v i op) (λ ready.
        let fewer = fewer_ready i op steps es w v l seen more ready in
        absurd (cc (sym fewer.1
        ∙ each i op here (ap (λ (f : ℕ → Bool). f i) (sym (gone_later steps w v more)) ∙ lives) fewer.0)))

    pub locks_freed : IsQuietLive config v → NoLockLive config v
    locks_freed quiet =
        let later = reached_later (all_steps steps) es w v l more in
        no_lock config apart later.0 v later.1 quiet none_ready
