-- Steps that are made one after another.
use Rattle.std.proofs.Common.{◌≡◌, ℕ, suc, ◌+◌, ◌<◌, Bool, true, false, List, [], ◌∷◌, ◌++◌, map, Option, Some}
use Rattle.std.proofs.Common.{None, Ok, Err, Result, take, length, get_or, refl, sym, ap, ◌∙◌, inl, inr, subst, arith}
use Rattle.std.specs.Prelude.{slice_set, cond, not, option_map}
use Rattle.std.specs.List.{AllPass}
use Rattle.std.specs.Option.{option_map_or}
use Rattle.std.proofs.Math.Path.{fun_ext}
use Rattle.std.proofs.Math.Seq.{take-length}
use Rattle.std.proofs.lemmas.List.{append-nil, take_more, take_more_set}
use Rattle.pg_node_state.specs.PgMessageTypes.declared.message.Message.{Message}
use Rattle.pg_node_state.specs.PgStep.Machines.Clocked.{Stamped, TimedWorld, stamped}
use Rattle.pg_node_state.specs.PgStep.Machines.Losing.{Noticed, Sent, LosingEvent, Step, LosingLeads, losing_happens, nobody_gone}
use Rattle.pg_node_state.specs.PgStep.Machines.Machine.{Event, Take, Do, happens, node_of, start_of}
use Rattle.pg_node_state.specs.PgStep.Config.{Config}
use Rattle.pg_node_state.specs.PgStep.Faults.{refusal_number_of}
use Rattle.pg_node_state.specs.PgStep.FrameMachine.{machine_of, frame_machine, losing_frame_machine, last_notice, sent_packet}
use Rattle.pg_node_state.specs.PgStep.LossLaws.{LosingFrameWorld}
use Rattle.pg_node_state.specs.PgStep.State.{State}
use Rattle.pg_node_state.specs.PgStep.Step.{Action, Issue, Retry}
use Rattle.pg_node_state.specs.PgStep.Turns.{Report}
use Rattle.pg_node_state.specs.PgStep.declared.refusal.Refusal.{Refusal}
use Rattle.pg_node_state.proofs.PgStep.Machines.Options.{some_is}
use Rattle.pg_node_state.specs.NodeFault.{node_number_of}
use Rattle.pg_node_state.specs.declared.state.fault.NodeFault.{NodeFault}
use Rattle.pg_node_state.specs.declared.state.fault.NodeFault.TheVariants.{Refused, OutOfMemory}
use Rattle.pg_node_state.specs.declared.state.fault.NodeFault.TheVariants.{Message as BadMessage, TooLong, Damaged}
use Rattle.pg_world_packets.specs.declared.step.FrameStep.{FrameStep}
use Rattle.pg_world_packets.specs.declared.step.FrameStep.TheVariants as frames
use Rattle.pg_world_packets.specs.declared.step.Stepped.{Stepped}
use Rattle.pg_world_packets.specs.declared.step.Stepped.TheVariants.{Happened, Moved, Nothing, Gone}
use Rattle.pg_world_packets.specs.Losing.{IsReachedLosing, LosingComesTo, ShowsLosing, Telling, losing_of, lost_after, notices, told_of}
use Rattle.pg_world_packets.specs.Runs.{GoesTo, LosesNone, RunsTo, StepsTo}
use Rattle.pg_world_packets.specs.Views.{View}
use Rattle.pg_world_packets.specs.Worlds.{TimedFrameWorld, ShowsWorld, is_loss}
use Rattle.pg_world_packets.proofs.Lossy.{no_notice}

-- ---- the start

sent_stamped : (clock : ℕ) (xs : List Message) → ◌≡◌ {A = List (Stamped (Noticed Message))} (stamped clock (map Sent xs)) (map sent_packet (stamped clock xs))
sent_stamped clock [] = refl
sent_stamped clock (x ∷ xs) = ap (λ (ys : List (Stamped (Noticed Message))). record { stamp = clock; packet = Sent x } ∷ ys) (sent_stamped clock xs)

-- nobody is lost at the start, and no notice is on the way
pub start_is : (config : Config) → nobody_gone (start_of (losing_frame_machine config)) ≡ losing_of config (start_of (frame_machine config)) []
start_is config = λ j. record {
  world = record { node = (frame_machine config).first; wire = (fun_ext (λ x. fun_ext (wires x))) j; reported = [] };
  gone = λ i. false;
}
  where
    start : TimedFrameWorld
    start = start_of (frame_machine config)

    wires : (x y : ℕ) → (losing_frame_machine config).opening x y ≡ map sent_packet (start.wire x y) ++ notices config start [] x y
    wires x y =
        sent_stamped 0 ((machine_of config).opening x y)
        ∙ sym (append-nil (map sent_packet (start.wire x y)))
        ∙ ap (λ (ns : List (Stamped (Noticed Message))). map sent_packet (start.wire x y) ++ ns) (sym (no_notice config start [] x y refl))

-- a world that shows the start of the nodes shows that of nodes that may be lost
pub start_shown : (config : Config) (view : View) → ShowsWorld config view (start_of (frame_machine config)) → ShowsLosing config view [] (nobody_gone (start_of (losing_frame_machine config)))
start_shown config view shows = record {
  frames = start_of (frame_machine config);
  shows = shows;
  seen = λ i p pair saw. let no : false ≡ true = saw in absurd (cc);
  is = start_is config;
}

-- ---- losses

-- a step of some of which none is a loss is none
pub passes_at : {S : Type 0} (loses : S → Bool) (steps : List S) (k : ℕ) (s : S) → k < length steps → s ≡ get_or steps k s → AllPass (λ x. not (loses x)) steps → loses s ≡ false
passes_at loses steps k s within here all = go (loses s) (ap (λ x. not (loses x)) here ∙ all k s within)
  where
    go : (b : Bool) → not b ≡ true → b ≡ false
    go true e = absurd (cc)
    go false e = refl

-- no more nodes are lost by a step that is no loss
pub none_more : (step : FrameStep) (result : Result Stepped NodeFault) (lost : List ℕ) → is_loss step ≡ false → lost_after step result lost ≡ lost
none_more (frames.Take i p) result lost keeps = refl
none_more (frames.Command i port c) result lost keeps = refl
none_more (frames.Retry i op) result lost keeps = refl
none_more (frames.SeeLoss i p) result lost keeps = refl
none_more (frames.Lose i keep) result lost keeps = absurd (cc)

-- an event of a node loses nobody
gone_stays : (config : Config) (u v : LosingFrameWorld) (e : Event Action) → losing_happens (losing_frame_machine config) last_notice u (Step e) ≡ Some v → v.gone ≡ u.gone
unfolding losing_happens
gone_stays config u v e h = go (u.gone (node_of e)) (happens (losing_frame_machine config) u.world e) h
  where
    go : (b : Bool) (o : Option (TimedWorld State (Noticed Message) Report)) → cond b None (option_map (λ (w : TimedWorld State (Noticed Message) Report). record { world = w; gone = u.gone }) o) ≡ Some v → v.gone ≡ u.gone
    go true o is = absurd (cc)
    go false None is = absurd (cc)
    go false (Some w) is = sym (ap (λ (x : LosingFrameWorld). x.gone) (some_is is))

-- so does a step that is no loss
step_stays : (config : Config) (u v w : LosingFrameWorld) (step : FrameStep) (e : LosingEvent Action) → not (is_loss step) ≡ true → e ≡ (told_of config w step).event
    → losing_happens (losing_frame_machine config) last_notice u e ≡ Some v → v.gone ≡ u.gone
step_stays config u v w (frames.Take i p) e none is happened = gone_stays config u v (Take i p) (ap (losing_happens (losing_frame_machine config) last_notice u) (sym is) ∙ happened)
step_stays config u v w (frames.Command i port c) e none is happened = gone_stays config u v (Do i (Issue port c)) (ap (losing_happens (losing_frame_machine config) last_notice u) (sym is) ∙ happened)
step_stays config u v w (frames.Retry i op) e none is happened = gone_stays config u v (Do i (Retry op)) (ap (losing_happens (losing_frame_machine config) last_notice u) (sym is) ∙ happened)
step_stays config u v w (frames.SeeLoss i p) e none is happened = gone_stays config u v (Take i p) (ap (losing_happens (losing_frame_machine config) last_notice u) (sym is) ∙ happened)
step_stays config u v w (frames.Lose i keep) e none is happened = absurd (cc)

-- and steps of which none is one
pub nobody_more : (config : Config) (u v : LosingFrameWorld) (all : List FrameStep) (numbers : List ℕ) (events : List (LosingEvent Action)) → LosesNone all → RunsTo config u all numbers events v → v.gone ≡ u.gone
nobody_more config u v [] [] events none (done, same) = ap (λ (x : LosingFrameWorld). x.gone) (sym same)
nobody_more config u v [] (number ∷ numbers) events none runs = absurd runs
nobody_more config u v (step ∷ all) [] events none runs = absurd runs
nobody_more config u v (step ∷ all) (number ∷ numbers) events none (inl goes) =
    nobody_more config goes.left v all numbers goes.rest.later (λ i d low. none (suc i) d (omega (arith, low))) goes.rest.rest
    ∙ step_stays config u goes.left u step goes.e (none 0 step (omega arith)) goes.is.0 goes.happened
nobody_more config u v (step ∷ all) (number ∷ numbers) events none (inr passed) = nobody_more config u v all numbers events (λ i d low. none (suc i) d (omega (arith, low))) passed.1

-- ---- runs

-- events that lead on from where others led
leads_on : (config : Config) (es fs : List (LosingEvent Action)) (w u v : LosingFrameWorld) → LosingLeads (losing_frame_machine config) last_notice w es u → LosingLeads (losing_frame_machine config) last_notice u fs v
    → LosingLeads (losing_frame_machine config) last_notice w (es ++ fs) v
leads_on config [] fs w u v same led = subst (λ (x : LosingFrameWorld). LosingLeads (losing_frame_machine config) last_notice x fs v) (sym same) led
leads_on config (e ∷ es) fs w u v (x, happened, rest) led = (x, happened, leads_on config es fs x u v rest led)

pub reached_on : (config : Config) (u v : LosingFrameWorld) (events : List (LosingEvent Action)) → IsReachedLosing config u → LosingLeads (losing_frame_machine config) last_notice u events v → IsReachedLosing config v
reached_on config u v events reached led = (reached.0 ++ events, leads_on config reached.0 events (nobody_gone (start_of (losing_frame_machine config))) u v reached.1 led)

module _ (config : Config) where
  -- the events that happened lead on
  pub leads : (steps : List FrameStep) (numbers : List ℕ) (u v : LosingFrameWorld) (events : List (LosingEvent Action))
      → RunsTo config u steps numbers events v → LosingLeads (losing_frame_machine config) last_notice u events v
  leads [] [] u v events (none, same) = subst (λ (es : List (LosingEvent Action)). LosingLeads (losing_frame_machine config) last_notice u es v) (sym none) same
  leads [] (number ∷ numbers) u v events runs = absurd runs
  leads (step ∷ steps) [] u v events runs = absurd runs
  leads (step ∷ steps) (number ∷ numbers) u v events (inl goes) =
      subst (λ (es : List (LosingEvent Action)). LosingLeads (losing_frame_machine config) last_notice u es v) (sym goes.rest.first)
      (goes.left, goes.happened, leads steps numbers goes.left v goes.rest.later goes.rest.rest)
  leads (step ∷ steps) (number ∷ numbers) u v events (inr passed) = leads steps numbers u v events passed.1

  module _ (step : FrameStep) (number : ℕ) (Shown : LosingFrameWorld → Type 0) where
    -- one more step
    one_here : (u : LosingFrameWorld) → StepsTo config u step number Shown → GoesTo config u (step ∷ []) (number ∷ []) Shown
    one_here u (inl goes) = record {
      events = goes.e ∷ [];
      left = goes.left;
      runs = inl (record {
        listed = goes.listed;
        e = goes.e;
        is = goes.is;
        left = goes.left;
        happened = goes.happened;
        rest = record { later = []; first = refl; rest = (refl, refl) };
      });
      shown = goes.rest;
    }
    one_here u (inr passed) = record { events = []; left = u; runs = inr (passed.0, (refl, refl)); shown = passed.1 }

    step_more : (steps : List FrameStep) (numbers : List ℕ) (w u : LosingFrameWorld) (events : List (LosingEvent Action))
        → RunsTo config w steps numbers events u → StepsTo config u step number Shown
        → GoesTo config w (steps ++ step ∷ []) (numbers ++ number ∷ []) Shown
    step_more [] [] w u events (none, same) steps_to = subst (λ (x : LosingFrameWorld). GoesTo config x (step ∷ []) (number ∷ []) Shown) (sym same) (one_here u steps_to)
    step_more [] (n ∷ ns) w u events runs steps_to = absurd runs
    step_more (s ∷ ss) [] w u events runs steps_to = absurd runs
    step_more (s ∷ ss) (n ∷ ns) w u events (inl goes) steps_to =
        let rest = step_more ss ns goes.left u goes.rest.later goes.rest.rest steps_to in
        record {
          events = goes.e ∷ rest.events;
          left = rest.left;
          runs = inl (record {
            listed = goes.listed;
            e = goes.e;
            is = goes.is;
            left = goes.left;
            happened = goes.happened;
            rest = record { later = rest.events; first = refl; rest = rest.runs };
          });
          shown = rest.shown;
        }
    step_more (s ∷ ss) (n ∷ ns) w u events (inr passed) steps_to =
        let rest = step_more ss ns w u events passed.1 steps_to in
        record { events = rest.events; left = rest.left; runs = inr (passed.0, rest.runs); shown = rest.shown }

  -- the steps so far, and one more, whose number was put in its place
  pub steps_more : (steps : List FrameStep) (numbers : List ℕ) (k number : ℕ) (step : FrameStep) (w : LosingFrameWorld) (Before Shown : LosingFrameWorld → Type 0) → k < length steps → k < length numbers
      → step ≡ get_or steps k step → GoesTo config w (take k steps) (take k numbers) Before
      → ((u : LosingFrameWorld) (events : List (LosingEvent Action)) → LosingLeads (losing_frame_machine config) last_notice w events u → Before u → StepsTo config u step number Shown)
      → GoesTo config w (take (k + 1) steps) (take (k + 1) (slice_set numbers k number)) Shown
  steps_more steps numbers k number step w Before Shown within inside here before then =
      let led = leads (take k steps) (take k numbers) w before.left before.events before.runs in
      let goes = step_more step number Shown (take k steps) (take k numbers) w before.left before.events before.runs (then before.left before.events led before.shown) in
      subst (λ (ss : List FrameStep). GoesTo config w ss (take (k + 1) (slice_set numbers k number)) Shown) (ap (λ s. take k steps ++ s ∷ []) here ∙ sym (take_more steps k step within))
      (subst (λ (ns : List ℕ). GoesTo config w (take k steps ++ step ∷ []) ns Shown) (sym (put numbers k number inside)) goes)
    where
      put : (ns : List ℕ) (k n : ℕ) → k < length ns → take (k + 1) (slice_set ns k n) ≡ take k ns ++ n ∷ []
      put ns k n l = take_more_set ns k n l

  -- all steps were made
  pub all_made : (w : LosingFrameWorld) (steps : List FrameStep) (numbers : List ℕ) (k : ℕ) (Shown : LosingFrameWorld → Type 0) → k ≡ length steps → length numbers ≡ length steps
      → GoesTo config w (take k steps) (take k numbers) Shown → GoesTo config w steps numbers Shown
  all_made w steps numbers k Shown last same goes =
      subst (λ (ns : List ℕ). GoesTo config w steps ns Shown) (ap (λ n. take n numbers) (last ∙ sym same) ∙ take-length numbers)
      (subst (λ (ss : List FrameStep). GoesTo config w ss (take k numbers) Shown) (ap (λ n. take n steps) last ∙ take-length steps) goes)

-- ---- one step over packets

module _ (config : Config) (u : LosingFrameWorld) (step : FrameStep) (Shown : LosingFrameWorld → Type 0) where
  abbrev told : Telling
  told = told_of config u step

  -- what a step came to, by its number
  pub made_so : (result : Result Stepped NodeFault) (stepped : Stepped) → result ≡ Ok stepped → LosingComesTo config u told result Shown → StepsTo config u step 0 Shown
  made_so (Ok (Happened effect)) stepped r (loss, busy, did, (v, happened, shown)) = inl (record { listed = refl; e = told.event; is = (refl, busy); left = v; happened = happened; rest = shown })
  made_so (Ok Gone) stepped r comes = inl (record { listed = refl; e = told.event; is = (refl, comes.1); left = comes.2.0; happened = comes.2.1; rest = comes.2.2 })
  made_so (Ok Nothing) stepped r comes = inr (inl (sym (idle told.refusal told.is_idle comes.1 comes.0)), comes.2)
    where
      idle : (refusal : Option Refusal) (idle : Bool) → refusal ≡ None → idle ≡ true → option_map_or refusal_number_of refusal (cond idle 0 10) ≡ 0
      idle None true a b = refl
      idle None false a b = absurd (cc)
      idle (Some refusal) none a b = absurd (cc)
  made_so (Ok (Moved count)) stepped r comes = absurd comes
  made_so (Err fault) stepped r comes = absurd (cc)

  pub left_out_so : (result : Result Stepped NodeFault) (fault : NodeFault) → result ≡ Err fault → LosingComesTo config u told result Shown → StepsTo config u step (node_number_of fault) Shown
  left_out_so (Ok stepped) fault r comes = absurd (cc)
  left_out_so (Err OutOfMemory) fault r comes = let one : OutOfMemory ≡ fault = cc in inr (inr (comes.0, ap node_number_of (sym one)), comes.1)
  left_out_so (Err (Refused refusal)) fault r comes =
      let one : Refused refusal ≡ fault = cc in
      inr (inl (ap node_number_of (sym one) ∙ sym (ap (λ (o : Option Refusal). option_map_or refusal_number_of o (cond told.is_idle 0 10)) comes.0)), comes.1)
  left_out_so (Err (BadMessage m)) fault r comes = absurd comes
  left_out_so (Err TooLong) fault r comes = absurd comes
  left_out_so (Err Damaged) fault r comes = absurd comes
