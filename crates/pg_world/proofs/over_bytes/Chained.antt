-- Steps over bytes that are made one after another, each with its event and what it changed.
use Rattle.std.proofs.Common.{◌≡◌, ◌<◌, ◌+◌, ℕ, true, false, List, [], ◌∷◌, ◌++◌}
use Rattle.std.proofs.Common.{Option, Ok, Err, Result, take, length, get_or, refl, sym, ap, ◌∙◌, subst}
use Rattle.std.specs.Prelude.{slice_set}
use Rattle.std.proofs.Math.Seq.{take-length}
use Rattle.std.proofs.lemmas.List.{append-nil, append_assoc, take_more, take_more_set}
use Rattle.pg_world_packets.specs.PgStep.Machines.Losing.{LosingEvent, LosingLeads, nobody_gone}
use Rattle.pg_world_packets.specs.PgStep.Machines.Machine.{start_of}
use Rattle.pg_world_packets.specs.PgStep.declared.refusal.Refusal.{Refusal}
use Rattle.pg_world_packets.specs.PgStep.declared.refusal.Refusal.TheVariants.{NotDrained}
use Rattle.pg_world_packets.specs.PgStep.Config.{Config}
use Rattle.pg_world_packets.specs.PgStep.FrameMachine.{frame_machine, last_notice, losing_frame_machine}
use Rattle.pg_world_packets.specs.PgStep.LossLaws.{LosingFrameWorld}
use Rattle.pg_world_packets.specs.PgStep.Step.{Action, Issue, Retry}
use Rattle.pg_world_packets.specs.PgNodeState.declared.state.fault.NodeFault.{NodeFault}
use Rattle.pg_world_packets.specs.PgNodeState.declared.state.fault.NodeFault.TheVariants.{Refused, OutOfMemory}
use Rattle.pg_world_packets.specs.PgNodeState.declared.state.fault.NodeFault.TheVariants.{Message as BadMessage, TooLong, Damaged}
use Rattle.pg_world_packets.specs.declared.step.FrameStep.{FrameStep}
use Rattle.pg_world_packets.specs.declared.step.FrameStep.TheVariants as frames
use Rattle.pg_world.specs.declared.step.Step.{Step}
use Rattle.pg_world.specs.declared.step.Step.TheVariants as steps
use Rattle.pg_world_packets.specs.declared.step.Stepped.{Stepped}
use Rattle.pg_world_packets.specs.declared.step.Stepped.TheVariants.{Happened, Moved, Nothing, Gone}
use Rattle.pg_world.specs.Bars.{RefusesBarred, StepTellsUndrained, bar_of}
use Rattle.pg_world.specs.BytesLosing.{ShowsLosingBytes, MoveLeaves, WholeComesTo, SightComesTo}
use Rattle.pg_world.specs.BytesLosing.{LossComesTo, EventLeaves, StepLeaves, put_refusal, pull_refusal}
use Rattle.pg_world.specs.BytesLosing.{IsBytesEvent}
use Rattle.pg_world_packets.specs.Losing.{IsReachedLosing, LosingComesTo, Telling, told_own, told_sight, told_take}
use Rattle.pg_world_packets.specs.Past.{Adds}
use Rattle.pg_world.specs.BytesStart.{BytesBegin, OpensBytes}
use Rattle.pg_world.specs.Changes.{StepChanges}
use Rattle.pg_world.specs.Crossings.{Crossing}
use Rattle.pg_world.specs.CrossingRuns.{CrossesAll, CrossesTo, RanBytes, number_of}
use Rattle.pg_world_packets.specs.PgWorldAccount.Histories.{Account}
use Rattle.pg_world_packets.proofs.Leading.{Near, Here, Next, Survive, leads_on, past_of}
use Rattle.pg_world_packets.proofs.Running.{reached_on, start_is}
use Rattle.pg_world.proofs.over_bytes.Leading.{Any, any_told, bytes_added, leaves_on}

-- ---- the one world that a step leaves

module _ (config : Config) (u : LosingFrameWorld) (Q : LosingFrameWorld → Type 0) where
  abbrev Left : ((LosingFrameWorld → Type 0) → Type 0) → Type 0
  Left Comes = (v : LosingFrameWorld) × Q v × Comes (λ x. x ≡ v)

  moved_left : (refusal : Option Refusal) (result : Result Stepped NodeFault) → MoveLeaves refusal result (Q u) → Q u × MoveLeaves refusal result (u ≡ u)
  moved_left refusal (Ok (Moved count)) (is, shown) = (shown, (is, refl))
  moved_left refusal (Ok (Happened effect)) leaves = absurd leaves
  moved_left refusal (Ok Nothing) leaves = absurd leaves
  moved_left refusal (Ok Gone) leaves = absurd leaves
  moved_left refusal (Err OutOfMemory) (is, shown) = (shown, (is, refl))
  moved_left refusal (Err (Refused r)) (is, shown) = (shown, (is, refl))
  moved_left refusal (Err (BadMessage m)) leaves = absurd leaves
  moved_left refusal (Err TooLong) leaves = absurd leaves
  moved_left refusal (Err Damaged) leaves = absurd leaves

  told_left : (told : Telling) (result : Result Stepped NodeFault) → LosingComesTo config u told result Q → Left (LosingComesTo config u told result)
  told_left told (Ok (Happened effect)) (loss, busy, did, (v, happened, shown)) = (v, shown, (loss, busy, did, (v, happened, refl)))
  told_left told (Ok Gone) (loss, busy, (v, happened, shown)) = (v, shown, (loss, busy, (v, happened, refl)))
  told_left told (Ok Nothing) (idle, none, shown) = (u, shown, (idle, none, refl))
  told_left told (Ok (Moved count)) comes = absurd comes
  told_left told (Err OutOfMemory) (late, shown) = (u, shown, (late, refl))
  told_left told (Err (Refused r)) (is, shown) = (u, shown, (is, refl))
  told_left told (Err (BadMessage m)) comes = absurd comes
  told_left told (Err TooLong) comes = absurd comes
  told_left told (Err Damaged) comes = absurd comes

  whole_left : (told : Telling) (result : Result Stepped NodeFault) → WholeComesTo config u told result Q → Left (WholeComesTo config u told result)
  whole_left told (Ok Nothing) (late, shown) = (u, shown, (late, refl))
  whole_left told result comes = told_left told result comes

  sight_left : (told : Telling) (result : Result Stepped NodeFault) → SightComesTo config u told result Q → Left (SightComesTo config u told result)
  sight_left told (Err (Refused NotDrained)) (before, shown) = (u, shown, (before, refl))
  sight_left told result comes = told_left told result comes

  loss_left : (i : ℕ) (result : Result Stepped NodeFault) → LossComesTo config u i result Q → Left (LossComesTo config u i result)
  loss_left i (Ok Gone) (none, keep, (v, happened, shown)) = (v, shown, (none, keep, (v, happened, refl)))
  loss_left i (Ok (Happened effect)) comes = absurd comes
  loss_left i (Ok Nothing) comes = absurd comes
  loss_left i (Ok (Moved count)) comes = absurd comes
  loss_left i (Err OutOfMemory) (none, shown) = (u, shown, (none, refl))
  loss_left i (Err (Refused r)) (is, shown) = (u, shown, (is, refl))
  loss_left i (Err (BadMessage m)) comes = absurd comes
  loss_left i (Err TooLong) comes = absurd comes
  loss_left i (Err Damaged) comes = absurd comes

  event_left : (step : FrameStep) (result : Result Stepped NodeFault) → EventLeaves config u step result Q → Left (EventLeaves config u step result)
  event_left (frames.Take i p) result comes = whole_left (told_take config u i p) result comes
  event_left (frames.Command i port command) result comes = told_left (told_own config u i (Issue port command)) result comes
  event_left (frames.Retry i op) result comes = told_left (told_own config u i (Retry op)) result comes
  event_left (frames.SeeLoss i p) result comes = sight_left (told_sight config u i p) result comes
  event_left (frames.Lose i keep) result comes = loss_left i result comes

  step_left : (step : Step) (result : Result Stepped NodeFault) → StepLeaves config u step result Q → Left (StepLeaves config u step result)
  step_left (steps.Put x y max) result leaves = let m = moved_left (put_refusal config u x y) result leaves in (u, m.0, m.1)
  step_left (steps.Pull y x max) result leaves = let m = moved_left (pull_refusal config u y x) result leaves in (u, m.0, m.1)
  step_left (steps.Event step) result leaves = event_left step result leaves
  step_left (steps.Lose i) result leaves = loss_left i result leaves

-- with the event of the step, or none
module _ (config : Config) (u : LosingFrameWorld) (step : Step) (result : Result Stepped NodeFault) (P : LosingFrameWorld → Type 0) where
  abbrev WithMore : LosingFrameWorld → Type 0
  WithMore v = (more : List (LosingEvent Action)) × Adds (IsBytesEvent config u step) result more × LosingLeads (losing_frame_machine config) last_notice u more v × P v

  with_more : StepLeaves config u step result P → StepLeaves config u step result WithMore
  with_more leaves =
      leaves_on config u (λ e. Any e × Adds (IsBytesEvent config u step) result (e ∷ [])) (Unit {0} × Adds (IsBytesEvent config u step) result []) P WithMore onward step result
      (bytes_added config u Any (Unit {0}) P step result leaves (any_told step result)) leaves
    where
      onward : (v : LosingFrameWorld) → Near config (λ e. Any e × Adds (IsBytesEvent config u step) result (e ∷ [])) (Unit {0} × Adds (IsBytesEvent config u step) result []) u v → P v → WithMore v
      onward v (Here same told) shows = ([], told.1, same, shows)
      onward v (Next e happened told) shows = (e ∷ [], told.1, (v, happened, refl), shows)

-- one step
pub crosses_so : (config : Config) (room : ℕ) (old new : Crossing) (before account : Account) (were lost : List ℕ) (u : LosingFrameWorld) (step : Step) (result : Result Stepped NodeFault) (number : ℕ) → IsReachedLosing config u
    → ShowsLosingBytes config old before were u → number ≡ number_of result → RefusesBarred (bar_of old were step) result → StepTellsUndrained old step result
    → StepChanges room old new step result → StepLeaves config u step result (ShowsLosingBytes config new account lost)
    → CrossesTo config room old u (step ∷ []) (number ∷ []) new (ShowsLosingBytes config new account lost)
crosses_so config room old new before account were lost u step result number reached shows listed barred undrained changes leaves =
    let left = step_left config u (WithMore config u step result (ShowsLosingBytes config new account lost)) step result (with_more config u step result (ShowsLosingBytes config new account lost) leaves) in
    let v = left.0 in
    let more = left.1.0 in
    record {
      events = more;
      left = v;
      chain = (
        more,
        [],
        new,
        v,
        record {
          result = result;
          listed = listed;
          added = left.1.1;
          led = left.1.2;
          lost = were;
          gone = ap (λ (x : LosingFrameWorld). x.gone) shows.is;
          barred = barred;
          undrained = undrained;
          changes = changes;
          leaves = left.2;
          shown = record { account = account; lost = lost; reached = reached_on config u v more reached left.1.2; shows = left.1.3 };
        },
        sym (append-nil more),
        (refl, refl, refl),
      );
      shown = left.1.3;
    }

-- ---- steps

module _ (config : Config) (room : ℕ) where
  -- their events lead on
  pub chain_leads : (all : List Step) (numbers : List ℕ) (old new : Crossing) (u v : LosingFrameWorld) (events : List (LosingEvent Action)) → CrossesAll config room old u all numbers events new v
      → LosingLeads (losing_frame_machine config) last_notice u events v
  chain_leads [] [] old new u v events (none, same, here) = subst (λ (es : List (LosingEvent Action)). LosingLeads (losing_frame_machine config) last_notice u es v) (sym none) here
  chain_leads [] (n ∷ ns) old new u v events never = absurd never
  chain_leads (s ∷ ss) [] old new u v events never = absurd never
  chain_leads (s ∷ ss) (n ∷ ns) old new u v events (more, others, next, x, crosses, is, rest) =
      subst (λ (es : List (LosingEvent Action)). LosingLeads (losing_frame_machine config) last_notice u es v) (sym is)
      (leads_on config more others u x v crosses.led (chain_leads ss ns next new x v others rest))

  -- steps, and others behind them
  module _ (mid new : Crossing) (x v : LosingFrameWorld) (all : List Step) (numbers : List ℕ) (events : List (LosingEvent Action)) (later : CrossesAll config room mid x all numbers events new v) where
    chain_on : (ss : List Step) (ns : List ℕ) (old : Crossing) (u : LosingFrameWorld) (es : List (LosingEvent Action)) → CrossesAll config room old u ss ns es mid x
        → CrossesAll config room old u (ss ++ all) (ns ++ numbers) (es ++ events) new v
    chain_on [] [] old u es (none, same, here) =
        subst (λ (fs : List (LosingEvent Action)). CrossesAll config room old u all numbers (fs ++ events) new v) (sym none)
        (subst (λ (c : Crossing). CrossesAll config room c u all numbers events new v) (sym same)
        (subst (λ (w : LosingFrameWorld). CrossesAll config room mid w all numbers events new v) (sym here) later))
    chain_on [] (n ∷ ns) old u es never = absurd never
    chain_on (s ∷ ss) [] old u es never = absurd never
    chain_on (s ∷ ss) (n ∷ ns) old u es (more, others, next, y, crosses, is, rest) =
        (more, others ++ events, next, y, crosses, ap (λ (fs : List (LosingEvent Action)). fs ++ events) is ∙ append_assoc more others events, chain_on ss ns next y others rest)

  -- the steps so far, and one more, whose number was put in its place
  pub chain_steps_more : (all : List Step) (numbers : List ℕ) (k number : ℕ) (step : Step) (old mid new : Crossing) (u : LosingFrameWorld) (Before Shown : LosingFrameWorld → Type 0) → k < length all → k < length numbers
      → step ≡ get_or all k step → CrossesTo config room old u (take k all) (take k numbers) mid Before
      → ((v : LosingFrameWorld) (events : List (LosingEvent Action)) → LosingLeads (losing_frame_machine config) last_notice u events v → Before v → CrossesTo config room mid v (step ∷ []) (number ∷ []) new Shown)
      → CrossesTo config room old u (take (k + 1) all) (take (k + 1) (slice_set numbers k number)) new Shown
  chain_steps_more all numbers k number step old mid new u Before Shown within inside here before then =
      let led = chain_leads (take k all) (take k numbers) old mid u before.left before.events before.chain in
      let one = then before.left before.events led before.shown in
      let goes : CrossesTo config room old u (take k all ++ step ∷ []) (take k numbers ++ number ∷ []) new Shown = record {
        events = before.events ++ one.events;
        left = one.left;
        chain = chain_on mid new before.left one.left (step ∷ []) (number ∷ []) one.events one.chain (take k all) (take k numbers) old u before.events before.chain;
        shown = one.shown;
      } in
      subst (λ (ss : List Step). CrossesTo config room old u ss (take (k + 1) (slice_set numbers k number)) new Shown) (ap (λ s. take k all ++ s ∷ []) here ∙ sym (take_more all k step within))
      (subst (λ (ns : List ℕ). CrossesTo config room old u (take k all ++ step ∷ []) ns new Shown) (sym (take_more_set numbers k number inside)) goes)

  -- all steps
  pub chain_all : (all : List Step) (numbers : List ℕ) (k : ℕ) (old new : Crossing) (u : LosingFrameWorld) (Shown : LosingFrameWorld → Type 0) → k ≡ length all → length numbers ≡ length all
      → CrossesTo config room old u (take k all) (take k numbers) new Shown → CrossesTo config room old u all numbers new Shown
  chain_all all numbers k old new u Shown last same goes =
      subst (λ (ns : List ℕ). CrossesTo config room old u all ns new Shown) (ap (λ n. take n numbers) (last ∙ sym same) ∙ take-length numbers)
      (subst (λ (ss : List Step). CrossesTo config room old u ss (take k numbers) new Shown) (ap (λ n. take n all) last ∙ take-length all) goes)

-- from the start
pub ran_so : (given : Config) → Survive → (room ring : ℕ) (first new : Crossing) (account after : Account) (lost now : List ℕ) (all : List Step) (numbers : List ℕ) → BytesBegin given first account → OpensBytes given first
    → lost ≡ [] → room ≡ ring
    → ((config : Config) (u : LosingFrameWorld) → IsReachedLosing config u → ShowsLosingBytes config first account lost u → CrossesTo config room first u all numbers new (ShowsLosingBytes config new after now))
    → RanBytes given ring all numbers new (λ config u. ShowsLosingBytes config new after now u)
ran_so given survive room ring first new account after lost now all numbers begins opens none same crosses =
    let config = begins.0 in
    let start = nobody_gone (start_of (losing_frame_machine config)) in
    let goes = subst (λ (r : ℕ). CrossesTo config r first start all numbers new (ShowsLosingBytes config new after now)) same
    (crosses config start ([], refl)
    (subst (λ (l : List ℕ). ShowsLosingBytes config first account l start) (sym none)
    (record {
      frames = start_of (frame_machine config);
      shows = begins.2;
      seen = λ i p pair saw. let no : false ≡ true = saw in absurd (cc);
      is = start_is config;
    }))) in
    record {
      config = config;
      first = first;
      opens = opens;
      events = goes.events;
      u = goes.left;
      chain = goes.chain;
      past = past_of given (λ c u. ShowsLosingBytes c new after now u) (λ c u shows. shows.shows.traffic.nodes.apart) survive config goes.events goes.left begins.1
          (chain_leads config ring all numbers first new start goes.left goes.events goes.chain) goes.shown;
    }
