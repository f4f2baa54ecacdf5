-- The past of a world of bytes, and what a step adds to it.
use Rattle.std.proofs.Common.{◌≡◌, ◌<◌, ◌≤◌, ◌+◌, ℕ, Bool, false, true, get_or, length, List, [], ◌∷◌, Option}
use Rattle.std.proofs.Common.{Some, None, Result, Ok, Err, refl, sym, ap, ◌∙◌, arith, subst}
use Rattle.std.specs.Prelude.{slice_get, option_map, IfSome}
use Rattle.std.specs.Option.{option_copied}
use Rattle.std.specs.Borrow.{Bor}
use Rattle.pg_world_packets.specs.PgGroup.declared.table.GroupTable.{Ghosts}
use Rattle.pg_node.specs.declared.node.Node.{Node}
use Rattle.pg_node.specs.Nodes.{links_of}
use Rattle.std.proofs.lemmas.Bool.{eq-eqb, eqb-true}
use Rattle.std.proofs.lemmas.Option.{get_or_from_slice_get, slice_get_within}
use Rattle.pg_term.specs.declared.term.Term.{Term}
use Rattle.pg_world_packets.specs.PgStep.Machines.Losing.{Lose, LosingEvent, nobody_gone}
use Rattle.pg_world_packets.specs.PgStep.Machines.Losing.{Step as Happens}
use Rattle.pg_world_packets.specs.PgStep.Machines.Machine.{Do, Take, start_of}
use Rattle.pg_world_packets.specs.PgStep.declared.refusal.Refusal.{Refusal}
use Rattle.pg_world_packets.specs.PgStep.declared.refusal.Refusal.TheVariants.{NotDrained}
use Rattle.pg_world_packets.specs.PgNodeOpens.Places.{name_at as place_name}
use Rattle.pg_world_packets.specs.PgStep.Config.{Config, name_at}
use Rattle.pg_world_packets.specs.PgStep.FrameMachine.{frame_machine, losing_frame_machine}
use Rattle.pg_world_packets.specs.PgStep.LossLaws.{LosingFrameWorld}
use Rattle.pg_world_packets.specs.PgStep.Step.{Action, Issue, Retry}
use Rattle.pg_world_packets.specs.PgLaws.History.{Entry, history}
use Rattle.pg_world_packets.proofs.PgLaws.steps.Lossless.{NoneLost}
use Rattle.pg_world_packets.specs.PgNodeState.declared.state.fault.NodeFault.{NodeFault}
use Rattle.pg_world_packets.specs.PgNodeState.declared.state.fault.NodeFault.TheVariants.{Refused, OutOfMemory}
use Rattle.pg_world_packets.specs.PgNodeState.declared.state.fault.NodeFault.TheVariants.{Message as BadMessage, TooLong, Damaged}
use Rattle.pg_world_packets.specs.declared.step.FrameStep.{FrameStep}
use Rattle.pg_world_packets.specs.declared.step.FrameStep.TheVariants as frames
use Rattle.pg_world.specs.declared.step.Step.{Step}
use Rattle.pg_world.specs.declared.step.Step.TheVariants as steps
use Rattle.pg_world_packets.specs.declared.step.Stepped.{Stepped}
use Rattle.pg_world_packets.specs.declared.step.Stepped.TheVariants.{Happened, Moved, Nothing, Gone}
use Rattle.pg_world.specs.BytesLosing.{ShowsLosingBytes, MoveLeaves, WholeComesTo, SightComesTo}
use Rattle.pg_world.specs.BytesLosing.{LossComesTo, EventLeaves, StepLeaves, put_refusal, pull_refusal, gone_refusal}
use Rattle.pg_world_packets.specs.Losing.{IsReachedLosing}
use Rattle.pg_world.specs.BytesLosing.{IsBytesEvent, IsFrameEvent, IsLossOf}
use Rattle.pg_world.specs.BytesStart.{BytesBegin}
use Rattle.pg_world.specs.Crossings.{Crossing, ShowsPast, link_at, node_of, no_links}
use Rattle.pg_node.specs.Links.{Link}
use Rattle.pg_world_packets.specs.PgStep.Machines.Places.{is_pair}
use Rattle.pg_world_packets.specs.Views.{peer_place, place_of_peer}
use Rattle.pg_world_packets.proofs.Counted.{place_there}
use Rattle.pg_world_packets.proofs.Peering.{known, named, own_place, peer_name, same_place}
use Rattle.pg_world_packets.proofs.Turning.{is_pair_so}
use Rattle.pg_world_packets.specs.Losing.{Telling, formed_after, formed_with, losing_of, told_take, told_own, told_sight}
use Rattle.pg_world_packets.specs.Runs.{IsToldEvent}
use Rattle.pg_world_packets.specs.Past.{Adds, HistoriesGrow, missed_in}
use Rattle.pg_world.specs.Bars.{bytes_formed_after}
use Rattle.pg_world.specs.BytesPast.{BytesFormedFirst, BytesHavePast, BytesGoOn, BytesMissed}
use Rattle.pg_world_packets.specs.Pending.{AgreeOn, pending_of, sees_free}
use Rattle.pg_world_packets.specs.PgWorldConfig.Seen.{Seen}
use Rattle.pg_world_packets.specs.PgWorldAccount.Histories.{Account}
use Rattle.pg_world_packets.specs.PgWorldAccount.Losses.{is_lost}
use Rattle.pg_world_packets.specs.Worlds.{TimedFrameWorld, ShowsNodes}
use Rattle.pg_world_packets.proofs.AtLosses.{ToldBehind, none_told}
use Rattle.pg_world_packets.proofs.FormedSeen.{ToldOf, loss_told, told_both}
use Rattle.pg_world_packets.proofs.Leading.{Near, NearBy, Here, Next, Lists, Survive, AreApart, goes_on}
use Rattle.pg_world_packets.proofs.Leading.{past_after, past_of, comes_on, some_comes, with_added}
use Rattle.pg_world_packets.proofs.Leading.{histories_grow, history_is, applied_there, agreed_there, missed_there}
use Rattle.pg_world_packets.proofs.Ordered.{ordered_length}
use Rattle.pg_world_packets.proofs.Running.{start_is}
use Rattle.pg_world.proofs.over_bytes.Past.{move_mapped}

-- ---- the worlds to which a step leads

-- what is told behind what came of a step: T of an event that happened, and S where none did
abbrev LossTold : (LosingEvent Action → Type 0) → Type 0 → ℕ → Result Stepped NodeFault → Type 0
LossTold T S i (Ok stepped) = (keep : ℕ → ℕ) → T (Lose i keep)
LossTold T S i (Err fault) = S

abbrev EventTold : (LosingEvent Action → Type 0) → Type 0 → FrameStep → Result Stepped NodeFault → Type 0
EventTold T S (frames.Take i p) result = ToldOf T S (Happens (Take i p)) result
EventTold T S (frames.Command i port command) result = ToldOf T S (Happens (Do i (Issue port command))) result
EventTold T S (frames.Retry i op) result = ToldOf T S (Happens (Do i (Retry op))) result
EventTold T S (frames.SeeLoss i p) result = ToldOf T S (Happens (Take i p)) result
EventTold T S (frames.Lose i keep) result = LossTold T S i result

abbrev pub StepTold : (LosingEvent Action → Type 0) → Type 0 → Step → Result Stepped NodeFault → Type 0
StepTold T S (steps.Event step) result = EventTold T S step result
StepTold T S (steps.Lose i) result = LossTold T S i result
StepTold T S step result = S

module _ (config : Config) (u : LosingFrameWorld) (T : LosingEvent Action → Type 0) (S : Type 0) (P Q : LosingFrameWorld → Type 0) (onward : (v : LosingFrameWorld) → Near config T S u v → P v → Q v) where
  whole_on : (told : Telling) (result : Result Stepped NodeFault) → ToldOf T S told.event result → WholeComesTo config u told result P → WholeComesTo config u told result Q
  whole_on told (Ok Nothing) so (late, shown) = (late, onward u (Here refl so) shown)
  whole_on told result so comes = comes_on config u T S told P Q onward result so comes

  sight_on : (told : Telling) (result : Result Stepped NodeFault) → ToldOf T S told.event result → SightComesTo config u told result P → SightComesTo config u told result Q
  sight_on told (Err (Refused NotDrained)) so (before, shown) = (before, onward u (Here refl so) shown)
  sight_on told result so comes = comes_on config u T S told P Q onward result so comes

  loss_on : (i : ℕ) (result : Result Stepped NodeFault) → LossTold T S i result → LossComesTo config u i result P → LossComesTo config u i result Q
  loss_on i (Ok Gone) so (none, keep, (v, happened, shown)) = (none, keep, (v, happened, onward v (Next (Lose i keep) happened (so keep)) shown))
  loss_on i (Ok (Happened effect)) so comes = absurd comes
  loss_on i (Ok Nothing) so comes = absurd comes
  loss_on i (Ok (Moved count)) so comes = absurd comes
  loss_on i (Err OutOfMemory) so (none, shown) = (none, onward u (Here refl so) shown)
  loss_on i (Err (Refused refusal)) so (is, shown) = (is, onward u (Here refl so) shown)
  loss_on i (Err (BadMessage m)) so comes = absurd comes
  loss_on i (Err TooLong) so comes = absurd comes
  loss_on i (Err Damaged) so comes = absurd comes

  event_on : (step : FrameStep) (result : Result Stepped NodeFault) → EventTold T S step result → EventLeaves config u step result P → EventLeaves config u step result Q
  event_on (frames.Take i p) result so comes = whole_on (told_take config u i p) result so comes
  event_on (frames.Command i port command) result so comes = comes_on config u T S (told_own config u i (Issue port command)) P Q onward result so comes
  event_on (frames.Retry i op) result so comes = comes_on config u T S (told_own config u i (Retry op)) P Q onward result so comes
  event_on (frames.SeeLoss i p) result so comes = sight_on (told_sight config u i p) result so comes
  event_on (frames.Lose i keep) result so comes = loss_on i result so comes

  pub leaves_on : (step : Step) (result : Result Stepped NodeFault) → StepTold T S step result → StepLeaves config u step result P → StepLeaves config u step result Q
  leaves_on (steps.Put x y max) result so leaves = move_mapped (put_refusal config u x y) (put_refusal config u x y) (P u) (Q u) result refl (onward u (Here refl so)) leaves
  leaves_on (steps.Pull y x max) result so leaves = move_mapped (pull_refusal config u y x) (pull_refusal config u y x) (P u) (Q u) result refl (onward u (Here refl so)) leaves
  leaves_on (steps.Event step) result so leaves = event_on step result so leaves
  leaves_on (steps.Lose i) result so leaves = loss_on i result so leaves

-- what is told behind a step, by the nodes that are seen
module _ (config : Config) (nodes : List Seen) (lost : List ℕ) (w : TimedFrameWorld) (u : LosingFrameWorld) (shows : ShowsNodes config nodes w) (is : u ≡ losing_of config w lost)
    (seen : ((x : ℕ) → u.gone x ≡ false) → (k : ℕ) → NoneLost (u.world.node k).state) (was now : Bool) where
  abbrev T : LosingEvent Action → Type 0
  T e = ToldBehind config u e was now

  abbrev S : Type 0
  S = now ≡ was

  told_loss : (i : ℕ) (result : Result Stepped NodeFault) → now ≡ formed_with result nodes lost was → LossTold T S i result
  told_loss i (Ok stepped) so = λ keep. loss_told config nodes lost w u shows is seen i keep was now so
  told_loss i (Err fault) so = so

  told_event : (step : FrameStep) (result : Result Stepped NodeFault) → now ≡ formed_after step result nodes lost was → EventTold T S step result
  told_event (frames.Take i p) result so = told_both T S (Happens (Take i p)) result so so
  told_event (frames.Command i port command) result so = told_both T S (Happens (Do i (Issue port command))) result so so
  told_event (frames.Retry i op) result so = told_both T S (Happens (Do i (Retry op))) result so so
  told_event (frames.SeeLoss i p) result so = told_both T S (Happens (Take i p)) result so so
  told_event (frames.Lose i keep) result so = told_loss i result so

  pub told_bytes : (step : Step) (result : Result Stepped NodeFault) → now ≡ bytes_formed_after step result nodes lost was → StepTold T S step result
  told_bytes (steps.Put x y max) result so = so
  told_bytes (steps.Pull y x max) result so = so
  told_bytes (steps.Event step) result so = told_event step result so
  told_bytes (steps.Lose i) result so = told_loss i result so

-- the events that a step adds, beside what is told of it
module _ (config : Config) (u : LosingFrameWorld) (T : LosingEvent Action → Type 0) (S : Type 0) (P : LosingFrameWorld → Type 0) where
  abbrev WithT : (LosingEvent Action → Type 0) → Result Stepped NodeFault → LosingEvent Action → Type 0
  WithT Is result e = T e × Adds Is result (e ∷ [])

  abbrev WithS : (LosingEvent Action → Type 0) → Result Stepped NodeFault → Type 0
  WithS Is result = S × Adds Is result []

  moved_added : (Is : LosingEvent Action → Type 0) (refusal : Option Refusal) (result : Result Stepped NodeFault) → MoveLeaves refusal result (P u) → S → WithS Is result
  moved_added Is refusal (Ok (Moved count)) comes so = (so, refl)
  moved_added Is refusal (Ok Nothing) comes so = (so, refl)
  moved_added Is refusal (Ok (Happened effect)) comes so = absurd comes
  moved_added Is refusal (Ok Gone) comes so = absurd comes
  moved_added Is refusal (Err fault) comes so = (so, refl)

  whole_added : (told : Telling) (result : Result Stepped NodeFault) → WholeComesTo config u told result P → ToldOf T S told.event result
      → ToldOf (WithT (IsToldEvent told) result) (WithS (IsToldEvent told) result) told.event result
  whole_added told (Ok Nothing) comes so = (so, refl)
  whole_added told result comes so = with_added config u T S told P result comes so

  sight_added : (told : Telling) (result : Result Stepped NodeFault) → SightComesTo config u told result P → ToldOf T S told.event result
      → ToldOf (WithT (IsToldEvent told) result) (WithS (IsToldEvent told) result) told.event result
  sight_added told (Err (Refused NotDrained)) comes so = (so, refl)
  sight_added told result comes so = with_added config u T S told P result comes so

  abbrev IsLost : ℕ → LosingEvent Action → Type 0
  IsLost i e = (gone_refusal config u i ≡ None) × IsLossOf i e

  loss_added : (i : ℕ) (result : Result Stepped NodeFault) → LossComesTo config u i result P → LossTold T S i result → LossTold (WithT (IsLost i) result) (WithS (IsLost i) result) i result
  loss_added i (Ok Gone) comes so = λ keep. (so keep, (Lose i keep, (comes.0, (keep, refl)), refl))
  loss_added i (Ok (Happened effect)) comes so = absurd comes
  loss_added i (Ok Nothing) comes so = absurd comes
  loss_added i (Ok (Moved count)) comes so = absurd comes
  loss_added i (Err fault) comes so = (so, refl)

  event_added : (step : FrameStep) (result : Result Stepped NodeFault) → EventLeaves config u step result P → EventTold T S step result
      → EventTold (WithT (IsFrameEvent config u step) result) (WithS (IsFrameEvent config u step) result) step result
  event_added (frames.Take i p) result comes so = whole_added (told_take config u i p) result comes so
  event_added (frames.Command i port command) result comes so = with_added config u T S (told_own config u i (Issue port command)) P result comes so
  event_added (frames.Retry i op) result comes so = with_added config u T S (told_own config u i (Retry op)) P result comes so
  event_added (frames.SeeLoss i p) result comes so = sight_added (told_sight config u i p) result comes so
  event_added (frames.Lose i keep) result comes so = loss_added i result comes so

  pub bytes_added : (step : Step) (result : Result Stepped NodeFault) → StepLeaves config u step result P → StepTold T S step result
      → StepTold (WithT (IsBytesEvent config u step) result) (WithS (IsBytesEvent config u step) result) step result
  bytes_added (steps.Put x y max) result leaves so = moved_added (λ e. ⊥) (put_refusal config u x y) result leaves so
  bytes_added (steps.Pull y x max) result leaves so = moved_added (λ e. ⊥) (pull_refusal config u y x) result leaves so
  bytes_added (steps.Event step) result leaves so = event_added step result leaves so
  bytes_added (steps.Lose i) result leaves so = loss_added i result leaves so

-- where nothing is asked
abbrev pub Any : LosingEvent Action → Type 0
Any e = Unit {0}

any_loss : (i : ℕ) (result : Result Stepped NodeFault) → LossTold Any (Unit {0}) i result
any_loss i (Ok stepped) = λ keep. tt
any_loss i (Err fault) = tt

any_event : (step : FrameStep) (result : Result Stepped NodeFault) → EventTold Any (Unit {0}) step result
any_event (frames.Take i p) result = told_both Any (Unit {0}) (Happens (Take i p)) result tt tt
any_event (frames.Command i port command) result = told_both Any (Unit {0}) (Happens (Do i (Issue port command))) result tt tt
any_event (frames.Retry i op) result = told_both Any (Unit {0}) (Happens (Do i (Retry op))) result tt tt
any_event (frames.SeeLoss i p) result = told_both Any (Unit {0}) (Happens (Take i p)) result tt tt
any_event (frames.Lose i keep) result = any_loss i result

pub any_told : (step : Step) (result : Result Stepped NodeFault) → StepTold Any (Unit {0}) step result
any_told (steps.Put x y max) result = tt
any_told (steps.Pull y x max) result = tt
any_told (steps.Event step) result = any_event step result
any_told (steps.Lose i) result = any_loss i result

-- one of them
module _ (config : Config) (u : LosingFrameWorld) (Q : LosingFrameWorld → Type 0) where
  some_moved : (refusal : Option Refusal) (result : Result Stepped NodeFault) → MoveLeaves refusal result (Q u) → Q u
  some_moved refusal (Ok (Moved count)) leaves = leaves.1
  some_moved refusal (Ok (Happened effect)) leaves = absurd leaves
  some_moved refusal (Ok Nothing) leaves = absurd leaves
  some_moved refusal (Ok Gone) leaves = absurd leaves
  some_moved refusal (Err OutOfMemory) leaves = leaves.1
  some_moved refusal (Err (Refused r)) leaves = leaves.1
  some_moved refusal (Err (BadMessage m)) leaves = absurd leaves
  some_moved refusal (Err TooLong) leaves = absurd leaves
  some_moved refusal (Err Damaged) leaves = absurd leaves

  abbrev Some_world : Type 0
  Some_world = (v : LosingFrameWorld) × Q v

  some_whole : (told : Telling) (result : Result Stepped NodeFault) → WholeComesTo config u told result Q → Some_world
  some_whole told (Ok Nothing) comes = (u, comes.1)
  some_whole told result comes = some_comes config u told Q result comes

  some_sight : (told : Telling) (result : Result Stepped NodeFault) → SightComesTo config u told result Q → Some_world
  some_sight told (Err (Refused NotDrained)) comes = (u, comes.1)
  some_sight told result comes = some_comes config u told Q result comes

  some_loss : (i : ℕ) (result : Result Stepped NodeFault) → LossComesTo config u i result Q → Some_world
  some_loss i (Ok Gone) (none, keep, (v, happened, shown)) = (v, shown)
  some_loss i (Ok (Happened effect)) comes = absurd comes
  some_loss i (Ok Nothing) comes = absurd comes
  some_loss i (Ok (Moved count)) comes = absurd comes
  some_loss i (Err OutOfMemory) comes = (u, comes.1)
  some_loss i (Err (Refused refusal)) comes = (u, comes.1)
  some_loss i (Err (BadMessage m)) comes = absurd comes
  some_loss i (Err TooLong) comes = absurd comes
  some_loss i (Err Damaged) comes = absurd comes

  some_event : (step : FrameStep) (result : Result Stepped NodeFault) → EventLeaves config u step result Q → Some_world
  some_event (frames.Take i p) result comes = some_whole (told_take config u i p) result comes
  some_event (frames.Command i port command) result comes = some_comes config u (told_own config u i (Issue port command)) Q result comes
  some_event (frames.Retry i op) result comes = some_comes config u (told_own config u i (Retry op)) Q result comes
  some_event (frames.SeeLoss i p) result comes = some_sight (told_sight config u i p) result comes
  some_event (frames.Lose i keep) result comes = some_loss i result comes

  some_leaves : (step : Step) (result : Result Stepped NodeFault) → StepLeaves config u step result Q → Some_world
  some_leaves (steps.Put x y max) result leaves = (u, some_moved (put_refusal config u x y) result leaves)
  some_leaves (steps.Pull y x max) result leaves = (u, some_moved (pull_refusal config u y x) result leaves)
  some_leaves (steps.Event step) result leaves = some_event step result leaves
  some_leaves (steps.Lose i) result leaves = some_loss i result leaves

-- ---- a step

module _ (given : Config) (survive : Survive) (old : Crossing) (account : Account) (lost : List ℕ) (step : Step) (result : Result Stepped NodeFault) (new : Crossing) (later : Account) (now : List ℕ)
    (came : (config : Config) (u : LosingFrameWorld) → IsReachedLosing config u → ShowsLosingBytes config old account lost u → StepLeaves config u step result (ShowsLosingBytes config new later now))
    (told : later.formed ≡ bytes_formed_after step result old.nodes lost account.formed) where
  abbrev Before : Config → LosingFrameWorld → Type 0
  Before config u = ShowsLosingBytes config old account lost u

  abbrev After : Config → LosingFrameWorld → Type 0
  After config u = ShowsLosingBytes config new later now u

  abbrev Comes : Config → LosingFrameWorld → (LosingFrameWorld → Type 0) → Type 0
  Comes config u Shown = StepLeaves config u step result Shown

  abbrev IsEvent : Config → LosingFrameWorld → LosingEvent Action → Type 0
  IsEvent config u e = IsBytesEvent config u step e

  apart : AreApart After
  apart config u shows = shows.shows.traffic.nodes.apart

  onward_from : (config : Config) (u : LosingFrameWorld) → Before config u → (((x : ℕ) → u.gone x ≡ false) → (k : ℕ) → NoneLost (u.world.node k).state)
      → (P Q : LosingFrameWorld → Type 0) → ((v : LosingFrameWorld) → NearBy config (Adds (IsBytesEvent config u step) result) account.formed later.formed u v → P v → Q v) → Comes config u P → Comes config u Q
  onward_from config u shows seen P Q onward leaves =
      let Added = Adds (IsBytesEvent config u step) result in
      let Behind = λ (e : LosingEvent Action). ToldBehind config u e account.formed later.formed in
      let Same = later.formed ≡ account.formed in
      leaves_on config u (λ e. Behind e × Added (e ∷ [])) (Same × Added []) P Q onward step result
      (bytes_added config u Behind Same P step result leaves
      (told_bytes config old.nodes lost shows.frames u shows.shows.traffic.nodes shows.is seen account.formed later.formed step result told)) leaves

  pub bytes_go_on : BytesHavePast given old account lost → BytesGoOn given old account lost step result new later now
  bytes_go_on past = goes_on given After apart survive IsEvent result account.formed later.formed Before Comes onward_from past (λ config u events reached shows. came config u (events, reached) shows)

  pub bytes_past : BytesHavePast given old account lost → BytesHavePast given new later now
  bytes_past past = past_after given After apart survive IsEvent result account.formed later.formed Before Comes onward_from
      (λ config u Q leaves. some_leaves config u Q step result leaves) past (λ config u events reached shows. came config u (events, reached) shows)

-- ---- the start

pub bytes_begin : (survive : Survive) (given : Config) (crossing : Crossing) (account : Account) (lost : List ℕ) → lost ≡ [] → account.formed ≡ true → length given ≤ 16 → BytesBegin given crossing account → BytesHavePast given crossing account lost
bytes_begin survive given crossing account lost none formed few begins =
    let config = begins.0 in
    let start = nobody_gone (start_of (losing_frame_machine config)) in
    record {
      config = config;
      events = [];
      u = start;
      is = past_of given (λ c u. ShowsLosingBytes c crossing account lost u) (λ c u shows. shows.shows.traffic.nodes.apart) survive config [] start begins.1 refl
          (subst (λ (l : List ℕ). ShowsLosingBytes config crossing account l start) (sym none)
          (record {
            frames = start_of (frame_machine config);
            shows = begins.2;
            seen = λ i p pair saw. let no : false ≡ true = saw in absurd (cc);
            is = start_is config;
          }));
      at_losses = (λ _. none_told config, λ _. formed);
      few = let same = ordered_length given config begins.1 in omega (arith, few, same);
    }

-- ---- what is known of a world with a past

pub shown_history : (config : Config) (crossing : Crossing) (account : Account) (lost : List ℕ) (u : LosingFrameWorld) → ShowsLosingBytes config crossing account lost u → (name : Term) → account.histories name ≡ history name u.world.reported
shown_history config crossing account lost u shows = history_is config crossing.nodes account lost shows.frames u shows.shows.traffic.nodes shows.shows.updates shows.is

pub bytes_step_grows : (given : Config) (old new : Crossing) (account later : Account) (lost now : List ℕ) (step : Step) (result : Result Stepped NodeFault) → BytesGoOn given old account lost step result new later now → HistoriesGrow account later
bytes_step_grows given old new account later lost now step result goes =
    let led = some_leaves goes.config goes.u _ step result goes.comes in
    histories_grow goes.config account later goes.u led.0 led.1.more (shown_history goes.config old account lost goes.u goes.past.shows) (shown_history goes.config new later now led.0 led.1.past.shows) led.1.led

pub bytes_applied_all : (given : Config) (crossing : Crossing) (account : Account) (lost : List ℕ) (x : ℕ) (node : Seen) (name : Term) → BytesHavePast given crossing account lost → lost ≡ [] → slice_get crossing.nodes x ≡ Some node
    → node.state.state.locks name ≡ None → x < length crossing.nodes → (i : ℕ) → i < length crossing.nodes → account.applied i name ≡ length (account.histories name)
bytes_applied_all given crossing account lost x node name past none at free inside =
    let shows = past.is.shows in
    applied_there past.config crossing.nodes account lost shows.frames past.u shows.shows.traffic.nodes shows.shows.updates shows.is past.events past.is.history none x node name at free inside

pub bytes_agreed_all : Lists → (given : Config) (crossing : Crossing) (account : Account) (lost : List ℕ) (x : ℕ) (name : Term) → BytesHavePast given crossing account lost → pending_of crossing.nodes lost ≡ [] → lost ≡ []
    → sees_free crossing.nodes x name ≡ true → AgreeOn crossing.nodes name
bytes_agreed_all lists given crossing account lost x name past empty none free =
    let shows = past.is.shows in
    agreed_there past.config crossing.nodes account lost shows.frames past.u shows.shows.traffic.nodes shows.shows.updates shows.is past.events past.is.history none
    ((lists past.config crossing.nodes lost shows.frames past.u past.events shows.shows.traffic.nodes shows.is past.is.reached).0 empty) x name free

pub bytes_missed : (given : Config) (crossing : Crossing) (account : Account) (lost : List ℕ) (i : ℕ) (name : Term) → i < length crossing.nodes → is_lost lost i ≡ false
    → (entries : List Entry) → entries ≡ missed_in crossing.nodes account i name → BytesHavePast given crossing account lost → BytesMissed given crossing account lost i name entries
bytes_missed given crossing account lost i name within lives entries told past = record {
  past = past;
  is = let shows = past.is.shows in told ∙ missed_there given past.config past.events past.u crossing.nodes account lost shows.frames past.few past.is.reached past.is.survived
      shows.shows.traffic.nodes shows.shows.updates shows.is i name within lives;
}

pub bytes_formed : (given : Config) (crossing : Crossing) (account : Account) (lost : List ℕ) (formed : Bool) → formed ≡ account.formed → BytesHavePast given crossing account lost → BytesFormedFirst given crossing account lost formed
bytes_formed given crossing account lost formed told past = record { past = past; is = (λ e. past.at_losses.0 (sym told ∙ e), λ all. told ∙ past.at_losses.1 all) }

-- the link of a node to the peer at a place
module _ (given : Config) (crossing : Crossing) (account : Account) (lost : List ℕ) (i : ℕ) (node : Seen) (links : ℕ → Link) (past : BytesHavePast given crossing account lost)
    (at : slice_get crossing.nodes i ≡ Some node) (linked : slice_get crossing.links i ≡ Some links) (k : ℕ) (few : k + 1 < length node.names) where
  abbrev its_config : Config
  its_config = past.config

  abbrev its_shows : ShowsPast its_config lost crossing past.is.shows.frames
  its_shows = past.is.shows.shows.traffic

  within : i < length its_config
  within = let l = slice_get_within crossing.nodes i node at in omega (arith, l, its_shows.nodes.size)

  abbrev y : ℕ
  y = place_of_peer i k

  knows : length node.names ≡ length its_config
  knows = ap length (its_shows.nodes.each i node at).names ∙ known its_config i within

  pair : is_pair (length its_config) i y ≡ true
  pair = is_pair_so (length its_config) i y within (place_there i (length its_config) within node.names knows k few) (own_place i k)

  back : peer_place i y ≡ k
  back = sym (eqb-true k (peer_place i y) (sym (same_place i y k (own_place i k)) ∙ eq-eqb y y refl))

  link_is : links k ≡ link_at crossing i y
  link_is = sym (ap (λ (ls : ℕ → Link). ls k) (get_or_from_slice_get crossing.links i links no_links linked)) ∙ ap (get_or crossing.links i no_links) (sym back)

  -- it is not damaged
  pub bytes_sound : (links k).damaged ≡ false
  bytes_sound = ap (λ (l : Link). l.damaged) link_is ∙ its_shows.sound i y pair

  -- nothing goes out there once the loss of the peer was seen
  pub bytes_silent : node.state.state.lost (place_name node.names (k + 1)) ≡ true → (links k).outbox ≡ []
  bytes_silent seen =
      let its = its_shows.nodes.each i node at in
      let name : place_name node.names (k + 1) ≡ name_at its_config y = ap (λ ns. place_name ns (k + 1)) its.names ∙ (peer_name its_config i within k ∙ sym (named its_config i within y)) in
      ap (λ (l : Link). l.outbox) link_is ∙ its_shows.silent i y pair ((λ j. (its.state j).state.lost (sym name j)) ∙ seen)

-- what is so of each node that is there with its links
pub each_there : {T : Type 0} {g : Ghosts T} (r : Option (Bor (Node T g))) (crossing : Crossing) (i : ℕ) (P : Node T g → Type 0)
    → option_map node_of (option_copied r) ≡ slice_get crossing.nodes i → option_map links_of (option_copied r) ≡ slice_get crossing.links i
    → ((node : Node T g) → slice_get crossing.nodes i ≡ Some (node_of node) → slice_get crossing.links i ≡ Some (links_of node) → P node) → IfSome r (λ node. P node.now)
each_there None crossing i P at linked each = tt
each_there (Some node) crossing i P at linked each = each node.now (sym at) (sym linked)
