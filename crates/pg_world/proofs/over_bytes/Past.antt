-- What steps over bytes come to where nodes may be lost: bytes that move, and events that know of no loss.
use Rattle.std.proofs.Common.{◌≡◌, ℕ, Bool, true, false, not, ◌||◌, cond, length, List, [], ◌∷◌}
use Rattle.std.proofs.Common.{Option, Some, None, Result, Ok, Err, refl, sym, ap, ◌∙◌, subst}
use Rattle.pg_world_packets.specs.PgStep.Machines.Places.{is_place, is_pair}
use Rattle.pg_world_packets.specs.PgStep.Machines.Machine.{Event, Take, Do, node_of, happens}
use Rattle.pg_world_packets.specs.PgStep.Machines.Losing.{LosingEvent, Step, losing_happens}
use Rattle.pg_world_packets.proofs.PgStep.Machines.Steps.{happened}
use Rattle.pg_world_packets.specs.PgStep.declared.refusal.Refusal.{Refusal}
use Rattle.pg_world_packets.specs.PgStep.declared.refusal.Refusal.TheVariants.{NoSuchPlace, NodeLost, NotDrained}
use Rattle.pg_world_packets.specs.PgStep.declared.refusal.Refusal.TheVariants.{NotAMessage, NotWaiting, ClockFull, NotLost}
use Rattle.pg_world_packets.specs.PgStep.Config.{Config, name_at}
use Rattle.pg_world_packets.specs.PgStep.Faults.{first_that_holds}
use Rattle.pg_world_packets.specs.PgStep.FrameMachine.{frame_machine, losing_frame_machine, last_notice}
use Rattle.pg_world_packets.specs.PgStep.LossLaws.{LosingFrameWorld}
use Rattle.pg_world_packets.specs.PgStep.Nodes.{Node}
use Rattle.pg_world_packets.specs.PgStep.Step.{Action}
use Rattle.pg_world_packets.specs.PgStep.StepLaws.{port_of}
use Rattle.pg_world_packets.specs.PgNodeState.declared.state.fault.NodeFault.{NodeFault}
use Rattle.pg_world_packets.specs.PgNodeState.declared.state.fault.NodeFault.TheVariants.{Refused, OutOfMemory}
use Rattle.pg_world_packets.specs.PgNodeState.declared.state.fault.NodeFault.TheVariants.{Message as BadMessage, TooLong, Damaged}
use Rattle.pg_world_packets.specs.declared.effect.Effect.{Effect}
use Rattle.pg_world_packets.specs.declared.step.FrameStep.{FrameStep}
use Rattle.pg_world_packets.specs.declared.step.FrameStep.TheVariants as frames
use Rattle.pg_world_packets.specs.declared.step.Stepped.{Stepped}
use Rattle.pg_world_packets.specs.declared.step.Stepped.TheVariants.{Happened, Moved, Nothing, Gone}
use Rattle.pg_world.specs.Bars.{put_bar, pull_bar}
use Rattle.pg_world.specs.BytesLosing.{ShowsLosingBytes, MoveLeaves, WholeComesTo, SightComesTo}
use Rattle.pg_world.specs.BytesLosing.{EventLeaves, LossComesTo, bars_sight, put_refusal, pull_refusal, gone_refusal}
use Rattle.pg_world.specs.Crossings.{Crossing, ShowsBytesPast}
use Rattle.pg_world.proofs.Coming.{CameOverBytes, is_take}
use Rattle.pg_world_packets.proofs.Coming.{turn_told}
use Rattle.pg_world_packets.specs.Effects.{effect_in, losing_effect_in}
use Rattle.pg_world_packets.specs.Losing.{SeenAreLost, losing_of, is_cut_off, is_barred, Telling}
use Rattle.pg_world_packets.specs.Losing.{CanBeMade, is_told_first, told_take, told_own, told_of, LosingLed, LosingComesTo}
use Rattle.pg_world_packets.specs.PgWorldAccount.Losses.{is_lost}
use Rattle.pg_world_packets.specs.PgWorldAccount.Histories.{Account, account_formed}
use Rattle.pg_world_packets.specs.Worlds.{TimedFrameWorld, ShowsNodes, ShowsUpdates, has_port, has_places}
use Rattle.pg_world_packets.proofs.Barred.{cut_is, barred_told, unplaced_told, take_cut, either_stays}
use Rattle.pg_world_packets.proofs.Barred.{take_refused_so, take_can, take_late, own_refused_so, own_can, own_first}
use Rattle.pg_world_packets.proofs.Lossy.{lifted, same_effect, lost_kept}
use Rattle.pg_world_packets.proofs.Stopped.{updates_formed}
use Rattle.pg_world_packets.proofs.Turning.{pair_turned}

-- ---- bytes that should move

pub move_mapped : (one other : Option Refusal) (A B : Type 0) (result : Result Stepped NodeFault) → one ≡ other → (A → B) → MoveLeaves one result A → MoveLeaves other result B
move_mapped one other A B (Ok (Moved count)) same f (is, shown) = (sym same ∙ is, f shown)
move_mapped one other A B (Ok Nothing) same f comes = absurd comes
move_mapped one other A B (Ok (Happened effect)) same f comes = absurd comes
move_mapped one other A B (Ok Gone) same f comes = absurd comes
move_mapped one other A B (Err OutOfMemory) same f (is, shown) = (sym same ∙ is, f shown)
move_mapped one other A B (Err (Refused refusal)) same f (is, shown) = (sym same ∙ is, f shown)
move_mapped one other A B (Err (BadMessage m)) same f comes = absurd comes
move_mapped one other A B (Err TooLong) same f comes = absurd comes
move_mapped one other A B (Err Damaged) same f comes = absurd comes

pub lost_with : (config : Config) (crossing : Crossing) (account account2 : Account) (u : LosingFrameWorld) (i : ℕ) (lost : List ℕ) (formed : Bool) → account2 ≡ account_formed formed account
    → LossComesTo config u i (Ok Gone) (ShowsLosingBytes config crossing account lost) → LossComesTo config u i (Ok Gone) (ShowsLosingBytes config crossing account2 lost)
lost_with config crossing account account2 u i lost formed same (none, keep, (v, happened, shows)) = (
  none,
  keep,
  (
    v,
    happened,
    record {
      frames = shows.frames;
      shows = record { traffic = shows.shows.traffic; updates = subst (λ (a : Account). ShowsUpdates a shows.frames) (sym same) (updates_formed formed account shows.frames shows.shows.updates) };
      seen = shows.seen;
      is = shows.is;
    },
  ),
)

-- ---- what bars a step is what is told

two_bars : (a b : Bool) → first_that_holds ((not a, NoSuchPlace) ∷ (b, NodeLost) ∷ []) ≡ cond a (cond b (Some NodeLost) None) (Some NoSuchPlace)
two_bars true true = refl
two_bars true false = refl
two_bars false b = refl

module _ (config : Config) (crossing : Crossing) (w : TimedFrameWorld) (lost : List ℕ) (shows : ShowsNodes config crossing.nodes w) (seen : SeenAreLost config w lost) where
  pub put_told : (x y : ℕ) → put_bar crossing lost x y ≡ put_refusal config (losing_of config w lost) x y
  put_told x y = (λ j. first_that_holds ((not (is_pair (shows.size j) x y), NoSuchPlace) ∷ (is_lost lost x, NodeLost) ∷ [])) ∙ two_bars (is_pair (length config) x y) (is_lost lost x)

  pub pull_told : (y x : ℕ) → pull_bar crossing lost y x ≡ pull_refusal config (losing_of config w lost) y x
  pull_told y x = go (is_pair (length config) x y) refl
    where
      go : (b : Bool) → is_pair (length config) x y ≡ b → pull_bar crossing lost y x ≡ pull_refusal config (losing_of config w lost) y x
      go true is = (λ j. first_that_holds ((not (is_pair (shows.size j) x y), NoSuchPlace)
          ∷ (cut_is config crossing.nodes w lost shows seen y x (pair_turned (length config) x y is) j, NodeLost) ∷ []))
          ∙ two_bars (is_pair (length config) x y) (is_lost lost y || (w.node y).state.lost (name_at config x))
      go false is = (λ j. first_that_holds ((not ((ap (λ n. is_pair n x y) shows.size ∙ is) j), NoSuchPlace) ∷ (is_cut_off crossing.nodes lost y x, NodeLost) ∷ []))
          ∙ sym (ap (λ b. cond b (cond (is_lost lost y || (w.node y).state.lost (name_at config x)) (Some NodeLost) None) (Some NoSuchPlace)) is)

-- ---- events that know of no loss

module _ (config : Config) (crossing2 : Crossing) (account2 : Account) (lost lost2 : List ℕ) (w : TimedFrameWorld) (seen : SeenAreLost config w lost) (same : lost2 ≡ lost) where
  pub still_past : ShowsBytesPast config lost crossing2 account2 w → ShowsLosingBytes config crossing2 account2 lost2 (losing_of config w lost)
  still_past shown = record {
    frames = w;
    shows = subst (λ (l : List ℕ). ShowsBytesPast config l crossing2 account2 w) (sym same) shown;
    seen = λ i p pair has. ap (λ (l : List ℕ). is_lost l p) same ∙ seen i p pair has;
    is = ap (losing_of config w) (sym same);
  }

  module _ (e : Event Action) (tells : Telling) (event : tells.event ≡ Step e) (loss : tells.is_loss ≡ false) (stays : is_lost lost (node_of e) ≡ false)
      (refused : (r : Refusal) → turn_told config w e ≡ Some (Err r) → tells.refusal ≡ Some r)
      (can : (v : TimedFrameWorld) → happens (frame_machine config) w e ≡ Some v → CanBeMade tells) (late : is_told_first tells.refusal ≡ false) where
    led_past : (v : TimedFrameWorld) → happens (frame_machine config) w e ≡ Some v → ShowsBytesPast config lost crossing2 account2 v
        → LosingLed config (losing_of config w lost) tells.event (ShowsLosingBytes config crossing2 account2 lost2)
    led_past v is shown =
        let h = happened (frame_machine config) w v e is in (
          losing_of config v lost,
          subst (λ (f : LosingEvent Action). losing_happens (losing_frame_machine config) last_notice (losing_of config w lost) f ≡ Some (losing_of config v lost)) (sym event)
              (lifted config lost w v e h stays),
          record {
            frames = v;
            shows = subst (λ (l : List ℕ). ShowsBytesPast config l crossing2 account2 v) (sym same) shown;
            seen = λ i p pair has. ap (λ (l : List ℕ). is_lost l p) same ∙ seen i p pair (ap (λ (f : Node → Bool). f (name_at config p)) (sym (lost_kept config lost w v e h i)) ∙ has);
            is = ap (losing_of config v) (sym same);
          },
        )

    did_past : (v : TimedFrameWorld) (effect : Effect) → happens (frame_machine config) w e ≡ Some v → effect_in (frame_machine config) w e ≡ Some effect
        → losing_effect_in config (losing_of config w lost) tells.event ≡ Some effect
    did_past v effect is did = ap (losing_effect_in config (losing_of config w lost)) event ∙ (same_effect config lost w v e (happened (frame_machine config) w v e is) stays ∙ did)

    -- something of its own
    own_comes : (result : Result Stepped NodeFault) → is_take e ≡ false → CameOverBytes config w e result (ShowsBytesPast config lost crossing2 account2)
        → LosingComesTo config (losing_of config w lost) tells result (ShowsLosingBytes config crossing2 account2 lost2)
    own_comes (Ok (Happened effect)) own (did, (v, is, shown)) = (loss, can v is, did_past v effect is did, led_past v is shown)
    own_comes (Ok Nothing) own (takes, shown) = let no : true ≡ false = sym takes ∙ own in absurd (cc)
    own_comes (Ok (Moved count)) own comes = absurd comes
    own_comes (Ok Gone) own comes = absurd comes
    own_comes (Err OutOfMemory) own shown = (late, still_past shown)
    own_comes (Err (Refused r)) own (is, shown) = (refused r is, still_past shown)
    own_comes (Err (BadMessage m)) own comes = absurd comes
    own_comes (Err TooLong) own comes = absurd comes
    own_comes (Err Damaged) own comes = absurd comes

    -- a packet that is taken
    taken_comes : (result : Result Stepped NodeFault) → CameOverBytes config w e result (ShowsBytesPast config lost crossing2 account2)
        → WholeComesTo config (losing_of config w lost) tells result (ShowsLosingBytes config crossing2 account2 lost2)
    taken_comes (Ok (Happened effect)) (did, (v, is, shown)) = (loss, can v is, did_past v effect is did, led_past v is shown)
    taken_comes (Ok Nothing) (takes, shown) = (late, still_past shown)
    taken_comes (Ok (Moved count)) comes = absurd comes
    taken_comes (Ok Gone) comes = absurd comes
    taken_comes (Err OutOfMemory) shown = (late, still_past shown)
    taken_comes (Err (Refused r)) (is, shown) = (refused r is, still_past shown)
    taken_comes (Err (BadMessage m)) comes = absurd comes
    taken_comes (Err TooLong) comes = absurd comes
    taken_comes (Err Damaged) comes = absurd comes

-- ---- the same of a world with losses that is shown

module _ (config : Config) (crossing crossing2 : Crossing) (account account2 : Account) (u : LosingFrameWorld) (lost lost2 : List ℕ) (shows : ShowsLosingBytes config crossing account lost u) (same : lost2 ≡ lost)
    (result : Result Stepped NodeFault) where
  abbrev w : TimedFrameWorld
  w = shows.frames

  abbrev nodes : ShowsNodes config crossing.nodes w
  nodes = shows.shows.traffic.nodes

  pub put_in : (x y : ℕ) → MoveLeaves (put_bar crossing lost x y) result (ShowsBytesPast config lost crossing2 account2 w) → MoveLeaves (put_refusal config u x y) result (ShowsLosingBytes config crossing2 account2 lost2 u)
  put_in x y = move_mapped (put_bar crossing lost x y) (put_refusal config u x y) (ShowsBytesPast config lost crossing2 account2 w) (ShowsLosingBytes config crossing2 account2 lost2 u) result
      (put_told config crossing w lost nodes shows.seen x y ∙ ap (λ (v : LosingFrameWorld). put_refusal config v x y) (sym shows.is))
      (λ s. subst (ShowsLosingBytes config crossing2 account2 lost2) (sym shows.is) (still_past config crossing2 account2 lost lost2 w shows.seen same s))

  pub pull_in : (y x : ℕ) → MoveLeaves (pull_bar crossing lost y x) result (ShowsBytesPast config lost crossing2 account2 w) → MoveLeaves (pull_refusal config u y x) result (ShowsLosingBytes config crossing2 account2 lost2 u)
  pull_in y x = move_mapped (pull_bar crossing lost y x) (pull_refusal config u y x) (ShowsBytesPast config lost crossing2 account2 w) (ShowsLosingBytes config crossing2 account2 lost2 u) result
      (pull_told config crossing w lost nodes shows.seen y x ∙ ap (λ (v : LosingFrameWorld). pull_refusal config v y x) (sym shows.is))
      (λ s. subst (ShowsLosingBytes config crossing2 account2 lost2) (sym shows.is) (still_past config crossing2 account2 lost lost2 w shows.seen same s))

  pub take_past : (i p : ℕ) → is_pair (length crossing.nodes) i p ≡ true → is_cut_off crossing.nodes lost i p ≡ false
      → CameOverBytes config w (Take i p) result (ShowsBytesPast config lost crossing2 account2) → WholeComesTo config u (told_take config u i p) result (ShowsLosingBytes config crossing2 account2 lost2)
  take_past i p places lives came = subst (λ (x : LosingFrameWorld). WholeComesTo config x (told_take config x i p) result (ShowsLosingBytes config crossing2 account2 lost2)) (sym shows.is)
      (taken_comes config crossing2 account2 lost lost2 w shows.seen same (Take i p) (told_take config (losing_of config w lost) i p) refl refl
      (either_stays config crossing.nodes w lost nodes shows.seen (is_lost lost i) _ (take_cut config crossing.nodes w lost nodes shows.seen i p places lives))
      (take_refused_so config crossing.nodes w lost nodes shows.seen i p places lives) (take_can config crossing.nodes w lost nodes shows.seen i p places lives) (take_late config crossing.nodes w lost nodes shows.seen i p places lives) result came)

  pub own_past : (i : ℕ) (action : Action) → has_port crossing.nodes i (port_of action) ≡ true → is_lost lost i ≡ false
      → CameOverBytes config w (Do i action) result (ShowsBytesPast config lost crossing2 account2) → LosingComesTo config u (told_own config u i action) result (ShowsLosingBytes config crossing2 account2 lost2)
  own_past i action places stays came = subst (λ (x : LosingFrameWorld). LosingComesTo config x (told_own config x i action) result (ShowsLosingBytes config crossing2 account2 lost2)) (sym shows.is)
      (own_comes config crossing2 account2 lost lost2 w shows.seen same (Do i action) (told_own config (losing_of config w lost) i action) refl refl stays
      (own_refused_so config crossing.nodes w lost nodes shows.seen i action places stays) (own_can config crossing.nodes w lost nodes shows.seen i action places stays) (own_first config crossing.nodes w lost nodes shows.seen i action places stays) result refl came)

-- ---- events that are refused as a place is not there, or as a loss bars them

sight_so : (config : Config) (u : LosingFrameWorld) (tells : Telling) (refusal : Refusal) (Shown : LosingFrameWorld → Type 0) → tells.refusal ≡ Some refusal → Shown u
    → SightComesTo config u tells (Err (Refused refusal)) Shown
sight_so config u tells NotAMessage Shown is shown = (is, shown)
sight_so config u tells NoSuchPlace Shown is shown = (is, shown)
sight_so config u tells NotWaiting Shown is shown = (is, shown)
sight_so config u tells NodeLost Shown is shown = (is, shown)
sight_so config u tells NotDrained Shown is shown = (ap bars_sight is, shown)
sight_so config u tells ClockFull Shown is shown = (is, shown)
sight_so config u tells NotLost Shown is shown = (is, shown)

-- as over packets, whatever came of it
pub sight_from : (config : Config) (u : LosingFrameWorld) (tells : Telling) (Shown : LosingFrameWorld → Type 0) (result : Result Stepped NodeFault) → LosingComesTo config u tells result Shown
    → SightComesTo config u tells result Shown
sight_from config u tells Shown (Ok (Happened effect)) comes = comes
sight_from config u tells Shown (Ok Gone) comes = comes
sight_from config u tells Shown (Ok Nothing) comes = comes
sight_from config u tells Shown (Ok (Moved count)) comes = comes
sight_from config u tells Shown (Err OutOfMemory) comes = comes
sight_from config u tells Shown (Err (Refused r)) comes = sight_so config u tells r Shown comes.0 comes.1
sight_from config u tells Shown (Err (BadMessage m)) comes = comes
sight_from config u tells Shown (Err TooLong) comes = comes
sight_from config u tells Shown (Err Damaged) comes = comes

module _ (config : Config) (crossing : Crossing) (account : Account) (u : LosingFrameWorld) (lost : List ℕ) (shows : ShowsLosingBytes config crossing account lost u) where
  told_refused : (step : FrameStep) (refusal : Refusal) → (told_of config (losing_of config shows.frames lost) step).refusal ≡ Some refusal → (told_of config u step).refusal ≡ Some refusal
  told_refused step refusal is = subst (λ (x : LosingFrameWorld). (told_of config x step).refusal ≡ Some refusal) (sym shows.is) is

  -- node i is not there, or lost
  pub gone_unplaced : (i : ℕ) → is_place (length crossing.nodes) i ≡ false → gone_refusal config u i ≡ Some NoSuchPlace
  gone_unplaced i none = ap (λ b. cond b (cond (u.gone i) (Some NodeLost) None) (Some NoSuchPlace)) (ap (λ n. is_place n i) (sym shows.shows.traffic.nodes.size) ∙ none)

  pub gone_none : (i : ℕ) → is_place (length crossing.nodes) i ≡ true → is_lost lost i ≡ false → gone_refusal config u i ≡ None
  gone_none i there stays = λ j. cond ((ap (λ n. is_place n i) (sym shows.shows.traffic.nodes.size) ∙ there) j) (cond ((ap (λ (x : LosingFrameWorld). x.gone i) shows.is ∙ stays) j) (Some NodeLost) None) (Some NoSuchPlace)

  pub gone_before : (i : ℕ) → is_place (length crossing.nodes) i ≡ true → is_lost lost i ≡ true → gone_refusal config u i ≡ Some NodeLost
  gone_before i there gone = λ j. cond ((ap (λ n. is_place n i) (sym shows.shows.traffic.nodes.size) ∙ there) j) (cond ((ap (λ (x : LosingFrameWorld). x.gone i) shows.is ∙ gone) j) (Some NodeLost) None) (Some NoSuchPlace)

  pub unplaced_past : (step : FrameStep) → has_places crossing.nodes step ≡ false → EventLeaves config u step (Err (Refused NoSuchPlace)) (ShowsLosingBytes config crossing account lost)
  unplaced_past step none = go step none (told_refused step NoSuchPlace (unplaced_told config crossing.nodes shows.frames lost shows.shows.traffic.nodes step none))
    where
      go : (s : FrameStep) → has_places crossing.nodes s ≡ false → (told_of config u s).refusal ≡ Some NoSuchPlace → EventLeaves config u s (Err (Refused NoSuchPlace)) (ShowsLosingBytes config crossing account lost)
      go (frames.Take i p) places is = (is, shows)
      go (frames.Command i port c) places is = (is, shows)
      go (frames.Retry i op) places is = (is, shows)
      go (frames.SeeLoss i p) places is = (is, shows)
      go (frames.Lose i keep) places is = (gone_unplaced i places, shows)

  pub barred_past : (step : FrameStep) → has_places crossing.nodes step ≡ true → is_barred crossing.nodes lost step ≡ true → EventLeaves config u step (Err (Refused NodeLost)) (ShowsLosingBytes config crossing account lost)
  barred_past step places bars = go step bars (told_refused step NodeLost (barred_told config crossing.nodes shows.frames lost shows.shows.traffic.nodes shows.seen step places bars))
    where
      go : (s : FrameStep) → is_barred crossing.nodes lost s ≡ true → (told_of config u s).refusal ≡ Some NodeLost → EventLeaves config u s (Err (Refused NodeLost)) (ShowsLosingBytes config crossing account lost)
      go (frames.Take i p) bars is = (is, shows)
      go (frames.Command i port c) bars is = (is, shows)
      go (frames.Retry i op) bars is = (is, shows)
      go (frames.SeeLoss i p) bars is = (is, shows)
      go (frames.Lose i keep) bars is = absurd (cc)

  -- memory ran out before anything changed
  pub take_starved : (i p : ℕ) → is_pair (length crossing.nodes) i p ≡ true → is_cut_off crossing.nodes lost i p ≡ false
      → EventLeaves config u (frames.Take i p) (Err OutOfMemory) (ShowsLosingBytes config crossing account lost)
  take_starved i p places lives = (
    subst (λ (x : LosingFrameWorld). is_told_first (told_take config x i p).refusal ≡ false) (sym shows.is) (take_late config crossing.nodes shows.frames lost shows.shows.traffic.nodes shows.seen i p places lives),
    shows,
  )

  pub own_starved : (i : ℕ) (action : Action) → has_port crossing.nodes i (port_of action) ≡ true → is_lost lost i ≡ false
      → LosingComesTo config u (told_own config u i action) (Err OutOfMemory) (ShowsLosingBytes config crossing account lost)
  own_starved i action places stays = (
    subst (λ (x : LosingFrameWorld). is_told_first (told_own config x i action).refusal ≡ false) (sym shows.is) (own_first config crossing.nodes shows.frames lost shows.shows.traffic.nodes shows.seen i action places stays),
    shows,
  )
