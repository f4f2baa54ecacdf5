-- The steps of a run of the machine with losses can each be made where a last notice is taken just where a loss is seen.
use Rattle.std.proofs.Common.{◌≡◌, ◌∙◌, ℕ, zero, suc, ◌+◌, ◌-◌, Bool, true, false, not, ◌&&◌, ◌||◌, cond, max, nat_le, nat_lt}
use Rattle.std.proofs.Common.{length, map, List, [], ◌∷◌, ◌++◌, Some, None, Result, Ok, Err, refl, sym, ap, subst}
use Rattle.std.specs.Prelude.{is_some, option_map}
use Rattle.std.specs.List.{AllByRecursion, IsDistinct}
use Rattle.std.proofs.lemmas.Bool.{eq-eqb}
use Rattle.pg_term.specs.Same.{same_atom}
use Rattle.pg_cluster_judges.specs.PgMessageTypes.declared.message.Message.{Message}
use Rattle.pg_cluster_judges.specs.PgStep.Machines.Clocked.{Timed, Stamped, timed as clocked_turn, timed_turn}
use Rattle.pg_cluster_judges.specs.PgStep.Machines.Losing.{LosingEvent, LosingLeads, Noticed, Sent, Last, Step}
use Rattle.pg_cluster_judges.specs.PgStep.Machines.Losing.{Lose, can_keep, each_place, losing_happens, mapped_turn, nobody_gone}
use Rattle.pg_cluster_judges.specs.PgStep.Machines.Machine.{Event, Turn, Taken, Own, Take, Do, happens, node_of, start_of}
use Rattle.pg_cluster_judges.specs.PgStep.Machines.Places.{is_place, is_pair}
use Rattle.pg_cluster_judges.proofs.PgStep.Machines.Options.{cond_is_some, map_is_some}
use Rattle.pg_cluster_judges.proofs.PgStep.Machines.Steps.{did, pair_apart, took}
use Rattle.pg_cluster_judges.specs.PgStep.Config.{Config, name_at, names_of, nodes_at, ports_at}
use Rattle.pg_cluster_judges.specs.PgStep.Faults.{first_that_holds}
use Rattle.pg_cluster_judges.specs.PgStep.FrameMachine.{frame_machine, last_notice, losing_frame_machine, place_turn, placed, sent_packet}
use Rattle.pg_cluster_judges.specs.PgStep.LossLaws.{LosingFrameWorld, way_is_drained, is_notice}
use Rattle.pg_cluster_judges.specs.PgStep.State.{State}
use Rattle.pg_cluster_judges.specs.PgStep.Step.{Action, CLOCK_LIMIT, Issue, Retry, TimedTurn, at_clock, node_acts, node_takes, step_act, timed as node_turn}
use Rattle.pg_cluster_judges.specs.PgStep.StepLaws.{port_of, refusal_of}
use Rattle.pg_cluster_judges.specs.PgStep.Turns.{NodeTurn, Report}
use Rattle.pg_cluster_judges.specs.PgStep.declared.refusal.Refusal.{Refusal}
use Rattle.pg_cluster_judges.specs.PgStep.declared.refusal.Refusal.TheVariants.{ClockFull, NodeLost, NoSuchPlace}
use Rattle.pg_cluster_judges.proofs.PgStep.Lost.{seen_exactly}
use Rattle.pg_cluster_judges.proofs.PgStep.Unnoticed.{frames_embed}
use Rattle.pg_cluster_judges.proofs.PgLaws.ends.Apart.{pair_first, pair_second}
use Rattle.pg_cluster_judges.specs.PgLawsLosses.Reached.{LosingReaches}
use Rattle.pg_cluster_judges.proofs.PgLawsLosses.Bridge.{Left, not_true}
use Rattle.pg_cluster_judges.proofs.PgLawsLosses.Bridges.{bridged}
use Rattle.pg_cluster_judges.proofs.PgLawsLosses.Lasts.{unheard}
use Rattle.pg_cluster_judges.proofs.PgLawsLosses.Lossy.{bare, passed}
use Rattle.pg_cluster_judges.specs.ApartWithLosses.{is_last_notice}
use Rattle.pg_cluster_judges.specs.Losses.{MarksNotices, MarkedLeads, is_first_last}
use Rattle.pg_cluster_judges.specs.PgWorldPackets.declared.step.FrameStep.{FrameStep}
use Rattle.pg_cluster_judges.specs.PgWorldPackets.declared.step.FrameStep.TheVariants as steps
use Rattle.pg_cluster_judges.specs.PgWorldPackets.Losing.{CanBeMade, can_stay, count_sent, first_refusal, keep_of, none_sent, packet_refusal}
use Rattle.pg_cluster_judges.specs.PgWorldPackets.Losing.{told_loss, told_of, told_own, told_sight, told_take}
use Rattle.pg_cluster_judges.specs.Schedule.{seen_step}
use Rattle.pg_cluster_judges.specs.Together.{MadeInTurn, losing_event}
use Rattle.pg_cluster.proofs.Scheduled.{KeepsEach, is_sight, marked_event}

-- a turn of the machine is one that the node tells
turn_told : (config : Config) (clock : ℕ) (made : Result NodeTurn Refusal) (turn : Turn (Timed State) (Stamped Message) Report)
    → clocked_turn CLOCK_LIMIT clock (placed config made) ≡ Some turn → (told : TimedTurn) × (node_turn clock made ≡ Ok told)
turn_told config clock (Err refusal) turn e = absurd cc
turn_told config clock (Ok made) turn e = (at_clock clock made, go (nat_le clock CLOCK_LIMIT) e)
  where
    go : (b : Bool) → cond b (Some (timed_turn clock (place_turn config made))) None ≡ Some turn → cond b (Ok (at_clock clock made)) (Err ClockFull) ≡ Ok (at_clock clock made)
    go true is = refl
    go false is = absurd cc

no : true ≡ false → ⊥
no e = absurd (cc)

module _ (config : Config) (i : ℕ) (s : Timed State) where
  -- ---- a turn of the machine is one that the node does not refuse

  not_lost_so : (clock : ℕ) (b : Bool) (r : Result NodeTurn Refusal) (told : TimedTurn) → node_turn clock (cond b (Err NodeLost) r) ≡ Ok told → b ≡ false
  not_lost_so clock true r told e = absurd (cc)
  not_lost_so clock false r told e = refl

  there_so : (clock : ℕ) (b : Bool) (r : Result NodeTurn Refusal) (told : TimedTurn) → node_turn clock (cond b r (Err NoSuchPlace)) ≡ Ok told → b ≡ true
  there_so clock true r told e = refl
  there_so clock false r told e = absurd (cc)

  packet_taken : (p : ℕ) (x : Stamped (Noticed Message)) (turn : Turn (Timed State) (Stamped (Noticed Message)) Report) → is_notice x.packet ≡ false
      → (losing_frame_machine config).step i s (Taken p x) ≡ Some turn
      → (packet_refusal (nodes_at config i) (name_at config p) s x.stamp x.packet ≡ None) × (s.state.lost (name_at config p) ≡ false)
  packet_taken p x turn sent made = go x.packet refl
    where
      go : (y : Noticed Message) → x.packet ≡ y → (packet_refusal (nodes_at config i) (name_at config p) s x.stamp x.packet ≡ None) × (s.state.lost (name_at config p) ≡ false)
      go Last is = absurd (no (sym (ap is_notice is) ∙ sent))
      go (Sent m) is =
          let packet : Stamped Message = record { stamp = x.stamp; packet = m } in
          let same : x ≡ sent_packet packet = ap (λ (y : Noticed Message). record { stamp = x.stamp; packet = y }) is in
          let got = map_is_some (mapped_turn sent_packet) ((frame_machine config).step i s (Taken p packet)) turn
          (sym ((frames_embed config).taken i p s packet) ∙ (ap (λ z. (losing_frame_machine config).step i s (Taken p z)) (sym same) ∙ made)) in
          let told = turn_told config (max s.clock x.stamp + 1) (node_takes (nodes_at config i) (name_at config p) m s.state) got.0 got.1 in (
            ap (packet_refusal (nodes_at config i) (name_at config p) s x.stamp) is ∙ ap refusal_of told.1,
            not_lost_so (max s.clock x.stamp + 1) (s.state.lost (name_at config p)) _ told.0 told.1,
          )

  port_there : (clock : ℕ) (action : Action) (told : TimedTurn) → node_turn clock (node_acts (nodes_at config i) (ports_at config i) action s.state) ≡ Ok told
      → nat_lt (port_of action) (ports_at config i) ≡ true
  port_there clock (Issue port c) told e = there_so clock (nat_lt port (ports_at config i)) _ told e
  port_there clock (Retry op) told e = there_so clock (nat_lt op.port (ports_at config i)) _ told e

  own_done : (action : Action) (turn : Turn (Timed State) (Stamped (Noticed Message)) Report) → (losing_frame_machine config).step i s (Own action) ≡ Some turn
      → (nat_lt (port_of action) (ports_at config i) ≡ true) × (refusal_of (step_act (nodes_at config i) (ports_at config i) action s) ≡ None)
  own_done action turn made =
      let got = map_is_some (mapped_turn sent_packet) ((frame_machine config).step i s (Own action)) turn (sym ((frames_embed config).own i s action) ∙ made) in
      let told = turn_told config (s.clock + 1) (node_acts (nodes_at config i) (ports_at config i) action s.state) got.0 got.1 in (
        port_there (s.clock + 1) action told.0 told.1,
        ap refusal_of told.1,
      )

-- packets alone are all sent
all_sent : (xs : List (Stamped (Noticed Message))) (all : List Message) → map (λ (x : Stamped (Noticed Message)). x.packet) xs ≡ map Sent all → count_sent xs ≡ length xs
all_sent [] all e = refl
all_sent (x ∷ xs) [] e = absurd (cc)
all_sent (x ∷ xs) (m ∷ all) e =
    let here : x.packet ≡ Sent m = cc in
    let more : map (λ (y : Stamped (Noticed Message)). y.packet) xs ≡ map Sent all = cc in
    ap (λ (y : Noticed Message). cond (is_notice y) (count_sent xs) (suc (count_sent xs))) here ∙ ap suc (all_sent xs all more)

each_same : (n : ℕ) (f g : ℕ → Bool) → ((y : ℕ) → f y ≡ g y) → each_place n f ≡ each_place n g
each_same zero f g same = refl
each_same (suc n) f g same = λ j. same n j && each_same n f g same j

module _ (config : Config) (u v : LosingFrameWorld) where
  abbrev Leads : LosingEvent Action → Type 0
  Leads e = losing_happens (losing_frame_machine config) last_notice u e ≡ Some v

  -- a node that does something is there, and it happens in the world without who is lost
  record Went (e : Event Action) : Type 0 where
    stays : u.gone (node_of e) ≡ false
    happened : happens (losing_frame_machine config) u.world e ≡ Some v.world

  went : (e : Event Action) → Leads (Step e) → Went e
  unfolding losing_happens
  went e h = go (u.gone (node_of e)) refl h
    where
      go : (b : Bool) → u.gone (node_of e) ≡ b → cond b None (option_map (λ w. record { world = w; gone = u.gone }) (happens (losing_frame_machine config) u.world e)) ≡ Some v → Went e
      go true _ h = absurd (cc)
      go false lives h =
          let got = map_is_some {B = LosingFrameWorld} (λ w. record { world = w; gone = u.gone }) (happens (losing_frame_machine config) u.world e) v h in
          record { stays = lives; happened = got.1 ∙ ap Some (ap (λ (x : LosingFrameWorld). x.world) got.2) }

  -- ---- a packet is taken

  take_made : (i p : ℕ) → Leads (Step (Take i p)) → false ≡ is_first_last is_last_notice (u.world.wire p i) → CanBeMade (told_take config u i p)
  take_made i p h sent =
      let w = went (Take i p) h in
      let t = (took (losing_frame_machine config) u.world v.world i p).0 w.happened in
      let packet : is_notice t.packet.packet ≡ false = sym (sent ∙ ap (is_first_last is_last_notice) t.first) in
      let taken = packet_taken config i (u.world.node i) p t.packet t.turn packet t.made in
      record {
        allowed =
            ap (λ b. cond b (cond (u.gone i || (u.world.node i).state.lost (name_at config p)) (Some NodeLost) (first_refusal (nodes_at config i) (name_at config p) (u.world.node i) (u.world.wire p i))) (Some NoSuchPlace)) t.pair
            ∙ (ap (λ b. cond (b || (u.world.node i).state.lost (name_at config p)) (Some NodeLost) (first_refusal (nodes_at config i) (name_at config p) (u.world.node i) (u.world.wire p i))) w.stays
            ∙ (ap (λ b. cond b (Some NodeLost) (first_refusal (nodes_at config i) (name_at config p) (u.world.node i) (u.world.wire p i))) taken.1
            ∙ (ap (first_refusal (nodes_at config i) (name_at config p) (u.world.node i)) t.first ∙ taken.0)));
        busy = ap none_sent t.first ∙ packet;
      }

  -- ---- something of its own

  own_made : (i : ℕ) (action : Action) → Leads (Step (Do i action)) → CanBeMade (told_own config u i action)
  own_made i action h =
      let w = went (Do i action) h in
      let d = (did (losing_frame_machine config) u.world v.world i action).0 w.happened in
      let done = own_done config i (u.world.node i) action d.turn d.made in
      record {
        allowed =
            ap (λ b. cond (b && nat_lt (port_of action) (ports_at config i)) (cond (u.gone i) (Some NodeLost) (refusal_of (step_act (nodes_at config i) (ports_at config i) action (u.world.node i)))) (Some NoSuchPlace)) d.place
            ∙ (ap (λ b. cond b (cond (u.gone i) (Some NodeLost) (refusal_of (step_act (nodes_at config i) (ports_at config i) action (u.world.node i)))) (Some NoSuchPlace)) done.0
            ∙ (ap (λ b. cond b (Some NodeLost) (refusal_of (step_act (nodes_at config i) (ports_at config i) action (u.world.node i)))) w.stays ∙ done.1));
        busy = refl;
      }

  both_so : (a b : Bool) → (a && b) ≡ true → (a ≡ true) × (b ≡ true)
  both_so true b e = (refl, e)
  both_so false b e = absurd (cc)

  alive : (b : Bool) → not b ≡ true → b ≡ false
  alive false e = refl
  alive true e = absurd (cc)

  -- ---- a loss is seen

  -- a last notice is of a node that is lost
  left_lost : (b : Bool) (rest : List (Noticed Message)) (all : List Message) → Left b (Last ∷ rest) all → b ≡ true
  left_lost true rest all e = refl
  left_lost false rest [] e = absurd (cc)
  left_lost false rest (y ∷ ys) e = absurd (cc)

  module _ (apart : IsDistinct same_atom (names_of config)) (events : List (LosingEvent Action)) (reached : LosingReaches config events u) where
    sight_made : (i p : ℕ) → Leads (Step (Take i p)) → true ≡ is_first_last is_last_notice (u.world.wire p i) → CanBeMade (told_sight config u i p)
    sight_made i p h notice =
        let w = went (Take i p) h in
        let t = (took (losing_frame_machine config) u.world v.world i p).0 w.happened in
        let last : is_notice t.packet.packet ≡ true = sym (notice ∙ ap (is_first_last is_last_notice) t.first) in
        let unseen : (u.world.node i).state.lost (name_at config p) ≡ false =
        not_true ((u.world.node i).state.lost (name_at config p)) (λ seen. unheard config (bare u) (bare v) i p seen (passed config u v (Step (Take i p)) h)) in
        let left = (bridged config apart events u reached).has in
        let cut = left.cut p i (pair_second (length config) i p t.pair) (pair_first (length config) i p t.pair) (λ e. pair_apart (length config) i p t.pair (sym e)) unseen in
        let lost : u.gone p ≡ true = left_lost (u.gone p) (map (λ x. x.packet) t.rest) (left.ways p i)
        (subst (λ xs. Left (u.gone p) xs (left.ways p i)) (ap (map (λ (x : Stamped (Noticed Message)). x.packet)) t.first ∙ ap (λ y. y ∷ map (λ (x : Stamped (Noticed Message)). x.packet) t.rest) (is_last t.packet.packet last)) cut) in
        record {
          allowed = (seen_exactly config u i p).1 (lost, ap way_is_drained t.first ∙ last, ap is_some h);
          busy = refl;
        }
      where
        is_last : (y : Noticed Message) → is_notice y ≡ true → y ≡ Last
        is_last Last e = refl
        is_last (Sent m) e = absurd (cc)

    -- ---- a node is lost

    -- on a way from a node that is not lost are packets alone
    sent_from : (i : ℕ) → u.gone i ≡ false → (y : ℕ) → is_pair (length config) i y ≡ true → count_sent (u.world.wire i y) ≡ length (u.world.wire i y)
    sent_from i lives y pair =
        let left = (bridged config apart events u reached).has in
        let here = pair_first (length config) i y pair in
        let there = pair_second (length config) i y pair in
        let unseen = not_true ((u.world.node y).state.lost (name_at config i)) (λ seen. no (sym (left.gone (name_at config y) i here (left.sees y (name_at config i) there ∙ seen)) ∙ lives)) in
        all_sent (u.world.wire i y) (left.ways i y)
        (subst (λ b. Left b (map (λ (x : Stamped (Noticed Message)). x.packet) (u.world.wire i y)) (left.ways i y)) lives (left.cut i y here there (pair_apart (length config) i y pair) unseen))

    can_stay_so : (i : ℕ) (keep : List ℕ) → u.gone i ≡ false → can_keep (length config) u.world i (keep_of i keep) ≡ true → can_stay config u i keep ≡ true
    can_stay_so i keep lives can = sym (each_same (length config) _ _ (λ y. alike y (is_pair (length config) i y) refl)) ∙ can
      where
        alike : (y : ℕ) (b : Bool) → is_pair (length config) i y ≡ b → (not (is_pair (length config) i y) || nat_le (keep_of i keep y) (length (u.world.wire i y)))
            ≡ (not (is_pair (length config) i y) || nat_le (keep_of i keep y) (count_sent (u.world.wire i y)))
        alike y true pair = ap (λ n. not (is_pair (length config) i y) || nat_le (keep_of i keep y) n) (sym (sent_from i lives y pair))
        alike y false none = ap (λ b. not b || nat_le (keep_of i keep y) (length (u.world.wire i y))) none ∙ sym (ap (λ b. not b || nat_le (keep_of i keep y) (count_sent (u.world.wire i y))) none)

    loss_made : (i : ℕ) (keep : List ℕ) → length keep ≡ length config - 1 → Leads (Lose i (keep_of i keep)) → CanBeMade (told_loss config u i keep)
    unfolding losing_happens
    loss_made i keep long h =
        let got = cond_is_some (is_place (length config) i && (not (u.gone i) && can_keep (length config) u.world i (keep_of i keep))) _ v h in
        let first = both_so (is_place (length config) i) (not (u.gone i) && can_keep (length config) u.world i (keep_of i keep)) got.0 in
        let second = both_so (not (u.gone i)) (can_keep (length config) u.world i (keep_of i keep)) first.1 in
        let lives = alive (u.gone i) second.0 in
        record {
          allowed = λ j. first_that_holds ((not (first.0 j && (eq-eqb (length keep) (length config - 1) long j && can_stay_so i keep lives second.1 j)), NoSuchPlace) ∷ (lives j, NodeLost) ∷ []);
          busy = refl;
        }

    -- ---- a step

    step_made : (step : FrameStep) → Leads (losing_event step) → MarksNotices is_last_notice u.world (losing_event step) (is_sight step) → KeepsEach (length config) (seen_step step)
        → CanBeMade (told_of config u step)
    step_made (steps.Take i p) h mark keeps = take_made i p h mark
    step_made (steps.Command i port command) h mark keeps = own_made i (Issue port command) h
    step_made (steps.Retry i op) h mark keeps = own_made i (Retry op) h
    step_made (steps.SeeLoss i p) h mark keeps = sight_made i p h mark
    step_made (steps.Lose i keep) h mark keeps = loss_made i keep.items keeps h

-- ---- the whole schedule

one_more : (config : Config) (events : List (LosingEvent Action)) (e : LosingEvent Action) (w u v : LosingFrameWorld) → LosingLeads (losing_frame_machine config) last_notice w events u
    → losing_happens (losing_frame_machine config) last_notice u e ≡ Some v → LosingLeads (losing_frame_machine config) last_notice w (events ++ e ∷ []) v
one_more config [] e w u v leads happened = (v, ap (λ x. losing_happens (losing_frame_machine config) last_notice x e) leads ∙ happened, refl)
one_more config (f ∷ events) e w u v (x, first, leads) happened = (x, first, one_more config events e x u v leads happened)

-- events that happen as they are marked happen
pub events_lead : (config : Config) (schedule : List FrameStep) (u v : LosingFrameWorld) → MarkedLeads (losing_frame_machine config) last_notice is_last_notice u (map marked_event schedule) v
    → LosingLeads (losing_frame_machine config) last_notice u (map losing_event schedule) v
events_lead config [] u v leads = leads
events_lead config (step ∷ schedule) u v (x, happened, mark, leads) = (x, happened, events_lead config schedule x v leads)

pub all_made : (config : Config) → IsDistinct same_atom (names_of config) → (events : List (LosingEvent Action)) (schedule : List FrameStep) (u v : LosingFrameWorld) → LosingReaches config events u
    → MarkedLeads (losing_frame_machine config) last_notice is_last_notice u (map marked_event schedule) v → AllByRecursion (λ step. KeepsEach (length config) (seen_step step)) schedule
    → MadeInTurn config u schedule v
all_made config apart events [] u v reached leads keeps = leads
all_made config apart events (step ∷ schedule) u v reached (x, happened, mark, leads) keeps = (
  step_made config u x apart events reached step happened mark keeps.0,
  x,
  happened,
  all_made config apart (events ++ losing_event step ∷ []) schedule x v (one_more config events (losing_event step) (nobody_gone (start_of (losing_frame_machine config))) u x reached happened) leads keeps.1,
)
