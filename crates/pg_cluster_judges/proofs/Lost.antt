-- The logs of nodes of which some were lost join to one run of the machine with losses.
use Rattle.std.proofs.Common.{◌≡◌, ◌≢◌, ◌<◌, ◌≤◌, ◌+◌, ◌∙◌, ℕ, Bool, true, false, cond, drop}
use Rattle.std.proofs.Common.{get_or, take, length, map, List, [], ◌∷◌, ◌++◌, refl, sym, ap}
use Rattle.std.proofs.Common.{subst, inl, inr, ◌⊎◌, arith, zero, suc, append-nil, length-append}
use Rattle.std.specs.List.{AllByRecursion}
use Rattle.std.proofs.lemmas.Grind.{flat_map-append}
use Rattle.std.proofs.lemmas.List.{length-map, map-append}
use Rattle.pg_world.specs.PgFrame.Laws.{PiecesContinue, WrittenIsRead}
use Rattle.pg_world.specs.PgGroup.declared.table.GroupTable.{Ghosts}
use Rattle.pg_world.specs.PgLaws.History.{all_reported, answers_by}
use Rattle.pg_cluster_judges.specs.Logs.{NodeLeads, event_of as machine_event, reports_of, sent_to, taken_from}
use Rattle.pg_cluster_judges.specs.Losses.{AreLosingLogs, Logged, LosingJoined, MarkedEvent, MarkedLeads, Stopped, Turned}
use Rattle.pg_cluster_judges.specs.Losses.{arriving, is_sight, last_from, losing_log, turn_entry, with_loss, with_losses}
use Rattle.pg_cluster_judges.specs.Merge.{IsNext, Merges, MergesRest, clocks_of, merged_logs, rest_of, seen_log}
use Rattle.pg_cluster_judges.proofs.Behind.{merges_with_losses}
use Rattle.pg_cluster_judges.proofs.Losing.{losing_joined}
use Rattle.pg_cluster_judges.proofs.Seen.{same_clocks}
use Rattle.pg_world.specs.PgLawsLosses.Reached.{LosingReaches}
use Rattle.pg_world.specs.PgLawsLosses.Retrying.Survived.{LossesSurvived}
use Rattle.pg_world.specs.PgStep.Machines.Clocked.{Timed, Stamped}
use Rattle.pg_world.specs.PgStep.Machines.Losing.{LosingLeads, LosingWorld, Noticed, nobody_gone}
use Rattle.pg_world.specs.PgStep.Machines.Machine.{Machine, start_of}
use Rattle.pg_world.specs.PgStep.Machines.Places.{is_pair, set_at}
use Rattle.pg_world.specs.PgStep.Machines.Timely.{KeepsTime}
use Rattle.pg_world.specs.PgMessageTypes.declared.message.Message.{Message}
use Rattle.pg_world.specs.PgNode.declared.node.Node.{Node}
use Rattle.pg_world.specs.PgNodeSends.Frames.{frames_to}
use Rattle.pg_world.specs.PgNode.Nodes.{held_by, links_of}
use Rattle.pg_world.specs.PgRing.Ends.{Receives, Sends}
use Rattle.pg_world.specs.PgNodeState.States.{answers_of, state_of}
use Rattle.pg_node_run.specs.declared.log.NodeEvent.{NodeEvent}
use Rattle.pg_node_run.specs.Acts.{Act, Given, Took, Saw, Did, Standing, AllLead, log_entry, event_of, frames_sent, losses_of}
use Rattle.pg_node_run.specs.Follows.{HasMoved, WasClosed, log_of, node_of, peers_of, standing_of}
use Rattle.pg_world.specs.PgStep.Config.{Config, name_at, nodes_at, ports_at}
use Rattle.pg_world.specs.PgStep.FrameMachine.{frame_machine, last_notice, losing_frame_machine, machine_of, sent_packet}
use Rattle.pg_world.specs.PgStep.LossLaws.{LosingFrameWorld}
use Rattle.pg_world.specs.PgStep.Nodes.{all_of}
use Rattle.pg_world.specs.PgStep.State.{Response, State}
use Rattle.pg_world.specs.PgStep.Step.{Action, CLOCK_LIMIT, Issue, Retry}
use Rattle.pg_cluster_judges.specs.Apart.{HaveRun, Linked}
use Rattle.pg_cluster_judges.specs.ApartWithLosses.{MarkedReaches, RanPastLosses, SeesLost, without_marks, clock_of}
use Rattle.pg_cluster_judges.specs.ApartWithLosses.{is_last_notice, losing_events, nodes_in, takes_in, takes_of}
use Rattle.pg_cluster_judges.proofs.Answered.{answers_on, answers_reported, given_at}
use Rattle.pg_cluster_judges.proofs.Begun.{apart, leads, shown}
use Rattle.pg_cluster_judges.proofs.Came.{packets_taken, taken_alike}
use Rattle.pg_cluster_judges.proofs.Crossing.{PutsFirst, first_taken, left_on}
use Rattle.pg_cluster_judges.proofs.Gone.{all_lead_cut, ceases, come_alike, come_split, seen_once, silent_from, takes_are}
use Rattle.pg_cluster_judges.proofs.Noticed.{LosingAct, losing_act, losing_input, losing_leads, notice_at, sent_stamped}
use Rattle.pg_cluster_judges.proofs.Sent.{frames_are, frames_on, packets_sent}
use Rattle.pg_cluster_judges.proofs.Told.{Ceases, all_told, full_log, takes_all, turned_at}
use Rattle.pg_cluster_judges.proofs.Turns.{act_at}
use Rattle.pg_world.specs.Crossings.{node_of as seen_node}
use Rattle.pg_world.specs.PgWorldPackets.Views.{peer_place}
use Rattle.pg_world.specs.PgWorldPackets.Worlds.{AreAnswers, ShowsNode}
use Rattle.pg_world.proofs.PgWorldPackets.Turning.{is_pair_so, pair_is, pair_turned}

-- ---- lists

-- the first of two parts
take_part : {A : Type 0} (xs ys : List A) (k : ℕ) → k ≡ length xs → take k (xs ++ ys) ≡ xs
take_part [] ys zero e = refl
take_part [] ys (suc k) e = absurd (omega (arith, e))
take_part (x ∷ xs) ys zero e = absurd (omega (arith, e))
take_part (x ∷ xs) ys (suc k) e = ap (λ zs. x ∷ zs) (take_part xs ys k (omega (arith, e)))

-- what is left on the way from a node, of which the losses were seen and so many packets are left, at this clock
abbrev pub left_after : Bool → List ℕ → ℕ → List (Stamped Message) → List (Stamped (Noticed Message))
left_after true [] clock packets = notice_at clock ∷ []
left_after true (last ∷ losses) clock packets = []
left_after false losses clock packets = map sent_packet packets

-- what arrives is what was taken, and what is left
arrives : (lost : Bool) (losses : List ℕ) (clock k : ℕ) (taken left : List (Stamped Message)) → AllByRecursion (λ last. (lost ≡ true) × (last ≡ clock)) losses
    → (losses ≡ []) ⊎ ((last : ℕ) × (losses ≡ last ∷ [])) → k ≡ length taken
    → arriving lost k (notice_at clock) (map sent_packet (taken ++ left)) ≡ (map sent_packet taken ++ map notice_at losses) ++ left_after lost losses clock left
arrives false [] clock k taken left seen once count = map-append sent_packet taken left ∙ ap (λ w. w ++ map sent_packet left) (sym (append-nil (map sent_packet taken)))
arrives false (last ∷ losses) clock k taken left seen once count = let never : false ≡ true = seen.0.0 in absurd (cc)
arrives true losses clock k taken left seen once count =
    ap (λ w. take k w ++ notice_at clock ∷ []) (map-append sent_packet taken left)
    ∙ (ap (λ w. w ++ notice_at clock ∷ []) (take_part (map sent_packet taken) (map sent_packet left) k (count ∙ sym (length-map taken sent_packet))) ∙ go losses seen once)
  where
    go : (losses : List ℕ) → AllByRecursion (λ last. (true ≡ true) × (last ≡ clock)) losses → (losses ≡ []) ⊎ ((last : ℕ) × (losses ≡ last ∷ []))
        → map sent_packet taken ++ notice_at clock ∷ [] ≡ (map sent_packet taken ++ map notice_at losses) ++ left_after true losses clock left
    go [] seen once = ap (λ w. w ++ notice_at clock ∷ []) (sym (append-nil (map sent_packet taken)))
    go (last ∷ []) seen once = ap (λ c. map sent_packet taken ++ notice_at c ∷ []) (sym seen.0.1) ∙ sym (append-nil (map sent_packet taken ++ notice_at last ∷ []))
    go (last ∷ more ∷ losses) seen (inl none) = absurd (cc)
    go (last ∷ more ∷ losses) seen (inr (one, is)) = absurd (cc)

-- logs that are merged alike, where those of the nodes have the same clocks
next_alike : (size : ℕ) (a b : ℕ → List ℕ) (read : ℕ → ℕ) (i : ℕ) → ((j : ℕ) → j < size → a j ≡ b j) → IsNext size (rest_of a read) i → IsNext size (rest_of b read) i
next_alike size a b read i same next = record {
  there = next.there;
  clock = next.clock;
  later = next.later;
  next = ap (drop (read i)) (sym (same i next.there)) ∙ next.next;
  first = λ j other others low is. next.first j other others low (ap (drop (read j)) (same j low) ∙ is);
}

merges_alike : (size : ℕ) (a b : ℕ → List ℕ) (order : List (ℕ × ℕ)) (read : ℕ → ℕ) → ((j : ℕ) → j < size → a j ≡ b j) → MergesRest size a read order → MergesRest size b read order
merges_alike size a b [] read same merges = λ i low. ap (drop (read i)) (sym (same i low)) ∙ merges i low
merges_alike size a b (x ∷ order) read same merges =
    (merges.0, next_alike size a b read x.0 same merges.1, merges_alike size a b order (set_at read x.0 (x.1 + 1)) same merges.2)

-- ---- acts

one_entry : (i : ℕ) (input : Given) → turned_at i (event_of input) ≡ Turned (machine_event i (losing_input i input)) (is_sight is_last_notice (losing_input i input))
one_entry i (Took p x) = refl
one_entry i (Saw p last) = refl
one_entry i (Did (Issue port command)) = refl
one_entry i (Did (Retry op)) = refl

-- the entries of acts are those of the machine's turns
entries_turned : (config : Config) (i : ℕ) (acts : List Act) → seen_log (turned_at i) (map log_entry acts) ≡ map (turn_entry is_last_notice i) (map (losing_act config i) acts)
entries_turned config i [] = refl
entries_turned config i (act ∷ acts) = λ j. (act.turn.state.clock, one_entry i act.input j) ∷ entries_turned config i acts j

reports_alike : (config : Config) (i : ℕ) (acts : List Act) → reports_of (map (losing_act config i) acts) ≡ reports_of (map (act_at config i) acts)
reports_alike config i [] = refl
reports_alike config i (act ∷ acts) = ap (λ w. act.turn.reported ∷ w) (reports_alike config i acts)

sends_alike : (config : Config) (i q : ℕ) (acts : List Act) → sent_to q (map (losing_act config i) acts) ≡ map sent_packet (sent_to q (map (act_at config i) acts))
sends_alike config i q [] = refl
sends_alike config i q (act ∷ acts) =
    ap (λ w. map sent_packet ((act_at config i act).turn.sends q) ++ w) (sends_alike config i q acts)
    ∙ sym (map-append sent_packet ((act_at config i act).turn.sends q) (sent_to q (map (act_at config i) acts)))

-- the clock at last
last_clock : (names : List (List ℕ)) (ports : ℕ) (a : Standing) (acts : List Act) (b : Standing) → AllLead names ports a acts b → last_from a.state.clock (clocks_of (map log_entry acts)) ≡ b.state.clock
last_clock names ports a [] b lead = ap (λ (s : Standing). s.state.clock) (sym lead)
last_clock names ports a (act ∷ acts) b (m, lead, later) =
    ap (λ (s : Timed State). last_from s.clock (clocks_of (map log_entry acts))) (sym lead.state) ∙ last_clock names ports m acts b later

clocks_rise : (config : Config) (i : ℕ) (keeps : KeepsTime CLOCK_LIMIT (losing_frame_machine config)) (s t : Timed State) (acts : List Act)
    → NodeLeads (losing_frame_machine config) i s (map (losing_act config i) acts) t → AllByRecursion (λ clock. 0 < clock) (clocks_of (map log_entry acts))
clocks_rise config i keeps s t [] run = tt
clocks_rise config i keeps s t (act ∷ acts) run =
    let up = keeps.raises i s (losing_act config i act).input (losing_act config i act).turn run.1 in
    (omega (arith, up), clocks_rise config i keeps act.turn.state t acts run.2)

-- events that happen as they are marked happen
leads_bare : {S P C O : Type 0} (m : Machine S P C O) (last : S → P) (is_last : P → Bool) (w : LosingWorld S P O) (events : List (MarkedEvent C)) (v : LosingWorld S P O)
    → MarkedLeads m last is_last w events v → LosingLeads m last w (map (λ x. x.0) events) v
leads_bare m last is_last w [] v leads = leads
leads_bare m last is_last w (x ∷ events) v (u, happened, marked, leads) = (u, happened, leads_bare m last is_last u events v leads)

-- ---- all nodes

module _ {T : Type 0} {g : Ghosts T} (config : Config) (nodes : List (Node T g)) (begun ended : ℕ → Linked T g) (ran : HaveRun config nodes begun ended) (lost : ℕ → Bool)
    (seen : SeesLost config nodes begun ended ran lost) (order : List (ℕ × ℕ)) (merges : Merges (length config) (λ i. clocks_of (log_of (ended i))) order)
    (keeps : KeepsTime CLOCK_LIMIT (losing_frame_machine config)) (more : PiecesContinue) (read : WrittenIsRead) where
  abbrev logs : ℕ → List (ℕ × NodeEvent)
  logs i = log_of (ended i)

  abbrev acts : ℕ → List LosingAct
  acts i = map (losing_act config i) (ran.acts i)

  abbrev ends : ℕ → Timed State
  ends i = state_of (held_by (node_of (ended i)))

  abbrev last : ℕ → ℕ
  last i = clock_of (ended i)

  abbrev full : ℕ → List (ℕ × Logged Action)
  full = full_log lost last logs

  abbrev kept : ℕ → ℕ → ℕ
  kept p q = takes_in logs p q order

  abbrev left : ℕ → ℕ → List (Stamped (Noticed Message))
  left p q = left_after (lost p) (losses_of (peer_place q p) (ran.acts q)) (last p) (left_on config nodes begun ended ran p q)

  log_is : (i : ℕ) → i < length config → logs i ≡ map log_entry (ran.acts i)
  log_is i within = (ran.follows i within).log ∙ ap (λ w. w ++ map log_entry (ran.acts i)) (ran.unlogged i within)

  runs : (i : ℕ) → i < length config → NodeLeads (losing_frame_machine config) i ((losing_frame_machine config).first i) (acts i) (ends i)
  runs i within =
      subst (λ s. NodeLeads (losing_frame_machine config) i s (acts i) (ends i)) (sym (shown config nodes begun ended ran i within).state)
      (losing_leads config i within (standing_of (node_of (begun i))) (ran.acts i) (standing_of (node_of (ended i))) (leads config nodes begun ended ran i within))

  entries : (i : ℕ) → i < length config → full i ≡ losing_log is_last_notice i (lost i) (ends i) (acts i)
  entries i within =
      ap (λ log. seen_log (turned_at i) log ++ cond (lost i) ((last i, Stopped i) ∷ []) []) (log_is i within)
      ∙ ap (λ es. es ++ cond (lost i) ((last i, Stopped i) ∷ []) []) (entries_turned config i (ran.acts i))

  cease : (i : ℕ) → i < length config → Ceases i (logs i)
  cease i within = subst (Ceases i) (sym (log_is i within))
      (ceases config i within (standing_of (node_of (begun i))) (ran.acts i) (standing_of (node_of (ended i))) (leads config nodes begun ended ran i within))

  -- ---- bytes

  puts : (x y : ℕ) → is_pair (length config) x y ≡ true → PutsFirst config nodes begun ended ran x y
  puts x y pair within none low = go moved.closed
    where
      place : ℕ
      place = peer_place x y

      moved : HasMoved Sends Receives (peer_place x y) (ran.acts x) (links_of (node_of (begun x)) (peer_place x y)) (links_of (node_of (ended x)) (peer_place x y))
          (get_or (peers_of (begun x)) (peer_place x y) none) (get_or (peers_of (ended x)) (peer_place x y) none)
      moved = (ran.follows x within).moved.each (peer_place x y) none low

      go : (losses_of place (ran.acts x) ≡ []) ⊎ WasClosed place (ran.acts x) (links_of (node_of (begun x)) place).outbox moved.put (links_of (node_of (ended x)) place).outbox
          → (rest : List ℕ) × (moved.put ++ rest ≡ (links_of (node_of (begun x)) place).outbox ++ frames_sent place (ran.acts x))
      go (inl none_seen) = ((links_of (node_of (ended x)) place).outbox, moved.sent none_seen)
      go (inr shut) =
          let p = pair_is (length config) x y pair in
          let lead : AllLead (all_of (nodes_at config x)) (ports_at config x) (standing_of (node_of (begun x))) (shut.before ++ shut.saw ∷ shut.after) (standing_of (node_of (ended x))) =
          subst (λ list. AllLead (all_of (nodes_at config x)) (ports_at config x) (standing_of (node_of (begun x))) list (standing_of (node_of (ended x)))) shut.cut (leads config nodes begun ended ran x within) in
          let cut = all_lead_cut (all_of (nodes_at config x)) (ports_at config x) (standing_of (node_of (begun x))) shut.before (shut.saw ∷ shut.after) (standing_of (node_of (ended x))) lead in
          let silent : packets_sent place (shut.saw ∷ shut.after) ≡ [] =
          silent_from config x within (apart config nodes begun ended ran) y shut.last p.1 p.2 cut.0 shut.saw shut.after (standing_of (node_of (ended x))) cut.2 shut.is in
          let none_sent : frames_sent place (shut.saw ∷ shut.after) ≡ [] = frames_are place (shut.saw ∷ shut.after) ∙ ap frames_on silent in
          let all_sent : frames_sent place (ran.acts x) ≡ frames_sent place shut.before =
          ap (frames_sent place) shut.cut ∙ (flat_map-append (λ (act : Act). frames_to act.sends place) shut.before (shut.saw ∷ shut.after) ∙ (ap (λ w. frames_sent place shut.before ++ w) none_sent ∙ append-nil (frames_sent place shut.before))) in (
            shut.dropped,
            ap (λ w. w ++ shut.dropped) (shut.parts ∙ (ap (λ w. shut.first ++ w) (shut.silent none_sent).0 ∙ append-nil shut.first))
                ∙ (shut.sent ∙ ap (λ w. (links_of (node_of (begun x)) place).outbox ++ w) (sym all_sent)),
          )

  -- ---- the ways

  module _ (p q : ℕ) (from : p < length config) (to : q < length config) (other : p ≢ q) where
    pair : is_pair (length config) p q ≡ true
    pair = is_pair_so (length config) p q from to (λ e. other (sym e))

    turned : is_pair (length config) q p ≡ true
    turned = pair_turned (length config) p q pair

    abbrev taken : List (Stamped Message)
    taken = packets_taken (peer_place q p) (ran.acts q)

    abbrev losses : List ℕ
    losses = losses_of (peer_place q p) (ran.acts q)

    abbrev behind : List (Stamped Message)
    behind = left_on config nodes begun ended ran p q

    all_sent : (losing_frame_machine config).opening p q ++ sent_to q (acts p) ≡ map sent_packet (taken ++ behind)
    all_sent =
        (λ j. sent_stamped 0 ((machine_of config).opening p q) j ++ sends_alike config p q (ran.acts p) j)
        ∙ (sym (map-append sent_packet ((frame_machine config).opening p q) (sent_to q (map (act_at config p) (ran.acts p))))
        ∙ ap (map sent_packet) (first_taken config nodes begun ended ran p q pair (puts p q pair) more read
        ∙ ap (λ w. w ++ behind) (taken_alike config p q other (ran.acts q))))

    kept_is : kept p q ≡ length taken
    kept_is =
        takes_all (length config) lost last logs cease p q to order merges
        ∙ (ap (λ log. takes_of p q (map (λ (entry : ℕ × NodeEvent). entry.1) log)) (log_is q to) ∙ takes_are config q to p other (ran.acts q))

    way : arriving (lost p) (kept p q) (last_notice (ends p)) ((losing_frame_machine config).opening p q ++ sent_to q (acts p)) ≡ taken_from p (acts q) ++ left p q
    way =
        let lead = leads config nodes begun ended ran q to in
        ap (arriving (lost p) (kept p q) (last_notice (ends p))) all_sent
        ∙ (arrives (lost p) losses (last p) (kept p q) taken behind (seen q p turned)
        (seen_once config q to (peer_place q p) (standing_of (node_of (begun q))) (ran.acts q) (standing_of (node_of (ended q))) lead) kept_is
        ∙ ap (λ w. w ++ left p q)
        (sym (come_alike config p q other (ran.acts q) ∙ come_split config q to (peer_place q p) (standing_of (node_of (begun q))) (ran.acts q) (standing_of (node_of (ended q))) lead)))

    few : kept p q ≤ length ((losing_frame_machine config).opening p q ++ sent_to q (acts p))
    few =
        let all = ap length all_sent ∙ (length-map (taken ++ behind) sent_packet ∙ length-append taken behind) in
        let k = kept_is in
        omega (arith, all, k)

  are_logs : AreLosingLogs (losing_frame_machine config) last_notice is_last_notice lost kept full acts ends left
  are_logs = record {
    runs = runs;
    entries = entries;
    few = λ p q from to other _. few p q from to other;
    ways = way;
  }

  -- ---- the merge

  clocks_full : (i : ℕ) → i < length config → with_loss (lost i) (clocks_of (logs i)) ≡ clocks_of (full i)
  clocks_full i within =
      ap (λ c. clocks_of (logs i) ++ cond (lost i) (c ∷ []) []) last_is
      ∙ ((λ j. sym (same_clocks (turned_at i) (logs i)) j ++ tail (lost i) j)
      ∙ sym (map-append (λ (x : ℕ × Logged Action). x.0) (seen_log (turned_at i) (logs i)) (cond (lost i) ((last i, Stopped i) ∷ []) [])))
    where
      begun_clock : (standing_of (node_of (begun i))).state.clock ≡ 0
      begun_clock = ap (λ (s : Timed State). s.clock) (sym (shown config nodes begun ended ran i within).state)

      last_is : last_from 0 (clocks_of (logs i)) ≡ last i
      last_is = (λ j. last_from (sym begun_clock j) (clocks_of (log_is i within j)))
          ∙ last_clock (all_of (nodes_at config i)) (ports_at config i) (standing_of (node_of (begun i))) (ran.acts i) (standing_of (node_of (ended i))) (leads config nodes begun ended ran i within)

      tail : (b : Bool) → cond b (last i ∷ []) [] ≡ clocks_of (cond {A = List (ℕ × Logged Action)} b ((last i, Stopped i) ∷ []) [])
      tail true = refl
      tail false = refl

  rise : (i : ℕ) → i < length config → AllByRecursion (λ clock. 0 < clock) (clocks_of (logs i))
  rise i within = subst (λ log. AllByRecursion (λ clock. 0 < clock) (clocks_of log)) (sym (log_is i within))
      (clocks_rise config i keeps ((losing_frame_machine config).first i) (ends i) (ran.acts i) (runs i within))

  merges_full : Merges (length config) (λ i. clocks_of (full i)) (with_losses (length config) lost (λ i. clocks_of (logs i)) order)
  merges_full = merges_alike (length config) (λ i. with_loss (lost i) (clocks_of (logs i))) (λ i. clocks_of (full i)) (with_losses (length config) lost (λ i. clocks_of (logs i)) order) (λ i. 0) clocks_full
      (merges_with_losses (length config) lost (λ i. clocks_of (logs i)) order merges rise)

  joined : LosingJoined (losing_frame_machine config) last_notice is_last_notice lost kept acts ends left (merged_logs full (with_losses (length config) lost (λ i. clocks_of (logs i)) order))
  joined = losing_joined CLOCK_LIMIT (losing_frame_machine config) last_notice is_last_notice lost kept full acts ends left (with_losses (length config) lost (λ i. clocks_of (logs i)) order) keeps (λ s. refl) are_logs merges_full

  -- ---- the run

  abbrev events : List (MarkedEvent Action)
  events = losing_events (length config) logs lost order

  marked : MarkedReaches config events joined.world
  marked = subst (λ es. MarkedReaches config es joined.world) (all_told (length config) lost last logs cease order merges) joined.leads

  reached : LosingReaches config (without_marks events) joined.world
  reached = leads_bare (losing_frame_machine config) last_notice is_last_notice (nobody_gone (start_of (losing_frame_machine config))) events joined.world marked

  answers_shown : (i : ℕ) → i < length config → (port : ℕ) → AreAnswers (name_at config i) (answers_by i joined.world.world.reported port) (answers_of (held_by (node_of (ended i))) port)
  answers_shown i within port =
      subst (λ (zs : List (ℕ × Response)). AreAnswers (name_at config i) zs (answers_of (held_by (node_of (ended i))) port))
      (sym (answers_reported i port joined.world.world.reported ∙ ap (all_reported (given_at port)) (joined.reported i within ∙ reports_alike config i (ran.acts i))))
      (answers_on config i (all_of (nodes_at config i)) (ports_at config i) (standing_of (node_of (begun i))) (ran.acts i) (standing_of (node_of (ended i))) (λ q. [])
      (leads config nodes begun ended ran i within) (shown config nodes begun ended ran i within).answers port)

  node_shown : (i : ℕ) → i < length config → ShowsNode config (nodes_in joined.world) i (seen_node (node_of (ended i)))
  node_shown i within = record {
    names = (ran.follows i within).names ∙ (shown config nodes begun ended ran i within).names;
    ports = (ran.follows i within).ports ∙ (shown config nodes begun ended ran i within).ports;
    state = joined.nodes i within;
    answers = answers_shown i within;
  }

  pub ran_past_losses : ((u : LosingFrameWorld) → LosingReaches config (without_marks events) u → LossesSurvived config (without_marks events) u) → RanPastLosses config lost ended events
  ran_past_losses survive = record {
    u = joined.world;
    reached = reached;
    marked = marked;
    gone = joined.gone;
    nodes = node_shown;
    survived = survive joined.world reached;
  }
