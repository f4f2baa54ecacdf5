-- A node that has seen the loss of another takes nothing from it any more, and sends nothing to it.
use Rattle.std.proofs.Common.{◌≡◌, ◌≢◌, ◌<◌, ◌+◌, ◌∙◌, ℕ, Bool, true, false, not, ◌||◌, cond}
use Rattle.std.proofs.Common.{max, nat_eq, nat_le, length, map, List, [], ◌∷◌, ◌++◌, Ok, Err}
use Rattle.std.proofs.Common.{Result, refl, sym, ap, subst, inl, inr, ◌⊎◌, arith, suc, zero}
use Rattle.std.specs.List.{IsDistinct, filter, flat_map, list_any}
use Rattle.std.proofs.lemmas.Bool.{cases_eq, eq-eqb, ne_eqb, eqb-true, lt-ltb}
use Rattle.pg_term.specs.Same.{same_atom}
use Rattle.pg_world.specs.PgGroup.Functions.{upd}
use Rattle.pg_world.specs.PgMessageTypes.declared.message.Message.{Message}
use Rattle.pg_world.specs.PgStep.Machines.Clocked.{Timed, Stamped, stamped}
use Rattle.pg_world.specs.PgStep.Machines.Losing.{Noticed}
use Rattle.pg_world.specs.PgStep.Machines.Machine.{Taken, Own}
use Rattle.pg_cluster_judges.specs.Logs.{packet_from, taken_from}
use Rattle.pg_world.specs.PgNodeOpens.Places.{name_at}
use Rattle.pg_node_run.specs.declared.log.NodeEvent.{NodeEvent}
use Rattle.pg_node_run.specs.declared.log.NodeEvent.TheVariants as entries
use Rattle.pg_node_run.specs.Acts.{Act, Given, Took, Saw, Did, IsFromPeer, Standing, ActLeads}
use Rattle.pg_node_run.specs.Acts.{AllLead, log_entry, event_of, loss_of, losses_of, act_step}
use Rattle.pg_world.specs.PgStep.Config.{Config, name_at as config_name, names_of, nodes_at, ports_at}
use Rattle.pg_world.specs.PgStep.FrameMachine.{placed, place_turn, sent_packet}
use Rattle.pg_world.specs.PgStep.Losses.{see_loss}
use Rattle.pg_world.specs.PgStep.Nodes.{Node, Nodes, all_of, is_peer}
use Rattle.pg_world.specs.PgStep.State.{State, live_nodes}
use Rattle.pg_world.specs.PgStep.Step.{Issue, Retry, TimedTurn, CLOCK_LIMIT, acted}
use Rattle.pg_world.specs.PgStep.Step.{at_clock, node_acts, node_takes, taken, timed}
use Rattle.pg_world.specs.PgStep.Turns.{NodeTurn}
use Rattle.pg_world.specs.PgStep.declared.refusal.Refusal.{Refusal}
use Rattle.pg_world.specs.PgStep.declared.refusal.Refusal.TheVariants.{NotAMessage, NoSuchPlace, NodeLost}
use Rattle.pg_world.specs.PgStep.declared.refusal.Refusal.TheVariants.{NotLost, NotDrained, NotWaiting, ClockFull}
use Rattle.pg_world.proofs.PgStep.Once.{Once, OnceIfOk, acts_once, same_is, takes_once}
use Rattle.pg_world.proofs.PgStep.Peers.{alone}
use Rattle.pg_world.proofs.PgLaws.steps.Lossless.{step_sees_none}
use Rattle.pg_world.proofs.PgNodeOpens.Named.{atom_self}
use Rattle.pg_cluster_judges.proofs.Came.{packet_of_peer, packets_taken}
use Rattle.pg_cluster_judges.proofs.Noticed.{losing_act, losing_input, notice_at}
use Rattle.pg_cluster_judges.proofs.Sent.{packets_sent}
use Rattle.pg_cluster_judges.proofs.Told.{Ceases}
use Rattle.pg_cluster_judges.specs.ApartWithLosses.{is_take, takes_of}
use Rattle.pg_world.specs.PgWorldPackets.Views.{packets_to, peer_place, place_of_peer}
use Rattle.pg_world.proofs.PgWorldPackets.Peering.{named, own_place, peer_name, same_place, sent_to, there_and_back}

none_more : (n : ℕ) → 0 + n ≡ n
none_more n = omega arith

heads : {A : Type 0} (x y : A) (xs ys : List A) → x ∷ xs ≡ y ∷ ys → (x ≡ y) × (xs ≡ ys)
heads x y xs ys e = (cc, cc)

peer_is_one : (p q : ℕ) → entries.SeeLoss p ≡ entries.SeeLoss q → p ≡ q
peer_is_one p q e = cc

clash : true ≡ false → ⊥
clash e = absurd (cc)

-- ---- a turn in time

never_made : (clock : ℕ) (fault : Refusal) (turn : TimedTurn) → timed clock (Err fault) ≡ Ok turn → ⊥
never_made clock NoSuchPlace turn e = absurd (cc)
never_made clock NodeLost turn e = absurd (cc)
never_made clock NotWaiting turn e = absurd (cc)
never_made clock NotAMessage turn e = go (nat_le clock CLOCK_LIMIT) e
  where
    go : (b : Bool) → cond b (Err NotAMessage) (Err ClockFull) ≡ Ok turn → ⊥
    go true e = absurd (cc)
    go false e = absurd (cc)
never_made clock NotLost turn e = go (nat_le clock CLOCK_LIMIT) e
  where
    go : (b : Bool) → cond b (Err NotLost) (Err ClockFull) ≡ Ok turn → ⊥
    go true e = absurd (cc)
    go false e = absurd (cc)
never_made clock NotDrained turn e = go (nat_le clock CLOCK_LIMIT) e
  where
    go : (b : Bool) → cond b (Err NotDrained) (Err ClockFull) ≡ Ok turn → ⊥
    go true e = absurd (cc)
    go false e = absurd (cc)
never_made clock ClockFull turn e = go (nat_le clock CLOCK_LIMIT) e
  where
    go : (b : Bool) → cond b (Err ClockFull) (Err ClockFull) ≡ Ok turn → ⊥
    go true e = absurd (cc)
    go false e = absurd (cc)

-- what is told in time is what the node makes, at that clock
made_in_time : (clock : ℕ) (r : Result NodeTurn Refusal) (turn : TimedTurn) → timed clock r ≡ Ok turn → (t : NodeTurn) × (r ≡ Ok t) × (at_clock clock t ≡ turn)
made_in_time clock (Ok t) turn e = (t, refl, go (nat_le clock CLOCK_LIMIT) e)
  where
    go : (b : Bool) → cond b (Ok (at_clock clock t)) (Err ClockFull) ≡ Ok turn → at_clock clock t ≡ turn
    go true e = cc
    go false e = absurd (cc)
made_in_time clock (Err fault) turn e = absurd (never_made clock fault turn e)

-- a peer that is lost makes no turn
none_of_lost : (clock : ℕ) (b : Bool) (r : Result NodeTurn Refusal) (turn : TimedTurn) → b ≡ true → timed clock (cond b (Err NodeLost) r) ≡ Ok turn → ⊥
none_of_lost clock true r turn is e = absurd (cc)
none_of_lost clock false r turn is e = absurd (cc)

not_lost_so : (b : Bool) (r : Result NodeTurn Refusal) (t : NodeTurn) → cond b (Err NodeLost) r ≡ Ok t → (b ≡ false) × (r ≡ Ok t)
not_lost_so true r t e = absurd (cc)
not_lost_so false r t e = (refl, e)

-- ---- names

upd_stays : (f : Node → Bool) (k q : Node) → f q ≡ true → upd same_atom f k true q ≡ true
unfolding upd
upd_stays f k q is = go (same_atom k q)
  where
    go : (b : Bool) → cond b true (f q) ≡ true
    go true = refl
    go false = is

upd_here : (f : Node → Bool) (k : Node) → upd same_atom f k true k ≡ true
unfolding upd
upd_here f k = ap (λ b. cond b true (f k)) (atom_self k)

none_kept : (test keep : Node → Bool) (xs : List Node) → list_any test xs ≡ false → list_any test (filter keep xs) ≡ false
none_kept test keep [] none = refl
none_kept test keep (x ∷ xs) none = go (test x) (keep x) refl none (none_kept test keep xs)
  where
    go : (b d : Bool) → test x ≡ b → (b || list_any test xs) ≡ false → (list_any test xs ≡ false → list_any test (filter keep xs) ≡ false)
        → list_any test (cond d (x ∷ filter keep xs) (filter keep xs)) ≡ false
    go true d is e rest = absurd (cc)
    go false true is e rest = ap (λ b. b || list_any test (filter keep xs)) is ∙ rest e
    go false false is e rest = rest e

-- one that is lost is not among the live
lost_left : (lost : Node → Bool) (q : Node) (xs : List Node) → lost q ≡ true → list_any (same_atom q) (filter (λ p. not (lost p)) xs) ≡ false
lost_left lost q [] is = refl
lost_left lost q (x ∷ xs) is = go (lost x) refl (same_atom q x) refl (lost_left lost q xs is)
  where
    rest : List Node
    rest = filter (λ p. not (lost p)) xs

    go : (d : Bool) → lost x ≡ d → (b : Bool) → same_atom q x ≡ b → list_any (same_atom q) rest ≡ false → list_any (same_atom q) (cond (not d) (x ∷ rest) rest) ≡ false
    go true gone b same none = none
    go false lives true same none = absurd (clash (sym is ∙ (ap lost (same_is q x same) ∙ lives)))
    go false lives false same none = ap (λ b. b || list_any (same_atom q) rest) same ∙ none

-- and one that is not, and was there, is
still_left : (lost : Node → Bool) (p : Node) (xs : List Node) → lost p ≡ false → list_any (same_atom p) xs ≡ true → list_any (same_atom p) (filter (λ q. not (lost q)) xs) ≡ true
still_left lost p [] lives there = there
still_left lost p (x ∷ xs) lives there = go (same_atom p x) (lost x) refl refl there (still_left lost p xs lives)
  where
    rest : List Node
    rest = filter (λ q. not (lost q)) xs

    go : (b d : Bool) → same_atom p x ≡ b → lost x ≡ d → (b || list_any (same_atom p) xs) ≡ true → (list_any (same_atom p) xs ≡ true → list_any (same_atom p) rest ≡ true)
        → list_any (same_atom p) (cond (not d) (x ∷ rest) rest) ≡ true
    go true true is gone e later = absurd (clash (sym gone ∙ (ap lost (sym (same_is p x is)) ∙ lives)))
    go true false is gone e later = ap (λ b. b || list_any (same_atom p) rest) is
    go false true is gone e later = later e
    go false false is gone e later = ap (λ b. b || list_any (same_atom p) rest) is ∙ later e

-- a name that stands at a place among others is one of them
any_at : (names : List Node) (k : ℕ) → k < length names → list_any (same_atom (name_at names k)) names ≡ true
any_at [] k low = absurd (omega (arith, low))
any_at (x ∷ xs) zero low = ap (λ b. b || list_any (same_atom x) xs) (atom_self x)
any_at (x ∷ xs) (suc k) low = later (same_atom (name_at xs k) x) (list_any (same_atom (name_at xs k)) xs) (any_at xs k (omega (arith, low)))
  where
    later : (b d : Bool) → d ≡ true → (b || d) ≡ true
    later true d e = refl
    later false d e = e

-- ---- acts

pub all_lead_cut : (names : List Node) (ports : ℕ) (a : Standing) (first second : List Act) (b : Standing) → AllLead names ports a (first ++ second) b
    → (m : Standing) × AllLead names ports a first m × AllLead names ports m second b
all_lead_cut names ports a [] second b lead = (a, refl, lead)
all_lead_cut names ports a (act ∷ first) second b lead =
    let rest = all_lead_cut names ports lead.0 first second b lead.2 in
    (rest.0, (lead.0, lead.1, rest.1), rest.2)

-- what comes of the peer at a place, as the machine with losses tells it
abbrev pub come_of_peer : ℕ → Given → List (Stamped (Noticed Message))
come_of_peer place (Took p x) = cond (nat_eq p place) (sent_packet x ∷ []) []
come_of_peer place (Saw p last) = cond (nat_eq p place) (notice_at last ∷ []) []
come_of_peer place (Did action) = []

abbrev pub come_in : ℕ → List Act → List (Stamped (Noticed Message))
come_in place acts = flat_map (λ act. come_of_peer place act.input) acts

one_come : (config : Config) (x y : ℕ) → x ≢ y → (act : Act) → packet_from x (losing_act config y act).input ≡ come_of_peer (peer_place y x) act.input
one_come config x y other act = go act.input
  where
    go : (input : Given) → packet_from x (losing_input y input) ≡ come_of_peer (peer_place y x) input
    go (Took p z) = ap (λ b. cond b (sent_packet z ∷ []) []) (same_place y x p other)
    go (Saw p last) = ap (λ b. cond b (notice_at last ∷ []) []) (same_place y x p other)
    go (Did action) = refl

pub come_alike : (config : Config) (x y : ℕ) → x ≢ y → (acts : List Act) → taken_from x (map (losing_act config y) acts) ≡ come_in (peer_place y x) acts
come_alike config x y other [] = refl
come_alike config x y other (act ∷ acts) = λ j. one_come config x y other act j ++ come_alike config x y other acts j

module _ (config : Config) (i : ℕ) (within : i < length config) where
  abbrev names : List Node
  names = all_of (nodes_at config i)

  abbrev ports : ℕ
  ports = ports_at config i

  -- the name of the peer at a place
  abbrev pub peer_at : ℕ → Node
  peer_at p = name_at names (p + 1)

  peer_is : (p : ℕ) → peer_at p ≡ config_name config (place_of_peer i p)
  peer_is p = peer_name config i within p ∙ sym (named config i within (place_of_peer i p))

  -- what an event makes of a node
  abbrev MadeBy : Timed State → Given → TimedTurn → Type 0
  MadeBy s (Took p x) turn = (t : NodeTurn) × (node_takes (nodes_at config i) (config_name config (place_of_peer i p)) x.packet s.state ≡ Ok t) × (at_clock (max s.clock x.stamp + 1) t ≡ turn)
  MadeBy s (Saw p last) turn = (s.state.lost (peer_at p) ≡ false) × (at_clock (max s.clock last + 1) (see_loss (peer_at p) s.state) ≡ turn)
  MadeBy s (Did action) turn = (t : NodeTurn) × (node_acts (nodes_at config i) ports action s.state ≡ Ok t) × (at_clock (s.clock + 1) t ≡ turn)

  made_by : (s : Timed State) (input : Given) (turn : TimedTurn) → act_step names ports s input ≡ Ok turn → MadeBy s input turn
  made_by s (Took p x) turn made =
      let told : timed (max s.clock x.stamp + 1) (node_takes (nodes_at config i) (config_name config (place_of_peer i p)) x.packet s.state) ≡ Ok turn =
      ap (λ (q : Node). timed (max s.clock x.stamp + 1) (node_takes (nodes_at config i) q x.packet s.state)) (sym (peer_is p)) ∙ made in
      made_in_time (max s.clock x.stamp + 1) (node_takes (nodes_at config i) (config_name config (place_of_peer i p)) x.packet s.state) turn told
  made_by s (Saw p last) turn made =
      let t = made_in_time (max s.clock last + 1) (cond (s.state.lost (peer_at p)) (Err NodeLost) (Ok (see_loss (peer_at p) s.state))) turn made in
      let r = not_lost_so (s.state.lost (peer_at p)) (Ok (see_loss (peer_at p) s.state)) t.0 t.1 in
      let same : see_loss (peer_at p) s.state ≡ t.0 = ok_is r.1 in
      (r.0, ap (at_clock (max s.clock last + 1)) same ∙ t.2)
    where
      ok_is : {x y : NodeTurn} → ◌≡◌ {A = Result NodeTurn Refusal} (Ok x) (Ok y) → x ≡ y
      ok_is e = cc
  made_by s (Did action) turn made = made_in_time (s.clock + 1) (node_acts (nodes_at config i) ports action s.state) turn made

  -- a loss that was seen stays seen
  lost_stays : (s : Timed State) (input : Given) (turn : TimedTurn) (q : Node) → MadeBy s input turn → s.state.lost q ≡ true → turn.state.state.lost q ≡ true
  lost_stays s (Took p x) turn q made is =
      let same = step_sees_none config i s.state (Taken (place_of_peer i p) x.packet) (place_turn config made.0) (ap (placed config) made.1) in
      ap (λ (u : TimedTurn). u.state.state.lost q) (sym made.2) ∙ (ap (λ (f : Node → Bool). f q) same ∙ is)
  lost_stays s (Saw p last) turn q made is = ap (λ (u : TimedTurn). u.state.state.lost q) (sym made.1) ∙ upd_stays s.state.lost (peer_at p) q is
  lost_stays s (Did action) turn q made is =
      let same = step_sees_none config i s.state (Own action) (place_turn config made.0) (ap (placed config) made.1) in
      ap (λ (u : TimedTurn). u.state.state.lost q) (sym made.2) ∙ (ap (λ (f : Node → Bool). f q) same ∙ is)

  -- and what is seen is lost
  seen_is_lost : (s : Timed State) (p last : ℕ) (turn : TimedTurn) → MadeBy s (Saw p last) turn → turn.state.state.lost (peer_at p) ≡ true
  seen_is_lost s p last turn made = ap (λ (u : TimedTurn). u.state.state.lost (peer_at p)) (sym made.1) ∙ upd_here s.state.lost (peer_at p)

  -- of such a peer nothing is taken, and its loss is not seen again
  comes_none : (s : Timed State) (input : Given) (turn : TimedTurn) (place : ℕ) → MadeBy s input turn → s.state.lost (peer_at place) ≡ true
      → (packet_of_peer place input ≡ []) × (loss_of place input ≡ [])
  comes_none s (Took p x) turn place made is = (ap (λ b. cond b (x ∷ []) []) (ne_eqb p place apart), refl)
    where
      apart : p ≢ place
      apart e =
          let gone : s.state.lost (config_name config (place_of_peer i p)) ≡ true = ap s.state.lost (sym (peer_is p) ∙ ap peer_at e) ∙ is in
          let lives = not_lost_so (s.state.lost (config_name config (place_of_peer i p))) (taken (live_nodes (nodes_at config i) s.state) (config_name config (place_of_peer i p)) x.packet s.state) made.0 made.1 in
          clash (sym gone ∙ lives.0)
  comes_none s (Saw p last) turn place made is = (refl, ap (λ b. cond b (last ∷ []) []) (ne_eqb p place apart))
    where
      apart : p ≢ place
      apart e = clash (sym is ∙ (ap (λ k. s.state.lost (peer_at k)) (sym e) ∙ made.0))
  comes_none s (Did action) turn place made is = (refl, refl)

  lost_on : (a m : Standing) (act : Act) (q : Node) → ActLeads names ports a act m → a.state.state.lost q ≡ true → m.state.state.lost q ≡ true
  lost_on a m act q lead is =
      ap (λ (s : Timed State). s.state.lost q) lead.state ∙ lost_stays a.state act.input act.turn q (made_by a.state act.input act.turn lead.made) is

  none_after : (place : ℕ) (a : Standing) (acts : List Act) (b : Standing) → AllLead names ports a acts b → a.state.state.lost (peer_at place) ≡ true
      → (packets_taken place acts ≡ []) × (losses_of place acts ≡ [])
  none_after place a [] b lead is = (refl, refl)
  none_after place a (act ∷ acts) b (m, lead, later) is =
      let here = comes_none a.state act.input act.turn place (made_by a.state act.input act.turn lead.made) is in
      let rest = none_after place m acts b later (lost_on a m act (peer_at place) lead is) in
      (ap (λ w. w ++ packets_taken place acts) here.0 ∙ rest.0, ap (λ w. w ++ losses_of place acts) here.1 ∙ rest.1)

  -- so what comes of a peer are packets, and behind them its last notice at most
  pub come_split : (place : ℕ) (a : Standing) (acts : List Act) (b : Standing) → AllLead names ports a acts b
      → come_in place acts ≡ map sent_packet (packets_taken place acts) ++ map notice_at (losses_of place acts)
  come_split place a [] b lead = refl
  come_split place a (act ∷ acts) b (m, lead, later) = go act.input refl (come_split place m acts b later)
    where
      go : (input : Given) → act.input ≡ input → come_in place acts ≡ map sent_packet (packets_taken place acts) ++ map notice_at (losses_of place acts)
          → come_of_peer place input ++ come_in place acts ≡ map sent_packet (packet_of_peer place input ++ packets_taken place acts) ++ map notice_at (loss_of place input ++ losses_of place acts)
      go (Did action) is rest = rest
      go (Took p x) is rest = one (nat_eq p place)
        where
          one : (b : Bool) → cond b (sent_packet x ∷ []) [] ++ come_in place acts ≡ map sent_packet (cond b (x ∷ []) [] ++ packets_taken place acts) ++ map notice_at (losses_of place acts)
          one true = ap (λ w. sent_packet x ∷ w) rest
          one false = rest
      go (Saw p last) is rest = one (cases_eq p place)
        where
          one : (p ≡ place) ⊎ (p ≢ place) → cond (nat_eq p place) (notice_at last ∷ []) [] ++ come_in place acts
              ≡ map sent_packet (packets_taken place acts) ++ map notice_at (cond (nat_eq p place) (last ∷ []) [] ++ losses_of place acts)
          one (inr apart) =
              ap (λ b. cond b (notice_at last ∷ []) [] ++ come_in place acts) (ne_eqb p place apart)
              ∙ (rest ∙ ap (λ b. map sent_packet (packets_taken place acts) ++ map notice_at (cond b (last ∷ []) [] ++ losses_of place acts)) (sym (ne_eqb p place apart)))
          one (inl same) =
              let made : MadeBy a.state (Saw p last) act.turn = made_by a.state (Saw p last) act.turn (ap (act_step names ports a.state) (sym is) ∙ lead.made) in
              let gone : m.state.state.lost (peer_at place) ≡ true =
              ap (λ (s : Timed State). s.state.lost (peer_at place)) lead.state ∙ subst (λ k. act.turn.state.state.lost (peer_at k) ≡ true) same (seen_is_lost a.state p last act.turn made) in
              let none = none_after place m acts b later gone in
              ap (λ b. cond b (notice_at last ∷ []) [] ++ come_in place acts) (eq-eqb p place same)
              ∙ (ap (λ w. notice_at last ∷ w) (rest ∙ ap (λ (ps : List (Stamped Message)). map sent_packet ps ++ map notice_at (losses_of place acts)) none.0)
              ∙ (ap (λ (ps : List (Stamped Message)). map sent_packet ps ++ notice_at last ∷ map notice_at (losses_of place acts)) (sym none.0)
              ∙ ap (λ b. map sent_packet (packets_taken place acts) ++ map notice_at (cond b (last ∷ []) [] ++ losses_of place acts)) (sym (eq-eqb p place same))))

  -- and its loss is seen once at most
  pub seen_once : (place : ℕ) (a : Standing) (acts : List Act) (b : Standing) → AllLead names ports a acts b
      → (losses_of place acts ≡ []) ⊎ ((last : ℕ) × (losses_of place acts ≡ last ∷ []))
  seen_once place a [] b lead = inl refl
  seen_once place a (act ∷ acts) b (m, lead, later) = go act.input refl (seen_once place m acts b later)
    where
      go : (input : Given) → act.input ≡ input → (losses_of place acts ≡ []) ⊎ ((last : ℕ) × (losses_of place acts ≡ last ∷ []))
          → (loss_of place input ++ losses_of place acts ≡ []) ⊎ ((last : ℕ) × (loss_of place input ++ losses_of place acts ≡ last ∷ []))
      go (Did action) is rest = rest
      go (Took p x) is rest = rest
      go (Saw p last) is rest = one (cases_eq p place)
        where
          one : (p ≡ place) ⊎ (p ≢ place) → (cond (nat_eq p place) (last ∷ []) [] ++ losses_of place acts ≡ []) ⊎ ((other : ℕ) × (cond (nat_eq p place) (last ∷ []) [] ++ losses_of place acts ≡ other ∷ []))
          one (inr apart) =
              subst (λ b. (cond b (last ∷ []) [] ++ losses_of place acts ≡ []) ⊎ ((other : ℕ) × (cond b (last ∷ []) [] ++ losses_of place acts ≡ other ∷ []))) (sym (ne_eqb p place apart)) rest
          one (inl same) =
              let made : MadeBy a.state (Saw p last) act.turn = made_by a.state (Saw p last) act.turn (ap (act_step names ports a.state) (sym is) ∙ lead.made) in
              let gone : m.state.state.lost (peer_at place) ≡ true =
              ap (λ (s : Timed State). s.state.lost (peer_at place)) lead.state ∙ subst (λ k. act.turn.state.state.lost (peer_at k) ≡ true) same (seen_is_lost a.state p last act.turn made) in
              let none = none_after place m acts b later gone in
              inr (last, ap (λ b. cond b (last ∷ []) [] ++ losses_of place acts) (eq-eqb p place same) ∙ ap (λ w. last ∷ w) none.1)

  -- ---- what the log tells

  -- how many packets of a node its log tells that it took
  pub takes_are : (x : ℕ) → x ≢ i → (acts : List Act) → takes_of x i (map (λ (entry : ℕ × NodeEvent). entry.1) (map log_entry acts)) ≡ length (packets_taken (peer_place i x) acts)
  takes_are x other [] = refl
  takes_are x other (act ∷ acts) = go act.input (takes_are x other acts)
    where
      go : (input : Given) → takes_of x i (map (λ (entry : ℕ × NodeEvent). entry.1) (map log_entry acts)) ≡ length (packets_taken (peer_place i x) acts)
          → cond (is_take x i (event_of input)) 1 0 + takes_of x i (map (λ (entry : ℕ × NodeEvent). entry.1) (map log_entry acts)) ≡ length (packet_of_peer (peer_place i x) input ++ packets_taken (peer_place i x) acts)
      go (Saw p last) rest = none_more _ ∙ rest
      go (Did (Issue port command)) rest = none_more _ ∙ rest
      go (Did (Retry op)) rest = none_more _ ∙ rest
      go (Took p z) rest =
          ap (λ b. cond b 1 0 + takes_of x i (map (λ (entry : ℕ × NodeEvent). entry.1) (map log_entry acts))) (same_place i x p other)
          ∙ one (nat_eq p (peer_place i x))
        where
          one : (b : Bool) → cond b 1 0 + takes_of x i (map (λ (entry : ℕ × NodeEvent). entry.1) (map log_entry acts)) ≡ length (cond b (z ∷ []) [] ++ packets_taken (peer_place i x) acts)
          one true = omega (arith, rest)
          one false = omega (arith, rest)

  -- behind the sight of a loss nothing is taken of the lost
  pub ceases : (a : Standing) (acts : List Act) (b : Standing) → AllLead names ports a acts b → Ceases i (map log_entry acts)
  ceases a [] b lead zero clock peer rest e = absurd (cc)
  ceases a [] b lead (suc n) clock peer rest e = absurd (cc)
  ceases a (act ∷ acts) b (m, lead, later) (suc n) clock peer rest e = ceases m acts b later n clock peer rest e
  ceases a (act ∷ acts) b (m, lead, later) zero clock peer rest e =
      let first = heads (log_entry act) (clock, entries.SeeLoss peer) (map log_entry acts) rest e in
      let event : event_of act.input ≡ entries.SeeLoss peer = ap (λ (entry : ℕ × NodeEvent). entry.1) first.0 in
      let more : map log_entry acts ≡ rest = first.1 in
      ap (λ (es : List (ℕ × NodeEvent)). takes_of (place_of_peer i peer) i (map (λ entry. entry.1) es)) (sym more)
      ∙ (takes_are (place_of_peer i peer) (own_place i peer) acts
      ∙ (ap (λ k. length (packets_taken k acts)) (sym back)
      ∙ ap length (none_after peer m acts b later (gone act.input refl event)).0))
    where
      back : peer ≡ peer_place i (place_of_peer i peer)
      back = eqb-true peer (peer_place i (place_of_peer i peer)) (sym (same_place i (place_of_peer i peer) peer (own_place i peer)) ∙ eq-eqb (place_of_peer i peer) (place_of_peer i peer) refl)

      gone : (input : Given) → act.input ≡ input → event_of input ≡ entries.SeeLoss peer → m.state.state.lost (peer_at peer) ≡ true
      gone (Took p x) is event = absurd (cc)
      gone (Did (Issue port command)) is event = absurd (cc)
      gone (Did (Retry op)) is event = absurd (cc)
      gone (Saw p last) is event =
          let same : p ≡ peer = peer_is_one p peer event in
          let made : MadeBy a.state (Saw p last) act.turn = made_by a.state (Saw p last) act.turn (ap (act_step names ports a.state) (sym is) ∙ lead.made) in
          ap (λ (s : Timed State). s.state.lost (peer_at peer)) lead.state ∙ subst (λ k. act.turn.state.state.lost (peer_at k) ≡ true) same (seen_is_lost a.state p last act.turn made)

  -- ---- what is sent

  module _ (apart : IsDistinct same_atom (names_of config)) where
    own_left : (s : State) → is_peer (live_nodes (nodes_at config i) s) (config_name config i) ≡ false
    own_left s = none_kept (same_atom (config_name config i)) (λ q. not (s.lost q)) (nodes_at config i).peers (alone config apart i (lt-ltb i (length config) within))

    -- a peer whose packet is taken is left
    taker_left : (s : State) (p : ℕ) → p + 1 < length names → s.lost (peer_at p) ≡ false → is_peer (live_nodes (nodes_at config i) s) (peer_at p) ≡ true
    taker_left s p low lives = still_left s.lost (peer_at p) (nodes_at config i).peers lives (there p low)
      where
        there : (p : ℕ) → p + 1 < length names → list_any (same_atom (peer_at p)) (nodes_at config i).peers ≡ true
        there p low =
            let next : p + 1 ≡ suc p = omega arith in
            subst (λ k. list_any (same_atom (name_at names k)) (nodes_at config i).peers ≡ true) (sym next) (any_at (nodes_at config i).peers p (omega (arith, low)))

    stamped_none : (clock : ℕ) (xs : List Message) → xs ≡ [] → stamped clock xs ≡ []
    stamped_none clock xs e = ap (stamped clock) e

    once_so : (m : Nodes) (own : is_peer m m.own ≡ false) (q : Node) (r : Result NodeTurn Refusal) (t : NodeTurn) → r ≡ Ok t → OnceIfOk m own q r → is_peer m q ≡ false → t.sends q ≡ []
    once_so m own q r t e once gone = let o : Once m q (t.sends q) = subst (OnceIfOk m own q) e once in o.peers gone

    -- nothing is sent to a node whose loss was seen
    sends_none : (s : Timed State) (input : Given) (turn : TimedTurn) (q : Node) → IsFromPeer names input → MadeBy s input turn → s.state.lost q ≡ true → turn.sends q ≡ []
    sends_none s (Took p x) turn q there made is =
        let m = live_nodes (nodes_at config i) s.state in
        let peer = config_name config (place_of_peer i p) in
        let lives = not_lost_so (s.state.lost peer) (taken m peer x.packet s.state) made.0 made.1 in
        let low : p + 1 < length names = there in
        let left_there : is_peer m peer ≡ true = ap (is_peer m) (sym (peer_is p)) ∙ taker_left s.state p low (ap s.state.lost (peer_is p) ∙ lives.0) in
        ap (λ (u : TimedTurn). u.sends q) (sym made.2)
        ∙ stamped_none (max s.clock x.stamp + 1) (made.0.sends q)
        (once_so m (own_left s.state) q (taken m peer x.packet s.state) made.0 lives.1 (takes_once m (own_left s.state) q peer left_there x.packet s.state) (lost_left s.state.lost q (nodes_at config i).peers is))
    sends_none s (Saw p last) turn q there made is = ap (λ (u : TimedTurn). u.sends q) (sym made.1)
    sends_none s (Did action) turn q there made is =
        let m = live_nodes (nodes_at config i) s.state in
        ap (λ (u : TimedTurn). u.sends q) (sym made.2)
        ∙ stamped_none (s.clock + 1) (made.0.sends q)
        (once_so m (own_left s.state) q (acted (nodes_at config i) m ports action s.state) made.0 made.1 (acts_once m (own_left s.state) q (nodes_at config i) ports action s.state)
        (lost_left s.state.lost q (nodes_at config i).peers is))

    -- by one act, where its turn sends nothing there
    one_silent : (a m : Standing) (act : Act) (y : ℕ) → y < length config → y ≢ i → ActLeads names ports a act m → act.turn.sends (config_name config y) ≡ [] → packets_to act.sends (peer_place i y) ≡ []
    one_silent a m act y low other lead none =
        sym (sent_to config i within apart act.sends y lead.fits.each low other) ∙ (ap (λ (sends : Node → List (Stamped Message)). sends (config_name config y)) lead.sends ∙ none)

    silent_after : (y : ℕ) → y < length config → y ≢ i → (a : Standing) (acts : List Act) (b : Standing) → AllLead names ports a acts b → a.state.state.lost (config_name config y) ≡ true
        → packets_sent (peer_place i y) acts ≡ []
    silent_after y low other a [] b lead is = refl
    silent_after y low other a (act ∷ acts) b (m, lead, later) is =
        let none = sends_none a.state act.input act.turn (config_name config y) lead.there (made_by a.state act.input act.turn lead.made) is in
        ap (λ w. w ++ packets_sent (peer_place i y) acts) (one_silent a m act y low other lead none)
        ∙ silent_after y low other m acts b later (lost_on a m act (config_name config y) lead is)

    -- from the sight of a loss on nothing is sent to the lost
    pub silent_from : (y last : ℕ) → y < length config → y ≢ i → (a : Standing) (saw : Act) (acts : List Act) (b : Standing) → AllLead names ports a (saw ∷ acts) b → saw.input ≡ Saw (peer_place i y) last
        → packets_sent (peer_place i y) (saw ∷ acts) ≡ []
    silent_from y last low other a saw acts b (m, lead, later) is =
        let place = peer_place i y in
        let made : MadeBy a.state (Saw place last) saw.turn = made_by a.state (Saw place last) saw.turn (ap (act_step names ports a.state) (sym is) ∙ lead.made) in
        let name : peer_at place ≡ config_name config y = peer_is place ∙ ap (config_name config) (there_and_back i y other) in
        let gone : m.state.state.lost (config_name config y) ≡ true =
        ap (λ (s : Timed State). s.state.lost (config_name config y)) lead.state ∙ subst (λ q. saw.turn.state.state.lost q ≡ true) name (seen_is_lost a.state place last saw.turn made) in
        ap (λ w. w ++ packets_sent place acts) (one_silent a m saw y low other lead (ap (λ (u : TimedTurn). u.sends (config_name config y)) (sym made.1)))
        ∙ silent_after y low other m acts b later gone
