-- A node sends nothing to another whose loss it has seen.
use Rattle.std.proofs.Common.{◌≡◌, ◌≢◌, ◌⊎◌, inl, inr, ℕ, ◌+◌, Bool, true, false, not, ◌&&◌, cond, max, nat_le, length, List, []}
use Rattle.std.proofs.Common.{Result, Ok, Err, refl, sym, ap, ◌∙◌, subst}
use Rattle.std.proofs.lemmas.Bool.{cases_eq, ne_eqb}
use Rattle.std.specs.Cmp.{first_so, second_so}
use Rattle.std.specs.List.{IsDistinct, list_any}
use Rattle.pg_term.specs.Same.{same_atom}
use Rattle.pg_world_packets.specs.PgGroup.Functions.{upd}
use Rattle.pg_world_packets.specs.PgMessageTypes.declared.message.Message.{Message}
use Rattle.pg_world_packets.specs.PgStep.Machines.Clocked.{Timed, Stamped, stamped}
use Rattle.pg_world_packets.specs.PgStep.Machines.Happened.{Changes}
use Rattle.pg_world_packets.specs.PgStep.Machines.Machine.{Event, Do, Own}
use Rattle.pg_world_packets.specs.PgStep.Machines.Places.{is_place, is_pair}
use Rattle.pg_world_packets.specs.PgStep.declared.answer.Answer.{Answer}
use Rattle.pg_world_packets.specs.PgStep.declared.refusal.Refusal.{Refusal}
use Rattle.pg_world_packets.specs.PgStep.declared.refusal.Refusal.TheVariants.{NotAMessage, NoSuchPlace, NotWaiting}
use Rattle.pg_world_packets.specs.PgStep.declared.refusal.Refusal.TheVariants.{NodeLost, NotDrained, ClockFull, NotLost}
use Rattle.pg_world_packets.specs.PgStep.Config.{Config, names_of, name_at, nodes_at}
use Rattle.pg_world_packets.specs.PgStep.Nodes.{Node, Nodes, all_of, is_peer}
use Rattle.pg_world_packets.specs.PgStep.State.{State, live_nodes}
use Rattle.pg_world_packets.specs.PgStep.Step.{Action, Retry, CLOCK_LIMIT, TimedTurn, at_clock, node_acts, node_takes}
use Rattle.pg_world_packets.specs.PgStep.Step.{step_act, step_take, taken, timed}
use Rattle.pg_world_packets.specs.PgStep.StepLaws.{place_timed}
use Rattle.pg_world_packets.specs.PgStep.Turns.{NodeTurn}
use Rattle.pg_world_packets.specs.PgNodeOpens.Places.{whole_in, name_at as place_name}
use Rattle.pg_world_packets.specs.PgNodeSends.Dones.{FramedDone}
use Rattle.pg_world_packets.specs.PgNodeSends.Framed.{listed_of}
use Rattle.pg_world_packets.specs.PgNodeSends.Sendable.{AreSendable}
use Rattle.pg_world_packets.specs.PgNodeState.States.{Comes, Happens}
use Rattle.pg_world_packets.specs.Views.{packets_to, peer_place}
use Rattle.pg_world_packets.specs.Worlds.{TimedFrameWorld}
use Rattle.pg_world_packets.proofs.Peering.{named, peer_name, sent_to, there_and_back}
use Rattle.pg_world_packets.proofs.PgLaws.places.Located.{same_names}
use Rattle.pg_world_packets.proofs.PgLaws.quiet.Solo.{knows}
use Rattle.pg_world_packets.proofs.PgLawsLosses.Bridge.{any_filter}
use Rattle.pg_world_packets.proofs.PgStep.Machines.Steps.{turn_changes}
use Rattle.pg_world_packets.proofs.PgStep.Once.{OnceIfOk, acts_once, takes_once}
use Rattle.pg_world_packets.proofs.PgStep.Peers.{alone}
use Rattle.pg_world_packets.proofs.Sighted.{sight, sight_clock, sighted}
use Rattle.pg_world_packets.proofs.Turning.{pair_is}

and_false : (b : Bool) → (b && false) ≡ false
and_false true = refl
and_false false = refl

-- a node that has seen the loss of node y
module _ (config : Config) (apart : IsDistinct same_atom (names_of config)) (i y : ℕ) (pair : is_pair (length config) i y ≡ true) (s : State) (gone : s.lost (name_at config y) ≡ true) where
  abbrev m : Nodes
  m = live_nodes (nodes_at config i) s

  here : is_place (length config) i ≡ true
  here = first_so (is_place (length config) i) _ pair

  own_out : is_peer m m.own ≡ false
  own_out = any_filter (λ q. not (s.lost q)) (name_at config i) (nodes_at config i).peers ∙ ap (λ b. b && not (s.lost (name_at config i))) (alone config apart i here)

  -- it does not count it
  lost_out : is_peer m (name_at config y) ≡ false
  lost_out = any_filter (λ q. not (s.lost q)) (name_at config y) (nodes_at config i).peers
      ∙ (ap (λ b. list_any (same_atom (name_at config y)) (nodes_at config i).peers && not b) gone ∙ and_false (list_any (same_atom (name_at config y)) (nodes_at config i).peers))

  -- what it sends goes to those that count
  timed_none : (clock : ℕ) (r : Result NodeTurn Refusal) (t : TimedTurn) → OnceIfOk m own_out (name_at config y) r → timed clock r ≡ Ok t → t.sends (name_at config y) ≡ []
  timed_none clock (Ok turn) t once e = go (nat_le clock CLOCK_LIMIT) e
    where
      go : (b : Bool) → cond b (Ok (at_clock clock turn)) (Err ClockFull) ≡ Ok t → t.sends (name_at config y) ≡ []
      go true is = let same : at_clock clock turn ≡ t = cc in sym (ap (λ (x : TimedTurn). x.sends (name_at config y)) same) ∙ ap (stamped clock) (once.peers lost_out)
      go false is = absurd (cc)
  timed_none clock (Err refusal) t once e = absurd (never refusal e)
    where
      late : (b : Bool) (r : Refusal) → ◌≡◌ {A = Result TimedTurn Refusal} (cond b (Err r) (Err ClockFull)) (Ok t) → ⊥
      late true r is = cc
      late false r is = cc

      never : (r : Refusal) → timed clock (Err r) ≡ Ok t → ⊥
      never NoSuchPlace is = cc
      never NodeLost is = cc
      never NotWaiting is = cc
      never NotAMessage is = late (nat_le clock CLOCK_LIMIT) NotAMessage is
      never NotDrained is = late (nat_le clock CLOCK_LIMIT) NotDrained is
      never ClockFull is = late (nat_le clock CLOCK_LIMIT) ClockFull is
      never NotLost is = late (nat_le clock CLOCK_LIMIT) NotLost is

  act_none : (clock ports : ℕ) (action : Action) (t : TimedTurn) → timed clock (node_acts (nodes_at config i) ports action s) ≡ Ok t → t.sends (name_at config y) ≡ []
  act_none clock ports action t = timed_none clock (node_acts (nodes_at config i) ports action s) t (acts_once m own_out (name_at config y) (nodes_at config i) ports action s)

  take_none : (p : ℕ) → is_pair (length config) i p ≡ true → (clock : ℕ) (x : Message) (t : TimedTurn) → timed clock (node_takes (nodes_at config i) (name_at config p) x s) ≡ Ok t → t.sends (name_at config y) ≡ []
  take_none p there clock x t = timed_none clock (node_takes (nodes_at config i) (name_at config p) x s) t (go (s.lost (name_at config p)) refl)
    where
      go : (b : Bool) → s.lost (name_at config p) ≡ b → OnceIfOk m own_out (name_at config y) (cond b (Err NodeLost) (taken m (name_at config p) x s))
      go true is = tt
      go false is = takes_once m own_out (name_at config y) (name_at config p)
          (any_filter (λ q. not (s.lost q)) (name_at config p) (nodes_at config i).peers ∙ (λ j. (knows config apart i here).peer p there j && not (is j))) x s

-- the same of a node that the code has
module _ (config : Config) (apart : IsDistinct same_atom (names_of config)) (i y : ℕ) (pair : is_pair (length config) i y ≡ true) (names : List Node) (known : names ≡ all_of (nodes_at config i))
    (s after : Timed State) (gone : s.state.lost (name_at config y) ≡ true) (done : FramedDone) (fits : AreSendable names (listed_of done.sends)) (before behind : ℕ → List Answer) where
  abbrev Empty : Type 0
  Empty = packets_to (listed_of done.sends) (peer_place i y) ≡ []

  empty : (t : TimedTurn) → Happens (all_of (nodes_at config i)) t done after before behind → t.sends (name_at config y) ≡ [] → Empty
  empty t happens none =
      let places = pair_is (length config) i y pair in
      sym (sent_to config i places.0 apart (listed_of done.sends) y (subst (λ ns. AreSendable ns (listed_of done.sends)) known fits).each places.1 places.2)
      ∙ (ap (λ (f : Node → List (Stamped Message)). f (name_at config y)) happens.told.sends ∙ none)

  pub acts_silent : (ports : ℕ) (action : Action) → Comes names (step_act (whole_in names) ports action s) (Ok done) after before behind → packets_to (listed_of done.sends) (peer_place i y) ≡ []
  acts_silent ports action comes = go (step_act (nodes_at config i) ports action s) refl (subst (λ ns. Comes ns (step_act (whole_in ns) ports action s) (Ok done) after before behind) known comes)
    where
      go : (r : Result TimedTurn Refusal) → step_act (nodes_at config i) ports action s ≡ r → Comes (all_of (nodes_at config i)) r (Ok done) after before behind → Empty
      go (Ok t) is happens = empty t happens (act_none config apart i y pair s.state gone (s.clock + 1) ports action t is)
      go (Err refusal) is h = absurd (cc)

  pub takes_silent : (p : ℕ) → is_pair (length config) i p ≡ true → (x : Stamped Message)
      → Comes names (step_take (whole_in names) (place_name names (peer_place i p + 1)) x s) (Ok done) after before behind → packets_to (listed_of done.sends) (peer_place i y) ≡ []
  takes_silent p there x comes = go (step_take (nodes_at config i) (name_at config p) x s) refl
      (subst (λ q. Comes (all_of (nodes_at config i)) (step_take (nodes_at config i) q x s) (Ok done) after before behind) from
      (subst (λ ns. Comes ns (step_take (whole_in ns) (place_name ns (peer_place i p + 1)) x s) (Ok done) after before behind) known comes))
    where
      from : place_name (all_of (nodes_at config i)) (peer_place i p + 1) ≡ name_at config p
      from = let places = pair_is (length config) i p there in
          peer_name config i places.0 (peer_place i p) ∙ (ap (place_name (names_of config)) (there_and_back i p places.2) ∙ sym (named config i places.0 p))

      go : (r : Result TimedTurn Refusal) → step_take (nodes_at config i) (name_at config p) x s ≡ r → Comes (all_of (nodes_at config i)) r (Ok done) after before behind → Empty
      go (Ok t) is happens = empty t happens (take_none config apart i y pair s.state gone p there (max s.clock x.stamp + 1) x.packet t is)
      go (Err refusal) is h = absurd (cc)

-- ---- the loss of node p is seen by node i

module _ (config : Config) (w : TimedFrameWorld) (lost : List ℕ) (i p : ℕ) (pair : is_pair (length config) i p ≡ true) (apart : IsDistinct same_atom (names_of config)) where
  abbrev v : TimedFrameWorld
  v = sighted config w lost i p pair

  abbrev stand_in : Event Action
  stand_in = Do i (Retry (record { port = 0; number = 0 }))

  does : Changes stand_in (place_timed config (at_clock (sight_clock w i p) (sight config w i p))) w v
  does = turn_changes (length config) w stand_in (Own (Retry (record { port = 0; number = 0 }))) (place_timed config (at_clock (sight_clock w i p) (sight config w i p))) (first_so (is_place (length config) i) _ pair) refl

  other_name : (q : ℕ) → is_place (length config) q ≡ true → q ≢ p → same_atom (name_at config p) (name_at config q) ≡ false
  other_name q there n = same_names config apart p q (first_so (is_place (length config) p) _ (second_so (is_place (length config) i) _ pair)) there ∙ ne_eqb p q (λ e. n (sym e))

  lost_else : (q : ℕ) → is_place (length config) q ≡ true → q ≢ p → (v.node i).state.lost (name_at config q) ≡ (w.node i).state.lost (name_at config q)
  unfolding upd
  lost_else q there n = ap (λ (s : Timed State). s.state.lost (name_at config q)) does.state ∙ ap (λ b. cond b true ((w.node i).state.lost (name_at config q))) (other_name q there n)

  -- whose loss is seen then was seen before, but for this one
  pub seen_before : (x q : ℕ) → is_pair (length config) x q ≡ true → (v.node x).state.lost (name_at config q) ≡ true → ((x ≡ i) × (q ≡ p)) ⊎ ((w.node x).state.lost (name_at config q) ≡ true)
  seen_before x q there seen = go (cases_eq x i) (cases_eq q p)
    where
      second : is_place (length config) q ≡ true
      second = first_so (is_place (length config) q) _ (second_so (is_place (length config) x) _ there)

      go : (x ≡ i) ⊎ (x ≢ i) → (q ≡ p) ⊎ (q ≢ p) → ((x ≡ i) × (q ≡ p)) ⊎ ((w.node x).state.lost (name_at config q) ≡ true)
      go (inl d) (inl e) = inl (d, e)
      go (inl d) (inr n) = inr (subst (λ k. (w.node k).state.lost (name_at config q) ≡ true) (sym d) (sym (lost_else q second n) ∙ subst (λ k. (v.node k).state.lost (name_at config q) ≡ true) d seen))
      go (inr m) e = inr (ap (λ (s : Timed State). s.state.lost (name_at config q)) (sym (does.states x m)) ∙ seen)
