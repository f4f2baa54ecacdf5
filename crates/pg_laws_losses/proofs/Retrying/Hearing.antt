-- A packet that is taken where nodes were lost, and what a node does of its own: what was first on its way, and what is made of it.
use Rattle.std.proofs.Common.{◌≡◌, ℕ, true, cond, map, List, [], ◌∷◌, ◌++◌, Some, Ok, refl, ap, sym, ◌∙◌}
use Rattle.pg_laws.specs.PgMessageTypes.declared.message.Message.{Message}
use Rattle.pg_laws.specs.PgStep.Machines.Happened.{Changes, Happened}
use Rattle.pg_laws.specs.PgStep.Machines.Losing.{Noticed, Sent, mapped_turn}
use Rattle.pg_laws.specs.PgStep.Machines.Machine.{Do, Event, Own, Take, Taken, Turn, World, first_from, node_of}
use Rattle.pg_laws.proofs.PgStep.Machines.Options.{map_is_some, some_is}
use Rattle.pg_laws.proofs.PgStep.Machines.Steps.{changes}
use Rattle.pg_laws.specs.PgStep.Config.{Config, name_at, nodes_at, ports_at}
use Rattle.pg_laws.specs.PgStep.FrameMachine.{losing_machine_of, node_step, place_turn}
use Rattle.pg_laws.specs.PgStep.State.{State, formed, live_nodes}
use Rattle.pg_laws.specs.PgStep.Step.{Action, acted, taken}
use Rattle.pg_laws.specs.PgStep.Turns.{NodeTurn, Report}
use Rattle.pg_laws.proofs.places.Shown.{IsHere}
use Rattle.pg_laws.proofs.steps.Lasting.{all_stay}
use Rattle.pg_laws.proofs.steps.Lossless.{step_sees_none}
use Rattle.pg_laws.proofs.steps.Made.{did_so, took_so}
use Rattle.pg_laws.proofs.steps.Ways.{state_after}
use Rattle.pg_laws_losses.proofs.Lasts.{made_stays}
use Rattle.pg_laws_losses.proofs.Lossy.{makes}

-- the nodes without their clocks, where they can be lost
abbrev pub Bare : Type 0
Bare = World State (Noticed Message) Report

-- no node is less formed behind an event
pub full_later : (config : Config) (v x : Bare) (d : Event Action) (h : Happened (losing_machine_of config) v d x) (j : ℕ)
    → formed (nodes_at config j) (v.node j) ≡ true → formed (nodes_at config j) (x.node j) ≡ true
full_later config v x d h j = state_after (losing_machine_of config) v x d h
    (λ (s : State). formed (nodes_at config j) (v.node j) ≡ true → formed (nodes_at config j) s ≡ true) j
    (λ own. all_stay (v.node j).merged h.turn.state.merged (nodes_at config j).peers
    (λ q was. (made_stays config (node_of d) (v.node (node_of d)) h.input h.turn
    (makes config (node_of d) (v.node (node_of d)) h.input h.turn h.made)).merged q
    (ap (λ k. (v.node k).merged q) (sym own) ∙ was)))
    (λ _ full. full)

-- what is first of packets that were sent
first_sent : (packet : Noticed Message) (rest : List (Noticed Message)) (ys : List Message) → map Sent ys ≡ packet ∷ rest
    → (y : Message) × (zs : List Message) × (ys ≡ y ∷ zs) × (packet ≡ Sent y) × (rest ≡ map Sent zs)
first_sent packet rest [] e = absurd (cc)
first_sent packet rest (y ∷ zs) e =
    let one : packet ≡ Sent y = cc in
    let others : rest ≡ map Sent zs = cc in
    (y, zs, refl, one, others)

-- ---- a packet is taken

module _ (config : Config) (v x : Bare) (i p : ℕ) (happened : Happened (losing_machine_of config) v (Take i p) x)
    (ys : List Message) (way : v.wire p i ≡ map Sent ys) where
  abbrev all : Changes {C = Action} (Take i p) happened.turn v x
  all = changes (losing_machine_of config) v x (Take i p) happened

  pub there : (packet : Noticed Message) × (v.wire p i ≡ packet ∷ x.wire p i)
  there = all.taken p i (refl, refl)

  -- the packet, and what is behind it
  pub first : (y : Message) × (zs : List Message) × (ys ≡ y ∷ zs) × (there.0 ≡ Sent y) × (x.wire p i ≡ map Sent zs)
  first = first_sent there.0 (x.wire p i) ys (sym way ∙ there.1)

  made : (losing_machine_of config).step i (v.node i) (Taken p (Sent first.0)) ≡ Some happened.turn
  made = ap ((losing_machine_of config).step i (v.node i))
      (some_is (sym (ap (first_from p) (there.1 ∙ ap (λ z. z ∷ x.wire p i) first.3)) ∙ happened.given)) ∙ happened.made

  pub heard : (t : Turn State Message Report) × (node_step config i (v.node i) (Taken p first.0) ≡ Some t) × (mapped_turn Sent t ≡ happened.turn)
  heard = map_is_some (mapped_turn Sent) (node_step config i (v.node i) (Taken p first.0)) happened.turn made

  pub turn : (t : NodeTurn) × (taken (live_nodes (nodes_at config i) (v.node i)) (name_at config p) first.0 (v.node i) ≡ Ok t) × (heard.0 ≡ place_turn config t)
  turn = took_so config i (v.node i) p first.0 heard.0 heard.1

  pub turn_is : happened.turn ≡ mapped_turn Sent (place_turn config turn.0)
  turn_is = sym heard.2 ∙ ap (mapped_turn Sent) turn.2

  pub state_is : x.node i ≡ turn.0.state
  state_is = all.state ∙ ap (λ (t : Turn State (Noticed Message) Report). t.state) turn_is

  pub reported_is : x.reported ≡ v.reported ++ (i, turn.0.reported) ∷ []
  reported_is = all.reported ∙ ap (λ (t : Turn State (Noticed Message) Report). v.reported ++ (i, t.reported) ∷ []) turn_is

  pub sent_is : (q : ℕ) → IsHere config q → x.wire i q ≡ v.wire i q ++ map Sent (turn.0.sends (name_at config q))
  sent_is q here = all.sent q ∙ ap (λ (t : Turn State (Noticed Message) Report). v.wire i q ++ t.sends q) turn_is
      ∙ ap (λ b. v.wire i q ++ map Sent (cond b (turn.0.sends (name_at config q)) [])) here

  -- no loss is seen
  pub known_is : turn.0.state.lost ≡ (v.node i).lost
  known_is = ap (λ (t : Turn State Message Report). t.state.lost) (sym turn.2)
      ∙ step_sees_none config i (v.node i) (Taken p first.0) heard.0 heard.1

-- ---- a node does something of its own

module _ (config : Config) (v x : Bare) (i : ℕ) (action : Action) (happened : Happened (losing_machine_of config) v (Do i action) x) where
  abbrev changed : Changes (Do i action) happened.turn v x
  changed = changes (losing_machine_of config) v x (Do i action) happened

  pub acts : (t : Turn State Message Report) × (node_step config i (v.node i) (Own action) ≡ Some t) × (mapped_turn Sent t ≡ happened.turn)
  acts = map_is_some (mapped_turn Sent) (node_step config i (v.node i) (Own action)) happened.turn
      (ap ((losing_machine_of config).step i (v.node i)) (some_is happened.given) ∙ happened.made)

  pub own_turn : (t : NodeTurn)
      × (acted (nodes_at config i) (live_nodes (nodes_at config i) (v.node i)) (ports_at config i) action (v.node i) ≡ Ok t)
      × (acts.0 ≡ place_turn config t)
  own_turn = did_so config i (v.node i) action acts.0 acts.1

  pub own_is : happened.turn ≡ mapped_turn Sent (place_turn config own_turn.0)
  own_is = sym acts.2 ∙ ap (mapped_turn Sent) own_turn.2

  pub own_state : x.node i ≡ own_turn.0.state
  own_state = changed.state ∙ ap (λ (t : Turn State (Noticed Message) Report). t.state) own_is

  pub own_reported : x.reported ≡ v.reported ++ (i, own_turn.0.reported) ∷ []
  own_reported = changed.reported ∙ ap (λ (t : Turn State (Noticed Message) Report). v.reported ++ (i, t.reported) ∷ []) own_is

  pub own_sent : (q : ℕ) → IsHere config q → x.wire i q ≡ v.wire i q ++ map Sent (own_turn.0.sends (name_at config q))
  own_sent q here = changed.sent q ∙ ap (λ (t : Turn State (Noticed Message) Report). v.wire i q ++ t.sends q) own_is
      ∙ ap (λ b. v.wire i q ++ map Sent (cond b (own_turn.0.sends (name_at config q)) [])) here

  pub own_known : own_turn.0.state.lost ≡ (v.node i).lost
  own_known = ap (λ (t : Turn State Message Report). t.state.lost) (sym own_turn.2)
      ∙ step_sees_none config i (v.node i) (Own action) acts.0 acts.1
