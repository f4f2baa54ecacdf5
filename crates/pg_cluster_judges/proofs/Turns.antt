-- The acts of a node of a configuration are turns of the configuration's machine.
use Rattle.std.proofs.Common.{◌≡◌, ◌<◌, ◌+◌, ◌∙◌, ℕ, true, length, map, List}
use Rattle.std.proofs.Common.{[], ◌∷◌, Some, Ok, refl, sym, ap, subst, arith}
use Rattle.std.specs.Prelude.{cond, max}
use Rattle.std.proofs.lemmas.Bool.{eq-eqb, lt-ltb}
use Rattle.std.proofs.lemmas.List.{length-map}
use Rattle.pg_world.specs.PgMessageTypes.declared.message.Message.{Message}
use Rattle.pg_world.specs.PgStep.Machines.Machine.{Input, Taken, Own, is_there}
use Rattle.pg_world.specs.PgStep.Machines.Clocked.{Timed, Stamped}
use Rattle.pg_cluster_judges.specs.Logs.{LoggedAct as MachineAct, NodeLeads, event_of as machine_event}
use Rattle.pg_world.specs.PgNodeOpens.Places.{name_at}
use Rattle.pg_node_run.specs.Acts.{Act, Given, Took, Saw, Did, IsFromPeer, SawNone}
use Rattle.pg_node_run.specs.Acts.{Standing, AllLead, loss_of, losses_of, act_step}
use Rattle.pg_node_run.proofs.Moving.{nil_first, nil_second}
use Rattle.pg_world.specs.PgStep.Config.{Config, name_at as config_name, nodes_at, ports_at}
use Rattle.pg_world.specs.PgStep.FrameMachine.{frame_machine}
use Rattle.pg_world.specs.PgStep.Nodes.{all_of}
use Rattle.pg_world.specs.PgStep.State.{State}
use Rattle.pg_world.specs.PgStep.Step.{Action, Retry, TimedTurn, node_takes, node_acts, step_take}
use Rattle.pg_world.specs.PgStep.StepLaws.{place_timed, timed_placed}
use Rattle.pg_world.specs.PgStep.Turns.{Report}
use Rattle.pg_world.proofs.PgStep.Refusals.{same_step}
use Rattle.pg_world.specs.PgWorldPackets.Views.{place_of_peer}
use Rattle.pg_world.proofs.PgWorldPackets.Peering.{named, own_place, peer_name, peer_within}
use Rattle.pg_world.proofs.PgWorldPackets.Turning.{is_pair_so}

-- an act as the machine of a configuration knows it
abbrev pub PlacedAct : Type 0
PlacedAct = MachineAct (Timed State) (Stamped Message) Action Report

-- what node i was given, where a peer is named by its place among all nodes; for a loss, which no act of these saw, anything stands
abbrev pub input_at : ℕ → Given → Input (Stamped Message) Action
input_at i (Took p x) = Taken (place_of_peer i p) x
input_at i (Saw p last) = Own (Retry (record { port = 0; number = 0 }))
input_at i (Did action) = Own action

-- an act that saw no loss
abbrev pub SeesNone : Given → Type 0
SeesNone input = (place : ℕ) → loss_of place input ≡ []

-- one that saw a loss is none of these
pub saw_none : {A : Type 0} (p last : ℕ) → SeesNone (Saw p last) → A
saw_none p last none =
    let there : last ∷ [] ≡ [] = ap (λ b. cond b (last ∷ []) []) (sym (eq-eqb p p refl)) ∙ none p in
    absurd (cc)

-- the first act, and the others
pub first_none : (act : Act) (acts : List Act) → SawNone (act ∷ acts) → SeesNone act.input
first_none act acts none place = nil_first (loss_of place act.input) (losses_of place acts) (none place)

pub others_none : (act : Act) (acts : List Act) → SawNone (act ∷ acts) → SawNone acts
others_none act acts none place = nil_second (loss_of place act.input) (losses_of place acts) (none place)

abbrev pub act_at : Config → ℕ → Act → PlacedAct
act_at config i act = record { input = input_at i act.input; turn = place_timed config act.turn }

module _ (config : Config) (i : ℕ) (within : i < length config) where
  -- the places that an input names are there
  pub inputs_there : (input : Given) → IsFromPeer (all_of (nodes_at config i)) input → is_there (length config) (machine_event i (input_at i input)) ≡ true
  inputs_there (Took p x) there =
      let low = peer_within config i within p there in
      let count = length-map config (λ start. start.name) in
      is_pair_so (length config) i (place_of_peer i p) within (omega (arith, low, count)) (own_place i p)
  inputs_there (Saw p last) there = lt-ltb i (length config) within
  inputs_there (Did action) there = lt-ltb i (length config) within

  -- what the step of the node makes of an input is what the machine's makes of it
  pub steps_alike : (s : Timed State) (input : Given) (turn : TimedTurn) → SeesNone input → act_step (all_of (nodes_at config i)) (ports_at config i) s input ≡ Ok turn
      → (frame_machine config).step i s (input_at i input) ≡ Some (place_timed config turn)
  steps_alike s (Took p x) turn none made =
      let peer = config_name config (place_of_peer i p) in
      let name : name_at (all_of (nodes_at config i)) (p + 1) ≡ peer = peer_name config i within p ∙ sym (named config i within (place_of_peer i p)) in
      same_step config (max s.clock x.stamp + 1) (node_takes (nodes_at config i) peer x.packet s.state)
      ∙ ap (timed_placed config) (ap (λ q. step_take (nodes_at config i) q x s) (sym name) ∙ made)
  steps_alike s (Saw p last) turn none made = saw_none p last none
  steps_alike s (Did action) turn none made =
      same_step config (s.clock + 1) (node_acts (nodes_at config i) (ports_at config i) action s.state) ∙ ap (timed_placed config) made

  -- one act after another
  pub leads_alike : (a : Standing) (acts : List Act) (b : Standing) → SawNone acts → AllLead (all_of (nodes_at config i)) (ports_at config i) a acts b
      → NodeLeads (frame_machine config) i a.state (map (act_at config i) acts) b.state
  leads_alike a [] b none lead = ap (λ (s : Standing). s.state) (sym lead)
  leads_alike a (act ∷ acts) b none (m, lead, rest) = (
    inputs_there act.input lead.there,
    steps_alike a.state act.input act.turn (first_none act acts none) lead.made,
    subst (λ s. NodeLeads (frame_machine config) i s (map (act_at config i) acts) b.state) lead.state (leads_alike m acts b (others_none act acts none) rest),
  )
