-- The acts of a node of a configuration, also those that saw a loss, are turns of the configuration's machine with losses.
use Rattle.std.proofs.Common.{◌≡◌, ◌<◌, ◌+◌, ◌∙◌, ℕ, Bool, true, false, cond, max, nat_le, length, map}
use Rattle.std.proofs.Common.{List, [], ◌∷◌, Option, Some, None, Ok, Err, refl, sym, ap, subst, arith}
use Rattle.std.specs.Prelude.{option_map}
use Rattle.std.proofs.Math.Path.{fun_ext}
use Rattle.std.proofs.lemmas.List.{length-map}
use Rattle.pg_world.specs.PgMessageTypes.declared.message.Message.{Message}
use Rattle.pg_world.specs.PgStep.Machines.Clocked.{Timed, Stamped, stamped, timed as machine_timed, timed_turn}
use Rattle.pg_world.specs.PgStep.Machines.Losing.{Noticed, Sent, Last, mapped_turn}
use Rattle.pg_world.specs.PgStep.Machines.Machine.{Input, Turn, Taken, Own, is_there}
use Rattle.pg_cluster_judges.specs.Logs.{LoggedAct as MachineAct, NodeLeads, event_of as machine_event}
use Rattle.pg_world.specs.PgNodeOpens.Places.{name_at}
use Rattle.pg_node_run.specs.Acts.{Act, Given, Took, Saw, Did, IsFromPeer, Standing, AllLead, act_step}
use Rattle.pg_world.specs.PgStep.Config.{Config, name_at as config_name, nodes_at, ports_at}
use Rattle.pg_world.specs.PgStep.FrameMachine.{losing_frame_machine, placed, place_turn, sent_packet}
use Rattle.pg_world.specs.PgStep.Losses.{see_loss}
use Rattle.pg_world.specs.PgStep.Nodes.{Node, all_of}
use Rattle.pg_world.specs.PgStep.State.{State}
use Rattle.pg_world.specs.PgStep.Step.{Action, TimedTurn, CLOCK_LIMIT, timed}
use Rattle.pg_world.specs.PgStep.StepLaws.{place_timed, timed_placed}
use Rattle.pg_world.specs.PgStep.Turns.{NodeTurn, Report}
use Rattle.pg_world.specs.PgStep.declared.refusal.Refusal.TheVariants.{NodeLost}
use Rattle.pg_world.proofs.PgStep.Refusals.{same_step}
use Rattle.pg_world.proofs.PgStep.Unnoticed.{frames_embed}
use Rattle.pg_cluster_judges.proofs.Turns.{inputs_there, steps_alike}
use Rattle.pg_world.specs.PgWorldPackets.Views.{place_of_peer}
use Rattle.pg_world.proofs.PgWorldPackets.Peering.{named, own_place, peer_name, peer_within}
use Rattle.pg_world.proofs.PgWorldPackets.Turning.{is_pair_so}

-- the last notice of a node whose clock was this
abbrev pub notice_at : ℕ → Stamped (Noticed Message)
notice_at last = record { stamp = last; packet = Last }

-- an act as the machine with losses knows it
abbrev pub LosingAct : Type 0
LosingAct = MachineAct (Timed State) (Stamped (Noticed Message)) Action Report

-- what node i was given, where a peer is named by its place among all nodes; a loss is seen by taking the last notice
abbrev pub losing_input : ℕ → Given → Input (Stamped (Noticed Message)) Action
losing_input i (Took p x) = Taken (place_of_peer i p) (sent_packet x)
losing_input i (Saw p last) = Taken (place_of_peer i p) (notice_at last)
losing_input i (Did action) = Own action

abbrev pub losing_turn : Config → TimedTurn → Turn (Timed State) (Stamped (Noticed Message)) Report
losing_turn config turn = mapped_turn sent_packet (place_timed config turn)

abbrev pub losing_act : Config → ℕ → Act → LosingAct
losing_act config i act = record { input = losing_input i act.input; turn = losing_turn config act.turn }

-- ---- a step

pub sent_stamped : (clock : ℕ) (xs : List Message) → ◌≡◌ {A = List (Stamped (Noticed Message))} (stamped clock (map Sent xs)) (map sent_packet (stamped clock xs))
sent_stamped clock [] = refl
sent_stamped clock (x ∷ xs) = ap (λ (ys : List (Stamped (Noticed Message))). record { stamp = clock; packet = Sent x } ∷ ys) (sent_stamped clock xs)

timed_sent : (clock : ℕ) (r : Option (Turn State Message Report))
    → machine_timed CLOCK_LIMIT clock (option_map (mapped_turn {Q = Noticed Message} Sent) r) ≡ option_map (mapped_turn sent_packet) (machine_timed CLOCK_LIMIT clock r)
timed_sent clock None = refl
timed_sent clock (Some t) = go (nat_le clock CLOCK_LIMIT)
  where
    go : (b : Bool) → cond b (Some (timed_turn clock (mapped_turn {Q = Noticed Message} Sent t))) None ≡ option_map (mapped_turn sent_packet) (cond b (Some (timed_turn clock t)) None)
    go true = λ i. Some (record { state = record { clock = clock; state = t.state }; sends = (fun_ext (λ q. sent_stamped clock (t.sends q))) i; reported = t.reported })
    go false = refl

-- what is told of a loss is what the machine makes of it
loss_placed : (config : Config) (b : Bool) (t : NodeTurn) → cond b None (Some (place_turn config t)) ≡ placed config (cond b (Err NodeLost) (Ok t))
loss_placed config true t = refl
loss_placed config false t = refl

module _ (config : Config) (i : ℕ) (within : i < length config) where
  losing_there : (input : Given) → IsFromPeer (all_of (nodes_at config i)) input → is_there (length config) (machine_event i (losing_input i input)) ≡ true
  losing_there (Took p x) there = inputs_there config i within (Took p x) there
  losing_there (Saw p last) there =
      let low = peer_within config i within p there in
      let count = length-map config (λ start. start.name) in
      is_pair_so (length config) i (place_of_peer i p) within (omega (arith, low, count)) (own_place i p)
  losing_there (Did action) there = inputs_there config i within (Did action) there

  pub losing_steps : (s : Timed State) (input : Given) (turn : TimedTurn) → act_step (all_of (nodes_at config i)) (ports_at config i) s input ≡ Ok turn
      → (losing_frame_machine config).step i s (losing_input i input) ≡ Some (losing_turn config turn)
  losing_steps s (Took p x) turn made =
      (frames_embed config).taken i (place_of_peer i p) s x ∙ ap (option_map (mapped_turn sent_packet)) (steps_alike config i within s (Took p x) turn (λ place. refl) made)
  losing_steps s (Did action) turn made =
      (frames_embed config).own i s action ∙ ap (option_map (mapped_turn sent_packet)) (steps_alike config i within s (Did action) turn (λ place. refl) made)
  losing_steps s (Saw p last) turn made =
      let peer = config_name config (place_of_peer i p) in
      let clock = max s.clock last + 1 in
      let name : name_at (all_of (nodes_at config i)) (p + 1) ≡ peer = peer_name config i within p ∙ sym (named config i within (place_of_peer i p)) in
      let told : timed clock (cond (s.state.lost peer) (Err NodeLost) (Ok (see_loss peer s.state))) ≡ Ok turn =
      ap (λ (q : Node). timed clock (cond (s.state.lost q) (Err NodeLost) (Ok (see_loss q s.state)))) (sym name) ∙ made in
      ap (λ (r : Option (Turn State Message Report)). machine_timed CLOCK_LIMIT clock (option_map (mapped_turn {Q = Noticed Message} Sent) r)) (loss_placed config (s.state.lost peer) (see_loss peer s.state))
      ∙ (timed_sent clock (placed config (cond (s.state.lost peer) (Err NodeLost) (Ok (see_loss peer s.state))))
      ∙ ap (option_map (mapped_turn sent_packet)) (same_step config clock (cond (s.state.lost peer) (Err NodeLost) (Ok (see_loss peer s.state))) ∙ ap (timed_placed config) told))

  -- one act after another
  pub losing_leads : (a : Standing) (acts : List Act) (b : Standing) → AllLead (all_of (nodes_at config i)) (ports_at config i) a acts b
      → NodeLeads (losing_frame_machine config) i a.state (map (losing_act config i) acts) b.state
  losing_leads a [] b lead = ap (λ (s : Standing). s.state) (sym lead)
  losing_leads a (act ∷ acts) b (m, lead, rest) = (
    losing_there act.input lead.there,
    losing_steps a.state act.input act.turn lead.made,
    subst (λ s. NodeLeads (losing_frame_machine config) i s (map (losing_act config i) acts) b.state) lead.state (losing_leads m acts b rest),
  )
