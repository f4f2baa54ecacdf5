-- Events of a world in which no node is lost: they can be made, and happen, in the world with losses that it is.
use Rattle.std.proofs.Common.{◌≡◌, ◌+◌, ◌++◌, ◌&&◌, ◌∙◌, ℕ, Bool, true, false, cond, nat_lt, []}
use Rattle.std.proofs.Common.{map, Option, Some, None, Ok, Err, refl, sym, ap}
use Rattle.pg_node_state.specs.PgStep.Machines.Machine.{Event, Take, Do, happens}
use Rattle.pg_node_state.specs.PgStep.Machines.Clocked.{Timed}
use Rattle.pg_node_state.specs.PgStep.Machines.Losing.{Step, losing_happens}
use Rattle.pg_node_state.proofs.PgStep.Machines.Options.{some_is}
use Rattle.pg_node_state.proofs.PgStep.Machines.Steps.{happened}
use Rattle.pg_node_state.specs.PgStep.Attempts.{retry}
use Rattle.pg_node_state.specs.PgStep.Commands.{command}
use Rattle.pg_node_state.specs.PgStep.Config.{Config, name_at, nodes_at, ports_at}
use Rattle.pg_node_state.specs.PgStep.FrameMachine.{frame_machine, losing_frame_machine, last_notice, sent_packet}
use Rattle.pg_node_state.specs.PgStep.Nodes.{Nodes}
use Rattle.pg_node_state.specs.PgStep.State.{State, live_nodes}
use Rattle.pg_node_state.specs.PgStep.Step.{Action, Issue, Retry, timed, step_act}
use Rattle.pg_node_state.specs.PgStep.StepLaws.{port_of, refusal_of}
use Rattle.pg_node_state.specs.PgStep.declared.refusal.Refusal.{Refusal}
use Rattle.pg_node_state.specs.PgStep.declared.refusal.Refusal.TheVariants.{NoSuchPlace, NodeLost}
use Rattle.pg_world_packets.specs.declared.step.FrameStep.{FrameStep}
use Rattle.pg_world_packets.specs.declared.step.FrameStep.TheVariants as steps
use Rattle.pg_world_packets.specs.Losing.{CanBeMade, first_refusal, losing_of, notices, own_refusal, take_refusal, told_of, told_own}
use Rattle.pg_world_packets.specs.Worlds.{TimedFrameWorld, event_of}
use Rattle.pg_world_packets.proofs.Barred.{own_unrefused, taken_sent, taken_unrefused}
use Rattle.pg_world_packets.proofs.Lossy.{lifted}

no_port : (m : Nodes) (ports : ℕ) (action : Action) (s : Timed State) → nat_lt (port_of action) ports ≡ false → step_act m ports action s ≡ Err NoSuchPlace
no_port m ports (Issue port c) s e = ap (λ b. timed (s.clock + 1) (cond b (Ok (command m (live_nodes m s.state) port c s.state)) (Err NoSuchPlace))) e
no_port m ports (Retry op) s e = ap (λ b. timed (s.clock + 1) (cond b (retry (live_nodes m s.state) op s.state) (Err NoSuchPlace))) e

-- what is done and not refused is done at a port that is there
has_port : (m : Nodes) (ports : ℕ) (action : Action) (s : Timed State) → refusal_of (step_act m ports action s) ≡ None → nat_lt (port_of action) ports ≡ true
has_port m ports action s none = go (nat_lt (port_of action) ports) refl
  where
    go : (b : Bool) → nat_lt (port_of action) ports ≡ b → b ≡ true
    go true is = refl
    go false is = let clash : ◌≡◌ {A = Option Refusal} None (Some NoSuchPlace) = sym none ∙ ap refusal_of (no_port m ports action s is) in absurd (cc)

module _ (config : Config) (w v : TimedFrameWorld) (unseen : (i p : ℕ) → (w.node i).state.lost (name_at config p) ≡ false) where
  own_can : (i : ℕ) (action : Action) → happens (frame_machine config) w (Do i action) ≡ Some v → CanBeMade (told_own config (losing_of config w []) i action)
  own_can i action happens_ =
      let h = happened (frame_machine config) w v (Do i action) happens_ in
      let none = own_unrefused config i action (w.node i) h.input h.turn (some_is h.given) h.made in
      let port = has_port (nodes_at config i) (ports_at config i) action (w.node i) none in
      let allowed : own_refusal config (losing_of config w []) i action ≡ refusal_of (step_act (nodes_at config i) (ports_at config i) action (w.node i)) =
      λ j. cond (h.there j && port j) (refusal_of (step_act (nodes_at config i) (ports_at config i) action (w.node i))) (Some NoSuchPlace) in
      record { allowed = allowed ∙ none; busy = refl }

  -- an event that happens can be made
  pub can_be_made : (step : FrameStep) (e : Event Action) → event_of step ≡ Some e → happens (frame_machine config) w e ≡ Some v → CanBeMade (told_of config (losing_of config w []) step)
  can_be_made (steps.Take i p) e is happens_ =
      let h = happened (frame_machine config) w v (Take i p) (ap (happens (frame_machine config) w) (some_is is) ∙ happens_) in
      let more = notices config w [] p i in
      let refusal : take_refusal config (losing_of config w []) i p ≡ first_refusal (nodes_at config i) (name_at config p) (w.node i) (map sent_packet (w.wire p i) ++ more) =
      λ j. cond (h.there j) (cond (unseen i p j) (Some NodeLost) (first_refusal (nodes_at config i) (name_at config p) (w.node i) (map sent_packet (w.wire p i) ++ more))) (Some NoSuchPlace) in
      record {
        allowed = refusal ∙ taken_unrefused config i p (w.node i) (w.wire p i) more h.input h.turn h.given h.made;
        busy = taken_sent p (w.wire p i) more h.input h.given;
      }
  can_be_made (steps.Command i port c) e is happens_ = own_can i (Issue port c) (ap (happens (frame_machine config) w) (some_is is) ∙ happens_)
  can_be_made (steps.Retry i op) e is happens_ = own_can i (Retry op) (ap (happens (frame_machine config) w) (some_is is) ∙ happens_)
  can_be_made (steps.SeeLoss i p) e is happens_ = absurd (cc)
  can_be_made (steps.Lose i keep) e is happens_ = absurd (cc)

  -- and happens
  pub happens_too : (e : Event Action) → happens (frame_machine config) w e ≡ Some v → losing_happens (losing_frame_machine config) last_notice (losing_of config w []) (Step e) ≡ Some (losing_of config v [])
  happens_too e happens_ = lifted config [] w v e (happened (frame_machine config) w v e happens_) refl
