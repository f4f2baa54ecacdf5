-- A packet that is taken: what was first on its way, and what its node made of it.
use Rattle.std.proofs.Common.{◌≡◌, ℕ, true, cond, [], ◌∷◌, ◌++◌, Some, Ok, refl, ap, sym, ◌∙◌}
use Rattle.pg_step.specs.PgMessageTypes.declared.message.Message.{Message}
use Rattle.pg_step.specs.Machines.Machine.{Taken, Take, Turn, first_from}
use Rattle.pg_step.specs.Machines.Happened.{Happened, Changes}
use Rattle.pg_step.specs.State.{State, formed}
use Rattle.pg_step.specs.Turns.{NodeTurn, Report}
use Rattle.pg_step.specs.Step.{Action, taken}
use Rattle.pg_step.specs.Config.{Config, name_at, nodes_at}
use Rattle.pg_step.specs.FrameMachine.{node_step, machine_of, place_turn, FrameWorld}
use Rattle.pg_step.proofs.Machines.Options.{some_is}
use Rattle.pg_step.proofs.Machines.Steps.{changes}
use Rattle.pg_laws.proofs.places.Shown.{IsHere}
use Rattle.pg_laws.proofs.steps.Lasting.{all_stay, event_lasts}
use Rattle.pg_laws.proofs.steps.Lossless.{NobodyLost, took_all}

module _ (config : Config) (v x : FrameWorld) (i p : ℕ) (happened : Happened (machine_of config) v (Take i p) x) (nobody : NobodyLost v) where
  abbrev all : Changes {C = Action} (Take i p) happened.turn v x
  all = changes (machine_of config) v x (Take i p) happened

  pub first : (packet : Message) × (v.wire p i ≡ packet ∷ x.wire p i)
  first = all.taken p i (refl, refl)

  pub made : node_step config i (v.node i) (Taken p first.0) ≡ Some happened.turn
  made = ap (node_step config i (v.node i)) (some_is (sym (ap (first_from p) first.1) ∙ happened.given)) ∙ happened.made

  pub turn : (t : NodeTurn) × (taken (nodes_at config i) (name_at config p) first.0 (v.node i) ≡ Ok t) × (happened.turn ≡ place_turn config t)
  turn = took_all config i (v.node i) (nobody i) p first.0 happened.turn made

  pub state_is : x.node i ≡ turn.0.state
  state_is = all.state ∙ ap (λ (t : Turn State Message Report). t.state) turn.2

  pub reported_is : x.reported ≡ v.reported ++ (i, turn.0.reported) ∷ []
  reported_is = all.reported ∙ ap (λ (t : Turn State Message Report). v.reported ++ (i, t.reported) ∷ []) turn.2

  pub sent_is : (q : ℕ) → IsHere config q → x.wire i q ≡ v.wire i q ++ turn.0.sends (name_at config q)
  sent_is q there = all.sent q ∙ ap (λ (t : Turn State Message Report). v.wire i q ++ t.sends q) turn.2 ∙ ap (λ b. v.wire i q ++ cond b (turn.0.sends (name_at config q)) []) there

  pub full_later : ((j : ℕ) → IsHere config j → formed (nodes_at config j) (v.node j) ≡ true) → (j : ℕ) → IsHere config j → formed (nodes_at config j) (x.node j) ≡ true
  full_later full j there = all_stay (v.node j).merged (x.node j).merged (nodes_at config j).peers ((event_lasts config v x (Take i p) happened j).merged) (full j there)
