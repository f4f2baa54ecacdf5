-- Where no loss was seen all nodes count, and no step sees one.
use Rattle.std.proofs.Common.{◌≡◌, ℕ, Bool, false, not, cond, List, [], ◌∷◌, Some, Err, refl, ap, ◌∙◌, subst}
use Rattle.std.specs.List.{filter}
use Rattle.pg_step.specs.PgMessageTypes.declared.message.Message.{Message}
use Rattle.pg_step.specs.Machines.Machine.{Input, Turn, Event, Taken, Own, node_of, start_of}
use Rattle.pg_step.specs.Machines.Happened.{Happened}
use Rattle.pg_step.specs.Nodes.{Node, Nodes}
use Rattle.pg_step.specs.State.{State, live_nodes}
use Rattle.pg_step.specs.Turns.{NodeTurn, Report}
use Rattle.pg_step.specs.Step.{CLOCK_LIMIT, Action, taken, acted, node_takes}
use Rattle.pg_step.specs.declared.refusal.Refusal.TheVariants.{NodeLost}
use Rattle.pg_step.specs.Config.{Config, name_at, nodes_at, ports_at}
use Rattle.pg_step.specs.FrameMachine.{place_turn, node_step, machine_of, FrameWorld}
use Rattle.pg_step.specs.Machines.Clocked.{plain}
use Rattle.pg_step.proofs.Machines.Sequences.{kept}
use Rattle.pg_step.proofs.Machines.Plain.{plain_from_start}
use Rattle.pg_laws.specs.Reached.{TimedFrameWorld, Reaches}
use Rattle.pg_laws.proofs.steps.Ways.{state_after}
use Rattle.pg_laws.proofs.steps.Single.{Any, AnyUpdate, OfSingle, Makes, acted_so, taken_so}
use Rattle.pg_laws.proofs.steps.Made.{took_so, did_so}

abbrev pub NoneLost : State → Type 0
NoneLost s = s.lost ≡ (λ q. false)

all_kept : (xs : List Node) → filter (λ q. not false) xs ≡ xs
all_kept [] = refl
all_kept (x ∷ xs) = ap (λ ys. x ∷ ys) (all_kept xs)

-- where no loss was seen, all count
pub live_all : (m : Nodes) (s : State) → NoneLost s → live_nodes m s ≡ m
live_all m s nobody = ap (λ (lost : Node → Bool). record { own = m.own; peers = filter (λ q. not (lost q)) m.peers }) nobody
    ∙ (λ k. record { own = m.own; peers = all_kept m.peers k })

pub takes_all : (m : Nodes) (p : Node) (x : Message) (s : State) → NoneLost s → node_takes m p x s ≡ taken m p x s
takes_all m p x s nobody = ap (λ (lost : Node → Bool). cond (lost p) (Err NodeLost) (taken (live_nodes m s) p x s)) nobody ∙ ap (λ z. taken z p x s) (live_all m s nobody)

module _ (config : Config) (i : ℕ) (s : State) (nobody : NoneLost s) where
  pub took_all : (p : ℕ) (x : Message) (turn : Turn State Message Report) → node_step config i s (Taken p x) ≡ Some turn
      → (t : NodeTurn) × Makes (taken (nodes_at config i) (name_at config p) x s) t × (turn ≡ place_turn config t)
  took_all p x turn is =
      let t = took_so config i s p x turn is in
      (t.0, subst (λ z. Makes (taken z (name_at config p) x s) t.0) (live_all (nodes_at config i) s nobody) t.1, t.2)

  pub did_all : (action : Action) (turn : Turn State Message Report) → node_step config i s (Own action) ≡ Some turn
      → (t : NodeTurn) × Makes (acted (nodes_at config i) (nodes_at config i) (ports_at config i) action s) t × (turn ≡ place_turn config t)
  did_all action turn is =
      let t = did_so config i s action turn is in
      (t.0, subst (λ z. Makes (acted (nodes_at config i) z (ports_at config i) action s) t.0) (live_all (nodes_at config i) s nobody) t.1, t.2)

-- ---- no step sees a loss

abbrev SeesNone : State → NodeTurn → Type 0
SeesNone s t = t.state.lost ≡ s.lost

sees_none : (m : Nodes) → OfSingle m Any AnyUpdate SeesNone SeesNone
sees_none m = record {
  alone = λ s t same. same;
  before = λ s t next _ a b. b ∙ a;
  behind = λ s t next _ a b. b ∙ a;
  stays = λ s. refl;
  counted = λ port s. refl;
  lasts = λ op pid s new. new;
  answered = λ op response s _. refl;
  opened = λ op u s _ _. refl;
  made = λ op s _. refl;
  attempted = λ lead op u s _. refl;
  asked = λ who c op u lead st s _. refl;
  given_up = λ c op u lead st s _ _. refl;
  begun = λ c op u lead st s _ _. refl;
  finished = λ n op u c replied s _ _. refl;
  heard = λ c op u lead st p status s _ _. refl;
  confirmed = λ n op u c replied p s _ _. refl;
  odd = λ what s. refl;
  requested = λ p reference name s. refl;
  updated = λ p reference u s. refl;
  freed = λ name reference s. refl;
}

pub step_sees_none : (config : Config) (i : ℕ) (s : State) (input : Input Message Action) (turn : Turn State Message Report) → node_step config i s input ≡ Some turn → turn.state.lost ≡ s.lost
step_sees_none config i s (Taken p x) turn is =
    let m = live_nodes (nodes_at config i) s in
    let t = took_so config i s p x turn is in
    ap (λ (u : Turn State Message Report). u.state.lost) t.2
    ∙ taken_so m Any AnyUpdate SeesNone SeesNone (sees_none m) (name_at config p) x s t.0 (λ node groups _ _. refl) (λ pid _. refl) t.1
step_sees_none config i s (Own action) turn is =
    let m = live_nodes (nodes_at config i) s in
    let t = did_so config i s action turn is in
    ap (λ (u : Turn State Message Report). u.state.lost) t.2
    ∙ acted_so m Any AnyUpdate SeesNone SeesNone (sees_none m) (nodes_at config i) (λ pid u _ _ _. refl) (ports_at config i) action s t.0 (λ port. tt) (λ port c u _ _. tt) t.1

abbrev pub NobodyLost : FrameWorld → Type 0
NobodyLost w = (i : ℕ) → NoneLost (w.node i)

pub event_nobody : (config : Config) (w v : FrameWorld) (e : Event Action) → Happened (machine_of config) w e v → NobodyLost w → NobodyLost v
event_nobody config w v e h nobody j = state_after (machine_of config) w v e h NoneLost j
    (λ own. step_sees_none config (node_of e) (w.node (node_of e)) h.input h.turn h.made ∙ nobody (node_of e)) (λ _. nobody j)

pub nobody_timed : (config : Config) (es : List (Event Action)) (w : TimedFrameWorld) → Reaches config es w → NobodyLost (plain w)
nobody_timed config es w l =
    kept (machine_of config) NobodyLost (event_nobody config) es (start_of (machine_of config)) (plain w) (plain_from_start (machine_of config) CLOCK_LIMIT es w l) (λ i. refl)
