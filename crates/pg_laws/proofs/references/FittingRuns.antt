-- The references, commands and counts of each node belong together in each run.
use Rattle.std.proofs.Common.{◌≡◌, ℕ, ◌+◌, nat_eq, List, refl, sym, subst, arith, Some}
use Rattle.std.proofs.lemmas.Bool.{eq-eqb}
use Rattle.pg_step.specs.PgGroup.Functions.{upd}
use Rattle.pg_step.proofs.PgGroup.Changes.{upd_at}
use Rattle.pg_step.specs.PgMessageTypes.declared.message.Message.{Message}
use Rattle.pg_step.specs.Machines.Machine.{Input, Turn, Event, Taken, Own, node_of, start_of}
use Rattle.pg_step.specs.Machines.Happened.{Happened}
use Rattle.pg_step.specs.Machines.Clocked.{plain}
use Rattle.pg_step.specs.Nodes.{Nodes}
use Rattle.pg_step.specs.State.{State, live_nodes}
use Rattle.pg_step.specs.Turns.{Report}
use Rattle.pg_step.specs.Step.{CLOCK_LIMIT, Action}
use Rattle.pg_step.specs.Commands.{next_op, count_command}
use Rattle.pg_step.specs.Config.{Config, name_at, nodes_at, ports_at}
use Rattle.pg_step.specs.FrameMachine.{node_step, machine_of, FrameWorld}
use Rattle.pg_step.proofs.Machines.Sequences.{kept}
use Rattle.pg_step.proofs.Machines.Plain.{plain_from_start}
use Rattle.pg_laws.specs.Reached.{TimedFrameWorld, Reaches}
use Rattle.pg_laws.specs.ReferencesFit.{ReferencesFit}
use Rattle.pg_laws.proofs.steps.Single.{AnyUpdate, OfSingle, acted_so, taken_so}
use Rattle.pg_laws.proofs.steps.Made.{took_so, did_so}
use Rattle.pg_laws.proofs.steps.Ways.{state_after}
use Rattle.pg_laws.proofs.references.Fitting.{same_fitting, Keeps, NewOp, counted_keeps, opened_keeps}
use Rattle.pg_laws.proofs.references.FittingTurns.{attempted_keeps, relock, given_up_keeps}
use Rattle.pg_laws.proofs.references.FittingTurns.{confirmed_keeps, finished_keeps, begun_keeps}

pub fitting_singly : (m : Nodes) → OfSingle m NewOp AnyUpdate Keeps Keeps
fitting_singly m = record {
  alone = λ s t keeps. keeps;
  before = λ s t next _ a b fitting. b (a fitting);
  behind = λ s t next _ a b fitting. b (a fitting);
  stays = λ s fitting. fitting;
  counted = counted_keeps;
  lasts = λ op pid s new. new;
  answered = λ op response s _. same_fitting s _ refl refl refl refl;
  opened = λ op u s new _. opened_keeps op u s new;
  made = λ op s _. same_fitting s _ refl refl refl refl;
  attempted = λ lead op u s waits fitting. attempted_keeps s fitting lead op u waits;
  asked = λ who c op u lead st s is fitting. relock s fitting _ c op u lead st _ is refl refl refl refl;
  given_up = λ c op u lead st s is _ fitting. given_up_keeps s fitting m c op u lead st is;
  begun = λ c op u lead st s is _ fitting. begun_keeps s fitting m c op u lead st is;
  finished = λ n op u c replied s is _ fitting. finished_keeps s fitting m n op u c replied is;
  heard = λ c op u lead st p status s is _ fitting. relock s fitting _ c op u lead st _ is refl refl refl refl;
  confirmed = λ n op u c replied p s is _ fitting. confirmed_keeps s fitting _ n op u c replied _ is refl refl refl refl;
  odd = λ what s fitting. fitting;
  requested = λ p reference name s. same_fitting s _ refl refl refl refl;
  updated = λ p reference u s. same_fitting s _ refl refl refl refl;
  freed = λ name reference s. same_fitting s _ refl refl refl refl;
}

pub new_op : (s : State) → ReferencesFit s → (port : ℕ) → NewOp (next_op port s) ((count_command port s).state)
new_op s fitting port =
    let counted : upd nat_eq s.counts port (s.counts port + 1) port ≡ s.counts port + 1 = upd_at nat_eq s.counts port (s.counts port + 1) (eq-eqb port port refl) in
    (fitting.closed (next_op port s) (omega arith), omega arith)

step_fitting : (config : Config) (i : ℕ) (s : State) (input : Input Message Action) (turn : Turn State Message Report) → node_step config i s input ≡ Some turn → ReferencesFit s → ReferencesFit turn.state
step_fitting config i s (Taken p x) turn is fitting =
    let m = live_nodes (nodes_at config i) s in
    let t = took_so config i s p x turn is in
    subst (λ u. ReferencesFit u.state) (sym t.2)
    (taken_so m NewOp AnyUpdate Keeps Keeps (fitting_singly m) (name_at config p) x s t.0
    (λ node groups _ _. same_fitting s _ refl refl refl refl) (λ pid _. same_fitting s _ refl refl refl refl) t.1 fitting)
step_fitting config i s (Own action) turn is fitting =
    let m = live_nodes (nodes_at config i) s in
    let t = did_so config i s action turn is in
    subst (λ u. ReferencesFit u.state) (sym t.2)
    (acted_so m NewOp AnyUpdate Keeps Keeps (fitting_singly m) (nodes_at config i) (λ pid u _ _ _. same_fitting u _ refl refl refl refl) (ports_at config i) action s t.0 (new_op s fitting) (λ port c u _ _. tt) t.1 fitting)

-- ---- runs

abbrev AllSound : FrameWorld → Type 0
AllSound w = (i : ℕ) → ReferencesFit (w.node i)

event_fitting : (config : Config) (w v : FrameWorld) (e : Event Action) → Happened (machine_of config) w e v → AllSound w → AllSound v
event_fitting config w v e h fitting j = state_after (machine_of config) w v e h ReferencesFit j
    (λ _. step_fitting config (node_of e) (w.node (node_of e)) h.input h.turn h.made (fitting (node_of e))) (λ _. fitting j)

pub fitting_timed : (config : Config) (es : List (Event Action)) (w : TimedFrameWorld) → Reaches config es w → AllSound (plain w)
fitting_timed config es w l =
    kept (machine_of config) AllSound (event_fitting config) es (start_of (machine_of config)) (plain w)
    (plain_from_start (machine_of config) CLOCK_LIMIT es w l) (λ i. record { fresh = λ c above. refl; fits = λ c. tt; closed = λ op below. refl })
