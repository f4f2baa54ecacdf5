-- Who has ended at a node is in no group there.
use Rattle.std.proofs.Common.{◌≡◌, ℕ, Bool, true, false, cond, List, [], ◌∷◌, Some, None, refl, sym, subst}
use Rattle.pg_term.specs.declared.pid.Pid.{Pid}
use Rattle.pg_term.specs.declared.term.Term.{Term}
use Rattle.pg_term.specs.Same.{same_pid, same_term}
use Rattle.pg_step.specs.PgGroup.declared.update.Update.{Update}
use Rattle.pg_step.specs.PgGroup.Functions.{upd}
use Rattle.pg_step.specs.PgGroup.Value.{Value, less, name_of, NoneEnded}
use Rattle.pg_step.specs.PgGroup.Table.{Table, applied, changed, exchanged, merged}
use Rattle.pg_step.proofs.PgGroup.Changes.{upd_by}
use Rattle.pg_step.proofs.PgGroup.Thinned.{kept as kept_applied, kept_exchanged}
use Rattle.pg_step.specs.PgExchange.GroupList.{GroupList, all_merged}
use Rattle.pg_step.specs.PgMessageTypes.declared.message.Message.{Message}
use Rattle.pg_step.specs.Machines.Machine.{Input, Turn, Event, Taken, Own, node_of, start_of}
use Rattle.pg_step.specs.Machines.Happened.{Happened}
use Rattle.pg_step.specs.Machines.Clocked.{plain}
use Rattle.pg_step.specs.Nodes.{Nodes}
use Rattle.pg_step.specs.State.{State, live_nodes}
use Rattle.pg_step.specs.Turns.{NodeTurn, Report}
use Rattle.pg_step.specs.Peers.{ended_in}
use Rattle.pg_step.specs.Step.{CLOCK_LIMIT, Action}
use Rattle.pg_step.specs.Config.{Config, name_at, nodes_at, ports_at}
use Rattle.pg_step.specs.FrameMachine.{node_step, machine_of, FrameWorld}
use Rattle.pg_step.proofs.Machines.Sequences.{kept}
use Rattle.pg_step.proofs.Machines.Plain.{plain_from_start}
use Rattle.pg_laws.specs.Reached.{TimedFrameWorld, Reaches}
use Rattle.pg_laws.proofs.steps.Single.{Any, AnyUpdate, OfSingle, acted_so, taken_so}
use Rattle.pg_laws.proofs.steps.Made.{took_so, did_so}
use Rattle.pg_laws.proofs.steps.Ways.{state_after}

-- ---- tables

-- no group of the table has a member that has ended
abbrev pub Living : Table → (Pid → Bool) → Type 0
Living table ended = (name : Term) → NoneEnded (table name) ended

pub changed_living : (table : Table) (ended : Pid → Bool) (u : Update) → Living table ended → Living (changed table u ended) ended
changed_living table ended u living name =
    upd_by same_term table (name_of u) (λ v. NoneEnded v ended) (applied (table (name_of u)) u ended) name
    (λ _. kept_applied ended (table (name_of u)) u (living (name_of u))) (λ _. living name)

merged_living : (table : Table) (ended : Pid → Bool) (groups : GroupList) → Living table ended → Living (all_merged table groups ended) ended
merged_living table ended [] living = living
merged_living table ended (group ∷ groups) living = merged_living (merged table group.0 group.1 ended) ended groups (λ name.
    upd_by same_term table group.0 (λ v. NoneEnded v ended) (exchanged (table group.0) group.1 ended) name
    (λ _. kept_exchanged ended (table group.0) group.1 (living group.0)) (λ _. living name))

-- one more has ended
less_living : (v : Value) (ended : Pid → Bool) (pid : Pid) → NoneEnded v ended → NoneEnded (less v (same_pid pid)) (upd same_pid ended pid true)
unfolding upd
less_living None ended pid living q e = refl
less_living (Some counts) ended pid living q e = go (same_pid pid q) e
  where
    go : (b : Bool) → cond b true (ended q) ≡ true → cond b 0 (counts q) ≡ 0
    go true gone = refl
    go false gone = living q gone

-- ---- turns

abbrev pub Lives : State → Type 0
Lives s = Living s.table s.ended

abbrev KeepsLiving : State → NodeTurn → Type 0
KeepsLiving s t = Lives s → Lives t.state

lives_singly : (m : Nodes) → OfSingle m Any AnyUpdate KeepsLiving KeepsLiving
lives_singly m = record {
  alone = λ s t keeps. keeps;
  before = λ s t next _ a b living. b (a living);
  behind = λ s t next _ a b living. b (a living);
  stays = λ s living. living;
  counted = λ port s living. living;
  lasts = λ op pid s new. new;
  answered = λ op response s _ living. living;
  opened = λ op u s _ _ living. living;
  made = λ op s _ living. living;
  attempted = λ lead op u s _ living. living;
  asked = λ who c op u lead st s _ living. living;
  given_up = λ c op u lead st s _ _ living. living;
  begun = λ c op u lead st s _ _. changed_living s.table s.ended u;
  finished = λ n op u c replied s _ _ living. living;
  heard = λ c op u lead st p status s _ _ living. living;
  confirmed = λ n op u c replied p s _ _ living. living;
  odd = λ what s living. living;
  requested = λ p reference name s living. living;
  updated = λ p reference u s. changed_living s.table s.ended u;
  freed = λ name reference s living. living;
}

end_lives : (pid : Pid) (s : State) → Lives s → Lives (ended_in pid s)
end_lives pid s living name = less_living (s.table name) s.ended pid (living name)

step_lives : (config : Config) (i : ℕ) (s : State) (input : Input Message Action) (turn : Turn State Message Report) → node_step config i s input ≡ Some turn → Lives s → Lives turn.state
step_lives config i s (Taken p x) turn is living =
    let m = live_nodes (nodes_at config i) s in
    let t = took_so config i s p x turn is in
    subst (λ u. Lives u.state) (sym t.2)
    (taken_so m Any AnyUpdate KeepsLiving KeepsLiving (lives_singly m) (name_at config p) x s t.0 (λ node groups _ _. merged_living s.table s.ended groups) (λ pid _. end_lives pid s) t.1 living)
step_lives config i s (Own action) turn is living =
    let m = live_nodes (nodes_at config i) s in
    let t = did_so config i s action turn is in
    subst (λ u. Lives u.state) (sym t.2) (acted_so m Any AnyUpdate KeepsLiving KeepsLiving (lives_singly m) (nodes_at config i) (λ pid u _ _ _. end_lives pid u) (ports_at config i) action s t.0 (λ port. tt) (λ port c u _ _. tt) t.1 living)

-- ---- runs

abbrev pub AllLive : FrameWorld → Type 0
AllLive w = (i : ℕ) → Lives (w.node i)

pub event_lives : (config : Config) (w v : FrameWorld) (e : Event Action) → Happened (machine_of config) w e v → AllLive w → AllLive v
event_lives config w v e h living j = state_after (machine_of config) w v e h Lives j
    (λ _. step_lives config (node_of e) (w.node (node_of e)) h.input h.turn h.made (living (node_of e))) (λ _. living j)

pub living_timed : (config : Config) (es : List (Event Action)) (w : TimedFrameWorld) → Reaches config es w → AllLive (plain w)
living_timed config es w l =
    kept (machine_of config) AllLive (event_lives config) es (start_of (machine_of config)) (plain w)
    (plain_from_start (machine_of config) CLOCK_LIMIT es w l) (λ i name pid e. absurd (cc))
