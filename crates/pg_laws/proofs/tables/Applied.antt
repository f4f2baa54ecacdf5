-- What a turn makes of the table: it applies the update that it reports, ends a process, or merges the groups of a peer.
use Rattle.std.proofs.Common.{◌≡◌, ℕ, Bool, true, false, cond, Option, Some, None, Ok, Err, refl, ap, sym, ◌∙◌}
use Rattle.pg_term.specs.declared.pid.Pid.{Pid}
use Rattle.pg_term.specs.Same.{same_pid}
use Rattle.pg_step.specs.PgGroup.declared.update.Update.{Update}
use Rattle.pg_step.specs.PgGroup.Functions.{upd}
use Rattle.pg_step.specs.PgGroup.Table.{Table, without}
use Rattle.pg_step.specs.PgExchange.GroupList.{GroupList}
use Rattle.pg_step.specs.PgMessageTypes.declared.message.Message.{Message}
use Rattle.pg_step.specs.PgMessageTypes.declared.message.Message.TheVariants.{Call, Reply, DelLock, Exchange, Down}
use Rattle.pg_step.specs.Machines.Machine.{Input, Turn, Taken, Own}
use Rattle.pg_step.specs.Nodes.{Node, Nodes}
use Rattle.pg_step.specs.State.{State, live_nodes}
use Rattle.pg_step.specs.Turns.{NodeTurn, Report, first_of, and_then}
use Rattle.pg_step.specs.Peers.{is_bad_exchange, exchange}
use Rattle.pg_step.specs.Step.{Action, taken}
use Rattle.pg_step.specs.declared.refusal.Refusal.TheVariants.{NotAMessage}
use Rattle.pg_step.specs.Config.{Config, name_at, nodes_at, ports_at}
use Rattle.pg_step.specs.FrameMachine.{place_turn, node_step}
use Rattle.pg_laws.specs.Lasting.{with_applied}
use Rattle.pg_laws.proofs.steps.Single.{Any, AnyUpdate, OfSingle, Makes, ok_is, acted_so, taken_so}
use Rattle.pg_laws.proofs.steps.Made.{took_so, did_so}

-- a turn that leaves table, ends and peers alone
pub record Elsewhere (s : State) (t : NodeTurn) : Type 0 where
  pub table : t.state.table ≡ s.table
  pub ended : t.state.ended ≡ s.ended
  pub merged : t.state.merged ≡ s.merged
  pub none : t.reported.applied ≡ None

pub data Tables (s : State) (t : NodeTurn) : Type 0 where
  Applying : t.state.table ≡ with_applied s.table t.reported.applied s.ended → t.state.ended ≡ s.ended → t.state.merged ≡ s.merged → Tables s t
  EndingOne : (pid : Pid) → t.state.table ≡ without s.table pid → t.state.ended ≡ upd same_pid s.ended pid true → t.state.merged ≡ s.merged
      → t.reported.applied ≡ None → Tables s t

alone : (s : State) (t : NodeTurn) → Elsewhere s t → Tables s t
alone s t e = Applying (e.table ∙ ap (λ o. with_applied s.table o s.ended) (sym e.none)) e.ended e.merged

no_later : (o later : Option Update) → later ≡ None → first_of o later ≡ o
no_later None later none = none
no_later (Some u) later none = refl

elsewhere_then : (s : State) (t : NodeTurn) (next : State → NodeTurn) → Elsewhere s t → Tables t.state (next t.state) → Tables s (and_then t next)
elsewhere_then s t next e (Applying table ended merged) =
    let same : first_of t.reported.applied (next t.state).reported.applied ≡ (next t.state).reported.applied = ap (λ o. first_of o (next t.state).reported.applied) e.none in
    Applying
    (table ∙ ap (λ (f : Table). with_applied f (next t.state).reported.applied t.state.ended) e.table ∙ ap (with_applied s.table (next t.state).reported.applied) e.ended
    ∙ ap (λ o. with_applied s.table o s.ended) (sym same))
    (ended ∙ e.ended) (merged ∙ e.merged)
elsewhere_then s t next e (EndingOne pid table ended merged none) =
    EndingOne pid (table ∙ ap (λ (f : Table). without f pid) e.table) (ended ∙ ap (λ (f : Pid → Bool). upd same_pid f pid true) e.ended) (merged ∙ e.merged)
    (ap (λ o. first_of o (next t.state).reported.applied) e.none ∙ none)

then_elsewhere : (s : State) (t : NodeTurn) (next : State → NodeTurn) → Tables s t → Elsewhere t.state (next t.state) → Tables s (and_then t next)
then_elsewhere s t next (Applying table ended merged) e =
    Applying (e.table ∙ table ∙ ap (λ o. with_applied s.table o s.ended) (sym (no_later t.reported.applied (next t.state).reported.applied e.none))) (e.ended ∙ ended) (e.merged ∙ merged)
then_elsewhere s t next (EndingOne pid table ended merged none) e =
    EndingOne pid (e.table ∙ table) (e.ended ∙ ended) (e.merged ∙ merged) (no_later t.reported.applied (next t.state).reported.applied e.none ∙ none)

leaves : (s : State) (t : NodeTurn) → t.state.table ≡ s.table → t.state.ended ≡ s.ended → t.state.merged ≡ s.merged → t.reported.applied ≡ None → Elsewhere s t
leaves s t table ended merged none = record { table = table; ended = ended; merged = merged; none = none }

pub tables_singly : (m : Nodes) → OfSingle m Any AnyUpdate Elsewhere Tables
tables_singly m = record {
  alone = alone;
  before = λ s t next _. elsewhere_then s t next;
  behind = λ s t next _. then_elsewhere s t next;
  stays = λ s. leaves s _ refl refl refl refl;
  counted = λ port s. leaves s _ refl refl refl refl;
  lasts = λ op pid s new. new;
  answered = λ op response s _. leaves s _ refl refl refl refl;
  opened = λ op u s _ _. leaves s _ refl refl refl refl;
  made = λ op s _. leaves s _ refl refl refl refl;
  attempted = λ lead op u s _. leaves s _ refl refl refl refl;
  asked = λ who c op u lead st s _. leaves s _ refl refl refl refl;
  given_up = λ c op u lead st s _ _. leaves s _ refl refl refl refl;
  begun = λ c op u lead st s _ _. Applying refl refl refl;
  finished = λ n op u c replied s _ _. leaves s _ refl refl refl refl;
  heard = λ c op u lead st p status s _ _. leaves s _ refl refl refl refl;
  confirmed = λ n op u c replied p s _ _. leaves s _ refl refl refl refl;
  odd = λ what s. leaves s _ refl refl refl refl;
  requested = λ p reference name s. leaves s _ refl refl refl refl;
  updated = λ p reference u s. Applying refl refl refl;
  freed = λ name reference s. leaves s _ refl refl refl refl;
}

-- ---- a step

pub data StepTables (config : Config) (s : State) (input : Input Message Action) (t : NodeTurn) : Type 0 where
  Tabling : Tables s t → StepTables config s input t
  Merges : (p : ℕ) (node : Node) (groups : GroupList) → input ≡ Taken p (Exchange node groups) → is_bad_exchange (name_at config p) node s ≡ false
      → t ≡ exchange (name_at config p) groups s → StepTables config s input t

module _ (config : Config) (i : ℕ) (s : State) where
  packet_tables : (p : ℕ) (x : Message) (t : NodeTurn) → ((node : Node) (groups : GroupList) → x ≡ Exchange node groups → ⊥) → Makes (taken (live_nodes (nodes_at config i) s) (name_at config p) x s) t → Tables s t
  packet_tables p x t other is =
      taken_so (live_nodes (nodes_at config i) s) Any AnyUpdate Elsewhere Tables (tables_singly (live_nodes (nodes_at config i) s)) (name_at config p) x s t
      (λ node groups same _. absurd (other node groups same)) (λ pid _. EndingOne pid refl refl refl refl) is

  taken_tables : (p : ℕ) (x : Message) (t : NodeTurn) → Makes (taken (live_nodes (nodes_at config i) s) (name_at config p) x s) t → StepTables config s (Taken p x) t
  taken_tables p (Call reference request) t is = Tabling (packet_tables p (Call reference request) t (λ node groups e. absurd (cc)) is)
  taken_tables p (Reply reference said) t is = Tabling (packet_tables p (Reply reference said) t (λ node groups e. absurd (cc)) is)
  taken_tables p (DelLock name reference) t is = Tabling (packet_tables p (DelLock name reference) t (λ node groups e. absurd (cc)) is)
  taken_tables p (Down pid) t is = Tabling (packet_tables p (Down pid) t (λ node groups e. absurd (cc)) is)
  taken_tables p (Exchange node groups) t is = go (is_bad_exchange (name_at config p) node s) refl is
    where
      go : (b : Bool) → is_bad_exchange (name_at config p) node s ≡ b → Makes (cond b (Err NotAMessage) (Ok (exchange (name_at config p) groups s))) t
          → StepTables config s (Taken p (Exchange node groups)) t
      go true _ e = absurd (cc)
      go false good e = Merges p node groups refl good (sym (ok_is e))

  pub step_tables : (input : Input Message Action) (turn : Turn State Message Report) → node_step config i s input ≡ Some turn
      → (t : NodeTurn) × (turn ≡ place_turn config t) × StepTables config s input t
  step_tables (Taken p x) turn is =
      let t = took_so config i s p x turn is in
      (t.0, t.2, taken_tables p x t.0 t.1)
  step_tables (Own action) turn is =
      let m = live_nodes (nodes_at config i) s in
      let t = did_so config i s action turn is in
      (t.0, t.2, Tabling (acted_so m Any AnyUpdate Elsewhere Tables (tables_singly m) (nodes_at config i) (λ pid u _ _ _. EndingOne pid refl refl refl refl) (ports_at config i) action s t.0 (λ port. tt) (λ port c u _ _. tt) t.1))
