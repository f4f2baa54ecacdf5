-- An update that a command waits with, asks a lock for or begins is one that was asked for as the command came in.
use Rattle.std.proofs.Common.{◌≡◌, ℕ, ◌+◌, nat_eq, true, Option, Some, None, refl, ap, sym, ◌∙◌, subst}
use Rattle.pg_term.specs.Same.{same_atom}
use Rattle.pg_step.specs.PgGroup.declared.update.Update.{Update}
use Rattle.pg_step.specs.PgGroup.Functions.{upd}
use Rattle.pg_step.specs.PgGroup.Value.{name_of}
use Rattle.pg_step.proofs.PgGroup.Changes.{upd_by}
use Rattle.pg_step.specs.PgMessageTypes.declared.message.Message.{Message}
use Rattle.pg_step.specs.PgMessageTypes.declared.message.Message.TheVariants.{Down}
use Rattle.pg_step.specs.declared.command.Command.{Command}
use Rattle.pg_step.specs.declared.command.OpId.{OpId}
use Rattle.pg_step.specs.Machines.Machine.{Input, Turn, Taken, Own}
use Rattle.pg_step.specs.Nodes.{Node, Nodes, to_peers}
use Rattle.pg_step.specs.State.{State, Status, Use, Stage, live_nodes}
use Rattle.pg_step.specs.State.Status.{Unasked}
use Rattle.pg_step.specs.State.Use.{Locking, Owning, Updating, Spent}
use Rattle.pg_step.specs.State.Stage.{Closed, Waiting, Asking, Changing}
use Rattle.pg_step.specs.Turns.{NodeTurn, Report, becomes_and_sends, and_then, first_of}
use Rattle.pg_step.specs.Peers.{would_grant, exchange, process_end, ended_in}
use Rattle.pg_step.specs.Attempts.{same_op, with_asked, ask, count_answer}
use Rattle.pg_step.specs.Commands.{next_op, change_of}
use Rattle.pg_step.specs.Step.{Action, Issue}
use Rattle.pg_step.specs.Config.{Config, name_at, nodes_at, ports_at}
use Rattle.pg_step.specs.FrameMachine.{node_step}
use Rattle.pg_step.proofs.Machines.Options.{some_is}
use Rattle.pg_laws.proofs.steps.Single.{Any, OfSingle, acted_so, taken_so}
use Rattle.pg_laws.proofs.steps.Made.{took_so, did_so}
use Rattle.pg_laws.proofs.references.Fitting.{op_is}

module _ (Asks : OpId → Update → Type 0) where
  -- the updates of the commands that are open
  pub record HasAsked (s : State) : Type 0 where
    pub waits : (op : OpId) (u : Update) → s.stages op ≡ Waiting u → Asks op u
    pub locks : (c : ℕ) (op : OpId) (u : Update) (lead : Node) (st : Node → Status) → s.uses c ≡ Locking op u lead st → Asks op u

  abbrev pub Begins : Report → Type 0
  Begins reported = (op : OpId) (u : Update) → reported.began ≡ Some (op, u) → Asks op u

  abbrev pub KeepsAsked : State → NodeTurn → Type 0
  KeepsAsked s t = HasAsked s → HasAsked t.state × Begins t.reported

  stage_put : (stages : OpId → Stage) (op : OpId) (new : Stage) → ((v : Update) → new ≡ Waiting v → Asks op v) → ((other : OpId) (v : Update) → stages other ≡ Waiting v → Asks other v)
      → (other : OpId) (v : Update) → upd same_op stages op new other ≡ Waiting v → Asks other v
  stage_put stages op new own all other v = upd_by same_op stages op (λ x. x ≡ Waiting v → Asks other v) new other (λ same e. subst (λ z. Asks z v) (op_is op other same) (own v e)) (λ _ e. all other v e)

  use_put : (uses : ℕ → Use) (c : ℕ) (new : Use) → ((op : OpId) (u : Update) (lead : Node) (st : Node → Status) → new ≡ Locking op u lead st → Asks op u)
      → ((d : ℕ) (op : OpId) (u : Update) (lead : Node) (st : Node → Status) → uses d ≡ Locking op u lead st → Asks op u)
      → (d : ℕ) (op : OpId) (u : Update) (lead : Node) (st : Node → Status) → upd nat_eq uses c new d ≡ Locking op u lead st → Asks op u
  use_put uses c new own all d op u lead st = upd_by nat_eq uses c (λ x. x ≡ Locking op u lead st → Asks op u) new d (λ _ e. own op u lead st e) (λ _ e. all d op u lead st e)

  waiting_so : {u v : Update} {op : OpId} → Asks op u → Waiting u ≡ Waiting v → Asks op v
  waiting_so {u} {v} {op} asks e = let same : u ≡ v = cc in subst (Asks op) same asks

  locking_so : {u v : Update} {op other : OpId} {lead lead' : Node} {st later : Node → Status} → Asks op u → Locking op u lead st ≡ Locking other v lead' later → Asks other v
  locking_so {u} {v} {op} {other} asks e =
      let same : u ≡ v = cc in
      let one : op ≡ other = cc in
      subst (λ z. Asks z v) one (subst (Asks op) same asks)

  begun_so : {u v : Update} {op other : OpId} → Asks op u → ◌≡◌ {A = Option (OpId × Update)} (Some (op, u)) (Some (other, v)) → Asks other v
  begun_so {u} {v} {op} {other} asks e =
      let both : (op, u) ≡ (other, v) = some_is e in
      let same : u ≡ v = ap (λ x. x.1) both in
      let one : op ≡ other = ap (λ x. x.0) both in
      subst (λ z. Asks z v) one (subst (Asks op) same asks)

  begins_none : (reported : Report) → reported.began ≡ None → Begins reported
  begins_none reported none op u e = absurd (cc (sym none ∙ e))

  same_asked : (s : State) (t : NodeTurn) → t.state.stages ≡ s.stages → t.state.uses ≡ s.uses → t.reported.began ≡ None → KeepsAsked s t
  same_asked s t stages uses none all = (
    record {
      waits = λ op u e. all.waits op u (ap (λ (f : OpId → Stage). f op) (sym stages) ∙ e);
      locks = λ c op u lead st e. all.locks c op u lead st (ap (λ (f : ℕ → Use). f c) (sym uses) ∙ e);
    },
    begins_none t.reported none,
  )

  either : (a b : Report) → Begins a → Begins b → (op : OpId) (u : Update) → first_of a.began b.began ≡ Some (op, u) → Asks op u
  either a b first later op u = go a.began refl
    where
      go : (o : Option (OpId × Update)) → a.began ≡ o → first_of o b.began ≡ Some (op, u) → Asks op u
      go None _ e = later op u e
      go (Some x) is e = first op u (is ∙ e)

  asked_then : (s : State) (t : NodeTurn) (next : State → NodeTurn) → KeepsAsked s t → KeepsAsked t.state (next t.state) → KeepsAsked s (and_then t next)
  asked_then s t next first later all =
      let a = first all in
      let b = later a.0 in
      (b.0, either t.reported (next t.state).reported a.1 b.1)

  -- another use of one reference, for the same command and update
  relocked : (s : State) (t : NodeTurn) (c : ℕ) (op : OpId) (u : Update) (lead : Node) (st later : Node → Status) → s.uses c ≡ Locking op u lead st → t.state.stages ≡ s.stages → t.state.uses ≡ upd nat_eq s.uses c (Locking op u lead later)
      → t.reported.began ≡ None → KeepsAsked s t
  relocked s t c op u lead st later is stages uses none all = (
    record {
      waits = λ other v e. all.waits other v (ap (λ (f : OpId → Stage). f other) (sym stages) ∙ e);
      locks = λ d other v lead' some e. use_put s.uses c (Locking op u lead later) (λ _ _ _ _. locking_so (all.locks c op u lead st is)) all.locks d other v lead' some (ap (λ (f : ℕ → Use). f d) (sym uses) ∙ e);
    },
    begins_none t.reported none,
  )

  pub asked_singly : (m : Nodes) → OfSingle m Any Asks KeepsAsked KeepsAsked
  asked_singly m = record {
    alone = λ s t keeps. keeps;
    before = λ s t next _. asked_then s t next;
    behind = λ s t next _. asked_then s t next;
    stays = λ s all. (all, λ op u e. absurd (cc));
    counted = λ port s all. (record { waits = all.waits; locks = all.locks }, λ op u e. absurd (cc));
    lasts = λ op pid s new. new;
    answered = λ op r s _ all. (record { waits = all.waits; locks = all.locks }, λ op u e. absurd (cc));
    opened = λ op u s _ asks all. (record { waits = stage_put s.stages op (Waiting u) (λ _. waiting_so asks) all.waits; locks = all.locks }, λ op u e. absurd (cc));
    made = λ op s _ all. (record { waits = all.waits; locks = all.locks }, λ op u e. absurd (cc));
    attempted = λ lead op u s waits all. (
      record {
        waits = stage_put s.stages op (Asking (s.references + 1)) (λ v e. absurd (cc)) all.waits;
        locks = use_put s.uses (s.references + 1) (Locking op u lead (λ q. Unasked)) (λ _ _ _ _. locking_so (all.waits op u waits)) all.locks;
      },
      λ op u e. absurd (cc),
    );
    asked = λ who c op u lead st s is. relocked s (ask m who c op u lead st s) c op u lead st (with_asked m who st (would_grant m s (name_of u))) is refl refl refl;
    given_up = λ c op u lead st s is _ all. (
      record {
        waits = stage_put s.stages op (Waiting u) (λ _. waiting_so (all.locks c op u lead st is)) all.waits;
        locks = use_put s.uses c Spent (λ _ _ _ _ e. absurd (cc)) all.locks;
      },
      λ op u e. absurd (cc),
    );
    begun = λ c op u lead st s is _ all. (
      record {
        waits = stage_put s.stages op (Changing (s.references + 1)) (λ v e. absurd (cc)) all.waits;
        locks = use_put (upd nat_eq s.uses c (Owning (name_of u) (s.references + 1))) (s.references + 1) (Updating op u c (same_atom m.own)) (λ _ _ _ _ e. absurd (cc))
            (use_put s.uses c (Owning (name_of u) (s.references + 1)) (λ _ _ _ _ e. absurd (cc)) all.locks);
      },
      λ other v. begun_so (all.locks c op u lead st is),
    );
    finished = λ n op u c replied s is _ all. (
      record {
        waits = stage_put s.stages op Closed (λ v e. absurd (cc)) all.waits;
        locks = use_put (upd nat_eq s.uses c Spent) n Spent (λ _ _ _ _ e. absurd (cc)) (use_put s.uses c Spent (λ _ _ _ _ e. absurd (cc)) all.locks);
      },
      λ op u e. absurd (cc),
    );
    heard = λ c op u lead st p status s is _. relocked s (count_answer c op u lead st p status s) c op u lead st (upd same_atom st p status) is refl refl refl;
    confirmed = λ n op u c replied p s is _ all. (
      record {
        waits = all.waits;
        locks = use_put s.uses n (Updating op u c (upd same_atom replied p true)) (λ _ _ _ _ e. absurd (cc)) all.locks;
      },
      λ op u e. absurd (cc),
    );
    odd = λ what s all. (all, λ op u e. absurd (cc));
    requested = λ p reference name s all. (record { waits = all.waits; locks = all.locks }, λ op u e. absurd (cc));
    updated = λ p reference u s all. (record { waits = all.waits; locks = all.locks }, λ op u e. absurd (cc));
    freed = λ name reference s all. (record { waits = all.waits; locks = all.locks }, λ op u e. absurd (cc));
  }

  pub step_asked : (config : Config) (i : ℕ) (s : State) (input : Input Message Action) (turn : Turn State Message Report) → node_step config i s input ≡ Some turn
      → ((port : ℕ) (c : Command) (u : Update) → input ≡ Own (Issue port c) → change_of c ≡ Some u → Asks (next_op port s) u)
      → HasAsked s → HasAsked turn.state × Begins turn.reported
  step_asked config i s (Taken p x) turn is asks all =
      let m = live_nodes (nodes_at config i) s in
      let t = took_so config i s p x turn is in
      subst (λ u. HasAsked u.state × Begins u.reported) (sym t.2)
      (taken_so m Any Asks KeepsAsked KeepsAsked (asked_singly m) (name_at config p) x s t.0
      (λ node groups _ _. same_asked s (exchange (name_at config p) groups s) refl refl refl) (λ pid _. same_asked s (process_end pid s) refl refl refl) t.1 all)
  step_asked config i s (Own action) turn is asks all =
      let m = live_nodes (nodes_at config i) s in
      let t = did_so config i s action turn is in
      subst (λ u. HasAsked u.state × Begins u.reported) (sym t.2)
      (acted_so m Any Asks KeepsAsked KeepsAsked (asked_singly m) (nodes_at config i)
      (λ pid u _ _ _. same_asked u (becomes_and_sends (ended_in pid u) (to_peers m (λ _. true) (Down pid))) refl refl refl)
      (ports_at config i) action s t.0 (λ port. tt) (λ port c u e. asks port c u (ap Own e)) t.1 all)
