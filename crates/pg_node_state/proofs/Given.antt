-- Each open command came in at a port of the node, with an update that has a name.
use Rattle.std.proofs.Common.{◌≡◌, ◌<◌, ◌≤◌, ◌&&◌, ℕ, Bool, true, false, cond}
use Rattle.std.proofs.Common.{nat_eq, Option, Some, None, refl, sym, ap, ◌∙◌, subst}
use Rattle.std.proofs.lemmas.Bool.{eqb-true}
use Rattle.pg_node_ports.specs.PgGroup.Functions.{upd}
use Rattle.pg_node_ports.specs.PgGroup.declared.update.Update.{Update as Change}
use Rattle.pg_node_ports.specs.PgGroup.Value.{name_of}
use Rattle.pg_node_ports.specs.PgMessageTypes.Name.{is_name}
use Rattle.pg_node_ports.specs.PgStep.declared.command.OpId.{OpId}
use Rattle.pg_node_ports.specs.PgStep.Nodes.{Node}
use Rattle.pg_node_ports.specs.PgStep.State.{Status, Use, Stage}
use Rattle.pg_node_ports.specs.PgStep.State.Use.{Fresh, Locking, Owning, Updating, Spent}
use Rattle.pg_node_ports.specs.PgStep.State.Stage.{Closed, Waiting}
use Rattle.pg_node_ports.specs.PgStep.Attempts.{same_op}
use Rattle.pg_node_ports.specs.PgStep.Losses.{forgets}
use Rattle.pg_node_ports.specs.PgNodeOpens.declared.command.Gathering.{Gathering}
use Rattle.pg_node_ports.specs.PgNodeOpens.declared.command.Gathering.TheVariants.{Nothing, Lock, Update}
use Rattle.pg_node_ports.specs.PgNodeOpens.Readings.{update_of, stage_seen, is_closed, waiting_of}
use Rattle.pg_node_state.specs.Ports.{is_named, CameIn, gathers_for, IsOf, AreGiven}

pub same_is : (op other : OpId) → same_op op other ≡ true → op ≡ other
same_is op other e = go (nat_eq op.port other.port) (nat_eq op.number other.number) (eqb-true op.port other.port) (eqb-true op.number other.number) e
  where
    go : (b c : Bool) → (b ≡ true → op.port ≡ other.port) → (c ≡ true → op.number ≡ other.number) → (b && c) ≡ true → op ≡ other
    go true true ports numbers e = λ i. record { port = ports refl i; number = numbers refl i }
    go true false ports numbers e = absurd (cc)
    go false c ports numbers e = absurd (cc)

pub given_same : {came : OpId → Option Change → Type 0} {uses uses2 : ℕ → Use} {stages stages2 : OpId → Stage} → uses ≡ uses2 → stages ≡ stages2 → AreGiven came uses stages → AreGiven came uses2 stages2
given_same {came} e f h = record {
  by_use = subst (λ (u : ℕ → Use). (c : ℕ) → IsOf came (gathers_for (u c))) e h.by_use;
  by_stage = subst (λ (s : OpId → Stage). (op : OpId) → is_closed (stage_seen (s op)) ≡ false → came op (waiting_of (s op))) f h.by_stage;
}

pub given_use : {came : OpId → Option Change → Type 0} {uses : ℕ → Use} {stages : OpId → Stage} (x : ℕ) (used : Use) → IsOf came (gathers_for used) → AreGiven came uses stages → AreGiven came (upd nat_eq uses x used) stages
unfolding upd
given_use {came} {uses} x used of h = record {
  by_use = λ c. go c (nat_eq x c);
  by_stage = h.by_stage;
}
  where
    go : (c : ℕ) (b : Bool) → IsOf came (gathers_for (cond b used (uses c)))
    go c true = of
    go c false = h.by_use c

pub given_stage : {came : OpId → Option Change → Type 0} {uses : ℕ → Use} {stages : OpId → Stage} (op : OpId) (stage : Stage) → came op (waiting_of stage) → AreGiven came uses stages → AreGiven came uses (upd same_op stages op stage)
unfolding upd
given_stage {came} {uses} {stages} op stage of h = record {
  by_use = h.by_use;
  by_stage = λ other. go other (same_op op other) (same_is op other);
}
  where
    go : (other : OpId) (b : Bool) → (b ≡ true → op ≡ other) → is_closed (stage_seen (cond b stage (stages other))) ≡ false → came other (waiting_of (cond b stage (stages other)))
    go other true same e = subst (λ (o : OpId). came o (waiting_of stage)) (same refl) of
    go other false same e = h.by_stage other e

-- a command of which no update is told
pub of_any : {n : ℕ} {counts : ℕ → ℕ} {op : OpId} {update : Option Change} → CameIn n counts op update → CameIn n counts op None
of_any came = record { port = came.port; number = came.number; named = refl }

-- the command of what is gathered
abbrev pub op_in : OpId → Gathering → OpId
op_in op Nothing = op
op_in op (Lock other) = other
op_in op (Update other lock) = other

abbrev pub lock_in : ℕ → Gathering → ℕ
lock_in lock Nothing = lock
lock_in lock (Lock op) = lock
lock_in lock (Update op other) = other

abbrev IsFor : (OpId → Option Change → Type 0) → Option (OpId × Change) → Type 0
IsFor came None = Unit {0}
IsFor came (Some given) = came given.0 (Some given.1)

-- what is gathered for a command, or for none
pub of_lock : {came : OpId → Option Change → Type 0} (op : OpId) (update : Change) (first : Node) (st : Node → Status) → came op (Some update) → IsOf came (gathers_for (Locking op update first st))
of_lock {came} op update first st here = record { is = λ other change e. subst (IsFor came) e here }

pub of_update : {came : OpId → Option Change → Type 0} (op : OpId) (update : Change) (lock : ℕ) (replied : Node → Bool) → came op (Some update) → IsOf came (gathers_for (Updating op update lock replied))
of_update {came} op update lock replied here = record { is = λ other change e. subst (IsFor came) e here }

pub of_none : {came : OpId → Option Change → Type 0} → IsOf came None
of_none = record { is = λ op update e. absurd (cc) }

-- the command that gathers came in, with its update
pub locking_came : {came : OpId → Option Change → Type 0} {uses : ℕ → Use} {stages : OpId → Stage} (c : ℕ) (op : OpId) (update : Change) (first : Node) (st : Node → Status) → AreGiven came uses stages → uses c ≡ Locking op update first st → came op (Some update)
locking_came c op update first st h e = (h.by_use c).is op update (ap gathers_for e)

pub updating_came : {came : OpId → Option Change → Type 0} {uses : ℕ → Use} {stages : OpId → Stage} (c : ℕ) (op : OpId) (update : Change) (lock : ℕ) (replied : Node → Bool) → AreGiven came uses stages → uses c ≡ Updating op update lock replied → came op (Some update)
updating_came c op update lock replied h e = (h.by_use c).is op update (ap gathers_for e)

-- the command that waits came in, with its update
pub waiting_came : {came : OpId → Option Change → Type 0} {uses : ℕ → Use} {stages : OpId → Stage} (op : OpId) (update : Change) → AreGiven came uses stages → stages op ≡ Waiting update → came op (Some update)
waiting_came {came} op update h e = subst (λ (stage : Stage). came op (waiting_of stage)) e (h.by_stage op (ap (λ (stage : Stage). is_closed (stage_seen stage)) e))

-- the update of a command that gathers has a name
pub gathered_named : {uses : ℕ → Use} {stages : OpId → Stage} (n : ℕ) (counts : ℕ → ℕ) (c : ℕ) → AreGiven (CameIn n counts) uses stages → (update : Change) → update_of (uses c) ≡ Some update → is_name (name_of update) ≡ true
gathered_named {uses} n counts c h update e = go (uses c) (h.by_use c).is e
  where
    go : (used : Use) → ((op : OpId) (given : Change) → gathers_for used ≡ Some (op, given) → CameIn n counts op (Some given)) → update_of used ≡ Some update → is_name (name_of update) ≡ true
    go Fresh of e = absurd (cc)
    go (Locking op other first st) of e = ap is_named (sym e) ∙ (of op other refl).named
    go (Owning name call) of e = absurd (cc)
    go (Updating op other lock replied) of e = ap is_named (sym e) ∙ (of op other refl).named
    go Spent of e = absurd (cc)

-- where a node is forgotten
pub given_without : {came : OpId → Option Change → Type 0} {uses : ℕ → Use} {stages : OpId → Stage} (peer : Node) → AreGiven came uses stages → AreGiven came (λ c. forgets peer (uses c)) stages
given_without {came} {uses} peer h = record { by_use = λ c. subst (IsOf came) (sym (go (uses c))) (h.by_use c); by_stage = h.by_stage }
  where
    go : (used : Use) → gathers_for (forgets peer used) ≡ gathers_for used
    go Fresh = refl
    go (Locking op update first st) = refl
    go (Owning name update) = refl
    go (Updating op update lock replied) = refl
    go Spent = refl

-- no command is open
pub given_none : {came : OpId → Option Change → Type 0} → AreGiven came (λ c. Fresh) (λ op. Closed)
given_none = record { by_use = λ c. of_none; by_stage = λ op e. absurd (cc) }

-- where more came in
pub given_more : {came later : OpId → Option Change → Type 0} {uses : ℕ → Use} {stages : OpId → Stage} → ((op : OpId) (update : Option Change) → came op update → later op update) → AreGiven came uses stages → AreGiven later uses stages
given_more {came} {later} {uses} {stages} more h = record {
  by_use = λ c. record { is = λ op update e. more op (Some update) ((h.by_use c).is op update e) };
  by_stage = λ op e. more op (waiting_of (stages op)) (h.by_stage op e);
}

-- where the ports count the same
pub given_ports : {uses : ℕ → Use} {stages : OpId → Stage} (n n' : ℕ) (counts counts' : ℕ → ℕ) → n' ≡ n → counts' ≡ counts → AreGiven (CameIn n counts) uses stages → AreGiven (CameIn n' counts') uses stages
given_ports n n' counts counts' e f h = given_more (λ op update came. record {
  port = subst (λ (m : ℕ). op.port < m) (sym e) came.port;
  number = subst (λ (g : ℕ → ℕ). op.number ≤ g op.port) (sym f) came.number;
  named = came.named;
}) h
