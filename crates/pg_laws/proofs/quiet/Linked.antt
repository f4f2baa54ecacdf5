-- A command that asks for a lock, or changes, does so under a reference, and a lock that is owned is one of an update.
use Rattle.std.proofs.Common.{◌≡◌, ◌≢◌, ℕ, ◌+◌, Bool, true, nat_eq, Some, refl, ap, sym, ◌∙◌, subst, arith}
use Rattle.pg_term.specs.declared.term.Term.{Term}
use Rattle.pg_term.specs.Same.{same_atom}
use Rattle.pg_step.specs.PgGroup.declared.update.Update.{Update}
use Rattle.pg_step.specs.PgGroup.Functions.{upd}
use Rattle.pg_step.specs.PgGroup.Value.{name_of}
use Rattle.pg_step.specs.PgMessageTypes.declared.message.Message.{Message}
use Rattle.pg_step.specs.Machines.Machine.{Input, Turn, Taken, Own}
use Rattle.pg_step.specs.declared.command.OpId.{OpId}
use Rattle.pg_step.specs.Nodes.{Node, Nodes}
use Rattle.pg_step.specs.State.{State, Status, Use, Stage, live_nodes}
use Rattle.pg_step.specs.State.Status.{Unasked}
use Rattle.pg_step.specs.State.Use.{Fresh, Locking, Owning, Updating, Spent}
use Rattle.pg_step.specs.State.Stage.{Closed, Waiting, Asking, Changing}
use Rattle.pg_step.specs.Turns.{NodeTurn, Report}
use Rattle.pg_step.specs.Attempts.{same_op}
use Rattle.pg_step.specs.Step.{Action}
use Rattle.pg_step.specs.Config.{Config, name_at, nodes_at, ports_at}
use Rattle.pg_step.specs.FrameMachine.{node_step}
use Rattle.pg_laws.specs.ReferencesFit.{Fits, ReferencesFit}
use Rattle.pg_laws.proofs.locks.Stages.{commands}
use Rattle.pg_laws.proofs.references.Fitting.{Keeps, NewOp, is_owning, same_fitting}
use Rattle.pg_laws.proofs.references.FittingRuns.{fitting_singly, new_op}
use Rattle.pg_laws.proofs.references.Keys.{numbers, at_upd, upd_same, upd_other}
use Rattle.pg_laws.proofs.steps.Made.{took_so, did_so}
use Rattle.pg_laws.proofs.steps.Single.{AnyUpdate, OfSingle, acted_so, taken_so}

-- the use of a reference that asks for the lock for this command
abbrev pub IsLockingOf : OpId → Use → Type 0
IsLockingOf op (Locking other u lead st) = other ≡ op
IsLockingOf op used = ⊥

-- of one under which the update of this command goes out
abbrev pub IsUpdatingOf : OpId → Use → Type 0
IsUpdatingOf op (Updating other u lock replied) = other ≡ op
IsUpdatingOf op used = ⊥

-- of one under which an update of this name goes out, under the lock of that reference
abbrev pub IsUnder : Term → ℕ → Use → Type 0
IsUnder name c (Updating op u lock replied) = (name_of u ≡ name) × (lock ≡ c)
IsUnder name c used = ⊥

abbrev pub HasReference : OpId → Stage → (ℕ → Use) → Type 0
HasReference op (Asking c) uses = IsLockingOf op (uses c)
HasReference op (Changing n) uses = IsUpdatingOf op (uses n)
HasReference op stage uses = Unit {0}

abbrev pub HasUpdate : ℕ → Use → (ℕ → Use) → Type 0
HasUpdate c (Owning name n) uses = IsUnder name c (uses n)
HasUpdate c used uses = Unit {0}

pub record Links (uses : ℕ → Use) (stages : OpId → Stage) : Type 0 where
  pub asked : (op : OpId) → HasReference op (stages op) uses
  pub owned : (c : ℕ) → HasUpdate c (uses c) uses

pub record Linked (s : State) : Type 0 where
  pub fitting : ReferencesFit s
  pub links : Links s.uses s.stages

-- ---- uses that change

-- what holds of a use holds of the later one
abbrev Moves : (Use → Type 0) → (ℕ → Use) → (ℕ → Use) → Type 0
Moves Q uses later = (d : ℕ) → Q (uses d) → Q (later d)

moves_put : (Q : Use → Type 0) (uses : ℕ → Use) (c : ℕ) (old new : Use) → uses c ≡ old → (Q old → Q new) → Moves Q uses (upd nat_eq uses c new)
moves_put Q uses c old new is move d h = at_upd nat_eq numbers Q uses c new d (λ e. move (subst Q is (subst (λ x. Q (uses x)) (sym e) h))) (λ _. h)

moves_twice : (Q : Use → Type 0) (uses : ℕ → Use) (c n : ℕ) (old new old' new' : Use) → uses c ≡ old → uses n ≡ old' → c ≢ n → (Q old → Q new) → (Q old' → Q new')
    → Moves Q uses (upd nat_eq (upd nat_eq uses c new) n new')
moves_twice Q uses c n old new old' new' is is' apart move move' d h =
    moves_put Q (upd nat_eq uses c new) n old' new' (upd_other nat_eq numbers uses c new n apart ∙ is') move' d (moves_put Q uses c old new is move d h)

has_later : (op : OpId) (stage : Stage) (uses later : ℕ → Use) → Moves (IsLockingOf op) uses later → Moves (IsUpdatingOf op) uses later → HasReference op stage uses → HasReference op stage later
has_later op (Asking c) uses later asks changes h = asks c h
has_later op (Changing n) uses later asks changes h = changes n h
has_later op (Waiting u) uses later asks changes h = tt
has_later op Closed uses later asks changes h = tt

owns_later : (c : ℕ) (used : Use) (uses later : ℕ → Use) → ((name : Term) → Moves (IsUnder name c) uses later) → HasUpdate c used uses → HasUpdate c used later
owns_later c (Owning name n) uses later under h = under name n h
owns_later c (Locking op u lead st) uses later under h = tt
owns_later c (Updating op u lock replied) uses later under h = tt
owns_later c Fresh uses later under h = tt
owns_later c Spent uses later under h = tt

-- ---- what a turn leaves

module _ (uses : ℕ → Use) (stages : OpId → Stage) (links : Links uses stages) where
  -- one use changes for another of the same command, and no stage
  use_put : (c : ℕ) (old new : Use) → uses c ≡ old → ((op : OpId) → IsLockingOf op old → IsLockingOf op new) → ((op : OpId) → IsUpdatingOf op old → IsUpdatingOf op new)
      → ((name : Term) (d : ℕ) → IsUnder name d old → IsUnder name d new) → HasUpdate c new (upd nat_eq uses c new) → Links (upd nat_eq uses c new) stages
  use_put c old new is asks changes under owned = record {
    asked = λ op. has_later op (stages op) uses (upd nat_eq uses c new) (moves_put (IsLockingOf op) uses c old new is (asks op)) (moves_put (IsUpdatingOf op) uses c old new is (changes op)) (links.asked op);
    owned = λ d. at_upd nat_eq numbers (λ x. HasUpdate d x (upd nat_eq uses c new)) uses c new d (λ e. subst (λ x. HasUpdate x new (upd nat_eq uses c new)) e owned)
        (λ _. owns_later d (uses d) uses (upd nat_eq uses c new) (λ name. moves_put (IsUnder name d) uses c old new is (under name d)) (links.owned d));
  }

  -- the stage of one command is another now
  stage_put : (op : OpId) (new : Stage) (later : ℕ → Use) → HasReference op new later → ((other : OpId) → op ≢ other → Moves (IsLockingOf other) uses later × Moves (IsUpdatingOf other) uses later)
      → (other : OpId) → HasReference other (upd same_op stages op new other) later
  stage_put op new later here move other = at_upd same_op commands (λ stage. HasReference other stage later) stages op new other
      (λ e. subst (λ o. HasReference o new later) e here)
      (λ n. has_later other (stages other) uses later (move other n).0 (move other n).1 (links.asked other))

  -- an attempt under a new reference
  attempted : (c : ℕ) (op : OpId) (u : Update) (lead : Node) (st : Node → Status) → uses c ≡ Fresh → Links (upd nat_eq uses c (Locking op u lead st)) (upd same_op stages op (Asking c))
  attempted c op u lead st is =
      let new = Locking op u lead st in
      let later = upd nat_eq uses c new in record {
        asked = stage_put op (Asking c) later (subst (IsLockingOf op) (sym (upd_same nat_eq numbers uses c new)) refl)
            (λ other _. (moves_put (IsLockingOf other) uses c Fresh new is (λ h. absurd h), moves_put (IsUpdatingOf other) uses c Fresh new is (λ h. absurd h)));
        owned = λ d. at_upd nat_eq numbers (λ x. HasUpdate d x later) uses c new d (λ _. tt)
            (λ _. owns_later d (uses d) uses later (λ name. moves_put (IsUnder name d) uses c Fresh new is (λ h. absurd h)) (links.owned d));
      }

  -- one that is given up
  given_up : (c : ℕ) (op : OpId) (u : Update) (lead : Node) (st : Node → Status) → uses c ≡ Locking op u lead st → Links (upd nat_eq uses c Spent) (upd same_op stages op (Waiting u))
  given_up c op u lead st is =
      let old = Locking op u lead st in
      let later = upd nat_eq uses c Spent in record {
        asked = stage_put op (Waiting u) later tt
            (λ other n. (moves_put (IsLockingOf other) uses c old Spent is (λ h. absurd (n h)), moves_put (IsUpdatingOf other) uses c old Spent is (λ h. absurd h)));
        owned = λ d. at_upd nat_eq numbers (λ x. HasUpdate d x later) uses c Spent d (λ _. tt)
            (λ _. owns_later d (uses d) uses later (λ name. moves_put (IsUnder name d) uses c old Spent is (λ h. absurd h)) (links.owned d));
      }

  -- an update that begins
  begun : (c n : ℕ) (op : OpId) (u : Update) (lead : Node) (st : Node → Status) (replied : Node → Bool) → uses c ≡ Locking op u lead st → uses n ≡ Fresh → c ≢ n
      → Links (upd nat_eq (upd nat_eq uses c (Owning (name_of u) n)) n (Updating op u c replied)) (upd same_op stages op (Changing n))
  begun c n op u lead st replied is fresh apart =
      let old = Locking op u lead st in
      let own = Owning (name_of u) n in
      let new = Updating op u c replied in
      let between = upd nat_eq uses c own in
      let later = upd nat_eq between n new in record {
        asked = stage_put op (Changing n) later (subst (IsUpdatingOf op) (sym (upd_same nat_eq numbers between n new)) refl)
            (λ other m. (
              moves_twice (IsLockingOf other) uses c n old own Fresh new is fresh apart (λ h. absurd (m h)) (λ h. absurd h),
              moves_twice (IsUpdatingOf other) uses c n old own Fresh new is fresh apart (λ h. absurd h) (λ h. absurd h),
            ));
        owned = λ d. at_upd nat_eq numbers (λ x. HasUpdate d x later) between n new d (λ _. tt)
            (λ _. at_upd nat_eq numbers (λ x. HasUpdate d x later) uses c own d
            (λ e. subst (IsUnder (name_of u) d) (sym (upd_same nat_eq numbers between n new)) (refl, e))
            (λ _. owns_later d (uses d) uses later (λ name. moves_twice (IsUnder name d) uses c n old own Fresh new is fresh apart (λ h. absurd h) (λ h. absurd h)) (links.owned d)));
      }

  -- and one that ends
  finished : (c n : ℕ) (op : OpId) (u : Update) (name : Term) (k : ℕ) (replied : Node → Bool) → uses n ≡ Updating op u c replied → uses c ≡ Owning name k → c ≢ n
      → Links (upd nat_eq (upd nat_eq uses c Spent) n Spent) (upd same_op stages op Closed)
  finished c n op u name k replied is own apart =
      let old = Owning name k in
      let last = Updating op u c replied in
      let between = upd nat_eq uses c Spent in
      let later = upd nat_eq between n Spent in record {
        asked = stage_put op Closed later tt
            (λ other m. (
              moves_twice (IsLockingOf other) uses c n old Spent last Spent own is apart (λ h. absurd h) (λ h. absurd h),
              moves_twice (IsUpdatingOf other) uses c n old Spent last Spent own is apart (λ h. absurd h) (λ h. absurd (m h)),
            ));
        owned = λ d. at_upd nat_eq numbers (λ x. HasUpdate d x later) between n Spent d (λ _. tt)
            (λ _. at_upd nat_eq numbers (λ x. HasUpdate d x later) uses c Spent d (λ _. tt)
            (λ m. owns_later d (uses d) uses later (λ other. moves_twice (IsUnder other d) uses c n old Spent last Spent own is apart (λ h. absurd h) (λ h. absurd (m h.1))) (links.owned d)));
      }

-- ---- each single turn

abbrev KeepsLinked : State → NodeTurn → Type 0
KeepsLinked s t = Linked s → Linked t.state

fresh_next : (s : State) → Linked s → s.uses (s.references + 1) ≡ Fresh
fresh_next s linked = linked.fitting.fresh (s.references + 1) (omega arith)

use_apart : (uses : ℕ → Use) (c n : ℕ) (v w : Use) → uses c ≡ v → uses n ≡ w → (v ≡ w → ⊥) → c ≢ n
use_apart uses c n v w is is' apart e = apart (sym is ∙ ap uses e ∙ is')

linked_singly : (m : Nodes) → OfSingle m NewOp AnyUpdate KeepsLinked KeepsLinked
linked_singly m = record {
  alone = λ s t keeps. keeps;
  before = λ s t next _ a b linked. b (a linked);
  behind = λ s t next _ a b linked. b (a linked);
  stays = λ s linked. linked;
  counted = λ port s linked. record { fitting = fit.counted port s linked.fitting; links = linked.links };
  lasts = λ op pid s new. new;
  answered = λ op response s _ linked. linked;
  opened = λ op u s new asks linked. record {
    fitting = fit.opened op u s new asks linked.fitting;
    links = record { asked = stage_put s.uses s.stages linked.links op (Waiting u) s.uses tt (λ other _. (λ d h. h, λ d h. h)); owned = linked.links.owned };
  };
  made = λ op s new linked. record { fitting = fit.made op s new linked.fitting; links = linked.links };
  attempted = λ lead op u s waits linked. record {
    fitting = fit.attempted lead op u s waits linked.fitting;
    links = attempted s.uses s.stages linked.links (s.references + 1) op u lead (λ _. Unasked) (fresh_next s linked);
  };
  asked = λ who c op u lead st s is linked. record {
    fitting = fit.asked who c op u lead st s is linked.fitting;
    links = use_put s.uses s.stages linked.links c (Locking op u lead st) _ is (λ other h. h) (λ other h. absurd h) (λ name d h. absurd h) tt;
  };
  given_up = λ c op u lead st s is missing linked. record {
    fitting = fit.given_up c op u lead st s is missing linked.fitting;
    links = given_up s.uses s.stages linked.links c op u lead st is;
  };
  begun = λ c op u lead st s is all linked. record {
    fitting = fit.begun c op u lead st s is all linked.fitting;
    links = begun s.uses s.stages linked.links c (s.references + 1) op u lead st (same_atom m.own) is (fresh_next s linked)
        (use_apart s.uses c (s.references + 1) (Locking op u lead st) Fresh is (fresh_next s linked) (λ e. absurd (cc)));
  };
  finished = λ n op u c replied s is all linked. record {
    fitting = fit.finished n op u c replied s is all linked.fitting;
    links =
        let own = is_owning linked.fitting n op u c replied is in
        finished s.uses s.stages linked.links c n op u (name_of u) n replied is own (use_apart s.uses c n (Owning (name_of u) n) (Updating op u c replied) own is (λ e. absurd (cc)));
  };
  heard = λ c op u lead st p status s is waits linked. record {
    fitting = fit.heard c op u lead st p status s is waits linked.fitting;
    links = use_put s.uses s.stages linked.links c (Locking op u lead st) (Locking op u lead (upd same_atom st p status)) is (λ other h. h) (λ other h. absurd h) (λ name d h. absurd h) tt;
  };
  confirmed = λ n op u c replied p s is new linked. record {
    fitting = fit.confirmed n op u c replied p s is new linked.fitting;
    links = use_put s.uses s.stages linked.links n (Updating op u c replied) (Updating op u c (upd same_atom replied p true)) is (λ other h. absurd h) (λ other h. h) (λ name d h. h) tt;
  };
  odd = λ what s linked. linked;
  requested = λ p reference name s linked. record { fitting = fit.requested p reference name s linked.fitting; links = linked.links };
  updated = λ p reference u s linked. record { fitting = fit.updated p reference u s linked.fitting; links = linked.links };
  freed = λ name reference s linked. record { fitting = fit.freed name reference s linked.fitting; links = linked.links };
}
  where
    fit : OfSingle m NewOp AnyUpdate Keeps Keeps
    fit = fitting_singly m

-- what a step leaves, with the same uses and stages
same_linked : (s t : State) → t.references ≡ s.references → t.uses ≡ s.uses → t.stages ≡ s.stages → t.counts ≡ s.counts → Linked s → Linked t
same_linked s t references uses stages counts linked = record {
  fitting = same_fitting s t references uses stages counts linked.fitting;
  links = subst (λ f. Links f t.stages) (sym uses) (subst (Links s.uses) (sym stages) linked.links);
}

pub step_linked : (config : Config) (i : ℕ) (s : State) (input : Input Message Action) (turn : Turn State Message Report) → node_step config i s input ≡ Some turn → Linked s → Linked turn.state
step_linked config i s (Taken p x) turn is linked =
    let m = live_nodes (nodes_at config i) s in
    let t = took_so config i s p x turn is in
    subst (λ u. Linked u.state) (sym t.2)
    (taken_so m NewOp AnyUpdate KeepsLinked KeepsLinked (linked_singly m) (name_at config p) x s t.0
    (λ node groups _ _. same_linked s _ refl refl refl refl) (λ pid _. same_linked s _ refl refl refl refl) t.1 linked)
step_linked config i s (Own action) turn is linked =
    let m = live_nodes (nodes_at config i) s in
    let t = did_so config i s action turn is in
    subst (λ u. Linked u.state) (sym t.2)
    (acted_so m NewOp AnyUpdate KeepsLinked KeepsLinked (linked_singly m) (nodes_at config i) (λ pid u _ _ _. same_linked u _ refl refl refl refl) (ports_at config i) action s t.0
    (new_op s linked.fitting) (λ port c u _ _. tt) t.1 linked)

pub first_linked : (s : State) → s.uses ≡ (λ c. Fresh) → s.stages ≡ (λ op. Closed) → Linked s
first_linked s uses stages = record {
  fitting = record {
    fresh = λ c above. ap (λ (f : ℕ → Use). f c) uses;
    fits = λ c. subst (λ (f : ℕ → Use). Fits c (f c) s.stages f) (sym uses) tt;
    closed = λ op below. ap (λ (f : OpId → Stage). f op) stages;
  };
  links = record {
    asked = λ op. subst (λ (f : OpId → Stage). HasReference op (f op) s.uses) (sym stages) tt;
    owned = λ c. subst (λ (f : ℕ → Use). HasUpdate c (f c) f) (sym uses) tt;
  };
}
