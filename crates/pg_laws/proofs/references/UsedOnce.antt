-- Each reference of a node has one use, for good: what it is used for follows what it was used for.
use Rattle.std.proofs.Common.{◌≡◌, ℕ, ◌+◌, true, nat_eq, List, Some, refl, ap, sym, ◌∙◌, subst, arith}
use Rattle.std.proofs.lemmas.Bool.{eqb-true}
use Rattle.pg_term.specs.Same.{same_atom}
use Rattle.pg_step.specs.PgGroup.declared.update.Update.{Update}
use Rattle.pg_step.specs.PgGroup.Functions.{upd}
use Rattle.pg_step.specs.PgGroup.Value.{name_of}
use Rattle.pg_step.proofs.PgGroup.Changes.{upd_by}
use Rattle.pg_step.specs.PgMessageTypes.declared.message.Message.{Message}
use Rattle.pg_step.specs.declared.command.OpId.{OpId}
use Rattle.pg_step.specs.Machines.Machine.{Input, Turn, Event, Taken, Own, node_of}
use Rattle.pg_step.specs.Machines.Happened.{Happened}
use Rattle.pg_step.specs.Machines.Runs.{Leads}
use Rattle.pg_step.specs.Machines.Clocked.{plain}
use Rattle.pg_step.specs.Nodes.{Node, Nodes}
use Rattle.pg_step.specs.State.{State, Status, Use, live_nodes}
use Rattle.pg_step.specs.State.Status.{Unasked}
use Rattle.pg_step.specs.State.Use.{Fresh, Locking, Owning, Updating, Spent}
use Rattle.pg_step.specs.Turns.{NodeTurn, Report}
use Rattle.pg_step.specs.Step.{CLOCK_LIMIT, Action}
use Rattle.pg_step.specs.Config.{Config, name_at, nodes_at, ports_at}
use Rattle.pg_step.specs.FrameMachine.{node_step, machine_of, frame_machine, FrameWorld}
use Rattle.pg_step.proofs.Machines.Sequences.{kept}
use Rattle.pg_step.proofs.Machines.Plain.{plain_leads}
use Rattle.pg_laws.specs.Reached.{TimedFrameWorld, Reaches}
use Rattle.pg_laws.specs.ReferencesFit.{ReferencesFit, UseFollows}
use Rattle.pg_laws.proofs.steps.Single.{AnyUpdate, OfSingle, acted_so, taken_so}
use Rattle.pg_laws.proofs.steps.Made.{took_so, did_so}
use Rattle.pg_laws.proofs.steps.Ways.{state_after}
use Rattle.pg_laws.proofs.references.Fitting.{NewOp, elsewhere}
use Rattle.pg_laws.proofs.references.FittingRuns.{fitting_singly, new_op, fitting_timed}
use Rattle.pg_laws.proofs.references.Fitting.{same_fitting}

-- ---- uses

pub follows_same : (x : Use) → UseFollows x x
follows_same Fresh = tt
follows_same (Locking op u lead st) = (refl, refl)
follows_same (Owning name n) = (refl, refl)
follows_same (Updating op u c replied) = (refl, refl, refl)
follows_same Spent = tt

-- a use may end at any time
may_end : (x : Use) → UseFollows x Spent
may_end Fresh = tt
may_end (Locking op u lead st) = tt
may_end (Owning name n) = tt
may_end (Updating op u c replied) = tt
may_end Spent = tt

from_fresh : (x later : Use) → x ≡ Fresh → UseFollows x later
from_fresh x later is = subst (λ y. UseFollows y later) (sym is) tt

spent_stays : (z : Use) → UseFollows Spent z → z ≡ Spent
spent_stays Fresh q = absurd q
spent_stays (Locking op u lead st) q = absurd q
spent_stays (Owning name n) q = absurd q
spent_stays (Updating op u c replied) q = absurd q
spent_stays Spent q = refl

pub follows_then : (x y z : Use) → UseFollows x y → UseFollows y z → UseFollows x z
follows_then Fresh y z p q = tt
follows_then (Locking o1 u1 l1 s1) Fresh z p q = absurd p
follows_then (Locking o1 u1 l1 s1) (Locking o2 u2 l2 s2) Fresh p q = absurd q
follows_then (Locking o1 u1 l1 s1) (Locking o2 u2 l2 s2) (Locking o3 u3 l3 s3) p q = (p.0 ∙ q.0, p.1 ∙ q.1)
follows_then (Locking o1 u1 l1 s1) (Locking o2 u2 l2 s2) (Owning m3 n3) p q = q ∙ ap name_of (sym p.1)
follows_then (Locking o1 u1 l1 s1) (Locking o2 u2 l2 s2) (Updating o3 u3 c3 r3) p q = absurd q
follows_then (Locking o1 u1 l1 s1) (Locking o2 u2 l2 s2) Spent p q = tt
follows_then (Locking o1 u1 l1 s1) (Owning m2 n2) Fresh p q = absurd q
follows_then (Locking o1 u1 l1 s1) (Owning m2 n2) (Locking o3 u3 l3 s3) p q = absurd q
follows_then (Locking o1 u1 l1 s1) (Owning m2 n2) (Owning m3 n3) p q = sym q.0 ∙ p
follows_then (Locking o1 u1 l1 s1) (Owning m2 n2) (Updating o3 u3 c3 r3) p q = absurd q
follows_then (Locking o1 u1 l1 s1) (Owning m2 n2) Spent p q = tt
follows_then (Locking o1 u1 l1 s1) (Updating o2 u2 c2 r2) z p q = absurd p
follows_then (Locking o1 u1 l1 s1) Spent z p q = subst (UseFollows (Locking o1 u1 l1 s1)) (sym (spent_stays z q)) tt
follows_then (Owning m1 n1) Fresh z p q = absurd p
follows_then (Owning m1 n1) (Locking o2 u2 l2 s2) z p q = absurd p
follows_then (Owning m1 n1) (Owning m2 n2) Fresh p q = absurd q
follows_then (Owning m1 n1) (Owning m2 n2) (Locking o3 u3 l3 s3) p q = absurd q
follows_then (Owning m1 n1) (Owning m2 n2) (Owning m3 n3) p q = (p.0 ∙ q.0, p.1 ∙ q.1)
follows_then (Owning m1 n1) (Owning m2 n2) (Updating o3 u3 c3 r3) p q = absurd q
follows_then (Owning m1 n1) (Owning m2 n2) Spent p q = tt
follows_then (Owning m1 n1) (Updating o2 u2 c2 r2) z p q = absurd p
follows_then (Owning m1 n1) Spent z p q = subst (UseFollows (Owning m1 n1)) (sym (spent_stays z q)) tt
follows_then (Updating o1 u1 c1 r1) Fresh z p q = absurd p
follows_then (Updating o1 u1 c1 r1) (Locking o2 u2 l2 s2) z p q = absurd p
follows_then (Updating o1 u1 c1 r1) (Owning m2 n2) z p q = absurd p
follows_then (Updating o1 u1 c1 r1) (Updating o2 u2 c2 r2) Fresh p q = absurd q
follows_then (Updating o1 u1 c1 r1) (Updating o2 u2 c2 r2) (Locking o3 u3 l3 s3) p q = absurd q
follows_then (Updating o1 u1 c1 r1) (Updating o2 u2 c2 r2) (Owning m3 n3) p q = absurd q
follows_then (Updating o1 u1 c1 r1) (Updating o2 u2 c2 r2) (Updating o3 u3 c3 r3) p q = (p.0 ∙ q.0, p.1 ∙ q.1, p.2 ∙ q.2)
follows_then (Updating o1 u1 c1 r1) (Updating o2 u2 c2 r2) Spent p q = tt
follows_then (Updating o1 u1 c1 r1) Spent z p q = subst (UseFollows (Updating o1 u1 c1 r1)) (sym (spent_stays z q)) tt
follows_then Spent y z p q = subst (λ x. UseFollows x z) (spent_stays y p) q

-- ---- single turns

-- each use follows
abbrev pub AllFollow : State → State → Type 0
AllFollow s t = (c : ℕ) → UseFollows (s.uses c) (t.uses c)

abbrev Goes : State → NodeTurn → Type 0
Goes s t = ReferencesFit s → ReferencesFit t.state × AllFollow s t.state

-- one use changes
put : (uses : ℕ → Use) (k : ℕ) (new : Use) → UseFollows (uses k) new → (c : ℕ) → UseFollows (uses c) (upd nat_eq uses k new c)
put uses k new f c = upd_by nat_eq uses k (λ x. UseFollows (uses c) x) new c (λ same. subst (λ d. UseFollows (uses d) new) (eqb-true k c same) f) (λ _. follows_same (uses c))

-- what is asked or answered changes
relocks : (uses : ℕ → Use) (c : ℕ) (op : OpId) (u : Update) (lead : Node) (st later : Node → Status) → uses c ≡ Locking op u lead st → (d : ℕ) → UseFollows (uses d) (upd nat_eq uses c (Locking op u lead later) d)
relocks uses c op u lead st later is = put uses c (Locking op u lead later) (subst (λ x. UseFollows x (Locking op u lead later)) (sym is) (refl, refl))

both : (s t v : State) → (ReferencesFit s → ReferencesFit t × AllFollow s t) → (ReferencesFit t → ReferencesFit v × AllFollow t v) → ReferencesFit s → ReferencesFit v × AllFollow s v
both s t v a b fitting =
    let x = a fitting in
    let y = b x.0 in
    (y.0, λ c. follows_then (s.uses c) (t.uses c) (v.uses c) (x.1 c) (y.1 c))

none : (s : State) → AllFollow s s
none s c = follows_same (s.uses c)

module _ (m : Nodes) (s : State) (fitting : ReferencesFit s) where
  attempts : (lead : Node) (op : OpId) (u : Update) (c : ℕ) → UseFollows (s.uses c) (upd nat_eq s.uses (s.references + 1) (Locking op u lead (λ q. Unasked)) c)
  attempts lead op u = put s.uses (s.references + 1) (Locking op u lead (λ q. Unasked))
      (from_fresh (s.uses (s.references + 1)) (Locking op u lead (λ q. Unasked)) (fitting.fresh (s.references + 1) (omega arith)))

  begins : (c : ℕ) (op : OpId) (u : Update) (lead : Node) (st : Node → Status) → s.uses c ≡ Locking op u lead st
      → (d : ℕ) → UseFollows (s.uses d) (upd nat_eq (upd nat_eq s.uses c (Owning (name_of u) (s.references + 1))) (s.references + 1) (Updating op u c (same_atom m.own)) d)
  begins c op u lead st is d =
      follows_then (s.uses d) (owned d) (upd nat_eq owned r change d)
      (put s.uses c own (subst (λ x. UseFollows x own) (sym is) refl) d)
      (put owned r change (from_fresh (owned r) change (elsewhere s.uses c own r apart ∙ fresh)) d)
    where
      r : ℕ
      r = s.references + 1

      own : Use
      own = Owning (name_of u) r

      change : Use
      change = Updating op u c (same_atom m.own)

      owned : ℕ → Use
      owned = upd nat_eq s.uses c own

      fresh : s.uses r ≡ Fresh
      fresh = fitting.fresh r (omega arith)

      locks_not : {x : Use} → x ≡ Fresh → x ≡ Locking op u lead st → ⊥
      locks_not e f = absurd (cc)

      apart : c ≡ r → ⊥
      apart same = locks_not (ap s.uses same ∙ fresh) is

follows_singly : (m : Nodes) → OfSingle m NewOp AnyUpdate Goes Goes
follows_singly m = record {
  alone = λ s t goes. goes;
  before = λ s t next _ a b. both s t.state (next t.state).state a b;
  behind = λ s t next _ a b. both s t.state (next t.state).state a b;
  stays = λ s fitting. (fitting, none s);
  counted = λ port s fitting. (k.counted port s fitting, none s);
  lasts = λ op pid s new. new;
  answered = λ op response s new fitting. (k.answered op response s new fitting, none s);
  opened = λ op u s new asks fitting. (k.opened op u s new asks fitting, none s);
  made = λ op s new fitting. (k.made op s new fitting, none s);
  attempted = λ lead op u s waits fitting. (k.attempted lead op u s waits fitting, attempts m s fitting lead op u);
  asked = λ who c op u lead st s is fitting. (k.asked who c op u lead st s is fitting, relocks s.uses c op u lead st _ is);
  given_up = λ c op u lead st s is missing fitting. (k.given_up c op u lead st s is missing fitting, put s.uses c Spent (may_end (s.uses c)));
  begun = λ c op u lead st s is all fitting. (k.begun c op u lead st s is all fitting, begins m s fitting c op u lead st is);
  finished = λ n op u c replied s is all fitting. (
    k.finished n op u c replied s is all fitting,
    λ d. follows_then (s.uses d) (upd nat_eq s.uses c Spent d) (upd nat_eq (upd nat_eq s.uses c Spent) n Spent d)
        (put s.uses c Spent (may_end (s.uses c)) d) (put (upd nat_eq s.uses c Spent) n Spent (may_end (upd nat_eq s.uses c Spent n)) d),
  );
  heard = λ c op u lead st p status s is was fitting. (k.heard c op u lead st p status s is was fitting, relocks s.uses c op u lead st _ is);
  confirmed = λ n op u c replied p s is was fitting. (
    k.confirmed n op u c replied p s is was fitting,
    put s.uses n (Updating op u c (upd same_atom replied p true)) (subst (λ x. UseFollows x (Updating op u c (upd same_atom replied p true))) (sym is) (refl, refl, refl)),
  );
  odd = λ what s fitting. (fitting, none s);
  requested = λ p reference name s fitting. (k.requested p reference name s fitting, none s);
  updated = λ p reference u s fitting. (k.updated p reference u s fitting, none s);
  freed = λ name reference s fitting. (k.freed name reference s fitting, none s);
}
  where
    k : OfSingle m NewOp AnyUpdate (λ s t. ReferencesFit s → ReferencesFit t.state) (λ s t. ReferencesFit s → ReferencesFit t.state)
    k = fitting_singly m

-- ---- runs

same_state : (s t : State) → t.references ≡ s.references → t.uses ≡ s.uses → t.stages ≡ s.stages → t.counts ≡ s.counts → ReferencesFit s → ReferencesFit t × AllFollow s t
same_state s t references uses stages counts fitting = (same_fitting s t references uses stages counts fitting, λ c. subst (λ f. UseFollows (s.uses c) (f c)) (sym uses) (follows_same (s.uses c)))

step_follows : (config : Config) (i : ℕ) (s : State) (input : Input Message Action) (turn : Turn State Message Report) → node_step config i s input ≡ Some turn → ReferencesFit s → ReferencesFit turn.state × AllFollow s turn.state
step_follows config i s (Taken p x) turn is fitting =
    let m = live_nodes (nodes_at config i) s in
    let t = took_so config i s p x turn is in
    subst (λ u. ReferencesFit u.state × AllFollow s u.state) (sym t.2)
    (taken_so m NewOp AnyUpdate Goes Goes (follows_singly m) (name_at config p) x s t.0
    (λ node groups _ _. same_state s _ refl refl refl refl) (λ pid _. same_state s _ refl refl refl refl) t.1 fitting)
step_follows config i s (Own action) turn is fitting =
    let m = live_nodes (nodes_at config i) s in
    let t = did_so config i s action turn is in
    subst (λ u. ReferencesFit u.state × AllFollow s u.state) (sym t.2)
    (acted_so m NewOp AnyUpdate Goes Goes (follows_singly m) (nodes_at config i) (λ pid u _ _ _. same_state u _ refl refl refl refl) (ports_at config i) action s t.0 (new_op s fitting) (λ port c u _ _. tt) t.1 fitting)

module _ (config : Config) (first : FrameWorld) where
  abbrev pub HasGone : FrameWorld → Type 0
  HasGone w = (i : ℕ) → ReferencesFit (w.node i) × AllFollow (first.node i) (w.node i)

  pub event_follows : (w v : FrameWorld) (e : Event Action) → Happened (machine_of config) w e v → HasGone w → HasGone v
  event_follows w v e h gone j =
      state_after (machine_of config) w v e h (λ s. ReferencesFit s × AllFollow (first.node j) s) j
      (λ same. subst (λ x. ReferencesFit h.turn.state × AllFollow (first.node x) h.turn.state) (sym same)
      (let before = gone (node_of e) in
      let next = step_follows config (node_of e) (w.node (node_of e)) h.input h.turn h.made before.0 in
      (next.0, λ c. follows_then ((first.node (node_of e)).uses c) ((w.node (node_of e)).uses c) (h.turn.state.uses c) (before.1 c) (next.1 c))))
      (λ _. gone j)

pub follows_timed : (config : Config) (w v : TimedFrameWorld) (before events : List (Event Action)) (i c : ℕ) → Reaches config before w → Leads (frame_machine config) w events v
    → UseFollows (((plain w).node i).uses c) (((plain v).node i).uses c)
follows_timed config w v before events i c reached l =
    (kept (machine_of config) (HasGone config (plain w)) (event_follows config (plain w)) events (plain w) (plain v)
    (plain_leads (machine_of config) CLOCK_LIMIT events w v l) (λ j. (fitting_timed config before w reached j, none ((plain w).node j))) i).1 c
