-- What a node counts of its peers, what is taken back of it, and what goes on then.
use Rattle.std.proofs.Common.{◌≡◌, ℕ, Bool, true, false, not, cond, nat_eq, refl, sym, ap, ◌∙◌, Option, Some, None}
use Rattle.std.proofs.lemmas.Bool.{eqb-true, eq-eqb}
use Rattle.pg_term.specs.Same.{same_atom}
use Rattle.pg_node_ports.specs.PgGroup.Functions.{upd}
use Rattle.pg_node_ports.specs.PgGroup.declared.update.Update.{Update as Change}
use Rattle.pg_node_ports.proofs.PgGroup.Changes.{upd_same, upd_twice, upd_at}
use Rattle.pg_node_ports.specs.PgMessageTypes.declared.message.Said.TheVariants.{Applied}
use Rattle.pg_node_ports.specs.PgMulticall.Gathered.{what_of}
use Rattle.pg_node_ports.specs.PgMulticall.declared.gather.Taken.TheVariants.{Counted}
use Rattle.pg_node_ports.specs.PgStep.declared.command.OpId.{OpId}
use Rattle.pg_node_ports.specs.PgStep.Nodes.{Node, Nodes, is_peer, every}
use Rattle.pg_node_ports.specs.PgStep.State.{State, Status, Use}
use Rattle.pg_node_ports.specs.PgStep.State.Status.{Unasked, Asked, Yes, No}
use Rattle.pg_node_ports.specs.PgStep.State.Use.{Fresh, Locking, Owning, Updating, Spent}
use Rattle.pg_node_ports.specs.PgStep.Attempts.{go_on, gathered, lock_entry, counted, count_answer}
use Rattle.pg_node_ports.specs.PgStep.Attempts.{count_ok, lock_status, replies_in, finish}
use Rattle.pg_node_ports.specs.PgStep.Turns.{becomes}
use Rattle.pg_node_ports.specs.PgMessageTypes.declared.message.Said.{Said}
use Rattle.pg_node_ports.specs.PgNodeOpens.Outlooks.{outlook_of, turn_by}
use Rattle.pg_node_ports.specs.PgNodeOpens.declared.outlook.Outlook.{Outlook}
use Rattle.pg_node_ports.specs.PgNodeOpens.declared.command.Gathering.{Gathering}
use Rattle.pg_node_ports.specs.PgNodeOpens.declared.command.Gathering.TheVariants.{Lock, Update}
use Rattle.pg_node_ports.specs.PgNodeOpens.declared.opens.Opens.{Opens}
use Rattle.pg_node_ports.specs.PgNodeOpens.Opens.{names_of, live_of}
use Rattle.pg_node_ports.specs.PgNodeOpens.Places.{name_at, lost_in}
use Rattle.pg_node_ports.specs.PgNodeOpens.Readings.{gathering_of, is_locking, is_updating, update_of}
use Rattle.pg_node_ports.proofs.PgNodeOpens.Named.{atom_is, clash}
use Rattle.pg_node_ports.proofs.PgNodeOpens.Asking.{own_no_peer}
use Rattle.pg_node_state.proofs.Given.{op_in, lock_in}

-- no peer that counts has the own name
pub own_apart : (opens : Opens) (q : Node) → is_peer (live_of opens) q ≡ true → same_atom (name_at (names_of opens) 0) q ≡ false
own_apart opens q peer = go (same_atom (name_at (names_of opens) 0) q) refl
  where
    go : (b : Bool) → same_atom (name_at (names_of opens) 0) q ≡ b → b ≡ false
    go false e = refl
    go true e = absurd (clash (sym (ap (is_peer (live_of opens)) (atom_is (name_at (names_of opens) 0) q e) ∙ peer)
        ∙ own_no_peer (names_of opens) opens.lost.items opens.apart opens.places (λ x. not (lost_in (names_of opens) opens.lost.items x)) (names_of opens) opens.apart))

-- ---- what is gathered under a reference

pub record Locks (used : Use) (op : OpId) : Type 0 where
  pub update : Change
  pub first : Node
  pub st : Node → Status
  pub is : used ≡ Locking op update first st

pub locks_by : (used : Use) (op : OpId) → gathering_of used ≡ Lock op → Locks used op
locks_by Fresh op e = absurd (cc)
locks_by (Locking other update first st) op e = record { update = update; first = first; st = st; is = ap (λ (o : OpId). Locking o update first st) (ap (λ (g : Gathering). op_in op g) e) }
locks_by (Owning name update) op e = absurd (cc)
locks_by (Updating other update lock replied) op e = absurd (cc)
locks_by Spent op e = absurd (cc)

-- the same, whatever command it is for
pub record LockParts (used : Use) : Type 0 where
  pub op : OpId
  pub update : Change
  pub first : Node
  pub st : Node → Status
  pub is : used ≡ Locking op update first st

pub parts_by : (used : Use) → is_locking used ≡ true → LockParts used
parts_by Fresh e = absurd (cc)
parts_by (Locking op update first st) e = record { op = op; update = update; first = first; st = st; is = refl }
parts_by (Owning name update) e = absurd (cc)
parts_by (Updating op update lock replied) e = absurd (cc)
parts_by Spent e = absurd (cc)

pub record Updates (used : Use) (op : OpId) (lock : ℕ) : Type 0 where
  pub update : Change
  pub replied : Node → Bool
  pub is : used ≡ Updating op update lock replied

pub updates_by : (used : Use) (op : OpId) (lock : ℕ) → gathering_of used ≡ Update op lock → Updates used op lock
updates_by Fresh op lock e = absurd (cc)
updates_by (Locking other update first st) op lock e = absurd (cc)
updates_by (Owning name update) op lock e = absurd (cc)
updates_by (Updating other update c replied) op lock e = record {
  update = update;
  replied = replied;
  is = λ i. Updating (ap (λ (g : Gathering). op_in op g) e i) update (ap (λ (g : Gathering). lock_in lock g) e i) replied;
}
updates_by Spent op lock e = absurd (cc)

-- a request for a lock, whatever command it is for
pub locking_is : (used : Use) (op : OpId) → gathering_of used ≡ Lock op → is_locking used ≡ true
locking_is Fresh op e = absurd (cc)
locking_is (Locking other update first st) op e = refl
locking_is (Owning name update) op e = absurd (cc)
locking_is (Updating other update lock replied) op e = absurd (cc)
locking_is Spent op e = absurd (cc)

pub updating_is : (used : Use) (op : OpId) (lock : ℕ) → gathering_of used ≡ Update op lock → is_updating used ≡ true
updating_is Fresh op lock e = absurd (cc)
updating_is (Locking other update first st) op lock e = absurd (cc)
updating_is (Owning name update) op lock e = absurd (cc)
updating_is (Updating other update c replied) op lock e = refl
updating_is Spent op lock e = absurd (cc)

-- what goes on, by the outlook
pub goes_on : (m : Nodes) (c : ℕ) (op : OpId) (update : Change) (first : Node) (st : Node → Status) (s : State) (granted : Bool) (used : Use) → used ≡ Locking op update first st
    → go_on m c (Locking op update first st) s ≡ turn_by (outlook_of m granted (Locking op update first st)) m c op update first st s
    → (found : Outlook) → found ≡ outlook_of m granted used → (outlook : Outlook) → found ≡ outlook → go_on m c used s ≡ turn_by outlook m c op update first st s
goes_on m c op update first st s granted used is step found looks outlook e = ap (λ (u : Use). go_on m c u s) is
    ∙ (step ∙ ap (λ (o : Outlook). turn_by o m c op update first st s) (ap (outlook_of m granted) (sym is) ∙ (sym looks ∙ e)))

-- ---- what is counted, and taken back

module _ (uses : ℕ → Use) (c : ℕ) (op : OpId) (update : Change) where
  -- a counted answer was waited for
  waited : (u : Status) (b : Bool) → what_of true (lock_entry u b) ≡ Counted → u ≡ Asked
  waited Unasked b e = absurd (cc)
  waited Asked b e = refl
  waited Yes true e = absurd (cc)
  waited Yes false e = absurd (cc)
  waited No true e = absurd (cc)
  waited No false e = absurd (cc)

  pub answer_back : (first : Node) (st : Node → Status) (p : Node) (answer : Status) → uses c ≡ Locking op update first st → what_of true (gathered (uses c) p) ≡ Counted
      → upd nat_eq (upd nat_eq uses c (Locking op update first (upd same_atom st p answer))) c (Locking op update first (upd same_atom (upd same_atom st p answer) p Asked)) ≡ uses
  answer_back first st p answer is new =
      ap (λ (f : Node → Status). upd nat_eq (upd nat_eq uses c (Locking op update first (upd same_atom st p answer))) c (Locking op update first f))
      (upd_twice same_atom st p answer Asked ∙ upd_same same_atom st p (atom_is p) Asked (sym (waited (st p) (same_atom first p) (sym (ap (λ (u : Use). what_of true (gathered u p)) is) ∙ new))))
      ∙ (upd_twice nat_eq uses c (Locking op update first (upd same_atom st p answer)) (Locking op update first st)
      ∙ upd_same nat_eq uses c (λ x e. eqb-true c x e) (Locking op update first st) (sym is))

  heard_not : (b : Bool) → what_of true (Some (cond b (Some Applied) None)) ≡ Counted → b ≡ false
  heard_not true e = absurd (cc)
  heard_not false e = refl

  pub ok_back : (lock : ℕ) (replied : Node → Bool) (p : Node) → uses c ≡ Updating op update lock replied → what_of true (gathered (uses c) p) ≡ Counted
      → upd nat_eq (upd nat_eq uses c (Updating op update lock (upd same_atom replied p true))) c (Updating op update lock (upd same_atom (upd same_atom replied p true) p false)) ≡ uses
  ok_back lock replied p is new =
      ap (λ (f : Node → Bool). upd nat_eq (upd nat_eq uses c (Updating op update lock (upd same_atom replied p true))) c (Updating op update lock f))
      (upd_twice same_atom replied p true false ∙ upd_same same_atom replied p (atom_is p) false (sym (heard_not (replied p) (sym (ap (λ (u : Use). what_of true (gathered u p)) is) ∙ new))))
      ∙ (upd_twice nat_eq uses c (Updating op update lock (upd same_atom replied p true)) (Updating op update lock replied)
      ∙ upd_same nat_eq uses c (λ x e. eqb-true c x e) (Updating op update lock replied) (sym is))

-- ---- the update of what is gathered

pub locking_update : (used : Use) (found : Option Change) (op : OpId) (update : Change) (first : Node) (st : Node → Status) → found ≡ update_of used → used ≡ Locking op update first st → found ≡ Some update
locking_update used found op update first st e is = e ∙ ap update_of is

pub updating_update : (used : Use) (found : Option Change) (op : OpId) (update : Change) (lock : ℕ) (replied : Node → Bool) → found ≡ update_of used → used ≡ Updating op update lock replied → found ≡ Some update
updating_update used found op update lock replied e is = e ∙ ap update_of is

-- ---- what a counted reply leads to

pub counted_answer : (used : Use) (op : OpId) (update : Change) (first : Node) (st : Node → Status) → used ≡ Locking op update first st → (m : Nodes) (p : Node) (c : ℕ) (said : Said) (s : State)
    → counted used m p c said s ≡ go_on m c ((count_answer c op update first st p (lock_status said) s).state.uses c) (count_answer c op update first st p (lock_status said) s).state
counted_answer used op update first st is m p c said s = ap (λ (u : Use). counted u m p c said s) is

pub counted_ok : (used : Use) (op : OpId) (update : Change) (lock : ℕ) (replied : Node → Bool) → used ≡ Updating op update lock replied → (m : Nodes) (p : Node) (u : ℕ) (said : Said) (s : State)
    → counted used m p u said s ≡ cond (every m (upd same_atom replied p true)) (finish m u op update lock (count_ok u op update lock replied p s).state) (becomes (count_ok u op update lock replied p s).state)
counted_ok used op update lock replied is m p u said s = ap (λ (w : Use). counted w m p u said s) is
    ∙ ap (λ (w : Use). replies_in m u w (count_ok u op update lock replied p s).state) (upd_at nat_eq s.uses u (Updating op update lock (upd same_atom replied p true)) (eq-eqb u u refl))
