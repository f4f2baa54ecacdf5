-- The turns of an attempt keep together what belongs together of references, commands and counts.
use Rattle.std.proofs.Common.{◌≡◌, ◌≢◌, ℕ, ◌+◌, ◌<◌, ◌≤◌, Bool, nat_eq, refl, ap, sym, ◌∙◌, subst, arith}
use Rattle.std.proofs.lemmas.Bool.{eqb-true, eqb-false}
use Rattle.pg_term.specs.declared.term.Term.{Term}
use Rattle.pg_term.specs.Same.{same_atom}
use Rattle.pg_step.specs.PgGroup.declared.update.Update.{Update}
use Rattle.pg_step.specs.PgGroup.Functions.{upd}
use Rattle.pg_step.specs.PgGroup.Value.{name_of}
use Rattle.pg_step.specs.PgGroup.Table.{Table, changed}
use Rattle.pg_step.proofs.PgGroup.Changes.{upd_at, upd_by}
use Rattle.pg_step.specs.declared.command.OpId.{OpId}
use Rattle.pg_step.specs.Nodes.{Node, Nodes}
use Rattle.pg_step.specs.State.{State, Status, Use, Stage}
use Rattle.pg_step.specs.State.Status.{Unasked}
use Rattle.pg_step.specs.State.Use.{Fresh, Locking, Owning, Updating, Spent}
use Rattle.pg_step.specs.State.Stage.{Closed, Waiting, Asking, Changing}
use Rattle.pg_step.specs.Attempts.{same_op, new_attempt, give_up, begin, finish}
use Rattle.pg_laws.specs.ReferencesFit.{Fits, ReferencesFit}
use Rattle.pg_laws.proofs.references.Fitting.{op_is, is_op, here, elsewhere, fits_still, fits_later}
use Rattle.pg_laws.proofs.references.Fitting.{fit_at, asking_is, changing_is, owning_is}

-- uses and stages of different kinds
other_use : {x : Use} {op : OpId} {u : Update} {lead : Node} {st : Node → Status} {name : Term} {n : ℕ} → x ≡ Locking op u lead st → x ≡ Owning name n → ⊥
other_use a b = absurd (cc (sym a ∙ b))

change_owns : {x : Use} {op : OpId} {u : Update} {c : ℕ} {replied : Node → Bool} {name : Term} {n : ℕ} → x ≡ Updating op u c replied → x ≡ Owning name n → ⊥
change_owns a b = absurd (cc (sym a ∙ b))

fresh_owns : {x : Use} {name : Term} {n : ℕ} → x ≡ Fresh → x ≡ Owning name n → ⊥
fresh_owns a b = absurd (cc (sym a ∙ b))

fresh_locks : {x : Use} {op : OpId} {u : Update} {lead : Node} {st : Node → Status} → x ≡ Fresh → x ≡ Locking op u lead st → ⊥
fresh_locks a b = absurd (cc (sym a ∙ b))

fresh_changes : {x : Use} {op : OpId} {u : Update} {c : ℕ} {replied : Node → Bool} → x ≡ Fresh → x ≡ Updating op u c replied → ⊥
fresh_changes a b = absurd (cc (sym a ∙ b))

waits_asks : {x : Stage} {u : Update} {c : ℕ} → x ≡ Waiting u → x ≡ Asking c → ⊥
waits_asks a b = absurd (cc (sym a ∙ b))

waits_changes : {x : Stage} {u : Update} {c : ℕ} → x ≡ Waiting u → x ≡ Changing c → ⊥
waits_changes a b = absurd (cc (sym a ∙ b))

asks_changes : {x : Stage} {c n : ℕ} → x ≡ Asking c → x ≡ Changing n → ⊥
asks_changes a b = absurd (cc (sym a ∙ b))

pub waits_closed : {x : Stage} {u : Update} → x ≡ Waiting u → x ≡ Closed → ⊥
waits_closed a b = absurd (cc (sym a ∙ b))

pub asks_closed : {x : Stage} {c : ℕ} → x ≡ Asking c → x ≡ Closed → ⊥
asks_closed a b = absurd (cc (sym a ∙ b))

module _ (s : State) (fitting : ReferencesFit s) where
  -- a command that is open has come in
  closed_still : (op : OpId) (new : Stage) → (s.stages op ≡ Closed → ⊥) → (other : OpId) → s.counts other.port < other.number → upd same_op s.stages op new other ≡ Closed
  closed_still op new open_ other below = upd_by same_op s.stages op (λ x. x ≡ Closed) new other
      (λ same. absurd (open_ (ap s.stages (op_is op other same) ∙ fitting.closed other below))) (λ _. fitting.closed other below)

  -- a reference that is of use is made
  made_is : (c : ℕ) (d : ℕ) → (s.uses c ≡ Fresh → ⊥) → s.references < d → c ≢ d
  made_is c d used above same = used (fitting.fresh c (subst (λ z. s.references < z) (sym same) above))

  -- an attempt under a reference that was not made yet
  pub attempted_at : (r made : ℕ) → s.references < r → r ≤ made → (lead : Node) (op : OpId) (u : Update) → s.stages op ≡ Waiting u
      → ReferencesFit (record s { references = made; uses = upd nat_eq s.uses r (Locking op u lead (λ q. Unasked)); stages = upd same_op s.stages op (Asking r) })
  attempted_at r made new within lead op u waits = record {
    fresh = λ c above. elsewhere s.uses r first c (λ same. let e : r ≡ c = same in absurd (omega (arith, within, above))) ∙ fitting.fresh c (omega (arith, new, within, above));
    fits = λ c. upd_by nat_eq s.uses r (λ x. Fits c x stages uses) first c
        (λ same. upd_at same_op s.stages op (Asking r) (is_op op) ∙ ap Asking (eqb-true r c same))
        (λ _. fits_still c (s.uses c) s.stages op (Asking r) s.uses uses (waits_asks waits) (waits_changes waits)
        (λ d name owns. elsewhere s.uses r first d (λ same. fresh_owns (fitting.fresh r new) (ap s.uses same ∙ owns))) (fitting.fits c));
    closed = closed_still op (Asking r) (waits_closed waits);
  }
    where
      first : Use
      first = Locking op u lead (λ q. Unasked)

      uses : ℕ → Use
      uses = upd nat_eq s.uses r first

      stages : OpId → Stage
      stages = upd same_op s.stages op (Asking r)

  pub attempted_keeps : (lead : Node) (op : OpId) (u : Update) → s.stages op ≡ Waiting u → ReferencesFit ((new_attempt lead op u s).state)
  attempted_keeps = attempted_at (s.references + 1) (s.references + 1) (omega arith) (omega arith)

  -- what is asked or answered changes
  pub relock : (t : State) (c : ℕ) (op : OpId) (u : Update) (lead : Node) (st later : Node → Status) → s.uses c ≡ Locking op u lead st → t.references ≡ s.references → t.stages ≡ s.stages → t.counts ≡ s.counts
      → t.uses ≡ upd nat_eq s.uses c (Locking op u lead later) → ReferencesFit t
  relock t c op u lead st later is made stages counts uses = record {
    fresh = λ d above.
        let over : s.references < d = subst (λ n. n < d) made above in
        ap (λ (f : ℕ → Use). f d) uses ∙ elsewhere s.uses c (Locking op u lead later) d (made_is c d (λ fresh. fresh_locks fresh is) over) ∙ fitting.fresh d over;
    fits = λ d. subst (λ (f : ℕ → Use). Fits d (f d) t.stages f) (sym uses) (subst (λ (g : OpId → Stage). Fits d (upd nat_eq s.uses c (Locking op u lead later) d) g (upd nat_eq s.uses c (Locking op u lead later))) (sym stages)
        (upd_by nat_eq s.uses c (λ x. Fits d x s.stages (upd nat_eq s.uses c (Locking op u lead later))) (Locking op u lead later) d
        (λ same. fit_at s fitting c (Locking op u lead st) is ∙ ap Asking (eqb-true c d same))
        (λ _. fits_later d (s.uses d) s.stages s.uses (upd nat_eq s.uses c (Locking op u lead later))
        (λ k name owns. elsewhere s.uses c (Locking op u lead later) k (λ same. other_use (sym (ap s.uses same) ∙ is) owns)) (fitting.fits d))));
    closed = λ other below. ap (λ (g : OpId → Stage). g other) stages ∙ fitting.closed other (subst (λ (f : ℕ → ℕ). f other.port < other.number) counts below);
  }

  pub given_up_keeps : (m : Nodes) (c : ℕ) (op : OpId) (u : Update) (lead : Node) (st : Node → Status) → s.uses c ≡ Locking op u lead st → ReferencesFit ((give_up m c op u st s).state)
  given_up_keeps m c op u lead st is = record {
    fresh = λ d above. elsewhere s.uses c Spent d (made_is c d (λ fresh. fresh_locks fresh is) above) ∙ fitting.fresh d above;
    fits = λ d. upd_by nat_eq s.uses c (λ x. Fits d x (upd same_op s.stages op (Waiting u)) (upd nat_eq s.uses c Spent)) Spent d (λ _. tt)
        (λ other. fits_still d (s.uses d) s.stages op (Waiting u) s.uses (upd nat_eq s.uses c Spent)
        (λ asks. eqb-false c d other (asking_is (sym asking ∙ asks))) (asks_changes asking)
        (λ k name owns. elsewhere s.uses c Spent k (λ same. other_use (sym (ap s.uses same) ∙ is) owns)) (fitting.fits d));
    closed = closed_still op (Waiting u) (asks_closed asking);
  }
    where
      asking : s.stages op ≡ Asking c
      asking = fit_at s fitting c (Locking op u lead st) is

  pub confirmed_keeps : (t : State) (n : ℕ) (op : OpId) (u : Update) (c : ℕ) (replied later : Node → Bool) → s.uses n ≡ Updating op u c replied → t.references ≡ s.references → t.stages ≡ s.stages → t.counts ≡ s.counts
      → t.uses ≡ upd nat_eq s.uses n (Updating op u c later) → ReferencesFit t
  confirmed_keeps t n op u c replied later is made stages counts uses = record {
    fresh = λ d above.
        let over : s.references < d = subst (λ k. k < d) made above in
        ap (λ (f : ℕ → Use). f d) uses ∙ elsewhere s.uses n (Updating op u c later) d (made_is n d (λ fresh. fresh_changes fresh is) over) ∙ fitting.fresh d over;
    fits = λ d. subst (λ (f : ℕ → Use). Fits d (f d) t.stages f) (sym uses) (subst (λ (g : OpId → Stage). Fits d (upd nat_eq s.uses n (Updating op u c later) d) g (upd nat_eq s.uses n (Updating op u c later))) (sym stages)
        (upd_by nat_eq s.uses n (λ x. Fits d x s.stages (upd nat_eq s.uses n (Updating op u c later))) (Updating op u c later) d
        (λ same. subst (λ k. (s.stages op ≡ Changing k) × (upd nat_eq s.uses n (Updating op u c later) c ≡ Owning (name_of u) k)) (eqb-true n d same)
        ((fit_at s fitting n (Updating op u c replied) is).0, elsewhere s.uses n (Updating op u c later) c (λ one. change_owns (sym (ap s.uses one) ∙ is) (fit_at s fitting n (Updating op u c replied) is).1) ∙ (fit_at s fitting n (Updating op u c replied) is).1))
        (λ _. fits_later d (s.uses d) s.stages s.uses (upd nat_eq s.uses n (Updating op u c later))
        (λ k name owns. elsewhere s.uses n (Updating op u c later) k (λ same. change_owns (sym (ap s.uses same) ∙ is) owns)) (fitting.fits d))));
    closed = λ other below. ap (λ (g : OpId → Stage). g other) stages ∙ fitting.closed other (subst (λ (f : ℕ → ℕ). f other.port < other.number) counts below);
  }

  pub finished_keeps : (m : Nodes) (n : ℕ) (op : OpId) (u : Update) (c : ℕ) (replied : Node → Bool) → s.uses n ≡ Updating op u c replied → ReferencesFit ((finish m n op u c s).state)
  finished_keeps m n op u c replied is = record {
    fresh = λ d above.
        elsewhere (upd nat_eq s.uses c Spent) n Spent d (made_is n d (λ fresh. fresh_changes fresh is) above)
        ∙ elsewhere s.uses c Spent d (made_is c d (λ fresh. fresh_owns fresh fit.1) above) ∙ fitting.fresh d above;
    fits = λ d. upd_by nat_eq (upd nat_eq s.uses c Spent) n (λ x. Fits d x (upd same_op s.stages op Closed) (upd nat_eq (upd nat_eq s.uses c Spent) n Spent)) Spent d (λ _. tt)
        (λ other. upd_by nat_eq s.uses c (λ x. Fits d x (upd same_op s.stages op Closed) (upd nat_eq (upd nat_eq s.uses c Spent) n Spent)) Spent d (λ _. tt)
        (λ _. fits_still d (s.uses d) s.stages op Closed s.uses (upd nat_eq (upd nat_eq s.uses c Spent) n Spent)
        (λ asks. asks_changes asks fit.0) (λ changes. eqb-false n d other (changing_is (sym fit.0 ∙ changes)))
        (λ k name owns.
        elsewhere (upd nat_eq s.uses c Spent) n Spent k (λ same. change_owns (sym (ap s.uses same) ∙ is) owns)
        ∙ elsewhere s.uses c Spent k (λ same. eqb-false n d other (owning_is (sym fit.1 ∙ ap s.uses same ∙ owns)))) (fitting.fits d)));
    closed = λ other below. upd_by same_op s.stages op (λ x. x ≡ Closed) Closed other (λ _. refl) (λ _. fitting.closed other below);
  }
    where
      fit : (s.stages op ≡ Changing n) × (s.uses c ≡ Owning (name_of u) n)
      fit = fit_at s fitting n (Updating op u c replied) is

  -- an update under a reference that was not made yet
  pub begun_at : (m : Nodes) (r made : ℕ) (table : Table) → s.references < r → r ≤ made → (c : ℕ) (op : OpId) (u : Update) (lead : Node) (st : Node → Status) → s.uses c ≡ Locking op u lead st
      → ReferencesFit (record s {
        table = table;
        references = made;
        uses = upd nat_eq (upd nat_eq s.uses c (Owning (name_of u) r)) r (Updating op u c (same_atom m.own));
        stages = upd same_op s.stages op (Changing r);
      })
  begun_at m r made table new within c op u lead st is = record {
    fresh = λ d above.
        elsewhere owned r change d (λ same. let e : r ≡ d = same in absurd (omega (arith, within, above)))
        ∙ elsewhere s.uses c own d (made_is c d (λ fresh. fresh_locks fresh is) (omega (arith, new, within, above))) ∙ fitting.fresh d (omega (arith, new, within, above));
    fits = λ d. upd_by nat_eq owned r (λ x. Fits d x stages uses) change d
        (λ same. subst (λ k. (stages op ≡ Changing k) × (uses c ≡ Owning (name_of u) k)) (eqb-true r d same)
        (upd_at same_op s.stages op (Changing r) (is_op op), elsewhere owned r change c (λ one. lower (sym one)) ∙ here s.uses c own))
        (λ _. upd_by nat_eq s.uses c (λ x. Fits d x stages uses) own d (λ _. tt)
        (λ other. fits_still d (s.uses d) s.stages op (Changing r) s.uses uses
        (λ asks. eqb-false c d other (asking_is (sym asking ∙ asks))) (asks_changes asking)
        (λ k name owns.
        elsewhere owned r change k (λ same. fresh_owns (fitting.fresh r new) (ap s.uses same ∙ owns))
        ∙ elsewhere s.uses c own k (λ same. other_use (sym (ap s.uses same) ∙ is) owns)) (fitting.fits d)));
    closed = closed_still op (Changing r) (asks_closed asking);
  }
    where
      own : Use
      own = Owning (name_of u) r

      change : Use
      change = Updating op u c (same_atom m.own)

      owned : ℕ → Use
      owned = upd nat_eq s.uses c own

      uses : ℕ → Use
      uses = upd nat_eq owned r change

      stages : OpId → Stage
      stages = upd same_op s.stages op (Changing r)

      asking : s.stages op ≡ Asking c
      asking = fit_at s fitting c (Locking op u lead st) is

      lower : c ≢ r
      lower = made_is c r (λ fresh. fresh_locks fresh is) new

  pub begun_keeps : (m : Nodes) (c : ℕ) (op : OpId) (u : Update) (lead : Node) (st : Node → Status) → s.uses c ≡ Locking op u lead st → ReferencesFit ((begin m c op u s).state)
  begun_keeps m c op u = begun_at m (s.references + 1) (s.references + 1) (changed s.table u s.ended) (omega arith) (omega arith) c op u
