-- At most one update of a name is under way.
use Rattle.std.proofs.Common.{◌≡◌, ℕ, Bool, true, Option, Some, None, refl, ap, sym, ◌∙◌, subst}
use Rattle.pg_term.specs.declared.term.Term.{Term}
use Rattle.pg_term.specs.RefParts.{RefParts}
use Rattle.pg_step.specs.PgRefs.Numbered.{numbered}
use Rattle.pg_step.specs.PgGroup.declared.update.Update.{Update}
use Rattle.pg_step.specs.PgGroup.Value.{name_of}
use Rattle.pg_step.specs.PgLock.Locks.{is_holder}
use Rattle.pg_step.specs.declared.command.OpId.{OpId}
use Rattle.pg_step.specs.Nodes.{Node}
use Rattle.pg_step.specs.State.{Status, Use}
use Rattle.pg_step.specs.State.Status.{Yes}
use Rattle.pg_step.specs.State.Use.{Fresh, Spent, Locking, Owning, Updating}
use Rattle.pg_laws.proofs.references.Fitting.{is_owning}
use Rattle.pg_laws.proofs.references.Keys.{terms}
use Rattle.pg_laws.proofs.references.References.{references, numbered_apart}
use Rattle.pg_laws.proofs.locks.Lines.{shows, Fits, FitsStatus}
use Rattle.pg_laws.proofs.locks.Lines.Line.{Having}
use Rattle.pg_laws.proofs.locks.Named.{World}
use Rattle.pg_laws.specs.Exclusive.{IsUpdateOf}
use Rattle.pg_laws.proofs.locks.Kept.{talk, near, Inv}

pub record IsUpdate (N : Term) (x : Use) : Type 0 where
  pub op : OpId
  pub update : Update
  pub lock : ℕ
  pub rep : Node → Bool
  pub name : name_of update ≡ N
  pub is : x ≡ Updating op update lock rep

pub update_is : (N : Term) (x : Use) → IsUpdateOf N x → IsUpdate N x
update_is N (Updating op u c rep) h = record { op = op; update = u; lock = c; rep = rep; name = h; is = refl }
update_is N Fresh h = absurd h
update_is N Spent h = absurd h
update_is N (Locking op u lead st) h = absurd h
update_is N (Owning M n) h = absurd h

-- two references that hold one lock are one
pub one_ref : (i j : Node) (c k : ℕ) (o : Option RefParts) → is_holder o (numbered i c) ≡ true → is_holder o (numbered j k) ≡ true → (i ≡ j) × (c ≡ k)
one_ref i j c k None e f = absurd (cc)
one_ref i j c k (Some r) e f = numbered_apart i j c k (sym (references.is r (numbered i c) e) ∙ references.is r (numbered j k) f)

module _ (w : World) (inv : Inv w) where
  -- an owner holds the lock at every node that it is near
  pub owner_holds : (i : Node) (c : ℕ) (N : Term) (n : ℕ) (p : Node) → near w i p → (w.node i).uses c ≡ Owning N n → is_holder ((w.node p).locks N) (numbered i c) ≡ true
  owner_holds i c N n p m is =
      let l : talk w i c p = inv.lines i c p m in
      (shows l (Having N) (subst (λ x. Fits x p l.line) is l.fits)).hold_is N ∙ terms.refl N

  -- so does a lock reference at each node that said yes
  pub yes_holds : (i : Node) (c : ℕ) (op : OpId) (u : Update) (lead : Node) (st : Node → Status) (p : Node) → near w i p → (w.node i).uses c ≡ Locking op u lead st → st p ≡ Yes → is_holder ((w.node p).locks (name_of u)) (numbered i c) ≡ true
  yes_holds i c op u lead st p m is y =
      let l : talk w i c p = inv.lines i c p m in
      let f : FitsStatus (name_of u) (st p) l.line = subst (λ x. Fits x p l.line) is l.fits in
      (shows l (Having (name_of u)) (subst (λ v. FitsStatus (name_of u) v l.line) y f)).hold_is (name_of u) ∙ terms.refl (name_of u)

  pub update_owner : (i : Node) (n : ℕ) (N : Term) → (d : IsUpdate N ((w.node i).uses n)) → (w.node i).uses d.lock ≡ Owning N n
  update_owner i n N d = is_owning (inv.fitting i) n d.op d.update d.lock d.rep d.is ∙ ap (λ M. Owning M n) d.name

  pub update_holds : (i : Node) (n : ℕ) (N : Term) (p : Node) → near w i p → (d : IsUpdate N ((w.node i).uses n)) → is_holder ((w.node p).locks N) (numbered i d.lock) ≡ true
  update_holds i n N p m d = owner_holds i d.lock N n p m (update_owner i n N d)

  -- near one node there is one update of a name
  pub one_update : (i : Node) (n : ℕ) (j : Node) (k : ℕ) (N : Term) (p : Node) → near w i p → near w j p → IsUpdateOf N ((w.node i).uses n) → IsUpdateOf N ((w.node j).uses k) → (i ≡ j) × (n ≡ k)
  one_update i n j k N p m m' f g =
      let d = update_is N ((w.node i).uses n) f in
      let e = update_is N ((w.node j).uses k) g in
      let r = one_ref i j d.lock e.lock ((w.node p).locks N) (update_holds i n N p m d) (update_holds j k N p m' e) in
      let own : (w.node i).uses d.lock ≡ Owning N n = update_owner i n N d in
      let own' : (w.node j).uses e.lock ≡ Owning N k = update_owner j k N e in
      let same : (w.node i).uses d.lock ≡ (w.node j).uses e.lock = ap (λ x. (w.node x).uses d.lock) r.0 ∙ ap (w.node j).uses r.1 in
      (r.0, cc)
