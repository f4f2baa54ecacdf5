-- Locks are exclusive among nodes that know of no loss of one another.
use Rattle.std.proofs.Common.{◌≡◌, ℕ, Bool, true, ap, sym, ◌∙◌, subst}
use Rattle.std.specs.List.{IsDistinct}
use Rattle.pg_term.specs.declared.term.Term.{Term}
use Rattle.pg_term.specs.Same.{same_atom}
use Rattle.pg_step.specs.PgGroup.declared.update.Update.{Update}
use Rattle.pg_step.specs.PgGroup.Value.{name_of}
use Rattle.pg_step.specs.PgLock.Locks.{is_holder}
use Rattle.pg_step.specs.PgRefs.Numbered.{numbered}
use Rattle.pg_step.specs.declared.command.OpId.{OpId}
use Rattle.pg_step.specs.Config.{Config, names_of, name_at}
use Rattle.pg_step.specs.Nodes.{Node}
use Rattle.pg_step.specs.State.{State, Status}
use Rattle.pg_step.specs.State.Status.{Yes}
use Rattle.pg_step.specs.State.Use.{Locking, Updating}
use Rattle.pg_laws.specs.Exclusive.{ExclusiveLocks, Holds, IsUpdateOf}
use Rattle.pg_laws.proofs.ends.Apart.{same_place}
use Rattle.pg_laws.proofs.references.Keys.{atoms}
use Rattle.pg_laws.proofs.references.Fitting.{is_owning}
use Rattle.pg_laws.proofs.locks.Named.{World}
use Rattle.pg_laws.proofs.locks.Kept.{Inv, Live, near, near_live}
use Rattle.pg_laws.proofs.locks.Unique.{owner_holds, yes_holds, one_update}
use Rattle.pg_laws.proofs.places.Shown.{IsHere}

-- the nodes that live, by their places, and a world that has them by their names
pub record Lives (config : Config) (lives : ℕ → Bool) (node : ℕ → State) (w : World) : Type 0 where
  pub inv : Inv w
  pub here : (i : ℕ) → lives i ≡ true → IsHere config i
  pub live : (i : ℕ) → lives i ≡ true → Live w.nodes w.seen (name_at config i)
  pub same : (i : ℕ) → lives i ≡ true → w.node (name_at config i) ≡ node i

module _ (config : Config) (apart : IsDistinct same_atom (names_of config)) (lives : ℕ → Bool) (node : ℕ → State) (w : World) (shown : Lives config lives node w) where
  uses_are : (i c : ℕ) → lives i ≡ true → (w.node (name_at config i)).uses c ≡ (node i).uses c
  uses_are i c here = ap (λ (z : State). z.uses c) (shown.same i here)

  held_there : (x i c : ℕ) (name : Term) → lives x ≡ true → is_holder ((w.node (name_at config x)).locks name) (numbered (name_at config i) c) ≡ true → Holds config node x i c name
  held_there x i c name here h = sym (ap (λ (z : State). is_holder (z.locks name) (numbered (name_at config i) c)) (shown.same x here)) ∙ h

  is_near : (i x : ℕ) → lives i ≡ true → lives x ≡ true → near w (name_at config i) (name_at config x)
  is_near i x here there = near_live w (name_at config i) (name_at config x) (shown.live i here) (shown.live x there)

  one_place : (i j : ℕ) → lives i ≡ true → lives j ≡ true → name_at config i ≡ name_at config j → i ≡ j
  one_place i j here there e = same_place config apart i j (shown.here i here) (shown.here j there) (ap (same_atom (name_at config i)) (sym e) ∙ atoms.refl (name_at config i))

  granted : (x i c : ℕ) (op : OpId) (update : Update) (first : Node) (status : Node → Status) → lives x ≡ true → lives i ≡ true → (node i).uses c ≡ Locking op update first status → status (name_at config x) ≡ Yes → Holds config node x i c (name_of update)
  granted x i c op update first status there here is grants =
      held_there x i c (name_of update) there (yes_holds w shown.inv (name_at config i) c op update first status (name_at config x) (is_near i x here there) (uses_are i c here ∙ is) grants)

  held : (x i n : ℕ) (op : OpId) (update : Update) (lock : ℕ) (replied : Node → Bool) → lives x ≡ true → lives i ≡ true → (node i).uses n ≡ Updating op update lock replied → Holds config node x i lock (name_of update)
  held x i n op update lock replied there here is =
      held_there x i lock (name_of update) there
      (owner_holds w shown.inv (name_at config i) lock (name_of update) n (name_at config x) (is_near i x here there)
      (is_owning (shown.inv.fitting (name_at config i)) n op update lock replied (uses_are i n here ∙ is)))

  one : (i j n k : ℕ) (name : Term) → lives i ≡ true → lives j ≡ true → IsUpdateOf name ((node i).uses n) → IsUpdateOf name ((node j).uses k) → (i ≡ j) × (n ≡ k)
  one i j n k name here there f g =
      let both = one_update w shown.inv (name_at config i) n (name_at config j) k name (name_at config i) (is_near i i here here) (is_near j i there here)
      (subst (IsUpdateOf name) (sym (uses_are i n here)) f) (subst (IsUpdateOf name) (sym (uses_are j k there)) g) in
      (one_place i j here there both.0, both.1)

  pub are_exclusive : ExclusiveLocks config lives node
  are_exclusive = record { granted = granted; held = held; one_update = one }
