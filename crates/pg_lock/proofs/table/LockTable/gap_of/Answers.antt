use Rattle.std.proofs.Common.{◌≡◌, true, false, ◌&&◌, Option, Some, None, refl, sym, ap, ◌∙◌}
use Rattle.std.specs.BTreeMap.{get}
use Rattle.std.specs.Option.{is_some}
use Rattle.pg_term.specs.RefParts.{RefParts}
use Rattle.pg_term.specs.Same.{term_cmp}
use Rattle.pg_lock.specs.Holders.{first_holder, holder_among}
use Rattle.pg_lock.specs.Locks.{locks_of, is_free}
use Rattle.pg_lock.proofs.Sorted.{found_so, absent}
use Rattle.pg_lock.proofs.table.LockTable.gap_of.Goals as goal

held_near : (near far : Option RefParts) → is_some near ≡ true → false ≡ is_free (first_holder near far)
held_near None far is = absurd (cc is)
held_near (Some holder) far is = refl

free_far : (far : Option RefParts) → false ≡ is_some far → true ≡ is_free far
free_far None is = refl
free_far (Some holder) is = sym is

pub returns-in_default-clause-granted : goal.returns-in_default-clause-granted
returns-in_default-clause-granted c =
    held_near (holder_among c.args.self.now.sorted.items c.args.name.now) (get term_cmp c.args.self.now.beyond c.args.name.now)
    (found_so c.args.self.now.sorted.items c.args.name.now c.in_default.field-0 c.args.self.now.ordered c.in_default.ensures.bound c.in_default.ensures.place)
    ∙ ap (λ formed. formed && is_free (locks_of c.args.self.now c.args.name.now)) (sym c.if-not-formed.false)

pub returns-clause-granted : goal.returns-clause-granted
returns-clause-granted c =
    let far = get term_cmp c.args.self.now.beyond c.args.name.now in
    free_far far c.if-contains_key.ensures
    ∙ (ap (λ near. is_free (first_holder near far)) (sym (absent c.args.self.now.sorted.items c.args.name.now c.in-Err.gap c.args.self.now.ordered c.in-Err.ensures.bound c.in-Err.ensures.place))
    ∙ ap (λ formed. formed && is_free (locks_of c.args.self.now c.args.name.now)) (sym c.if-not-formed.false))
