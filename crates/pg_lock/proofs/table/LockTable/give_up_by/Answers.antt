use Rattle.std.proofs.Common.{Bool, sym, ap, ◌∙◌}
use Rattle.std.specs.BTreeMap.{get}
use Rattle.pg_term.specs.Same.{term_cmp}
use Rattle.pg_lock.specs.Holders.{first_holder}
use Rattle.pg_lock.specs.Locks.{locks_of, given_up, is_holder, of_parts}
use Rattle.pg_lock.proofs.Sorted.{found, absent}
use Rattle.pg_lock.proofs.Held.{near_taken, near_left, far_taken}
use Rattle.pg_lock.proofs.table.LockTable.give_up_by.Goals as goal

pub invariant_of-self : goal.invariant_of-self
invariant_of-self c = near_left c.args.name.now c.args.self.now.sorted.items c.args.self.now.beyond c.args.self.now.ordered c.args.self.now.apart c.in-Ok.place c.in-Ok.ensures.bound c.in-Ok.ensures.place c.index.result.now c.index.ensures
    c.remove.new.self.items c.remove.ensures.items

pub returns-then-has_parts : goal.returns-then-has_parts
returns-then-has_parts c =
    let es = c.args.self.now.sorted.items in
    let there = found es c.args.name.now c.in-Ok.place c.args.self.now.ordered c.in-Ok.ensures.bound c.in-Ok.ensures.place c.index.result.now c.index.ensures in
    near_taken c.args.name.now es c.args.self.now.beyond c.args.self.now.ordered c.args.self.now.apart c.in-Ok.place c.in-Ok.ensures.bound c.in-Ok.ensures.place c.index.result.now c.index.ensures c.remove.new.self.items c.remove.ensures.items
    ∙ ap (λ (holds : Bool). given_up holds (locks_of c.args.self.now) c.args.name.now)
    (c.if-has_parts.ensures ∙ ap (λ h. is_holder (first_holder h (get term_cmp c.args.self.now.beyond c.args.name.now)) (of_parts c.args.node.now c.args.creation c.args.words.now)) (sym there))

pub returns-else-has_parts : goal.returns-else-has_parts
returns-else-has_parts c =
    let there = found c.args.self.now.sorted.items c.args.name.now c.in-Ok.place c.args.self.now.ordered c.in-Ok.ensures.bound c.in-Ok.ensures.place c.index.result.now c.index.ensures in
    ap (λ (holds : Bool). given_up holds (locks_of c.args.self.now) c.args.name.now)
    (c.if-has_parts.ensures ∙ ap (λ h. is_holder (first_holder h (get term_cmp c.args.self.now.beyond c.args.name.now)) (of_parts c.args.node.now c.args.creation c.args.words.now)) (sym there))

pub returns-then-has_parts-2 : goal.returns-then-has_parts-2
returns-then-has_parts-2 c =
    let es = c.args.self.now.sorted.items in
    let none = absent es c.args.name.now c.in-Err.field-0 c.args.self.now.ordered c.in-Err.ensures.bound c.in-Err.ensures.place in
    far_taken c.args.name.now es c.args.self.now.beyond c.args.self.now.ordered c.args.self.now.apart c.in-Err.field-0 c.in-Err.ensures.bound c.in-Err.ensures.place c.remove-then-has_parts-2.new.self c.remove-then-has_parts-2.ensures.updates
    ∙ ap (λ (holds : Bool). given_up holds (locks_of c.args.self.now) c.args.name.now)
    (c.if-has_parts-2.ensures ∙ ap (λ h. is_holder h (of_parts c.args.node.now c.args.creation c.args.words.now)) (c.get.ensures.value ∙ ap (λ h. first_holder h (get term_cmp c.args.self.now.beyond c.args.name.now)) (sym none)))

pub returns-else-has_parts-2 : goal.returns-else-has_parts-2
returns-else-has_parts-2 c =
    let none = absent c.args.self.now.sorted.items c.args.name.now c.in-Err.field-0 c.args.self.now.ordered c.in-Err.ensures.bound c.in-Err.ensures.place in
    ap (λ (holds : Bool). given_up holds (locks_of c.args.self.now) c.args.name.now)
    (c.if-has_parts-2.ensures ∙ ap (λ h. is_holder h (of_parts c.args.node.now c.args.creation c.args.words.now)) (c.get.ensures.value ∙ ap (λ h. first_holder h (get term_cmp c.args.self.now.beyond c.args.name.now)) (sym none)))
