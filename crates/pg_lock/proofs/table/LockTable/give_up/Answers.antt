use Rattle.std.proofs.Common.{◌∙◌}
use Rattle.pg_lock.specs.Locks.{locks_of, given_up, is_holder, of_parts}
use Rattle.pg_lock.proofs.table.LockTable.give_up.Goals as goal

pub returns : goal.returns
returns c =
    let locks = locks_of c.args.self.now in
    let name = c.args.name.now in
    c.give_up_by.ensures ∙ (λ i. given_up (is_holder (locks name) (of_parts (c.node.ensures i) (c.creation.ensures i) (c.words.ensures.value i))) locks name)
