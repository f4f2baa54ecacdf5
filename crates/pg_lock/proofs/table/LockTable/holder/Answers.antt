use Rattle.std.proofs.Common.{sym, ap, ◌∙◌}
use Rattle.std.specs.BTreeMap.{get}
use Rattle.pg_term.specs.Same.{term_cmp}
use Rattle.pg_lock.specs.Holders.{first_holder}
use Rattle.pg_lock.proofs.Sorted.{found, absent}
use Rattle.pg_lock.proofs.table.LockTable.holder.Goals as goal

pub returns-in-Ok : goal.returns-in-Ok
returns-in-Ok c =
    let there = found c.args.self.now.sorted.items c.args.name.now c.in-Ok.place c.args.self.now.ordered c.in-Ok.ensures.bound c.in-Ok.ensures.place c.index.result.now c.index.ensures in
    ap (λ h. first_holder h (get term_cmp c.args.self.now.beyond c.args.name.now)) (sym there)

pub returns-in-Err : goal.returns-in-Err
returns-in-Err c =
    let none = absent c.args.self.now.sorted.items c.args.name.now c.in-Err.field-0 c.args.self.now.ordered c.in-Err.ensures.bound c.in-Err.ensures.place in
    c.get.ensures.value ∙ ap (λ h. first_holder h (get term_cmp c.args.self.now.beyond c.args.name.now)) (sym none)
