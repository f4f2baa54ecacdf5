use Rattle.std.specs.Result.{is_ok}
use Rattle.pg_lock.proofs.Held.{near_put, near_tried, far_put, far_tried}
use Rattle.pg_lock.proofs.table.LockTable.put.Goals as goal

pub invariant_of-self : goal.invariant_of-self
invariant_of-self c = near_tried c.args.name c.args.holder c.args.self.now.sorted.items c.args.gap c.args.self.now.ordered c.requires.bound c.requires.gap c.args.self.now.beyond c.requires.free c.args.self.now.apart
    c.insert.new.self.items (is_ok c.insert.result) c.insert.ensures.items

pub invariant_of-self-else-len-lt-MAX_SORTED : goal.invariant_of-self-else-len-lt-MAX_SORTED
invariant_of-self-else-len-lt-MAX_SORTED c = far_tried c.args.name c.args.holder c.args.self.now.sorted.items c.args.gap c.args.self.now.ordered c.requires.bound c.requires.gap c.args.self.now.beyond c.requires.free c.args.self.now.apart
    c.insert-else-len-lt-MAX_SORTED.new.self c.insert-else-len-lt-MAX_SORTED.result c.insert-else-len-lt-MAX_SORTED.ensures.updates c.insert-else-len-lt-MAX_SORTED.ensures.err

pub returns-in_ok-insert-clause-ok : goal.returns-in_ok-insert-clause-ok
returns-in_ok-insert-clause-ok c = near_put c.args.name c.args.holder c.args.self.now.sorted.items c.args.gap c.args.self.now.ordered c.requires.bound c.requires.gap c.args.self.now.beyond c.requires.free c.args.self.now.apart
    c.insert.new.self.items c.in_ok-insert.ensures.items

pub returns-in_ok-insert-2-clause-ok : goal.returns-in_ok-insert-2-clause-ok
returns-in_ok-insert-2-clause-ok c = far_put c.args.name c.args.holder c.args.self.now.sorted.items c.args.gap c.args.self.now.ordered c.requires.bound c.requires.gap c.args.self.now.beyond c.requires.free c.args.self.now.apart
    c.insert-else-len-lt-MAX_SORTED.new.self c.in_ok-insert-2.ensures.updates
