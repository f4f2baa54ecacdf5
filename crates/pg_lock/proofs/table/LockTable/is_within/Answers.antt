use Rattle.std.proofs.Common.{sym, ap, ◌∙◌}
use Rattle.std.specs.List.{list_all}
use Rattle.pg_lock.specs.Locks.{locks_of, holds_so}
use Rattle.pg_lock.proofs.Within.{within, near_within, far_within}
use Rattle.pg_lock.proofs.table.LockTable.is_within.Goals as goal

pub returns-then-has_all : goal.returns-then-has_all
returns-then-has_all c =
    let near = c.args.self.now.sorted.items in
    let far = c.args.self.now.beyond in
    let locks = locks_of c.args.other.now in (
      λ e. within locks near far (ap (list_all (holds_so locks)) (sym c.deref.ensures.value) ∙ sym c.if-has_all.ensures) (sym c.has_all_beyond.ensures.all ∙ e),
      λ h. c.has_all_beyond.ensures.all ∙ far_within locks near far c.has_all_beyond.ensures.ordered c.args.self.now.apart h,
    )

pub returns-else-has_all : goal.returns-else-has_all
returns-else-has_all c =
    let near = c.args.self.now.sorted.items in
    let locks = locks_of c.args.other.now in (
      λ e. absurd (cc (sym e ∙ c.if-has_all.false)),
      λ h. c.has_all.ensures ∙ ap (list_all (holds_so locks)) c.deref.ensures.value ∙ near_within locks near c.args.self.now.beyond c.args.self.now.ordered h,
    )
