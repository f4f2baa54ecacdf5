use Rattle.std.proofs.Common.{sym, ◌∙◌}
use Rattle.pg_lock.specs.Locks.{locks_of}
use Rattle.pg_lock.proofs.Within.{within_both, within_itself}
use Rattle.pg_lock.proofs.table.LockTable.same.Goals as goal

pub returns-then-is_within : goal.returns-then-is_within
returns-then-is_within c = (
  λ e. within_both (locks_of c.args.self.now) (locks_of c.args.other.now) (c.is_within.ensures.0 c.if-is_within.true) (c.is_within-then-is_within.ensures.0 e),
  λ h. c.is_within-then-is_within.ensures.1 (within_itself (locks_of c.args.other.now) (locks_of c.args.self.now) (sym h)),
)

pub returns-else-is_within : goal.returns-else-is_within
returns-else-is_within c = (
  λ e. absurd (cc (sym e ∙ c.if-is_within.false)),
  λ h. c.is_within.ensures.1 (within_itself (locks_of c.args.self.now) (locks_of c.args.other.now) h),
)
