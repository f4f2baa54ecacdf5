use Rattle.std.proofs.Common.{take}
use Rattle.pg_explore_tally.proofs.Walking.{IsFollowing}
use Rattle.pg_explore_tally.proofs.takes.follow_all.Given as goal

-- so many ways were followed
abbrev pub invariant-loop-way : goal.invariant-loop-way
invariant-loop-way l = IsFollowing l.worlds l.place (take l.way-index l.way-items) l.fn.takes l.takes l.changed
