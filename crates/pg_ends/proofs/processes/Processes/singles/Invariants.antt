use Rattle.std.proofs.Common.{◌≡◌, ◌++◌}
use Rattle.std.specs.List.{filter}
use Rattle.pg_group.specs.Ended.{single_of}
use Rattle.pg_ends.specs.Numbers.{is_among}
use Rattle.pg_ends.proofs.processes.Processes.singles.Given as goal

-- those so far, and those to come
abbrev pub invariant-loop-pid : goal.invariant-loop-pid
invariant-loop-pid l = l.pids.items ++ filter (is_among l.self.made) l.pid-iterator.rest.items ≡ filter (is_among l.self.made) (single_of l.ended l.self.node)
