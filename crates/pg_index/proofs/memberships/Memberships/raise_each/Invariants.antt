use Rattle.std.proofs.Common.{◌≡◌, take}
use Rattle.pg_group.specs.Ended.{ended_of}
use Rattle.pg_group.specs.Value.{told}
use Rattle.pg_index_members.specs.Rows.{counts_of}
use Rattle.pg_index.specs.Groups.{counts_by_number, counts_raised, is_used}
use Rattle.pg_index.proofs.memberships.Memberships.raise_each.Given as goal

-- what the list told so far
abbrev pub invariant-loop-pid : goal.invariant-loop-pid
invariant-loop-pid l = record {
  seen : counts_of l.seen ≡ told (take l.pid-index l.pids) (ended_of l.ended);
  raised : counts_by_number l.self.groups ≡ counts_raised (counts_by_number l.initial.self.groups) l.group (take l.pid-index l.pids) (ended_of l.ended);
  used : is_used l.self.groups ≡ is_used l.initial.self.groups;
}
