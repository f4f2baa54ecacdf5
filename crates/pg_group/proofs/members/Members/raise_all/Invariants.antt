use Rattle.std.proofs.Common.{◌≡◌, take}
use Rattle.pg_group.specs.Ended.{ended_of}
use Rattle.pg_group.specs.Value.{greater, told}
use Rattle.pg_group.specs.Rows.{counts_of}
use Rattle.pg_group.proofs.members.Members.raise_all.Given as goal

-- what the list told so far
abbrev pub invariant-loop-pid : goal.invariant-loop-pid
invariant-loop-pid l = record {
  seen : counts_of l.seen ≡ told (take l.pid-index l.pids) (ended_of l.ended);
  raised : counts_of l.self ≡ greater (counts_of l.initial.self) (told (take l.pid-index l.pids) (ended_of l.ended));
}
