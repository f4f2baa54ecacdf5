use Rattle.pg_group.proofs.Copies.{PidsCopied}
use Rattle.pg_group.proofs.members.Members.copy.Given as goal

-- the entries so far and those to come
abbrev pub invariant-loop-pid : goal.invariant-loop-pid
invariant-loop-pid l = PidsCopied l.self.counts l.counts l.pid-iterator
