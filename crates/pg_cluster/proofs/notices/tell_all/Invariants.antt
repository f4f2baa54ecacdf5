use Rattle.pg_cluster.specs.Notices.{SameTellers, NotifiedUpTo}
use Rattle.pg_cluster.proofs.notices.tell_all.Given as goal

abbrev pub invariant-loop-place : goal.invariant-loop-place
invariant-loop-place l = SameTellers l.initial.tellers.items l.tellers.items × NotifiedUpTo l.node l.last l.place l.initial.tellers.items l.tellers.items
