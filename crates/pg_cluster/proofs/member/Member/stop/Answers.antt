use Rattle.std.proofs.Common.{sym, subst}
use Rattle.pg_cluster.specs.Threads.{Holds}
use Rattle.pg_cluster.proofs.Holding.{holds_ran}
use Rattle.pg_cluster.proofs.member.Member.stop.Goals as goal

pub invariant_of-self : goal.invariant_of-self
invariant_of-self g c = record {
  holds = ∣ subst (λ ran. Holds c.of.result.value c.take.new.self ran) (sym c.replace.ensures.after)
      (holds_ran c.of.result.value c.in-Some.thread c.take.new.self c.join-ran.result c.take.ensures.after c.of.ensures c.join-ran.ensures) ∣₁;
}
