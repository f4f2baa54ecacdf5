use Rattle.std.proofs.Common.{subst, arith}
use Rattle.pg_node.specs.PgGroup.Ended.{IsEndedCount}
use Rattle.pg_node.specs.PgNodeState.States.{kept_by}
use Rattle.pg_process.specs.Deeds.{Crowded}
use Rattle.pg_process.proofs.Chained.{made_works}
use Rattle.pg_process.proofs.Settling.{crowded_many, crowded_rest}
use Rattle.pg_process.proofs.process.Process.warn_of_ended.Goals as goal

pub returns-then-count-lt-MANY_ENDED-clause-many : goal.returns-then-count-lt-MANY_ENDED-clause-many
returns-then-count-lt-MANY_ENDED-clause-many c = (
  c.ended_count-count.result,
  subst (λ s. IsEndedCount (kept_by s).ended c.ended_count-count.result) c.state.ensures c.ended_count-count.ensures,
  λ more. let never : ⊥ = omega (arith, more, c.if-count-lt-MANY_ENDED.true) in absurd never,
)

pub returns-then-self-clause-many : goal.returns-then-self-clause-many
returns-then-self-clause-many c = (
  c.ended_count-count.result,
  subst (λ s. IsEndedCount (kept_by s).ended c.ended_count-count.result) c.state.ensures c.ended_count-count.ensures,
  λ more. c.if-self.true,
)

pub returns-clause-works : goal.returns-clause-works
returns-clause-works c = made_works c.tell_many_ended.result (Crowded c.ended_count-count.result) _ _ tt c.tell_many_ended.ensures.made

pub returns-clause-many : goal.returns-clause-many
returns-clause-many c = crowded_many c.tell_many_ended.result c.ended_count-count.result c.args.self.now c.tell_many_ended.new.self c.tell_many_ended.ensures.made

pub returns-clause-rest : goal.returns-clause-rest
returns-clause-rest c = crowded_rest c.tell_many_ended.result c.ended_count-count.result c.args.self.now c.tell_many_ended.new.self c.tell_many_ended.ensures.made
