use Rattle.pg_explore.proofs.making.make.Goals as goal

pub returns-in-Retry-clause-made : goal.returns-in-Retry-clause-made
returns-in-Retry-clause-made c = rw c.in-Retry.is (c.retry.ensures.made)
