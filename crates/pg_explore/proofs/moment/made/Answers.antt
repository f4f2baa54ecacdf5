use Rattle.pg_explore.proofs.moment.made.Goals as goal

pub returns-in-Ok-true-clause-comes : goal.returns-in-Ok-true-clause-comes
returns-in-Ok-true-clause-comes c = record { event = rw c.in-Ok-true.field-0-test at c.in-Ok-true.ensures.made; progress = c.requires }

pub returns-in-Ok-false-clause-comes : goal.returns-in-Ok-false-clause-comes
returns-in-Ok-false-clause-comes c = rw c.in-Ok-false.field-0-test at c.in-Ok-false.ensures.made
