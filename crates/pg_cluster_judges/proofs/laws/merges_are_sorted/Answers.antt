-- The proof is that over the definitions.
use Rattle.pg_cluster_judges.proofs.Sorted.{every_place, logs_there, sorted}
use Rattle.pg_cluster_judges.proofs.laws.merges_are_sorted.Goals as goal

pub returns-clause-once : goal.returns-clause-once
returns-clause-once c = λ size clocks order i merges low. every_place size clocks i low order merges

pub returns-clause-logs : goal.returns-clause-logs
returns-clause-logs c = λ size clocks order merges. logs_there size clocks order (λ i. 0) merges

pub returns-clause-sorted : goal.returns-clause-sorted
returns-clause-sorted c = λ size clocks order merges rising. sorted size clocks rising order (λ i. 0) merges
