use Rattle.pg_group.proofs.Merges.{merge_commutes, merge_associates, merge_once}
use Rattle.pg_group.proofs.laws.merged_in_any_order.Goals as goal

pub returns-clause-commutes : goal.returns-clause-commutes
returns-clause-commutes c = merge_commutes

pub returns-clause-associates : goal.returns-clause-associates
returns-clause-associates c = merge_associates

pub returns-clause-once : goal.returns-clause-once
returns-clause-once c = merge_once
