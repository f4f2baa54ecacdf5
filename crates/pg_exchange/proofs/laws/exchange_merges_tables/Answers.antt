use Rattle.std.proofs.Common.{ap, ◌∙◌}
use Rattle.pg_group.specs.Value.{Value, less, merge}
use Rattle.pg_exchange.proofs.Tables.{all_announced, snapshot_announced}
use Rattle.pg_exchange.proofs.laws.exchange_merges_tables.Goals as goal

pub returns-clause-taken : goal.returns-clause-taken
returns-clause-taken c =
    λ table groups ended name. all_announced (λ x y. (c.equality.ensures.terms x y).0) c.merged_in_any_order.ensures.associates ended (λ v w. c.left_out_at_once.ensures.merge v w ended) table groups name

pub returns-clause-announced : goal.returns-clause-announced
returns-clause-announced c = λ table groups name is. snapshot_announced (λ x y. (c.equality.ensures.terms x y).0) table groups is name

pub returns-clause-snapshot : goal.returns-clause-snapshot
returns-clause-snapshot c =
    λ table other groups ended name is.
    all_announced (λ x y. (c.equality.ensures.terms x y).0) c.merged_in_any_order.ensures.associates ended (λ v w. c.left_out_at_once.ensures.merge v w ended) table groups name
    ∙ ap (λ (v : Value). merge (table name) (less v ended)) (snapshot_announced (λ x y. (c.equality.ensures.terms x y).0) other groups is name)
