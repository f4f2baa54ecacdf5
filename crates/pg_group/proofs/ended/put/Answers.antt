use Rattle.std.proofs.Common.{sym, ap, ◌∙◌}
use Rattle.std.specs.BTreeSet.{insert_key}
use Rattle.pg_term.specs.Same.{pid_cmp}
use Rattle.pg_group.specs.Numbers.{pid_at}
use Rattle.pg_group.specs.Ends.{all_pids}
use Rattle.pg_group.proofs.EndedNumbers.{none_more, one_more}
use Rattle.pg_group.proofs.Maps.{on_err}
use Rattle.pg_group.proofs.ended.put.Goals as goal

pub returns-in_err-insert-in-Some-clause-err : goal.returns-in_err-insert-in-Some-clause-err
returns-in_err-insert-in-Some-clause-err c =
    let new = c.insert.new.self in
    on_err c.from_residual.result
    (none_more c.args.numbers.now (c.get_mut.follows.lender new) c.args.pid.node c.in-Some.numbers.now new (sym c.in-Some.ensures.value) c.in_err-insert-in-Some.ensures.err (c.get_mut.follows.holds new).0)

pub returns-in_ok-insert-in-Some-clause-ok : goal.returns-in_ok-insert-in-Some-clause-ok
returns-in_ok-insert-in-Some-clause-ok c =
    let new = c.insert.new.self in
    one_more c.args.numbers.now (c.get_mut.follows.lender new) c.args.pid.node c.of-number.result c.get_mut.ensures.ordered c.in-Some.numbers.now new (sym c.in-Some.ensures.value) c.in_ok-insert-in-Some.ensures.ok (c.get_mut.follows.holds new).0
    ∙ ap (λ n. insert_key pid_cmp (all_pids c.args.numbers.now.entries) (pid_at c.args.pid.node n)) c.of-number.ensures
