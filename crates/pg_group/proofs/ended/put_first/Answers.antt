use Rattle.std.proofs.Common.{ap, ◌∙◌}
use Rattle.std.specs.BTreeSet.{insert_key}
use Rattle.pg_group.specs.Numbers.{number_cmp}
use Rattle.pg_group.proofs.EndedNumbers.{one_first}
use Rattle.pg_group.proofs.ended.put_first.Goals as goal

pub returns-clause-ok : goal.returns-clause-ok
returns-clause-ok c =
    one_first c.args.numbers.now c.insert-2.new.self c.args.node c.args.number c.len-nodes.ensures.ordered c.insert.new.self c.requires
    (c.in_ok-insert.ensures.ok ∙ ap (λ l. insert_key number_cmp l c.args.number) c.new-first.ensures)
    c.in_ok-insert-2.ensures.entries
