use Rattle.pg_index.proofs.Grown.{grown_less}
use Rattle.pg_index.proofs.index_table.cut_last.Goals as goal

pub returns-clause-kept : goal.returns-clause-kept
returns-clause-kept c =
    λ n m longer grown.
    grown_less n m c.args.numbers.now c.args.memberships.now grown c.pop.new.self c.close.new.self c.in-Some.name c.in-Some.number longer c.in-Some.ensures.entries c.close.ensures.used c.close.ensures.counts
