use Rattle.std.proofs.Common.{sym, ap, ◌∙◌}
use Rattle.pg_group.specs.Ended.{ended_of}
use Rattle.pg_index.specs.Groups.{counts_by_number}
use Rattle.pg_index.specs.Index.{number_of, contents_of}
use Rattle.pg_index.proofs.Tables.{merged_whole}
use Rattle.pg_index.proofs.Grown.{grown_raised}
use Rattle.pg_index.proofs.index_table.IndexTable.merge_own.Goals as goal

pub invariant_of-self : goal.invariant_of-self
invariant_of-self c = record {
  there = λ name group e. ap (λ u. u group) c.raise_all.ensures.used ∙ c.put.new.self.there name group e;
  apart = c.put.new.self.apart;
}

pub returns-clause-ok : goal.returns-clause-ok
returns-clause-ok c =
    merged_whole (number_of c.put.new.self.numbers) (counts_by_number c.put.new.self.memberships.groups) (counts_by_number c.raise_all.new.self.groups)
    (contents_of (number_of c.args.self.now.numbers) (counts_by_number c.args.self.now.memberships.groups)) c.args.name c.in_ok-number.number c.args.members.now (ended_of c.args.ended.now)
    c.put.new.self.apart (sym c.in_ok-number.ensures.number) c.in_ok-number.ensures.ok c.raise_all.result c.raise_all.ensures.ok

pub returns-clause-kept : goal.returns-clause-kept
returns-clause-kept c =
    λ n m none grown.
    grown_raised n m c.put.new.self.numbers c.put.new.self.memberships (c.put.ensures.kept n m grown) c.raise_all.new.self c.args.name c.in_ok-number.number c.args.members.now (ended_of c.args.ended.now) c.raise_all.result
    none c.in_ok-number.ensures.number c.raise_all.ensures.used c.raise_all.ensures.ok c.raise_all.ensures.err
