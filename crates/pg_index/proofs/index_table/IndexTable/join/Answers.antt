use Rattle.std.proofs.Common.{sym, ap, ◌∙◌}
use Rattle.pg_index.specs.Groups.{counts_by_number}
use Rattle.pg_index.specs.Index.{number_of}
use Rattle.pg_index.proofs.Tables.{joined_if, joined_absent}
use Rattle.pg_index.proofs.index_table.IndexTable.join.Goals as goal

pub invariant_of-self : goal.invariant_of-self
invariant_of-self c = record {
  there = λ name group e. ap (λ u. u group) c.add.ensures.used ∙ c.args.self.now.there name group e;
  apart = c.args.self.now.apart;
}

pub returns-in-Some-clause-ok : goal.returns-in-Some-clause-ok
returns-in-Some-clause-ok c =
    joined_if (number_of c.args.self.now.numbers) (counts_by_number c.args.self.now.memberships.groups) (counts_by_number c.add.new.self.groups) c.args.name.now c.in-Some.number c.args.self.now.apart c.in-Some.ensures c.args.pid.now c.add.result c.add.ensures.ok

pub returns-in-None-clause-ok : goal.returns-in-None-clause-ok
returns-in-None-clause-ok c = joined_absent (number_of c.args.self.now.numbers) (counts_by_number c.args.self.now.memberships.groups) c.args.name.now (sym c.in-None.ensures) c.args.pid.now
