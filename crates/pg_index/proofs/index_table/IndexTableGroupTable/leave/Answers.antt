use Rattle.std.proofs.Common.{sym, ap, ◌∙◌}
use Rattle.pg_index.specs.Groups.{counts_by_number}
use Rattle.pg_index.specs.Index.{number_of}
use Rattle.pg_index.proofs.Tables.{left, left_absent}
use Rattle.pg_index.proofs.index_table.IndexTableGroupTable.leave.Goals as goal

pub invariant_of-self : goal.invariant_of-self
invariant_of-self c = record {
  there = λ name group e. ap (λ u. u group) c.take_one.ensures.used ∙ c.args.self.now.there name group e;
  apart = c.args.self.now.apart;
}

pub returns-in-Some : goal.returns-in-Some
returns-in-Some c =
    left (number_of c.args.self.now.numbers) (counts_by_number c.args.self.now.memberships.groups) (counts_by_number c.take_one.new.self.groups) c.args.name.now c.in-Some.number c.args.self.now.apart (sym c.in-Some.ensures) c.args.pid.now c.take_one.ensures.counts

pub returns-in-None : goal.returns-in-None
returns-in-None c = left_absent (number_of c.args.self.now.numbers) (counts_by_number c.args.self.now.memberships.groups) c.args.name.now (sym c.in-None.ensures) c.args.pid.now
