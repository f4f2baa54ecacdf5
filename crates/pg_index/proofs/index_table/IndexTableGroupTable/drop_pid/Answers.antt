use Rattle.std.proofs.Common.{ap, ◌∙◌}
use Rattle.pg_index.specs.Groups.{counts_by_number}
use Rattle.pg_index.specs.Index.{number_of, contents_of}
use Rattle.pg_index.proofs.Tables.{pid_gone}
use Rattle.pg_index.proofs.index_table.IndexTableGroupTable.drop_pid.Goals as goal

pub invariant_of-self : goal.invariant_of-self
invariant_of-self c = record {
  there = λ name group e. ap (λ u. u group) c.drop_pid.ensures.used ∙ c.args.self.now.there name group e;
  apart = c.args.self.now.apart;
}

pub returns : goal.returns
returns c =
    let numbers = number_of c.args.self.now.numbers in
    ap (contents_of numbers) c.drop_pid.ensures.counts ∙ pid_gone numbers (counts_by_number c.args.self.now.memberships.groups) c.args.pid.now
