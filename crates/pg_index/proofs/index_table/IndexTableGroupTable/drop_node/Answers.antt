use Rattle.std.proofs.Common.{ap, ◌∙◌}
use Rattle.pg_index.specs.Groups.{counts_by_number}
use Rattle.pg_index.specs.Index.{number_of, contents_of}
use Rattle.pg_index.proofs.Tables.{node_gone}
use Rattle.pg_index.proofs.index_table.IndexTableGroupTable.drop_node.Goals as goal

pub invariant_of-self : goal.invariant_of-self
invariant_of-self c = record {
  there = λ name group e. ap (λ u. u group) c.drop_node.ensures.used ∙ c.args.self.now.there name group e;
  apart = c.args.self.now.apart;
}

pub returns : goal.returns
returns c =
    let numbers = number_of c.args.self.now.numbers in
    ap (contents_of numbers) c.drop_node.ensures.counts ∙ node_gone numbers (counts_by_number c.args.self.now.memberships.groups) c.args.node.now
