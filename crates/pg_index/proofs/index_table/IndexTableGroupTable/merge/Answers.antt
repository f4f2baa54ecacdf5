use Rattle.std.proofs.Common.{sym, ap, ◌∙◌}
use Rattle.std.specs.Option.{option_map}
use Rattle.pg_group.specs.Ended.{ended_of}
use Rattle.pg_group.proofs.Maps.{on_err}
use Rattle.pg_group.proofs.Exchanges.{nothing_merged, never_missing}
use Rattle.pg_index.specs.Groups.{counts_by_number}
use Rattle.pg_index.specs.Index.{number_of, contents_of}
use Rattle.pg_index.proofs.Tables.{merged_whole, merged_partly}
use Rattle.pg_index.proofs.index_table.IndexTableGroupTable.merge.Goals as goal

pub returns-in_err-create-clause-err : goal.returns-in_err-create-clause-err
returns-in_err-create-clause-err c =
    on_err c.from_residual.result (nothing_merged c.args.members.now (ended_of c.args.ended.now)
    (contents_of (number_of c.args.self.now.numbers) (counts_by_number c.args.self.now.memberships.groups))
    (contents_of (number_of c.create.new.self.numbers) (counts_by_number c.create.new.self.memberships.groups)) c.args.name.now c.in_err-create.ensures.err)

pub invariant_of-self : goal.invariant_of-self
invariant_of-self c = record {
  there = λ name group e. ap (λ u. u group) c.raise_all.ensures.used ∙ c.create.new.self.there name group e;
  apart = c.create.new.self.apart;
}

pub returns-clause-ok : goal.returns-clause-ok
returns-clause-ok c =
    merged_whole (number_of c.create.new.self.numbers) (counts_by_number c.create.new.self.memberships.groups) (counts_by_number c.raise_all.new.self.groups)
    (contents_of (number_of c.args.self.now.numbers) (counts_by_number c.args.self.now.memberships.groups)) c.args.name.now c.in-Some.number c.args.members.now (ended_of c.args.ended.now)
    c.create.new.self.apart c.in-Some.ensures c.in_ok-create.ensures.ok c.raise_all.result c.raise_all.ensures.ok

pub returns-clause-err : goal.returns-clause-err
returns-clause-err c =
    merged_partly (number_of c.create.new.self.numbers) (counts_by_number c.create.new.self.memberships.groups) (counts_by_number c.raise_all.new.self.groups)
    (contents_of (number_of c.args.self.now.numbers) (counts_by_number c.args.self.now.memberships.groups)) c.args.name.now c.in-Some.number c.args.members.now (ended_of c.args.ended.now)
    c.create.new.self.apart c.in-Some.ensures c.in_ok-create.ensures.ok c.raise_all.result c.raise_all.ensures.err

pub unreachable-requires : goal.unreachable-requires
unreachable-requires c =
    never_missing c.args.members.now (ended_of c.args.ended.now)
    (contents_of (number_of c.args.self.now.numbers) (counts_by_number c.args.self.now.memberships.groups))
    (contents_of (number_of c.create.new.self.numbers) (counts_by_number c.create.new.self.memberships.groups)) c.args.name.now c.in_ok-create.ensures.ok
    (ap (option_map (counts_by_number c.create.new.self.memberships.groups)) (sym c.in-None.ensures))
