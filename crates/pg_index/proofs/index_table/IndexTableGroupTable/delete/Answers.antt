use Rattle.std.proofs.Common.{sym}
use Rattle.pg_index.specs.Groups.{counts_by_number, is_used}
use Rattle.pg_index.specs.Index.{number_of}
use Rattle.pg_index.proofs.Tables.{gone, gone_there, gone_apart, absent_gone}
use Rattle.pg_index.proofs.index_table.IndexTableGroupTable.delete.Goals as goal

pub returns-in_default : goal.returns-in_default
returns-in_default c = absent_gone (number_of c.args.self.now.numbers) (counts_by_number c.args.self.now.memberships.groups) c.args.name.now (sym c.in_default.ensures)

pub invariant_of-self : goal.invariant_of-self
invariant_of-self c =
    let old = number_of c.args.self.now.numbers in
    let new = number_of c.swap_remove.new.self in
    let used = is_used c.args.self.now.memberships.groups in
    let used' = is_used c.close.new.self.groups in
    let counts = counts_by_number c.args.self.now.memberships.groups in
    let counts' = counts_by_number c.close.new.self.groups in
    record {
      there = gone_there old new used used' counts counts' c.args.name.now c.in-Some.number (sym c.in-Some.ensures) c.swap_remove.ensures.updates.0 c.args.self.now.apart c.args.self.now.there c.close.ensures.used;
      apart = gone_apart old new used used' counts counts' c.args.name.now c.in-Some.number (sym c.in-Some.ensures) c.swap_remove.ensures.updates.0 c.args.self.now.apart;
    }

pub returns : goal.returns
returns c =
    gone (number_of c.args.self.now.numbers) (number_of c.swap_remove.new.self) (is_used c.args.self.now.memberships.groups) (is_used c.close.new.self.groups)
    (counts_by_number c.args.self.now.memberships.groups) (counts_by_number c.close.new.self.groups) c.args.name.now c.in-Some.number (sym c.in-Some.ensures) c.swap_remove.ensures.updates.0 c.args.self.now.apart c.close.ensures.counts
