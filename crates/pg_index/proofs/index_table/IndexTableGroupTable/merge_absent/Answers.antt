use Rattle.std.proofs.Common.{◌≡◌, length, ◌∙◌, arith}
use Rattle.pg_group.proofs.Maps.{on_err}
use Rattle.pg_index.specs.Grown.{IsGrown}
use Rattle.pg_index.proofs.Grown.{table_back, back_there, back_apart}
use Rattle.pg_index.proofs.index_table.IndexTableGroupTable.merge_absent.Goals as goal

pub invariant_of-self : goal.invariant_of-self
invariant_of-self c =
    let old = c.args.self.now in
    let grown : IsGrown old.numbers old.memberships c.cut.new.numbers c.cut.new.memberships = c.cut.ensures.kept old.numbers old.memberships (omega (arith, c.len-first.ensures.len)) c.merge_each-merged.ensures.kept in
    let all : length c.cut.new.numbers.entries ≡ length old.numbers.entries = c.cut.ensures.first ∙ c.len-first.ensures.len in
    record {
      there = back_there old.numbers old.memberships c.cut.new.numbers c.cut.new.memberships grown all old.there;
      apart = back_apart old.numbers old.memberships c.cut.new.numbers c.cut.new.memberships grown all old.there old.apart;
    }

pub returns-then-is_err-clause-err : goal.returns-then-is_err-clause-err
returns-then-is_err-clause-err c =
    let old = c.args.self.now in
    let grown : IsGrown old.numbers old.memberships c.cut.new.numbers c.cut.new.memberships = c.cut.ensures.kept old.numbers old.memberships (omega (arith, c.len-first.ensures.len)) c.merge_each-merged.ensures.kept in
    let all : length c.cut.new.numbers.entries ≡ length old.numbers.entries = c.cut.ensures.first ∙ c.len-first.ensures.len in
    on_err c.merge_each-merged.result (table_back old.numbers old.memberships c.cut.new.numbers c.cut.new.memberships grown all old.there)
