use Rattle.std.proofs.Common.{Some, sym, ap, ◌∙◌, rules}
use Rattle.std.specs.Option.{option_map, option_copied_mut}
use Rattle.pg_group.specs.Ended.{ended_of}
use Rattle.pg_group.specs.Rows.{counts_of, table_of}
use Rattle.pg_group.proofs.Maps.{on_err, table_updated}
use Rattle.pg_group.proofs.Exchanges.{nothing_merged, all_merged, partly_merged, never_missing}
use Rattle.pg_group.proofs.rows.merge.Goals as goal

pub returns-in_err-create-clause-err : goal.returns-in_err-create-clause-err
returns-in_err-create-clause-err c =
    on_err c.from_residual.result (nothing_merged c.args.pids.now (ended_of c.args.ended.now) (table_of c.args.rows.now) (table_of c.create.new.rows) c.args.name.now c.in_err-create.ensures.err)

pub returns-in_err-raise_all-clause-err : goal.returns-in_err-raise_all-clause-err
returns-in_err-raise_all-clause-err c =
    let new = c.raise_all.new.self in
    on_err c.from_residual-in_err-raise_all.result
    (partly_merged c.args.pids.now (ended_of c.args.ended.now) (table_of c.args.rows.now) (table_of c.create.new.rows) (table_of (c.get_mut.follows.lender new)) c.args.name.now (counts_of c.in-Some.members.now) (counts_of new)
    c.in_ok-create.ensures.ok (ap (option_map counts_of) (sym c.in-Some.ensures.value)) (table_updated c.create.new.rows (c.get_mut.follows.lender new) c.args.name.now (Some new) ((c.get_mut.follows.holds new).3 (search rules)))
    c.in_err-raise_all.ensures.err)

pub returns-clause-ok : goal.returns-clause-ok
returns-clause-ok c =
    let new = c.raise_all.new.self in
    all_merged c.args.pids.now (ended_of c.args.ended.now) (table_of c.args.rows.now) (table_of c.create.new.rows) (table_of (c.get_mut.follows.lender new)) c.args.name.now (counts_of c.in-Some.members.now) (counts_of new)
    c.in_ok-create.ensures.ok (ap (option_map counts_of) (sym c.in-Some.ensures.value)) (table_updated c.create.new.rows (c.get_mut.follows.lender new) c.args.name.now (Some new) ((c.get_mut.follows.holds new).3 (search rules)))
    c.in_ok-raise_all.ensures.ok

pub unreachable-requires : goal.unreachable-requires
unreachable-requires c =
    absurd (never_missing c.args.pids.now (ended_of c.args.ended.now) (table_of c.args.rows.now) (table_of c.create.new.rows) c.args.name.now c.in_ok-create.ensures.ok (ap (option_map counts_of) (sym c.get_mut.ensures.value ∙ ap option_copied_mut c.in_default.is)))
