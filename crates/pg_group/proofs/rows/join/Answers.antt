use Rattle.std.proofs.Common.{refl, sym, rules}
use Rattle.pg_group.proofs.Maps.{joined, unchanged, absent, on_err}
use Rattle.pg_group.specs.declared.update.Update.TheVariants.{Join}
use Rattle.pg_group.proofs.rows.join.Goals as goal

pub returns-in_err-add_one-in-Some-clause-err : goal.returns-in_err-add_one-in-Some-clause-err
returns-in_err-add_one-in-Some-clause-err c =
    let new = c.add_one.new.self in
    on_err c.from_residual.result
    (unchanged c.args.rows.now (c.get_mut.follows.lender new) c.args.name.now c.in-Some.members.now new (sym c.in-Some.ensures.value) ((c.get_mut.follows.holds new).3 (search rules)) c.in_err-add_one-in-Some.ensures.err)

pub returns-in_ok-add_one-in-Some-clause-ok : goal.returns-in_ok-add_one-in-Some-clause-ok
returns-in_ok-add_one-in-Some-clause-ok c =
    let new = c.add_one.new.self in
    joined c.args.rows.now (c.get_mut.follows.lender new) c.args.name.now c.in-Some.members.now new (sym c.in-Some.ensures.value) ((c.get_mut.follows.holds new).3 (search rules)) c.args.pid.now c.in_ok-add_one-in-Some.ensures.ok

pub returns-in-None-clause-ok : goal.returns-in-None-clause-ok
returns-in-None-clause-ok c =
    absent c.args.rows.now c.get_mut.follows.lender-at-none c.args.name.now (Join c.args.name.now c.args.pid.now) c.get_mut.follows.holds-at-none (sym c.in-None.ensures.value) refl
