use Rattle.std.proofs.Common.{refl, sym, rules}
use Rattle.pg_group.proofs.Maps.{left, absent}
use Rattle.pg_group.specs.declared.update.Update.TheVariants.{Leave}
use Rattle.pg_group.proofs.rows.leave.Goals as goal

pub returns-in-Some : goal.returns-in-Some
returns-in-Some c =
    let new = c.take_one.new.self in
    left c.args.rows.now (c.get_mut.follows.lender new) c.args.name.now c.in-Some.members.now new (sym c.in-Some.ensures.value) ((c.get_mut.follows.holds new).3 (search rules)) c.args.pid.now c.take_one.ensures

pub returns-in-None : goal.returns-in-None
returns-in-None c =
    absent c.args.rows.now c.get_mut.follows.lender-at-none c.args.name.now (Leave c.args.name.now c.args.pid.now) c.get_mut.follows.holds-at-none (sym c.in-None.ensures.value) refl
