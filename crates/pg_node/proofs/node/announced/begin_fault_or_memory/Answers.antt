use Rattle.std.proofs.Common.{arith}
use Rattle.pg_node.proofs.Announced.Faults.{has_no_name, is_too_long, is_short}
use Rattle.pg_node.proofs.node.announced.begin_fault_or_memory.Goals as goal

pub returns-in_default : goal.returns-in_default
returns-in_default g c =
    let list = c.in_default.ensures in
    has_no_name (g.T.GroupTable.contents c.args.table.now) c.args.own.now list.0 list.1.0 list.1.1

pub returns-then-groups-atom_len-gt-MAX_LEN : goal.returns-then-groups-atom_len-gt-MAX_LEN
returns-then-groups-atom_len-gt-MAX_LEN g c =
    let list = c.in-Some.ensures in
    is_too_long (g.T.GroupTable.contents c.args.table.now) c.args.own.now list.0 list.1.0 list.1.1.0 c.in-Some.groups list.1.1.1 (omega (arith, c.atom_len.ensures.value, c.if-groups-atom_len-gt-MAX_LEN.true))

pub returns : goal.returns
returns g c =
    let list = c.in-Some.ensures in
    is_short (g.T.GroupTable.contents c.args.table.now) c.args.own.now list.0 list.1.0 list.1.1.0 c.in-Some.groups list.1.1.1 (omega (arith, c.atom_len.ensures.value, c.if-groups-atom_len-gt-MAX_LEN.false))
