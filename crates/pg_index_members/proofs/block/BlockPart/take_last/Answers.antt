use Rattle.std.proofs.Common.{arith}
use Rattle.pg_index_members.proofs.Last.{last_total, last_front}
use Rattle.pg_index_members.proofs.block.BlockPart.take_last.Goals as goal

pub overflow_sub-self : goal.overflow_sub-self
overflow_sub-self c =
    let all = last_total c.self.inside.rows.items c.pop.new.self.items c.in_ok-row.row c.in_ok-row.ensures.items in
    let sum = c.self.invariant.0 in
    omega arith

pub invariant_of-self-2 : goal.invariant_of-self-2
invariant_of-self-2 c =
    let all = last_total c.self.inside.rows.items c.pop.new.self.items c.in_ok-row.row c.in_ok-row.ensures.items in
    let sum = c.self.invariant.0 in
    (omega arith, last_front c.self.inside.rows.items c.pop.new.self.items c.in_ok-row.row c.in_ok-row.ensures.items c.self.invariant.1)
