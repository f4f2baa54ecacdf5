use Rattle.std.proofs.Common.{◌≡◌, take, drop, sym, ap, subst, ◌∙◌, arith}
use Rattle.pg_index_members.specs.Rows.{AreRows, total_of}
use Rattle.pg_index_members.proofs.Cut.{total_split, rows_front, rows_rest}
use Rattle.std.proofs.Common.{◌/◌}
use Rattle.pg_index_members.proofs.block.BlockPart.split.Goals as goal

pub sum-total-requires : goal.sum-total-requires
sum-total-requires c =
    let all = total_split c.self.inside.rows.items (c.len-len.result / 2) in
    let is : total_of c.deref.result.now ≡ total_of (drop (c.len-len.result / 2) c.self.inside.rows.items) = ap total_of (c.deref.ensures.value ∙ c.in_ok-later.ensures.tail) in
    omega arith

pub overflow_sub-self : goal.overflow_sub-self
overflow_sub-self c =
    let all = total_split c.self.inside.rows.items (c.len-len.result / 2) in
    let is : total_of c.deref.result.now ≡ total_of (drop (c.len-len.result / 2) c.self.inside.rows.items) = ap total_of (c.deref.ensures.value ∙ c.in_ok-later.ensures.tail) in
    omega arith

pub invariant_of-result : goal.invariant_of-result
invariant_of-result c =
    (c.sum-total.ensures ∙ ap total_of c.deref.ensures.value, subst AreRows (sym c.in_ok-later.ensures.tail) (rows_rest c.self.inside.rows.items (c.len-len.result / 2) c.self.invariant.1))

pub invariant_of-self-2 : goal.invariant_of-self-2
invariant_of-self-2 c =
    let all = total_split c.self.inside.rows.items (c.len-len.result / 2) in
    let is : total_of c.deref.result.now ≡ total_of (drop (c.len-len.result / 2) c.self.inside.rows.items) = ap total_of (c.deref.ensures.value ∙ c.in_ok-later.ensures.tail) in
    let rest : total_of c.split_off.new.self.items ≡ total_of (take (c.len-len.result / 2) c.self.inside.rows.items) = ap total_of c.in_ok-later.ensures.items in
    (omega arith, subst AreRows (sym c.in_ok-later.ensures.items) (rows_front c.self.inside.rows.items (c.len-len.result / 2) c.self.invariant.1))
