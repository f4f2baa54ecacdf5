use Rattle.std.proofs.Common.{arith}
use Rattle.std.specs.List.{flat_map}
use Rattle.pg_index_members.proofs.Last.{last_total, last_front}
use Rattle.pg_index_members.proofs.level.LevelPart.take_last.Goals as goal

pub overflow_sub-self : goal.overflow_sub-self
overflow_sub-self g c =
    let rows = g.P.Part.rows in
    let all = last_total (flat_map rows c.self.inside.parts.items) (flat_map rows c.take_last_of.new.parts.items) c.in_ok-row.row c.in_ok-row.ensures.some in
    let sum = c.self.invariant.sum in
    omega arith

pub invariant_of-self-2 : goal.invariant_of-self-2
invariant_of-self-2 g c =
    let rows = g.P.Part.rows in
    let all = last_total (flat_map rows c.self.inside.parts.items) (flat_map rows c.take_last_of.new.parts.items) c.in_ok-row.row c.in_ok-row.ensures.some in
    let sum = c.self.invariant.sum in
    let fits = c.self.invariant.fits in
    record {
      sum = omega arith;
      fits = omega arith;
      in_order = last_front (flat_map rows c.self.inside.parts.items) (flat_map rows c.take_last_of.new.parts.items) c.in_ok-row.row c.in_ok-row.ensures.some c.self.invariant.in_order;
      some = c.take_last_of.ensures.parts;
    }
