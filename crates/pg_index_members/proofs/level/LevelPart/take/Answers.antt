use Rattle.std.proofs.Common.{◌≡◌, sym, ap, subst, arith}
use Rattle.std.specs.List.{flat_map}
use Rattle.pg_index_members.specs.Rows.{AreRows, total_of, one_taken}
use Rattle.pg_index_members.proofs.Flat.{count_le, total-taken, rows_taken}
use Rattle.pg_index_members.proofs.level.LevelPart.take.Goals as goal

pub overflow_sub-self : goal.overflow_sub-self
overflow_sub-self g c =
    let flat = flat_map g.P.Part.rows c.self.inside.parts.items in
    let few = count_le c.args.pid.now flat in
    let sum = c.self.invariant.sum in
    let count = c.take_at-count.ensures.count in
    omega arith

pub invariant_of-self : goal.invariant_of-self
invariant_of-self g c =
    let most = c.args.most in
    let pid = c.args.pid.now in
    let flat = flat_map g.P.Part.rows c.self.inside.parts.items in
    let now = c.take_at-count.ensures.rest in
    let sum = c.self.invariant.sum in
    let count = c.take_at-count.ensures.count in
    let total = total-taken pid most flat c.self.invariant.in_order in
    let after : total_of (flat_map g.P.Part.rows c.take_at-count.new.parts.items) ≡ total_of (one_taken flat pid most) = ap total_of now in
    let fits = c.self.invariant.fits in
    record {
      sum = omega arith;
      fits = omega arith;
      in_order = subst AreRows (sym now) (rows_taken pid most flat c.self.invariant.in_order);
      some = c.take_at-count.ensures.parts;
    }
