use Rattle.std.proofs.Common.{◌≡◌, ◌+◌, sym, ap, subst, ◌∙◌, arith}
use Rattle.std.specs.List.{flat_map}
use Rattle.pg_index_members.specs.Rows.{AreRows, total_of}
use Rattle.pg_index_members.proofs.Flat.{total-added, rows_added}
use Rattle.pg_index_members.proofs.level.LevelPart.add.Goals as goal

pub invariant_of-self-2 : goal.invariant_of-self-2
invariant_of-self-2 g c =
    let more = c.args.more in
    let pid = c.args.pid.now in
    let flat = flat_map g.P.Part.rows c.self.inside.parts.items in
    let now = c.in_ok-count.ensures.ok in
    let sum = c.self.invariant.sum in
    let total : total_of (flat_map g.P.Part.rows c.add_at.new.parts.items) ≡ total_of flat + more = ap total_of now ∙ total-added pid more flat in
    let is : total_of flat ≡ total_of c.args.self.now = ap total_of c.self.view_is in
    let fits = c.requires.fits in
    record {
      sum = omega arith;
      fits = omega arith;
      in_order = subst AreRows (sym now) (rows_added pid more flat c.requires.some c.self.invariant.in_order);
      some = c.add_at.ensures.parts;
    }
