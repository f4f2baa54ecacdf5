use Rattle.std.proofs.Common.{◌+◌, ◌-◌, ◌/◌, sym, ap, ◌∙◌, arith}
use Rattle.pg_index_members.specs.declared.row.Row.{Row}
use Rattle.pg_index_members.specs.Edges.{before}
use Rattle.pg_index_members.proofs.Order.{downward}
use Rattle.pg_index_members.proofs.Cut.{front_more, from}
use Rattle.pg_index_members.proofs.block.find.Goals as goal

pub loop-low-preserved-then-is_before : goal.loop-low-preserved-then-is_before
loop-low-preserved-then-is_before c =
    let middle = c.loop-low.low + (c.loop-low.high - c.loop-low.low) / 2 in
    record {
      in_order = omega arith;
      within = c.loop-low.invariant.within;
      front = front_more (before c.args.edge) (downward c.args.edge) c.args.rows.now middle c.index-rows-middle.result c.requires (omega arith) (ap (λ (r : Row). before c.args.edge r.pid) (sym c.index-rows-middle.is) ∙ sym c.is_before.ensures ∙ c.if-is_before.true);
      rest = c.loop-low.invariant.rest;
    }

pub loop-low-preserved : goal.loop-low-preserved
loop-low-preserved c =
    let middle = c.loop-low.low + (c.loop-low.high - c.loop-low.low) / 2 in
    record {
      in_order = omega arith;
      within = omega arith;
      front = c.loop-low.invariant.front;
      rest = from (before c.args.edge) (downward c.args.edge) c.args.rows.now middle c.index-rows-middle.result c.requires (omega arith) (ap (λ (r : Row). before c.args.edge r.pid) (sym c.index-rows-middle.is) ∙ sym c.is_before.ensures ∙ c.if-is_before.false);
    }
