use Rattle.std.proofs.Common.{◌+◌, ◌-◌, ◌/◌, sym, ap, ◌∙◌, arith}
use Rattle.pg_index_members.specs.Edges.{before}
use Rattle.pg_index_members.specs.Rows.{all_before}
use Rattle.pg_index_members.proofs.Order.{downward}
use Rattle.pg_index_members.proofs.Parts.{front_more}
use Rattle.pg_index_members.proofs.level.choose.Goals as goal

pub loop-low-preserved-then-is_before : goal.loop-low-preserved-then-is_before
loop-low-preserved-then-is_before g c =
    let middle = c.loop-low.low + (c.loop-low.high - c.loop-low.low) / 2 in
    record {
      in_order = omega arith;
      within = c.loop-low.invariant.within;
      front = front_more g.P.Part.rows (before c.args.edge) (downward c.args.edge) c.args.parts.now middle c.index-parts-middle.result c.requires.in_order c.requires.some (omega arith) (ap (λ x. all_before (before c.args.edge) (g.P.Part.rows x)) (sym c.index-parts-middle.is) ∙ sym c.is_before.ensures ∙ c.if-is_before.true);
      next = c.loop-low.invariant.next;
    }
