use Rattle.std.proofs.Common.{◌∙◌, sym}
use Rattle.std.specs.Ordering.{is_gt}
use Rattle.pg_term.specs.Same.{atom_cmp}
use Rattle.pg_node_opens.specs.Places.{name_at}
use Rattle.pg_node_opens.proofs.Asking.{lost_at}
use Rattle.pg_node_opens.proofs.Greatest.{greatest_next, greatest_last, greater_within, greater_counts}
use Rattle.pg_node_opens.proofs.nodes.greatest_place.Goals as goal

pub loop-place-preserved : goal.loop-place-preserved
loop-place-preserved c =
    let greater = is_gt (atom_cmp (name_at c.args.names.now c.loop-place.place) (name_at c.args.names.now c.loop-place.best)) in
    record {
      within = greater_within c.args.names.now c.args.lost.now c.loop-place.best c.loop-place.place c.greater-best.result greater c.loop-place.invariant.within c.loop-place-test.true c.greater-best.ensures;
      counts = greater_counts c.args.names.now c.args.lost.now c.loop-place.best c.loop-place.place c.greater-best.result greater c.loop-place.invariant.counts c.greater-best.ensures;
      so_far = greatest_next c.args.names.now c.args.lost.now c.loop-place.best c.loop-place.place c.greater-best.result c.loop-place-test.true
          (lost_at c.args.names.now c.args.lost.now c.requires.apart c.requires.places c.loop-place.place c.loop-place-test.true) c.greater-best.ensures
          ∙ c.loop-place.invariant.so_far;
    }

pub returns-clause-greatest : goal.returns-clause-greatest
returns-clause-greatest c = sym (greatest_last c.args.names.now c.args.lost.now (name_at c.args.names.now c.loop-place.best) c.loop-place.place c.loop-place-test.false)
    ∙ c.loop-place.invariant.so_far
