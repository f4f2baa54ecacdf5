use Rattle.std.proofs.Common.{◌≢◌, ◌<◌, ◌∙◌, List, false, length, get_or, ap, arith}
use Rattle.std.proofs.Common.{length-set, get_or-set_other, get_or-set_same, below_more}
use Rattle.pg_node_opens.specs.declared.mark.Mark.{Mark}
use Rattle.pg_node_opens.specs.declared.mark.Mark.TheVariants.{Unasked}
use Rattle.pg_node_opens.specs.Marks.{mark_at}
use Rattle.pg_node_opens.proofs.marks.Marks.ask.Goals as goal

pub loop-place-preserved : goal.loop-place-preserved
loop-place-preserved c =
    let was = c.loop-place.invariant in
    let below : c.loop-place.place < length c.loop-place.self = omega (arith, was.len, c.requires, c.loop-place-test.true) in
    let done = mark_at (get_or c.loop-place.self c.loop-place.place Unasked) (get_or c.args.lost.now c.loop-place.place false) c.args.who c.loop-place.place c.args.granted in
    record {
      len = ap (λ (ms : List Mark). length ms) c.ask_at.ensures ∙ (length-set c.loop-place.self c.loop-place.place done ∙ was.len);
      done = below_more _ _
          (λ k h. let ne : k ≢ c.loop-place.place = omega arith in
          ap (λ (ms : List Mark). get_or ms k Unasked) c.ask_at.ensures ∙ (get_or-set_other c.loop-place.self c.loop-place.place k done Unasked ne ∙ was.done k h))
          (ap (λ (ms : List Mark). get_or ms c.loop-place.place Unasked) c.ask_at.ensures
          ∙ (get_or-set_same c.loop-place.self c.loop-place.place done Unasked below
          ∙ ap (λ m. mark_at m (get_or c.args.lost.now c.loop-place.place false) c.args.who c.loop-place.place c.args.granted) (was.left c.loop-place.place (omega arith))));
      left = λ k h. let ne : k ≢ c.loop-place.place = omega arith in
          ap (λ (ms : List Mark). get_or ms k Unasked) c.ask_at.ensures ∙ (get_or-set_other c.loop-place.self c.loop-place.place k done Unasked ne ∙ was.left k (omega arith));
    }
