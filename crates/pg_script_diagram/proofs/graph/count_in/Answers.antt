use Rattle.std.proofs.Common.{◌≡◌, ◌+◌, cond, false, take, ap, sym, ◌∙◌, arith, refl, get_or}
use Rattle.std.proofs.lemmas.Bool.{eq-eqb, ne_eqb}
use Rattle.pg_script_diagram.specs.declared.graph.Spot.{Spot}
use Rattle.pg_script_diagram.specs.Graphs.{worlds_in_row}
use Rattle.pg_script_diagram.proofs.Worlds.{count_taken}
use Rattle.pg_script_diagram.proofs.graph.count_in.Goals.{then-spots-place, else-spots-place}
use Rattle.pg_script_diagram.proofs.graph.count_in.Goals as goal

pub loop-place-init : goal.loop-place-init
loop-place-init c = (refl, omega arith)

pub overflow_add-found : goal.overflow_add-found
overflow_add-found c = record { fits = omega (arith, c.ranges.count.fits, c.loop-place-test.true, c.loop-place.invariant.1) }

pub loop-place-preserved : goal.loop-place-preserved
loop-place-preserved c =
    let none : Spot = record { row = 0; is_end = false; is_marked = false } in
    let row = (get_or c.args.spots.now c.loop-place.place none).row in
    let more = count_taken c.args.row c.loop-place.place c.args.spots.now none (omega (arith, c.loop-place-test.true, c.requires)) in
    let same = c.loop-place.invariant.0 in
    let few = c.loop-place.invariant.1 in
    elim c.if-spots-place.branch [
      | then-spots-place w ↦ (
        w.found-is ∙ ap (λ n. n + 1) same ∙ sym (more ∙ ap (λ b. worlds_in_row c.args.row (take c.loop-place.place c.args.spots.now) + cond b 1 0) (eq-eqb row c.args.row w.if-spots-place.true)),
        omega (arith, few, w.found-is),
      )
      | else-spots-place w ↦ (
        w.found-is ∙ same ∙ sym (more ∙ ap (λ b. worlds_in_row c.args.row (take c.loop-place.place c.args.spots.now) + cond b 1 0) (ne_eqb row c.args.row w.if-spots-place.false) ∙ omega arith),
        omega (arith, few, w.found-is),
      )
    ]

pub returns : goal.returns
returns c =
    let done : c.loop-place.place ≡ c.args.count = omega (arith, c.loop-place-test.false, c.loop-place.auto.place-end) in
    c.loop-place.invariant.0 ∙ ap (λ n. worlds_in_row c.args.row (take n c.args.spots.now)) done
