use Rattle.std.proofs.Common.{◌∷◌, ◌++◌, [], take, ap, sym, ◌∙◌, arith}
use Rattle.std.proofs.lemmas.List.{take_more, take_all, length-take-le}
use Rattle.pg_script_diagram.specs.Arrows.{arrows_from, with_event}
use Rattle.pg_script_diagram.proofs.Landing.{one_more}
use Rattle.pg_script_diagram.proofs.arrows.arrows_of.Goals as goal

pub loop-row-init : goal.loop-row-init
loop-row-init c = c.new-arrows.ensures.items

pub loop-row-preserved : goal.loop-row-preserved
loop-row-preserved c =
    let all = c.args.events.now in
    let row = c.loop-row.row in
    let e = c.index-events-row.result in
    c.in_ok-add_event.ensures
    ∙ ap (λ xs. with_event row e xs) c.loop-row.invariant
    ∙ ap (λ n. with_event n e (arrows_from 0 0 (take row all))) (sym (length-take-le row all (omega (arith, c.loop-row-test.true))))
    ∙ sym (one_more (take row all) e)
    ∙ ap (λ xs. arrows_from 0 0 xs) (ap (λ x. take row all ++ x ∷ []) c.index-events-row.is ∙ sym (take_more all row e c.loop-row-test.true))

pub returns : goal.returns
returns c = c.loop-row.invariant ∙ ap (λ xs. arrows_from 0 0 xs) (take_all c.loop-row.row c.args.events.now c.loop-row-test.false)
