use Rattle.std.proofs.Common.{◌≡◌, ℕ, ◌+◌, ◌<◌, cond, length, List, ◌∷◌, Some, get_or, drop, refl, sym, ap, ◌∙◌}
use Rattle.std.proofs.lemmas.List.{drop_more, drop_all}
use Rattle.pg_script_diagram.specs.declared.data.Event.{Event}
use Rattle.pg_script_diagram.specs.Arrows.{is_loss, loss_row}
use Rattle.pg_script_diagram.proofs.arrows.lost_in.Goals as goal

pub loop-row-init : goal.loop-row-init
loop-row-init c = refl

at : (node row : ℕ) (all : List Event) (e : Event) → row < length all → e ≡ get_or all row e
    → loss_row node row (drop row all) ≡ cond (is_loss node e) (Some row) (loss_row node (row + 1) (drop (row + 1) all))
at node row all e lt is = ap (λ xs. loss_row node row xs) (drop_more all row e lt ∙ ap (λ x. x ∷ drop (row + 1) all) (sym is))

pub returns-then-is_loss : goal.returns-then-is_loss
returns-then-is_loss c =
    sym (c.loop-row.invariant ∙ at c.args.node c.loop-row.row c.args.events.now c.index-events-row.result c.loop-row-test.true c.index-events-row.is
    ∙ ap (λ b. cond b (Some c.loop-row.row) (loss_row c.args.node (c.loop-row.row + 1) (drop (c.loop-row.row + 1) c.args.events.now))) (sym c.if-is_loss.ensures))

pub loop-row-preserved : goal.loop-row-preserved
loop-row-preserved c =
    c.loop-row.invariant ∙ at c.args.node c.loop-row.row c.args.events.now c.index-events-row.result c.loop-row-test.true c.index-events-row.is
    ∙ ap (λ b. cond b (Some c.loop-row.row) (loss_row c.args.node (c.loop-row.row + 1) (drop (c.loop-row.row + 1) c.args.events.now))) (sym c.if-is_loss.ensures)

pub returns : goal.returns
returns c = sym (c.loop-row.invariant ∙ ap (λ xs. loss_row c.args.node c.loop-row.row xs) (drop_all c.loop-row.row c.args.events.now c.loop-row-test.false))
