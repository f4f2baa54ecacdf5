use Rattle.std.proofs.Common.{List, ℕ, None, refl, sym, subst, ◌∙◌}
use Rattle.std.specs.Prelude.{string_bytes}
use Rattle.std.proofs.lemmas.Result.{on_ok_weaker}
use Rattle.pg_explore_tally.specs.declared.counts.Counted.{Counted}
use Rattle.pg_explore_tally.specs.Counts.{IsFound, IsOneMore}
use Rattle.pg_explore_tally.proofs.Counting.{counted, pushed}
use Rattle.pg_explore_tally.proofs.counts.Counts.add.Goals as goal

pub returns-in-Some : goal.returns-in-Some
returns-in-Some c =
    let rows = c.args.self.now.rows.items in
    let text = string_bytes c.args.text in
    let found = c.in-Some.ensures in
    on_ok_weaker c.count.result
    (λ is. subst (λ (xs : List Counted). IsOneMore text rows xs) (sym (is found.0 found.1)) (counted rows c.in-Some.place found.0 text found.1 (found.2 ∙ c.as_str.ensures.value)))
    c.count.ensures

pub returns-in_ok-push-in-None : goal.returns-in_ok-push-in-None
returns-in_ok-push-in-None c =
    let rows = c.args.self.now.rows.items in
    let text = string_bytes c.args.text in
    let row : Counted = record { text = c.args.text; count = 1 } in
    subst (λ (xs : List Counted). IsOneMore text rows xs) (sym c.in_ok-push-in-None.ensures.items)
    (pushed rows row text (subst (λ (bs : List ℕ). IsFound rows bs None) c.as_str.ensures.value c.in-None.ensures) refl refl)
