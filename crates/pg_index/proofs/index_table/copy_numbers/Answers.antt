use Rattle.std.proofs.Common.{Some, cond, refl, ap, ◌∙◌}
use Rattle.std.specs.Map.{lookup}
use Rattle.pg_term.specs.declared.term.Term.{Term}
use Rattle.pg_term.specs.Same.{same_term}
use Rattle.pg_term.proofs.Same as decided
use Rattle.pg_index.specs.Index.{number_of}
use Rattle.pg_index.proofs.Copies.{names_flip, found_each, entries_begun, entries_more}
use Rattle.pg_index.proofs.index_table.copy_numbers.Goals as goal

pub loop-name-init : goal.loop-name-init
loop-name-init c =
    entries_begun same_term (number_of c.args.numbers.now) (number_of c.new-copy.result) c.into_iter-name-iterator.result c.args.numbers.now.entries
    (c.into_iter-name-iterator.ensures.into_iter_gives ∙ c.iter-name-items.ensures.rest) (λ q. refl) (found_each c.args.numbers.now c.iter-name-items.ensures.unique) (λ q. ap (lookup (same_term q)) c.new-copy.ensures.empty)

pub loop-name-preserved : goal.loop-name-preserved
loop-name-preserved c =
    entries_more same_term (number_of c.args.numbers.now) decided.same_term names_flip (number_of c.loop-name.copy) (number_of c.insert.new.self) c.in-Some.name.now c.in-Some.number.now c.loop-name.name-iterator c.next.new.self
    c.in-Some.ensures.steps c.loop-name.invariant
    (λ q. c.in_ok-insert.ensures.updates.0 q ∙ ap (λ (k : Term). cond (same_term k q) (Some c.in-Some.number.now) (number_of c.loop-name.copy q)) c.in_ok-copy.ensures)
