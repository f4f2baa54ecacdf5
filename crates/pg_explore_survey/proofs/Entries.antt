-- The lines of commands, one after another.
use Rattle.std.proofs.Common.{◌≡◌, ◌<◌, ℕ, ◌+◌, List, [], ◌∷◌, ◌++◌, false}
use Rattle.std.proofs.Common.{fold, length, get_or, map, take, sym, ap, ◌∙◌}
use Rattle.std.proofs.lemmas.List.{map_push, take_more}
use Rattle.std.proofs.lemmas.List.Sums.{fold-append}
use Rattle.pg_script.specs.PgWorldAccount.declared.entry.Entry.{Entry}
use Rattle.pg_script.specs.PgWorldAccount.Histories.{as_entry}
use Rattle.pg_explore_survey.specs.declared.pen.Pen.{Pen}
use Rattle.pg_explore_survey.specs.declared.scenario.Scenario.{Scenario}
use Rattle.pg_explore_survey.specs.Texts.{EndsAs, with_entry, written}

pub entries_more : (scenario : Scenario) (entries : List Entry) (i : ℕ) (entry : Entry) (text : List ℕ) (a b c : Pen) → i < length entries → entry ≡ get_or entries i entry
    → EndsAs (fold (with_entry scenario) text (map as_entry (take i entries))) a b → EndsAs (with_entry scenario (written b) (as_entry entry)) b c
    → EndsAs (fold (with_entry scenario) text (map as_entry (take (i + 1) entries))) a c
entries_more scenario entries i entry text a b c l is h k = λ enough.
    let last = k enough in
    let first = h last.0 in
    let more = ap (fold (with_entry scenario) text) (ap (map as_entry) (take_more entries i entry l) ∙ map_push as_entry (take i entries) (get_or entries i entry)
    ∙ ap (λ (e : Entry). map as_entry (take i entries) ++ as_entry e ∷ []) (sym is)) ∙ fold-append (with_entry scenario) text (map as_entry (take i entries)) (as_entry entry ∷ []) in
    (first.0, last.1 ∙ ap (λ (t : List ℕ). with_entry scenario t (as_entry entry)) first.1 ∙ sym more)
