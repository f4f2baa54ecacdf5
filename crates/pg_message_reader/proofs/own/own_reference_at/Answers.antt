use Rattle.std.proofs.Common.{◌≡◌, ◌++◌, ◌∙◌, ℕ, List, Result, Ok, Err, Bor, true, false, sym}
use Rattle.std.specs.Prelude.{IfOk}
use Rattle.std.specs.Int.{w32, to_be_bytes}
use Rattle.std.specs.List.{flat_map}
use Rattle.pg_term.specs.declared.term.Term.TheVariants.{Ref}
use Rattle.pg_term_io.specs.Reading.{items_at, number_at}
use Rattle.pg_refs.specs.Numbered.{numbered, words_in}
use Rattle.pg_message_reader.specs.declared.direct.Detour.{Detour}
use Rattle.pg_message_reader.specs.Standing.{Stands}
use Rattle.pg_message_reader.proofs.OwnReplies.{own_stands, reference_laid, words_once}
use Rattle.pg_message_reader.proofs.own.own_reference_at.Goals as goal

pub returns-clause-term : goal.returns-clause-term
returns-clause-term c = λ room. at room c.own_words_at.result c.own_words_at.ensures.found
  where
    at : (room : ℕ) (o : Result (ℕ × Bor (List ℕ)) Detour) → IfOk o (λ x. items_at (number_at w32) 3 c.in_ok-rest.rest.now ≡ Ok (words_in x.0, x.1.now))
        → IfOk o (λ x. Stands room (Ref (numbered c.args.own.now x.0)) c.args.bytes.now x.1.now)
    at room (Err e) h = tt
    at room (Ok x) h = own_stands room c.args.own.now x.0 c.args.bytes.now c.in_ok-rest.rest.now x.1.now c.in_ok-rest.ensures.spelled c.in_ok-rest.ensures.found h

pub returns-in_err-rest-clause-all : goal.returns-in_err-rest-clause-all
returns-in_err-rest-clause-all c = λ number rest l e.
    let no : false ≡ true = c.in_err-rest.ensures.all (flat_map (to_be_bytes w32) (words_in number) ++ rest) (e ∙ reference_laid c.args.own.now number rest) in absurd (cc)

pub returns-clause-all : goal.returns-clause-all
returns-clause-all c = λ number rest l e.
    let words = flat_map (to_be_bytes w32) (words_in number) ++ rest in
    c.own_words_at.ensures.all number rest l (words_once c.args.own.now c.in_ok-rest.rest.now words (sym c.in_ok-rest.ensures.found ∙ (e ∙ reference_laid c.args.own.now number rest)))

pub returns-clause-rest : goal.returns-clause-rest
returns-clause-rest c = λ number rest l e.
    let words = flat_map (to_be_bytes w32) (words_in number) ++ rest in
    c.own_words_at.ensures.rest number rest l (words_once c.args.own.now c.in_ok-rest.rest.now words (sym c.in_ok-rest.ensures.found ∙ (e ∙ reference_laid c.args.own.now number rest)))
