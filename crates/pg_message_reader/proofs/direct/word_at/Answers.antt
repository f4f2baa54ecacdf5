use Rattle.std.proofs.Common.{List, ℕ, ◌≡◌, ◌++◌, ap, ◌∙◌, Ok, Err, Result, Bor, arith}
use Rattle.std.specs.Prelude.{IfOk}
use Rattle.pg_term.specs.declared.term.Term.TheVariants.{Atom}
use Rattle.pg_message_reader.specs.declared.direct.Detour.{Detour}
use Rattle.pg_message_reader.specs.Standing.{Stands}
use Rattle.pg_message_reader.proofs.Standing.{word_stands}
use Rattle.pg_message_reader.proofs.direct.word_at.Goals as goal

pub returns-clause-term : goal.returns-clause-term
returns-clause-term c = λ room. at room c.behind-2.result c.behind-2.ensures.found
  where
    at : (room : ℕ) (o : Result (Bor (List ℕ)) Detour) → IfOk o (λ rest. c.in_ok-rest.rest.now ≡ c.as_bytes.result.now ++ rest.now) → IfOk o (λ rest. Stands room (Atom c.args.word.now) c.args.bytes.now rest.now)
    at room (Err e) h = tt
    at room (Ok rest) h =
        word_stands room c.args.bytes.now c.in_ok-rest.rest.now c.args.word.now rest.now c.requires.plain c.requires.few c.utf8.word (λ i. omega (arith, c.type_inv.word i)) c.in_ok-rest.ensures.found
        (h ∙ ap (λ (x : List ℕ). x ++ rest.now) c.as_bytes.ensures.value)
