use Rattle.std.proofs.Common.{List, ℕ, Ok, Err, Result, Bor}
use Rattle.std.specs.Prelude.{IfOk}
use Rattle.pg_term.specs.declared.term.Term.TheVariants.{Atom}
use Rattle.pg_message_reader.specs.declared.direct.Detour.{Detour}
use Rattle.pg_message_reader.specs.Standing.{Stands, IsTupleHead}
use Rattle.pg_message_reader.proofs.direct.opened.Goals as goal

pub returns-clause-opens : goal.returns-clause-opens
returns-clause-opens c = at c.word_at.result c.word_at.ensures.term
  where
    at : (o : Result (Bor (List ℕ)) Detour) → ((room : ℕ) → IfOk o (λ rest. Stands room (Atom c.args.word.now) c.in_ok-rest.rest.now rest.now)) → IfOk o (λ rest. IsTupleHead c.args.arity c.args.word.now c.args.bytes.now rest.now)
    at (Err e) h = tt
    at (Ok rest) h = record { behind = c.in_ok-rest.rest.now; head = c.in_ok-rest.ensures.found; word_first = h }
