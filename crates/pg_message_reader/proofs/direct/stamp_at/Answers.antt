use Rattle.std.proofs.Common.{ℕ, ◌∷◌, sym, ap, ◌∙◌}
use Rattle.pg_message_reader.proofs.Standing.{byte_stands}
use Rattle.pg_message_reader.proofs.direct.stamp_at.Goals as goal

pub returns-in-Some-clause-term : goal.returns-in-Some-clause-term
returns-in-Some-clause-term c = λ room.
    byte_stands room c.args.bytes.now c.in-Ok.rest.now c.from.result c.in-Some.rest.now c.in-Ok.ensures.found
    (c.in-Some.ensures.cases.0 ∙ ap (λ (n : ℕ). n ∷ c.in-Some.rest.now) (sym c.from.ensures))
