use Rattle.std.proofs.Common.{◌≡◌, ◌∙◌, sym, refl, ap, false, List, Option}
use Rattle.std.specs.Prelude.{is_some}
use Rattle.std.specs.Option.{option_and_then}
use Rattle.pg_term.specs.declared.term.Term.{Term}
use Rattle.pg_message_types.specs.declared.message.Message.{Message}
use Rattle.pg_message_types.specs.Reading.{cast_in}
use Rattle.pg_message_reader.specs.Names.{Tells, all_in, names_of_cast}
use Rattle.pg_message_reader.proofs.Shapes.Shapes.{by_none, by_triple, by_other, cast_other}
use Rattle.pg_message_reader.proofs.shape.packet.is_cast.Goals as goal

pub returns-in_default : goal.returns-in_default
returns-in_default c t rest e = by_none (λ (o : Option (List Term)). false ≡ is_some (option_and_then cast_in o)) t (c.in_default.ensures.none 62 t rest e) refl

pub returns-then-arity-ne3 : goal.returns-then-arity-ne3
returns-then-arity-ne3 c t rest e =
    by_other 61 c.in-Some.arity c.args.bytes.now c.in-Some.parts.now (c.in-Some.ensures.some 61) t rest e (λ (o : Option (List Term)). false ≡ is_some (option_and_then cast_in o))
    (λ ts len. ap (λ (o : Option Message). is_some o) (sym (cast_other ts (λ three. c.if-arity-ne3.true (sym len ∙ three)))))

pub returns : goal.returns
returns c t rest e =
    by_triple 61 c.in-Some.arity c.args.bytes.now c.in-Some.parts.now (c.in-Some.ensures.some 61) t rest e (λ (o : Option (List Term)). Tells (names_of_cast (all_in o)) (is_some (option_and_then cast_in o)) c.is_casting.result) c.if-arity-ne3.false
    (λ a b x mid then ea eb ex. c.is_casting.ensures a b x mid then rest ea eb ex)
