use Rattle.std.proofs.Common.{◌≡◌, ◌∙◌, sym, refl, ap, false, List, Option}
use Rattle.std.specs.Prelude.{is_some}
use Rattle.std.specs.Option.{option_and_then}
use Rattle.pg_term.specs.declared.term.Term.{Term}
use Rattle.pg_message_types.specs.declared.message.Request.{Request}
use Rattle.pg_message_types.specs.Reading.{request_in}
use Rattle.pg_message_reader.specs.Names.{Tells, all_in, names_of_request}
use Rattle.pg_message_reader.proofs.Shapes.Shapes.{by_none, by_pair, by_triple, by_other, request_other}
use Rattle.pg_message_reader.proofs.shape.packet.is_request.Goals as goal

pub returns-in_default : goal.returns-in_default
returns-in_default c t rest e = by_none (λ (o : Option (List Term)). false ≡ is_some (option_and_then request_in o)) t (c.in_default.ensures.none 62 t rest e) refl

pub returns-then-arity-eq2 : goal.returns-then-arity-eq2
returns-then-arity-eq2 c t rest e =
    by_pair 61 c.in-Some.arity c.args.bytes.now c.in-Some.parts.now (c.in-Some.ensures.some 61) t rest e (λ (o : Option (List Term)). Tells (names_of_request (all_in o)) (is_some (option_and_then request_in o)) c.is_request_on.result) c.if-arity-eq2.true
    (λ a b mid ea eb. c.is_request_on.ensures a b mid rest ea eb)

pub returns-then-arity-eq3 : goal.returns-then-arity-eq3
returns-then-arity-eq3 c t rest e =
    by_triple 61 c.in-Some.arity c.args.bytes.now c.in-Some.parts.now (c.in-Some.ensures.some 61) t rest e (λ (o : Option (List Term)). Tells (names_of_request (all_in o)) (is_some (option_and_then request_in o)) c.is_membership.result) c.if-arity-eq3.true
    (λ a b x mid then ea eb ex. c.is_membership.ensures a b x mid then rest ea eb ex)

pub returns-else-arity-eq3 : goal.returns-else-arity-eq3
returns-else-arity-eq3 c t rest e =
    by_other 61 c.in-Some.arity c.args.bytes.now c.in-Some.parts.now (c.in-Some.ensures.some 61) t rest e (λ (o : Option (List Term)). false ≡ is_some (option_and_then request_in o))
    (λ ts len. ap (λ (o : Option Request). is_some o) (sym (request_other ts (λ two. c.if-arity-eq2.false (sym len ∙ two)) (λ three. c.if-arity-eq3.false (sym len ∙ three)))))
