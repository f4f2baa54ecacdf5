use Rattle.std.proofs.Common.{◌≡◌, ◌∙◌, sym, refl, List, Option, Err}
use Rattle.pg_message_types.specs.declared.fault.MessageFault.TheVariants.{NotAMessage}
use Rattle.pg_term.specs.declared.term.Term.{Term}
use Rattle.pg_message_types.specs.Reading.{packet_in}
use Rattle.pg_message_reader.specs.Names.{Checks, all_in, names_of_packet}
use Rattle.pg_message_reader.proofs.Shapes.Shapes.{by_none, by_pair, by_other, packet_other}
use Rattle.pg_message_reader.proofs.shape.packet.check_stamped.Goals as goal

pub returns-in_default : goal.returns-in_default
returns-in_default c t rest e = by_none (λ (o : Option (List Term)). packet_in o ≡ Err NotAMessage) t (c.in_default.ensures.none 64 t rest e) refl

pub returns-then-arity-ne2 : goal.returns-then-arity-ne2
returns-then-arity-ne2 c t rest e =
    by_other 63 c.in-Some.arity c.args.bytes.now c.in-Some.parts.now (c.in-Some.ensures.some 63) t rest e (λ (o : Option (List Term)). packet_in o ≡ Err NotAMessage) (λ ts len. packet_other ts (λ two. c.if-arity-ne2.true (sym len ∙ two)))

pub returns : goal.returns
returns c t rest e =
    by_pair 63 c.in-Some.arity c.args.bytes.now c.in-Some.parts.now (c.in-Some.ensures.some 63) t rest e (λ (o : Option (List Term)). Checks (names_of_packet (all_in o)) (packet_in o) c.check_parts.result) c.if-arity-ne2.false
    (λ a b mid ea eb. c.check_parts.ensures a b mid rest ea eb)
