-- What is sent is read again, and what is not sent has its fault.
use Rattle.std.proofs.Common.{◌≡◌, ℕ, Bool, true, false, cond, List, Result, Ok, Err, refl, sym, ap, ◌∙◌}
use Rattle.std.specs.Prelude.{nat_le, IsOk}
use Rattle.std.specs.Result.{is_ok}
use Rattle.pg_term.specs.declared.fault.TermFault.TheVariants.{Truncated, BadVersion, UnknownTag, TooDeep}
use Rattle.pg_term.specs.declared.fault.TermFault.TheVariants.{IntegerTooLarge, BadAtom, ImproperList}
use Rattle.pg_term.specs.declared.fault.TermFault.TheVariants.{BadReference, TrailingBytes, OutOfMemory, TooLong}
use Rattle.pg_message_types.specs.PgTermIo.Writing.{written, IsSpelled}
use Rattle.pg_message_types.proofs.PgTermIo.Again.{term_again}
use Rattle.pg_message_types.proofs.PgTermIo.Spelled.{written_spelled}
use Rattle.pg_message_types.specs.declared.fault.MessageFault.{MessageFault}
use Rattle.pg_message_types.specs.declared.fault.MessageFault.TheVariants.{Term, NotAMessage, StampTooLarge, NameTooLarge}
use Rattle.pg_message_types.specs.declared.packet.Packet.{Packet}
use Rattle.pg_message_types.specs.Limits.{max_stamp}
use Rattle.pg_message_types.specs.Fault.{Fails}
use Rattle.pg_message_types.specs.Reading.{spelled, packet_spelled}
use Rattle.pg_message_types.specs.Writing.{term_of_packet, is_sayable, sent, body_of, length_of}
use Rattle.pg_message_writer.proofs.Bodies.{body_is}
use Rattle.pg_message_writer.proofs.Deep.{packet_deep}
use Rattle.pg_message_types.proofs.ReadBack.{read_back}

fails_so : {Y : Type 0} (r : Result Y MessageFault) (fault : MessageFault) → r ≡ Err fault → Fails fault r
fails_so r (Term Truncated) e = e
fails_so r (Term BadVersion) e = e
fails_so r (Term UnknownTag) e = e
fails_so r (Term TooDeep) e = e
fails_so r (Term IntegerTooLarge) e = e
fails_so r (Term BadAtom) e = e
fails_so r (Term ImproperList) e = e
fails_so r (Term BadReference) e = e
fails_so r (Term TrailingBytes) e = e
fails_so r (Term OutOfMemory) e = tt
fails_so r (Term TooLong) e = e
fails_so r NotAMessage e = e
fails_so r StampTooLarge e = e
fails_so r NameTooLarge e = e

same_fault : (r : Result (List ℕ) MessageFault) (fault : MessageFault) → Err fault ≡ length_of r → r ≡ Err fault
same_fault (Ok body) fault e = absurd cc
same_fault (Err f) fault e = cc

-- a body that has no length has the fault
pub not_sent : (r : Result (List ℕ) MessageFault) (fault : MessageFault) → Err fault ≡ length_of r → Fails fault r
not_sent r fault e = fails_so r fault (same_fault r fault e)

-- a body that has a length is there
pub has_body : (r : Result (List ℕ) MessageFault) (n : ℕ) → Ok n ≡ length_of r → IsOk r
has_body (Ok body) n e = refl
has_body (Err f) n e = absurd cc

settled : (b c : Bool) (p : Packet) (w : List ℕ) → is_ok (sent (cond b (cond c (Ok p) (Err StampTooLarge)) (Err NotAMessage)) w) ≡ true
    → (b ≡ true) × (cond b (cond c (Ok p) (Err StampTooLarge)) (Err NotAMessage) ≡ Ok p)
settled true true p w h = (refl, refl)
settled true false p w h = absurd cc
settled false c p w h = absurd cc

-- what is sent is read as the packet
pub sent_read : (p : Packet) → IsOk (body_of p) → IsSpelled (term_of_packet p) → packet_spelled (written (term_of_packet p)) ≡ Ok p
sent_read p h spells =
    let t = term_of_packet p in
    let s = settled (is_sayable p.message) (nat_le p.stamp max_stamp) p (written t) (ap is_ok (sym (body_is p)) ∙ h) in
    ap spelled (term_again t (written t) (written_spelled t spells (packet_deep p s.0))) ∙ read_back p ∙ s.1
