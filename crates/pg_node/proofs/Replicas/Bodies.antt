-- What a body leads to, from what reading and taking it lead to.
use Rattle.std.proofs.Common.{◌≡◌, ℕ, List, Result, Ok, Err, refl, sym, ap, subst, ◌∙◌}
use Rattle.pg_term.specs.declared.fault.TermFault.TheVariants.{Truncated, BadVersion, UnknownTag, TooDeep}
use Rattle.pg_term.specs.declared.fault.TermFault.TheVariants.{IntegerTooLarge, BadAtom, ImproperList}
use Rattle.pg_term.specs.declared.fault.TermFault.TheVariants.{BadReference, TrailingBytes, OutOfMemory, TooLong}
use Rattle.pg_node_state.specs.PgMessageTypes.declared.fault.MessageFault.{MessageFault}
use Rattle.pg_node_state.specs.PgMessageTypes.declared.fault.MessageFault.TheVariants.{Term, NotAMessage, StampTooLarge, NameTooLarge}
use Rattle.pg_node_state.specs.PgMessageTypes.declared.packet.Packet.{Packet}
use Rattle.pg_node_state.specs.PgMessageTypes.Fault.{Fails}
use Rattle.pg_node_state.specs.PgMessageTypes.Reading.{packet_spelled}
use Rattle.pg_node.specs.declared.replica.fault.ServeFault.{ServeFault}
use Rattle.pg_node.specs.declared.replica.fault.ServeFault.TheVariants.{Message}
use Rattle.pg_node.specs.Replicas.Fault.{Refuses}
use Rattle.pg_node.specs.Replicas.Replica.{Pair, State, Answer, AnswersServed, answered, taken_in, taken_packet}

module _ (pair : Pair) (s : State) (body : List ℕ) where
  answered_of : answered pair s body ≡ taken_in pair s (packet_spelled body)
  unfolding answered
  answered_of = refl

  told : (fault : MessageFault) → packet_spelled body ≡ Err fault → answered pair s body ≡ Err (Message fault)
  told fault e = answered_of ∙ ap (taken_in pair s) e

  -- a body that is no packet
  pub unread_refused : (fault : MessageFault) → Fails fault (packet_spelled body) → Refuses (answered pair s body) (Message fault)
  unread_refused (Term Truncated) h = told (Term Truncated) h
  unread_refused (Term BadVersion) h = told (Term BadVersion) h
  unread_refused (Term UnknownTag) h = told (Term UnknownTag) h
  unread_refused (Term TooDeep) h = told (Term TooDeep) h
  unread_refused (Term IntegerTooLarge) h = told (Term IntegerTooLarge) h
  unread_refused (Term BadAtom) h = told (Term BadAtom) h
  unread_refused (Term ImproperList) h = told (Term ImproperList) h
  unread_refused (Term BadReference) h = told (Term BadReference) h
  unread_refused (Term TrailingBytes) h = told (Term TrailingBytes) h
  unread_refused (Term OutOfMemory) h = tt
  unread_refused (Term TooLong) h = told (Term TooLong) h
  unread_refused NotAMessage h = told NotAMessage h
  unread_refused StampTooLarge h = told StampTooLarge h
  unread_refused NameTooLarge h = told NameTooLarge h

  module _ (packet : Packet) (read : packet_spelled body ≡ Ok packet) where
    read_answered : taken_packet pair s packet ≡ answered pair s body
    read_answered = sym (answered_of ∙ ap (taken_in pair s) read)

    pub answers : (new : State) (before after : List ℕ) → AnswersServed (taken_packet pair s packet) new before after → AnswersServed (answered pair s body) new before after
    answers new before after = subst (λ (r : Result Answer ServeFault). AnswersServed r new before after) read_answered

    -- a packet that is refused
    pub untaken_refused : (fault : ServeFault) → Refuses (taken_packet pair s packet) fault → Refuses (answered pair s body) fault
    untaken_refused fault = subst (λ (r : Result Answer ServeFault). Refuses r fault) read_answered
