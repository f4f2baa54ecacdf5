-- A packet that is read is spelled so, and what is spelled so is read.
use Rattle.std.proofs.Common.{◌≡◌, ℕ, ◌<◌, List, get_or, Result, Ok, Err, ap, subst, ◌∙◌}
use Rattle.std.specs.Prelude.{IfOk}
use Rattle.pg_term.specs.declared.fault.TermFault.{TermFault}
use Rattle.pg_term.specs.declared.term.Term.{Term}
use Rattle.pg_term_io.specs.Reading.{term_of}
use Rattle.pg_term_io.proofs.Again.{term_again}
use Rattle.pg_term_io.proofs.Decoding.{is_found}
use Rattle.pg_message_types.specs.declared.fault.MessageFault.{MessageFault}
use Rattle.pg_message_types.specs.declared.packet.Packet.{Packet}
use Rattle.pg_message_types.specs.Fault.{Gives}
use Rattle.pg_message_types.specs.Reading.{SpellsPacket, spelled, packet_spelled}

of_term : (p : Packet) (body : List ℕ) → ((i : ℕ) → get_or body i 0 < 256) → (r : Result Term TermFault) → term_of body ≡ r → spelled r ≡ Ok p → SpellsPacket p body
of_term p body fits (Ok t) e h = record { term = t; spelled = is_found body (Ok t) fits e; read = h }
of_term p body fits (Err f) e h = absurd cc

pub found : (r : Result Packet MessageFault) (body : List ℕ) → ((i : ℕ) → get_or body i 0 < 256) → Gives (λ p. p) r (packet_spelled body) → IfOk r (λ p. SpellsPacket p body)
found (Ok p) body fits h = of_term p body fits (term_of body) (λ i. term_of body) h
found (Err f) body fits h = tt

pub only : (r : Result Packet MessageFault) (body : List ℕ) (p : Packet) → SpellsPacket p body → Gives (λ q. q) r (packet_spelled body) → Gives (λ q. q) r (Ok p)
only r body p s h = subst (λ (told : Result Packet MessageFault). Gives (λ q. q) r told) (ap spelled (term_again s.term body s.spelled) ∙ s.read) h
