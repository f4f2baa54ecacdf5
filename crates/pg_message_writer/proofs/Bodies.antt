-- The body of a packet, by what the packet says.
use Rattle.std.proofs.Common.{◌≡◌, ◌+◌, ◌<◌, ◌≤◌, pos, Bool, true, false, cond, length, Result, Ok, Err, ap, ◌∙◌, arith}
use Rattle.std.specs.Prelude.{nat_lt, nat_le}
use Rattle.std.proofs.lemmas.Bool.{lt-ltb, le-ltb, le-leb, lt-leb}
use Rattle.pg_term.specs.declared.fault.TermFault.TheVariants as terms
use Rattle.pg_term.specs.declared.term.Term.TheVariants.{Int}
use Rattle.pg_message_types.specs.PgTermIo.Writing.{item_bytes, written}
use Rattle.pg_message_types.specs.declared.fault.MessageFault.{MessageFault}
use Rattle.pg_message_types.specs.declared.fault.MessageFault.TheVariants as faults
use Rattle.pg_message_types.specs.declared.packet.Packet.{Packet}
use Rattle.pg_message_types.specs.Limits.{max_stamp}
use Rattle.pg_message_types.specs.Writing.{message_term, term_of_packet, is_sayable, sendable, sent, body_of}
use Rattle.pg_message_types.proofs.ReadBack.{read_back}
use Rattle.pg_message_writer.proofs.Words.{pair_len}

module _ (p : Packet) where
  pub body_is : body_of p ≡ sent (sendable p) (written (term_of_packet p))
  body_is = ap (λ (r : Result Packet MessageFault). sent r (written (term_of_packet p))) (read_back p)

  pub written_len : length (written (term_of_packet p)) ≡ 3 + length (item_bytes (Int (pos p.stamp))) + length (item_bytes (message_term p.message))
  written_len = omega (arith, pair_len (Int (pos p.stamp)) (message_term p.message))

  pub unsayable : is_sayable p.message ≡ false → body_of p ≡ Err faults.NotAMessage
  unsayable e =
      body_is ∙ ap (λ (b : Bool). sent (cond b (cond (nat_le p.stamp max_stamp) (Ok p) (Err faults.StampTooLarge)) (Err faults.NotAMessage)) (written (term_of_packet p))) e

  module _ (said : is_sayable p.message ≡ true) where
    stamped : body_of p ≡ sent (cond (nat_le p.stamp max_stamp) (Ok p) (Err faults.StampTooLarge)) (written (term_of_packet p))
    stamped =
        body_is ∙ ap (λ (b : Bool). sent (cond b (cond (nat_le p.stamp max_stamp) (Ok p) (Err faults.StampTooLarge)) (Err faults.NotAMessage)) (written (term_of_packet p))) said

    pub late : max_stamp < p.stamp → body_of p ≡ Err faults.StampTooLarge
    late h = stamped ∙ ap (λ (b : Bool). sent (cond b (Ok p) (Err faults.StampTooLarge)) (written (term_of_packet p))) (lt-leb p.stamp max_stamp h)

    module _ (in_time : p.stamp ≤ max_stamp) where
      measured : body_of p ≡ cond (nat_lt 16777216 (length (written (term_of_packet p)))) (Err (faults.Term terms.TooLong)) (Ok (written (term_of_packet p)))
      measured = stamped ∙ ap (λ (b : Bool). sent (cond b (Ok p) (Err faults.StampTooLarge)) (written (term_of_packet p))) (le-leb p.stamp max_stamp in_time)

      pub long : 16777216 < length (written (term_of_packet p)) → body_of p ≡ Err (faults.Term terms.TooLong)
      long h = measured ∙ ap (λ (b : Bool). cond b (Err (faults.Term terms.TooLong)) (Ok (written (term_of_packet p)))) (lt-ltb 16777216 (length (written (term_of_packet p))) h)

      pub short : length (written (term_of_packet p)) ≤ 16777216 → body_of p ≡ Ok (written (term_of_packet p))
      short h = measured ∙ ap (λ (b : Bool). cond b (Err (faults.Term terms.TooLong)) (Ok (written (term_of_packet p)))) (le-ltb 16777216 (length (written (term_of_packet p))) h)
