-- Frames that are read, and the packets of what goes out.
use Rattle.std.proofs.Common.{◌≡◌, ◌∙◌, ◌≤◌, ◌+◌, ℕ, true, false, List, [], ◌++◌, drop, length, Result, Ok, Err, refl, sym, ap, subst}
use Rattle.std.specs.Prelude.{IsOk, OnOk}
use Rattle.std.specs.Int.{w32, to_be_bytes}
use Rattle.std.proofs.Math.Seq.{drop-append_seam}
use Rattle.bytes.specs.Filled.{Filled}
use Rattle.pg_node_opens.specs.PgMessageTypes.declared.fault.MessageFault.{MessageFault}
use Rattle.pg_node_opens.specs.PgMessageTypes.declared.packet.Packet.{Packet}
use Rattle.pg_node_opens.specs.PgMessageTypes.Reading.{packet_spelled}
use Rattle.pg_node_opens.specs.PgMessageTypes.Writing.{term_of_packet, is_exchange}
use Rattle.pg_node_opens.specs.PgTermIo.Writing.{written}
use Rattle.pg_message_writer.specs.Frames.{frame_of, AppendsFrame}
use Rattle.pg_message_writer.specs.Limits.{max_small_len}
use Rattle.pg_node_sends.specs.declared.framed.Framed.{Framed}
use Rattle.pg_node_sends.specs.declared.goes.Goes.{Goes}
use Rattle.pg_node_sends.specs.declared.goes.Goes.TheVariants.{Nobody}
use Rattle.pg_node_sends.specs.Framed.{listed_of}
use Rattle.pg_node_sends.specs.Frames.{IsSmallFrame, IsFrame, IsAppended}
use Rattle.pg_node_sends.specs.Going.{going, going_if, going_framed, goes_out, read_in, HasFrame}

-- a frame is read as its packet
pub frame_read : (frame : List ℕ) (packet : Packet) → IsFrame frame packet → read_in frame ≡ Ok packet
frame_read frame packet is =
    let body = written (term_of_packet packet) in
    ap read_in is.is ∙ (ap packet_spelled (drop-append_seam (to_be_bytes w32 (length body)) body) ∙ is.small.read)

-- it is that packet to each peer
pub framed_goes : (goes : Goes) (frame : List ℕ) (packet : Packet) → IsFrame frame packet → going_framed goes frame ≡ going goes packet
framed_goes goes frame packet is = ap (going_if goes) (frame_read frame packet is)

-- nothing goes to nobody
pub nobody_goes : (frame : List ℕ) → going_framed Nobody frame ≡ []
nobody_goes frame = go (read_in frame)
  where
    go : (r : Result Packet MessageFault) → going_if Nobody r ≡ []
    go (Ok packet) = refl
    go (Err fault) = refl

pub listed_nobody : (framed : Framed) → framed.goes ≡ Nobody → listed_of framed ≡ []
listed_nobody framed goes = ap (λ (g : Goes). going_framed g framed.frame.items) goes ∙ nobody_goes framed.frame.items

pub has_frame : (goes : Goes) (frame : List ℕ) (packet : Packet) → IsFrame frame packet → HasFrame goes frame
has_frame goes frame packet is out = (packet, is)

no_frame : (frame : List ℕ) → HasFrame Nobody frame
no_frame frame out = absurd (cc)

-- what a frame that goes out is
pub reads_so : (goes : Goes) (frame : List ℕ) → HasFrame goes frame → goes_out goes ≡ true → IsOk (read_in frame)
reads_so goes frame has out = subst IsOk (sym (frame_read frame (has out).0 (has out).1)) refl

same_packet : (p q : Packet) (r : Result Packet MessageFault) → r ≡ Ok p → r ≡ Ok q → p ≡ q
same_packet p q r e f = ap (λ (s : Result Packet MessageFault). go s) (sym e ∙ f)
  where
    go : Result Packet MessageFault → Packet
    go (Ok packet) = packet
    go (Err fault) = p

pub is_whole : (goes : Goes) (frame : List ℕ) → HasFrame goes frame → (packet : Packet) → goes_out goes ≡ true → read_in frame ≡ Ok packet → frame ≡ frame_of packet
is_whole goes frame has packet out read = (has out).1.is ∙ ap frame_of (same_packet (has out).0 packet (read_in frame) (frame_read frame (has out).0 (has out).1) read)

pub is_short : (goes : Goes) (frame : List ℕ) → HasFrame goes frame → goes_out goes ≡ true → length frame ≤ 4 + max_small_len
is_short goes frame has out = subst (λ (bytes : List ℕ). length bytes ≤ 4 + max_small_len) (sym (has out).1.is) (has out).1.small.small

-- a small packet of lent parts is appended
pub appended : {T : Type 0} (r : Result T MessageFault) (before after : Filled) (lent packet : Packet) → lent ≡ packet → is_exchange packet.message ≡ false
    → AppendsFrame lent before after r → OnOk r (IsAppended before.items after.items packet)
appended (Ok done) before after lent packet e small appends =
    subst (λ (p : Packet). IsAppended before.items after.items p) e (record {
      items = appends.ok;
      small = record { read = appends.read; small = appends.few (ap (λ (p : Packet). is_exchange p.message) e ∙ small) };
    })
appended (Err fault) before after lent packet e small appends = tt

-- a frame in a new buffer
pub frame_alone : (before after : List ℕ) (packet : Packet) → before ≡ [] → IsAppended before after packet → IsFrame after packet
frame_alone before after packet e is = record { is = is.items ∙ ap (λ (front : List ℕ). front ++ frame_of packet) e; small = is.small }

read_packet : (r : Result Packet MessageFault) → IsOk r → (packet : Packet) × (r ≡ Ok packet)
read_packet (Ok packet) e = (packet, refl)
read_packet (Err fault) e = absurd (cc)

-- the packet of what goes out
pub packet_framed : (framed : Framed) → goes_out framed.goes ≡ true → (packet : Packet) × IsFrame framed.frame.items packet × (listed_of framed ≡ going framed.goes packet)
packet_framed framed out =
    let frame = framed.frame.items in
    let found = read_packet (read_in frame) (framed.read out) in
    let packet = found.0 in
    let body = written (term_of_packet packet) in
    let whole = framed.whole packet out found.1 in
    let again = sym (drop-append_seam (to_be_bytes w32 (length body)) body) ∙ sym (ap (λ (bytes : List ℕ). drop 4 bytes) whole) in
    let small : IsSmallFrame packet = record {
      read = ap packet_spelled again ∙ found.1;
      small = subst (λ (bytes : List ℕ). length bytes ≤ 4 + max_small_len) whole (framed.short out);
    } in
    (packet, record { is = whole; small = small }, ap (going_if framed.goes) found.1)
