-- The links where one of them changes, and where packets are sent one after the other.
use Rattle.std.proofs.Common.{◌≡◌, ◌<◌, ◌≤◌, ◌+◌, ◌∙◌, ℕ, zero, suc, Bool, true, false, ◌&&◌, cond}
use Rattle.std.proofs.Common.{nat_eq, List, [], ◌∷◌, ◌++◌, get_or, length, Result, Ok, Err, IfOk}
use Rattle.std.proofs.Common.{OnErr, refl, sym, ap, arith, subst, append_assoc, append-nil}
use Rattle.std.specs.Prelude.{slice_set, IfErr, OnOk}
use Rattle.std.specs.List.{AllByRecursion}
use Rattle.std.proofs.Math.Path.{fun_ext}
use Rattle.std.proofs.Math.Dec.{eqb-zero-suc, eqb-suc-zero, eqb-suc-suc}
use Rattle.std.proofs.lemmas.Bool.{eqb-true, eq-eqb, ne_eqb}
use Rattle.std.proofs.lemmas.List.{length-set}
use Rattle.pg_node_state.specs.PgGroup.Functions.{upd}
use Rattle.pg_node_state.specs.PgMessageTypes.declared.packet.Packet.{Packet}
use Rattle.pg_node_state.specs.PgMulticall.Places.{has_of}
use Rattle.pg_node_state.specs.PgMulticall.declared.places.Places.{Places}
use Rattle.pg_node_state.specs.PgMessageWriter.Limits.{max_small_len}
use Rattle.pg_node_state.specs.PgMessageWriter.Frames.{frame_of}
use Rattle.pg_node.specs.declared.node.wire.Wire.{Wire}
use Rattle.pg_node_state.specs.PgNodeSends.declared.framed.Framed.{Framed}
use Rattle.pg_node_state.specs.PgNodeSends.declared.goes.Goes.{Goes}
use Rattle.pg_node_state.specs.PgNodeSends.declared.goes.Goes.TheVariants.{Nobody, One, Marked}
use Rattle.pg_node_state.specs.PgNodeSends.Framed.{listed_of}
use Rattle.pg_node_state.specs.PgNodeSends.Frames.{frames_to, IsSmallFrame, AreSmallFrames, IsFrame}
use Rattle.pg_node_state.specs.PgNodeSends.Going.{going, goes_out}
use Rattle.pg_node_state.specs.PgNodeSends.Marked.{marks_of, sent_below}
use Rattle.pg_node_state.specs.PgNodeSends.Sendable.{FitLinks, IsSendable}
use Rattle.pg_node_state.proofs.PgNodeSends.FrameLaws.{listed_nobody, packet_framed}
use Rattle.pg_node_state.proofs.PgNodeSends.Sendables.{below_has, each_below}
use Rattle.pg_node_state.proofs.PgNodeSends.Sent.{mark_at, sent_more}
use Rattle.pg_node.specs.Links.{Link, link_of, idle_link, part_in, links_in}
use Rattle.pg_node.specs.Links.{at_link, room_in, with_more, HasFrameRoom, HaveFrameRoom}

-- a part where the link at a place is another
pub part_set : {A : Type 0} (part : Wire → A) (none : A) (wires : List Wire) (k : ℕ) (wire : Wire) → k < length wires → (place : ℕ) → part_in part none (slice_set wires k wire) place ≡ cond (nat_eq k place) (part wire) (part_in part none wires place)
part_set part none [] k wire within place = absurd (omega arith)
part_set part none (w ∷ wires) zero wire within zero = refl
part_set part none (w ∷ wires) zero wire within (suc n) = ap (λ b. cond b (part wire) (part_in part none wires n)) (sym (eqb-zero-suc n))
part_set part none (w ∷ wires) (suc k) wire within zero = ap (λ b. cond b (part wire) (part w)) (sym (eqb-suc-zero k))
part_set part none (w ∷ wires) (suc k) wire within (suc n) = part_set part none wires k wire (omega arith) n ∙ ap (λ b. cond b (part wire) (part_in part none wires n)) (sym (eqb-suc-suc k n))

pub part_here : {A : Type 0} (part : Wire → A) (none : A) (wires : List Wire) (k : ℕ) (wire : Wire) → k < length wires → wire ≡ get_or wires k wire → part_in part none wires k ≡ part wire
part_here part none [] k wire within e = absurd (omega arith)
part_here part none (w ∷ wires) zero wire within e = ap part (sym e)
part_here part none (w ∷ wires) (suc k) wire within e = part_here part none wires k wire (omega arith) e

-- a link that stays
pub same_links : (wires : List Wire) (k : ℕ) (old new : Wire) → k < length wires → old ≡ get_or wires k old → link_of new ≡ link_of old → links_in (slice_set wires k new) ≡ links_in wires
same_links wires k old new within here same = fun_ext (λ place. part_set link_of idle_link wires k new within place ∙ go place (nat_eq k place) (eqb-true k place))
  where
    go : (place : ℕ) (b : Bool) → (b ≡ true → k ≡ place) → cond b (link_of new) (links_in wires place) ≡ links_in wires place
    go place true is = same ∙ (sym (part_here link_of idle_link wires k old within here) ∙ ap (links_in wires) (is refl))
    go place false is = refl

-- a link that changes
pub one_link : (wires : List Wire) (k : ℕ) (old new : Wire) (change : Link → Link) → k < length wires → old ≡ get_or wires k old → link_of new ≡ change (link_of old) → links_in (slice_set wires k new) ≡ at_link k change (links_in wires)
unfolding upd
one_link wires k old new change within here is = fun_ext (λ place. part_set link_of idle_link wires k new within place
    ∙ ap (λ (l : Link). cond (nat_eq k place) l (links_in wires place)) (is ∙ ap change (sym (part_here link_of idle_link wires k old within here))))

-- what holds of an answer
pub if_ok : {A E : Type 0} (r : Result A E) (P Q R : A → Type 0) → ((a : A) → P a → Q a → R a) → IfOk r P → IfOk r Q → IfOk r R
if_ok (Ok a) P Q R f p q = f a p q
if_ok (Err e) P Q R f p q = tt

pub as_ok : {A E : Type 0} (r : Result A E) (P Q : A → Type 0) → ((a : A) → P a → Q a) → IfOk r P → IfOk r Q
as_ok (Ok a) P Q f p = f a p
as_ok (Err e) P Q f p = tt

pub as_err : {A E : Type 0} (r : Result A E) (P Q : E → Type 0) → ((e : E) → P e → Q e) → IfErr r P → IfErr r Q
as_err (Ok a) P Q f p = tt
as_err (Err e) P Q f p = f e p

pub on_ok : {A E : Type 0} (r : Result A E) (P Q : Type 0) → (P → Q) → OnOk r P → OnOk r Q
on_ok (Ok a) P Q f p = f p
on_ok (Err e) P Q f p = tt

pub on_err : {A E : Type 0} (r : Result A E) (P Q : Type 0) → (P → Q) → OnErr r P → OnErr r Q
on_err (Ok a) P Q f p = tt
on_err (Err e) P Q f p = f p

-- ---- room

-- room at the places below one
abbrev pub RoomBelow : ℕ → List Wire → Type 0
RoomBelow bound wires = (place : ℕ) → place < bound → 4 + max_small_len ≤ room_in wires place

pub room_more : (wires : List Wire) (k : ℕ) (new : Wire) → k < length wires → HasFrameRoom new → RoomBelow k wires → RoomBelow (k + 1) (slice_set wires k new)
room_more wires k new within room below place l = subst (λ n. 4 + max_small_len ≤ n) (sym (part_set (λ wire. wire.outbox.spare) 0 wires k new within place)) (go (nat_eq k place) (eq-eqb k place))
  where
    sooner : (k ≡ place → ⊥) → place < k
    sooner other = grind (arith, l, other)

    go : (b : Bool) → (k ≡ place → b ≡ true) → 4 + max_small_len ≤ cond b new.outbox.spare (room_in wires place)
    go true is = room
    go false is = below place (sooner (λ e. absurd (let f : false ≡ true = is e in cc)))

-- the room stays where it does at a place that changes
pub still_room : (wires : List Wire) (k : ℕ) (old new : Wire) → k < length wires → old ≡ get_or wires k old → old.outbox.spare ≤ new.outbox.spare → HaveFrameRoom wires → HaveFrameRoom (slice_set wires k new)
still_room wires k old new within here more room place l = subst (λ n. 4 + max_small_len ≤ n) (sym (part_set (λ wire. wire.outbox.spare) 0 wires k new within place)) (go (nat_eq k place))
  where
    its : 4 + max_small_len ≤ old.outbox.spare
    its = subst (λ n. 4 + max_small_len ≤ n) (part_here (λ wire. wire.outbox.spare) 0 wires k old within here) (room k within)

    same : length (slice_set wires k new) ≡ length wires
    same = length-set wires k new

    go : (b : Bool) → 4 + max_small_len ≤ cond b new.outbox.spare (room_in wires place)
    go true = omega (arith, its, more)
    go false = room place (omega (arith, l, same))

-- ---- a frame that goes out

-- nothing more goes out
pub with_none : (link : Link) → with_more link [] ≡ link
with_none link = ap (λ (out : List ℕ). record link { outbox = out }) (append-nil link.outbox)

with_both : (link : Link) (xs ys : List ℕ) → with_more (with_more link xs) ys ≡ with_more link (xs ++ ys)
with_both link xs ys = ap (λ (out : List ℕ). record link { outbox = out }) (append_assoc link.outbox xs ys)

frames_both : (xs ys : List (ℕ × Packet)) (place : ℕ) → frames_to (xs ++ ys) place ≡ frames_to xs place ++ frames_to ys place
frames_both [] ys place = refl
frames_both (x ∷ xs) ys place =
    ap (λ (rest : List ℕ). cond (nat_eq x.0 place) (frame_of x.1) [] ++ rest) (frames_both xs ys place)
    ∙ sym (append_assoc (cond (nat_eq x.0 place) (frame_of x.1) []) (frames_to xs place) (frames_to ys place))

-- the frame of a packet to one peer, where that is marked
frames_one : (frame : List ℕ) (packet : Packet) (b : Bool) (peer place : ℕ) → frame ≡ frame_of packet
    → frames_to (cond b ((peer, packet) ∷ []) []) place ≡ cond (b && nat_eq peer place) frame []
frames_one frame packet true peer place is = append-nil (cond (nat_eq peer place) (frame_of packet) []) ∙ sym (ap (λ (bytes : List ℕ). cond (nat_eq peer place) bytes []) is)
frames_one frame packet false peer place is = refl

pub frame_short : (frame : List ℕ) (packet : Packet) → IsFrame frame packet → length frame ≤ 4 + max_small_len
frame_short frame packet is = subst (λ (bytes : List ℕ). length bytes ≤ 4 + max_small_len) (sym is.is) is.small.small

-- the frame was appended at one place
pub appended_there : (wires : List Wire) (peer : ℕ) (old new : Wire) (frame : List ℕ) → peer < length wires → old ≡ get_or wires peer old → link_of new ≡ with_more (link_of old) frame
    → (place : ℕ) → links_in (slice_set wires peer new) place ≡ with_more (links_in wires place) (cond (nat_eq peer place) frame [])
appended_there wires peer old new frame within here more place = part_set link_of idle_link wires peer new within place ∙ go place (nat_eq peer place) (eqb-true peer place)
  where
    go : (place : ℕ) (b : Bool) → (b ≡ true → peer ≡ place) → cond b (link_of new) (links_in wires place) ≡ with_more (links_in wires place) (cond b frame [])
    go place true is = more ∙ ap (λ (l : Link). with_more l frame) (sym (part_here link_of idle_link wires peer old within here) ∙ ap (links_in wires) (is refl))
    go place false is = sym (with_none (links_in wires place))

-- and nothing of the room behind it was taken
pub room_past : (wires : List Wire) (peer : ℕ) (new : Wire) → peer < length wires → (place : ℕ) → peer < place → room_in (slice_set wires peer new) place ≡ room_in wires place
room_past wires peer new within place past = part_set (λ wire. wire.outbox.spare) 0 wires peer new within place
    ∙ ap (λ b. cond b new.outbox.spare (room_in wires place)) (ne_eqb peer place unlike)
  where
    unlike : peer ≡ place → ⊥
    unlike e = omega (arith, past, e)

pub room_here : (wires : List Wire) (peer : ℕ) (wire : Wire) → peer < length wires → wire ≡ get_or wires peer wire → 4 + max_small_len ≤ room_in wires peer → HasFrameRoom wire
room_here wires peer wire within here room = subst (λ n. 4 + max_small_len ≤ n) (part_here (λ w. w.outbox.spare) 0 wires peer wire within here) room

-- what goes out to the marked peers at the places below n
pub record IsOut (start : List Wire) (frame : List ℕ) (marked : Places) (peers n : ℕ) (wires : List Wire) : Type 0 where
  pub len : length wires ≡ length start
  pub room : (place : ℕ) → n ≤ place → place < length wires → 4 + max_small_len ≤ room_in wires place
  pub sent : (packet : Packet) → frame ≡ frame_of packet → (place : ℕ)
      → links_in wires place ≡ with_more (links_in start place) (frames_to (sent_below packet.stamp packet.message (marks_of marked peers) n) place)

pub none_yet : (start : List Wire) (frame : List ℕ) (marked : Places) (peers : ℕ) → HaveFrameRoom start → IsOut start frame marked peers 0 start
none_yet start frame marked peers room = record {
  len = refl;
  room = λ place l within. room place within;
  sent = λ packet is place. sym (with_none (links_in start place));
}

-- a marked peer is there
pub marked_there : (peers count n : ℕ) (marked : Places) (packet : Packet) → n < count → has_of marked n ≡ true → FitLinks peers (going (Marked marked count) packet) → n < peers
marked_there peers count n marked packet l is fit =
    let sendable = below_has (IsSendable fit.0) packet.stamp packet.message (marks_of marked count) count n l (mark_at marked count n l ∙ is) fit.2.each in
    omega (arith, sendable.place, fit.1)

-- one more place was looked at
pub one_more_out : (start wires wires2 : List Wire) (frame : List ℕ) (marked : Places) (peers n : ℕ) (b : Bool) → n < peers → b ≡ has_of marked n
    → length wires2 ≡ length wires
    → ((place : ℕ) → links_in wires2 place ≡ with_more (links_in wires place) (cond (b && nat_eq n place) frame []))
    → ((place : ℕ) → n < place → room_in wires2 place ≡ room_in wires place)
    → IsOut start frame marked peers n wires → IsOut start frame marked peers (n + 1) wires2
one_more_out start wires wires2 frame marked peers n b l is same sent others before = record {
  len = same ∙ before.len;
  room = λ place past within. subst (λ k. 4 + max_small_len ≤ k) (sym (others place (omega (arith, past)))) (before.room place (omega (arith, past)) (omega (arith, within, same)));
  sent = λ packet frames place.
      let below = sent_below packet.stamp packet.message (marks_of marked peers) n in
      sent place ∙ (ap (λ (link : Link). with_more link (cond (b && nat_eq n place) frame [])) (before.sent packet frames place)
      ∙ (with_both (links_in start place) (frames_to below place) (cond (b && nat_eq n place) frame [])
      ∙ ap (λ (out : List ℕ). with_more (links_in start place) out)
      (ap (λ (bytes : List ℕ). frames_to below place ++ bytes) (sym (frames_one frame packet b n place frames))
      ∙ (sym (frames_both below (cond b ((n, packet) ∷ []) []) place)
      ∙ ap (λ (sends : List (ℕ × Packet)). frames_to sends place) (sent_more packet.stamp packet.message marked peers n b below l is refl)))));
}

-- ---- what goes out at all

pub out_none : (start wires : List Wire) (framed : Framed) → framed.goes ≡ Nobody → wires ≡ start → (place : ℕ) → links_in wires place ≡ with_more (links_in start place) (frames_to (listed_of framed) place)
out_none start wires framed goes same place = ap (λ (ws : List Wire). links_in ws place) same
    ∙ (sym (with_none (links_in start place)) ∙ ap (λ (sends : List (ℕ × Packet)). with_more (links_in start place) (frames_to sends place)) (sym (listed_nobody framed goes)))

pub small_none : (framed : Framed) → framed.goes ≡ Nobody → AreSmallFrames (listed_of framed)
small_none framed goes = subst AreSmallFrames (sym (listed_nobody framed goes)) tt

-- one peer
module _ (framed : Framed) (peer : ℕ) (goes : framed.goes ≡ One peer) where
  pub one_packet : (packet : Packet) × IsFrame framed.frame.items packet × (listed_of framed ≡ (peer, packet) ∷ [])
  one_packet =
      let found = packet_framed framed (ap goes_out goes) in
      (found.0, found.1, found.2 ∙ ap (λ (g : Goes). going g found.0) goes)

  pub one_there : (peers : ℕ) → FitLinks peers (listed_of framed) → peer < peers
  one_there peers fit =
      let each = subst (λ (sends : List (ℕ × Packet)). AllByRecursion (IsSendable fit.0) sends) one_packet.2 fit.2.each in
      omega (arith, each.0.place, fit.1)

  pub one_out : (start wires : List Wire) → ((place : ℕ) → links_in wires place ≡ with_more (links_in start place) (cond (true && nat_eq peer place) framed.frame.items []))
      → (place : ℕ) → links_in wires place ≡ with_more (links_in start place) (frames_to (listed_of framed) place)
  one_out start wires sent place = sent place ∙ ap (λ (out : List ℕ). with_more (links_in start place) out)
      (sym (frames_one framed.frame.items one_packet.0 true peer place one_packet.1.is) ∙ ap (λ (sends : List (ℕ × Packet)). frames_to sends place) (sym one_packet.2))

  pub one_small : AreSmallFrames (listed_of framed)
  one_small = subst AreSmallFrames (sym one_packet.2) (one_packet.1.small, tt)

-- the marked peers
module _ (framed : Framed) (marked : Places) (count : ℕ) (goes : framed.goes ≡ Marked marked count) where
  pub many_packet : (packet : Packet) × IsFrame framed.frame.items packet × (listed_of framed ≡ going (Marked marked count) packet)
  many_packet =
      let found = packet_framed framed (ap goes_out goes) in
      (found.0, found.1, found.2 ∙ ap (λ (g : Goes). going g found.0) goes)

  pub many_fit : (peers : ℕ) → FitLinks peers (listed_of framed) → (packet : Packet) × IsFrame framed.frame.items packet × FitLinks peers (going (Marked marked count) packet)
  many_fit peers fit = (many_packet.0, many_packet.1, subst (λ (sends : List (ℕ × Packet)). FitLinks peers sends) many_packet.2 fit)

  pub many_out : (start wires : List Wire) → ((packet : Packet) → IsFrame framed.frame.items packet → (place : ℕ)
      → links_in wires place ≡ with_more (links_in start place) (frames_to (going (Marked marked count) packet) place))
      → (place : ℕ) → links_in wires place ≡ with_more (links_in start place) (frames_to (listed_of framed) place)
  many_out start wires sent place = sent many_packet.0 many_packet.1 place
      ∙ ap (λ (sends : List (ℕ × Packet)). with_more (links_in start place) (frames_to sends place)) (sym many_packet.2)

  pub many_small : AreSmallFrames (listed_of framed)
  many_small =
      let packet = many_packet.0 in
      subst AreSmallFrames (sym many_packet.2) (each_below (λ sent. IsSmallFrame sent.1) packet.stamp packet.message (marks_of marked count) (λ k. many_packet.1.small) count)
