-- The ways from a node where one of them changes, and where packets are put on them one after the other.
use Rattle.std.proofs.Common.{◌≡◌, ◌≢◌, ◌<◌, ◌≤◌, ◌+◌, ◌∙◌, ℕ, false, cond, nat_eq, map, List, [], ◌∷◌, ◌++◌, get_or}
use Rattle.std.proofs.Common.{length, Some, refl, sym, ap, arith, subst, append_assoc, append-nil, inl, inr, ◌⊎◌, ◌^◌}
use Rattle.std.specs.Prelude.{slice_get, slice_set}
use Rattle.std.specs.List.{AllByRecursion}
use Rattle.std.proofs.lemmas.Bool.{cases_eq, eq-eqb, ne_eqb}
use Rattle.std.proofs.lemmas.List.{get_or-map, get_or-set_same, get_or-set_other}
use Rattle.std.proofs.lemmas.List.{map-set, set-get_or, length-map, length-set}
use Rattle.std.proofs.lemmas.Option.{slice_get_read}
use Rattle.pg_node_state.specs.PgMessageTypes.declared.message.Message.{Message}
use Rattle.pg_node_state.specs.PgMessageTypes.declared.message.Message.TheVariants.{Call, Reply, DelLock, Exchange, Down}
use Rattle.pg_node_state.specs.PgMessageTypes.declared.packet.Packet.{Packet}
use Rattle.pg_node_state.specs.PgMessageTypes.Members.{IsShort}
use Rattle.pg_node_state.specs.PgMessageTypes.Writing.{is_exchange}
use Rattle.pg_node_state.specs.PgStep.Machines.Clocked.{Stamped}
use Rattle.pg_node_state.specs.PgStep.Nodes.{Node}
use Rattle.pg_node_state.specs.PgNodeSends.Sendable.{IsSendable, Ascends}
use Rattle.pg_node_state.specs.PgNodeSends.Sent.{stamped_of}
use Rattle.pg_world_packets.specs.declared.way.Way.{Way}
use Rattle.pg_world_packets.specs.Views.{packets_of, packets_to, HasWayRoom, FitWays}
use Rattle.pg_world_packets.proofs.Turning.{set_here, set_other}

-- a message that is no exchange tells of no members
pub short_of_small : (limit : ℕ) (message : Message) → is_exchange message ≡ false → IsShort limit message
short_of_small limit (Exchange node groups) e = absurd (cc)
short_of_small limit (Call reference request) e = tt
short_of_small limit (Reply reference said) e = tt
short_of_small limit (DelLock name reference) e = tt
short_of_small limit (Down pid) e = tt

pub way_here : (ways : List Way) (k : ℕ) (old : Way) → k < length ways → old ≡ get_or ways k old → get_or (map packets_of ways) k [] ≡ packets_of old
way_here ways k old within here = get_or-map packets_of ways k old [] within ∙ ap packets_of (sym here)

-- a way that stays
pub same_ways : (ways : List Way) (k : ℕ) (old new : Way) → k < length ways → old ≡ get_or ways k old → packets_of new ≡ packets_of old
    → map packets_of (slice_set ways k new) ≡ map packets_of ways
same_ways ways k old new within here same = map-set packets_of ways k new
    ∙ (ap (slice_set (map packets_of ways) k) (same ∙ sym (way_here ways k old within here)) ∙ set-get_or (map packets_of ways) k [])

-- a way that changes
pub one_way : (ways : List Way) (k : ℕ) (old new : Way) (change : List (Stamped Message) → List (Stamped Message)) → k < length ways → old ≡ get_or ways k old
    → packets_of new ≡ change (packets_of old)
    → map packets_of (slice_set ways k new) ≡ slice_set (map packets_of ways) k (change (get_or (map packets_of ways) k []))
one_way ways k old new change within here is = map-set packets_of ways k new
    ∙ ap (slice_set (map packets_of ways) k) (is ∙ ap change (sym (way_here ways k old within here)))

-- ---- room

-- the ways at the places below one have room
abbrev pub RoomBelow : ℕ → List Way → Type 0
RoomBelow bound ways = (place : ℕ) (way : Way) → place < bound → slice_get ways place ≡ Some way → HasWayRoom way

pub room_more : (ways : List Way) (k : ℕ) (new : Way) → HasWayRoom new → RoomBelow k ways → RoomBelow (k + 1) (slice_set ways k new)
room_more ways k new room below place way l at = go (cases_eq place k)
  where
    go : (place ≡ k) ⊎ (place ≢ k) → HasWayRoom way
    go (inl e) = subst HasWayRoom (set_here ways k new way (subst (λ j. slice_get (slice_set ways k new) j ≡ Some way) e at)) room
    go (inr n) = let ne : place ≢ k = n in below place way (omega (arith, l, ne)) (sym (set_other ways k place new n) ∙ at)

-- ---- packets that are put on their ways

-- so far these are left
pub record Sending (start : List (List (Stamped Message))) (sends : List (ℕ × Packet)) (ways : List Way) (rest : List (ℕ × Packet)) : Type 0 where
  pub names : List Node
  pub peers : length ways + 1 ≡ length names
  pub len : length ways ≡ length start
  pub least : ℕ
  pub apart : Ascends least rest
  pub each : AllByRecursion (IsSendable names) rest
  pub room : (place : ℕ) (way : Way) → least ≤ place → slice_get ways place ≡ Some way → HasWayRoom way
  pub sent : (place : ℕ) → get_or (map packets_of ways) place [] ++ packets_to rest place ≡ get_or start place [] ++ packets_to sends place

pub all_left : (ways : List Way) (sends rest : List (ℕ × Packet)) → rest ≡ sends → FitWays (length (map packets_of ways)) sends
    → ((place : ℕ) (way : Way) → slice_get ways place ≡ Some way → HasWayRoom way) → Sending (map packets_of ways) sends ways rest
all_left ways sends rest all fit room = subst (Sending (map packets_of ways) sends ways) (sym all) (record {
  names = fit.0;
  peers = omega (arith, fit.1, length-map ways packets_of);
  len = sym (length-map ways packets_of);
  least = 0;
  apart = fit.2.apart;
  each = fit.2.each;
  room = λ place way l at. room place way at;
  sent = λ place. refl;
})

pub none_left : (start : List (List (Stamped Message))) (ways : List Way) (sends rest : List (ℕ × Packet)) → rest ≡ [] → Sending start sends ways rest
    → (place : ℕ) → get_or (map packets_of ways) place [] ≡ get_or start place [] ++ packets_to sends place
none_left start ways sends rest none sending place = sym (append-nil (get_or (map packets_of ways) place []))
    ∙ (ap (λ xs. get_or (map packets_of ways) place [] ++ packets_to xs place) (sym none) ∙ sending.sent place)

module _ (start : List (List (Stamped Message))) (ways : List Way) (sends others : List (ℕ × Packet)) (sent : ℕ × Packet) (sending : Sending start sends ways (sent ∷ others)) where
  pub its_place : sent.0 < length ways
  its_place = omega (arith, sending.each.0.place, sending.peers)

  pub its_room : (way : Way) → way ≡ get_or ways sent.0 way → HasWayRoom way
  its_room way here = sending.room sent.0 way sending.apart.0 (slice_get_read ways (length ways) sent.0 way refl its_place here)

  pub its_short : IsShort (2 ^ 32) sent.1.message
  its_short = short_of_small (2 ^ 32) sent.1.message sending.each.0.small

  module _ (old new : Way) (here : old ≡ get_or ways sent.0 old) (more : packets_of new ≡ packets_of old ++ stamped_of sent.1 ∷ []) where
    way_after : (place : ℕ) → get_or (map packets_of (slice_set ways sent.0 new)) place [] ≡ get_or (map packets_of ways) place [] ++ cond (nat_eq sent.0 place) (stamped_of sent.1 ∷ []) []
    way_after place = ap (λ xs. get_or xs place []) (map-set packets_of ways sent.0 new) ∙ go (cases_eq place sent.0)
      where
        inside : sent.0 < length (map packets_of ways)
        inside = omega (arith, its_place, length-map ways packets_of)

        go : (place ≡ sent.0) ⊎ (place ≢ sent.0) → get_or (slice_set (map packets_of ways) sent.0 (packets_of new)) place [] ≡ get_or (map packets_of ways) place [] ++ cond (nat_eq sent.0 place) (stamped_of sent.1 ∷ []) []
        go (inl e) = subst (λ j. get_or (slice_set (map packets_of ways) sent.0 (packets_of new)) j [] ≡ get_or (map packets_of ways) j [] ++ cond (nat_eq sent.0 j) (stamped_of sent.1 ∷ []) []) (sym e)
            (get_or-set_same (map packets_of ways) sent.0 (packets_of new) [] inside ∙ (more
            ∙ (λ j. sym (way_here ways sent.0 old its_place here) j ++ cond (sym (eq-eqb sent.0 sent.0 refl) j) (stamped_of sent.1 ∷ []) [])))
        go (inr n) = get_or-set_other (map packets_of ways) sent.0 place (packets_of new) [] n
            ∙ (sym (append-nil (get_or (map packets_of ways) place [])) ∙ ap (λ b. get_or (map packets_of ways) place [] ++ cond b (stamped_of sent.1 ∷ []) []) (sym (ne_eqb sent.0 place (λ e. n (sym e)))))

    pub one_less : Sending start sends (slice_set ways sent.0 new) others
    one_less = record {
      names = sending.names;
      peers = omega (arith, length-set ways sent.0 new, sending.peers);
      len = length-set ways sent.0 new ∙ sending.len;
      least = sent.0 + 1;
      apart = sending.apart.1;
      each = sending.each.1;
      room = λ place way l at. let n : place ≢ sent.0 = omega (arith, l) in
          sending.room place way (omega (arith, sending.apart.0, l)) (sym (set_other ways sent.0 place new n) ∙ at);
      sent = λ place. (λ j. way_after place j ++ packets_to others place)
          ∙ (append_assoc (get_or (map packets_of ways) place []) (cond (nat_eq sent.0 place) (stamped_of sent.1 ∷ []) []) (packets_to others place) ∙ sending.sent place);
    }
