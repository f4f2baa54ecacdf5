-- What a node sent to another by its acts, and the frames of it.
use Rattle.std.proofs.Common.{◌≡◌, ◌≢◌, ◌<◌, ◌∙◌, ℕ, cond, length, map, List, [], ◌∷◌, ◌++◌, refl, sym, ap}
use Rattle.std.specs.List.{IsDistinct, AllByRecursion, flat_map}
use Rattle.std.proofs.lemmas.Bool.{lt-ltb}
use Rattle.std.proofs.lemmas.Grind.{flat_map-append}
use Rattle.pg_world.specs.PgFrame.Frames.{frame}
use Rattle.pg_world.specs.PgMessageTypes.declared.message.Message.{Message}
use Rattle.pg_world.specs.PgMessageTypes.declared.packet.Packet.{Packet}
use Rattle.pg_world.specs.PgStep.Machines.Clocked.{Stamped}
use Rattle.pg_world.specs.PgFrame.Pieces.{frames_of}
use Rattle.pg_cluster_judges.specs.Logs.{sent_to}
use Rattle.pg_node_run.specs.Acts.{Act, Standing, ActLeads, AllLead, frames_sent}
use Rattle.pg_world.specs.PgStep.Config.{Config, names_of, name_at, nodes_at, ports_at}
use Rattle.pg_world.specs.PgStep.Nodes.{Node, all_of}
use Rattle.pg_term.specs.Same.{same_atom}
use Rattle.pg_cluster_judges.proofs.Turns.{act_at}
use Rattle.pg_world.specs.Crossings.{CanCross, packet_as, written_of}
use Rattle.pg_world.specs.PgWorldPackets.Views.{packets_to, peer_place}
use Rattle.pg_world.proofs.Crossed.{map_append, sent_cross, frames_sent as frames_going}
use Rattle.pg_world.proofs.PgWorldPackets.Peering as places

-- the packets that went out to the peer at a place
abbrev pub packets_sent : ℕ → List Act → List (Stamped Message)
packets_sent place acts = flat_map (λ act. packets_to act.sends place) acts

-- the frames of packets, one behind the other
abbrev pub frames_on : List (Stamped Message) → List ℕ
frames_on packets = frames_of written_of (map packet_as packets)

-- a link can carry each of these packets
abbrev pub CanAllCross : List (Stamped Message) → Type 0
CanAllCross packets = AllByRecursion CanCross (map packet_as packets)

pub frames_join : (xs ys : List (Stamped Message)) → frames_on (xs ++ ys) ≡ frames_on xs ++ frames_on ys
frames_join xs ys = ap (λ zs. frames_of written_of zs) (map_append xs ys)
    ∙ flat_map-append (λ (x : Packet). frame (written_of x)) (map packet_as xs) (map packet_as ys)

pub cross_join : (xs ys : List (Stamped Message)) → CanAllCross xs → CanAllCross ys → CanAllCross (xs ++ ys)
cross_join [] ys a b = b
cross_join (x ∷ xs) ys a b = (a.0, cross_join xs ys a.1 b)

-- the frames that went out are those of the packets
pub frames_are : (place : ℕ) (acts : List Act) → frames_sent place acts ≡ frames_on (packets_sent place acts)
frames_are place [] = refl
frames_are place (act ∷ acts) = ap (λ w. w ++ frames_sent place acts) (frames_going act.sends place)
    ∙ (ap (λ w. frames_on (packets_to act.sends place) ++ w) (frames_are place acts)
    ∙ sym (frames_join (packets_to act.sends place) (packets_sent place acts)))

-- and a link can carry them
pub sent_can_cross : (names : List Node) (ports place : ℕ) (a : Standing) (acts : List Act) (b : Standing) → AllLead names ports a acts b → CanAllCross (packets_sent place acts)
sent_can_cross names ports place a [] b lead = tt
sent_can_cross names ports place a (act ∷ acts) b (m, lead, rest) =
    cross_join (packets_to act.sends place) (packets_sent place acts) (sent_cross act.sends place lead.small) (sent_can_cross names ports place m acts b rest)

module _ (config : Config) (x y : ℕ) (from : x < length config) (to : y < length config) (other : y ≢ x) (apart : IsDistinct same_atom (names_of config)) where
  one_sent : (a b : Standing) (act : Act) → ActLeads (all_of (nodes_at config x)) (ports_at config x) a act b
      → (act_at config x act).turn.sends y ≡ packets_to act.sends (peer_place x y)
  one_sent a b act lead =
      ap (λ t. cond t (act.turn.sends (name_at config y)) []) (lt-ltb y (length config) to)
      ∙ (ap (λ (sends : Node → List (Stamped Message)). sends (name_at config y)) (sym lead.sends)
      ∙ places.sent_to config x from apart act.sends y lead.fits.each to other)

  -- what node x sent to node y, as the machine tells it
  pub sent_alike : (a : Standing) (acts : List Act) (b : Standing) → AllLead (all_of (nodes_at config x)) (ports_at config x) a acts b
      → sent_to y (map (act_at config x) acts) ≡ packets_sent (peer_place x y) acts
  sent_alike a [] b lead = refl
  sent_alike a (act ∷ acts) b (m, lead, rest) = (λ j. one_sent a m act lead j ++ sent_alike m acts b rest j)
