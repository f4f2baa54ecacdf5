use Rattle.std.proofs.Common.{◌≡◌, ◌∙◌, ℕ, List, Err, false, not, refl, sym, ap, subst}
use Rattle.pg_world_packets.specs.PgStep.Machines.Machine.{Take}
use Rattle.pg_world_packets.specs.PgNodeState.declared.state.fault.NodeFault.{NodeFault}
use Rattle.pg_world_packets.specs.PgNodeState.declared.state.fault.NodeFault.TheVariants.{OutOfMemory}
use Rattle.pg_node.specs.Bytes.{damages, marked, next_packet}
use Rattle.pg_node.specs.Links.{Link, at_link}
use Rattle.pg_node.specs.Nodes.{held_by, links_of, has_lost}
use Rattle.pg_world.specs.Crossings.{Crossing, crossing_of, written_of, ShowsBytesPast}
use Rattle.pg_world_packets.specs.PgWorldAccount.Histories.{account_of}
use Rattle.pg_world_packets.specs.PgWorldConfig.Seen.{seen_of}
use Rattle.pg_world_packets.specs.Views.{peer_place}
use Rattle.pg_world_packets.specs.PgStep.Config.{Config, name_at}
use Rattle.pg_world_packets.specs.PgWorldAccount.Losses.{is_lost, lost_in}
use Rattle.pg_world_packets.specs.Losing.{is_cut_off}
use Rattle.pg_world_packets.specs.Worlds.{TimedFrameWorld}
use Rattle.pg_world.specs.Changes.{TakeChanges}
use Rattle.pg_world.proofs.Changed.{spared, unread_changes}
use Rattle.pg_world_packets.proofs.Barred.{unseen_by, either_stays, either_unseen, take_cut}
use Rattle.pg_world.proofs.over_bytes.Past.{take_past}
use Rattle.pg_world.proofs.Linked.{first_there, seen_there, links_here, links_now, node_same}
use Rattle.pg_world.proofs.Passing.{read_ok, unread_err, unread_memory, unmarked}
use Rattle.pg_world.proofs.Past.{reads_first, reads_lawful}
use Rattle.pg_world_packets.proofs.Turning.{pair_there}
use Rattle.pg_world.proofs.bytes.ByteNodes.take.Goals as goal

pub take_next-taken-requires-clause-front : goal.take_next-taken-requires-clause-front
take_next-taken-requires-clause-front g c =
    let nodes = c.args.self.now.nodes.items in
    let rings = c.args.self.now.rings.items in
    let i = c.args.node in
    let node = c.index_mut-taker.result.now in
    let l = first_there nodes rings i c.args.peer c.requires.pair c.args.self.now.rows in
    ap (λ (ls : ℕ → Link). next_packet (ls (peer_place i c.args.peer))) (links_now nodes rings rings i c.next.new.self l ∙ c.in-Ok.ensures.same)
    ∙ (ap (λ k. next_packet (links_of node k)) (sym c.peer_place.ensures) ∙ read_ok (has_lost (held_by node) c.peer_place.result) (links_of node c.peer_place.result) c.in-Ok.next c.in-Ok.ensures.told)

pub take_next-taken-requires-clause-lives : goal.take_next-taken-requires-clause-lives
take_next-taken-requires-clause-lives g c =
    let nodes = c.args.self.now.nodes.items in
    let rings = c.args.self.now.rings.items in
    let i = c.args.node in
    let node = c.index_mut-taker.result.now in
    let l = first_there nodes rings i c.args.peer c.requires.pair c.args.self.now.rows in
    let same = node_same nodes rings i node c.next.new.self l c.index_mut-taker.ensures.value (ap seen_of c.in-Ok.ensures.state) c.in-Ok.ensures.same in
    subst (λ (crossing : Crossing). is_cut_off crossing.nodes (lost_in c.args.self.now.losses) i c.args.peer ≡ false) (sym same) c.requires.lives

pub returns-in-Ok : goal.returns-in-Ok
returns-in-Ok g c = record {
  losing = λ config u shown welcome.
      let nodes = c.args.self.now.nodes.items in
      let rings = c.args.self.now.rings.items in
      let i = c.args.node in
      let node = c.index_mut-taker.result.now in
      let node2 = c.next.new.self in
      let l = first_there nodes rings i c.args.peer c.requires.pair c.args.self.now.rows in
      let same = node_same nodes rings i node node2 l c.index_mut-taker.ensures.value (ap seen_of c.in-Ok.ensures.state) c.in-Ok.ensures.same in
      c.take_next-taken.ensures.losing config u (record {
        frames = shown.frames;
        shows = subst (λ (crossing : Crossing). ShowsBytesPast config (lost_in c.args.self.now.losses) crossing (account_of c.args.self.now.histories) shown.frames) (sym same) shown.shows;
        seen = shown.seen;
        is = shown.is;
      }) welcome;
  harmless = λ config u shown welcome.
      let nodes = c.args.self.now.nodes.items in
      let rings = c.args.self.now.rings.items in
      let i = c.args.node in
      let node = c.index_mut-taker.result.now in
      let l = first_there nodes rings i c.args.peer c.requires.pair c.args.self.now.rows in
      let same = node_same nodes rings i node c.next.new.self l c.index_mut-taker.ensures.value (ap seen_of c.in-Ok.ensures.state) c.in-Ok.ensures.same in
      c.take_next-taken.ensures.harmless config u (record {
        frames = shown.frames;
        shows = subst (λ (crossing : Crossing). ShowsBytesPast config (lost_in c.args.self.now.losses) crossing (account_of c.args.self.now.histories) shown.frames) (sym same) shown.shows;
        seen = shown.seen;
        is = shown.is;
      }) welcome;
  changes = λ safe.
      let nodes = c.args.self.now.nodes.items in
      let rings = c.args.self.now.rings.items in
      let i = c.args.node in
      let node = c.index_mut-taker.result.now in
      let l = first_there nodes rings i c.args.peer c.requires.pair c.args.self.now.rows in
      let same = node_same nodes rings i node c.next.new.self l c.index_mut-taker.ensures.value (ap seen_of c.in-Ok.ensures.state) c.in-Ok.ensures.same in
      subst (λ (crossing : Crossing). TakeChanges crossing (crossing_of c.take_next-taken.new.self) i c.args.peer c.take_next-taken.result) same (c.take_next-taken.ensures.changes safe);
  formed = c.take_next-taken.ensures.formed;
  lost = c.take_next-taken.ensures.lost;
  room = c.take_next-taken.ensures.room;
}

pub returns-in-Err : goal.returns-in-Err
returns-in-Err g c = record {
  losing = λ config u shown welcome.
      let lost = lost_in c.args.self.now.losses in
      let w = shown.frames in
      let shows = shown.shows in
      let its = shows.traffic.nodes in
      let cut = take_cut config (crossing_of c.args.self.now).nodes w lost its shown.seen c.args.node c.args.peer c.requires.pair c.requires.lives in
      let stays = either_stays config (crossing_of c.args.self.now).nodes w lost its shown.seen (is_lost lost c.args.node) _ cut in
      let unseen = either_unseen config (crossing_of c.args.self.now).nodes w lost its shown.seen (is_lost lost c.args.node) _ cut in
      let nodes = c.args.self.now.nodes.items in
      let rings = c.args.self.now.rings.items in
      let i = c.args.node in
      let node = c.index_mut-taker.result.now in
      let node2 = c.next.new.self in
      let fault = c.in-Err.fault in
      let l = first_there nodes rings i c.args.peer c.requires.pair c.args.self.now.rows in
      let is = memory config lost w stays unseen shows in
      let unchanged = c.in-Err.ensures.marked ∙ (ap (λ (f : NodeFault). at_link c.peer_place.result (λ l. marked l f) (links_of node)) is ∙ unmarked (links_of node) c.peer_place.result OutOfMemory refl) in
      let same = node_same nodes rings i node node2 l c.index_mut-taker.ensures.value (ap seen_of c.in-Err.ensures.state) unchanged in
      take_past config (crossing_of c.args.self.now) _ (account_of c.args.self.now.histories) _ u lost _ shown refl (Err fault) i c.args.peer c.requires.pair c.requires.lives
      (unread_err config w (Take i c.args.peer) fault _ is (subst (λ (crossing : Crossing). ShowsBytesPast config lost crossing (account_of c.args.self.now.histories) w) (sym same) shows));
  harmless = λ config u shown welcome.
      let lost = lost_in c.args.self.now.losses in
      let w = shown.frames in
      let shows = shown.shows in
      let its = shows.traffic.nodes in
      let cut = take_cut config (crossing_of c.args.self.now).nodes w lost its shown.seen c.args.node c.args.peer c.requires.pair c.requires.lives in
      let stays = either_stays config (crossing_of c.args.self.now).nodes w lost its shown.seen (is_lost lost c.args.node) _ cut in
      let unseen = either_unseen config (crossing_of c.args.self.now).nodes w lost its shown.seen (is_lost lost c.args.node) _ cut in
      ap (λ (f : NodeFault). not (damages f)) (memory config lost w stays unseen shows);
  changes = λ safe.
      let nodes = c.args.self.now.nodes.items in
      let rings = c.args.self.now.rings.items in
      let i = c.args.node in
      let node = c.index_mut-taker.result.now in
      let node2 = c.next.new.self in
      let fault = c.in-Err.fault in
      let l = first_there nodes rings i c.args.peer c.requires.pair c.args.self.now.rows in
      unread_changes (crossing_of c.args.self.now) _ i c.args.peer
      (node_same nodes rings i node node2 l c.index_mut-taker.ensures.value (ap seen_of c.in-Err.ensures.state) (c.in-Err.ensures.marked ∙ unmarked (links_of node) c.peer_place.result fault (spared (damages fault) safe)))
      (has_lost (held_by node) c.peer_place.result) (links_of node c.peer_place.result) fault c.in-Err.ensures.told;
  formed = refl;
  lost = refl;
  room = refl;
}
  where
    memory : (config : Config) (lost : List ℕ) (w : TimedFrameWorld) → is_lost lost c.args.node ≡ false → (w.node c.args.node).state.lost (name_at config c.args.peer) ≡ false
        → ShowsBytesPast config lost (crossing_of c.args.self.now) (account_of c.args.self.now.histories) w → c.in-Err.fault ≡ OutOfMemory
    memory config lost w stays unseen shows =
        let nodes = c.args.self.now.nodes.items in
        let rings = c.args.self.now.rings.items in
        let i = c.args.node in
        let p = c.args.peer in
        let node = c.index_mut-taker.result.now in
        let at = c.index_mut-taker.ensures.value in
        let l = first_there nodes rings i p c.requires.pair c.args.self.now.rows in
        let its = shows.traffic.nodes in
        unread_memory config lost (crossing_of c.args.self.now) w i p shows.traffic c.requires.pair stays
        (reads_first (λ packets bytes body. c.front_is_first_packet.ensures.first written_of packets bytes body) (λ packets bytes body. c.front_is_first_of_cut.ensures.first written_of packets bytes body))
        (reads_lawful (λ packets bytes. c.front_is_first_packet.ensures.lawful written_of packets bytes) (λ packets bytes. c.front_is_first_of_cut.ensures.lawful written_of packets bytes))
        (has_lost (held_by node) c.peer_place.result) (links_of node c.peer_place.result)
        (ap (has_lost (held_by node)) c.peer_place.ensures ∙ unseen_by config _ w lost its i p _ (pair_there config _ w i p its c.requires.pair) (seen_there nodes rings i node l at) unseen)
        (ap (links_of node) c.peer_place.ensures ∙ ap (λ (ls : ℕ → Link). ls (peer_place i p)) (sym (links_here nodes rings i node l at))) c.in-Err.fault c.in-Err.ensures.told
