use Rattle.std.proofs.Common.{◌≡◌, ◌∙◌, ◌+◌, ℕ, Ok, Err, refl, sym, ap, subst}
use Rattle.std.specs.Prelude.{slice_set, length}
use Rattle.std.proofs.lemmas.List.{length-set}
use Rattle.std.proofs.lemmas.List.Elements.{All-set}
use Rattle.pg_node.specs.declared.node.Node.{Node}
use Rattle.pg_world_packets.specs.PgNodeSends.contracts.framing.FramedOutgoing.TheImpl as frames
use Rattle.pg_world_packets.specs.PgNodeOpens.Places.{name_at}
use Rattle.pg_world_packets.specs.PgStep.Machines.Machine.{Take}
use Rattle.pg_world_packets.specs.PgNodeState.declared.state.fault.NodeFault.TheVariants.{OutOfMemory}
use Rattle.pg_world_packets.specs.PgStep.Step.{step_take}
use Rattle.pg_node.specs.Bytes.{damages, next_packet, passed}
use Rattle.pg_node.specs.Links.{Link, at_link}
use Rattle.pg_node.specs.Nodes.{held_by, links_of, sent_out}
use Rattle.pg_world_packets.specs.PgNodeState.States.{names_of, nodes_of, state_of, answers_of, Comes}
use Rattle.pg_world_packets.specs.PgNodeSends.Sent.{stamped_of}
use Rattle.pg_world.specs.Crossings.{Crossing, crossing_in, crossing_of, node_of, written_of, ShowsBytesPast}
use Rattle.pg_world_packets.specs.PgWorldAccount.Histories.{account_of, update_asked_by}
use Rattle.pg_world_packets.specs.Views.{peer_place}
use Rattle.pg_world_packets.specs.PgWorldAccount.Histories.{Account}
use Rattle.pg_world_packets.specs.PgNodeSends.Framed.{listed_of}
use Rattle.pg_world.proofs.Changed.{held_changes, spared}
use Rattle.pg_world.proofs.Linked.{first_there, seen_there, links_here, nodes_set}
use Rattle.pg_world.proofs.Linked.{seen_kept, take_acts, node_same, sends_on}
use Rattle.pg_world.proofs.Passing.{first_read, taken_shown, take_err, take_harmless, unmarked}
use Rattle.pg_world.proofs.Past.{reads_first}
use Rattle.pg_world_packets.proofs.Recording.{grew_taken}
use Rattle.pg_world_packets.proofs.Turning.{pair_is}
use Rattle.pg_world_packets.proofs.Barred.{either_stays, take_cut}
use Rattle.pg_world.proofs.over_bytes.Past.{take_past}
use Rattle.pg_world_packets.specs.PgWorldAccount.Losses.{is_lost, lost_in}
use Rattle.pg_world_packets.specs.declared.step.Stepped.TheVariants.{Happened}
use Rattle.pg_world.proofs.bytes.ByteNodes.take_read.Goals as goal

pub take_read-requires-clause-next : goal.take_read-requires-clause-next
take_read-requires-clause-next g c =
    let nodes = c.args.self.now.nodes.items in
    let rings = c.args.self.now.rings.items in
    let i = c.args.node in
    let p = c.args.peer in
    let node = c.index_mut-taker.result.now in
    let l = first_there nodes rings i p c.requires.pair c.args.self.now.rows in
    ap (λ k. next_packet (links_of node k)) c.peer_place.ensures
    ∙ (ap (λ (ls : ℕ → Link). next_packet (ls (peer_place i p))) (sym (links_here nodes rings i node l c.index_mut-taker.ensures.value)) ∙ c.requires.front)

pub returns-in-Err-clause-losing : goal.returns-in-Err-clause-losing
returns-in-Err-clause-losing g c = λ config u shown welcome.
    let crossing = crossing_of c.args.self.now in
    let lost = lost_in c.args.self.now.losses in
    take_past config crossing crossing (account_of c.args.self.now.histories) (account_of c.make_room.new.self) u lost _ shown refl (Err OutOfMemory) c.args.node c.args.peer c.requires.pair c.requires.lives
    (subst (λ (a : Account). ShowsBytesPast config lost crossing a shown.frames) (sym c.make_room.ensures.account) shown.shows)

pub invariant_of-self-in-Err-take_read : goal.invariant_of-self-in-Err-take_read
invariant_of-self-in-Err-take_read g c =
    let nodes = c.args.self.now.nodes.items in
    let rings = c.args.self.now.rings.items in
    let i = c.args.node in
    let node = c.index_mut-taker.result.now in
    let l = first_there nodes rings i c.args.peer c.requires.pair c.args.self.now.rows in
    let knows = λ (n : Node _ _). length (names_of (held_by n)) ≡ length rings in
    let knew : length (names_of (held_by node)) ≡ length rings = subst knows (sym c.index_mut-taker.ensures.value) (c.args.self.now.known i node l) in record {
      rows = c.args.self.now.rows ∙ sym (length-set nodes i c.take_read.new.self);
      known = All-set knows nodes i c.take_read.new.self (ap length c.in-Err-take_read.ensures.stays.names ∙ knew) c.args.self.now.known;
      others = c.args.self.now.others;
      sized = c.args.self.now.sized;
    }

pub returns-in-Ok-take_read : goal.returns-in-Ok-take_read
returns-in-Ok-take_read g c = record {
  losing = λ config u shown welcome.
      let lost = lost_in c.args.self.now.losses in
      let w = shown.frames in
      let shows = shown.shows in
      let its = shows.traffic.nodes in
      let cut = take_cut config (crossing_of c.args.self.now).nodes w lost its shown.seen c.args.node c.args.peer c.requires.pair c.requires.lives in
      let stays = either_stays config (crossing_of c.args.self.now).nodes w lost its shown.seen (is_lost lost c.args.node) _ cut in
      let nodes = c.args.self.now.nodes.items in
      let rings = c.args.self.now.rings.items in
      let crossing = crossing_of c.args.self.now in
      let i = c.args.node in
      let p = c.args.peer in
      let packet = c.args.packet.now in
      let node = c.index_mut-taker.result.now in
      let node2 = c.take_read.new.self in
      let at = c.index_mut-taker.ensures.value in
      let l = first_there nodes rings i p c.requires.pair c.args.self.now.rows in
      let apart = (pair_is _ i p c.requires.pair).2 in
      let place = c.peer_place.ensures in
      let done = c.in-Ok-take_read.done in
      let first = first_read config lost crossing w i p shows.traffic c.requires.pair stays
      (reads_first (λ packets bytes body. c.front_is_first_packet.ensures.first written_of packets bytes body) (λ packets bytes body. c.front_is_first_of_cut.ensures.first written_of packets bytes body)) packet c.requires.front in
      take_past config crossing _ (account_of c.args.self.now.histories) _ u lost _ shown refl (Ok (Happened c.of-effect.result)) i p c.requires.pair c.requires.lives
      (taken_shown config lost crossing _ (account_of c.args.self.now.histories) _ w shows (λ packets others bytes are. c.sending_adds_packets.ensures written_of packets others bytes are)
      i p stays c.requires.pair packet first (node_of node) (seen_there nodes rings i node l at) (node_of node2) done (nodes_set nodes rings i node2)
      c.in-Ok-take_read.ensures.stays.names c.in-Ok-take_read.ensures.stays.ports c.in-Ok-take_read.ensures.fits c.in-Ok-take_read.ensures.small
      (take_acts nodes rings i node node2 (listed_of done.sends) l at p apart
      (subst (λ k. (j : ℕ) → links_of node2 j ≡ at_link k passed (sent_out (listed_of done.sends) (links_of node)) j) place c.in-Ok-take_read.ensures.sent))
      (grew_taken (account_of c.args.self.now.histories) _ i (update_asked_by packet.message) done.began c.unpack.result (account_of c.make_room.new.self) (account_of c.serve.new.self) c.unpack.ensures
      c.make_room.ensures.account c.serve.ensures.history c.serve.ensures.applied c.serve.ensures.marked c.begin.ensures.history c.begin.ensures.applied c.begin.ensures.marked) c.of-effect.result c.of-effect.ensures
      (subst (λ k. Comes (names_of (held_by node)) (step_take (nodes_of (held_by node)) (name_at (names_of (held_by node)) (k + 1)) (stamped_of packet) (state_of (held_by node))) (Ok done) (state_of (held_by node2)) (answers_of (held_by node)) (answers_of (held_by node2)))
      place c.in-Ok-take_read.ensures.event));
  harmless = λ config u shown welcome. refl;
  changes = λ safe. (
      let nodes = c.args.self.now.nodes.items in
      let rings = c.args.self.now.rings.items in
      let i = c.args.node in
      let p = c.args.peer in
      let node = c.index_mut-taker.result.now in
      let node2 = c.take_read.new.self in
      let l = first_there nodes rings i p c.requires.pair c.args.self.now.rows in
      let sends = listed_of c.in-Ok-take_read.done.sends in (
        (c.args.packet.now, c.requires.front),
        sends_on nodes rings i node2 (Take i p) sends refl
            (take_acts nodes rings i node node2 sends l c.index_mut-taker.ensures.value p (pair_is _ i p c.requires.pair).2
            (subst (λ k. (j : ℕ) → links_of node2 j ≡ at_link k passed (sent_out sends (links_of node)) j) c.peer_place.ensures c.in-Ok-take_read.ensures.sent)),
      ));
  formed = c.begin.ensures.formed ∙ (c.serve.ensures.formed ∙ ap (λ (a : Account). a.formed) c.make_room.ensures.account);
  lost = refl;
  room = refl;
}

pub returns-in-Err-take_read : goal.returns-in-Err-take_read
returns-in-Err-take_read g c = record {
  losing = λ config u shown welcome.
      let lost = lost_in c.args.self.now.losses in
      let w = shown.frames in
      let shows = shown.shows in
      let its = shows.traffic.nodes in
      let cut = take_cut config (crossing_of c.args.self.now).nodes w lost its shown.seen c.args.node c.args.peer c.requires.pair c.requires.lives in
      let stays = either_stays config (crossing_of c.args.self.now).nodes w lost its shown.seen (is_lost lost c.args.node) _ cut in
      let nodes = c.args.self.now.nodes.items in
      let rings = c.args.self.now.rings.items in
      let crossing = crossing_of c.args.self.now in
      let i = c.args.node in
      let p = c.args.peer in
      let packet = c.args.packet.now in
      let node = c.index_mut-taker.result.now in
      let node2 = c.take_read.new.self in
      let at = c.index_mut-taker.ensures.value in
      let l = first_there nodes rings i p c.requires.pair c.args.self.now.rows in
      let place = c.peer_place.ensures in
      let fault = c.in-Err-take_read.fault in
      let first = first_read config lost crossing w i p shows.traffic c.requires.pair stays
      (reads_first (λ packets bytes body. c.front_is_first_packet.ensures.first written_of packets bytes body) (λ packets bytes body. c.front_is_first_of_cut.ensures.first written_of packets bytes body)) packet c.requires.front in
      let seen = seen_kept node node2 c.in-Err-take_read.ensures.stays.names c.in-Err-take_read.ensures.stays.ports c.in-Err-take_read.ensures.stays.state c.in-Err-take_read.ensures.stays.answers in
      let account : account_of c.make_room.new.self ≡ account_of c.args.self.now.histories = c.make_room.ensures.account in
      take_past config crossing _ (account_of c.args.self.now.histories) _ u lost _ shown refl (Err c.in-Err-take_read.fault) i p c.requires.pair c.requires.lives
      (take_err config lost crossing w shows.traffic _ i p c.requires.pair packet first welcome (node_of node) (seen_there nodes rings i node l at) (state_of (held_by node2)) (answers_of (held_by node2)) fault
      (subst (λ k. Comes {h = frames.ghosts} (names_of (held_by node)) (step_take (nodes_of (held_by node)) (name_at (names_of (held_by node)) (k + 1)) (stamped_of packet) (state_of (held_by node))) (Err fault) (state_of (held_by node2)) (answers_of (held_by node)) (answers_of (held_by node2)))
      place c.in-Err-take_read.ensures.event)
      (λ harms. subst (λ (a : Account). ShowsBytesPast config lost (crossing_in (slice_set nodes i node2) rings) a w) (sym account)
      (subst (λ (x : Crossing). ShowsBytesPast config lost x (account_of c.args.self.now.histories) w)
      (sym (node_same nodes rings i node node2 l at seen (c.in-Err-take_read.ensures.marked ∙ unmarked (links_of node) c.peer_place.result fault harms))) shows)));
  harmless = λ config u shown welcome.
      let lost = lost_in c.args.self.now.losses in
      let w = shown.frames in
      let shows = shown.shows in
      let its = shows.traffic.nodes in
      let cut = take_cut config (crossing_of c.args.self.now).nodes w lost its shown.seen c.args.node c.args.peer c.requires.pair c.requires.lives in
      let stays = either_stays config (crossing_of c.args.self.now).nodes w lost its shown.seen (is_lost lost c.args.node) _ cut in
      let nodes = c.args.self.now.nodes.items in
      let rings = c.args.self.now.rings.items in
      let crossing = crossing_of c.args.self.now in
      let i = c.args.node in
      let p = c.args.peer in
      let packet = c.args.packet.now in
      let node = c.index_mut-taker.result.now in
      let node2 = c.take_read.new.self in
      let at = c.index_mut-taker.ensures.value in
      let l = first_there nodes rings i p c.requires.pair c.args.self.now.rows in
      let fault = c.in-Err-take_read.fault in
      let first = first_read config lost crossing w i p shows.traffic c.requires.pair stays
      (reads_first (λ packets bytes body. c.front_is_first_packet.ensures.first written_of packets bytes body) (λ packets bytes body. c.front_is_first_of_cut.ensures.first written_of packets bytes body)) packet c.requires.front in
      take_harmless config lost crossing w shows.traffic (λ v. Unit {0}) i p c.requires.pair packet first welcome (node_of node) (seen_there nodes rings i node l at) (state_of (held_by node2)) (answers_of (held_by node2)) fault
      (subst (λ k. Comes {h = frames.ghosts} (names_of (held_by node)) (step_take (nodes_of (held_by node)) (name_at (names_of (held_by node)) (k + 1)) (stamped_of packet) (state_of (held_by node))) (Err fault) (state_of (held_by node2)) (answers_of (held_by node)) (answers_of (held_by node2)))
      c.peer_place.ensures c.in-Err-take_read.ensures.event);
  changes = λ safe.
      let nodes = c.args.self.now.nodes.items in
      let rings = c.args.self.now.rings.items in
      let i = c.args.node in
      let node = c.index_mut-taker.result.now in
      let node2 = c.take_read.new.self in
      let l = first_there nodes rings i c.args.peer c.requires.pair c.args.self.now.rows in
      let fault = c.in-Err-take_read.fault in
      let seen = seen_kept node node2 c.in-Err-take_read.ensures.stays.names c.in-Err-take_read.ensures.stays.ports c.in-Err-take_read.ensures.stays.state c.in-Err-take_read.ensures.stays.answers in
      held_changes (crossing_of c.args.self.now) _ i c.args.peer
      (node_same nodes rings i node node2 l c.index_mut-taker.ensures.value seen (c.in-Err-take_read.ensures.marked ∙ unmarked (links_of node) c.peer_place.result fault (spared (damages fault) safe)))
      fault (c.args.packet.now, c.requires.front);
  formed = ap (λ (a : Account). a.formed) c.make_room.ensures.account;
  lost = refl;
  room = refl;
}
