use Rattle.std.proofs.Common.{◌≡◌, ◌∙◌, ℕ, true, false, get_or, length, ap, subst, sym, refl}
use Rattle.std.specs.Prelude.{slice_set}
use Rattle.pg_world_packets.specs.PgStep.Machines.Places.{is_pair}
use Rattle.pg_world_packets.specs.PgFrame.Pieces.{pull}
use Rattle.pg_node.specs.Links.{Link, at_link, with_fed}
use Rattle.pg_node.specs.Nodes.{held_by, links_of, has_lost}
use Rattle.pg_world.specs.Crossings.{written_of}
use Rattle.pg_world_packets.specs.Views.{peer_place}
use Rattle.pg_world_packets.specs.PgWorldAccount.Losses.{is_lost}
use Rattle.pg_world.proofs.Crossed.{moved_shown, same_shown}
use Rattle.pg_world_packets.proofs.Barred.{unseen_by}
use Rattle.pg_world.proofs.Linked.{pull_many, pulled_as, second_there, row_there, ring_there}
use Rattle.pg_world.proofs.Linked.{seen_there, links_here, pull_moves, ring_kept, pull_err}
use Rattle.pg_world.proofs.Past.{way_pulled}
use Rattle.pg_world_packets.proofs.Turning.{pair_turned}
use Rattle.pg_world.proofs.bytes.ByteNodes.pull_some.Goals as goal

pub returns-in-Ok : goal.returns-in-Ok
returns-in-Ok g c = record {
  came = λ config lost w unseen shows.
      let nodes = c.args.self.now.nodes.items in
      let rings = c.args.self.now.rings.items in
      let x = c.args.from in
      let y = c.args.to in
      let node = c.index_mut-node.result.now in
      let row = c.index_mut-row.result.now in
      let ring = c.index_mut-ring.result.now in
      let place = c.peer_place.ensures in
      let lk = ring_there nodes rings x y c.requires.pair c.args.self.now.rows row c.index_mut-row.ensures.value c.args.self.now.others in
      let there : ring ≡ get_or row.rings.items (peer_place x y) ring = c.index_mut-ring.ensures.value ∙ ap (λ k. get_or row.rings.items k ring) place in
      let piece = c.in-Ok.ensures.fed.0 in (
        refl,
        record {
          traffic = moved_shown config lost _ _ w x y (pull (length piece)) (way_pulled (length piece) (λ packets bytes are. c.moving_keeps_packets.ensures.pull written_of packets bytes (length piece) are)
              (λ packets bytes are. c.loss_cuts_packets.ensures.pull written_of packets bytes (length piece) are) (is_lost lost y) (is_lost lost x)) (λ bytes none. none)
              (pull_moves nodes rings x y c.requires.pair c.args.self.now.rows row _ ring c.pull.new.inlet c.index_mut-row.ensures.value lk there (ap (λ k. slice_set row.rings.items k c.pull.new.inlet) place)
              node c.pull.new.self c.index_mut-node.ensures.value piece c.in-Ok.ensures.state
              (subst (λ k. links_of c.pull.new.self ≡ at_link k (λ l. with_fed l piece) (links_of node)) c.peer_place-2.ensures c.in-Ok.ensures.fed.3) c.in-Ok.ensures.fed.2) shows.traffic;
          updates = shows.updates;
        },
      );
  formed = refl;
  lost = refl;
  room = refl;
  changes =
      let nodes = c.args.self.now.nodes.items in
      let rings = c.args.self.now.rings.items in
      let x = c.args.from in
      let y = c.args.to in
      let node = c.index_mut-node.result.now in
      let row = c.index_mut-row.result.now in
      let ring = c.index_mut-ring.result.now in
      let place = c.peer_place.ensures in
      let lk = ring_there nodes rings x y c.requires.pair c.args.self.now.rows row c.index_mut-row.ensures.value c.args.self.now.others in
      let there : ring ≡ get_or row.rings.items (peer_place x y) ring = c.index_mut-ring.ensures.value ∙ ap (λ k. get_or row.rings.items k ring) place in
      let piece = c.in-Ok.ensures.fed.0 in
      let count = c.in-Ok.count in (
        pull_many nodes rings x y c.requires.pair c.args.self.now.rows row ring c.index_mut-row.ensures.value lk there c.args.max count c.in-Ok.ensures.many,
        pulled_as _ _ x y (length piece) count c.in-Ok.ensures.fed.1
            (pull_moves nodes rings x y c.requires.pair c.args.self.now.rows row _ ring c.pull.new.inlet c.index_mut-row.ensures.value lk there (ap (λ k. slice_set row.rings.items k c.pull.new.inlet) place)
            node c.pull.new.self c.index_mut-node.ensures.value piece c.in-Ok.ensures.state
            (subst (λ k. links_of c.pull.new.self ≡ at_link k (λ l. with_fed l piece) (links_of node)) c.peer_place-2.ensures c.in-Ok.ensures.fed.3) c.in-Ok.ensures.fed.2),
      );
}

pub returns-in-Err : goal.returns-in-Err
returns-in-Err g c = record {
  came = λ config lost w unseen shows.
      let nodes = c.args.self.now.nodes.items in
      let rings = c.args.self.now.rings.items in
      let x = c.args.from in
      let y = c.args.to in
      let node = c.index_mut-node.result.now in
      let row = c.index_mut-row.result.now in
      let ring = c.index_mut-ring.result.now in
      let place = c.peer_place.ensures in
      let lk = ring_there nodes rings x y c.requires.pair c.args.self.now.rows row c.index_mut-row.ensures.value c.args.self.now.others in
      let ly = second_there nodes rings x y c.requires.pair c.args.self.now.rows in
      let there : ring ≡ get_or row.rings.items (peer_place x y) ring = c.index_mut-ring.ensures.value ∙ ap (λ k. get_or row.rings.items k ring) place in
      let pair_here : is_pair (length config) x y ≡ true = ap (λ n. is_pair n x y) (sym shows.traffic.nodes.size) ∙ c.requires.pair in
      let sound : (links_of node c.peer_place-2.result).damaged ≡ false = ap (λ k. (links_of node k).damaged) c.peer_place-2.ensures
      ∙ (ap (λ (ls : ℕ → Link). (ls (peer_place y x)).damaged) (sym (links_here nodes rings y node ly c.index_mut-node.ensures.value)) ∙ shows.traffic.sound y x (pair_turned (length config) x y pair_here)) in
      let stays = ap (has_lost (held_by node)) c.peer_place-2.ensures
      ∙ unseen_by config _ w lost shows.traffic.nodes y x _ (pair_turned (length config) x y pair_here) (seen_there nodes rings y node ly c.index_mut-node.ensures.value) unseen in
      let is = ap (λ k. slice_set row.rings.items k c.pull.new.inlet) place in
      pull_err c.in-Err.fault _ (c.in-Err.ensures.memory stays sound)
      (record {
        traffic = same_shown config lost _ _ w (ring_kept nodes rings y x (peer_place x y) node c.pull.new.self row _ ring c.pull.new.inlet ly c.index_mut-node.ensures.value
            (row_there nodes rings x y c.requires.pair c.args.self.now.rows) c.index_mut-row.ensures.value c.in-Err.ensures.state c.in-Err.ensures.err lk there c.in-Err.ensures.err_inlet is) shows.traffic;
        updates = shows.updates;
      });
  formed = refl;
  lost = refl;
  room = refl;
  changes =
      let nodes = c.args.self.now.nodes.items in
      let rings = c.args.self.now.rings.items in
      let x = c.args.from in
      let y = c.args.to in
      let node = c.index_mut-node.result.now in
      let row = c.index_mut-row.result.now in
      let ring = c.index_mut-ring.result.now in
      let place = c.peer_place.ensures in
      let lk = ring_there nodes rings x y c.requires.pair c.args.self.now.rows row c.index_mut-row.ensures.value c.args.self.now.others in
      let there : ring ≡ get_or row.rings.items (peer_place x y) ring = c.index_mut-ring.ensures.value ∙ ap (λ k. get_or row.rings.items k ring) place in
      let ly = second_there nodes rings x y c.requires.pair c.args.self.now.rows in
      ring_kept nodes rings y x (peer_place x y) node c.pull.new.self row _ ring c.pull.new.inlet ly c.index_mut-node.ensures.value
      (row_there nodes rings x y c.requires.pair c.args.self.now.rows) c.index_mut-row.ensures.value c.in-Err.ensures.state c.in-Err.ensures.err lk there c.in-Err.ensures.err_inlet (ap (λ k. slice_set row.rings.items k c.pull.new.inlet) place);
}
