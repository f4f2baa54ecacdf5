use Rattle.std.proofs.Common.{◌≡◌, ◌∙◌, drop, get_or, take, length, ap, subst}
use Rattle.std.specs.Prelude.{slice_set, min}
use Rattle.pg_world_packets.specs.PgRing.MemRing.{Grows, HasRoomFor}
use Rattle.pg_world_packets.specs.PgFrame.Pieces.{ring_put}
use Rattle.pg_node.specs.Links.{at_link, without_front}
use Rattle.pg_node.specs.Nodes.{links_of}
use Rattle.pg_world.specs.Crossings.{written_of}
use Rattle.pg_world_packets.specs.Views.{peer_place}
use Rattle.pg_world_packets.specs.PgWorldAccount.Losses.{is_lost}
use Rattle.pg_world.proofs.Crossed.{drop_none, moved_shown}
use Rattle.pg_world.proofs.Linked.{ring_there, put_moves, put_many}
use Rattle.pg_world.proofs.Past.{way_put}
use Rattle.pg_world.proofs.bytes.ByteNodes.put_some.Goals as goal

pub returns-clause-shown : goal.returns-clause-shown
returns-clause-shown g c = λ config lost w stays shows.
    let nodes = c.args.self.now.nodes.items in
    let rings = c.args.self.now.rings.items in
    let x = c.args.from in
    let y = c.args.to in
    let node = c.index_mut-node.result.now in
    let row = c.index_mut-row.result.now in
    let ring = c.index_mut-ring.result.now in
    let count = c.put.result in
    let place = c.peer_place-place.ensures in
    let lk = ring_there nodes rings x y c.requires.pair c.args.self.now.rows row c.index_mut-row.ensures.value c.args.self.now.others in
    let there : ring ≡ get_or row.rings.items (peer_place x y) ring = c.index_mut-ring.ensures.value ∙ ap (λ k. get_or row.rings.items k ring) place in
    moved_shown config lost _ _ w x y (ring_put count) (way_put count (λ packets bytes are. c.moving_keeps_packets.ensures.put written_of packets bytes count are) (is_lost lost y) (is_lost lost x) stays) (λ bytes none. ap (drop count) none ∙ drop_none count)
    (put_moves nodes rings x y c.requires.pair c.args.self.now.rows row _ ring c.put.new.link c.index_mut-row.ensures.value lk there (ap (λ k. slice_set row.rings.items k c.put.new.link) place)
    node c.put.new.self c.index_mut-node.ensures.value count c.put.ensures.state
    (subst (λ k. links_of c.put.new.self ≡ at_link k (λ l. without_front l count) (links_of node)) place c.put.ensures.rest)
    (subst (λ k. Grows ring (take count (links_of node k).outbox) c.put.new.link) place c.put.ensures.moved)) shows

pub returns-clause-many : goal.returns-clause-many
returns-clause-many g c =
    let nodes = c.args.self.now.nodes.items in
    let rings = c.args.self.now.rings.items in
    let x = c.args.from in
    let y = c.args.to in
    let node = c.index_mut-node.result.now in
    let row = c.index_mut-row.result.now in
    let ring = c.index_mut-ring.result.now in
    let count = c.put.result in
    let place = c.peer_place-place.ensures in
    let lk = ring_there nodes rings x y c.requires.pair c.args.self.now.rows row c.index_mut-row.ensures.value c.args.self.now.others in
    let there : ring ≡ get_or row.rings.items (peer_place x y) ring = c.index_mut-ring.ensures.value ∙ ap (λ k. get_or row.rings.items k ring) place in
    put_many nodes rings x y c.requires.pair c.args.self.now.rows row ring c.index_mut-row.ensures.value lk there c.args.self.now.ring c.args.self.now.sized node c.index_mut-node.ensures.value c.args.max count
    (subst (λ k. HasRoomFor ring (min c.args.max (length (links_of node k).outbox)) count) place c.put.ensures.many)

pub returns-clause-moves : goal.returns-clause-moves
returns-clause-moves g c =
    let nodes = c.args.self.now.nodes.items in
    let rings = c.args.self.now.rings.items in
    let x = c.args.from in
    let y = c.args.to in
    let node = c.index_mut-node.result.now in
    let row = c.index_mut-row.result.now in
    let ring = c.index_mut-ring.result.now in
    let count = c.put.result in
    let place = c.peer_place-place.ensures in
    let lk = ring_there nodes rings x y c.requires.pair c.args.self.now.rows row c.index_mut-row.ensures.value c.args.self.now.others in
    let there : ring ≡ get_or row.rings.items (peer_place x y) ring = c.index_mut-ring.ensures.value ∙ ap (λ k. get_or row.rings.items k ring) place in
    put_moves nodes rings x y c.requires.pair c.args.self.now.rows row _ ring c.put.new.link c.index_mut-row.ensures.value lk there (ap (λ k. slice_set row.rings.items k c.put.new.link) place)
    node c.put.new.self c.index_mut-node.ensures.value count c.put.ensures.state
    (subst (λ k. links_of c.put.new.self ≡ at_link k (λ l. without_front l count) (links_of node)) place c.put.ensures.rest)
    (subst (λ k. Grows ring (take count (links_of node k).outbox) c.put.new.link) place c.put.ensures.moved)
