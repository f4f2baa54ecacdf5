-- What a world of bytes is seen as where one of its nodes, or a ring from it, is another.
use Rattle.std.proofs.Common.{◌≡◌, ◌≢◌, ◌<◌, ◌+◌, ◌-◌, ℕ, replicate, true, cond, nat_lt, map, get_or, take, drop}
use Rattle.std.proofs.Common.{length, List, [], ◌∷◌, ◌++◌, Some, None, refl, sym, ap, ◌∙◌, inl, inr, ◌⊎◌, arith, subst}
use Rattle.std.specs.Prelude.{slice_get, slice_set, min, Err}
use Rattle.std.specs.List.{All}
use Rattle.std.proofs.lemmas.Bool.{cases_eq, eq-eqb, ne_eqb}
use Rattle.std.proofs.lemmas.Option.{slice_get_read, slice_get_within}
use Rattle.std.proofs.lemmas.List.{get_or-map, get_or-set_same, get_or-set_other}
use Rattle.std.proofs.lemmas.List.{get_or-replicate, map-set, length-map, length-replicate}
use Rattle.pg_world_packets.specs.PgFrame.Frames.{after_front}
use Rattle.pg_world_packets.specs.PgGroup.Functions.{upd}
use Rattle.pg_world_packets.specs.PgGroup.declared.table.GroupTable.{Ghosts}
use Rattle.pg_world_packets.specs.PgRing.MemRing.{RingBytes, Grows, Loses, HasRoomFor, HasUnread}
use Rattle.pg_world_packets.specs.PgMessageTypes.declared.packet.Packet.{Packet}
use Rattle.pg_world_packets.specs.PgStep.Machines.Places.{is_pair}
use Rattle.pg_world_packets.specs.PgStep.Machines.Machine.{Event, Take, Do, node_of as place_of}
use Rattle.pg_world_packets.specs.PgFrame.Pieces.{ring_put, pull}
use Rattle.pg_world_packets.specs.PgStep.Step.{Action}
use Rattle.pg_node.specs.declared.node.Node.{Node}
use Rattle.pg_world_packets.specs.PgNodeState.declared.state.fault.NodeFault.{NodeFault}
use Rattle.pg_world_packets.specs.PgNodeState.declared.state.fault.NodeFault.TheVariants.{OutOfMemory}
use Rattle.pg_node.specs.Bytes.{closed, passed}
use Rattle.pg_node.specs.Links.{Link, idle_link, at_link, with_fed, without_front}
use Rattle.pg_node.specs.Nodes.{held_by, links_of, sent_out}
use Rattle.pg_world_packets.specs.PgNodeSends.Frames.{frames_to}
use Rattle.pg_world_packets.specs.PgNodeState.Issued.{ports_of}
use Rattle.pg_world_packets.specs.PgNodeState.States.{names_of, state_of, answers_of}
use Rattle.pg_world.specs.declared.rings.Rings.{Rings}
use Rattle.pg_world.specs.Rooms.{HaveRoomFor}
use Rattle.pg_world.specs.BytesLosing.{MoveLeaves}
use Rattle.pg_world.specs.Crossings.{Crossing, bytes_of, bytes_at, node_of, crossing_in}
use Rattle.pg_world_packets.specs.PgWorldConfig.Seen.{Seen, seen_of}
use Rattle.pg_world_packets.specs.Views.{peer_place}
use Rattle.pg_world_packets.specs.Worlds.{has_port}
use Rattle.pg_world.specs.Changes.{Moves, put_count, pull_count, ChangesAlone, SendsOn, links_at}
use Rattle.pg_world.proofs.Crossed.{Acts}
use Rattle.pg_world_packets.proofs.Ported.{test_of}
use Rattle.pg_world_packets.proofs.Peering.{place_within, peers_differ}
use Rattle.pg_world_packets.proofs.Turning.{pair_is, pair_turned, set_other}
use Rattle.pg_world_packets.proofs.Viewing.{read_here, map_same}

take_front : {A : Type 0} (xs ys : List A) → take (length xs) (xs ++ ys) ≡ xs
take_front [] ys = refl
take_front (x ∷ xs) ys = ap (λ zs. x ∷ zs) (take_front xs ys)

drop_front : {A : Type 0} (xs ys : List A) → drop (length xs) (xs ++ ys) ≡ ys
drop_front [] ys = refl
drop_front (x ∷ xs) ys = drop_front xs ys

-- what a ring gave are its first bytes
pub given_first : (a b : RingBytes) (piece : List ℕ) → Loses a piece b → (take (length piece) a.unread ≡ piece) × (drop (length piece) a.unread ≡ b.unread)
given_first a b piece loses = (ap (take (length piece)) loses.lost ∙ take_front piece b.unread, ap (drop (length piece)) loses.lost ∙ drop_front piece b.unread)

-- a link of a node where one changes
pub link_there : (k : ℕ) (change : Link → Link) (links : ℕ → Link) → at_link k change links k ≡ change (links k)
unfolding upd
link_there k change links = ap (λ b. cond b (change (links k)) (links k)) (eq-eqb k k refl)

pub link_else : (k j : ℕ) (change : Link → Link) (links : ℕ → Link) → j ≢ k → at_link k change links j ≡ links j
unfolding upd
link_else k j change links n = ap (λ b. cond b (change (links k)) (links j)) (ne_eqb k j (λ e. n (sym e)))

-- ---- nodes and rings

module _ {T : Type 0} {g : Ghosts T} (nodes : List (Node T g)) (rings : List Rings) where
  pub links_here : (i : ℕ) (node : Node T g) → i < length nodes → node ≡ get_or nodes i node → links_at (crossing_in nodes rings) i ≡ links_of node
  links_here i node l here = read_here links_of nodes i node (λ place. idle_link) l here

  pub links_now : (rings2 : List Rings) (i : ℕ) (node2 : Node T g) → i < length nodes → links_at (crossing_in (slice_set nodes i node2) rings2) i ≡ links_of node2
  links_now rings2 i node2 l = ap (λ (ls : List (ℕ → Link)). get_or ls i (λ place. idle_link)) (map-set links_of nodes i node2)
      ∙ get_or-set_same (map links_of nodes) i (links_of node2) (λ place. idle_link) (omega (arith, l, length-map nodes links_of))

  pub links_else : (rings2 : List Rings) (i a : ℕ) (node2 : Node T g) → a ≢ i → links_at (crossing_in (slice_set nodes i node2) rings2) a ≡ links_at (crossing_in nodes rings) a
  links_else rings2 i a node2 n = ap (λ (ls : List (ℕ → Link)). get_or ls a (λ place. idle_link)) (map-set links_of nodes i node2)
      ∙ get_or-set_other (map links_of nodes) i a (links_of node2) (λ place. idle_link) n

  pub nodes_same : (i : ℕ) (node node2 : Node T g) → i < length nodes → node ≡ get_or nodes i node → held_by node2 ≡ held_by node → map node_of (slice_set nodes i node2) ≡ map node_of nodes
  nodes_same i node node2 l here same = map_same node_of nodes i node node2 l here (ap seen_of same)

  pub nodes_set : (i : ℕ) (node2 : Node T g) → map node_of (slice_set nodes i node2) ≡ slice_set (map node_of nodes) i (node_of node2)
  nodes_set i node2 = map-set node_of nodes i node2

  pub seen_there : (i : ℕ) (node : Node T g) → i < length nodes → node ≡ get_or nodes i node → slice_get (map node_of nodes) i ≡ Some (node_of node)
  seen_there i node l here = slice_get_read (map node_of nodes) (length nodes) i (node_of node) (sym (length-map nodes node_of)) l (sym (read_here node_of nodes i node (node_of node) l here))

-- the bytes on a ring
pub ring_here : (rings : List Rings) (i k : ℕ) (row : Rings) (ring : RingBytes) → i < length rings → row ≡ get_or rings i row → k < length row.rings.items → ring ≡ get_or row.rings.items k ring
    → get_or (get_or (map bytes_of rings) i []) k [] ≡ ring.unread
ring_here rings i k row ring l here lk there = ap (λ (r : List (List ℕ)). get_or r k []) (read_here bytes_of rings i row [] l here)
    ∙ read_here (λ (r : RingBytes). r.unread) row.rings.items k ring [] lk there

module _ (rings : List Rings) (i k : ℕ) (row row2 : Rings) (ring2 : RingBytes) (l : i < length rings) (here : row ≡ get_or rings i row) (lk : k < length row.rings.items) (is : row2.rings.items ≡ slice_set row.rings.items k ring2) where
  row_is : bytes_of row2 ≡ slice_set (bytes_of row) k ring2.unread
  row_is = ap (map (λ (r : RingBytes). r.unread)) is ∙ map-set (λ (r : RingBytes). r.unread) row.rings.items k ring2

  rows_are : map bytes_of (slice_set rings i row2) ≡ slice_set (map bytes_of rings) i (slice_set (bytes_of row) k ring2.unread)
  rows_are = map-set bytes_of rings i row2 ∙ ap (slice_set (map bytes_of rings) i) row_is

  pub ring_now : get_or (get_or (map bytes_of (slice_set rings i row2)) i []) k [] ≡ ring2.unread
  ring_now = ap (λ (rs : List (List (List ℕ))). get_or (get_or rs i []) k []) rows_are
      ∙ (ap (λ (r : List (List ℕ)). get_or r k []) (get_or-set_same (map bytes_of rings) i (slice_set (bytes_of row) k ring2.unread) [] (omega (arith, l, length-map rings bytes_of)))
      ∙ get_or-set_same (bytes_of row) k ring2.unread [] (omega (arith, lk, length-map row.rings.items (λ (r : RingBytes). r.unread))))

  pub ring_else : (a j : ℕ) → ((a ≡ i) × (j ≡ k) → ⊥) → get_or (get_or (map bytes_of (slice_set rings i row2)) a []) j [] ≡ get_or (get_or (map bytes_of rings) a []) j []
  ring_else a j n = ap (λ (rs : List (List (List ℕ))). get_or (get_or rs a []) j []) rows_are ∙ go (cases_eq a i) (cases_eq j k)
    where
      go : (a ≡ i) ⊎ (a ≢ i) → (j ≡ k) ⊎ (j ≢ k) → get_or (get_or (slice_set (map bytes_of rings) i (slice_set (bytes_of row) k ring2.unread)) a []) j [] ≡ get_or (get_or (map bytes_of rings) a []) j []
      go (inr m) d = ap (λ (r : List (List ℕ)). get_or r j []) (get_or-set_other (map bytes_of rings) i a (slice_set (bytes_of row) k ring2.unread) [] m)
      go (inl e) (inl d) = absurd (n (e, d))
      go (inl e) (inr m) = subst (λ b. get_or (get_or (slice_set (map bytes_of rings) i (slice_set (bytes_of row) k ring2.unread)) b []) j [] ≡ get_or (get_or (map bytes_of rings) b []) j []) (sym e)
          (ap (λ (r : List (List ℕ)). get_or r j []) (get_or-set_same (map bytes_of rings) i (slice_set (bytes_of row) k ring2.unread) [] (omega (arith, l, length-map rings bytes_of)))
          ∙ (get_or-set_other (bytes_of row) k j ring2.unread [] m
          ∙ ap (λ (r : List (List ℕ)). get_or r j []) (sym (read_here bytes_of rings i row [] l here))))

-- ---- bytes that move

module _ {T : Type 0} {g : Ghosts T} (nodes : List (Node T g)) (rings : List Rings) (x y : ℕ) (pair : is_pair (length (map node_of nodes)) x y ≡ true) (rows : length rings ≡ length nodes) where
  places : (x < length nodes) × (y < length nodes) × (y ≢ x)
  places = let p = pair_is (length (map node_of nodes)) x y pair in (omega (arith, p.0, length-map nodes node_of), omega (arith, p.1, length-map nodes node_of), p.2)

  pub first_there : x < length nodes
  first_there = places.0

  pub second_there : y < length nodes
  second_there = places.1

  pub row_there : x < length rings
  row_there = let l = places.0 in omega (arith, l, rows)

  pub seconds_known : (node : Node T g) → node ≡ get_or nodes y node → All (λ (n : Node T g). length (names_of (held_by n)) ≡ length rings) nodes → peer_place y x + 1 < length (names_of (held_by node))
  seconds_known node here known =
      let knows : length (names_of (held_by node)) ≡ length rings = subst (λ (n : Node T g). length (names_of (held_by n)) ≡ length rings) (sym here) (known y node places.1) in
      let l = place_within y x (length nodes) places.1 places.0 (λ e. places.2 (sym e)) in
      omega (arith, knows, l, rows)

  pub firsts_known : (node : Node T g) → node ≡ get_or nodes x node → All (λ (n : Node T g). length (names_of (held_by n)) ≡ length rings) nodes → peer_place x y + 1 < length (names_of (held_by node))
  firsts_known node here known =
      let knows : length (names_of (held_by node)) ≡ length rings = subst (λ (n : Node T g). length (names_of (held_by n)) ≡ length rings) (sym here) (known x node places.0) in
      let l = place_within x y (length nodes) places.0 places.1 places.2 in
      omega (arith, knows, l, rows)

  pub ring_there : (row : Rings) → row ≡ get_or rings x row → All (λ (r : Rings). length r.rings.items + 1 ≡ length rings) rings → peer_place x y < length row.rings.items
  ring_there row here others =
      let has : length row.rings.items + 1 ≡ length rings = subst (λ (r : Rings). length r.rings.items + 1 ≡ length rings) (sym here) (others x row row_there) in
      let l = place_within x y (length nodes) places.0 places.1 places.2 in
      omega (arith, has, l, rows)

-- one link of a node is another
module _ {T : Type 0} {g : Ghosts T} (nodes : List (Node T g)) (rings rings2 : List Rings) (i k : ℕ) (node node2 : Node T g) (change : Link → Link) (l : i < length nodes) (at : node ≡ get_or nodes i node)
    (links : links_of node2 ≡ at_link k change (links_of node)) where
  abbrev pub before : Crossing
  before = crossing_in nodes rings

  abbrev pub after : Crossing
  after = crossing_in (slice_set nodes i node2) rings2

  was : links_at before i ≡ links_of node
  was = links_here nodes rings i node l at

  now : links_at after i ≡ at_link k change (links_of node)
  now = links_now nodes rings rings2 i node2 l ∙ links

  pub changed_here : links_at after i k ≡ change (links_at before i k)
  changed_here = ap (λ (ls : ℕ → Link). ls k) now ∙ (link_there k change (links_of node) ∙ ap (λ (ls : ℕ → Link). change (ls k)) (sym was))

  pub changed_else : (a j : ℕ) → ((a ≡ i) × (j ≡ k) → ⊥) → links_at after a j ≡ links_at before a j
  changed_else a j n = go (cases_eq a i)
    where
      go : (a ≡ i) ⊎ (a ≢ i) → links_at after a j ≡ links_at before a j
      go (inr m) = ap (λ (ls : ℕ → Link). ls j) (links_else nodes rings rings2 i a node2 m)
      go (inl e) = subst (λ h. links_at after h j ≡ links_at before h j) (sym e)
          (ap (λ (ls : ℕ → Link). ls j) now ∙ (link_else k j change (links_of node) (λ d. n (e, d)) ∙ ap (λ (ls : ℕ → Link). ls j) (sym was)))

  -- what the change keeps of a link
  pub part_kept : {A : Type 0} (part : Link → A) → ((x : Link) → part (change x) ≡ part x) → (a j : ℕ) → part (links_at after a j) ≡ part (links_at before a j)
  part_kept part kept a j = go (cases_eq a i) (cases_eq j k)
    where
      go : (a ≡ i) ⊎ (a ≢ i) → (j ≡ k) ⊎ (j ≢ k) → part (links_at after a j) ≡ part (links_at before a j)
      go (inl e) (inl d) = subst (λ h. part (links_at after h j) ≡ part (links_at before h j)) (sym e) (subst (λ h. part (links_at after i h) ≡ part (links_at before i h)) (sym d)
          (ap part changed_here ∙ kept (links_at before i k)))
      go (inr m) d = ap part (changed_else a j (λ both. m both.0))
      go (inl e) (inr m) = ap part (changed_else a j (λ both. m both.1))

module _ {T : Type 0} {g : Ghosts T} (nodes : List (Node T g)) (rings : List Rings) (x y : ℕ) (pair : is_pair (length (map node_of nodes)) x y ≡ true) (rows : length rings ≡ length nodes)
    (row row2 : Rings) (ring ring2 : RingBytes) (here : row ≡ get_or rings x row) (lk : peer_place x y < length row.rings.items) (there : ring ≡ get_or row.rings.items (peer_place x y) ring)
    (is : row2.rings.items ≡ slice_set row.rings.items (peer_place x y) ring2) where
  abbrev pub rings2 : List Rings
  rings2 = slice_set rings x row2

  lr : x < length rings
  lr = row_there nodes rings x y pair rows

  lx : x < length nodes
  lx = first_there nodes rings x y pair rows

  ly : y < length nodes
  ly = second_there nodes rings x y pair rows

  -- two nodes are the same where their places among the peers of one are
  same_peer : (i b c : ℕ) → is_pair (length (map node_of nodes)) i b ≡ true → c ≢ i → peer_place i b ≡ peer_place i c → b ≡ c
  same_peer i b c other n d = go (cases_eq b c)
    where
      go : (b ≡ c) ⊎ (b ≢ c) → b ≡ c
      go (inl f) = f
      go (inr m) = absurd (peers_differ i b c (pair_is (length (map node_of nodes)) i b other).2 n m d)

  apart : y ≢ x
  apart = (pair_is (length (map node_of nodes)) x y pair).2

  ring_of_others : (a b : ℕ) → is_pair (length (map node_of nodes)) a b ≡ true → ((a ≡ x) × (b ≡ y) → ⊥) → get_or (get_or (map bytes_of rings2) a []) (peer_place a b) [] ≡ get_or (get_or (map bytes_of rings) a []) (peer_place a b) []
  ring_of_others a b other n = ring_else rings x (peer_place x y) row row2 ring2 lr here lk is a (peer_place a b)
      (λ both. n (both.0, same_peer x b y (subst (λ k. is_pair (length (map node_of nodes)) k b ≡ true) both.0 other) apart (ap (λ k. peer_place k b) (sym both.0) ∙ both.1)))

  was_ring : get_or (get_or (map bytes_of rings) x []) (peer_place x y) [] ≡ ring.unread
  was_ring = ring_here rings x (peer_place x y) row ring lr here lk there

  now_ring : get_or (get_or (map bytes_of rings2) x []) (peer_place x y) [] ≡ ring2.unread
  now_ring = ring_now rings x (peer_place x y) row row2 ring2 lr here lk is

  -- bytes were put on the ring
  pub put_moves : (node node2 : Node T g) → node ≡ get_or nodes x node → (count : ℕ) → held_by node2 ≡ held_by node
      → links_of node2 ≡ at_link (peer_place x y) (λ l. without_front l count) (links_of node) → Grows ring (take count (links_of node (peer_place x y)).outbox) ring2
      → Moves (crossing_in nodes rings) (crossing_in (slice_set nodes x node2) rings2) x y (ring_put count)
  put_moves node node2 at count held links grows = record {
    nodes = nodes_same nodes rings x node node2 lx at held;
    here = λ j. record {
      outbox = (changed_here nodes rings rings2 x (peer_place x y) node node2 change lx at links j).outbox;
      ring = (now_ring ∙ (grows.grown ∙ (λ i. sym was_ring i ++ take count (sym (links_here nodes rings x node lx at) i (peer_place x y)).outbox))) j;
      came = part_kept nodes rings rings2 x (peer_place x y) node node2 change lx at links (λ (l : Link). l.unread) (λ l. refl) y (peer_place y x) j;
    };
    others = λ a b other n. λ j. record {
      outbox = (changed_else nodes rings rings2 x (peer_place x y) node node2 change lx at links a (peer_place a b)
          (λ both. n (both.0, same_peer x b y (subst (λ k. is_pair (length (map node_of nodes)) k b ≡ true) both.0 other) apart (ap (λ k. peer_place k b) (sym both.0) ∙ both.1))) j).outbox;
      ring = ring_of_others a b other n j;
      came = part_kept nodes rings rings2 x (peer_place x y) node node2 change lx at links (λ (l : Link). l.unread) (λ l. refl) b (peer_place b a) j;
    };
    damaged = λ a b. part_kept nodes rings rings2 x (peer_place x y) node node2 change lx at links (λ (l : Link). l.damaged) (λ l. refl) a (peer_place a b);
  }
    where
      change : Link → Link
      change l = without_front l count

  -- bytes came off the ring
  pub pull_moves : (node node2 : Node T g) → node ≡ get_or nodes y node → (piece : List ℕ) → held_by node2 ≡ held_by node
      → links_of node2 ≡ at_link (peer_place y x) (λ l. with_fed l piece) (links_of node) → Loses ring piece ring2
      → Moves (crossing_in nodes rings) (crossing_in (slice_set nodes y node2) rings2) x y (pull (length piece))
  pull_moves node node2 at piece held links loses = record {
    nodes = nodes_same nodes rings y node node2 ly at held;
    here = λ j. record {
      outbox = part_kept nodes rings rings2 y (peer_place y x) node node2 change ly at links (λ (l : Link). l.outbox) (λ l. refl) x (peer_place x y) j;
      ring = (now_ring ∙ (sym (given_first ring ring2 piece loses).1 ∙ ap (drop (length piece)) (sym was_ring))) j;
      came = (ap (λ (l : Link). l.unread) (changed_here nodes rings rings2 y (peer_place y x) node node2 change ly at links)
          ∙ ap (λ more. (links_at (crossing_in nodes rings) y (peer_place y x)).unread ++ more) (sym (given_first ring ring2 piece loses).0 ∙ ap (take (length piece)) (sym was_ring))) j;
    };
    others = λ a b other n. λ j. record {
      outbox = part_kept nodes rings rings2 y (peer_place y x) node node2 change ly at links (λ (l : Link). l.outbox) (λ l. refl) a (peer_place a b) j;
      ring = ring_of_others a b other n j;
      came = (changed_else nodes rings rings2 y (peer_place y x) node node2 change ly at links b (peer_place b a) (λ both. n (other_is a b other both.0 both.1, both.0)) j).unread;
    };
    damaged = λ a b. part_kept nodes rings rings2 y (peer_place y x) node node2 change ly at links (λ (l : Link). l.damaged) (λ l. refl) a (peer_place a b);
  }
    where
      change : Link → Link
      change l = with_fed l piece

      other_is : (a b : ℕ) → is_pair (length (map node_of nodes)) a b ≡ true → b ≡ y → peer_place b a ≡ peer_place y x → a ≡ x
      other_is a b other e d = same_peer y a x (pair_turned (length (map node_of nodes)) a y (subst (λ k. is_pair (length (map node_of nodes)) a k ≡ true) e other)) (λ f. apart (sym f)) (ap (λ k. peer_place k a) (sym e) ∙ d)

-- how many bytes move
module _ {T : Type 0} {g : Ghosts T} (nodes : List (Node T g)) (rings : List Rings) (x y : ℕ) (pair : is_pair (length (map node_of nodes)) x y ≡ true) (rows : length rings ≡ length nodes)
    (row : Rings) (ring : RingBytes) (here : row ≡ get_or rings x row) (lk : peer_place x y < length row.rings.items) (there : ring ≡ get_or row.rings.items (peer_place x y) ring) where
  on_ring : ring.unread ≡ (bytes_at (crossing_in nodes rings) x y).ring
  on_ring = sym (ring_here rings x (peer_place x y) row ring (row_there nodes rings x y pair rows) here lk there)

  capacity_is : (capacity : ℕ) → All (HaveRoomFor capacity) rings → ring.capacity ≡ capacity
  capacity_is capacity sized = ap (λ (r : RingBytes). r.capacity) there
      ∙ subst (λ (r : Rings). All (λ (q : RingBytes). q.capacity ≡ capacity) r.rings.items) (sym here) (sized x row (row_there nodes rings x y pair rows)) (peer_place x y) ring lk

  pub put_many : (capacity : ℕ) → All (HaveRoomFor capacity) rings → (node : Node T g) → node ≡ get_or nodes x node → (max count : ℕ) → HasRoomFor ring (min max (length (links_of node (peer_place x y)).outbox)) count
      → count ≡ put_count capacity max (bytes_at (crossing_in nodes rings) x y)
  put_many capacity sized node at max count many = many
      ∙ (λ j. min (min max (length (sym (links_here nodes rings x node (first_there nodes rings x y pair rows) at) j (peer_place x y)).outbox)) (capacity_is capacity sized j - length (on_ring j)))

  pub pull_many : (max count : ℕ) → HasUnread ring (min max 65536) count → count ≡ pull_count max (bytes_at (crossing_in nodes rings) x y)
  pull_many max count many = many ∙ (λ j. min (min max 65536) (length (on_ring j)))

pub pulled_as : (before after : Crossing) (x y n count : ℕ) → n ≡ count → Moves before after x y (pull n) → Moves before after x y (pull count)
pulled_as before after x y n count same = subst (λ k. Moves before after x y (pull k)) same

-- ---- a node that makes a turn

module _ {T : Type 0} {g : Ghosts T} (nodes : List (Node T g)) (rings : List Rings) (i : ℕ) (node node2 : Node T g) (sends : List (ℕ × Packet)) (l : i < length nodes) (at : node ≡ get_or nodes i node) where
  abbrev pub old : Crossing
  old = crossing_in nodes rings

  abbrev pub new : Crossing
  new = crossing_in (slice_set nodes i node2) rings

  -- by itself
  pub own_acts : (action : Action) → ((k : ℕ) → links_of node2 k ≡ sent_out sends (links_of node) k) → Acts old new (Do i action) sends
  own_acts action links = record {
    rings = refl;
    elsewhere = λ x n k. ap (λ (ls : ℕ → Link). ls k) (links_else nodes rings rings i x node2 n);
    out = λ k. ap (λ (x : Link). x.outbox) (each k);
    gone = λ x t. absurd t;
    stays = λ x n t. ap (λ (x : Link). x.unread) (each (peer_place i x));
    sound = λ k. ap (λ (x : Link). x.damaged) (each k);
  }
    where
      each : (k : ℕ) → links_at new i k ≡ sent_out sends (links_at old i) k
      each k = ap (λ (ls : ℕ → Link). ls k) (links_now nodes rings rings i node2 l) ∙ (links k ∙ ap (λ (ls : ℕ → Link). sent_out sends ls k) (sym (links_here nodes rings i node l at)))

  -- by what it takes of a peer
  pub take_acts : (p : ℕ) → p ≢ i → ((k : ℕ) → links_of node2 k ≡ at_link (peer_place i p) passed (sent_out sends (links_of node)) k) → Acts old new (Take i p) sends
  take_acts p apart links = record {
    rings = refl;
    elsewhere = λ x n k. ap (λ (ls : ℕ → Link). ls k) (links_else nodes rings rings i x node2 n);
    out = λ k. kept (λ (x : Link). x.outbox) (λ x. refl) k;
    gone = λ x t. subst (λ h. (links_at new i (peer_place i h)).unread ≡ after_front (links_at old i (peer_place i h)).unread) t.0
        (ap (λ (x : Link). x.unread) (each (peer_place i p) ∙ link_there (peer_place i p) passed (sent_out sends (links_at old i))));
    stays = λ x n t. ap (λ (x : Link). x.unread) (each (peer_place i x) ∙ link_else (peer_place i p) (peer_place i x) passed (sent_out sends (links_at old i))
        (λ d. peers_differ i x p n apart (λ e. t (sym e, refl)) d));
    sound = λ k. kept (λ (x : Link). x.damaged) (λ x. refl) k;
  }
    where
      each : (k : ℕ) → links_at new i k ≡ at_link (peer_place i p) passed (sent_out sends (links_at old i)) k
      each k = ap (λ (ls : ℕ → Link). ls k) (links_now nodes rings rings i node2 l) ∙ (links k ∙ ap (λ (ls : ℕ → Link). at_link (peer_place i p) passed (sent_out sends ls) k) (sym (links_here nodes rings i node l at)))

      kept : {A : Type 0} (part : Link → A) → ((x : Link) → part (passed x) ≡ part x) → (k : ℕ) → part (links_at new i k) ≡ part (sent_out sends (links_at old i) k)
      kept part same k = ap part (each k) ∙ go (cases_eq k (peer_place i p))
        where
          go : (k ≡ peer_place i p) ⊎ (k ≢ peer_place i p) → part (at_link (peer_place i p) passed (sent_out sends (links_at old i)) k) ≡ part (sent_out sends (links_at old i) k)
          go (inl e) = subst (λ h. part (at_link (peer_place i p) passed (sent_out sends (links_at old i)) h) ≡ part (sent_out sends (links_at old i) h)) (sym e)
              (ap part (link_there (peer_place i p) passed (sent_out sends (links_at old i))) ∙ same (sent_out sends (links_at old i) (peer_place i p)))
          go (inr m) = ap part (link_else (peer_place i p) k passed (sent_out sends (links_at old i)) m)

-- ---- what an event changes

module _ {T : Type 0} {g : Ghosts T} (nodes : List (Node T g)) (rings : List Rings) (i : ℕ) where
  pub alone : (node2 : Node T g) → ChangesAlone i (crossing_in nodes rings) (crossing_in (slice_set nodes i node2) rings)
  alone node2 = record {
    nodes = λ x n. ap (λ (seen : List Seen). slice_get seen x) (nodes_set nodes rings i node2) ∙ set_other (map node_of nodes) i x (node_of node2) n;
    links = λ x n. links_else nodes rings rings i x node2 n;
    rings = refl;
  }

  -- it sends
  pub sends_on : (node2 : Node T g) (e : Event Action) (sends : List (ℕ × Packet)) → i ≡ place_of e → Acts (crossing_in nodes rings) (crossing_in (slice_set nodes i node2) rings) e sends
      → SendsOn i (crossing_in nodes rings) (crossing_in (slice_set nodes i node2) rings)
  sends_on node2 e sends is acts = record {
    alone = alone node2;
    more = frames_to sends;
    behind = λ k. subst (λ x. (links_at (crossing_in (slice_set nodes i node2) rings) x k).outbox ≡ (links_at (crossing_in nodes rings) x k).outbox ++ frames_to sends k) (sym is) (acts.out k);
  }

  -- it closes its link to a peer
  pub closes : (k : ℕ) (node node2 : Node T g) → i < length nodes → node ≡ get_or nodes i node → links_of node2 ≡ at_link k closed (links_of node)
      → links_at (crossing_in (slice_set nodes i node2) rings) i ≡ at_link k closed (links_at (crossing_in nodes rings) i)
  closes k node node2 l at links = links_now nodes rings rings i node2 l ∙ (links ∙ ap (at_link k closed) (sym (links_here nodes rings i node l at)))

-- ---- what stays

-- one node and one row of rings that are seen as before
pub crossing_same : {T : Type 0} {g : Ghosts T} (nodes : List (Node T g)) (rings : List Rings) (i x : ℕ) (node node2 : Node T g) (row row2 : Rings) → i < length nodes → node ≡ get_or nodes i node → x < length rings → row ≡ get_or rings x row
    → held_by node2 ≡ held_by node → links_of node2 ≡ links_of node → bytes_of row2 ≡ bytes_of row → crossing_in (slice_set nodes i node2) (slice_set rings x row2) ≡ crossing_in nodes rings
crossing_same nodes rings i x node node2 row row2 l at lx here held links bytes = λ j. record {
  nodes = nodes_same nodes rings i node node2 l at held j;
  links = map_same links_of nodes i node node2 l at links j;
  rings = map_same bytes_of rings x row row2 lx here bytes j;
}

-- a node that is seen as before
pub nodes_kept : {T : Type 0} {g : Ghosts T} (nodes : List (Node T g)) (i : ℕ) (node node2 : Node T g) → i < length nodes → node ≡ get_or nodes i node → node_of node2 ≡ node_of node
    → map node_of (slice_set nodes i node2) ≡ map node_of nodes
nodes_kept nodes i node node2 l at seen = map_same node_of nodes i node node2 l at seen

pub node_same : {T : Type 0} {g : Ghosts T} (nodes : List (Node T g)) (rings : List Rings) (i : ℕ) (node node2 : Node T g) → i < length nodes → node ≡ get_or nodes i node
    → node_of node2 ≡ node_of node → links_of node2 ≡ links_of node → crossing_in (slice_set nodes i node2) rings ≡ crossing_in nodes rings
node_same nodes rings i node node2 l at seen links = λ j. record {
  nodes = map_same node_of nodes i node node2 l at seen j;
  links = map_same links_of nodes i node node2 l at links j;
  rings = map bytes_of rings;
}

pub ring_same : (row row2 : Rings) (k : ℕ) (ring ring2 : RingBytes) → k < length row.rings.items → ring ≡ get_or row.rings.items k ring → ring2 ≡ ring → row2.rings.items ≡ slice_set row.rings.items k ring2 → bytes_of row2 ≡ bytes_of row
ring_same row row2 k ring ring2 l there same is = ap (map (λ (r : RingBytes). r.unread)) is ∙ map_same (λ (r : RingBytes). r.unread) row.rings.items k ring ring2 l there (ap (λ (r : RingBytes). r.unread) same)

-- the same, where the row has one ring that is as it was
pub ring_kept : {T : Type 0} {g : Ghosts T} (nodes : List (Node T g)) (rings : List Rings) (i x k : ℕ) (node node2 : Node T g) (row row2 : Rings) (ring ring2 : RingBytes) → i < length nodes → node ≡ get_or nodes i node → x < length rings → row ≡ get_or rings x row
    → held_by node2 ≡ held_by node → links_of node2 ≡ links_of node → k < length row.rings.items → ring ≡ get_or row.rings.items k ring → ring2 ≡ ring → row2.rings.items ≡ slice_set row.rings.items k ring2
    → crossing_in (slice_set nodes i node2) (slice_set rings x row2) ≡ crossing_in nodes rings
ring_kept nodes rings i x k node node2 row row2 ring ring2 l at lx here held links lk there same is =
    crossing_same nodes rings i x node node2 row row2 l at lx here held links (ring_same row row2 k ring ring2 lk there same is)

-- a node that is seen as it was
pub seen_kept : {T : Type 0} {g : Ghosts T} (node node2 : Node T g) → names_of (held_by node2) ≡ names_of (held_by node) → ports_of (held_by node2) ≡ ports_of (held_by node) → state_of (held_by node2) ≡ state_of (held_by node)
    → answers_of (held_by node2) ≡ answers_of (held_by node) → node_of node2 ≡ node_of node
seen_kept node node2 names ports state answers = λ j. record { names = names j; ports = ports j; state = state j; answers = answers j }

-- a node that has a port is there
pub port_place : {T : Type 0} {g : Ghosts T} (nodes : List (Node T g)) (i port : ℕ) → has_port (map node_of nodes) i port ≡ true → i < length nodes
port_place nodes i port has =
    let found = test_of (λ (node : Seen). nat_lt port node.ports) (slice_get (map node_of nodes) i) has in
    let l = slice_get_within (map node_of nodes) i found.0 found.1 in omega (arith, l, length-map nodes node_of)

-- ---- what a pull told

-- it is refused only where memory runs out
pub pull_err : (fault : NodeFault) (Shown : Type 0) → fault ≡ OutOfMemory → Shown → MoveLeaves None (Err fault) Shown
pull_err fault Shown is shown = subst (λ f. MoveLeaves None (Err f) Shown) (sym is) (refl, shown)

-- ---- a world that begins

module _ (rings : List Rings) (n : ℕ) (are : map bytes_of rings ≡ replicate n (replicate (n - 1) [])) where
  pub idle_rows : length rings ≡ n
  idle_rows = sym (length-map rings bytes_of) ∙ (ap length are ∙ length-replicate n (replicate (n - 1) []))

  pub idle_others : All (λ (row : Rings). length row.rings.items + 1 ≡ length rings) rings
  idle_others j d l =
      let within : j < n = omega (arith, l, idle_rows) in
      let row : bytes_of (get_or rings j d) ≡ replicate (n - 1) [] = sym (get_or-map bytes_of rings j d [] l) ∙ (ap (λ (rs : List (List (List ℕ))). get_or rs j []) are ∙ get_or-replicate n j (replicate (n - 1) []) [] within) in
      let len : length (get_or rings j d).rings.items ≡ n - 1 = sym (length-map (get_or rings j d).rings.items (λ (r : RingBytes). r.unread)) ∙ (ap length row ∙ length-replicate (n - 1) []) in
      omega (arith, len, within, idle_rows)
