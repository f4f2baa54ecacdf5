-- A world of bytes that begins.
use Rattle.std.proofs.Common.{◌≡◌, ◌≤◌, ◌<◌, ◌+◌, ◌-◌, ℕ, zero, suc, Bool, true, false, cond, nat_lt}
use Rattle.std.proofs.Common.{map, get_or, length, replicate, List, [], ◌∷◌, ◌++◌, Option, Some}
use Rattle.std.proofs.Common.{Result, Ok, Err, refl, sym, ap, ◌∙◌, inl, inr, ◌⊎◌, arith, subst}
use Rattle.std.specs.Prelude.{slice_get, option_map, IfOk}
use Rattle.std.specs.declared.alloc.Global.{Global}
use Rattle.std.specs.declared.vec.Vec.{Vec}
use Rattle.std.specs.List.{All, AllByRecursion, IsDistinct}
use Rattle.std.proofs.lemmas.Bool.{ltb-false}
use Rattle.std.proofs.lemmas.List.{get_or-replicate, length-map, length-append, map-append}
use Rattle.std.proofs.lemmas.Option.{slice_get-map, slice_get-get_or}
use Rattle.pg_term.specs.Same.{same_atom}
use Rattle.pg_world_packets.specs.PgTermIo.Limits.{max_len}
use Rattle.pg_world_packets.specs.PgTermIo.Writing.{written}
use Rattle.pg_world_packets.specs.PgFrame.Frames.{frame}
use Rattle.pg_world_packets.specs.PgGroup.declared.table.GroupTable.{Ghosts}
use Rattle.pg_world_packets.specs.PgStep.Machines.Places.{is_pair}
use Rattle.pg_world_packets.specs.PgStep.Machines.Machine.{start_of}
use Rattle.pg_world_packets.specs.PgStep.Machines.Clocked.{Stamped}
use Rattle.pg_world_packets.specs.PgMessageTypes.declared.fault.MessageFault.{MessageFault}
use Rattle.pg_world_packets.specs.PgMessageTypes.declared.fault.MessageFault.TheVariants as messages
use Rattle.pg_world_packets.specs.PgMessageTypes.declared.message.Message.{Message}
use Rattle.pg_world_packets.specs.PgMessageTypes.declared.packet.Packet.{Packet}
use Rattle.pg_world_packets.specs.PgMessageTypes.Limits.{max_stamp}
use Rattle.pg_world_packets.specs.PgMessageTypes.Reading.{packet_of}
use Rattle.pg_world_packets.specs.PgMessageTypes.Writing.{body_of, sent, length_of, term_of_packet, is_exchange, is_sayable}
use Rattle.pg_term.specs.declared.fault.TermFault.TheVariants as terms
use Rattle.pg_world_packets.specs.PgFrame.Pieces.{ArePackets}
use Rattle.pg_world_packets.specs.PgNodeOpens.Places.{name_at}
use Rattle.pg_world_packets.specs.PgStep.Config.{Config, names_of, groups_at}
use Rattle.pg_world_packets.specs.PgStep.FrameMachine.{frame_machine}
use Rattle.pg_node.specs.declared.node.Node.{Node}
use Rattle.pg_world_packets.specs.PgNodeState.declared.state.fault.NodeFault.{NodeFault}
use Rattle.pg_node.specs.Begun.{BeginsWith, CantBegin, IsOpened, unsent}
use Rattle.pg_world_packets.specs.PgMessageWriter.Frames.{frame_of}
use Rattle.pg_node.specs.Links.{Link}
use Rattle.pg_node.specs.Nodes.{held_by, links_of}
use Rattle.pg_world_packets.specs.PgNodeState.States.{names_of as known_names}
use Rattle.pg_world_packets.specs.PgNodeSends.Sent.{stamped_of}
use Rattle.pg_world_packets.specs.PgWorldConfig.declared.fault.WorldFault.{WorldFault}
use Rattle.pg_world_packets.specs.PgWorldConfig.declared.fault.WorldFault.TheVariants.{BadConfig, NameTooLarge}
use Rattle.pg_world_packets.specs.PgWorldConfig.declared.fault.WorldFault.TheVariants.{BadCapacity, TooLong, OutOfMemory}
use Rattle.pg_world.specs.BytesStart.{OpensLinks, OpensBytes, BytesBegin}
use Rattle.pg_world.specs.Changes.{links_at}
use Rattle.pg_world.specs.Crossings.{Crossing, node_of, idle_crossing, no_links, link_at}
use Rattle.pg_world.specs.Crossings.{bytes_at, packet_as, packets_between, written_of, CanCross}
use Rattle.pg_world_packets.specs.Openings.{AreReady, TellsNames, AllFit, CantOpen, CantStart, opening_fault_of}
use Rattle.pg_world_packets.specs.PgWorldConfig.Firsts.{seen_first, firsts}
use Rattle.pg_world_packets.specs.Starts.{AllOpen, Begins}
use Rattle.pg_world_packets.specs.PgWorldConfig.Seen.{Seen}
use Rattle.pg_world_packets.specs.Views.{fresh_view, peer_place}
use Rattle.pg_world_packets.specs.PgWorldAccount.Histories.{Account, no_account}
use Rattle.pg_world_packets.specs.Worlds.{TimedFrameWorld}
use Rattle.pg_world_packets.proofs.Fitted.{has_none, said_all}
use Rattle.pg_world_packets.proofs.Opened.{tells_names, names_at}
use Rattle.pg_world_packets.proofs.Ordered.{ordered_length}
use Rattle.pg_world_packets.proofs.Peering.{known, place_within}
use Rattle.pg_world_packets.proofs.PgWorldConfig.Starting.{firsts_length, firsts_are}
use Rattle.pg_world_packets.proofs.Starting.{open_more, begins}
use Rattle.pg_world_packets.proofs.Turning.{pair_is, pair_turned}

-- ---- one node

-- a node that can't begin, as a world tells it
pub cant_open_so : (node : Seen) (fault : NodeFault) → TellsNames node.state.state.table → CantBegin node.state.state.table (name_at node.names 0) fault → CantOpen node (opening_fault_of fault)
cant_open_so node fault named (packet, is, e) = go (body_of packet) refl e
  where
    said : is_sayable packet.message ≡ true
    said = said_all node.state.state.table (name_at node.names 0) packet named is

    stamp : packet.stamp ≤ max_stamp
    stamp = subst (λ (p : Packet). p.stamp ≤ max_stamp) (sym is.2) (omega arith)

    go : (body : Result (List ℕ) MessageFault) → body_of packet ≡ body → fault ≡ unsent body → CantOpen node (opening_fault_of fault)
    go (Ok bytes) same f = subst (λ f. CantOpen node (opening_fault_of f)) (sym f) tt
    go (Err told) same f = subst (λ f. CantOpen node (opening_fault_of f)) (sym f) (packet, is, has_none packet told said stamp (sym (ap length_of same)))

pub named_first : (config : Config) (i : ℕ) → AreReady config → TellsNames (seen_first config i).state.state.table
named_first config i ready = tells_names (groups_at config i) (names_at config i ready.named)

-- a node of which a world can't tell the groups
pub cant_start_at : (config : Config) (i : ℕ) (fault : WorldFault) → i < length config → CantOpen (seen_first config i) fault → CantStart config fault
cant_start_at config i OutOfMemory l cant = tt
cant_start_at config i TooLong l cant = (i, l, inl cant)
cant_start_at config i BadConfig l cant = absurd cant
cant_start_at config i NameTooLarge l cant = absurd cant
cant_start_at config i BadCapacity l cant = absurd cant

-- a body that is written fits into a frame
body_fits : (packet : Packet) → body_of packet ≡ Ok (written (term_of_packet packet)) → length (written (term_of_packet packet)) ≤ max_len
body_fits packet e = go (packet_of (term_of_packet packet)) e
  where
    body : List ℕ
    body = written (term_of_packet packet)

    short : (p : Packet) (b : Bool) → nat_lt max_len (length body) ≡ b → cond b (Err (messages.Term terms.TooLong)) (Ok body) ≡ Ok body → length body ≤ max_len
    short p true t f = absurd cc
    short p false t f = ltb-false max_len (length body) t

    go : (r : Result Packet MessageFault) → sent r body ≡ Ok body → length body ≤ max_len
    go (Ok p) f = short p (nat_lt max_len (length body)) refl f
    go (Err fault) f = absurd cc

-- ---- all nodes

-- one more node
pub node_more : {T : Type 0} {g : Ghosts T} (config : Config) (nodes : List (Node T g)) (node : Node T g) (n : ℕ) → map node_of nodes ≡ firsts config n → node_of node ≡ seen_first config n
    → map node_of (nodes ++ node ∷ []) ≡ firsts config (n + 1)
node_more config nodes node n before is = map-append node_of nodes (node ∷ []) ∙ ((λ j. before j ++ is j ∷ []) ∙ ap (firsts config) (next n))
  where
    next : (k : ℕ) → suc k ≡ k + 1
    next k = omega arith

-- the last of one more
last_is : {A : Type 0} (xs : List A) (x none : A) → get_or (xs ++ x ∷ []) (length xs) none ≡ x
last_is [] x none = refl
last_is (y ∷ ys) x none = last_is ys x none

-- the others
front_is : {A : Type 0} (xs : List A) (x none : A) (i : ℕ) → i < length xs → get_or (xs ++ x ∷ []) i none ≡ get_or xs i none
front_is [] x none i l = absurd (omega (arith, l))
front_is (y ∷ ys) x none zero l = refl
front_is (y ∷ ys) x none (suc i) l = front_is ys x none i (nearer i (length ys) l)
  where
    nearer : (a b : ℕ) → suc a < suc b → a < b
    nearer a b l = omega (arith, l)

before_or_last : (i n : ℕ) → i < n + 1 → (i < n) ⊎ (i ≡ n)
before_or_last zero zero l = inr refl
before_or_last zero (suc n) l = inl (omega arith)
before_or_last (suc i) zero l = absurd (omega (arith, l))
before_or_last (suc i) (suc n) l = go (before_or_last i n (omega (arith, l)))
  where
    go : (i < n) ⊎ (i ≡ n) → (suc i < suc n) ⊎ (suc i ≡ suc n)
    go (inl h) = inl (omega (arith, h))
    go (inr e) = inr (ap suc e)

-- what holds of each place holds of one more
pub each_more : {A : Type 0} (P : ℕ → A → Type 0) (xs : List A) (x none : A) (n : ℕ) → length xs ≡ n → ((i : ℕ) → i < n → P i (get_or xs i none)) → P n x
    → (i : ℕ) → i < n + 1 → P i (get_or (xs ++ x ∷ []) i none)
each_more P xs x none n len each one i l = go (before_or_last i n l)
  where
    go : (i < n) ⊎ (i ≡ n) → P i (get_or (xs ++ x ∷ []) i none)
    go (inl h) = subst (P i) (sym (front_is xs x none i (omega (arith, h, len)))) (each i h)
    go (inr e) = subst (λ k. P k (get_or (xs ++ x ∷ []) k none)) (sym e) (subst (P n) (sym (ap (λ k. get_or (xs ++ x ∷ []) k none) (sym len) ∙ last_is xs x none)) one)

-- each node knows as many as there are
pub all_known : {T : Type 0} {g : Ghosts T} (config : Config) (nodes : List (Node T g)) → map node_of nodes ≡ firsts config (length config) → All (λ (node : Node T g). length (known_names (held_by node)) ≡ length nodes) nodes
all_known {T} {g} config nodes are i d l =
    let node = get_or nodes i d in
    let at : slice_get (map node_of nodes) i ≡ Some (node_of node) = slice_get-map node_of nodes i ∙ ap (λ (o : Option (Node T g)). option_map node_of o) (slice_get-get_or nodes i d l) in
    let is = firsts_are config (length config) i (node_of node) (ap (λ (xs : List Seen). slice_get xs i) (sym are) ∙ at) in
    let count : length nodes ≡ length config = sym (length-map nodes node_of) ∙ (ap length are ∙ firsts_length config (length config)) in
    ap (λ (s : Seen). length s.names) is.1 ∙ (known config i is.0 ∙ sym count)

-- ---- the world

-- what a node tells each of so many peers, and how it stands in its links
pub record RowAt (given : Config) (peers i : ℕ) (links : ℕ → Link) (row : List (List (Stamped Message))) : Type 0 where
  pub packet : Packet
  pub is : row ≡ replicate peers (stamped_of packet ∷ [])
  pub begins : BeginsWith (seen_first given i).state.state.table (name_at (seen_first given i).names 0) peers links packet

module _ (given : Config) (links : List (ℕ → Link)) (peers : ℕ) (told_by : (i : ℕ) → i < length given → OpensLinks peers (seen_first given i) (get_or links i no_links)) where
  -- the packets that the first so many nodes tell
  pub record Rows (n : ℕ) : Type 0 where
    pub rows : List (List (List (Stamped Message)))
    pub going : AllOpen peers (firsts given n) rows
    pub size : length rows ≡ n
    pub each : (i : ℕ) → i < n → RowAt given peers i (get_or links i no_links) (get_or rows i [])

  rows_of : (n : ℕ) → n ≤ length given → Rows n
  rows_of zero l = record { rows = []; going = tt; size = refl; each = λ i h. absurd (omega (arith, h)) }
  rows_of (suc n) l =
      let before = rows_of n (omega (arith, l)) in
      let told = told_by n (omega (arith, l)) in
      let row = replicate peers (stamped_of told.0 ∷ []) in
      record {
        rows = before.rows ++ row ∷ [];
        going = open_more peers (firsts given n) before.rows (seen_first given n) row before.going (told.0, told.1.tells, refl, body_fits told.0 told.1.body);
        size = length-append before.rows (row ∷ []) ∙ (λ j. one (before.size j) j);
        each = λ i h. each_more (λ k r. RowAt given peers k (get_or links k no_links) r) before.rows row [] n before.size before.each (record { packet = told.0; is = refl; begins = told.1 }) i (omega (arith, h));
      }
    where
      one : (k : ℕ) → k + 1 ≡ suc k
      one k = omega arith

  pub all_rows : Rows (length given)
  all_rows = rows_of (length given) (omega arith)

  pub all_links_fit : AllFit given
  all_links_fit i l = let told = told_by i l in (told.0, told.1.tells, body_fits told.0 told.1.body)

-- a packet that a node tells as it begins can cross
told_crosses : (given : Config) (peers i place : ℕ) (links : ℕ → Link) (packet : Packet) → place < peers → BeginsWith (seen_first given i).state.state.table (name_at (seen_first given i).names 0) peers links packet → CanCross packet
told_crosses given peers i place links packet l begins = record {
  read = (begins.each place l).read;
  fits = body_fits packet begins.body;
  small = λ e. absurd (told_is e);
}
  where
    told_is : is_exchange packet.message ≡ false → ⊥
    told_is e = let is : true ≡ false = sym (ap (λ (p : Packet). is_exchange p.message) begins.tells.2) ∙ e in absurd cc

append_none : (xs : List ℕ) → xs ++ [] ≡ xs
append_none [] = refl
append_none (x ∷ xs) = ap (λ ys. x ∷ ys) (append_none xs)

-- one frame in the outbox is one packet on the way
framed_so : (packet : Packet) (out back : Link) (ring : List ℕ) → out.outbox ≡ frame_of packet → ring ≡ [] → back.unread ≡ []
    → ArePackets written_of (packet ∷ []) (record { outbox = out.outbox; ring = ring; came = back.unread })
unfolding frame
framed_so packet out back ring outbox empty none = (λ j. none j ++ (empty j ++ outbox j)) ∙ sym (append_none (frame_of packet))

module _ (given : Config) (nodes : List Seen) (links : List (ℕ → Link)) (are : nodes ≡ firsts given (length given))
    (told_by : (i : ℕ) → i < length given → OpensLinks (length given - 1) (seen_first given i) (get_or links i no_links)) where
  abbrev pub peers : ℕ
  peers = length given - 1

  told_rows : Rows given links peers told_by (length given)
  told_rows = all_rows given links peers told_by

  count : length nodes ≡ length given
  count = ap length are ∙ firsts_length given (length given)

  going : AllOpen (length nodes - 1) nodes told_rows.rows
  going = subst (λ n. AllOpen (n - 1) nodes told_rows.rows) (sym count) (subst (λ (ns : List Seen). AllOpen peers ns told_rows.rows) (sym are) told_rows.going)

  abbrev pub crossing : Crossing
  crossing = record { nodes = nodes; links = links; rings = replicate (length nodes) (replicate (length nodes - 1) []) }

  pub bytes_begin : IsDistinct same_atom (names_of given) → BytesBegin given crossing no_account
  bytes_begin apart = (
    config,
    started.1,
    record {
      traffic = record { nodes = started.2.traffic.nodes; ways = ways; cross = cross; sound = sound; silent = λ x y pair seen. let no : false ≡ true = seen in absurd (cc) };
      updates = started.2.updates;
    },
  )
    where
      started : Begins given (fresh_view (record { nodes = nodes; ways = told_rows.rows }))
      started = begins given nodes told_rows.rows are going apart

      config : Config
      config = started.0

      size : length config ≡ length given
      size = ordered_length given config started.1

      start : TimedFrameWorld
      start = start_of (frame_machine config)

      row_at : (x : ℕ) → x < length config → RowAt given peers x (get_or links x no_links) (get_or told_rows.rows x [])
      row_at x l = told_rows.each x (omega (arith, l, size))

      inside : (x y : ℕ) → is_pair (length config) x y ≡ true → peer_place x y < peers
      inside x y e = let pair = pair_is (length config) x y e in let within = place_within x y (length config) pair.0 pair.1 pair.2 in omega (arith, within, size)

      -- the one packet on the way
      told_first : (x y : ℕ) (e : is_pair (length config) x y ≡ true) → packets_between start x y ≡ (row_at x (pair_is (length config) x y e).0).packet ∷ []
      told_first x y e =
          let row = row_at x (pair_is (length config) x y e).0 in
          ap (map packet_as) (started.2.traffic.ways x y e ∙ (ap (λ (r : List (List (Stamped Message))). get_or r (peer_place x y) []) row.is
          ∙ get_or-replicate peers (peer_place x y) (stamped_of row.packet ∷ []) [] (inside x y e)))

      opened_at : (x y : ℕ) (e : is_pair (length config) x y ≡ true) → IsOpened (row_at x (pair_is (length config) x y e).0).packet (link_at crossing x y)
      opened_at x y e = (row_at x (pair_is (length config) x y e).0).begins.each (peer_place x y) (inside x y e)

      ring_empty : (x y : ℕ) → is_pair (length config) x y ≡ true → ◌≡◌ {A = List ℕ} (get_or (get_or (replicate (length nodes) (replicate (length nodes - 1) [])) x []) (peer_place x y) []) []
      ring_empty x y e =
          let pair = pair_is (length config) x y e in
          let within : x < length nodes = omega (arith, pair.0, size, count) in
          let there = inside x y e in
          let place : peer_place x y < length nodes - 1 = omega (arith, there, count) in
          ap (λ (r : List (List ℕ)). get_or r (peer_place x y) []) (get_or-replicate (length nodes) x (replicate (length nodes - 1) []) [] within)
          ∙ get_or-replicate (length nodes - 1) (peer_place x y) [] [] place

      ways : (x y : ℕ) → is_pair (length config) x y ≡ true → ArePackets written_of (packets_between start x y) (bytes_at crossing x y)
      ways x y e = subst (λ (ps : List Packet). ArePackets written_of ps (bytes_at crossing x y)) (sym (told_first x y e))
          (framed_so (row_at x (pair_is (length config) x y e).0).packet (link_at crossing x y) (link_at crossing y x)
          (get_or (get_or (replicate (length nodes) (replicate (length nodes - 1) [])) x []) (peer_place x y) [])
          (ap (λ (l : Link). l.outbox) (opened_at x y e).is) (ring_empty x y e) (ap (λ (l : Link). l.unread) (opened_at y x (pair_turned (length config) x y e)).is))

      cross : (x y : ℕ) → is_pair (length config) x y ≡ true → AllByRecursion CanCross (packets_between start x y)
      cross x y e =
          let row = row_at x (pair_is (length config) x y e).0 in
          subst (λ (ps : List Packet). AllByRecursion CanCross ps) (sym (told_first x y e)) (told_crosses given peers x (peer_place x y) (get_or links x no_links) row.packet (inside x y e) row.begins, tt)

      sound : (x y : ℕ) → is_pair (length config) x y ≡ true → (link_at crossing x y).damaged ≡ false
      sound x y e = ap (λ (l : Link). l.damaged) (opened_at x y e).is

-- the same of the code's nodes
pub idle_begins : {T : Type 0} {g : Ghosts T} (given : Config) (nodes : List (Node T g)) → map node_of nodes ≡ firsts given (length given)
    → ((i : ℕ) → i < length given → OpensLinks (length given - 1) (seen_first given i) (get_or (map links_of nodes) i no_links)) → IsDistinct same_atom (names_of given) → BytesBegin given (idle_crossing nodes) no_account
idle_begins given nodes are told_by apart =
    subst (λ n. BytesBegin given (record { nodes = map node_of nodes; links = map links_of nodes; rings = replicate n (replicate (n - 1) []) }) no_account) (length-map nodes node_of)
    (bytes_begin given (map node_of nodes) (map links_of nodes) are told_by apart)

-- what is seen as a world that begins does
pub begins_as : (given : Config) (a b : Crossing) (k l : Account) → a ≡ b → k ≡ l → BytesBegin given b l → BytesBegin given a k
begins_as given a b k l same kept begins = subst (λ (x : Crossing). BytesBegin given x k) (sym same) (subst (λ (y : Account). BytesBegin given b y) (sym kept) begins)

-- the same of nodes that were made, if they were
pub made_begin : {T E : Type 0} {g : Ghosts T} (given : Config) (result : Result (Vec (Node T g) Global) E)
    → IfOk result (λ nodes. map node_of nodes.items ≡ firsts given (length given))
    → IfOk result (λ nodes. (i : ℕ) → i < length given → OpensLinks (length given - 1) (seen_first given i) (get_or (map links_of nodes.items) i no_links))
    → IsDistinct same_atom (names_of given) → IfOk result (λ nodes. BytesBegin given (idle_crossing nodes.items) no_account)
made_begin given (Ok nodes) are told_by apart = idle_begins given nodes.items are told_by apart
made_begin given (Err fault) are told_by apart = tt

pub made_count : {T E : Type 0} {g : Ghosts T} (given : Config) (result : Result (Vec (Node T g) Global) E)
    → IfOk result (λ nodes. map node_of nodes.items ≡ firsts given (length given)) → IfOk result (λ nodes. length nodes.items ≡ length given)
made_count given (Ok nodes) are = sym (length-map nodes.items node_of) ∙ (ap length are ∙ firsts_length given (length given))
made_count given (Err fault) are = tt

pub made_fit : {T E : Type 0} {g : Ghosts T} (given : Config) (result : Result (Vec (Node T g) Global) E)
    → IfOk result (λ nodes. (i : ℕ) → i < length given → OpensLinks (length given - 1) (seen_first given i) (get_or (map links_of nodes.items) i no_links)) → IfOk result (λ nodes. AllFit given)
made_fit given (Ok nodes) told_by = all_links_fit given (map links_of nodes.items) (length given - 1) told_by
made_fit given (Err fault) told_by = tt

-- nodes that tell their groups, between which nothing has crossed
pub opens_bytes : (starts : Config) {T : Type 0} {g : Ghosts T} (nodes : List (Node T g)) (crossing : Crossing) → map node_of nodes ≡ firsts starts (length starts)
    → ((i : ℕ) → i < length starts → OpensLinks (length starts - 1) (seen_first starts i) (get_or (map links_of nodes) i no_links)) → crossing ≡ idle_crossing nodes → OpensBytes starts crossing
opens_bytes starts nodes crossing made opened is =
    let count : length nodes ≡ length starts = sym (length-map nodes node_of) ∙ (ap length made ∙ firsts_length starts (length starts)) in
    record {
      rings = ap (λ (c : Crossing). c.rings) is ∙ ap (λ n. replicate n (replicate (n - 1) [])) count;
      links = λ i l. subst (λ (c : Crossing). OpensLinks (length starts - 1) (seen_first starts i) (links_at c i)) (sym is) (opened i l);
    }
