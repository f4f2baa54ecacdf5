-- What a world of bytes shows once bytes have moved, or a node has made a turn.
use Rattle.std.proofs.Common.{◌≡◌, ◌≢◌, ◌≤◌, ◌+◌, ℕ, zero, suc, Bool, true, false, cond, nat_eq, map, drop, get_or, length, List}
use Rattle.std.proofs.Common.{[], ◌∷◌, ◌++◌, refl, sym, ap, ◌∙◌, inl, inr, ◌⊎◌, arith, subst, length-append}
use Rattle.std.specs.Int.{w32, to_be_bytes}
use Rattle.std.specs.List.{AllByRecursion}
use Rattle.std.proofs.lemmas.Bool.{cases_eq}
use Rattle.pg_world_packets.specs.PgFrame.Frames.{frame, after_front}
use Rattle.pg_world_packets.specs.PgMessageTypes.declared.message.Message.{Message}
use Rattle.pg_world_packets.specs.PgMessageTypes.declared.packet.Packet.{Packet}
use Rattle.pg_world_packets.specs.PgStep.Machines.Places.{is_pair}
use Rattle.pg_world_packets.specs.PgStep.Machines.Machine.{Event, node_of}
use Rattle.pg_world_packets.specs.PgStep.Machines.Happened.{Takes}
use Rattle.pg_world_packets.specs.PgStep.Machines.Clocked.{Stamped}
use Rattle.pg_world_packets.specs.PgFrame.Pieces.{Bytes, AreShort, frames_of, put_out, piece_taken as bytes_taken}
use Rattle.pg_world_packets.specs.PgStep.Config.{Config, name_at}
use Rattle.pg_world_packets.specs.PgStep.Nodes.{Node}
use Rattle.pg_world_packets.specs.PgStep.Step.{Action}
use Rattle.pg_world_packets.specs.PgMessageWriter.Frames.{frame_of}
use Rattle.pg_world_packets.specs.PgNodeSends.Frames.{IsSmallFrame, AreSmallFrames, frames_to}
use Rattle.pg_node.specs.Links.{Link}
use Rattle.pg_world_packets.specs.PgNodeSends.Sent.{stamped_of}
use Rattle.pg_world_packets.specs.PgWorldConfig.Seen.{Seen}
use Rattle.pg_world_packets.specs.Views.{peer_place, packets_to}
use Rattle.pg_world_packets.specs.Worlds.{TimedFrameWorld, ShowsNodes}
use Rattle.pg_world.specs.Crossings.{Crossing, link_at, bytes_at, packet_as, packets_between}
use Rattle.pg_world.specs.Crossings.{written_of, CanCross, IsOnWay, ShowsPast}
use Rattle.pg_world.specs.Changes.{Moves, links_at}
use Rattle.pg_world_packets.specs.PgWorldAccount.Losses.{is_lost}
use Rattle.pg_world.proofs.Past.{Adds, way_sent}
use Rattle.pg_world_packets.proofs.Turning.{Passes, pair_is}

-- ---- bytes move

pub drop_none : (count : ℕ) → ◌≡◌ {A = List ℕ} (drop count []) []
drop_none zero = refl
drop_none (suc count) = refl

pub moved_shown : (config : Config) (lost : List ℕ) (crossing crossing2 : Crossing) (w : TimedFrameWorld) (x y : ℕ) (change : Bytes → Bytes)
    → ((packets : List Packet) (bytes : Bytes) → IsOnWay (is_lost lost y) (is_lost lost x) packets bytes → IsOnWay (is_lost lost y) (is_lost lost x) packets (change bytes))
    → ((bytes : Bytes) → bytes.outbox ≡ [] → (change bytes).outbox ≡ [])
    → Moves crossing crossing2 x y change → ShowsPast config lost crossing w → ShowsPast config lost crossing2 w
moved_shown config lost crossing crossing2 w x y change keeps empty moves shows = record {
  nodes = subst (λ (nodes : List Seen). ShowsNodes config nodes w) (sym moves.nodes) shows.nodes;
  ways = λ a b pair. way a b pair (cases_eq a x) (cases_eq b y);
  cross = shows.cross;
  sound = λ a b pair. moves.damaged a b ∙ shows.sound a b pair;
  silent = λ a b pair seen. silent a b pair (cases_eq a x) (cases_eq b y) (shows.silent a b pair seen);
}
  where
    there : (a b : ℕ) → is_pair (length config) a b ≡ true → is_pair (length crossing.nodes) a b ≡ true
    there a b pair = ap (λ n. is_pair n a b) shows.nodes.size ∙ pair

    here : is_pair (length config) x y ≡ true → IsOnWay (is_lost lost y) (is_lost lost x) (packets_between w x y) (bytes_at crossing2 x y)
    here pair = subst (IsOnWay (is_lost lost y) (is_lost lost x) (packets_between w x y)) (sym moves.here) (keeps (packets_between w x y) (bytes_at crossing x y) (shows.ways x y pair))

    way : (a b : ℕ) → is_pair (length config) a b ≡ true → (a ≡ x) ⊎ (a ≢ x) → (b ≡ y) ⊎ (b ≢ y) → IsOnWay (is_lost lost b) (is_lost lost a) (packets_between w a b) (bytes_at crossing2 a b)
    way a b pair (inl e) (inl d) =
        subst (λ k. IsOnWay (is_lost lost b) (is_lost lost k) (packets_between w k b) (bytes_at crossing2 k b)) (sym e)
        (subst (λ k. IsOnWay (is_lost lost k) (is_lost lost x) (packets_between w x k) (bytes_at crossing2 x k)) (sym d)
        (here (subst (λ k. is_pair (length config) k y ≡ true) e (subst (λ k. is_pair (length config) a k ≡ true) d pair))))
    way a b pair (inr n) d = subst (IsOnWay (is_lost lost b) (is_lost lost a) (packets_between w a b)) (sym (moves.others a b (there a b pair) (λ both. n both.0))) (shows.ways a b pair)
    way a b pair (inl e) (inr n) = subst (IsOnWay (is_lost lost b) (is_lost lost a) (packets_between w a b)) (sym (moves.others a b (there a b pair) (λ both. n both.1))) (shows.ways a b pair)

    silent : (a b : ℕ) → is_pair (length config) a b ≡ true → (a ≡ x) ⊎ (a ≢ x) → (b ≡ y) ⊎ (b ≢ y) → (link_at crossing a b).outbox ≡ [] → (link_at crossing2 a b).outbox ≡ []
    silent a b pair (inl e) (inl d) none =
        subst (λ k. (link_at crossing2 k b).outbox ≡ []) (sym e) (subst (λ k. (link_at crossing2 x k).outbox ≡ []) (sym d)
        (ap (λ (z : Bytes). z.outbox) moves.here ∙ empty (bytes_at crossing x y) (subst (λ k. (link_at crossing x k).outbox ≡ []) d (subst (λ k. (link_at crossing k b).outbox ≡ []) e none))))
    silent a b pair (inr n) d none = ap (λ (z : Bytes). z.outbox) (moves.others a b (there a b pair) (λ both. n both.0)) ∙ none
    silent a b pair (inl e) (inr n) none = ap (λ (z : Bytes). z.outbox) (moves.others a b (there a b pair) (λ both. n both.1)) ∙ none

-- what is seen as before is shown as before
pub same_shown : (config : Config) (lost : List ℕ) (crossing crossing2 : Crossing) (w : TimedFrameWorld) → crossing2 ≡ crossing → ShowsPast config lost crossing w → ShowsPast config lost crossing2 w
same_shown config lost crossing crossing2 w same = subst (λ (x : Crossing). ShowsPast config lost x w) (sym same)

-- ---- packets that are sent

-- a small packet can cross
four_more : (body : List ℕ) → length (frame body) ≡ 4 + length body
unfolding frame
four_more body = length-append (to_be_bytes w32 (length body)) body

can_cross : (packet : Packet) → IsSmallFrame packet → CanCross packet
unfolding frame
can_cross packet small =
    let l : 4 + length (written_of packet) ≤ 3130 = subst (λ n. n ≤ 3130) (four_more (written_of packet)) small.small in
    record { read = small.read; fits = omega (arith, l); small = λ e. omega (arith, l) }

-- those that go to a place can cross, and their frames go out there
pub sent_cross : (sends : List (ℕ × Packet)) (k : ℕ) → AreSmallFrames sends → AllByRecursion CanCross (map packet_as (packets_to sends k))
sent_cross [] k small = tt
sent_cross (sent ∷ others) k small = go (nat_eq sent.0 k) (sent_cross others k small.1)
  where
    go : (b : Bool) → AllByRecursion CanCross (map packet_as (packets_to others k)) → AllByRecursion CanCross (map packet_as (cond b (stamped_of sent.1 ∷ []) [] ++ packets_to others k))
    go true rest = (can_cross sent.1 small.0, rest)
    go false rest = rest

pub frames_sent : (sends : List (ℕ × Packet)) (k : ℕ) → frames_to sends k ≡ frames_of written_of (map packet_as (packets_to sends k))
unfolding frame
frames_sent [] k = refl
frames_sent (sent ∷ others) k = go (nat_eq sent.0 k) (frames_sent others k)
  where
    go : (b : Bool) → frames_to others k ≡ frames_of written_of (map packet_as (packets_to others k))
        → cond b (frame_of sent.1) [] ++ frames_to others k ≡ frames_of written_of (map packet_as (cond b (stamped_of sent.1 ∷ []) [] ++ packets_to others k))
    go true rest = ap (λ xs. frame_of sent.1 ++ xs) rest
    go false rest = rest

pub map_append : (xs ys : List (Stamped Message)) → map packet_as (xs ++ ys) ≡ map packet_as xs ++ map packet_as ys
map_append [] ys = refl
map_append (x ∷ xs) ys = ap (λ zs. packet_as x ∷ zs) (map_append xs ys)

all_append : (xs ys : List Packet) → AllByRecursion CanCross xs → AllByRecursion CanCross ys → AllByRecursion CanCross (xs ++ ys)
all_append [] ys a b = b
all_append (x ∷ xs) ys a b = (a.0, all_append xs ys a.1 b)

pub all_short : (xs : List Packet) → AllByRecursion CanCross xs → AreShort written_of xs
all_short [] all = tt
all_short (x ∷ xs) all = (all.0.fits, all_short xs all.1)

-- ---- an event

-- What the event e of a node has left of the links: what it sends stands behind what went out there, the frame of the packet
-- that it took is gone, and all else is as it was.
pub record Acts (crossing crossing2 : Crossing) (e : Event Action) (sends : List (ℕ × Packet)) : Type 0 where
  pub rings : crossing2.rings ≡ crossing.rings
  pub elsewhere : (x : ℕ) → x ≢ node_of e → (k : ℕ) → links_at crossing2 x k ≡ links_at crossing x k
  pub out : (k : ℕ) → (links_at crossing2 (node_of e) k).outbox ≡ (links_at crossing (node_of e) k).outbox ++ frames_to sends k
  pub gone : (x : ℕ) → Takes e x (node_of e) → (link_at crossing2 (node_of e) x).unread ≡ after_front (link_at crossing (node_of e) x).unread
  pub stays : (x : ℕ) → x ≢ node_of e → (Takes e x (node_of e) → ⊥) → (link_at crossing2 (node_of e) x).unread ≡ (link_at crossing (node_of e) x).unread
  pub sound : (k : ℕ) → (links_at crossing2 (node_of e) k).damaged ≡ (links_at crossing (node_of e) k).damaged

-- what is said of two packets, where one is taken first
module _ (config : Config) (lost : List ℕ) (crossing crossing2 : Crossing) (w v : TimedFrameWorld) (e : Event Action) (sends : List (ℕ × Packet)) (shows : ShowsPast config lost crossing w)
    (stays : is_lost lost (node_of e) ≡ false) (acts : Acts crossing crossing2 e sends) (passes : Passes config e sends w v) (small : AreSmallFrames sends) (adds : Adds)
    (takes : (x y : ℕ) → Takes e x y → (first : Packet) (others : List Packet) → packets_between w x y ≡ first ∷ others → IsOnWay (is_lost lost y) (is_lost lost x) others (bytes_taken (bytes_at crossing x y)))
    (is_taken : (x y : ℕ) → Takes e x y ⊎ (Takes e x y → ⊥)) (by_node : (x y : ℕ) → Takes e x y → y ≡ node_of e) (still : (x : ℕ) → (v.node x).state.lost ≡ (w.node x).state.lost)
    (quiet : (y : ℕ) → is_pair (length config) (node_of e) y ≡ true → (w.node (node_of e)).state.lost (name_at config y) ≡ true → packets_to sends (peer_place (node_of e) y) ≡ []) where
  ring_same : (x k : ℕ) → get_or (get_or crossing2.rings x []) k [] ≡ get_or (get_or crossing.rings x []) k []
  ring_same x k = ap (λ (rs : List (List (List ℕ))). get_or (get_or rs x []) k []) acts.rings

  -- on the way from the node
  own_packets : (y : ℕ) → is_pair (length config) (node_of e) y ≡ true → packets_between v (node_of e) y ≡ packets_between w (node_of e) y ++ map packet_as (packets_to sends (peer_place (node_of e) y))
  own_packets y pair = ap (map packet_as) (passes.own y pair) ∙ map_append (w.wire (node_of e) y) (packets_to sends (peer_place (node_of e) y))

  own_bytes : (y : ℕ) → y ≢ node_of e → bytes_at crossing2 (node_of e) y ≡ put_out (frames_of written_of (map packet_as (packets_to sends (peer_place (node_of e) y)))) (bytes_at crossing (node_of e) y)
  own_bytes y n = λ j. record {
    outbox = (acts.out (peer_place (node_of e) y) ∙ ap (λ more. (links_at crossing (node_of e) (peer_place (node_of e) y)).outbox ++ more) (frames_sent sends (peer_place (node_of e) y))) j;
    ring = ring_same (node_of e) (peer_place (node_of e) y) j;
    came = (acts.elsewhere y n (peer_place y (node_of e)) j).unread;
  }

  own_way : (y : ℕ) → is_pair (length config) (node_of e) y ≡ true → IsOnWay (is_lost lost y) (is_lost lost (node_of e)) (packets_between v (node_of e) y) (bytes_at crossing2 (node_of e) y)
  own_way y pair =
      let apart = (pair_is (length config) (node_of e) y pair).2 in
      let more = map packet_as (packets_to sends (peer_place (node_of e) y)) in
      subst (λ (ps : List Packet). IsOnWay (is_lost lost y) (is_lost lost (node_of e)) ps (bytes_at crossing2 (node_of e) y)) (sym (own_packets y pair))
      (subst (IsOnWay (is_lost lost y) (is_lost lost (node_of e)) (packets_between w (node_of e) y ++ more)) (sym (own_bytes y apart))
      (way_sent adds (is_lost lost y) (is_lost lost (node_of e)) stays (packets_between w (node_of e) y) more (bytes_at crossing (node_of e) y) (shows.ways (node_of e) y pair)))

  -- where the first is taken
  taken_bytes : (x y : ℕ) → x ≢ node_of e → Takes e x y → bytes_at crossing2 x y ≡ bytes_taken (bytes_at crossing x y)
  taken_bytes x y n t = λ j. record {
    outbox = (acts.elsewhere x n (peer_place x y) j).outbox;
    ring = ring_same x (peer_place x y) j;
    came = came j;
  }
    where
      at_node : y ≡ node_of e
      at_node = by_node x y t

      came : (link_at crossing2 y x).unread ≡ after_front (link_at crossing y x).unread
      came = subst (λ k. (link_at crossing2 k x).unread ≡ after_front (link_at crossing k x).unread) (sym at_node) (acts.gone x (subst (Takes e x) at_node t))

  taken_way : (x y : ℕ) → x ≢ node_of e → Takes e x y → IsOnWay (is_lost lost y) (is_lost lost x) (packets_between v x y) (bytes_at crossing2 x y)
  taken_way x y n t =
      let gone = passes.taken x y t in
      subst (IsOnWay (is_lost lost y) (is_lost lost x) (packets_between v x y)) (sym (taken_bytes x y n t)) (takes x y t (packet_as gone.0) (packets_between v x y) (ap (map packet_as) gone.1))

  -- elsewhere
  other_bytes : (x y : ℕ) → x ≢ node_of e → y ≢ x → (Takes e x y → ⊥) → bytes_at crossing2 x y ≡ bytes_at crossing x y
  other_bytes x y n apart t = λ j. record {
    outbox = (acts.elsewhere x n (peer_place x y) j).outbox;
    ring = ring_same x (peer_place x y) j;
    came = came (cases_eq y (node_of e)) j;
  }
    where
      came : (y ≡ node_of e) ⊎ (y ≢ node_of e) → (link_at crossing2 y x).unread ≡ (link_at crossing y x).unread
      came (inl d) = subst (λ k. (link_at crossing2 k x).unread ≡ (link_at crossing k x).unread) (sym d) (acts.stays x n (λ is. t (subst (Takes e x) (sym d) is)))
      came (inr m) = ap (λ (l : Link). l.unread) (acts.elsewhere y m (peer_place y x))

  other_way : (x y : ℕ) → x ≢ node_of e → is_pair (length config) x y ≡ true → (Takes e x y → ⊥) → IsOnWay (is_lost lost y) (is_lost lost x) (packets_between v x y) (bytes_at crossing2 x y)
  other_way x y n pair t =
      subst (λ (ps : List Packet). IsOnWay (is_lost lost y) (is_lost lost x) ps (bytes_at crossing2 x y)) (ap (map packet_as) (sym (passes.others x y n t)))
      (subst (IsOnWay (is_lost lost y) (is_lost lost x) (packets_between w x y)) (sym (other_bytes x y n (pair_is (length config) x y pair).2 t)) (shows.ways x y pair))

  -- the whole
  pub event_shown : ShowsNodes config crossing2.nodes v → ShowsPast config lost crossing2 v
  event_shown nodes = record {
    nodes = nodes;
    ways = λ x y pair. way x y pair (cases_eq x (node_of e)) (is_taken x y);
    cross = λ x y pair. crossing_now x y pair (cases_eq x (node_of e)) (is_taken x y);
    sound = λ x y pair. damage x y (cases_eq x (node_of e)) ∙ shows.sound x y pair;
    silent = λ x y pair seen. nothing_out x y pair (cases_eq x (node_of e)) (ap (λ (f : Node → Bool). f (name_at config y)) (sym (still x)) ∙ seen);
  }
    where
      nothing_out : (x y : ℕ) → is_pair (length config) x y ≡ true → (x ≡ node_of e) ⊎ (x ≢ node_of e) → (w.node x).state.lost (name_at config y) ≡ true → (link_at crossing2 x y).outbox ≡ []
      nothing_out x y pair (inl d) seen =
          let own : is_pair (length config) (node_of e) y ≡ true = subst (λ k. is_pair (length config) k y ≡ true) d pair in
          let known : (w.node (node_of e)).state.lost (name_at config y) ≡ true = subst (λ k. (w.node k).state.lost (name_at config y) ≡ true) d seen in
          subst (λ k. (link_at crossing2 k y).outbox ≡ []) (sym d)
          (acts.out (peer_place (node_of e) y) ∙ ((λ j. shows.silent (node_of e) y own known j ++ frames_to sends (peer_place (node_of e) y))
          ∙ (frames_sent sends (peer_place (node_of e) y) ∙ ap (λ ps. frames_of written_of (map packet_as ps)) (quiet y own known))))
      nothing_out x y pair (inr n) seen = ap (λ (l : Link). l.outbox) (acts.elsewhere x n (peer_place x y)) ∙ shows.silent x y pair seen

      way : (x y : ℕ) → is_pair (length config) x y ≡ true → (x ≡ node_of e) ⊎ (x ≢ node_of e) → Takes e x y ⊎ (Takes e x y → ⊥) → IsOnWay (is_lost lost y) (is_lost lost x) (packets_between v x y) (bytes_at crossing2 x y)
      way x y pair (inl d) t = subst (λ k. IsOnWay (is_lost lost y) (is_lost lost k) (packets_between v k y) (bytes_at crossing2 k y)) (sym d) (own_way y (subst (λ k. is_pair (length config) k y ≡ true) d pair))
      way x y pair (inr n) (inl t) = taken_way x y n t
      way x y pair (inr n) (inr t) = other_way x y n pair t

      crossing_now : (x y : ℕ) → is_pair (length config) x y ≡ true → (x ≡ node_of e) ⊎ (x ≢ node_of e) → Takes e x y ⊎ (Takes e x y → ⊥) → AllByRecursion CanCross (packets_between v x y)
      crossing_now x y pair (inl d) t =
          let own : is_pair (length config) (node_of e) y ≡ true = subst (λ k. is_pair (length config) k y ≡ true) d pair in
          subst (λ k. AllByRecursion CanCross (packets_between v k y)) (sym d) (subst (λ (ps : List Packet). AllByRecursion CanCross ps) (sym (own_packets y own))
          (all_append (packets_between w (node_of e) y) (map packet_as (packets_to sends (peer_place (node_of e) y))) (shows.cross (node_of e) y own) (sent_cross sends (peer_place (node_of e) y) small)))
      crossing_now x y pair (inr n) (inl t) =
          let gone = passes.taken x y t in
          (subst (λ (ps : List Packet). AllByRecursion CanCross ps) (ap (map packet_as) gone.1) (shows.cross x y pair)).1
      crossing_now x y pair (inr n) (inr t) = subst (λ (ps : List Packet). AllByRecursion CanCross ps) (ap (map packet_as) (sym (passes.others x y n t))) (shows.cross x y pair)

      damage : (x y : ℕ) → (x ≡ node_of e) ⊎ (x ≢ node_of e) → (link_at crossing2 x y).damaged ≡ (link_at crossing x y).damaged
      damage x y (inl d) = subst (λ k. (links_at crossing2 k (peer_place k y)).damaged ≡ (links_at crossing k (peer_place k y)).damaged) (sym d) (acts.sound (peer_place (node_of e) y))
      damage x y (inr n) = ap (λ (l : Link). l.damaged) (acts.elsewhere x n (peer_place x y))
