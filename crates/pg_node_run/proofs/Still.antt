-- A whole turn over rings in memory that does nothing has nothing left to do.
use Rattle.std.proofs.Common.{◌≡◌, ◌⊎◌, inl, inr, ℕ, zero, suc, ◌+◌, ◌-◌, ◌<◌, Bool, true}
use Rattle.std.proofs.Common.{false, cond, length, map, get_or, List, [], ◌∷◌, ◌++◌, Option}
use Rattle.std.proofs.Common.{Some, None, Result, Ok, Err, refl, ap, sym, ◌∙◌, subst, arith}
use Rattle.std.specs.Prelude.{slice_get, IfSome, IfErr, min, ◌^◌}
use Rattle.std.proofs.lemmas.List.{length-append, append_assoc, append-nil}
use Rattle.pg_node.specs.PgNodeOpens.Places.{name_at, whole_in}
use Rattle.pg_node.specs.PgStep.Machines.Clocked.{Timed}
use Rattle.pg_node.specs.PgMessageTypes.declared.packet.Packet.{Packet}
use Rattle.pg_node.specs.PgStep.Nodes.{Node}
use Rattle.pg_node.specs.PgStep.State.{State}
use Rattle.pg_node.specs.PgStep.Step.{TimedTurn}
use Rattle.pg_node.specs.PgStep.declared.refusal.Refusal.TheVariants.{NodeLost}
use Rattle.pg_node.specs.PgGroup.declared.table.GroupTable.{Ghosts}
use Rattle.pg_node.specs.Bytes.{next_packet}
use Rattle.pg_node.specs.Links.{Link}
use Rattle.pg_node.specs.Nodes.{held_by, has_lost, links_of, taken_of}
use Rattle.pg_node.specs.PgNodeState.declared.state.fault.NodeFault.{NodeFault}
use Rattle.pg_node.specs.PgNodeState.declared.state.fault.NodeFault.TheVariants.{Refused, Message, TooLong}
use Rattle.pg_node.specs.PgNodeState.declared.state.fault.NodeFault.TheVariants.{Damaged, OutOfMemory}
use Rattle.pg_node.specs.PgRing.MemRing.{RingBytes, Grows, Loses, HasRoomFor, HasUnread, free_room}
use Rattle.pg_node_run.specs.declared.linked.LinkedNode.{LinkedNode}
use Rattle.pg_node_run.specs.declared.run.NodeRun.{NodeRun}
use Rattle.pg_node_run.specs.Acts.{Act, log_entry}
use Rattle.pg_node_run.specs.Events.{told_of_peer, TookNext, IsFault}
use Rattle.pg_node_run.specs.Follows.{Follows, HasMoved, log_of, node_of, peers_of}
use Rattle.pg_node_run.specs.Runs.{linked_of}
use Rattle.pg_node_run.specs.Tries.{ComesTo, HasPulled, HasPut, HasTried, IsNoWant}
use Rattle.pg_node_run.specs.Still.{AllTaken, AreJoined, CountsOn, End, HasNothingToDo, IsStill, NoneLeft}

-- ---- lists

no_more : {A : Type 0} (xs ys : List A) → xs ≡ xs ++ ys → ys ≡ []
no_more xs [] e = refl
no_more xs (y ∷ ys) e = absurd (too_long (length xs) (length ys) (ap length e ∙ length-append xs (y ∷ ys)))
  where
    too_long : (n m : ℕ) → n ≡ n + suc m → ⊥
    too_long n m e = omega (arith, e)

both_none : {A : Type 0} (xs ys : List A) → xs ++ ys ≡ [] → (xs ≡ []) × (ys ≡ [])
both_none [] ys e = (refl, e)
both_none (x ∷ xs) ys e = absurd (cc e)

none_mapped : {A B : Type 0} (f : A → B) (xs : List A) → map f xs ≡ [] → xs ≡ []
none_mapped f [] e = refl
none_mapped f (x ∷ xs) e = absurd (cc e)

none_long : {A : Type 0} (xs : List A) → length xs ≡ 0 → xs ≡ []
none_long [] e = refl
none_long (x ∷ xs) e = absurd (cc e)

at_place : {A : Type 0} (xs : List A) (k : ℕ) → k < length xs → (x : A) × (slice_get xs k ≡ Some x) × (get_or xs k x ≡ x)
at_place [] k below = absurd (none_below k below)
  where
    none_below : (k : ℕ) → k < 0 → ⊥
    none_below k below = omega (arith, below)
at_place (x ∷ xs) zero below = (x, refl, refl)
at_place (x ∷ xs) (suc k) below = at_place xs k (lower k (length xs) below)
  where
    lower : (k n : ℕ) → suc k < suc n → k < n
    lower k n below = omega (arith, below)

get_at : {A : Type 0} (xs : List A) (k : ℕ) (x d : A) → slice_get xs k ≡ Some x → get_or xs k d ≡ x
get_at [] k x d e = absurd (cc e)
get_at (y ∷ xs) zero x d e = let one : y ≡ x = cc e in one
get_at (y ∷ xs) (suc k) x d e = get_at xs k x d e

-- ---- numbers

none_asked : (n : ℕ) → 0 ≡ min 4096 n → n ≡ 0
none_asked n e = omega (arith, e)

none_offered : (n room : ℕ) → 0 ≡ min (min (2 ^ 64 - 1) (suc n)) room → room ≡ 0
none_offered n room e = omega (arith, e)

-- what only grows, and is as much in the end as at first, is as much on the way
as_many : (a b c d x y z : ℕ) → b ≡ a + x → c ≡ b + y → d ≡ c + z → d ≡ a → (x ≡ 0) × (y ≡ 0)
as_many a b c d x y z e f g h = (omega (arith, e, f, g, h), omega (arith, e, f, g, h))

not_true : (b : Bool) → (b ≡ true → ⊥) → b ≡ false
not_true false never = refl
not_true true never = absurd (never refl)

same_next : (x y : Link) → x.unread ≡ y.unread → x.damaged ≡ y.damaged → next_packet x ≡ next_packet y
same_next x y unread damaged = λ i. next_packet (record { unread = unread i; outbox = []; damaged = damaged i })

-- what the step tells of the next packet of a peer, by the names, that packet, and the state
abbrev told_by : List Node → Result (Option Packet) NodeFault → Timed State → ℕ → Result (Option TimedTurn) NodeFault
told_by names next s peer = cond (s.state.lost (name_at names (peer + 1))) (Err (Refused NodeLost)) (taken_of (whole_in names) (name_at names (peer + 1)) s next)

-- ---- parts of a turn in which nothing happened

module _ {T : Type 0} {g : Ghosts T} where
  abbrev Goes : List Act → LinkedNode T RingBytes RingBytes g → LinkedNode T RingBytes RingBytes g → Type 0
  Goes acts a b = Follows Grows Loses acts a b

  record Parts (a m n b : LinkedNode T RingBytes RingBytes g) (acts : List Act) : Type 0 where
    first : Goes [] a m
    none : acts ≡ []
    rest : Goes [] n b

  parts : (a m n b : LinkedNode T RingBytes RingBytes g) (acts : List Act) → ComesTo Grows Loses a m → Goes acts m n → ComesTo Grows Loses n b → log_of b ≡ log_of a → Parts a m n b acts
  parts a m n b acts (before, f) between (after, h) same =
      let whole : log_of a ≡ log_of a ++ (map log_entry before ++ (map log_entry acts ++ map log_entry after)) =
      sym same ∙ (h.log ∙ (ap (λ xs. xs ++ map log_entry after) (between.log ∙ ap (λ xs. xs ++ map log_entry acts) f.log)
      ∙ (append_assoc (log_of a ++ map log_entry before) (map log_entry acts) (map log_entry after) ∙ append_assoc (log_of a) (map log_entry before) (map log_entry acts ++ map log_entry after)))) in
      let none = both_none (map log_entry before) (map log_entry acts ++ map log_entry after) (no_more (log_of a) _ whole) in
      let later = both_none (map log_entry acts) (map log_entry after) none.1 in
      record {
        first = subst (λ xs. Goes xs a m) (none_mapped log_entry before none.0) f;
        none = none_mapped log_entry acts later.0;
        rest = subst (λ xs. Goes xs n b) (none_mapped log_entry after later.1) h;
      }

  -- a node that nothing happened to
  module _ (peer : ℕ) (a b : LinkedNode T RingBytes RingBytes g) (f : Goes [] a b) (below : peer < length (peers_of a)) (d : End) where
    abbrev moved : HasMoved Grows Loses peer [] (links_of (node_of a) peer) (links_of (node_of b) peer) (get_or (peers_of a) peer d) (get_or (peers_of b) peer d)
    moved = f.moved.each peer d below

    unread_more : length (links_of (node_of b) peer).unread ≡ length (links_of (node_of a) peer).unread + length moved.given
    unread_more = ap length (sym moved.taken) ∙ length-append (links_of (node_of a) peer).unread moved.given

    outbox_less : length (links_of (node_of a) peer).outbox ≡ length (links_of (node_of b) peer).outbox + length moved.put
    outbox_less = turn (length moved.put) (length (links_of (node_of b) peer).outbox) (length (links_of (node_of a) peer).outbox)
        (ap length (sym (append-nil (links_of (node_of a) peer).outbox) ∙ sym (moved.sent refl)) ∙ length-append moved.put (links_of (node_of b) peer).outbox)
      where
        turn : (p o n : ℕ) → n ≡ p + o → n ≡ o + p
        turn p o n e = omega (arith, e)

  lasts_back : (peer : ℕ) (a b : LinkedNode T RingBytes RingBytes g) → Goes [] a b → peer < length (peers_of a) → (links_of (node_of b) peer).damaged ≡ false → (links_of (node_of a) peer).damaged ≡ false
  lasts_back peer a b f below sound =
      let end = at_place (peers_of a) peer below in
      not_true (links_of (node_of a) peer).damaged (λ bad. absurd (cc (sym sound ∙ (f.moved.each peer end.0 below).lasts bad)))

  same_lost : (peer : ℕ) (a b : LinkedNode T RingBytes RingBytes g) → Goes [] a b → has_lost (held_by (node_of b)) peer ≡ has_lost (held_by (node_of a)) peer
  same_lost peer a b f = λ i. (f.lead i).state.state.lost (name_at (f.names i) (peer + 1))

  below_in : (peer : ℕ) (a b : LinkedNode T RingBytes RingBytes g) → Goes [] a b → peer < length (peers_of a) → peer < length (peers_of b)
  below_in peer a b f below = subst (λ n. peer < n) (sym f.moved.len) below

-- ---- a still turn

module _ {T K : Type 0} {g : Ghosts T} (x y : NodeRun T RingBytes RingBytes K g) (still : IsStill x y) (peer : ℕ) (counts : CountsOn peer y) where
  abbrev a : LinkedNode T RingBytes RingBytes g
  a = linked_of x

  abbrev b : LinkedNode T RingBytes RingBytes g
  b = linked_of y

  all : Goes [] (linked_of x) (linked_of y)
  all = subst (λ xs. Goes xs (linked_of x) (linked_of y)) (none_mapped log_entry still.came.0 (no_more (log_of (linked_of x)) (map log_entry still.came.0) (sym still.log ∙ still.came.1.log))) still.came.1

  below : peer < length (peers_of (linked_of x))
  below = subst (λ n. peer < n) all.moved.len counts.there

  -- no byte is on the ring from the peer
  pulled : HasPulled Grows Loses HasUnread peer (linked_of x) (linked_of y) → IfSome (slice_get (peers_of (linked_of x)) peer) (λ (end : End). end.inlet.unread ≡ [])
  pulled p =
      let q = parts a p.before p.after b [] p.first p.moved p.rest still.log in
      let end = at_place (peers_of a) peer below in
      let here = below_in peer a p.before q.first below in
      let there = below_in peer p.before p.after p.moved here in
      let sound_after : (links_of (node_of p.after) peer).damaged ≡ false = lasts_back peer p.after b q.rest there counts.sound in
      let sound : (links_of (node_of p.before) peer).damaged ≡ false = lasts_back peer p.before p.after p.moved here sound_after in
      let unseen : has_lost (held_by (node_of p.before)) peer ≡ false = sym (same_lost peer p.before p.after p.moved) ∙ (sym (same_lost peer p.after b q.rest) ∙ counts.unseen) in
      let came = p.came unseen sound in
      let few = as_many (length (links_of (node_of a) peer).unread) (length (links_of (node_of p.before) peer).unread) (length (links_of (node_of p.after) peer).unread) (length (links_of (node_of b) peer).unread)
      (length (moved peer a p.before q.first below end.0).given) came.count (length (moved peer p.after b q.rest there end.0).given)
      (unread_more peer a p.before q.first below end.0) came.came (unread_more peer p.after b q.rest there end.0) (still.unread peer) in
      let middle = at_place (peers_of p.before) peer here in
      let many : came.count ≡ min 4096 (length middle.0.inlet.unread) = subst (λ o. IfSome o (λ (e : End). HasUnread e.inlet 4096 came.count)) middle.1 came.many in
      let none : middle.0.inlet.unread ≡ [] = none_long middle.0.inlet.unread (none_asked (length middle.0.inlet.unread) (sym few.1 ∙ many)) in
      let gave = (moved peer a p.before q.first below end.0).gave in
      let nothing : (moved peer a p.before q.first below end.0).given ≡ [] = none_long _ few.0 in
      let same : (get_or (peers_of a) peer end.0).inlet.unread ≡ (get_or (peers_of p.before) peer end.0).inlet.unread = gave.lost ∙ ap (λ xs. xs ++ (get_or (peers_of p.before) peer end.0).inlet.unread) nothing in
      let is : end.0.inlet.unread ≡ [] = ap (λ (e : End). e.inlet.unread) (sym end.2) ∙ (same ∙ (ap (λ (e : End). e.inlet.unread) (get_at (peers_of p.before) peer middle.0 end.0 middle.1) ∙ none)) in
      subst (λ o. IfSome o (λ (e : End). e.inlet.unread ≡ [])) (sym end.1) is

  -- no byte waits to go there, or the ring is full
  put : HasPut Grows Loses HasRoomFor peer (linked_of x) (linked_of y)
      → ((links_of (node_of (linked_of x)) peer).outbox ≡ []) ⊎ IfSome (slice_get (peers_of (linked_of x)) peer) (λ (end : End). free_room end.link ≡ 0)
  put p = go (links_of (node_of a) peer).outbox refl
    where
      after : ComesTo Grows Loses p.after (linked_of y)
      after = ([], p.rest)

      q : Parts (linked_of x) p.before p.after (linked_of y) []
      q = parts (linked_of x) p.before p.after (linked_of y) [] p.first p.moved after still.log

      end : (e : End) × (slice_get (peers_of (linked_of x)) peer ≡ Some e) × (get_or (peers_of (linked_of x)) peer e ≡ e)
      end = at_place (peers_of (linked_of x)) peer below

      here : peer < length (peers_of p.before)
      here = below_in peer (linked_of x) p.before q.first below

      there : peer < length (peers_of p.after)
      there = below_in peer p.before p.after p.moved here

      middle : (e : End) × (slice_get (peers_of p.before) peer ≡ Some e) × (get_or (peers_of p.before) peer e ≡ e)
      middle = at_place (peers_of p.before) peer here

      first : HasMoved Grows Loses peer [] (links_of (node_of (linked_of x)) peer) (links_of (node_of p.before) peer) (get_or (peers_of (linked_of x)) peer end.0) (get_or (peers_of p.before) peer end.0)
      first = q.first.moved.each peer end.0 below

      last : HasMoved Grows Loses peer [] (links_of (node_of p.after) peer) (links_of (node_of (linked_of y)) peer) (get_or (peers_of p.after) peer end.0) (get_or (peers_of (linked_of y)) peer end.0)
      last = p.rest.moved.each peer end.0 there

      turn : (n m k : ℕ) → n + k ≡ m → m ≡ n + k
      turn n m k e = sym e

      -- backwards in time the outbox only grows
      few : (length last.put ≡ 0) × (p.count ≡ 0)
      few = as_many (length (links_of (node_of (linked_of y)) peer).outbox) (length (links_of (node_of p.after) peer).outbox) (length (links_of (node_of p.before) peer).outbox) (length (links_of (node_of (linked_of x)) peer).outbox)
          (length last.put) p.count (length first.put)
          (outbox_less peer p.after (linked_of y) p.rest there end.0) (sym p.put) (outbox_less peer (linked_of x) p.before q.first below end.0) (sym (still.waiting peer))

      none_put : length first.put ≡ 0
      none_put = ends (length (links_of (node_of (linked_of y)) peer).outbox) (length (links_of (node_of p.after) peer).outbox) (length (links_of (node_of p.before) peer).outbox) (length (links_of (node_of (linked_of x)) peer).outbox)
          (length last.put) p.count (length first.put)
          (outbox_less peer p.after (linked_of y) p.rest there end.0) (sym p.put) (outbox_less peer (linked_of x) p.before q.first below end.0) (sym (still.waiting peer))
        where
          ends : (a b c d x y z : ℕ) → b ≡ a + x → c ≡ b + y → d ≡ c + z → d ≡ a → z ≡ 0
          ends a b c d x y z e f h i = omega (arith, e, f, h, i)

      waiting : (links_of (node_of p.before) peer).outbox ≡ (links_of (node_of (linked_of x)) peer).outbox
      waiting = ap (λ xs. xs ++ (links_of (node_of p.before) peer).outbox) (sym (none_long first.put none_put)) ∙ (first.sent refl ∙ append-nil (links_of (node_of (linked_of x)) peer).outbox)

      many : 0 ≡ min (min (2 ^ 64 - 1) (length (links_of (node_of (linked_of x)) peer).outbox)) (free_room middle.0.link)
      many = sym few.1 ∙ (subst (λ o. IfSome o (λ (e : End). HasRoomFor e.link (min (2 ^ 64 - 1) (length (links_of (node_of p.before) peer).outbox)) p.count)) middle.1 p.many
          ∙ ap (λ xs. min (min (2 ^ 64 - 1) (length xs)) (free_room middle.0.link)) waiting)

      -- the ring is as it was
      same_room : free_room end.0.link ≡ free_room middle.0.link
      same_room =
          let put_none : first.put ≡ [] = none_long first.put none_put in
          let one : (get_or (peers_of p.before) peer end.0).link.unread ≡ (get_or (peers_of (linked_of x)) peer end.0).link.unread =
          first.accepted.grown ∙ (ap (λ xs. (get_or (peers_of (linked_of x)) peer end.0).link.unread ++ xs) put_none ∙ append-nil _) in
          let two : (get_or (peers_of p.before) peer end.0).link.capacity ≡ (get_or (peers_of (linked_of x)) peer end.0).link.capacity = first.accepted.kept in
          ap (λ (e : End). free_room e.link) (sym end.2) ∙ (sym (λ i. two i - length (one i)) ∙ ap (λ (e : End). free_room e.link) (get_at (peers_of p.before) peer middle.0 end.0 middle.1))

      go : (waits : List ℕ) → (links_of (node_of (linked_of x)) peer).outbox ≡ waits → ((links_of (node_of (linked_of x)) peer).outbox ≡ []) ⊎ IfSome (slice_get (peers_of (linked_of x)) peer) (λ (e : End). free_room e.link ≡ 0)
      go [] is = inl is
      go (z ∷ zs) is =
          let full : free_room middle.0.link ≡ 0 = none_offered (length zs) (free_room middle.0.link) (many ∙ ap (λ xs. min (min (2 ^ 64 - 1) (length xs)) (free_room middle.0.link)) is) in
          inr (subst (λ o. IfSome o (λ (e : End). free_room e.link ≡ 0)) (sym end.1) (same_room ∙ full))

  -- no whole packet is left, or the step refuses the next
  module _ (t : HasTried Grows Loses peer (linked_of x) (linked_of y)) where
    taken_one : (act : Act) → Goes (act ∷ []) t.before t.after → ⊥
    taken_one act f =
        let q = parts (linked_of x) t.before t.after (linked_of y) (act ∷ []) t.first f t.rest still.log in
        absurd (cc q.none)

    module _ (f : Goes [] t.before t.after) where
      q : Parts (linked_of x) t.before t.after (linked_of y) []
      q = parts (linked_of x) t.before t.after (linked_of y) [] t.first f t.rest still.log

      end : (e : End) × (slice_get (peers_of (linked_of x)) peer ≡ Some e) × (get_or (peers_of (linked_of x)) peer e ≡ e)
      end = at_place (peers_of (linked_of x)) peer below

      here : peer < length (peers_of t.before)
      here = below_in peer (linked_of x) t.before q.first below

      there : peer < length (peers_of t.after)
      there = below_in peer t.before t.after f here

      sound : (links_of (node_of t.before) peer).damaged ≡ false
      sound = lasts_back peer t.before t.after f here (lasts_back peer t.after (linked_of y) q.rest there counts.sound)

      few : (length (moved peer (linked_of x) t.before q.first below end.0).given ≡ 0) × (length (moved peer t.before t.after f here end.0).given ≡ 0)
      few = as_many (length (links_of (node_of (linked_of x)) peer).unread) (length (links_of (node_of t.before) peer).unread) (length (links_of (node_of t.after) peer).unread) (length (links_of (node_of (linked_of y)) peer).unread)
          (length (moved peer (linked_of x) t.before q.first below end.0).given) (length (moved peer t.before t.after f here end.0).given) (length (moved peer t.after (linked_of y) q.rest there end.0).given)
          (unread_more peer (linked_of x) t.before q.first below end.0) (unread_more peer t.before t.after f here end.0) (unread_more peer t.after (linked_of y) q.rest there end.0) (still.unread peer)

      last_none : length (moved peer t.after (linked_of y) q.rest there end.0).given ≡ 0
      last_none = ends (length (links_of (node_of (linked_of x)) peer).unread) (length (links_of (node_of t.before) peer).unread) (length (links_of (node_of t.after) peer).unread) (length (links_of (node_of (linked_of y)) peer).unread)
          (length (moved peer (linked_of x) t.before q.first below end.0).given) (length (moved peer t.before t.after f here end.0).given) (length (moved peer t.after (linked_of y) q.rest there end.0).given)
          (unread_more peer (linked_of x) t.before q.first below end.0) (unread_more peer t.before t.after f here end.0) (unread_more peer t.after (linked_of y) q.rest there end.0) (still.unread peer)
        where
          ends : (a b c d x y z : ℕ) → b ≡ a + x → c ≡ b + y → d ≡ c + z → d ≡ a → z ≡ 0
          ends a b c d x y z e f h i = omega (arith, e, f, h, i)

      same_unread : (m n : LinkedNode T RingBytes RingBytes g) (h : Goes [] m n) (low : peer < length (peers_of m)) → length (moved peer m n h low end.0).given ≡ 0 → (links_of (node_of n) peer).unread ≡ (links_of (node_of m) peer).unread
      same_unread m n h low none = sym (moved peer m n h low end.0).taken ∙ (ap (λ xs. (links_of (node_of m) peer).unread ++ xs) (none_long (moved peer m n h low end.0).given none) ∙ append-nil (links_of (node_of m) peer).unread)

      unread_is : (links_of (node_of (linked_of y)) peer).unread ≡ (links_of (node_of t.before) peer).unread
      unread_is = same_unread t.after (linked_of y) q.rest there last_none ∙ same_unread t.before t.after f here few.1

      next_is : next_packet (links_of (node_of (linked_of y)) peer) ≡ next_packet (links_of (node_of t.before) peer)
      next_is = same_next (links_of (node_of (linked_of y)) peer) (links_of (node_of t.before) peer) unread_is (counts.sound ∙ sym sound)

      same_told : (m n : LinkedNode T RingBytes RingBytes g) → Goes [] m n → next_packet (links_of (node_of n) peer) ≡ next_packet (links_of (node_of m) peer) → told_of_peer (node_of n) peer ≡ told_of_peer (node_of m) peer
      same_told m n h next = λ i. told_by (h.names i) (next i) (h.lead i).state peer

      told_is : told_of_peer (node_of (linked_of y)) peer ≡ told_of_peer (node_of t.before) peer
      told_is = same_told t.after (linked_of y) q.rest (same_next (links_of (node_of (linked_of y)) peer) (links_of (node_of t.after) peer) (same_unread t.after (linked_of y) q.rest there last_none) (counts.sound ∙ sym (lasts_back peer t.after (linked_of y) q.rest there counts.sound)))
          ∙ same_told t.before t.after f (same_next (links_of (node_of t.after) peer) (links_of (node_of t.before) peer) (same_unread t.before t.after f here few.1) (lasts_back peer t.after (linked_of y) q.rest there counts.sound ∙ sym sound))

      refused : (fault : NodeFault) → IsFault (told_of_peer (node_of t.before) peer) fault → IsNoWant fault → NoneLeft peer y
      refused OutOfMemory told want = absurd want
      refused (Refused r) told want = inr (Refused r, told_is ∙ told)
      refused (Message m) told want = inr (Message m, told_is ∙ told)
      refused TooLong told want = inr (TooLong, told_is ∙ told)
      refused Damaged told want = inr (Damaged, told_is ∙ told)

    tried_as : (taken : Result Bool NodeFault) → TookNext Grows Loses peer taken t.before t.after → (taken ≡ Ok false → next_packet (links_of (node_of t.before) peer) ≡ Ok None)
        → IfErr taken (IsFault (told_of_peer (node_of t.before) peer)) → IfErr taken IsNoWant → NoneLeft peer y
    tried_as (Ok true) took none fault want = absurd (taken_one took.act took.follows)
    tried_as (Ok false) took none fault want = inl (next_is took ∙ none refl)
    tried_as (Err e) took none fault want = refused took e fault want

    tried : NoneLeft peer y
    tried = tried_as t.taken t.took t.none t.fault t.no_want

  pub nothing_to_do : HasNothingToDo peer x y
  nothing_to_do = record { none_comes = pulled (still.done.pulled peer below); none_waits = put (still.done.put peer below); none_left = tried (still.done.took peer below) }

-- ---- two nodes of a round

module _ {T K : Type 0} {g : Ghosts T} (from from2 to to2 : NodeRun T RingBytes RingBytes K g) (peer other : ℕ) (sends : IsStill from from2) (takes : IsStill to to2) (there : CountsOn peer from2) (here : CountsOn other to2)
    (joined : AreJoined peer other from to) where
  no_byte : joined.into.inlet.unread ≡ []
  no_byte = subst (λ o. IfSome o (λ (e : End). e.inlet.unread ≡ [])) joined.takes (nothing_to_do to to2 takes other here).none_comes

  room : (n k : ℕ) → 0 < n → k ≡ 0 → n - k ≡ 0 → ⊥
  room n k some e f = absurd (omega (arith, some, e, f))

  pub all_taken : AllTaken peer other from from2 to to2
  all_taken = record {
    none_waits = go (nothing_to_do from from2 sends peer there).none_waits;
    none_comes = (nothing_to_do to to2 takes other here).none_comes;
    none_left = (nothing_to_do to to2 takes other here).none_left;
  }
    where
      go : ((links_of (node_of (linked_of from)) peer).outbox ≡ []) ⊎ IfSome (slice_get (peers_of (linked_of from)) peer) (λ (e : End). free_room e.link ≡ 0) → (links_of (node_of (linked_of from)) peer).outbox ≡ []
      go (inl none) = none
      go (inr full) =
          let is : free_room joined.out.link ≡ 0 = subst (λ o. IfSome o (λ (e : End). free_room e.link ≡ 0)) joined.sends full in
          let empty : length joined.out.link.unread ≡ 0 = ap (λ (r : RingBytes). length r.unread) joined.one ∙ ap length no_byte in
          absurd (room joined.out.link.capacity (length joined.out.link.unread) joined.room empty is)
