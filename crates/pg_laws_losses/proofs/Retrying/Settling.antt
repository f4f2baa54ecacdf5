-- Where each loss was seen, how many packets are still taken before a command comes in or one is tried again, and that a retry of
-- a ready command adds no more to them than one for each peer, where it is answered.
use Rattle.std.proofs.Common.{◌≡◌, ◌≢◌, ◌⊎◌, inl, inr, ℕ, suc, ◌+◌, ◌-◌, ◌*◌, ◌<◌, ◌≤◌, Bool, true, false, not}
use Rattle.std.proofs.Common.{◌&&◌, cond, nat_eq, nat_lt, length, map, List, [], ◌∷◌, ◌++◌, Ok, Err}
use Rattle.std.proofs.Common.{refl, ap, sym, ◌∙◌, subst, arith}
use Rattle.std.specs.List.{IsDistinct}
use Rattle.std.proofs.Math.Nat.{mul-le-mul_left, mul-suc}
use Rattle.std.proofs.lemmas.Bool.{cases_eq, eq-eqb, ne_eqb}
use Rattle.std.proofs.lemmas.Bool.Decides.{Decides-ltb}
use Rattle.pg_term.specs.Same.{same_atom}
use Rattle.pg_laws.specs.PgGroup.declared.update.Update.{Update}
use Rattle.pg_laws.specs.PgGroup.Functions.{upd}
use Rattle.pg_laws.specs.PgGroup.Value.{name_of}
use Rattle.pg_laws.specs.PgLock.Attempts.{after_round, does_wait}
use Rattle.pg_laws.specs.PgMessageTypes.declared.message.Message.{Message}
use Rattle.pg_laws.specs.PgMessageTypes.declared.message.Message.TheVariants.{DelLock}
use Rattle.pg_laws.specs.PgStep.Machines.Clocked.{packets_of}
use Rattle.pg_laws.specs.PgStep.Machines.Happened.{Changes, Happened, Takes}
use Rattle.pg_laws.specs.PgStep.Machines.Losing.{Last, LosingEvent, Noticed, Sent, Step, mapped_turn}
use Rattle.pg_laws.specs.PgStep.Machines.Machine.{Do, Event, Take, Turn, node_of}
use Rattle.pg_laws.specs.PgStep.Machines.Places.{is_pair, is_place}
use Rattle.pg_laws.proofs.PgStep.Machines.Steps.{changes, pair_apart}
use Rattle.pg_laws.specs.PgStep.declared.command.OpId.{OpId}
use Rattle.pg_laws.specs.PgStep.declared.refusal.Refusal.TheVariants.{NoSuchPlace, NotWaiting}
use Rattle.pg_laws.specs.PgStep.Attempts.{ask, finish, give_up, go_on, is_complete, locks_in, none_denied, own_reference}
use Rattle.pg_laws.specs.PgStep.Attempts.{replies_in, round_of, tried_again, waits}
use Rattle.pg_laws.specs.PgStep.Config.{Config, name_at, names_of, nodes_at, ports_at}
use Rattle.pg_laws.specs.PgStep.FrameMachine.{losing_machine_of, place_turn}
use Rattle.pg_laws.specs.PgStep.LossLaws.{LosingFrameWorld}
use Rattle.pg_laws.specs.PgStep.Nodes.{Node, Nodes, is_peer, to_peers}
use Rattle.pg_laws.specs.PgStep.State.{Stage, State, Use, live_nodes}
use Rattle.pg_laws.specs.PgStep.State.Stage.{Asking, Changing, Closed, Waiting}
use Rattle.pg_laws.specs.PgStep.State.Use.{Fresh, Locking, Owning, Spent, Updating}
use Rattle.pg_laws.specs.PgStep.Step.{Action, Retry, acted}
use Rattle.pg_laws.specs.PgStep.Turns.{NodeTurn, Report, and_then, becomes}
use Rattle.pg_laws.specs.Quiet.{peer_count}
use Rattle.pg_laws.proofs.ends.Apart.{pair_first, pair_second}
use Rattle.pg_laws.proofs.places.Shown.{IsHere}
use Rattle.pg_laws.proofs.quiet.Bounds.{node_light, own_no_peer, some_open}
use Rattle.pg_laws.proofs.quiet.Ending.{to_one_place}
use Rattle.pg_laws.proofs.quiet.Linked.{HasReference, IsLockingOf, IsUpdatingOf, Linked}
use Rattle.pg_laws.proofs.quiet.Rest.{IsAtRest, pair_of}
use Rattle.pg_laws.proofs.quiet.Sums.{but, but_other, total, total_add, total_all, total_but, total_change}
use Rattle.pg_laws.proofs.quiet.Sums.{total_changes, total_le, total_lower, total_same, total_scale}
use Rattle.pg_laws.proofs.quiet.Weights.{Lessens, Made, Pays, gives_up_pay, node_weight, packet_lessens, packet_weight}
use Rattle.pg_laws.proofs.quiet.Weights.{round_goes_pay, sent_weight, use_weight, weigh}
use Rattle.pg_laws.proofs.references.Keys.{at_upd, numbers}
use Rattle.pg_laws.proofs.steps.Single.{Makes, ok_is}
use Rattle.pg_laws_losses.specs.Quiet.{IsQuietLive, live_open}
use Rattle.pg_laws_losses.specs.Reached.{LosingReaches}
use Rattle.pg_laws_losses.proofs.Bridge.{Left, any_filter, live_same, not_true}
use Rattle.pg_laws_losses.proofs.Bridges.{Bridged, bridged}
use Rattle.pg_laws_losses.proofs.Counting.{all_count}
use Rattle.pg_laws_losses.proofs.Lossy.{Died, Lossy, Passed, Went, bare, passed}
use Rattle.pg_laws_losses.proofs.Remains.Passing.{Leaves}
use Rattle.pg_laws_losses.specs.Readiness.Ready.{LossesSeen, is_ready, is_ready_at}
use Rattle.pg_laws_losses.proofs.Readiness.Going.{no_loss, ready_waits, retry_is}
use Rattle.pg_laws_losses.proofs.Readiness.Holders.{all_linked}
use Rattle.pg_laws_losses.proofs.Readiness.Silence.{all_silent}
use Rattle.pg_laws_losses.proofs.Retrying.Answered.{take_is}
use Rattle.pg_laws_losses.proofs.Retrying.Counted.{fewer_open, fewer_opened}
use Rattle.pg_laws_losses.proofs.Retrying.Hearing.{first, known_is, own_is, own_known, own_state, own_turn, turn, turn_is}

-- ---- what is on the way

abbrev noticed_weight : Noticed Message → ℕ
noticed_weight (Sent x) = packet_weight x
noticed_weight Last = 1

abbrev weigh_noticed : List (Noticed Message) → ℕ
weigh_noticed [] = 0
weigh_noticed (x ∷ xs) = noticed_weight x + weigh_noticed xs

noticed_append : (xs ys : List (Noticed Message)) → weigh_noticed (xs ++ ys) ≡ weigh_noticed xs + weigh_noticed ys
noticed_append [] ys = omega arith
noticed_append (x ∷ xs) ys = let rest : weigh_noticed (xs ++ ys) ≡ weigh_noticed xs + weigh_noticed ys = noticed_append xs ys in omega (arith, rest)

noticed_sent : (xs : List Message) → weigh_noticed (map Sent xs) ≡ weigh xs
noticed_sent [] = refl
noticed_sent (x ∷ xs) = ap (λ k. packet_weight x + k) (noticed_sent xs)

-- what counts of a way: nothing on one to a lost node, or to the node itself
abbrev on_way : (ℕ → Bool) → ℕ → ℕ → ℕ → ℕ
on_way gone a b k = cond (nat_eq a b) 0 (cond (gone b) 0 k)

on_way_few : (gone : ℕ → Bool) (a b k : ℕ) → on_way gone a b k ≤ k
on_way_few gone a b k = go (nat_eq a b) (gone b)
  where
    go : (same away : Bool) → cond same 0 (cond away 0 k) ≤ k
    go true away = omega arith
    go false true = omega arith
    go false false = omega arith

on_way_add : (gone : ℕ → Bool) (a b j k : ℕ) → on_way gone a b (j + k) ≡ on_way gone a b j + on_way gone a b k
on_way_add gone a b j k = go (nat_eq a b) (gone b)
  where
    go : (same away : Bool) → cond same 0 (cond away 0 (j + k)) ≡ cond same 0 (cond away 0 j) + cond same 0 (cond away 0 k)
    go true away = refl
    go false true = refl
    go false false = refl

on_way_there : (gone : ℕ → Bool) (a b k : ℕ) → a ≢ b → gone b ≡ false → on_way gone a b k ≡ k
on_way_there gone a b k other alive = ap (λ c. cond c 0 (cond (gone b) 0 k)) (ne_eqb a b other) ∙ ap (λ c. cond c 0 k) alive

-- ---- a retry of a ready command

-- What it sends is paid by its references; or it is answered, and sends one packet to each peer.
data Tried (m : Nodes) (n : ℕ) (name : ℕ → Node) (s : State) (t : NodeTurn) : Type 0 where
  Paid : Pays m n name s t → Tried m n name s t
  Ended : (x : Message) → packet_weight x ≡ 1 → ((q : Node) → t.sends q ≡ to_peers m (λ _. true) x q) → Made m n name t.state
      → ((c : ℕ) → use_weight m n name (t.state.uses c) ≤ use_weight m n name (s.uses c))
      → t.state.references ≡ s.references → t.state.opened ≡ s.opened - 1 → Tried m n name s t

module _ (m : Nodes) (n : ℕ) (name : ℕ → Node) where
  ends : (k : ℕ) (op : OpId) (u : Update) (c : ℕ) (s : State) → Made m n name s → Tried m n name s (finish m k op u c s)
  ends k op u c s made = Ended (DelLock (name_of u) (own_reference m c)) refl (λ q. refl)
      (λ d above. rests d (made d above)) (λ d. light d) refl refl
    where
      between : ℕ → Use
      between = upd nat_eq s.uses c Spent

      rests : (d : ℕ) → IsAtRest (s.uses d) → IsAtRest (upd nat_eq between k Spent d)
      rests d rest = at_upd nat_eq numbers IsAtRest between k Spent d (λ _. tt)
          (λ _. at_upd nat_eq numbers IsAtRest s.uses c Spent d (λ _. tt) (λ _. rest))

      light : (d : ℕ) → use_weight m n name (upd nat_eq between k Spent d) ≤ use_weight m n name (s.uses d)
      light d = at_upd nat_eq numbers (λ x. use_weight m n name x ≤ use_weight m n name (s.uses d)) between k Spent d (λ _. omega arith)
          (λ _. at_upd nat_eq numbers (λ x. use_weight m n name x ≤ use_weight m n name (s.uses d)) s.uses c Spent d (λ _. omega arith) (λ _. omega arith))

  asking_tried : (op : OpId) (c : ℕ) (used : Use) (s : State) → Made m n name s → s.uses c ≡ used → IsLockingOf op used → is_complete m used ≡ true
      → Tried m n name s (go_on m c used s)
  asking_tried op c (Locking other u lead st) s made is asks ready =
      subst (λ b. Tried m n name s (cond b (cond (does_wait (after_round (round_of lead st) (none_denied m st))) (give_up m c other u st s)
      (and_then (ask m (λ _. true) c other u lead st s) (λ v. locks_in m c (v.uses c) v))) (becomes s)))
      (sym ready) (go (does_wait (after_round (round_of lead st) (none_denied m st))))
    where
      go : (b : Bool) → Tried m n name s (cond b (give_up m c other u st s) (and_then (ask m (λ _. true) c other u lead st s) (λ v. locks_in m c (v.uses c) v)))
      go true = Paid (gives_up_pay m n name s c other u lead st made is)
      go false = Paid (round_goes_pay m n name s c other u lead st made is)
  asking_tried op c Fresh s made is asks ready = absurd asks
  asking_tried op c Spent s made is asks ready = absurd asks
  asking_tried op c (Owning name_ k) s made is asks ready = absurd asks
  asking_tried op c (Updating other u lock replied) s made is asks ready = absurd asks

  changing_tried : (op : OpId) (k : ℕ) (used : Use) (s : State) → Made m n name s → IsUpdatingOf op used → is_complete m used ≡ true
      → Tried m n name s (replies_in m k used s)
  changing_tried op k (Updating other u lock replied) s made changes ready =
      subst (λ b. Tried m n name s (cond b (finish m k other u lock s) (becomes s))) (sym ready) (ends k other u lock s made)
  changing_tried op k Fresh s made changes ready = absurd changes
  changing_tried op k Spent s made changes ready = absurd changes
  changing_tried op k (Owning name_ c) s made changes ready = absurd changes
  changing_tried op k (Locking other u lead st) s made changes ready = absurd changes

  tried : (op : OpId) (stage : Stage) (s : State) → Made m n name s → HasReference op stage s.uses → is_ready m stage s ≡ true
      → Tried m n name s (tried_again stage m op s)
  tried op (Asking c) s made has ready = asking_tried op c (s.uses c) s made refl has ready
  tried op (Changing k) s made has ready = changing_tried op k (s.uses k) s made has ready
  tried op (Waiting u) s made has ready = absurd (cc ready)
  tried op Closed s made has ready = absurd (cc ready)

  acted_tried : (whole : Nodes) (ports : ℕ) (op : OpId) (s : State) (t : NodeTurn) → Made m n name s → Linked s → is_ready m (s.stages op) s ≡ true
      → acted whole m ports (Retry op) s ≡ Ok t → Tried m n name s t
  acted_tried whole ports op s t made linked ready is = go (nat_lt op.port ports) (waits m (s.stages op) s) is
    where
      go : (b d : Bool) → Makes (cond b (cond d (Ok (tried_again (s.stages op) m op s)) (Err NotWaiting)) (Err NoSuchPlace)) t → Tried m n name s t
      go false d e = absurd (cc)
      go true false e = absurd (cc)
      go true true e = subst (Tried m n name s) (ok_is e) (tried op (s.stages op) s made (linked.links.asked op) ready)

-- ---- the weight of a world

module _ (config : Config) (apart : IsDistinct same_atom (names_of config)) where
  abbrev n : ℕ
  n = length config

  abbrev name : ℕ → Node
  name = name_at config

  place : (k : ℕ) → k < n → IsHere config k
  place k low = (Decides-ltb k n).1 low

  below : (k : ℕ) → IsHere config k → k < n
  below k here = (Decides-ltb k n).0 here

  abbrev counting : ℕ → State → Nodes
  counting i s = live_nodes (nodes_at config i) s

  abbrev weight_at : ℕ → State → ℕ
  weight_at i s = node_weight (counting i s) n name s

  -- what is on the way to the live nodes
  abbrev way_weights : Lossy → ℕ → ℕ
  way_weights v a = total n (λ b. on_way v.gone a b (weigh_noticed (v.world.wire a b)))

  abbrev node_weights : Lossy → ℕ → ℕ
  node_weights v i = weight_at i (v.world.node i)

  abbrev pub heavy : LosingFrameWorld → ℕ
  heavy v = total n (node_weights (bare v)) + total n (way_weights (bare v))

  -- a node is none of its own peers
  own_out : (i : ℕ) → IsHere config i → (s : State) → is_peer (counting i s) (name i) ≡ false
  own_out i here s = any_filter (λ z. not (s.lost z)) (name i) (nodes_at config i).peers ∙ ap (λ b. b && not (s.lost (name i))) (own_no_peer config apart i here)

  made_all : (es : List (LosingEvent Action)) (w : LosingFrameWorld) → LosingReaches config es w → (i : ℕ)
      → Made (counting i (w.world.node i).state) n name (w.world.node i).state
  made_all es w l i c above = subst IsAtRest (sym ((all_count config es w i l).counts.fitting.fresh c above)) tt

  -- nothing is on the way: five for each peer of each open command
  pub quiet_light : (es : List (LosingEvent Action)) (w : LosingFrameWorld) → LosingReaches config es w → IsQuietLive config w
      → heavy w ≤ 5 * peer_count config * live_open config w
  quiet_light es w l quiet =
      let k = 5 * peer_count config in
      let nodes : total n (node_weights (bare w)) ≤ total n (λ i. k * (w.world.node i).state.opened) = total_le n (node_weights (bare w)) (λ i. k * (w.world.node i).state.opened)
      (λ i low. let here = place i low in node_light config apart i here (counting i (w.world.node i).state) (own_out i here (w.world.node i).state) (w.world.node i).state ((all_count config es w i l).counts)) in
      let all : total n (λ i. k * (w.world.node i).state.opened) ≡ k * live_open config w = total_scale n k (λ i. (w.world.node i).state.opened) in
      let none : total n (way_weights (bare w)) ≡ 0 * n = total_all n 0 (way_weights (bare w)) (λ a low. row a (place a low)) in
      omega (arith, nodes, all, none)
    where
      row : (a : ℕ) → IsHere config a → way_weights (bare w) a ≡ 0
      row a here =
          let sum : way_weights (bare w) a ≡ 0 * n = total_all n 0 (λ b. on_way w.gone a b (weigh_noticed ((bare w).world.wire a b)))
          (λ b low. at b (place b low) (w.gone b) refl (nat_eq a b) refl) in
          omega (arith, sum)
        where
          at : (b : ℕ) → IsHere config b → (away : Bool) → w.gone b ≡ away → (same : Bool) → nat_eq a b ≡ same
              → cond same 0 (cond away 0 (weigh_noticed ((bare w).world.wire a b))) ≡ 0
          at b there away _ true _ = refl
          at b there true _ false _ = refl
          at b there false alive false other = ap weigh_noticed (ap packets_of
              (quiet a b (pair_of config a b here there (λ e. absurd (cc (sym (eq-eqb a b e) ∙ other)))) alive))

  -- ---- an event

  -- what a turn sends
  abbrev turn_weight : Turn State (Noticed Message) Report → ℕ
  turn_weight t = total n (λ b. weigh_noticed (t.sends b))

  -- the ways from its node have what was sent, or less
  module _ (v x : LosingFrameWorld) (d : Event Action) (h : Happened (losing_machine_of config) (bare v).world d (bare x).world) (same : x.gone ≡ v.gone) where
    abbrev i : ℕ
    i = node_of d

    abbrev all : Changes d h.turn (bare v).world (bare x).world
    all = changes (losing_machine_of config) (bare v).world (bare x).world d h

    -- of what is sent, that which goes to the live nodes
    abbrev sent : ℕ
    sent = total n (λ b. on_way v.gone i b (weigh_noticed (h.turn.sends b)))

    few_sent : sent ≤ turn_weight h.turn
    few_sent = total_le n (λ b. on_way v.gone i b (weigh_noticed (h.turn.sends b))) (λ b. weigh_noticed (h.turn.sends b))
        (λ b _. on_way_few v.gone i b (weigh_noticed (h.turn.sends b)))

    own_ways : way_weights (bare x) i ≡ way_weights (bare v) i + sent
    own_ways = total_same n (λ b. on_way x.gone i b (weigh_noticed ((bare x).world.wire i b)))
        (λ b. on_way v.gone i b (weigh_noticed ((bare v).world.wire i b)) + on_way v.gone i b (weigh_noticed (h.turn.sends b)))
        (λ b _. ap (λ (f : ℕ → Bool). on_way f i b (weigh_noticed ((bare x).world.wire i b))) same
        ∙ (ap (on_way v.gone i b) (ap weigh_noticed (all.sent b) ∙ noticed_append ((bare v).world.wire i b) (h.turn.sends b))
        ∙ on_way_add v.gone i b (weigh_noticed ((bare v).world.wire i b)) (weigh_noticed (h.turn.sends b))))
        ∙ total_add n (λ b. on_way v.gone i b (weigh_noticed ((bare v).world.wire i b))) (λ b. on_way v.gone i b (weigh_noticed (h.turn.sends b)))

    same_ways : (a : ℕ) → a ≢ i → ((b : ℕ) → Takes d a b → ⊥) → way_weights (bare x) a ≡ way_weights (bare v) a
    same_ways a other untaken = total_same n (λ b. on_way x.gone a b (weigh_noticed ((bare x).world.wire a b))) (λ b. on_way v.gone a b (weigh_noticed ((bare v).world.wire a b)))
        (λ b _. ap (λ (f : ℕ → Bool). on_way f a b (weigh_noticed ((bare x).world.wire a b))) same
        ∙ ap (λ xs. on_way v.gone a b (weigh_noticed xs)) (all.ways a b other (untaken b)))

    nodes_change : IsHere config i → total n (node_weights (bare x)) + weight_at i (v.world.node i).state ≡ total n (node_weights (bare v)) + weight_at i h.turn.state
    nodes_change here =
        let own : node_weights (bare x) i ≡ weight_at i h.turn.state = ap (weight_at i) all.state in
        total_change n i (node_weights (bare v)) (node_weights (bare x)) (weight_at i h.turn.state) (weight_at i (v.world.node i).state) (below i here) (omega (arith, own))
        (λ k _ away. ap (weight_at k) (all.states k away))

  -- a turn of the step, by places
  sent_as : (t : NodeTurn) (i : ℕ) (m : Nodes) → total n (λ b. weigh_noticed (map Sent (cond (is_place n b) (t.sends (name b)) []))) ≡ sent_weight m n name t
  sent_as t i m = total_same n (λ b. weigh_noticed (map Sent (cond (is_place n b) (t.sends (name b)) []))) (λ b. weigh (t.sends (name b)))
      (λ b low. noticed_sent (cond (is_place n b) (t.sends (name b)) []) ∙ ap (λ c. weigh (cond c (t.sends (name b)) [])) (place b low))

  module _ (es : List (LosingEvent Action)) (v x : LosingFrameWorld) (l : LosingReaches config es v) where
    -- ---- a packet is taken

    module _ (seen : LossesSeen config v) (i p : ℕ) (leaves : Leaves config v (Step (Take i p)) x) where
      record Taken_ : Type 0 where
        alive : v.gone i ≡ false
        event : Happened (losing_machine_of config) (bare v).world (Take i p) (bare x).world
        same : x.gone ≡ v.gone

      by_passed : Passed config (bare v) (bare x) (Step (Take i p)) → Taken_
      by_passed (Went d is alive happened same) =
          let is_it : d ≡ Take i p = take_is is in
          record {
            alive = ap (λ z. v.gone (node_of z)) (sym is_it) ∙ alive;
            event = subst (λ z. Happened (losing_machine_of config) (bare v).world z (bare x).world) is_it happened;
            same = same;
          }
      by_passed (Died j keep is there alive cut gone) = absurd (no_loss is)

      took : Taken_
      took = by_passed (passed config v x (Step (Take i p)) leaves)

      pair : is_pair n i p ≡ true
      pair = took.event.there

      here : IsHere config i
      here = pair_first n i p pair

      there : IsHere config p
      there = pair_second n i p pair

      other : i ≢ p
      other = pair_apart n i p pair

      b : Bridged config apart (bare v)
      b = bridged config apart es v l

      packet : (packet : Noticed Message) × ((bare v).world.wire p i ≡ packet ∷ (bare x).world.wire p i)
      packet = (changes (losing_machine_of config) (bare v).world (bare x).world (Take i p) took.event).taken p i (refl, refl)

      -- its sender is left, since nothing is on the way from one whose loss was seen
      sender : v.gone p ≡ false
      sender = not_true (v.gone p) (λ gone. nothing (all_silent config apart es v l p i there here (λ e. other (sym e)) (seen i here took.alive p there gone)))
        where
          nothing : (bare v).world.wire p i ≡ [] → ⊥
          nothing none = absurd (cc (sym none ∙ packet.1))

      unseen : (v.world.node i).state.lost (name p) ≡ false
      unseen = not_true ((v.world.node i).state.lost (name p))
          (λ saw. absurd (cc (sym (all_silent config apart es v l p i there here (λ e. other (sym e)) saw) ∙ packet.1)))

      way : (bare v).world.wire p i ≡ map Sent (b.has.ways p i)
      way = subst (λ z. Left z ((bare v).world.wire p i) (b.has.ways p i)) sender (b.has.cut p i there here (λ e. other (sym e)) unseen)

      abbrev s : State
      s = (v.world.node i).state

      abbrev m : Nodes
      m = counting i s

      abbrev ys : List Message
      ys = b.has.ways p i

      lessens : Lessens m n name s (first config (bare v).world (bare x).world i p took.event ys way).0 (turn config (bare v).world (bare x).world i p took.event ys way).0
      lessens = packet_lessens m n name (name p) (first config (bare v).world (bare x).world i p took.event ys way).0 s
          (turn config (bare v).world (bare x).world i p took.event ys way).0 (to_one_place config apart m p there) (made_all es v l i)
          (turn config (bare v).world (bare x).world i p took.event ys way).1

      pub takes_less : heavy x + 1 ≤ heavy v
      takes_less =
          let T : NodeTurn = (turn config (bare v).world (bare x).world i p took.event ys way).0 in
          let y : Message = (first config (bare v).world (bare x).world i p took.event ys way).0 in
          let is : took.event.turn ≡ mapped_turn Sent (place_turn config T) = turn_is config (bare v).world (bare x).world i p took.event ys way in
          let state : weight_at i took.event.turn.state ≡ node_weight m n name T.state =
          ap (λ (z : Turn State (Noticed Message) Report). weight_at i z.state) is
          ∙ ap (λ z. node_weight z n name T.state) (sym (live_same (nodes_at config i) s T.state (known_is config (bare v).world (bare x).world i p took.event ys way))) in
          let sends : turn_weight took.event.turn ≡ sent_weight m n name T =
          ap turn_weight is ∙ sent_as T i m in
          let less : sent_weight m n name T + node_weight m n name T.state + 1 ≤ node_weight m n name s + packet_weight y = lessens.less in
          let few = few_sent v x (Take i p) took.event took.same in
          let gone : weigh_noticed ((bare v).world.wire p i) ≡ packet_weight y + weigh_noticed ((bare x).world.wire p i) =
          ap weigh_noticed (way ∙ ap (map Sent) (first config (bare v).world (bare x).world i p took.event ys way).2)
          ∙ ap (λ z. packet_weight y + weigh_noticed z) (sym (first config (bare v).world (bare x).world i p took.event ys way).4) in
          let change : way_weights (bare x) p + packet_weight y ≡ way_weights (bare v) p + 0 =
          total_change n i (λ c. on_way v.gone p c (weigh_noticed ((bare v).world.wire p c))) (λ c. on_way x.gone p c (weigh_noticed ((bare x).world.wire p c))) 0 (packet_weight y) (below i here)
          (counted (packet_weight y) gone)
          (λ c _ away. ap (λ (f : ℕ → Bool). on_way f p c (weigh_noticed ((bare x).world.wire p c))) took.same
          ∙ ap (λ xs. on_way v.gone p c (weigh_noticed xs)) (all_changes.ways p c (λ e. other (sym e)) (λ both. away (sym both.1)))) in
          let ways : total n (way_weights (bare x)) + packet_weight y ≡ total n (way_weights (bare v)) + sent v x (Take i p) took.event took.same =
          total_changes n i p (way_weights (bare v)) (way_weights (bare x)) (sent v x (Take i p) took.event took.same) (packet_weight y) other (below i here) (below p there)
          (own_ways v x (Take i p) took.event took.same) (omega (arith, change))
          (λ a _ ai away. same_ways v x (Take i p) took.event took.same a ai (λ c both. away (sym both.0))) in
          let nodes : total n (node_weights (bare x)) + weight_at i s ≡ total n (node_weights (bare v)) + weight_at i took.event.turn.state =
          nodes_change v x (Take i p) took.event took.same here in
          omega (arith, state, sends, less, few, ways, nodes)
        where
          all_changes : Changes {C = Action} (Take i p) took.event.turn (bare v).world (bare x).world
          all_changes = changes (losing_machine_of config) (bare v).world (bare x).world (Take i p) took.event

          counted : (k : ℕ) → weigh_noticed ((bare v).world.wire p i) ≡ k + weigh_noticed ((bare x).world.wire p i)
              → on_way x.gone p i (weigh_noticed ((bare x).world.wire p i)) + k ≡ on_way v.gone p i (weigh_noticed ((bare v).world.wire p i)) + 0
          counted k gone =
              let was : on_way v.gone p i (weigh_noticed ((bare v).world.wire p i)) ≡ weigh_noticed ((bare v).world.wire p i) =
              on_way_there v.gone p i (weigh_noticed ((bare v).world.wire p i)) (λ e. other (sym e)) took.alive in
              let is : on_way x.gone p i (weigh_noticed ((bare x).world.wire p i)) ≡ weigh_noticed ((bare x).world.wire p i) =
              on_way_there x.gone p i (weigh_noticed ((bare x).world.wire p i)) (λ e. other (sym e)) (ap (λ (f : ℕ → Bool). f i) took.same ∙ took.alive) in
              omega (arith, gone, was, is)

    -- ---- a ready command is tried again

    module _ (i : ℕ) (op : OpId) (here : IsHere config i) (ready : is_ready_at config v i op ≡ true) (leaves : Leaves config v (Step (Do i (Retry op))) x) where
      abbrev state : State
      state = (v.world.node i).state

      abbrev seat : Nodes
      seat = counting i (v.world.node i).state

      abbrev P : ℕ
      P = peer_count config

      happened_by : Passed config (bare v) (bare x) (Step (Do i (Retry op)))
          → Happened (losing_machine_of config) (bare v).world (Do i (Retry op)) (bare x).world × (x.gone ≡ v.gone)
      happened_by (Went d is alive h same) = (subst (λ z. Happened (losing_machine_of config) (bare v).world z (bare x).world) (retry_is is) h, same)
      happened_by (Died j keep is here_ alive cut gone) = absurd (no_loss is)

      did : Happened (losing_machine_of config) (bare v).world (Do i (Retry op)) (bare x).world × (x.gone ≡ v.gone)
      did = happened_by (passed config v x (Step (Do i (Retry op))) leaves)

      abbrev own : (t : NodeTurn) × (acted (nodes_at config i) seat (ports_at config i) (Retry op) state ≡ Ok t)
      own = (
        (own_turn config (bare v).world (bare x).world i (Retry op) did.0).0,
        (own_turn config (bare v).world (bare x).world i (Retry op) did.0).1,
      )

      -- one packet to each peer
      one_each : (packet : Message) → packet_weight packet ≡ 1 → total n (λ y. weigh (to_peers seat (λ _. true) packet (name y))) ≤ P
      one_each packet one =
          let low : i < n = below i here in
          let all : total n (but i (λ p. 1)) + 1 ≡ 1 * n = total_but n i 1 low in
          let few : total n (λ y. weigh (to_peers seat (λ _. true) packet (name y))) ≤ total n (but i (λ p. 1)) =
          total_le n (λ y. weigh (to_peers seat (λ _. true) packet (name y))) (but i (λ p. 1)) (λ y _. at y (cases_eq i y)) in
          omega (arith, low, all, few)
        where
          within : (b : Bool) → weigh (cond (b && true) (packet ∷ []) []) ≤ 1
          within true = omega (arith, one)
          within false = omega arith

          at : (y : ℕ) → (i ≡ y) ⊎ (i ≡ y → ⊥) → weigh (to_peers seat (λ _. true) packet (name y)) ≤ but i (λ p. 1) y
          at y (inl e) =
              let none : weigh (to_peers seat (λ _. true) packet (name i)) ≡ 0 = ap (λ b. weigh (cond (b && true) (packet ∷ []) [])) (own_out i here state) in
              subst (λ z. weigh (to_peers seat (λ _. true) packet (name z)) ≤ but i (λ p. 1) z) e (omega (arith, none))
          at y (inr away) =
              let one_is : but i (λ p. 1) y ≡ 1 = but_other i (λ p. 1) y away in
              let few = within (is_peer seat (name y)) in
              omega (arith, one_is, few)

      abbrev T : NodeTurn
      T = own.0

      is : did.0.turn ≡ mapped_turn Sent (place_turn config own.0)
      is = own_is config (bare v).world (bare x).world i (Retry op) did.0

      state_weight : weight_at i did.0.turn.state ≡ node_weight seat n name own.0.state
      state_weight = ap (λ (z : Turn State (Noticed Message) Report). weight_at i z.state) is
          ∙ ap (λ z. node_weight z n name own.0.state) (sym (live_same (nodes_at config i) state own.0.state (own_known config (bare v).world (bare x).world i (Retry op) did.0)))

      sends_weight : turn_weight did.0.turn ≡ sent_weight seat n name own.0
      sends_weight = ap turn_weight is ∙ sent_as own.0 i seat

      -- a retry that sends no more than so much
      world_change : (extra : ℕ) → sent_weight seat n name own.0 + node_weight seat n name own.0.state ≤ node_weight seat n name state + extra
          → heavy x ≤ heavy v + extra
      world_change extra less =
          let few = few_sent v x (Do i (Retry op)) did.0 did.1 in
          let own_way : way_weights (bare x) i ≡ way_weights (bare v) i + sent v x (Do i (Retry op)) did.0 did.1 = own_ways v x (Do i (Retry op)) did.0 did.1 in
          let ways : total n (way_weights (bare x)) + 0 ≡ total n (way_weights (bare v)) + sent v x (Do i (Retry op)) did.0 did.1 =
          total_change n i (way_weights (bare v)) (way_weights (bare x)) (sent v x (Do i (Retry op)) did.0 did.1) 0 (below i here) (omega (arith, own_way))
          (λ a _ away. same_ways v x (Do i (Retry op)) did.0 did.1 a away (λ c never. never)) in
          let nodes : total n (node_weights (bare x)) + weight_at i state ≡ total n (node_weights (bare v)) + weight_at i did.0.turn.state =
          nodes_change v x (Do i (Retry op)) did.0 did.1 here in
          omega (arith, state_weight, sends_weight, less, few, ways, nodes)

      done : Tried seat n name state own.0
      done = acted_tried seat n name (nodes_at config i) (ports_at config i) op state own.0 (made_all es v l i) (all_linked config es v l i) ready own.1

      fewer : live_open config x ≤ live_open config v
      fewer = fewer_open config es v x l (Do i (Retry op) ∷ []) tt (x, leaves, refl)

      opened_there : 1 ≤ state.opened
      opened_there = some_open (ports_at config i) state ((all_count config es v i l).counts) op ((ready_waits seat (state.stages op) state ready).1)

      pub retry_less : heavy x + P * live_open config x ≤ heavy v + P * live_open config v
      retry_less = go done
        where
          go : Tried seat n name state own.0 → heavy x + P * live_open config x ≤ heavy v + P * live_open config v
          go (Paid pays) =
              let paid : sent_weight seat n name own.0 + node_weight seat n name own.0.state ≤ node_weight seat n name state = pays.pays in
              let light : heavy x ≤ heavy v + 0 = world_change 0 (omega (arith, paid)) in
              let few : P * live_open config x ≤ P * live_open config v = mul-le-mul_left P fewer in
              omega (arith, light, few)
          go (Ended packet one sends made light references opened) =
              let sent_is_ : sent_weight seat n name own.0 ≡ total n (λ y. weigh (to_peers seat (λ _. true) packet (name y))) =
              total_same n (λ y. weigh (own.0.sends (name y))) (λ y. weigh (to_peers seat (λ _. true) packet (name y))) (λ y _. ap weigh (sends (name y))) in
              let few_sends = one_each packet one in
              let lighter : node_weight seat n name own.0.state ≤ node_weight seat n name state =
              subst (λ r. total (r + 1) (λ c. use_weight seat n name (own.0.state.uses c)) ≤ node_weight seat n name state) (sym references)
              (total_le (state.references + 1) (λ c. use_weight seat n name (own.0.state.uses c)) (λ c. use_weight seat n name (state.uses c)) (λ c _. light c)) in
              let change : heavy x ≤ heavy v + P = world_change P (omega (arith, sent_is_, few_sends, lighter)) in
              let now : (x.world.node i).state.opened ≡ state.opened - 1 = ap (λ (z : State). z.opened) (own_state config (bare v).world (bare x).world i (Retry op) did.0) ∙ opened in
              let one_less : live_open config x < live_open config v = total_lower n i (λ j. (x.world.node j).state.opened) (λ j. (v.world.node j).state.opened) (below i here)
              (omega (arith, now, opened_there))
              (λ j _. fewer_opened config es v x l (Do i (Retry op) ∷ []) tt (x, leaves, refl) j) in
              let scaled : P * suc (live_open config x) ≤ P * live_open config v = mul-le-mul_left P (omega (arith, one_less)) in
              let more : P * suc (live_open config x) ≡ P * live_open config x + P = mul-suc P (live_open config x) in
              omega (arith, change, scaled, more)
