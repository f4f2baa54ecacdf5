-- Takes alone come to an end, and where no clock is full they end where no packet is on the way.
use Rattle.std.proofs.Common.{◌≡◌, ◌≢◌, ◌⊎◌, inl, inr, ℕ, ◌+◌, ◌<◌, ◌≤◌, zero, suc, Bool, true, false, cond}
use Rattle.std.proofs.Common.{nat_eq, length, List, [], ◌∷◌, ◌++◌, Some, refl, ap, sym, ◌∙◌, subst, arith}
use Rattle.std.specs.List.{IsDistinct}
use Rattle.std.proofs.lemmas.Bool.{cases_eq}
use Rattle.std.proofs.lemmas.Bool.Decides.{Decides-ltb}
use Rattle.pg_term.specs.Same.{same_atom}
use Rattle.pg_step.specs.PgMessageTypes.declared.message.Message.{Message}
use Rattle.pg_step.specs.PgMessageTypes.declared.message.Message.TheVariants.{Call, Reply, DelLock, Exchange, Down}
use Rattle.pg_step.specs.Machines.Clocked.{Stamped, packets_of, plain}
use Rattle.pg_step.specs.Machines.Happened.{Happened, Changes}
use Rattle.pg_step.specs.Machines.Machine.{Event, Take, Do, happens, start_of}
use Rattle.pg_step.specs.Machines.Places.{is_pair}
use Rattle.pg_step.specs.Machines.Runs.{Leads}
use Rattle.pg_step.specs.Machines.Timely.{IsTimely}
use Rattle.pg_step.specs.Nodes.{Nodes, to_one}
use Rattle.pg_step.specs.Turns.{NodeTurn}
use Rattle.pg_step.specs.Step.{CLOCK_LIMIT, Action}
use Rattle.pg_step.specs.Config.{Config, names_of, name_at, nodes_at}
use Rattle.pg_step.specs.FrameMachine.{frame_machine, machine_of, FrameWorld}
use Rattle.pg_step.proofs.Once.{clash}
use Rattle.pg_step.proofs.Machines.Plain.{plain_event, plain_leads}
use Rattle.pg_step.proofs.Machines.Sequences.{whole}
use Rattle.pg_step.proofs.Machines.Steps.{changes, happened, pair_apart}
use Rattle.pg_step.proofs.Machines.Timing.{timely_run, timely_start}
use Rattle.pg_laws.specs.Quiet.{HasClockRoom, IsQuiet, OnlyTakes, most_takes}
use Rattle.pg_laws.specs.Reached.{TimedFrameWorld, Reaches}
use Rattle.pg_laws.proofs.ends.Apart.{pair_first, pair_second, pair_swapped}
use Rattle.pg_laws.proofs.places.Clauses.{harmless}
use Rattle.pg_laws.proofs.places.Located.{same_names}
use Rattle.pg_laws.proofs.places.Shown.{IsHere}
use Rattle.pg_laws.proofs.quiet.Rest.{IsAtRest}
use Rattle.pg_laws.proofs.quiet.Bounds.{few_takes}
use Rattle.pg_laws.proofs.quiet.Room.{room_left, takes_next}
use Rattle.pg_laws.proofs.quiet.Sums.{find_place, total, total_add, total_change}
use Rattle.pg_laws.proofs.quiet.Sums.{total_changes, total_one, total_same, total_term}
use Rattle.pg_laws.proofs.quiet.Taken.{first, sent_is, state_is, turn}
use Rattle.pg_laws.proofs.quiet.Weights.{Lessens, Made, ToOne, node_weight, packet_lessens}
use Rattle.pg_laws.proofs.quiet.Weights.{packet_weight, sent_weight, weigh, weigh_append}
use Rattle.pg_laws.proofs.references.FittingRuns.{fitting_timed}
use Rattle.pg_laws.proofs.steps.Lossless.{NobodyLost, event_nobody, nobody_timed}

pub least_one : (x : Message) → 1 ≤ packet_weight x
least_one (Call r request) = omega arith
least_one (Reply r said) = omega arith
least_one (DelLock name r) = omega arith
least_one (Exchange node groups) = omega arith
least_one (Down pid) = omega arith

one_way : (b : Bool) (x : Message) → weigh (cond b (x ∷ []) []) ≡ cond b (packet_weight x) 0
one_way true x = let one : weigh (x ∷ []) ≡ packet_weight x = omega arith in one
one_way false x = refl

module _ (config : Config) (apart : IsDistinct same_atom (names_of config)) where
  abbrev n : ℕ
  n = length config

  place : (k : ℕ) → k < n → IsHere config k
  place k below = (Decides-ltb k n).1 below

  below : (k : ℕ) → IsHere config k → k < n
  below k here = (Decides-ltb k n).0 here

  -- what goes to one node goes to one place
  pub to_one_place : (m : Nodes) (p : ℕ) → IsHere config p → ToOne m n (name_at config) (name_at config p)
  to_one_place m p here x =
      let each : total n (λ y. weigh (to_one (name_at config p) x (name_at config y))) ≡ total n (λ y. cond (nat_eq p y) (packet_weight x) 0) =
      total_same n (λ y. weigh (to_one (name_at config p) x (name_at config y))) (λ y. cond (nat_eq p y) (packet_weight x) 0)
      (λ y under. one_way (same_atom (name_at config p) (name_at config y)) x ∙ ap (λ b. cond b (packet_weight x) 0) (same_names config apart p y here (place y under))) in
      subst (λ k. k ≤ packet_weight x) (sym each) (total_one n p (packet_weight x))

  -- ---- the weight of a world

  abbrev way_weights : FrameWorld → ℕ → ℕ
  way_weights v a = total n (λ b. weigh (v.wire a b))

  abbrev node_weights : FrameWorld → ℕ → ℕ
  node_weights v i = node_weight (nodes_at config i) n (name_at config) (v.node i)

  abbrev world_weight : FrameWorld → ℕ
  world_weight v = total n (node_weights v) + total n (way_weights v)

  abbrev AllMade : FrameWorld → Type 0
  AllMade v = (i : ℕ) → Made (nodes_at config i) n (name_at config) (v.node i)

  module _ (v x : FrameWorld) (i p : ℕ) (taken_so : Happened (machine_of config) v (Take i p) x) (nobody : NobodyLost v) (made : AllMade v) where
    abbrev all : Changes {C = Action} (Take i p) taken_so.turn v x
    all = changes (machine_of config) v x (Take i p) taken_so

    abbrev m : Nodes
    m = nodes_at config i

    abbrev t : NodeTurn
    t = (turn config v x i p taken_so nobody).0

    abbrev packet : Message
    packet = (first config v x i p taken_so nobody).0

    here : IsHere config i
    here = pair_first n i p taken_so.there

    there : IsHere config p
    there = pair_second n i p taken_so.there

    other : i ≢ p
    other = pair_apart n i p taken_so.there

    lessens : Lessens m n (name_at config) (v.node i) packet t
    lessens = packet_lessens m n (name_at config) (name_at config p) packet (v.node i) t (to_one_place m p there) (made i) (turn config v x i p taken_so nobody).1

    -- the ways from its node have what was sent
    own_ways : way_weights x i ≡ way_weights v i + sent_weight m n (name_at config) t
    own_ways = total_same n (λ b. weigh (x.wire i b)) (λ b. weigh (v.wire i b) + weigh (t.sends (name_at config b)))
        (λ b under. ap weigh (sent_is config v x i p taken_so nobody b (place b under)) ∙ weigh_append (v.wire i b) (t.sends (name_at config b)))
        ∙ total_add n (λ b. weigh (v.wire i b)) (λ b. weigh (t.sends (name_at config b)))

    -- those of the peer have the packet no more
    peer_ways : way_weights x p + packet_weight packet ≡ way_weights v p
    peer_ways =
        let gone : weigh (v.wire p i) ≡ packet_weight packet + weigh (x.wire p i) = ap weigh (first config v x i p taken_so nobody).1 in
        let change : way_weights x p + packet_weight packet ≡ way_weights v p + 0 = total_change n i (λ b. weigh (v.wire p b)) (λ b. weigh (x.wire p b)) 0 (packet_weight packet) (below i here) (omega (arith, gone))
        (λ b _ apart_. ap weigh (all.ways p b (λ e. other (sym e)) (λ both. apart_ (sym both.1)))) in
        omega (arith, change)

    pub weighs_less : world_weight x + 1 ≤ world_weight v
    weighs_less =
        let ways : total n (way_weights x) + packet_weight packet ≡ total n (way_weights v) + sent_weight m n (name_at config) t =
        total_changes n i p (way_weights v) (way_weights x) (sent_weight m n (name_at config) t) (packet_weight packet) other (below i here) (below p there) own_ways peer_ways
        (λ a _ ai ap_. total_same n (λ b. weigh (x.wire a b)) (λ b. weigh (v.wire a b)) (λ b _. ap weigh (all.ways a b ai (λ both. ap_ (sym both.0))))) in
        let own : node_weights x i ≡ node_weight m n (name_at config) t.state = ap (node_weight m n (name_at config)) (state_is config v x i p taken_so nobody) in
        let nodes : total n (node_weights x) + node_weights v i ≡ total n (node_weights v) + node_weight m n (name_at config) t.state =
        total_change n i (node_weights v) (node_weights x) (node_weight m n (name_at config) t.state) (node_weights v i) (below i here) (omega (arith, own))
        (λ k _ apart_. ap (node_weight (nodes_at config k) n (name_at config)) (all.states k apart_)) in
        let less : sent_weight m n (name_at config) t + node_weight m n (name_at config) t.state + 1 ≤ node_weights v i + packet_weight packet = lessens.less in
        omega (arith, ways, nodes, less)

    pub made_later : AllMade x
    made_later k = go (cases_eq k i)
      where
        go : (k ≡ i) ⊎ (k ≡ i → ⊥) → Made (nodes_at config k) n (name_at config) (x.node k)
        go (inl e) = subst (λ z. Made (nodes_at config z) n (name_at config) (x.node z)) (sym e) (subst (Made m n (name_at config)) (sym (state_is config v x i p taken_so nobody)) lessens.made)
        go (inr apart_) = subst (Made (nodes_at config k) n (name_at config)) (sym (all.states k apart_)) (made k)

  -- ---- takes

  all_taken : (es : List (Event Action)) → OnlyTakes es → (v x : FrameWorld) → Leads (machine_of config) v es x → NobodyLost v → AllMade v → length es + world_weight x ≤ world_weight v
  all_taken [] only v x l nobody made = let same : world_weight x ≡ world_weight v = ap world_weight (sym l) in omega (arith, same)
  all_taken (Take i p ∷ es) only v x l nobody made =
      let one = happened (machine_of config) v l.0 (Take i p) l.1 in
      let less : world_weight l.0 + 1 ≤ world_weight v = weighs_less v l.0 i p one nobody made in
      let rest : length es + world_weight x ≤ world_weight l.0 = all_taken es only l.0 x l.2 (event_nobody config v l.0 (Take i p) one nobody) (made_later v l.0 i p one nobody made) in
      omega (arith, less, rest)
  all_taken (Do i action ∷ es) only v x l nobody made = absurd only

  all_made : (events : List (Event Action)) (w : TimedFrameWorld) → Reaches config events w → AllMade (plain w)
  all_made events w l i c above = subst IsAtRest (sym ((fitting_timed config events w l i).fresh c above)) tt

  pub takes_end : (events : List (Event Action)) (w : TimedFrameWorld) → Reaches config events w → (takes : List (Event Action)) (v : TimedFrameWorld) → OnlyTakes takes → Leads (frame_machine config) w takes v
      → length takes ≤ most_takes config (plain w)
  takes_end events w l takes v only more =
      let all : length takes + world_weight (plain v) ≤ world_weight (plain w) =
      all_taken takes only (plain w) (plain v) (plain_leads (machine_of config) CLOCK_LIMIT takes w v more) (nobody_timed config events w l) (all_made events w l) in
      let few : world_weight (plain w) ≤ most_takes config (plain w) = few_takes config apart events w l in
      omega (arith, all, few)

  -- ---- until nothing is on the way

  pub on_time : (events : List (Event Action)) (w : TimedFrameWorld) → Reaches config events w → IsTimely CLOCK_LIMIT w
  on_time events w l = timely_run (machine_of config) CLOCK_LIMIT events (start_of (frame_machine config)) w l (timely_start (machine_of config) CLOCK_LIMIT)

  pub next_is_taken : (events : List (Event Action)) (w : TimedFrameWorld) → Reaches config events w → HasClockRoom config w 1 → (x y : ℕ) (packet : Stamped Message) (rest : List (Stamped Message)) → is_pair n x y ≡ true
      → w.wire x y ≡ packet ∷ rest → (u : TimedFrameWorld) × (happens (frame_machine config) w (Take y x) ≡ Some u)
  next_is_taken events w l room x y packet rest pair is =
      let swapped = pair_swapped n x y pair in
      takes_next config w y x packet rest (on_time events w l) swapped room is ((harmless config apart events w l).packets y x packet.packet (packets_of rest) swapped (ap packets_of is))

  record Next (w : TimedFrameWorld) : Type 0 where
    from : ℕ
    to : ℕ
    packet : Stamped Message
    rest : List (Stamped Message)
    pair : is_pair n from to ≡ true
    is : w.wire from to ≡ packet ∷ rest

  abbrev IsEmpty : TimedFrameWorld → ℕ → ℕ → Type 0
  IsEmpty w a b = is_pair n a b ≡ true → (plain w).wire a b ≡ []

  at_way : (w : TimedFrameWorld) (a b : ℕ) → Next w ⊎ IsEmpty w a b
  at_way w a b = go (is_pair n a b) refl (w.wire a b) refl
    where
      go : (two : Bool) → is_pair n a b ≡ two → (xs : List (Stamped Message)) → w.wire a b ≡ xs → Next w ⊎ IsEmpty w a b
      go false apart_ _ _ = inr (λ together. absurd (clash (sym together ∙ apart_)))
      go true pair [] none = inr (λ _. ap packets_of none)
      go true pair (x ∷ xs) is = inl (record { from = a; to = b; packet = x; rest = xs; pair = pair; is = is })

  at_node : (w : TimedFrameWorld) (a : ℕ) → Next w ⊎ ((b : ℕ) → b < n → IsEmpty w a b)
  at_node w a = go (find_place n (λ b. Next w) (IsEmpty w a) (at_way w a))
    where
      go : ((b : ℕ) × Next w) ⊎ ((b : ℕ) → b < n → IsEmpty w a b) → Next w ⊎ ((b : ℕ) → b < n → IsEmpty w a b)
      go (inl found) = inl found.1
      go (inr none) = inr none

  next_or_quiet : (w : TimedFrameWorld) → Next w ⊎ IsQuiet config (plain w)
  next_or_quiet w = go (find_place n (λ a. Next w) (λ a. (b : ℕ) → b < n → IsEmpty w a b) (at_node w))
    where
      go : ((a : ℕ) × Next w) ⊎ ((a : ℕ) → a < n → (b : ℕ) → b < n → IsEmpty w a b) → Next w ⊎ IsQuiet config (plain w)
      go (inl found) = inl found.1
      go (inr none) = inr (λ a b pair. none a (below a (pair_first n a b pair)) b (below b (pair_second n a b pair)) pair)

  -- a packet that is next weighs something
  next_weighs : (w : TimedFrameWorld) → Next w → 1 ≤ world_weight (plain w)
  next_weighs w next =
      let here : weigh ((plain w).wire next.from next.to) ≡ packet_weight next.packet.packet + weigh (packets_of next.rest) = ap (λ xs. weigh (packets_of xs)) next.is in
      let some : 1 ≤ packet_weight next.packet.packet = least_one next.packet.packet in
      let row : weigh ((plain w).wire next.from next.to) ≤ way_weights (plain w) next.from = total_term n next.to (λ b. weigh ((plain w).wire next.from b)) (below next.to (pair_second n next.from next.to next.pair)) in
      let all : way_weights (plain w) next.from ≤ total n (way_weights (plain w)) = total_term n next.from (way_weights (plain w)) (below next.from (pair_first n next.from next.to next.pair)) in
      omega (arith, here, some, row, all)

  -- takes that lead to a quiet world, in which the clocks still have so much room
  pub record Rests (w : TimedFrameWorld) (room : ℕ) : Type 0 where
    pub takes : List (Event Action)
    pub world : TimedFrameWorld
    pub only : OnlyTakes takes
    pub leads : Leads (frame_machine config) w takes world
    pub quiet : IsQuiet config (plain world)
    pub left : HasClockRoom config world room

  later : (events : List (Event Action)) (w u : TimedFrameWorld) (i p : ℕ) → Reaches config events w → happens (frame_machine config) w (Take i p) ≡ Some u → Reaches config (events ++ Take i p ∷ []) u
  later events w u i p l is = whole (frame_machine config) events (Take i p ∷ []) (start_of (frame_machine config)) w u l (u, is, refl)

  lighter : (events : List (Event Action)) (w u : TimedFrameWorld) (i p : ℕ) → Reaches config events w → happens (frame_machine config) w (Take i p) ≡ Some u → world_weight (plain u) + 1 ≤ world_weight (plain w)
  lighter events w u i p l is =
      weighs_less (plain w) (plain u) i p (happened (machine_of config) (plain w) (plain u) (Take i p) (plain_event (machine_of config) CLOCK_LIMIT w u (Take i p) is)) (nobody_timed config events w l) (all_made events w l)

  -- one packet is taken, and what follows it
  rests_behind : (events : List (Event Action)) (w : TimedFrameWorld) → Reaches config events w → (k room : ℕ) → HasClockRoom config w (suc k + room) → (next : Next w)
      → ((u : TimedFrameWorld) → happens (frame_machine config) w (Take next.to next.from) ≡ Some u → HasClockRoom config u (k + room) → Rests u room) → Rests w room
  rests_behind events w l k room free next again =
      let one = next_is_taken events w l (λ i here. let all : (w.node i).clock + (suc k + room) ≤ CLOCK_LIMIT = free i here in omega (arith, all)) next.from next.to next.packet next.rest next.pair next.is in
      let left = room_left config w one.0 (Take next.to next.from) (happened (frame_machine config) w one.0 (Take next.to next.from) one.1) (k + room) (on_time events w l)
      (λ i here. let all : (w.node i).clock + (suc k + room) ≤ CLOCK_LIMIT = free i here in omega (arith, all)) in
      let rest = again one.0 one.1 left in
      record { takes = Take next.to next.from ∷ rest.takes; world = rest.world; only = rest.only; leads = (one.0, one.1, rest.leads); quiet = rest.quiet; left = rest.left }

  rests_here : (w : TimedFrameWorld) (k room : ℕ) → HasClockRoom config w (k + room) → IsQuiet config (plain w) → Rests w room
  rests_here w k room free quiet = record {
    takes = [];
    world = w;
    only = tt;
    leads = refl;
    quiet = quiet;
    left = λ i here. let all : (w.node i).clock + (k + room) ≤ CLOCK_LIMIT = free i here in omega (arith, all);
  }

  rests_within : (k room : ℕ) (events : List (Event Action)) (w : TimedFrameWorld) → Reaches config events w → world_weight (plain w) ≤ k → HasClockRoom config w (k + room) → Next w ⊎ IsQuiet config (plain w) → Rests w room
  rests_within k room events w l light free (inr quiet) = rests_here w k room free quiet
  rests_within zero room events w l light free (inl next) = let some : 1 ≤ world_weight (plain w) = next_weighs w next in absurd (omega (arith, some, light))
  rests_within (suc k) room events w l light free (inl next) = rests_behind events w l k room free next
      (λ u is left. let less : world_weight (plain u) + 1 ≤ world_weight (plain w) = lighter events w u next.to next.from l is in
      rests_within k room (events ++ Take next.to next.from ∷ []) u (later events w u next.to next.from l is) (omega (arith, less, light)) left (next_or_quiet u))

  pub comes_to_rest : (events : List (Event Action)) (w : TimedFrameWorld) → Reaches config events w → (room : ℕ) → HasClockRoom config w (most_takes config (plain w) + room) → Rests w room
  comes_to_rest events w l room free = rests_within (most_takes config (plain w)) room events w l (few_takes config apart events w l) free (next_or_quiet w)
