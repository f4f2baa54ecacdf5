-- Each world of a run with losses shows a world by names of which all is held that the locks give. There nothing is cut from
-- the ways: a node that is lost is one that does nothing more, until its loss is seen.
use Rattle.std.proofs.Common.{◌≡◌, ◌≢◌, ◌⊎◌, inl, inr, ℕ, Bool, true, false, not, ◌&&◌, ◌||◌, cond, length}
use Rattle.std.proofs.Common.{map, take, drop, List, [], ◌∷◌, ◌++◌, Some, None, Ok, refl, ap, sym, ◌∙◌, subst}
use Rattle.std.specs.List.{IsDistinct, filter, list_any}
use Rattle.std.proofs.Math.Path.{fun_ext}
use Rattle.std.proofs.lemmas.Bool.{cases_eq, eqb-true}
use Rattle.std.proofs.lemmas.List.{append-nil, map-append, take-append-drop, take-map}
use Rattle.pg_term.specs.Same.{same_atom}
use Rattle.pg_laws.specs.PgGroup.Functions.{upd}
use Rattle.pg_laws.specs.PgMessageTypes.declared.message.Message.{Message}
use Rattle.pg_laws.specs.PgStep.Machines.Losing.{Noticed, Sent, Last, mapped_turn}
use Rattle.pg_laws.specs.PgStep.Machines.Machine.{Turn, Taken, Own, perform as perform_at}
use Rattle.pg_laws.specs.PgStep.Machines.Places.{is_pair, set_at, set_way}
use Rattle.pg_laws.proofs.PgStep.Machines.Options.{map_is_some}
use Rattle.pg_laws.proofs.PgStep.Machines.Places.{by_place, set_at_here, set_at_other, set_way_here, set_way_other}
use Rattle.pg_laws.proofs.PgStep.Machines.Steps.{pair_apart}
use Rattle.pg_laws.specs.PgStep.Config.{Config, names_of, name_at, nodes_at, ports_at}
use Rattle.pg_laws.specs.PgStep.FrameMachine.{FrameWorld, losing_machine_of, node_step, place_turn}
use Rattle.pg_laws.specs.PgStep.Losses.{see_loss}
use Rattle.pg_laws.specs.PgStep.Nodes.{Node, Nodes}
use Rattle.pg_laws.specs.PgStep.State.{State, live_nodes}
use Rattle.pg_laws.specs.PgStep.Step.{Action, acted, taken}
use Rattle.pg_laws.specs.PgStep.Turns.{NodeTurn, Report}
use Rattle.pg_laws.proofs.ends.Apart.{pair_first, pair_second, place_below}
use Rattle.pg_laws.proofs.locks.Chains.{upd_old, world_path}
use Rattle.pg_laws.proofs.locks.Kept.{Inv, live, near}
use Rattle.pg_laws.proofs.locks.Moved.{acts_even, acts_keep, takes_even, takes_keep}
use Rattle.pg_laws.proofs.locks.Named.{World, perform, popped}
use Rattle.pg_laws.proofs.locks.Seats.{Sits}
use Rattle.pg_laws.proofs.places.Located.{is_named, left_out, same_names}
use Rattle.pg_laws.proofs.places.Shown.{IsHere, ShowsAs, shows_performed, shows_popped}
use Rattle.pg_laws.proofs.references.Keys.{atoms, at_read, read_at, read_other, split}
use Rattle.pg_laws.proofs.steps.Lossless.{step_sees_none}
use Rattle.pg_laws.proofs.steps.Made.{did_so, took_so}
use Rattle.pg_laws_losses.proofs.Lasts.{unheard_input}
use Rattle.pg_laws_losses.proofs.Lossy.{Lossy}
use Rattle.pg_laws_losses.proofs.Parting.{parted, parted_keeps}

-- ---- what is on a way, of what was sent on it and not taken

abbrev pub Left : Bool → List (Noticed Message) → List Message → Type 0
Left false way all = way ≡ map Sent all
Left true way all = (front : List Message) × (rest : List Message) × (way ≡ map Sent front ++ Last ∷ []) × (all ≡ front ++ rest)

-- a packet is taken
pub next_left : (b : Bool) (x : Message) (rest : List (Noticed Message)) (all : List Message) → Left b (Sent x ∷ rest) all → (more : List Message) × (all ≡ x ∷ more) × Left b rest more
next_left false x rest [] e = absurd (cc)
next_left false x rest (y ∷ ys) e =
    let same : x ≡ y = cc in
    let others : rest ≡ map Sent ys = cc in
    (ys, ap (λ z. z ∷ ys) (sym same), others)
next_left true x rest all ([], back, e, f) = let no : ◌≡◌ {A = List (Noticed Message)} (Sent x ∷ rest) (Last ∷ []) = e in absurd (cc)
next_left true x rest all (y ∷ ys, back, e, f) =
    let same : x ≡ y = cc e in
    let others : rest ≡ map Sent ys ++ Last ∷ [] = cc e in
    (ys ++ back, f ∙ ap (λ z. z ∷ (ys ++ back)) (sym same), (ys, back, others, refl))

-- only a lost node has sent its last notice
last_left : (b : Bool) (rest : List (Noticed Message)) (all : List Message) → Left b (Last ∷ rest) all → b ≡ true
last_left true rest all e = refl
last_left false rest [] e = absurd (cc)
last_left false rest (y ∷ ys) e = absurd (cc)

-- more is sent
more_left : (way : List (Noticed Message)) (all more : List Message) → Left false way all → Left false (way ++ map Sent more) (all ++ more)
more_left way all more e = ap (λ z. z ++ map Sent more) e ∙ sym (map-append Sent all more)

-- the node is lost
pub cut_left : (k : ℕ) (way : List (Noticed Message)) (all : List Message) → Left false way all → Left true (take k way ++ Last ∷ []) all
cut_left k way all e = (take k all, drop k all, ap (λ z. z ++ Last ∷ []) (ap (take k) e ∙ take-map Sent k all), sym (take-append-drop k all))

pub live_same : (m : Nodes) (s t : State) → t.lost ≡ s.lost → live_nodes m s ≡ live_nodes m t
live_same m s t same = ap (λ (lost : Node → Bool). record { own = m.own; peers = filter (λ q. not (lost q)) m.peers }) (sym same)

pub any_filter : (f : Node → Bool) (q : Node) (xs : List Node) → list_any (same_atom q) (filter f xs) ≡ (list_any (same_atom q) xs && f q)
any_filter f q [] = refl
any_filter f q (x ∷ xs) = go (f x) refl (same_atom q x) refl (any_filter f q xs)
  where
    go : (b : Bool) → f x ≡ b → (d : Bool) → same_atom q x ≡ d → list_any (same_atom q) (filter f xs) ≡ (list_any (same_atom q) xs && f q)
        → list_any (same_atom q) (cond b (x ∷ filter f xs) (filter f xs)) ≡ ((d || list_any (same_atom q) xs) && f q)
    go true e true is rest = ap (λ b. b || list_any (same_atom q) (filter f xs)) is ∙ sym (ap f (atoms.is q x is) ∙ e)
    go true e false is rest = ap (λ b. b || list_any (same_atom q) (filter f xs)) is ∙ rest
    go false e true is rest =
        let no : f q ≡ false = ap f (atoms.is q x is) ∙ e in
        rest ∙ ap (λ b. list_any (same_atom q) xs && b) no ∙ never (list_any (same_atom q) xs) ∙ sym no
      where
        never : (b : Bool) → (b && false) ≡ false
        never true = refl
        never false = refl
    go false e false is rest = rest

pub not_true : (b : Bool) → (b ≡ true → ⊥) → b ≡ false
not_true false never = refl
not_true true never = absurd (never refl)

module _ (config : Config) (apart : IsDistinct same_atom (names_of config)) where
  -- how each node knows the others
  abbrev pub seat_of : Lossy → ℕ → Nodes
  seat_of v i = live_nodes (nodes_at config i) (v.world.node i)

  -- the nodes, with these packets on the ways
  abbrev pub whole_of : Lossy → (ℕ → ℕ → List Message) → FrameWorld
  whole_of v ways = record { node = v.world.node; wire = ways; reported = v.world.reported }

  -- what is on a way, as long as the loss of its sender was not seen
  abbrev pub Cut : Lossy → (ℕ → ℕ → List Message) → (ℕ → State) → Type 0
  Cut v ways states = (x y : ℕ) → IsHere config x → IsHere config y → x ≢ y → (states y).lost (name_at config x) ≡ false → Left (v.gone x) (v.world.wire x y) (ways x y)

  -- a world by names that is shown, of which all is held
  pub record Has (v : Lossy) : Type 0 where
    pub ways : ℕ → ℕ → List Message
    pub world : World
    pub shows : ShowsAs config (seat_of v) world.seen (whole_of v ways) world
    pub sees : (i : ℕ) (q : Node) → IsHere config i → world.seen (name_at config i) q ≡ (v.world.node i).lost q
    pub gone : (x : Node) (i : ℕ) → IsHere config i → world.seen x (name_at config i) ≡ true → v.gone i ≡ true
    pub cut : Cut v ways v.world.node
    pub inv : Inv world

  -- ---- names and places

  names_differ : (i j : ℕ) → IsHere config i → IsHere config j → j ≢ i → name_at config j ≢ name_at config i
  names_differ i j here there n e = n (eqb-true j i (sym (same_names config apart j i there here) ∙ (ap (same_atom (name_at config j)) (sym e) ∙ atoms.refl (name_at config j))))

  put_here : {A : Type 0} (f : Node → A) (v : A) (i j : ℕ) → j ≡ i → upd same_atom f (name_at config i) v (name_at config j) ≡ v
  put_here f v i j e = read_at same_atom atoms f (name_at config i) v (name_at config j) (ap (name_at config) e)

  put_there : {A : Type 0} (f : Node → A) (v : A) (i j : ℕ) → IsHere config i → IsHere config j → j ≢ i → upd same_atom f (name_at config i) v (name_at config j) ≡ f (name_at config j)
  put_there f v i j here there n = read_other same_atom atoms f (name_at config i) v (name_at config j) (names_differ i j here there n)

  -- ---- who can speak

  is_there : (v : Lossy) (has : Has v) (i : ℕ) → IsHere config i → list_any (same_atom (name_at config i)) has.world.nodes ≡ true
  is_there v has i here = ap (list_any (same_atom (name_at config i))) has.shows.nodes ∙ is_named (names_of config) i (place_below config i here)

  pub live_at : (v : Lossy) (has : Has v) (i : ℕ) → IsHere config i → v.gone i ≡ false → live has.world (name_at config i)
  live_at v has i here lives = record {
    there = is_there v has i here;
    unseen = λ x. not_true (has.world.seen x (name_at config i)) (λ seen. let one : v.gone i ≡ true = has.gone x i here seen in absurd (cc));
  }

  pub near_at : (v : Lossy) (has : Has v) (i p : ℕ) → IsHere config i → IsHere config p → v.gone i ≡ false → (v.world.node i).lost (name_at config p) ≡ false → near has.world (name_at config p) (name_at config i)
  near_at v has i p here there lives known = record {
    home = is_there v has p there;
    peer = is_there v has i here;
    known = has.sees i (name_at config p) here ∙ known;
    counts = (live_at v has i here lives).unseen (name_at config p);
  }

  -- ---- a turn

  abbrev pub turned : Lossy → ℕ → NodeTurn → Lossy
  turned v i t = record { world = perform_at v.world i (mapped_turn Sent (place_turn config t)); gone = v.gone }

  turn_has : (v : Lossy) (ways : ℕ → ℕ → List Message) (w : World) (i : ℕ) (t : NodeTurn) → IsHere config i → v.gone i ≡ false
      → ShowsAs config (seat_of (turned v i t)) w.seen (whole_of v ways) w
      → ((j : ℕ) (q : Node) → IsHere config j → w.seen (name_at config j) q ≡ ((turned v i t).world.node j).lost q)
      → ((x : Node) (j : ℕ) → IsHere config j → w.seen x (name_at config j) ≡ true → v.gone j ≡ true)
      → Cut v ways (turned v i t).world.node → Inv (perform w (name_at config i) t) → Has (turned v i t)
  turn_has v ways w i t here lives shows sees gone cut inv = record {
    ways = later;
    world = perform w (name_at config i) t;
    shows = shows_performed config apart (whole_of v ways) w i here t shows;
    sees = sees;
    gone = gone;
    cut = λ x y hx hy n known. go x y hx (cases_eq x i) (cut x y hx hy n known);
    inv = inv;
  }
    where
      T : Turn State Message Report
      T = place_turn config t

      later : ℕ → ℕ → List Message
      later = set_at {A = ℕ → List Message} ways i (λ y. ways i y ++ (place_turn config t).sends y)

      row : ℕ → List (Noticed Message)
      row y = v.world.wire i y ++ map Sent ((place_turn config t).sends y)

      go : (x y : ℕ) → IsHere config x → (x ≡ i) ⊎ (x ≡ i → ⊥) → Left (v.gone x) (v.world.wire x y) (ways x y)
          → Left (v.gone x) (set_at {A = ℕ → List (Noticed Message)} v.world.wire i (λ y. v.world.wire i y ++ map Sent ((place_turn config t).sends y)) x y) (set_at {A = ℕ → List Message} ways i (λ y. ways i y ++ (place_turn config t).sends y) x y)
      go x y hx (inl e) old =
          let alive : v.gone x ≡ false = ap v.gone e ∙ lives in
          let new_way : set_at {A = ℕ → List (Noticed Message)} v.world.wire i (λ y. v.world.wire i y ++ map Sent ((place_turn config t).sends y)) x y ≡ v.world.wire x y ++ map Sent ((place_turn config t).sends y) =
          ap (λ (f : ℕ → List (Noticed Message)). f y) (set_at_here {A = ℕ → List (Noticed Message)} v.world.wire i _ x e) ∙ ap (λ z. v.world.wire z y ++ map Sent ((place_turn config t).sends y)) (sym e) in
          let new_all : set_at {A = ℕ → List Message} ways i (λ y. ways i y ++ (place_turn config t).sends y) x y ≡ ways x y ++ (place_turn config t).sends y =
          ap (λ (f : ℕ → List Message). f y) (set_at_here {A = ℕ → List Message} ways i _ x e) ∙ ap (λ z. ways z y ++ (place_turn config t).sends y) (sym e) in
          subst (λ z. Left (v.gone x) z (set_at {A = ℕ → List Message} ways i (λ y. ways i y ++ (place_turn config t).sends y) x y)) (sym new_way)
          (subst (λ z. Left (v.gone x) (v.world.wire x y ++ map Sent ((place_turn config t).sends y)) z) (sym new_all)
          (subst (λ b. Left b (v.world.wire x y ++ map Sent ((place_turn config t).sends y)) (ways x y ++ (place_turn config t).sends y)) (sym alive)
          (more_left (v.world.wire x y) (ways x y) ((place_turn config t).sends y) (subst (λ b. Left b (v.world.wire x y) (ways x y)) alive old))))
      go x y hx (inr n) old =
          let new_way = ap (λ (f : ℕ → List (Noticed Message)). f y) (set_at_other {A = ℕ → List (Noticed Message)} v.world.wire i (λ y. v.world.wire i y ++ map Sent ((place_turn config t).sends y)) x n) in
          let new_all = ap (λ (f : ℕ → List Message). f y) (set_at_other {A = ℕ → List Message} ways i (λ y. ways i y ++ (place_turn config t).sends y) x n) in
          subst (λ z. Left (v.gone x) z (set_at {A = ℕ → List Message} ways i (λ y. ways i y ++ (place_turn config t).sends y) x y)) (sym new_way)
          (subst (λ z. Left (v.gone x) (v.world.wire x y) z) (sym new_all) old)

  -- the nodes know one another as before, where no loss was seen
  module _ (v : Lossy) (i : ℕ) (t : NodeTurn) (same : t.state.lost ≡ (v.world.node i).lost) where
    lost_same : (j : ℕ) → ((turned v i t).world.node j).lost ≡ (v.world.node j).lost
    lost_same j = by_place v.world.node i t.state (λ (s : State). s.lost ≡ (v.world.node j).lost) j (λ e. same ∙ ap (λ k. (v.world.node k).lost) (sym e)) (λ _. refl)

    reseated : (ways : ℕ → ℕ → List Message) (w : World) (seen : Node → Node → Bool) → ShowsAs config (seat_of v) seen (whole_of v ways) w → ShowsAs config (seat_of (turned v i t)) seen (whole_of v ways) w
    reseated ways w seen shows = record {
      nodes = shows.nodes;
      seen = shows.seen;
      seat = λ j here. shows.seat j here ∙ live_same (nodes_at config j) (v.world.node j) ((turned v i t).world.node j) (lost_same j);
      node = shows.node;
      wire = shows.wire;
      log = shows.log;
      history = shows.history;
      answered = shows.answered;
    }

    known_before : (j : ℕ) (q : Node) → ((turned v i t).world.node j).lost q ≡ false → (v.world.node j).lost q ≡ false
    known_before j q e = ap (λ (f : Node → Bool). f q) (sym (lost_same j)) ∙ e

  -- ---- events

  -- an event that a node does of its own
  module _ (v : Lossy) (i : ℕ) (action : Action) (here : IsHere config i) (lives : v.gone i ≡ false) (has : Has v) (turn : Turn State (Noticed Message) Report)
      (made : (losing_machine_of config).step i (v.world.node i) (Own action) ≡ Some turn) where
    pub stepped : (t : Turn State Message Report) × (node_step config i (v.world.node i) (Own action) ≡ Some t) × (mapped_turn Sent t ≡ turn)
    stepped = map_is_some (mapped_turn Sent) (node_step config i (v.world.node i) (Own action)) turn made

    pub did : (t : NodeTurn) × (acted (nodes_at config i) (live_nodes (nodes_at config i) (v.world.node i)) (ports_at config i) action (v.world.node i) ≡ Ok t) × (stepped.0 ≡ place_turn config t)
    did = did_so config i (v.world.node i) action stepped.0 stepped.1

    pub did_turn : turn ≡ mapped_turn Sent (place_turn config did.0)
    did_turn = sym stepped.2 ∙ ap (mapped_turn Sent) did.2

    did_acts : acted (nodes_at config i) (has.world.seat (name_at config i)) (ports_at config i) action (has.world.node (name_at config i)) ≡ Ok did.0
    did_acts = (λ k. acted (nodes_at config i) (has.shows.seat i here k) (ports_at config i) action (has.shows.node i here k)) ∙ did.1

    did_same : did.0.state.lost ≡ (v.world.node i).lost
    did_same = subst (λ (z : Turn State Message Report). z.state.lost ≡ (v.world.node i).lost) did.2 (step_sees_none config i (v.world.node i) (Own action) stepped.0 stepped.1)

    pub did_has : Has (turned v i did.0)
    did_has = turn_has v has.ways has.world i did.0 here lives (reseated v i did.0 did_same has.ways has.world has.world.seen has.shows)
        (λ j q there. has.sees j q there ∙ ap (λ (f : Node → Bool). f q) (sym (lost_same v i did.0 did_same j))) has.gone
        (λ x y hx hy n known. has.cut x y hx hy n (known_before v i did.0 did_same y (name_at config x) known))
        (acts_keep has.world (name_at config i) (live_at v has i here lives) has.inv (nodes_at config i) (ports_at config i) action did.0 did_acts)

    pub did_even : did.0.reported.odd ≡ None
    did_even = acts_even has.world (name_at config i) (live_at v has i here lives) has.inv (nodes_at config i) (ports_at config i) action did.0 did_acts

  -- the world without the first packet of a way
  abbrev pub without : Lossy → ℕ → ℕ → List (Noticed Message) → Lossy
  without v p i rest = record { world = record v.world { wire = set_way v.world.wire p i rest }; gone = v.gone }

  -- a packet is taken
  module _ (v : Lossy) (i p : ℕ) (pair : is_pair (length config) i p ≡ true) (lives : v.gone i ≡ false) (has : Has v) (x : Message) (rest : List (Noticed Message))
      (first : v.world.wire p i ≡ Sent x ∷ rest) (turn : Turn State (Noticed Message) Report) (made : (losing_machine_of config).step i (v.world.node i) (Taken p (Sent x)) ≡ Some turn) where
    abbrev here : IsHere config i
    here = pair_first (length config) i p pair

    abbrev there : IsHere config p
    there = pair_second (length config) i p pair

    known : (v.world.node i).lost (name_at config p) ≡ false
    known = not_true ((v.world.node i).lost (name_at config p)) (λ seen. unheard_input config i p (v.world.node i) (Sent x) turn seen made)

    pub heard_step : (t : Turn State Message Report) × (node_step config i (v.world.node i) (Taken p x) ≡ Some t) × (mapped_turn Sent t ≡ turn)
    heard_step = map_is_some (mapped_turn Sent) (node_step config i (v.world.node i) (Taken p x)) turn made

    pub heard_so : (t : NodeTurn) × (taken (live_nodes (nodes_at config i) (v.world.node i)) (name_at config p) x (v.world.node i) ≡ Ok t) × (heard_step.0 ≡ place_turn config t)
    heard_so = took_so config i (v.world.node i) p x heard_step.0 heard_step.1

    pub heard_turn : turn ≡ mapped_turn Sent (place_turn config heard_so.0)
    heard_turn = sym heard_step.2 ∙ ap (mapped_turn Sent) heard_so.2

    heard_same : heard_so.0.state.lost ≡ (v.world.node i).lost
    heard_same = subst (λ (z : Turn State Message Report). z.state.lost ≡ (v.world.node i).lost) heard_so.2 (step_sees_none config i (v.world.node i) (Taken p x) heard_step.0 heard_step.1)

    others : (more : List Message) × (has.ways p i ≡ x ∷ more) × Left (v.gone p) rest more
    others = next_left (v.gone p) x rest (has.ways p i) (subst (λ z. Left (v.gone p) z (has.ways p i)) first (has.cut p i there here (λ e. pair_apart (length config) i p pair (sym e)) known))

    on_the_way : has.world.wire (name_at config p) (name_at config i) ≡ x ∷ others.0
    on_the_way = has.shows.wire p i there here ∙ others.1

    heard_takes : taken (has.world.seat (name_at config i)) (name_at config p) x (has.world.node (name_at config i)) ≡ Ok heard_so.0
    heard_takes = (λ k. taken (has.shows.seat i here k) (name_at config p) x (has.shows.node i here k)) ∙ heard_so.1

    abbrev later_ways : ℕ → ℕ → List Message
    later_ways = set_way has.ways p i others.0

    heard_cut : Cut (without v p i rest) (set_way has.ways p i others.0) (turned (without v p i rest) i heard_so.0).world.node
    heard_cut a b ha hb n seen = go (cases_eq p a) (cases_eq i b)
      where
        old : (v.world.node b).lost (name_at config a) ≡ false
        old = known_before (without v p i rest) i heard_so.0 heard_same b (name_at config a) seen

        other : ((p ≡ a) × (i ≡ b) → ⊥) → Left (v.gone a) (set_way v.world.wire p i rest a b) (set_way has.ways p i others.0 a b)
        other m = subst (λ z. Left (v.gone a) z (set_way has.ways p i others.0 a b)) (sym (set_way_other v.world.wire p i rest a b m))
            (subst (λ z. Left (v.gone a) (v.world.wire a b) z) (sym (set_way_other has.ways p i others.0 a b m)) (has.cut a b ha hb n old))

        this : Left (v.gone p) (set_way v.world.wire p i rest p i) (set_way has.ways p i others.0 p i)
        this = subst (λ z. Left (v.gone p) z (set_way has.ways p i others.0 p i)) (sym (set_way_here v.world.wire p i rest))
            (subst (λ z. Left (v.gone p) rest z) (sym (set_way_here has.ways p i others.0)) others.2)

        go : (p ≡ a) ⊎ (p ≡ a → ⊥) → (i ≡ b) ⊎ (i ≡ b → ⊥) → Left (v.gone a) (set_way v.world.wire p i rest a b) (set_way has.ways p i others.0 a b)
        go (inl e) (inl f) = subst (λ z. Left (v.gone z) (set_way v.world.wire p i rest z b) (set_way has.ways p i others.0 z b)) e
            (subst (λ z. Left (v.gone p) (set_way v.world.wire p i rest p z) (set_way has.ways p i others.0 p z)) f this)
        go (inr m) _ = other (λ both. m both.0)
        go (inl _) (inr m) = other (λ both. m both.1)

    pub took_has : Has (turned (without v p i rest) i heard_so.0)
    took_has = turn_has (without v p i rest) (set_way has.ways p i others.0) (popped has.world (name_at config p) (name_at config i) others.0) i heard_so.0 here lives
        (reseated (without v p i rest) i heard_so.0 heard_same (set_way has.ways p i others.0) (popped has.world (name_at config p) (name_at config i) others.0) has.world.seen
        (shows_popped config apart (whole_of v has.ways) has.world p i others.0 there here has.shows))
        (λ j q at. has.sees j q at ∙ ap (λ (f : Node → Bool). f q) (sym (lost_same (without v p i rest) i heard_so.0 heard_same j))) has.gone heard_cut
        (takes_keep has.world (name_at config i) (name_at config p) x others.0 heard_so.0 (live_at v has i here lives) (near_at v has i p here there lives known) has.inv on_the_way heard_takes)

    pub took_even : heard_so.0.reported.odd ≡ None
    took_even = takes_even has.world (name_at config i) (name_at config p) x others.0 heard_so.0 (live_at v has i here lives) (near_at v has i p here there lives known) has.inv on_the_way heard_takes

  -- a loss is seen
  module _ (v : Lossy) (i p : ℕ) (pair : is_pair (length config) i p ≡ true) (lives : v.gone i ≡ false) (has : Has v) (rest : List (Noticed Message))
      (first : v.world.wire p i ≡ Last ∷ rest) (not_yet : (v.world.node i).lost (name_at config p) ≡ false) where
    abbrev at_i : IsHere config i
    at_i = pair_first (length config) i p pair

    abbrev at_p : IsHere config p
    at_p = pair_second (length config) i p pair

    abbrev a : Node
    a = name_at config i

    abbrev b : Node
    b = name_at config p

    abbrev s : State
    s = v.world.node i

    abbrev t : NodeTurn
    t = see_loss (name_at config p) (v.world.node i)

    abbrev u : Lossy
    u = turned (without v p i rest) i (see_loss (name_at config p) (v.world.node i))

    lost_p : v.gone p ≡ true
    lost_p = last_left (v.gone p) rest (has.ways p i) (subst (λ z. Left (v.gone p) z (has.ways p i)) first (has.cut p i at_p at_i (λ e. pair_apart (length config) i p pair (sym e)) not_yet))

    -- as the node knows the others from now on
    abbrev seat : Nodes
    seat = live_nodes (nodes_at config i) (see_loss (name_at config p) (v.world.node i)).state

    abbrev knowing : World
    knowing = record has.world {
      seat = upd same_atom has.world.seat (name_at config i) (live_nodes (nodes_at config i) (see_loss (name_at config p) (v.world.node i)).state);
      seen = upd {A = Node → Bool} same_atom has.world.seen (name_at config i) (upd same_atom (has.world.seen (name_at config i)) (name_at config p) true);
    }

    own_seen : has.world.seen (name_at config i) ≡ (v.world.node i).lost
    own_seen = fun_ext (λ q. has.sees i q at_i)

    state_here : (j : ℕ) → j ≡ i → u.world.node j ≡ (see_loss (name_at config p) (v.world.node i)).state
    state_here j e = set_at_here v.world.node i (see_loss (name_at config p) (v.world.node i)).state j e

    state_there : (j : ℕ) → j ≢ i → u.world.node j ≡ v.world.node j
    state_there j n = set_at_other v.world.node i (see_loss (name_at config p) (v.world.node i)).state j n

    knows : ShowsAs config (seat_of u) knowing.seen (whole_of (without v p i rest) has.ways) knowing
    knows = record {
      nodes = has.shows.nodes;
      seen = refl;
      seat = λ j at. sits j at (cases_eq j i);
      node = has.shows.node;
      wire = has.shows.wire;
      log = has.shows.log;
      history = has.shows.history;
      answered = has.shows.answered;
    }
      where
        sits : (j : ℕ) → IsHere config j → (j ≡ i) ⊎ (j ≡ i → ⊥) → knowing.seat (name_at config j) ≡ seat_of u j
        sits j at (inl e) = put_here has.world.seat seat i j e ∙ (ap (λ (z : State). live_nodes (nodes_at config i) z) (sym (state_here j e)) ∙ ap (λ k. live_nodes (nodes_at config k) (u.world.node j)) (sym e))
        sits j at (inr n) = put_there has.world.seat seat i j at_i at n ∙ (has.shows.seat j at ∙ ap (live_nodes (nodes_at config j)) (sym (state_there j n)))

    row_seen : (q : Node) → upd same_atom (has.world.seen (name_at config i)) (name_at config p) true q ≡ (see_loss (name_at config p) (v.world.node i)).state.lost q
    row_seen q = ap (λ (f : Node → Bool). upd same_atom f (name_at config p) true q) own_seen

    knows_sees : (j : ℕ) (q : Node) → IsHere config j → knowing.seen (name_at config j) q ≡ (u.world.node j).lost q
    knows_sees j q there = go (cases_eq j i)
      where
        go : (j ≡ i) ⊎ (j ≡ i → ⊥) → knowing.seen (name_at config j) q ≡ (u.world.node j).lost q
        go (inl e) = ap (λ (f : Node → Bool). f q) (put_here {A = Node → Bool} has.world.seen _ i j e) ∙ (row_seen q ∙ ap (λ (z : State). z.lost q) (sym (state_here j e)))
        go (inr n) = ap (λ (f : Node → Bool). f q) (put_there {A = Node → Bool} has.world.seen _ i j at_i there n) ∙ (has.sees j q there ∙ ap (λ (z : State). z.lost q) (sym (state_there j n)))

    knows_gone : (y : Node) (j : ℕ) → IsHere config j → knowing.seen y (name_at config j) ≡ true → v.gone j ≡ true
    knows_gone y j there seen = go (split same_atom atoms y (name_at config i)) (cases_eq j p)
      where
        go : (y ≡ name_at config i) ⊎ (y ≢ name_at config i) → (j ≡ p) ⊎ (j ≡ p → ⊥) → v.gone j ≡ true
        go _ (inl e) = ap v.gone e ∙ lost_p
        go (inl e) (inr n) = has.gone (name_at config i) j there (sym (ap (λ (f : Node → Bool). f (name_at config j)) (read_at same_atom atoms {A = Node → Bool} has.world.seen (name_at config i) _ y e)
            ∙ put_there (has.world.seen (name_at config i)) true p j at_p there n) ∙ seen)
        go (inr m) (inr n) = has.gone y j there (sym (ap (λ (f : Node → Bool). f (name_at config j)) (read_other same_atom atoms {A = Node → Bool} has.world.seen (name_at config i) _ y m)) ∙ seen)

    knows_sits : Sits has.world.nodes knowing.seen (name_at config i) seat.peers
    knows_sits = record {
      peer = λ q.
          any_filter (λ z. not ((see_loss (name_at config p) (v.world.node i)).state.lost z)) q (nodes_at config i).peers
          ∙ (ap (λ c. c && not ((see_loss (name_at config p) (v.world.node i)).state.lost q)) (left_out (names_of config) i q (place_below config i at_i) apart
          ∙ ap (λ ns. list_any (same_atom q) ns && not (same_atom (name_at config i) q)) (sym has.shows.nodes))
          ∙ ap (λ c. (list_any (same_atom q) has.world.nodes && not (same_atom (name_at config i) q)) && not c)
          (sym (ap (λ (f : Node → Bool). f q) (read_at same_atom atoms {A = Node → Bool} has.world.seen (name_at config i) _ (name_at config i) refl) ∙ row_seen q)));
    }

    -- seeing a loss sends and reports nothing
    silent_turn : parted has.world (name_at config i) (name_at config p) seat ≡ perform knowing (name_at config i) (see_loss (name_at config p) (has.world.node (name_at config i)))
    silent_turn = world_path knowing refl
        (sym (upd_old {A = Node → List Message} has.world.wire (name_at config i) (λ y. has.world.wire (name_at config i) y ++ []) (fun_ext (λ y. append-nil (has.world.wire (name_at config i) y)))))
        (sym (upd_old has.world.log (name_at config i) (has.world.log (name_at config i) ++ []) (append-nil (has.world.log (name_at config i)))))
        (sym (append-nil has.world.history)) (sym (append-nil has.world.answered))

    knows_keeps : Inv (perform knowing (name_at config i) (see_loss (name_at config p) (v.world.node i)))
    knows_keeps = subst (λ (z : State). Inv (perform knowing (name_at config i) (see_loss (name_at config p) z))) (has.shows.node i at_i)
        (subst Inv silent_turn (parted_keeps has.world (name_at config i) (name_at config p) seat has.inv refl knows_sits))

    seen_cut : Cut (without v p i rest) has.ways u.world.node
    seen_cut x y hx hy n known_ = go (cases_eq p x) (cases_eq i y)
      where
        old : (v.world.node y).lost (name_at config x) ≡ false
        old = not_true ((v.world.node y).lost (name_at config x)) (λ seen. still (cases_eq y i) seen)
          where
            still : (y ≡ i) ⊎ (y ≡ i → ⊥) → (v.world.node y).lost (name_at config x) ≡ true → ⊥
            still (inr m) seen = let one : false ≡ true = sym known_ ∙ (ap (λ (z : State). z.lost (name_at config x)) (state_there y m) ∙ seen) in cc
            still (inl e) seen =
                let one : false ≡ true = sym known_ ∙ (ap (λ (z : State). z.lost (name_at config x)) (state_here y e)
                ∙ kept_lost (name_at config x) (ap (λ k. (v.world.node k).lost (name_at config x)) (sym e) ∙ seen)) in
                cc
              where
                kept_lost : (q : Node) → (v.world.node i).lost q ≡ true → upd same_atom (v.world.node i).lost (name_at config p) true q ≡ true
                kept_lost q was = at_read same_atom atoms (λ c. c ≡ true) (v.world.node i).lost (name_at config p) true q (λ _. refl) (λ _. was)

        other : ((p ≡ x) × (i ≡ y) → ⊥) → Left (v.gone x) (set_way v.world.wire p i rest x y) (has.ways x y)
        other m = subst (λ z. Left (v.gone x) z (has.ways x y)) (sym (set_way_other v.world.wire p i rest x y m)) (has.cut x y hx hy n old)

        go : (p ≡ x) ⊎ (p ≡ x → ⊥) → (i ≡ y) ⊎ (i ≡ y → ⊥) → Left (v.gone x) (set_way v.world.wire p i rest x y) (has.ways x y)
        go (inl e) (inl f) =
            let one : false ≡ true = sym known_ ∙ (ap (λ (z : State). z.lost (name_at config x)) (state_here y (sym f)) ∙ put_here (v.world.node i).lost true p x (sym e)) in
            absurd (cc)
        go (inr m) _ = other (λ both. m both.0)
        go (inl _) (inr m) = other (λ both. m both.1)

    pub saw_has : Has (turned (without v p i rest) i (see_loss (name_at config p) (v.world.node i)))
    saw_has = turn_has (without v p i rest) has.ways knowing i (see_loss (name_at config p) (v.world.node i)) at_i lives knows knows_sees knows_gone seen_cut knows_keeps
