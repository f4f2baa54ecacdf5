-- Takes alone come to an end, whoever was lost. A last notice counts 1, and where a loss is seen a peer counts no more.
use Rattle.std.proofs.Common.{◌≡◌, ◌≢◌, ◌⊎◌, inl, inr, ℕ, ◌+◌, ◌*◌, ◌<◌, ◌≤◌, Bool, true, false, not, ◌&&◌}
use Rattle.std.proofs.Common.{cond, length, map, List, [], ◌∷◌, ◌++◌, Some, refl, ap, sym, ◌∙◌, subst, arith}
use Rattle.std.specs.List.{IsDistinct, list_any}
use Rattle.std.proofs.lemmas.Bool.{cases_eq}
use Rattle.std.proofs.lemmas.Bool.Decides.{Decides-ltb}
use Rattle.std.proofs.lemmas.List.{length-map}
use Rattle.pg_term.specs.Same.{same_atom}
use Rattle.pg_laws.specs.PgGroup.Functions.{upd}
use Rattle.pg_laws.specs.PgMessageTypes.declared.message.Message.{Message}
use Rattle.pg_laws.specs.PgStep.Machines.Happened.{Happened, Changes}
use Rattle.pg_laws.specs.PgStep.Machines.Losing.{LosingEvent, LosingLeads, Noticed, Sent, Last, Step, all_steps, mapped_turn}
use Rattle.pg_laws.specs.PgStep.Machines.Machine.{Event, Input, Take, Do, Taken, Turn, first_from}
use Rattle.pg_laws.specs.PgStep.Machines.Places.{is_place}
use Rattle.pg_laws.proofs.PgStep.Machines.Options.{some_is}
use Rattle.pg_laws.proofs.PgStep.Machines.Steps.{changes, pair_apart}
use Rattle.pg_laws.specs.PgStep.Config.{Config, names_of, name_at, nodes_at}
use Rattle.pg_laws.specs.PgStep.FrameMachine.{last_notice, losing_frame_machine, losing_machine_of, node_step, place_turn}
use Rattle.pg_laws.specs.PgStep.Losses.{forgets, see_loss}
use Rattle.pg_laws.specs.PgStep.LossLaws.{LosingFrameWorld}
use Rattle.pg_laws.specs.PgStep.Nodes.{Node, Nodes, is_peer}
use Rattle.pg_laws.specs.PgStep.State.{State, Use, live_nodes}
use Rattle.pg_laws.specs.PgStep.State.Status.{Unasked}
use Rattle.pg_laws.specs.PgStep.State.Use.{Fresh, Locking, Owning, Updating, Spent}
use Rattle.pg_laws.specs.PgStep.Step.{Action}
use Rattle.pg_laws.specs.PgStep.Turns.{Report}
use Rattle.pg_laws.specs.Quiet.{OnlyTakes, peer_count}
use Rattle.pg_laws.proofs.ends.Apart.{pair_first, pair_second}
use Rattle.pg_laws.proofs.places.Shown.{IsHere}
use Rattle.pg_laws.proofs.quiet.Bounds.{at_most_two, node_light, own_no_peer}
use Rattle.pg_laws.proofs.quiet.Ending.{to_one_place}
use Rattle.pg_laws.proofs.quiet.Rest.{IsAtRest}
use Rattle.pg_laws.proofs.quiet.Sums.{total, total_add, total_all, total_change}
use Rattle.pg_laws.proofs.quiet.Sums.{total_changes, total_le, total_same, total_scale}
use Rattle.pg_laws.proofs.quiet.Weights.{Made, node_weight, packet_lessens, packet_weight}
use Rattle.pg_laws.proofs.quiet.Weights.{peers_fewer, sent_weight, status_weight, use_weight, weigh}
use Rattle.pg_laws.proofs.references.Keys.{atoms, cases, upd_at, upd_other}
use Rattle.pg_laws.proofs.steps.Lossless.{step_sees_none}
use Rattle.pg_laws.proofs.steps.Made.{took_so}
use Rattle.pg_laws_losses.specs.Quiet.{live_on_the_way, live_open, most_takes_live}
use Rattle.pg_laws_losses.specs.Reached.{LosingReaches}
use Rattle.pg_laws_losses.proofs.Bridge.{any_filter, live_same}
use Rattle.pg_laws_losses.proofs.Counting.{all_count}
use Rattle.pg_laws_losses.proofs.Lossy.{Lossy, bare, Passed, Went, Died, passed, Makes, Steps, Sees, makes}
use Rattle.pg_laws_losses.proofs.Unharmed.{noted_packet, same_input}

-- ---- what is on the way

abbrev noticed_weight : Noticed Message → ℕ
noticed_weight (Sent x) = packet_weight x
noticed_weight Last = 1

abbrev weigh_noticed : List (Noticed Message) → ℕ
weigh_noticed [] = 0
weigh_noticed (x ∷ xs) = noticed_weight x + weigh_noticed xs

noticed_append : (xs ys : List (Noticed Message)) → weigh_noticed (xs ++ ys) ≡ weigh_noticed xs + weigh_noticed ys
noticed_append [] ys = omega arith
noticed_append (x ∷ xs) ys = let rest : weigh_noticed (xs ++ ys) ≡ weigh_noticed xs + weigh_noticed ys = noticed_append xs ys in omega (arith, rest)

noticed_sent : (xs : List Message) → weigh_noticed (map Sent xs) ≡ weigh xs
noticed_sent [] = refl
noticed_sent (x ∷ xs) = ap (λ k. packet_weight x + k) (noticed_sent xs)

two_noticed : (xs : List (Noticed Message)) → weigh_noticed xs ≤ 2 * length xs
two_noticed [] = omega arith
two_noticed (Sent x ∷ xs) =
    let one : packet_weight x ≤ 2 = at_most_two x in
    let rest : weigh_noticed xs ≤ 2 * length xs = two_noticed xs in
    omega (arith, one, rest)
two_noticed (Last ∷ xs) = let rest : weigh_noticed xs ≤ 2 * length xs = two_noticed xs in omega (arith, rest)

-- ---- a loss that is seen

module _ (m : Nodes) (n : ℕ) (name : ℕ → Node) (peer : Node) (s : State) where
  abbrev later : State
  later = (see_loss peer s).state

  -- what is said of each peer that counts, where this one counts no more
  fewer_count : (f g : Node → ℕ) → ((q : Node) → peer ≢ q → g q ≡ f q) → (q : Node) → cond (is_peer (live_nodes m later) q) (g q) 0 ≤ cond (is_peer (live_nodes m s) q) (f q) 0
  fewer_count f g same q = go (cases same_atom atoms peer q)
    where
      none : (b : Bool) → (b && false) ≡ false
      none true = refl
      none false = refl

      go : (peer ≡ q) ⊎ (peer ≢ q) → cond (is_peer (live_nodes m later) q) (g q) 0 ≤ cond (is_peer (live_nodes m s) q) (f q) 0
      go (inl e) =
          let gone : later.lost q ≡ true = upd_at same_atom atoms s.lost peer true q e in
          let out : is_peer (live_nodes m later) q ≡ false = any_filter (λ z. not (later.lost z)) q m.peers ∙ ap (λ b. list_any (same_atom q) m.peers && not b) gone ∙ none (list_any (same_atom q) m.peers) in
          let zero_is : cond (is_peer (live_nodes m later) q) (g q) 0 ≡ 0 = ap (λ b. cond b (g q) 0) out in
          omega (arith, zero_is)
      go (inr other) =
          let known : later.lost q ≡ s.lost q = upd_other same_atom atoms s.lost peer true q other in
          let counts : is_peer (live_nodes m later) q ≡ is_peer (live_nodes m s) q =
          any_filter (λ z. not (later.lost z)) q m.peers ∙ ap (λ b. list_any (same_atom q) m.peers && not b) known ∙ sym (any_filter (λ z. not (s.lost z)) q m.peers) in
          let as_many : cond (is_peer (live_nodes m later) q) (g q) 0 ≡ cond (is_peer (live_nodes m s) q) (f q) 0 = λ i. cond (counts i) (same q other i) 0 in
          omega (arith, as_many)

  forgets_light : (used : Use) → use_weight (live_nodes m later) n name (forgets peer used) ≤ use_weight (live_nodes m s) n name used
  forgets_light (Locking op u lead st) = peers_fewer (live_nodes m s) (live_nodes m later) n name (λ q. status_weight (st q)) (λ q. status_weight (upd same_atom st peer Unasked q))
      (fewer_count (λ q. status_weight (st q)) (λ q. status_weight (upd same_atom st peer Unasked q)) (λ q other. ap status_weight (upd_other same_atom atoms st peer Unasked q other)))
  forgets_light (Updating op u c replied) = peers_fewer (live_nodes m s) (live_nodes m later) n name (λ q. 1) (λ q. 1) (fewer_count (λ q. 1) (λ q. 1) (λ q _. refl))
  forgets_light (Owning group k) = omega arith
  forgets_light Fresh = omega arith
  forgets_light Spent = omega arith

  loss_light : node_weight (live_nodes m later) n name later ≤ node_weight (live_nodes m s) n name s
  loss_light = total_le (s.references + 1) (λ c. use_weight (live_nodes m later) n name (forgets peer (s.uses c))) (λ c. use_weight (live_nodes m s) n name (s.uses c)) (λ c _. forgets_light (s.uses c))

forgets_rest : (peer : Node) (used : Use) → IsAtRest used → IsAtRest (forgets peer used)
forgets_rest peer Fresh rests = tt
forgets_rest peer Spent rests = tt
forgets_rest peer (Locking op u lead st) rests = absurd rests
forgets_rest peer (Updating op u c replied) rests = absurd rests
forgets_rest peer (Owning name k) rests = absurd rests

-- ---- an event

module _ (config : Config) (apart : IsDistinct same_atom (names_of config)) where
  abbrev n : ℕ
  n = length config

  abbrev name : ℕ → Node
  name = name_at config

  place : (k : ℕ) → k < n → IsHere config k
  place k low = (Decides-ltb k n).1 low

  below : (k : ℕ) → IsHere config k → k < n
  below k here = (Decides-ltb k n).0 here

  abbrev counting : ℕ → State → Nodes
  counting i s = live_nodes (nodes_at config i) s

  -- what node i made of what it took: it sends no more than its references lead to no longer, and the packet is gone
  record Turned (i : ℕ) (s : State) (packet : Noticed Message) (turn : Turn State (Noticed Message) Report) : Type 0 where
    made : Made (counting i turn.state) n name turn.state
    less : total n (λ b. weigh_noticed (turn.sends b)) + node_weight (counting i turn.state) n name turn.state + 1 ≤ node_weight (counting i s) n name s + noticed_weight packet

  none_sent : (b : Bool) → weigh_noticed (map Sent (cond b [] [])) ≡ 0
  none_sent true = refl
  none_sent false = refl

  module _ (i p : ℕ) (there : IsHere config p) (s : State) (made : Made (counting i s) n name s) where
    -- a packet
    stepped : (x : Message) (t : Turn State Message Report) → node_step config i s (Taken p x) ≡ Some t → Turned i s (Sent x) (mapped_turn Sent t)
    stepped x t is =
        let u = took_so config i s p x t is in
        let known : t.state.lost ≡ s.lost = step_sees_none config i s (Taken p x) t is in
        let same : counting i s ≡ counting i t.state = live_same (nodes_at config i) s t.state known in
        let light = packet_lessens (counting i s) n name (name p) x s u.0 (to_one_place config apart (counting i s) p there) made u.1 in
        let state : t.state ≡ u.0.state = ap (λ (z : Turn State Message Report). z.state) u.2 in
        let sent : total n (λ b. weigh_noticed (map Sent (t.sends b))) ≡ sent_weight (counting i s) n name u.0 =
        total_same n (λ b. weigh_noticed (map Sent (t.sends b))) (λ b. weigh (u.0.sends (name b)))
        (λ b low. noticed_sent (t.sends b) ∙ ap weigh (ap (λ (z : Turn State Message Report). z.sends b) u.2 ∙ ap (λ c. cond c (u.0.sends (name b)) []) (place b low))) in
        let weight : node_weight (counting i t.state) n name t.state ≡ node_weight (counting i s) n name u.0.state = λ k. node_weight (sym same k) n name (state k) in
        let less : sent_weight (counting i s) n name u.0 + node_weight (counting i s) n name u.0.state + 1 ≤ node_weight (counting i s) n name s + packet_weight x = light.less in
        record { made = subst (λ (z : State). Made (counting i t.state) n name z) (sym state) light.made; less = omega (arith, sent, weight, less) }

    -- a last notice
    saw : (peer : Node) → Turned i s Last (mapped_turn Sent (place_turn config (see_loss peer s)))
    saw peer =
        let none : total n (λ b. weigh_noticed (map Sent (cond (is_place n b) [] []))) ≡ 0 * n = total_all n 0 (λ b. weigh_noticed (map Sent (cond (is_place n b) [] []))) (λ b _. none_sent (is_place n b)) in
        let light : node_weight (counting i (see_loss peer s).state) n name (see_loss peer s).state ≤ node_weight (counting i s) n name s = loss_light (nodes_at config i) n name peer s in
        record { made = λ c above. forgets_rest peer (s.uses c) (made c above); less = omega (arith, none, light) }

    turned : (packet : Noticed Message) (input : Input (Noticed Message) Action) (turn : Turn State (Noticed Message) Report) → input ≡ Taken p packet → Makes config i s input turn → Turned i s packet turn
    turned packet input turn is (Steps given t from made_ same) =
        let x = noted_packet given p packet (sym from ∙ is) in
        subst (λ z. Turned i s z turn) (sym x.2) (subst (Turned i s (Sent x.0)) (sym same) (stepped x.0 t (ap (node_step config i s) (sym x.1) ∙ made_)))
    turned packet input turn is (Sees q from not_yet same) = subst (λ z. Turned i s z turn) (same_input (sym from ∙ is)).1 (subst (Turned i s Last) (sym same) (saw (name q)))

  -- ---- the weight of a world

  abbrev way_weights : Lossy → ℕ → ℕ
  way_weights v a = total n (λ b. weigh_noticed (v.world.wire a b))

  abbrev node_weights : Lossy → ℕ → ℕ
  node_weights v i = node_weight (counting i (v.world.node i)) n name (v.world.node i)

  abbrev world_weight : Lossy → ℕ
  world_weight v = total n (node_weights v) + total n (way_weights v)

  abbrev AllMade : Lossy → Type 0
  AllMade v = (i : ℕ) → Made (counting i (v.world.node i)) n name (v.world.node i)

  module _ (v x : Lossy) (i p : ℕ) (taken_so : Happened (losing_machine_of config) v.world (Take i p) x.world) (made : AllMade v) where
    abbrev all : Changes {C = Action} (Take i p) taken_so.turn v.world x.world
    all = changes (losing_machine_of config) v.world x.world (Take i p) taken_so

    first : (packet : Noticed Message) × (v.world.wire p i ≡ packet ∷ x.world.wire p i)
    first = all.taken p i (refl, refl)

    here : IsHere config i
    here = pair_first n i p taken_so.there

    there : IsHere config p
    there = pair_second n i p taken_so.there

    other : i ≢ p
    other = pair_apart n i p taken_so.there

    done : Turned i (v.world.node i) first.0 taken_so.turn
    done = turned i p there (v.world.node i) (made i) first.0 taken_so.input taken_so.turn (some_is (sym taken_so.given ∙ ap (first_from p) first.1))
        (makes config i (v.world.node i) taken_so.input taken_so.turn taken_so.made)

    abbrev sent : ℕ
    sent = total n (λ b. weigh_noticed (taken_so.turn.sends b))

    own_ways : way_weights x i ≡ way_weights v i + sent
    own_ways = total_same n (λ b. weigh_noticed (x.world.wire i b)) (λ b. weigh_noticed (v.world.wire i b) + weigh_noticed (taken_so.turn.sends b))
        (λ b _. ap weigh_noticed (all.sent b) ∙ noticed_append (v.world.wire i b) (taken_so.turn.sends b))
        ∙ total_add n (λ b. weigh_noticed (v.world.wire i b)) (λ b. weigh_noticed (taken_so.turn.sends b))

    peer_ways : way_weights x p + noticed_weight first.0 ≡ way_weights v p
    peer_ways =
        let gone : weigh_noticed (v.world.wire p i) ≡ noticed_weight first.0 + weigh_noticed (x.world.wire p i) = ap weigh_noticed first.1 in
        let change : way_weights x p + noticed_weight first.0 ≡ way_weights v p + 0 =
        total_change n i (λ b. weigh_noticed (v.world.wire p b)) (λ b. weigh_noticed (x.world.wire p b)) 0 (noticed_weight first.0) (below i here) (omega (arith, gone))
        (λ b _ away. ap weigh_noticed (all.ways p b (λ e. other (sym e)) (λ both. away (sym both.1)))) in
        omega (arith, change)

    weighs_less : world_weight x + 1 ≤ world_weight v
    weighs_less =
        let ways : total n (way_weights x) + noticed_weight first.0 ≡ total n (way_weights v) + sent =
        total_changes n i p (way_weights v) (way_weights x) sent (noticed_weight first.0) other (below i here) (below p there) own_ways peer_ways
        (λ a _ ai away. total_same n (λ b. weigh_noticed (x.world.wire a b)) (λ b. weigh_noticed (v.world.wire a b)) (λ b _. ap weigh_noticed (all.ways a b ai (λ both. away (sym both.0))))) in
        let own : node_weights x i ≡ node_weight (counting i taken_so.turn.state) n name taken_so.turn.state = ap (λ (z : State). node_weight (counting i z) n name z) all.state in
        let nodes : total n (node_weights x) + node_weights v i ≡ total n (node_weights v) + node_weight (counting i taken_so.turn.state) n name taken_so.turn.state =
        total_change n i (node_weights v) (node_weights x) (node_weight (counting i taken_so.turn.state) n name taken_so.turn.state) (node_weights v i) (below i here) (omega (arith, own))
        (λ k _ away. ap (λ (z : State). node_weight (counting k z) n name z) (all.states k away)) in
        let less : sent + node_weight (counting i taken_so.turn.state) n name taken_so.turn.state + 1 ≤ node_weights v i + noticed_weight first.0 = done.less in
        omega (arith, ways, nodes, less)

    made_later : AllMade x
    made_later k = go (cases_eq k i)
      where
        go : (k ≡ i) ⊎ (k ≡ i → ⊥) → Made (counting k (x.world.node k)) n name (x.world.node k)
        go (inl e) = subst (λ z. Made (counting z (x.world.node z)) n name (x.world.node z)) (sym e) (subst (λ (z : State). Made (counting i z) n name z) (sym all.state) done.made)
        go (inr away) = subst (λ (z : State). Made (counting k z) n name z) (sym (all.states k away)) (made k)

  -- ---- takes

  took : (v x : Lossy) (i p : ℕ) → Passed config v x (Step (Take i p)) → AllMade v → (world_weight x + 1 ≤ world_weight v) × AllMade x
  took v x i p (Went (Take j q) is lives happened same) made =
      let node : i ≡ j = cc in
      let peer : p ≡ q = cc in
      (weighs_less v x j q happened made, made_later v x j q happened made)
  took v x i p (Went (Do j action) is lives happened same) made = absurd (cc)
  took v x i p (Died j keep is there lives cut gone) made = absurd (cc)

  all_taken : (es : List (Event Action)) → OnlyTakes es → (w v : LosingFrameWorld) → LosingLeads (losing_frame_machine config) last_notice w (all_steps es) v → AllMade (bare w) → length es + world_weight (bare v) ≤ world_weight (bare w)
  all_taken [] only w v l made = let same : world_weight (bare v) ≡ world_weight (bare w) = ap (λ (z : LosingFrameWorld). world_weight (bare z)) (sym l) in omega (arith, same)
  all_taken (Take i p ∷ es) only w v l made =
      let one = took (bare w) (bare l.0) i p (passed config w l.0 (Step (Take i p)) l.1) made in
      let less : world_weight (bare l.0) + 1 ≤ world_weight (bare w) = one.0 in
      let rest : length es + world_weight (bare v) ≤ world_weight (bare l.0) = all_taken es only l.0 v l.2 one.1 in
      omega (arith, less, rest)
  all_taken (Do i action ∷ es) only w v l made = absurd only

  -- what is weighed of a world that was reached
  few_left : (es : List (LosingEvent Action)) (w : LosingFrameWorld) → LosingReaches config es w → world_weight (bare w) ≤ most_takes_live config w
  few_left es w l =
      let k = 5 * peer_count config in
      let nodes : total n (node_weights (bare w)) ≤ total n (λ i. k * (w.world.node i).state.opened) = total_le n (node_weights (bare w)) (λ i. k * (w.world.node i).state.opened)
      (λ i low. let here = place i low in node_light config apart i here (counting i (w.world.node i).state) (own_out i here (w.world.node i).state) (w.world.node i).state ((all_count config es w i l).counts)) in
      let all : total n (λ i. k * (w.world.node i).state.opened) ≡ k * live_open config w = total_scale n k (λ i. (w.world.node i).state.opened) in
      let ways : total n (way_weights (bare w)) ≤ total n (λ a. 2 * total n (λ b. length (w.world.wire a b))) = total_le n (way_weights (bare w)) (λ a. 2 * total n (λ b. length (w.world.wire a b))) (λ a _. row a) in
      let packets : total n (λ a. 2 * total n (λ b. length (w.world.wire a b))) ≡ 2 * live_on_the_way config w = total_scale n 2 (λ a. total n (λ b. length (w.world.wire a b))) in
      omega (arith, nodes, all, ways, packets)
    where
      own_out : (i : ℕ) → IsHere config i → (s : State) → is_peer (counting i s) (name i) ≡ false
      own_out i here s = any_filter (λ z. not (s.lost z)) (name i) (nodes_at config i).peers ∙ ap (λ b. b && not (s.lost (name i))) (own_no_peer config apart i here)

      row : (a : ℕ) → way_weights (bare w) a ≤ 2 * total n (λ b. length (w.world.wire a b))
      row a =
          let each : way_weights (bare w) a ≤ total n (λ b. 2 * length (w.world.wire a b)) = total_le n (λ b. weigh_noticed ((bare w).world.wire a b)) (λ b. 2 * length (w.world.wire a b))
          (λ b _. let many : length ((bare w).world.wire a b) ≡ length (w.world.wire a b) = length-map (w.world.wire a b) (λ z. z.packet) in
          let two : weigh_noticed ((bare w).world.wire a b) ≤ 2 * length ((bare w).world.wire a b) = two_noticed ((bare w).world.wire a b) in
          omega (arith, many, two)) in
          let scale : total n (λ b. 2 * length (w.world.wire a b)) ≡ 2 * total n (λ b. length (w.world.wire a b)) = total_scale n 2 (λ b. length (w.world.wire a b)) in
          omega (arith, each, scale)

  pub takes_end : (es : List (LosingEvent Action)) (w : LosingFrameWorld) → LosingReaches config es w → (takes : List (Event Action)) (v : LosingFrameWorld) → OnlyTakes takes
      → LosingLeads (losing_frame_machine config) last_notice w (all_steps takes) v → length takes ≤ most_takes_live config w
  takes_end es w l takes v only more =
      let all : length takes + world_weight (bare v) ≤ world_weight (bare w) = all_taken takes only w v more
      (λ i c above. subst IsAtRest (sym ((all_count config es w i l).counts.fitting.fresh c above)) tt) in
      let few : world_weight (bare w) ≤ most_takes_live config w = few_left es w l in
      omega (arith, all, few)
