-- What is left where a node is lost.
use Rattle.std.proofs.Common.{◌≡◌, ◌≢◌, ℕ, zero, suc, ◌+◌, ◌-◌, ◌<◌, ◌≤◌, Bool, true, false, not, ◌&&◌}
use Rattle.std.proofs.Common.{◌||◌, cond, nat_eq, nat_lt, nat_le, map, take, length, get_or, List, [], ◌∷◌}
use Rattle.std.proofs.Common.{◌++◌, Option, Some, None, refl, sym, ap, ◌∙◌, inl, inr, ◌⊎◌, arith, subst}
use Rattle.std.proofs.Math.Path.{fun_ext}
use Rattle.std.proofs.lemmas.Bool.{cases_eq, eq-eqb, ne_eqb, leb-true, le-leb, lt-ltb, ltb-true}
use Rattle.std.proofs.lemmas.List.{append-nil, length-map, take-map}
use Rattle.pg_node_state.specs.PgMessageTypes.declared.message.Message.{Message}
use Rattle.pg_node_state.specs.PgStep.Machines.Places.{is_pair, set_at}
use Rattle.pg_node_state.specs.PgStep.Machines.Machine.{World}
use Rattle.pg_node_state.specs.PgStep.Machines.Clocked.{Timed, Stamped}
use Rattle.pg_node_state.specs.PgStep.Machines.Losing.{Noticed, Lose, losing_happens, each_place, can_keep, stopped}
use Rattle.pg_node_state.proofs.PgStep.Machines.Places.{set_at_here, set_at_other}
use Rattle.pg_node_state.specs.PgStep.declared.refusal.Refusal.{Refusal}
use Rattle.pg_node_state.specs.PgStep.declared.refusal.Refusal.TheVariants.{NoSuchPlace, NodeLost}
use Rattle.pg_node_state.specs.PgStep.Config.{Config, name_at}
use Rattle.pg_node_state.specs.PgStep.Faults.{first_that_holds}
use Rattle.pg_node_state.specs.PgStep.FrameMachine.{losing_frame_machine, last_notice, sent_packet}
use Rattle.pg_node_state.specs.PgStep.LossLaws.{LosingFrameWorld}
use Rattle.pg_node_state.specs.PgStep.State.{State}
use Rattle.pg_node_state.specs.PgStep.Turns.{Report}
use Rattle.pg_world_packets.specs.Losing.{SeenAreLost, losing_of, keep_of, count_sent, can_stay, loss_refusal}
use Rattle.pg_world_account.specs.Losses.{is_lost}
use Rattle.pg_world_config.specs.Seen.{Seen}
use Rattle.pg_world_packets.specs.Views.{View, CanStay, peer_place, place_of_peer, on_the_way}
use Rattle.pg_world_account.specs.Histories.{Account, account_formed}
use Rattle.pg_world_packets.specs.Worlds.{TimedFrameWorld, ShowsWorld, ShowsNodes, ShowsUpdates}
use Rattle.pg_world_packets.proofs.Lossy.{no_notice}
use Rattle.pg_world_packets.proofs.Peering.{peer_low, peer_high, place_low, place_high, own_place, place_within}
use Rattle.pg_world_packets.proofs.Turning.{pair_is, is_pair_so, pair_turned, way_at}

-- ---- tests of places

each_so : (n : ℕ) (test : ℕ → Bool) → ((y : ℕ) → y < n → test y ≡ true) → each_place n test ≡ true
each_so zero test h = refl
each_so (suc n) test h = (λ j. h n (omega arith) j && each_so n test (λ y l. h y (omega arith)) j)

each_is : (n : ℕ) (test : ℕ → Bool) → each_place n test ≡ true → (y : ℕ) → y < n → test y ≡ true
each_is zero test h y l = absurd (omega arith)
each_is (suc n) test h y l = go (test n) (each_place n test) refl refl h (cases_eq y n) (each_is n test)
  where
    go : (a b : Bool) → test n ≡ a → each_place n test ≡ b → (a && b) ≡ true → (y ≡ n) ⊎ (y ≢ n) → (each_place n test ≡ true → (z : ℕ) → z < n → test z ≡ true) → test y ≡ true
    go true true e f g (inl d) below = ap test d ∙ e
    go true true e f g (inr m) below = below f y (let ne : y ≢ n = m in omega (arith, l, ne))
    go true false e f g d below = absurd (cc)
    go false b e f g d below = absurd (cc)

-- ---- places of peers

place_low_or_high : (i k : ℕ) → (k < i) ⊎ (i ≤ k)
place_low_or_high i k = go (nat_lt k i) refl
  where
    go : (b : Bool) → nat_lt k i ≡ b → (k < i) ⊎ (i ≤ k)
    go true e = inl (ltb-true k i e)
    go false e = inr (grind (arith, e, lt-ltb k i))

place_back : (i k : ℕ) → peer_place i (place_of_peer i k) ≡ k
place_back i k = go (place_low_or_high i k)
  where
    go : (k < i) ⊎ (i ≤ k) → peer_place i (place_of_peer i k) ≡ k
    go (inl a) = ap (peer_place i) (peer_low i k a) ∙ place_low i k a
    go (inr a) = ap (peer_place i) (peer_high i k a) ∙ (place_high i (k + 1) (omega arith) ∙ omega arith)

place_below : (i k n : ℕ) → k + 1 < n → i < n → place_of_peer i k < n
place_below i k n l within = go (place_low_or_high i k)
  where
    go : (k < i) ⊎ (i ≤ k) → place_of_peer i k < n
    go (inl a) = subst (λ z. z < n) (sym (peer_low i k a)) (omega (arith, l))
    go (inr a) = subst (λ z. z < n) (sym (peer_high i k a)) (omega (arith, l))

-- ---- the lost

lost_more : (xs : List ℕ) (i x : ℕ) → is_lost (xs ++ i ∷ []) x ≡ (is_lost xs x || nat_eq i x)
lost_more [] i x = go (nat_eq i x)
  where
    go : (b : Bool) → (b || false) ≡ (false || b)
    go true = refl
    go false = refl
lost_more (y ∷ ys) i x = go (nat_eq y x) (lost_more ys i x)
  where
    go : (b : Bool) → is_lost (ys ++ i ∷ []) x ≡ (is_lost ys x || nat_eq i x) → (b || is_lost (ys ++ i ∷ []) x) ≡ ((b || is_lost ys x) || nat_eq i x)
    go true e = refl
    go false e = e

pub lost_it : (xs : List ℕ) (i : ℕ) → is_lost (xs ++ i ∷ []) i ≡ true
lost_it xs i = lost_more xs i i ∙ (ap (λ b. is_lost xs i || b) (eq-eqb i i refl) ∙ go (is_lost xs i))
  where
    go : (b : Bool) → (b || true) ≡ true
    go true = refl
    go false = refl

pub lost_others : (xs : List ℕ) (i x : ℕ) → x ≢ i → is_lost (xs ++ i ∷ []) x ≡ is_lost xs x
lost_others xs i x n = lost_more xs i x ∙ (ap (λ b. is_lost xs x || b) (ne_eqb i x (λ e. n (sym e))) ∙ go (is_lost xs x))
  where
    go : (b : Bool) → (b || false) ≡ b
    go true = refl
    go false = refl

lost_still : (xs : List ℕ) (i x : ℕ) → is_lost xs x ≡ true → is_lost (xs ++ i ∷ []) x ≡ true
lost_still xs i x is = lost_more xs i x ∙ ap (λ b. b || nat_eq i x) is

abbrev LossyWorld : Type 0
LossyWorld = World (Timed State) (Stamped (Noticed Message)) Report

-- a last notice is no packet that is sent
sent_only : (xs : List (Stamped Message)) (b : Bool) (last : Timed State) → count_sent (map sent_packet xs ++ cond b (last_notice last ∷ []) []) ≡ length xs
sent_only [] true last = refl
sent_only [] false last = refl
sent_only (x ∷ xs) b last = ap suc (sent_only xs b last)

module _ (config : Config) (old : View) (w : TimedFrameWorld) (lost : List ℕ) (i : ℕ) (keep : List ℕ) (shows : ShowsWorld config old w) (within : i < length config) where
  -- the ways from the node
  abbrev ways : List (List (Stamped Message))
  ways = get_or old.traffic.ways i []

  abbrev before : LossyWorld
  before = (losing_of config w lost).world

  abbrev tests : Bool → Bool → Bool → Bool → Option Refusal
  tests place count can gone = first_that_holds ((not (place && (count && can)), NoSuchPlace) ∷ (gone, NodeLost) ∷ [])

  way_is : (y : ℕ) → is_pair (length config) i y ≡ true → w.wire i y ≡ get_or ways (peer_place i y) []
  way_is y pair = shows.traffic.ways i y pair

  none_else : (y : ℕ) → is_pair (length config) i y ≡ false → w.wire i y ≡ []
  none_else y none = shows.traffic.nodes.nowhere i y none

  many_sent : (y : ℕ) → count_sent (before.wire i y) ≡ length (w.wire i y)
  many_sent y = sent_only (w.wire i y) (is_pair (length config) i y && (is_lost lost i && not ((w.node y).state.lost (name_at config i)))) (w.node i)

  module _ (count : length ways + 1 ≡ length config) where
    abbrev test : ℕ → Bool
    test y = not (is_pair (length config) i y) || nat_le (keep_of i keep y) (count_sent (before.wire i y))

    -- as many as are there can stay
    fits_so : CanStay keep ways → (y : ℕ) → is_pair (length config) i y ≡ true → keep_of i keep y ≤ length (w.wire i y)
    fits_so can y is =
        let all = pair_is (length config) i y is in
        let place : peer_place i y + 1 < length config = place_within i y (length config) within all.1 all.2 in
        let few = can.fits (peer_place i y) (omega (arith, place, count)) in
        let way = ap length (way_is y is) in
        omega (arith, few, way)

    stay_so : CanStay keep ways → can_stay config (losing_of config w lost) i keep ≡ true
    stay_so can = each_so (length config) test (λ y below. go y (is_pair (length config) i y) refl)
      where
        go : (y : ℕ) (b : Bool) → is_pair (length config) i y ≡ b → (not (is_pair (length config) i y) || nat_le (keep_of i keep y) (count_sent (before.wire i y))) ≡ true
        go y true is =
            let few = fits_so can y is in
            let many = many_sent y in
            ap (λ c. not c || nat_le (keep_of i keep y) (count_sent (before.wire i y))) is ∙ le-leb (keep_of i keep y) (count_sent (before.wire i y)) (omega (arith, few, many))
        go y false is = ap (λ c. not c || nat_le (keep_of i keep y) (count_sent (before.wire i y))) is

    -- and no more
    can_only : length keep ≡ length ways → can_stay config (losing_of config w lost) i keep ≡ true → CanStay keep ways
    can_only len can = record { len = len; fits = λ k below. fits k below }
      where
        fits : (k : ℕ) → k < length ways → get_or keep k 0 ≤ length (get_or ways k [])
        fits k below =
            let y : ℕ = place_of_peer i k in
            let back = place_back i k in
            let pair : is_pair (length config) i y ≡ true = is_pair_so (length config) i y within (place_below i k (length config) (omega (arith, below, count)) within) (own_place i k) in
            let tested : test y ≡ true = each_is (length config) test can y (pair_is (length config) i y pair).1 in
            let few : nat_le (keep_of i keep y) (count_sent (before.wire i y)) ≡ true = ap (λ c. not c || nat_le (keep_of i keep y) (count_sent (before.wire i y))) (sym pair) ∙ tested in
            let least = leb-true (keep_of i keep y) (count_sent (before.wire i y)) few in
            let many = many_sent y in
            let way = ap length (way_is y pair) in
            subst (λ z. get_or keep z 0 ≤ length (get_or ways z [])) back (omega (arith, least, many, way))

    -- why it is refused
    pub many_refused : length keep ≡ length ways → (CanStay keep ways → ⊥) → loss_refusal config (losing_of config w lost) i keep ≡ Some NoSuchPlace
    many_refused len none = (λ j. tests (lt-ltb i (length config) within j) (eq-eqb (length keep) (length config - 1) (omega (arith, len, count)) j) (can_stay config (losing_of config w lost) i keep) (is_lost lost i))
        ∙ go (can_stay config (losing_of config w lost) i keep) refl
      where
        go : (can : Bool) → can_stay config (losing_of config w lost) i keep ≡ can → tests true true can (is_lost lost i) ≡ Some NoSuchPlace
        go false c = refl
        go true c = absurd (none (can_only len c))

    placed : CanStay keep ways → loss_refusal config (losing_of config w lost) i keep ≡ tests true true true (is_lost lost i)
    placed can = let len = can.len in
        λ j. tests (lt-ltb i (length config) within j) (eq-eqb (length keep) (length config - 1) (omega (arith, len, count)) j) (stay_so can j) (is_lost lost i)

    -- it is lost
    pub lost_refused : CanStay keep ways → is_lost lost i ≡ true → loss_refusal config (losing_of config w lost) i keep ≡ Some NodeLost
    lost_refused can gone = placed can ∙ ap (tests true true true) gone

    -- nothing refuses it
    pub unrefused : CanStay keep ways → is_lost lost i ≡ false → loss_refusal config (losing_of config w lost) i keep ≡ None
    unrefused can stays = placed can ∙ ap (tests true true true) stays

    pub keeps_so : is_lost lost i ≡ false → CanStay keep ways → can_keep (length config) before i (keep_of i keep) ≡ true
    keeps_so stays can = each_so (length config) keeps (λ y below. go y (is_pair (length config) i y) refl)
      where
        keeps : ℕ → Bool
        keeps y = not (is_pair (length config) i y) || nat_le (keep_of i keep y) (length (before.wire i y))

        many_here : (y : ℕ) → length (before.wire i y) ≡ length (w.wire i y)
        many_here y = ap (λ (ns : List (Stamped (Noticed Message))). length (map sent_packet (w.wire i y) ++ ns)) (no_notice config w lost i y stays)
            ∙ (ap length (append-nil (map sent_packet (w.wire i y))) ∙ length-map (w.wire i y) sent_packet)

        go : (y : ℕ) (b : Bool) → is_pair (length config) i y ≡ b → (not (is_pair (length config) i y) || nat_le (keep_of i keep y) (length (before.wire i y))) ≡ true
        go y true is =
            let few = fits_so can y is in
            let many = many_here y in
            ap (λ c. not c || nat_le (keep_of i keep y) (length (before.wire i y))) is ∙ le-leb (keep_of i keep y) (length (before.wire i y)) (omega (arith, few, many))
        go y false is = ap (λ c. not c || nat_le (keep_of i keep y) (length (before.wire i y))) is

  -- it has not a number for each of its peers
  pub count_refused : (length keep ≡ length config - 1 → ⊥) → loss_refusal config (losing_of config w lost) i keep ≡ Some NoSuchPlace
  count_refused other = λ j. tests (lt-ltb i (length config) within j) (ne_eqb (length keep) (length config - 1) other j) (can_stay config (losing_of config w lost) i keep) (is_lost lost i)

-- ---- the world that is left

-- Of what is on the way from node i to y the first `kept y` packets stay.
module _ (config : Config) (w : TimedFrameWorld) (lost : List ℕ) (i : ℕ) (kept : ℕ → ℕ) (nothing_else : (y : ℕ) → is_pair (length config) i y ≡ false → w.wire i y ≡ []) where
  abbrev cut_row : ℕ → List (Stamped Message)
  cut_row y = take (kept y) (w.wire i y)

  abbrev pub cut_off : TimedFrameWorld
  cut_off = record w { wire = set_at {A = ℕ → List (Stamped Message)} w.wire i cut_row }

  pub cut_here : (y : ℕ) → cut_off.wire i y ≡ take (kept y) (w.wire i y)
  cut_here y = ap (λ (row : ℕ → List (Stamped Message)). row y) (set_at_here {A = ℕ → List (Stamped Message)} w.wire i cut_row i refl)

  pub cut_else : (x y : ℕ) → x ≢ i → cut_off.wire x y ≡ w.wire x y
  cut_else x y n = ap (λ (row : ℕ → List (Stamped Message)). row y) (set_at_other {A = ℕ → List (Stamped Message)} w.wire i cut_row x n)

  take_none : (k : ℕ) → ◌≡◌ {A = List (Stamped Message)} (take k []) []
  take_none zero = refl
  take_none (suc k) = refl

  -- the nodes are as they were
  pub nodes_cut : (nodes : List Seen) → ShowsNodes config nodes w → ShowsNodes config nodes cut_off
  nodes_cut nodes shows = record {
    apart = shows.apart;
    size = shows.size;
    each = λ j node at. let h = shows.each j node at in record { names = h.names; ports = h.ports; state = h.state; answers = h.answers };
    nowhere = λ x y none. nowhere x y none (cases_eq x i);
  }
    where
      nowhere : (x y : ℕ) → is_pair (length config) x y ≡ false → (x ≡ i) ⊎ (x ≢ i) → cut_off.wire x y ≡ []
      nowhere x y none (inl d) = subst (λ k. cut_off.wire k y ≡ []) (sym d)
          (cut_here y ∙ (ap (take (kept y)) (nothing_else y (subst (λ k. is_pair (length config) k y ≡ false) d none)) ∙ take_none (kept y)))
      nowhere x y none (inr n) = cut_else x y n ∙ shows.nowhere x y none

  pub updates_cut : (account : Account) → ShowsUpdates account w → ShowsUpdates account cut_off
  updates_cut account shows = record { history = shows.history; applied = shows.applied; marked = shows.marked }

  -- ---- the event of the machine with losses

  module _ (within : i < length config) (stays : is_lost lost i ≡ false) (seen : SeenAreLost config w lost) where
    abbrev world_before : LossyWorld
    world_before = (losing_of config w lost).world

    pub wire_before : (y : ℕ) → world_before.wire i y ≡ map sent_packet (w.wire i y)
    wire_before y = ap (λ (ns : List (Stamped (Noticed Message))). map sent_packet (w.wire i y) ++ ns) (no_notice config w lost i y stays) ∙ append-nil (map sent_packet (w.wire i y))

    -- no more are to stay than are there
    pub can_so : ((y : ℕ) → is_pair (length config) i y ≡ true → kept y ≤ length (w.wire i y)) → can_keep (length config) world_before i kept ≡ true
    can_so few = each_so (length config) test (λ y below. go y (is_pair (length config) i y) refl)
      where
        test : ℕ → Bool
        test y = not (is_pair (length config) i y) || nat_le (kept y) (length (world_before.wire i y))

        go : (y : ℕ) (b : Bool) → is_pair (length config) i y ≡ b → (not (is_pair (length config) i y) || nat_le (kept y) (length (world_before.wire i y))) ≡ true
        go y true is =
            let least = few y is in
            let many : length (world_before.wire i y) ≡ length (w.wire i y) = ap length (wire_before y) ∙ length-map (w.wire i y) sent_packet in
            ap (λ c. not c || nat_le (kept y) (length (world_before.wire i y))) is ∙ le-leb (kept y) (length (world_before.wire i y)) (omega (arith, least, many))
        go y false is = ap (λ c. not c || nat_le (kept y) (length (world_before.wire i y))) is

    module _ (can : can_keep (length config) world_before i kept ≡ true) where
      abbrev more : List ℕ
      more = lost ++ i ∷ []

      abbrev after : LossyWorld
      after = (losing_of config cut_off more).world

      abbrev rest : ℕ → List (Stamped (Noticed Message))
      rest y = cond (is_pair (length config) i y) (take (kept y) (world_before.wire i y) ++ last_notice (w.node i) ∷ []) (world_before.wire i y)

      abbrev left : LossyWorld
      left = stopped (length config) last_notice world_before i kept

      unseen : (y : ℕ) → is_pair (length config) i y ≡ true → (w.node y).state.lost (name_at config i) ≡ false
      unseen y pair = go ((w.node y).state.lost (name_at config i)) refl
        where
          go : (b : Bool) → (w.node y).state.lost (name_at config i) ≡ b → b ≡ false
          go true is = let gone = seen y i (pair_turned (length config) i y pair) is in let no : true ≡ false = sym gone ∙ stays in absurd (cc)
          go false is = refl

      own_rest : (y : ℕ) → rest y ≡ after.wire i y
      own_rest y = go (is_pair (length config) i y) refl
        where
          go : (b : Bool) → is_pair (length config) i y ≡ b → rest y ≡ after.wire i y
          go true is =
              ap (λ c. cond c (take (kept y) (world_before.wire i y) ++ last_notice (w.node i) ∷ []) (world_before.wire i y)) is
              ∙ (ap (λ xs. take (kept y) xs ++ last_notice (w.node i) ∷ []) (wire_before y)
              ∙ (ap (λ xs. xs ++ last_notice (w.node i) ∷ []) (take-map sent_packet (kept y) (w.wire i y))
              ∙ (λ j. map sent_packet (sym (cut_here y) j) ++ cond (sym is j && (sym (lost_it lost i) j && not (sym (unseen y is) j))) (last_notice (w.node i) ∷ []) [])))
          go false is =
              ap (λ c. cond c (take (kept y) (world_before.wire i y) ++ last_notice (w.node i) ∷ []) (world_before.wire i y)) is
              ∙ (wire_before y ∙ (ap (map sent_packet) (nothing_else y is)
              ∙ (λ j. map sent_packet (sym (cut_here y ∙ (ap (take (kept y)) (nothing_else y is) ∙ take_none (kept y))) j)
              ++ cond (sym is j && (is_lost more i && not ((w.node y).state.lost (name_at config i)))) (last_notice (w.node i) ∷ []) [])))

      wire_is : (x y : ℕ) → left.wire x y ≡ after.wire x y
      wire_is x y = go (cases_eq x i)
        where
          go : (x ≡ i) ⊎ (x ≢ i) → left.wire x y ≡ after.wire x y
          go (inl d) = subst (λ k. left.wire k y ≡ after.wire k y) (sym d)
              (ap (λ (row : ℕ → List (Stamped (Noticed Message))). row y) (set_at_here {A = ℕ → List (Stamped (Noticed Message))} world_before.wire i rest i refl) ∙ own_rest y)
          go (inr n) = ap (λ (row : ℕ → List (Stamped (Noticed Message))). row y) (set_at_other {A = ℕ → List (Stamped (Noticed Message))} world_before.wire i rest x n)
              ∙ (λ j. map sent_packet (sym (cut_else x y n) j) ++ cond (is_pair (length config) x y && (sym (lost_others lost i x n) j && not ((w.node y).state.lost (name_at config x)))) (last_notice (w.node x) ∷ []) [])

      gone_is : (x : ℕ) → set_at (is_lost lost) i true x ≡ is_lost more x
      gone_is x = go (cases_eq x i)
        where
          go : (x ≡ i) ⊎ (x ≢ i) → set_at (is_lost lost) i true x ≡ is_lost more x
          go (inl d) = set_at_here (is_lost lost) i true x d ∙ sym (ap (is_lost more) d ∙ lost_it lost i)
          go (inr n) = set_at_other (is_lost lost) i true x n ∙ sym (lost_others lost i x n)

      left_is : ◌≡◌ {A = LosingFrameWorld} (record { world = left; gone = set_at (is_lost lost) i true }) (losing_of config cut_off more)
      left_is = λ j. record {
        world = record { node = w.node; wire = (fun_ext (λ x. fun_ext (wire_is x))) j; reported = w.reported };
        gone = (fun_ext gone_is) j;
      }

      pub loss_happens : losing_happens (losing_frame_machine config) last_notice (losing_of config w lost) (Lose i kept) ≡ Some (losing_of config cut_off more)
      unfolding losing_happens
      loss_happens =
          (λ j. cond (lt-ltb i (length config) within j && (not (stays j) && can j)) (Some (record { world = left; gone = set_at (is_lost lost) i true })) None)
          ∙ ap Some left_is

      pub seen_more : SeenAreLost config cut_off more
      seen_more x p pair has = lost_still lost i p (seen x p pair has)

-- whether all were formed says nothing of updates
pub updates_formed : (formed : Bool) (account : Account) (w : TimedFrameWorld) → ShowsUpdates account w → ShowsUpdates (account_formed formed account) w
updates_formed formed account w shows = record { history = shows.history; applied = shows.applied; marked = shows.marked }

-- ---- over packets

module _ (config : Config) (old : View) (w : TimedFrameWorld) (lost : List ℕ) (i : ℕ) (keep : List ℕ) (shows : ShowsWorld config old w) where
  pub nowhere_from : (y : ℕ) → is_pair (length config) i y ≡ false → w.wire i y ≡ []
  nowhere_from y none = shows.traffic.nodes.nowhere i y none

  abbrev pub packets_cut : TimedFrameWorld
  packets_cut = cut_off config w lost i (keep_of i keep) nowhere_from

  pub shown_cut : (new : View) (formed : Bool) → new.traffic.nodes ≡ old.traffic.nodes → new.account ≡ account_formed formed old.account
      → ((k : ℕ) → way_at new.traffic i k ≡ take (get_or keep k 0) (way_at old.traffic i k)) → ((x k : ℕ) → x ≢ i → way_at new.traffic x k ≡ way_at old.traffic x k) → ShowsWorld config new packets_cut
  shown_cut new formed nodes account here others = record {
    traffic = record {
      nodes = subst (λ ns. ShowsNodes config ns packets_cut) (sym nodes) (nodes_cut config w lost i (keep_of i keep) nowhere_from old.traffic.nodes shows.traffic.nodes);
      ways = λ x y pair. way x y pair (cases_eq x i);
    };
    updates = subst (λ (a : Account). ShowsUpdates a packets_cut) (sym account) (updates_formed formed old.account packets_cut (updates_cut config w lost i (keep_of i keep) nowhere_from old.account shows.updates));
  }
    where
      way : (x y : ℕ) → is_pair (length config) x y ≡ true → (x ≡ i) ⊎ (x ≢ i) → packets_cut.wire x y ≡ on_the_way new.traffic x y
      way x y pair (inl d) = subst (λ k. packets_cut.wire k y ≡ on_the_way new.traffic k y) (sym d)
          (cut_here config w lost i (keep_of i keep) nowhere_from y ∙ (ap (take (keep_of i keep y)) (shows.traffic.ways i y (subst (λ k. is_pair (length config) k y ≡ true) d pair)) ∙ sym (here (peer_place i y))))
      way x y pair (inr n) = cut_else config w lost i (keep_of i keep) nowhere_from x y n ∙ (shows.traffic.ways x y pair ∙ sym (others x (peer_place x y) n))
