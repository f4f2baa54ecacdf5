-- The list of the ends that are pending is exact.
use Rattle.std.proofs.Common.{◌≡◌, ◌≢◌, ◌⊎◌, inl, inr, ℕ, zero, suc, ◌+◌, ◌<◌, ◌≤◌, Bool}
use Rattle.std.proofs.Common.{true, false, not, ◌&&◌, ◌||◌, cond, length, get_or, map, take}
use Rattle.std.proofs.Common.{List, [], ◌∷◌, ◌++◌, Some, refl, ap, sym, ◌∙◌, subst, arith}
use Rattle.std.specs.Prelude.{slice_get}
use Rattle.std.specs.Borrow.{Bor}
use Rattle.std.specs.Cmp.{first_so, second_so}
use Rattle.std.specs.List.{Contains, filter, list_any}
use Rattle.std.proofs.lemmas.Bool.{cases_eq, lt-ltb}
use Rattle.std.proofs.lemmas.Bool.Decides.{Decides-ltb}
use Rattle.std.proofs.lemmas.List.{append-nil, append_assoc, get_or-map, length-map, length-take-le, take_more}
use Rattle.std.proofs.lemmas.Option.{get_or_from_slice_get, slice_get_within}
use Rattle.pg_term.specs.declared.pid.Pid.{Pid}
use Rattle.pg_node_state.specs.PgGroup.declared.table.GroupTable.{Ghosts}
use Rattle.pg_node_state.specs.PgEnds.Numbers.{first_pids, is_among, number_in, pid_of}
use Rattle.pg_node_state.specs.PgStep.Machines.Clocked.{Timed, plain}
use Rattle.pg_node_state.specs.PgStep.Machines.Losing.{LosingLeads, all_steps}
use Rattle.pg_node_state.specs.PgStep.Machines.Machine.{Event, start_of}
use Rattle.pg_node_state.specs.PgStep.Machines.Places.{is_place}
use Rattle.pg_node_state.specs.PgStep.Machines.Runs.{Leads}
use Rattle.pg_node_state.proofs.PgStep.Machines.Steps.{happened}
use Rattle.pg_node_state.specs.PgStep.Config.{Config, name_at}
use Rattle.pg_node_state.specs.PgStep.FrameMachine.{frame_machine, last_notice, losing_frame_machine}
use Rattle.pg_node_state.specs.PgStep.LossLaws.{LosingFrameWorld}
use Rattle.pg_node_state.specs.PgStep.Nodes.{Node}
use Rattle.pg_node_state.specs.PgStep.State.{State}
use Rattle.pg_node_state.specs.PgStep.Step.{Action}
use Rattle.pg_laws_losses.specs.PgLaws.History.{NonePending}
use Rattle.pg_laws_losses.specs.PgLaws.Reached.{Reaches}
use Rattle.pg_laws_losses.specs.PgLaws.WithLosses.{NonePendingLive}
use Rattle.pg_laws_losses.specs.Reached.{LosingReaches}
use Rattle.pg_node_state.specs.declared.state.NodeState.{NodeState}
use Rattle.pg_world_packets.specs.Losing.{losing_of}
use Rattle.pg_world_account.specs.Losses.{is_lost}
use Rattle.pg_world_packets.specs.Pending.{IsPending, has_end, is_pending, is_untaken, live_from, lent_as}
use Rattle.pg_world_packets.specs.Pending.{live_states, own_of, pending_among, pending_at, pending_of}
use Rattle.pg_world_config.specs.Seen.{Seen, seen_of}
use Rattle.pg_world_packets.specs.Worlds.{ShowsNodes, TimedFrameWorld}
use Rattle.pg_world_packets.proofs.Running.{start_is}
use Rattle.pg_world_packets.proofs.Lossy.{lifted}

-- ---- elements

-- x is one of these
abbrev Among : {A : Type 0} → List A → A → Type 0
Among [] x = ⊥
Among (y ∷ ys) x = (y ≡ x) ⊎ Among ys x

contains_of : {A : Type 0} (xs : List A) (x : A) → Among xs x → Contains xs x
contains_of [] x is = absurd is
contains_of (y ∷ ys) x (inl e) = (zero, omega arith, e)
contains_of (y ∷ ys) x (inr is) = let there = contains_of ys x is in (suc there.0, omega (arith, there.1), there.2)

among_of : {A : Type 0} (xs : List A) (x : A) → Contains xs x → Among xs x
among_of [] x (k, within, is) = absurd (omega (arith, within))
among_of (y ∷ ys) x (zero, within, is) = inl is
among_of (y ∷ ys) x (suc k, within, is) = inr (among_of ys x (k, omega (arith, within), is))

in_first : {A : Type 0} (xs ys : List A) (x : A) → Among xs x → Among (xs ++ ys) x
in_first [] ys x is = absurd is
in_first (y ∷ xs) ys x (inl e) = inl e
in_first (y ∷ xs) ys x (inr is) = inr (in_first xs ys x is)

in_second : {A : Type 0} (xs ys : List A) (x : A) → Among ys x → Among (xs ++ ys) x
in_second [] ys x is = is
in_second (y ∷ xs) ys x is = inr (in_second xs ys x is)

in_either : {A : Type 0} (xs ys : List A) (x : A) → Among (xs ++ ys) x → Among xs x ⊎ Among ys x
in_either [] ys x is = inr is
in_either (y ∷ xs) ys x (inl e) = inl (inl e)
in_either (y ∷ xs) ys x (inr is) = go (in_either xs ys x is)
  where
    go : Among xs x ⊎ Among ys x → ((y ≡ x) ⊎ Among xs x) ⊎ Among ys x
    go (inl a) = inl (inr a)
    go (inr b) = inr b

module _ {A : Type 0} (test : A → Bool) where
  filtered : (xs : List A) (x : A) → Among (filter test xs) x → Among xs x × (test x ≡ true)
  filtered [] x is = absurd is
  filtered (y ∷ ys) x is = go (filtered ys x) (test y) refl is
    where
      go : (Among (filter test ys) x → Among ys x × (test x ≡ true)) → (b : Bool) → test y ≡ b → Among (cond b (y ∷ filter test ys) (filter test ys)) x → Among (y ∷ ys) x × (test x ≡ true)
      go rest true passes (inl e) = (inl e, ap test (sym e) ∙ passes)
      go rest true passes (inr more) = (inr (rest more).0, (rest more).1)
      go rest false fails more = (inr (rest more).0, (rest more).1)

  in_filter : (xs : List A) (x : A) → Among xs x → test x ≡ true → Among (filter test xs) x
  in_filter [] x is passes = absurd is
  in_filter (y ∷ ys) x (inl e) passes = subst (λ b. Among (cond b (y ∷ filter test ys) (filter test ys)) x) (sym (ap test e ∙ passes)) (inl e)
  in_filter (y ∷ ys) x (inr is) passes = go (in_filter ys x is passes) (test y)
    where
      go : Among (filter test ys) x → (b : Bool) → Among (cond b (y ∷ filter test ys) (filter test ys)) x
      go rest true = inr rest
      go rest false = rest

  one_passes : (xs : List A) → list_any test xs ≡ true → (x : A) × Among xs x × (test x ≡ true)
  one_passes [] is = absurd (cc)
  one_passes (y ∷ ys) is = go (one_passes ys) (test y) refl is
    where
      go : (list_any test ys ≡ true → (x : A) × Among ys x × (test x ≡ true)) → (b : Bool) → test y ≡ b → b || list_any test ys ≡ true → (x : A) × Among (y ∷ ys) x × (test x ≡ true)
      go rest true passes _ = (y, inl refl, passes)
      go rest false fails more = ((rest more).0, inr (rest more).1, (rest more).2)

  any_passes : (xs : List A) (x : A) → Among xs x → test x ≡ true → list_any test xs ≡ true
  any_passes [] x is passes = absurd is
  any_passes (y ∷ ys) x (inl e) passes = ap (λ b. b || list_any test ys) (ap test e ∙ passes)
  any_passes (y ∷ ys) x (inr is) passes = or_right (test y) (list_any test ys) (any_passes ys x is passes)
    where
      or_right : (a b : Bool) → b ≡ true → a || b ≡ true
      or_right true b e = refl
      or_right false b e = e

element_at : {A : Type 0} (xs : List A) (k : ℕ) → k < length xs → (x : A) × (slice_get xs k ≡ Some x)
element_at [] k within = absurd (omega (arith, within))
element_at (x ∷ xs) zero within = (x, refl)
element_at (x ∷ xs) (suc k) within = element_at xs k (omega (arith, within))

-- ---- the live nodes

left_at : (p : ℕ) (nodes : List Seen) (lost : List ℕ) (node : Seen) → Among (live_from p nodes lost) node → (k : ℕ) × (slice_get nodes k ≡ Some node) × (is_lost lost (p + k) ≡ false)
left_at p [] lost node is = absurd is
left_at p (first ∷ nodes) lost node is = go (left_at (p + 1) nodes lost node) (is_lost lost p) refl is
  where
    later : ((k : ℕ) × (slice_get nodes k ≡ Some node) × (is_lost lost (p + 1 + k) ≡ false)) → (k : ℕ) × (slice_get (first ∷ nodes) k ≡ Some node) × (is_lost lost (p + k) ≡ false)
    later rest =
        let place : p + 1 + rest.0 ≡ p + suc rest.0 = omega arith in
        (suc rest.0, rest.1, subst (λ n. is_lost lost n ≡ false) place rest.2)

    go : (Among (live_from (p + 1) nodes lost) node → (k : ℕ) × (slice_get nodes k ≡ Some node) × (is_lost lost (p + 1 + k) ≡ false))
        → (b : Bool) → is_lost lost p ≡ b → Among (cond b (live_from (p + 1) nodes lost) (first ∷ live_from (p + 1) nodes lost)) node
        → (k : ℕ) × (slice_get (first ∷ nodes) k ≡ Some node) × (is_lost lost (p + k) ≡ false)
    go rest true gone more = later (rest more)
    go rest false lives (inl e) = let place : p ≡ p + zero = omega arith in (zero, ap Some e, subst (λ n. is_lost lost n ≡ false) place lives)
    go rest false lives (inr more) = later (rest more)

at_left : (p : ℕ) (nodes : List Seen) (lost : List ℕ) (node : Seen) (k : ℕ) → slice_get nodes k ≡ Some node → is_lost lost (p + k) ≡ false → Among (live_from p nodes lost) node
at_left p [] lost node k at lives = absurd (cc)
at_left p (first ∷ nodes) lost node zero at lives =
    let same : first ≡ node = cc in
    let place : p + zero ≡ p = omega arith in
    subst (λ b. Among (cond b (live_from (p + 1) nodes lost) (first ∷ live_from (p + 1) nodes lost)) node) (sym (subst (λ n. is_lost lost n ≡ false) place lives)) (inl same)
at_left p (first ∷ nodes) lost node (suc k) at lives =
    let place : p + suc k ≡ p + 1 + k = omega arith in
    go (at_left (p + 1) nodes lost node k at (subst (λ n. is_lost lost n ≡ false) place lives)) (is_lost lost p)
  where
    go : Among (live_from (p + 1) nodes lost) node → (b : Bool) → Among (cond b (live_from (p + 1) nodes lost) (first ∷ live_from (p + 1) nodes lost)) node
    go later true = later
    go later false = inr later

-- one more node
pub left_more : (p : ℕ) (nodes : List Seen) (lost : List ℕ) (node : Seen) → live_from p (nodes ++ node ∷ []) lost ≡ live_from p nodes lost ++ cond (is_lost lost (p + length nodes)) [] (node ∷ [])
left_more p [] lost node = let place : p ≡ p + zero = omega arith in ap (λ n. cond (is_lost lost n) [] (node ∷ [])) place
left_more p (first ∷ nodes) lost node =
    let place : p + 1 + length nodes ≡ p + suc (length nodes) = omega arith in
    go (left_more (p + 1) nodes lost node ∙ ap (λ n. live_from (p + 1) nodes lost ++ cond (is_lost lost n) [] (node ∷ [])) place) (is_lost lost p)
  where
    go : live_from (p + 1) (nodes ++ node ∷ []) lost ≡ live_from (p + 1) nodes lost ++ cond (is_lost lost (p + suc (length nodes))) [] (node ∷ [])
        → (b : Bool) → cond b (live_from (p + 1) (nodes ++ node ∷ []) lost) (first ∷ live_from (p + 1) (nodes ++ node ∷ []) lost)
        ≡ cond b (live_from (p + 1) nodes lost) (first ∷ live_from (p + 1) nodes lost) ++ cond (is_lost lost (p + suc (length nodes))) [] (node ∷ [])
    go later true = later
    go later false = ap (λ xs. first ∷ xs) later

-- ---- the processes of a node

pids_named : (own : Node) (n : ℕ) (pid : Pid) → Among (first_pids own n) pid → pid.node ≡ own
unfolding first_pids
pids_named own zero pid is = absurd is
pids_named own (suc n) pid is = go (pids_named own n pid) (in_either (first_pids own n) (pid_of own (suc n) ∷ []) pid is)
  where
    go : (Among (first_pids own n) pid → pid.node ≡ own) → Among (first_pids own n) pid ⊎ Among (pid_of own (suc n) ∷ []) pid → pid.node ≡ own
    go rest (inl before) = rest before
    go rest (inr (inl e)) = ap (λ (z : Pid). z.node) (sym e)
    go rest (inr (inr none)) = absurd none

pid_there : (own : Node) (n k : ℕ) → 1 ≤ k → k ≤ n → Among (first_pids own n) (pid_of own k)
unfolding first_pids
pid_there own zero k some few = absurd (omega (arith, some, few))
pid_there own (suc n) k some few = go (pid_there own n k some) (cases_eq k (suc n))
  where
    go : (k ≤ n → Among (first_pids own n) (pid_of own k)) → (k ≡ suc n) ⊎ (k ≢ suc n) → Among (first_pids own n ++ pid_of own (suc n) ∷ []) (pid_of own k)
    go rest (inl e) = in_second (first_pids own n) (pid_of own (suc n) ∷ []) (pid_of own k) (inl (ap (pid_of own) (sym e)))
    go rest (inr other) = in_first (first_pids own n) (pid_of own (suc n) ∷ []) (pid_of own k) (rest (omega (arith, few, other)))

-- ---- the list

some_home : (left homes : List Seen) (pid : Pid) → Among (pending_among left homes) pid → (home : Seen) × Among homes home × Among (pending_at left home) pid
some_home left [] pid is = absurd is
some_home left (first ∷ homes) pid is = go (some_home left homes pid) (in_either (pending_at left first) (pending_among left homes) pid is)
  where
    go : (Among (pending_among left homes) pid → (home : Seen) × Among homes home × Among (pending_at left home) pid)
        → Among (pending_at left first) pid ⊎ Among (pending_among left homes) pid → (home : Seen) × Among (first ∷ homes) home × Among (pending_at left home) pid
    go rest (inl here) = (first, inl refl, here)
    go rest (inr later) = ((rest later).0, inr (rest later).1, (rest later).2)

at_home : (left homes : List Seen) (home : Seen) (pid : Pid) → Among homes home → Among (pending_at left home) pid → Among (pending_among left homes) pid
at_home left [] home pid is there = absurd is
at_home left (first ∷ homes) home pid (inl e) there = in_first (pending_at left first) (pending_among left homes) pid (subst (λ (node : Seen). Among (pending_at left node) pid) (sym e) there)
at_home left (first ∷ homes) home pid (inr is) there = in_second (pending_at left first) (pending_among left homes) pid (at_home left homes home pid is there)

-- one more home
pub among_more : (left homes : List Seen) (home : Seen) → pending_among left (homes ++ home ∷ []) ≡ pending_among left homes ++ pending_at left home
among_more left [] home = append-nil (pending_at left home)
among_more left (first ∷ homes) home = ap (λ pids. pending_at left first ++ pids) (among_more left homes home) ∙ sym (append_assoc (pending_at left first) (pending_among left homes) (pending_at left home))

-- ---- loops

-- those that pass both of two tests
both_pass : (first second : Pid → Bool) (pids : List Pid) → filter second (filter first pids) ≡ filter (λ pid. first pid && second pid) pids
both_pass first second [] = refl
both_pass first second (pid ∷ pids) = go (first pid) (both_pass first second pids)
  where
    go : (b : Bool) → filter second (filter first pids) ≡ filter (λ pid. first pid && second pid) pids
        → filter second (cond b (pid ∷ filter first pids) (filter first pids)) ≡ cond (b && second pid) (pid ∷ filter (λ pid. first pid && second pid) pids) (filter (λ pid. first pid && second pid) pids)
    go true rest = ap (λ (l : List Pid). cond (second pid) (pid ∷ l) l) rest
    go false rest = rest

-- Of the ended of a home, those that are pending stand behind what was there, and others are still to be looked at.
abbrev pub Added : List Seen → List Pid → List Pid → List Pid → List Pid → Type 0
Added left before now rest ended = now ++ filter (is_untaken left) rest ≡ before ++ filter (is_untaken left) ended

pub all_added : (left : List Seen) (home : Seen) (before now rest ended : List Pid) → rest ≡ [] → ended ≡ filter (has_end home) (first_pids (own_of home) home.state.state.processes) → Added left before now rest ended
    → now ≡ before ++ pending_at left home
all_added left home before now rest ended none is added =
    sym (append-nil now) ∙ ap (λ (l : List Pid). now ++ filter (is_untaken left) l) (sym none) ∙ added
    ∙ ap (λ (l : List Pid). before ++ l) (ap (filter (is_untaken left)) is ∙ both_pass (has_end home) (is_untaken left) (first_pids (own_of home) home.state.state.processes))

module _ (left : List Seen) (before now old rest ended : List Pid) (pid : Pid) (is : old ≡ pid ∷ rest) where
  pub one_added : is_untaken left pid ≡ true → Added left before now old ended → Added left before (now ++ pid ∷ []) rest ended
  one_added pends added = append_assoc now (pid ∷ []) (filter (is_untaken left) rest)
      ∙ ap (λ b. now ++ cond b (pid ∷ filter (is_untaken left) rest) (filter (is_untaken left) rest)) (sym pends) ∙ ap (λ (l : List Pid). now ++ filter (is_untaken left) l) (sym is) ∙ added

  pub none_more : is_untaken left pid ≡ false → Added left before now old ended → Added left before now rest ended
  none_more taken added = ap (λ b. now ++ cond b (pid ∷ filter (is_untaken left) rest) (filter (is_untaken left) rest)) (sym taken) ∙ ap (λ (l : List Pid). now ++ filter (is_untaken left) l) (sym is) ∙ added

-- of elements as they are seen the first, with one more
taken_more : {A B : Type 0} (view : A → B) (xs : List A) (k : ℕ) (x : A) → k < length xs → x ≡ get_or xs k x → take (k + 1) (map view xs) ≡ take k (map view xs) ++ view x ∷ []
taken_more view xs k x within here =
    take_more (map view xs) k (view x) (omega (arith, within, length-map xs view)) ∙ ap (λ y. take k (map view xs) ++ y ∷ []) (get_or-map view xs k x (view x) within ∙ ap view (sym here))

-- one more of the live nodes
pub next_home : {T : Type 0} {g : Ghosts T} (left : List (Bor (NodeState T g))) (k : ℕ) (node : Bor (NodeState T g)) (pids : List Pid) → k < length left → node ≡ get_or left k node
    → pids ≡ pending_among (lent_as left) (take k (lent_as left)) → pids ++ pending_at (lent_as left) (seen_of node.now) ≡ pending_among (lent_as left) (take (k + 1) (lent_as left))
next_home {T} {g} left k node pids within here so_far =
    ap (λ (all : List Pid). all ++ pending_at (lent_as left) (seen_of node.now)) so_far
    ∙ sym (among_more (lent_as left) (take k (lent_as left)) (seen_of node.now))
    ∙ ap (pending_among (lent_as left)) (sym (taken_more (λ (z : Bor (NodeState T g)). seen_of z.now) left k node within here))

-- one more node, where it is left and where it is lost
module _ {A : Type 0} (view : A → Seen) (nodes : List A) (lost : List ℕ) (k : ℕ) (node : A) (within : k < length nodes) (here : node ≡ get_or nodes k node) where
  next_node : (before : List Seen) → before ≡ live_from 0 (take k (map view nodes)) lost → before ++ cond (is_lost lost k) [] (view node ∷ []) ≡ live_from 0 (take (k + 1) (map view nodes)) lost
  next_node before so_far =
      let many : 0 + length (take k (map view nodes)) ≡ k = counted in
      ap (λ (all : List Seen). all ++ cond (is_lost lost k) [] (view node ∷ [])) so_far
      ∙ ap (λ n. live_from 0 (take k (map view nodes)) lost ++ cond (is_lost lost n) [] (view node ∷ [])) (sym many)
      ∙ sym (left_more 0 (take k (map view nodes)) lost (view node))
      ∙ ap (λ (all : List Seen). live_from 0 all lost) (sym (taken_more view nodes k node within here))
    where
      counted : 0 + length (take k (map view nodes)) ≡ k
      counted = let same = length-map nodes view in let inside = length-take-le k (map view nodes) (omega (arith, within, same)) in omega (arith, inside)

  pub next_left : (before : List Seen) → before ≡ live_from 0 (take k (map view nodes)) lost → is_lost lost k ≡ false → before ++ view node ∷ [] ≡ live_from 0 (take (k + 1) (map view nodes)) lost
  next_left before so_far lives = ap (λ b. before ++ cond b [] (view node ∷ [])) (sym lives) ∙ next_node before so_far

  skipped : (before : List Seen) → before ≡ live_from 0 (take k (map view nodes)) lost → is_lost lost k ≡ true → before ≡ live_from 0 (take (k + 1) (map view nodes)) lost
  skipped before so_far gone = sym (append-nil before) ∙ ap (λ b. before ++ cond b [] (view node ∷ [])) (sym gone) ∙ next_node before so_far

pub next_lost : {A : Type 0} (view : A → Seen) (nodes : List A) (lost : List ℕ) (k : ℕ) → k < length nodes → (before : List Seen) → before ≡ live_from 0 (take k (map view nodes)) lost
    → is_lost lost k ≡ true → before ≡ live_from 0 (take (k + 1) (map view nodes)) lost
next_lost view nodes lost k within =
    let one = element_at nodes k within in
    skipped view nodes lost k one.0 within (sym (get_or_from_slice_get nodes k one.0 one.0 one.1))

-- a test of elements that are seen otherwise
pub any_map : {A B : Type 0} (f : A → B) (test : B → Bool) (xs : List A) → list_any (λ x. test (f x)) xs ≡ list_any test (map f xs)
any_map f test [] = refl
any_map f test (x ∷ xs) = ap (λ b. test (f x) || b) (any_map f test xs)

-- ---- nodes that are shown

-- the processes that a node has made are those of the numbers from 1
abbrev pub Numbered : Type 0
Numbered = (made : ℕ) (pid : Pid) → is_among made pid ≡ true → (1 ≤ number_in pid) × (number_in pid ≤ made) × (pid ≡ pid_of pid.node (number_in pid))

-- what a node has of its own processes as ended it made
abbrev pub EndedWereMade : Config → TimedFrameWorld → Type 0
EndedWereMade config w = (i : ℕ) (pid : Pid) → pid.node ≡ name_at config i → (w.node i).state.ended pid ≡ true → is_among (w.node i).state.processes pid ≡ true

pub is_not : (b : Bool) → not b ≡ true → b ≡ false
is_not false e = refl
is_not true e = absurd (cc)

module _ (config : Config) (w : TimedFrameWorld) (nodes : List Seen) (lost : List ℕ) (shows : ShowsNodes config nodes w) where
  there_of : (k : ℕ) (node : Seen) → slice_get nodes k ≡ Some node → is_place (length config) k ≡ true
  there_of k node at = lt-ltb k (length config) (subst (λ n. k < n) shows.size (slice_get_within nodes k node at))

  shown_at : (k : ℕ) → is_place (length config) k ≡ true → (node : Seen) × (slice_get nodes k ≡ Some node)
  shown_at k there = element_at nodes k (subst (λ n. k < n) (sym shows.size) ((Decides-ltb k (length config)).0 there))

  end_is : (k : ℕ) (node : Seen) (pid : Pid) → slice_get nodes k ≡ Some node → (w.node k).state.ended pid ≡ has_end node pid
  end_is k node pid at = ap (λ (s : Timed State). s.state.ended pid) (shows.each k node at).state

  own_is : (k : ℕ) (node : Seen) → slice_get nodes k ≡ Some node → own_of node ≡ name_at config k
  own_is k node at = ap (λ (names : List Node). get_or names 0 []) (shows.each k node at).names

  abbrev left : List Seen
  left = live_states nodes lost

  from_zero : (k : ℕ) → is_lost lost (0 + k) ≡ is_lost lost k
  from_zero k = let same : 0 + k ≡ k = omega arith in ap (is_lost lost) same

  pub listed_is : (pid : Pid) → Contains (pending_of nodes lost) pid → IsPending config (losing_of config w lost) pid
  listed_is pid listed =
      let home = some_home left left pid (among_of (pending_of nodes lost) pid listed) in
      let here = left_at 0 nodes lost home.0 home.1 in
      let passes = filtered (is_pending left home.0) (first_pids (own_of home.0) home.0.state.state.processes) pid home.2 in
      let other = one_passes (λ (node : Seen). not (has_end node pid)) left (second_so (has_end home.0 pid) _ passes.1) in
      let away = left_at 0 nodes lost other.0 other.1 in
      record {
        home = here.0;
        home_there = there_of here.0 home.0 here.1;
        home_left = sym (from_zero here.0) ∙ here.2;
        named = pids_named (own_of home.0) home.0.state.state.processes pid passes.0 ∙ own_is here.0 home.0 here.1;
        ended = end_is here.0 home.0 pid here.1 ∙ first_so (has_end home.0 pid) _ passes.1;
        other = away.0;
        other_there = there_of away.0 other.0 away.1;
        other_left = sym (from_zero away.0) ∙ away.2;
        untaken = end_is away.0 other.0 pid away.1 ∙ is_not (has_end other.0 pid) other.2;
      }

  module _ (numbered : Numbered) (made : EndedWereMade config w) where
    pub is_listed : (pid : Pid) → IsPending config (losing_of config w lost) pid → Contains (pending_of nodes lost) pid
    is_listed pid pending =
        let home = shown_at pending.home pending.home_there in
        let other = shown_at pending.other pending.other_there in
        let number = numbered (w.node pending.home).state.processes pid (made pending.home pid pending.named pending.ended) in
        let few : number_in pid ≤ home.0.state.state.processes = subst (λ (s : Timed State). number_in pid ≤ s.state.processes) (shows.each pending.home home.0 home.1).state number.1 in
        let own : pid.node ≡ own_of home.0 = pending.named ∙ sym (own_is pending.home home.0 home.1) in
        let same : pid_of (own_of home.0) (number_in pid) ≡ pid = ap (λ (node : Node). pid_of node (number_in pid)) (sym own) ∙ sym number.2 in
        let stands : Among (first_pids (own_of home.0) home.0.state.state.processes) pid =
        subst (Among (first_pids (own_of home.0) home.0.state.state.processes)) same (pid_there (own_of home.0) home.0.state.state.processes (number_in pid) number.0 few) in
        let has : has_end home.0 pid ≡ true = sym (end_is pending.home home.0 pid home.1) ∙ pending.ended in
        let lacks : has_end other.0 pid ≡ false = sym (end_is pending.other other.0 pid other.1) ∙ pending.untaken in
        let some : list_any (λ (node : Seen). not (has_end node pid)) left ≡ true =
        any_passes (λ (node : Seen). not (has_end node pid)) left other.0 (at_left 0 nodes lost other.0 pending.other other.1 (from_zero pending.other ∙ pending.other_left)) (ap not lacks) in
        contains_of (pending_of nodes lost) pid (at_home left left home.0 pid (at_left 0 nodes lost home.0 pending.home home.1 (from_zero pending.home ∙ pending.home_left))
        (in_filter (is_pending left home.0) (first_pids (own_of home.0) home.0.state.state.processes) pid stands (ap (λ b. b && list_any (λ (node : Seen). not (has_end node pid)) left) has ∙ some)))

    abbrev none_left : Type 0
    none_left = NonePendingLive config (losing_of config w lost)

    pub none_listed : pending_of nodes lost ≡ [] → none_left
    none_listed none home i pid home_there there home_left left named ended = go ((w.node i).state.ended pid) refl
      where
        go : (b : Bool) → (w.node i).state.ended pid ≡ b → (w.node i).state.ended pid ≡ true
        go true is = is
        go false is = absurd (among_of [] pid (subst (λ (pids : List Pid). Contains pids pid) none (is_listed pid (record {
          home = home;
          home_there = home_there;
          home_left = home_left;
          named = named;
          ended = ended;
          other = i;
          other_there = there;
          other_left = left;
          untaken = is;
        }))))

  pub empty_list : NonePendingLive config (losing_of config w lost) → pending_of nodes lost ≡ []
  empty_list none = go (pending_of nodes lost) refl
    where
      go : (pids : List Pid) → pending_of nodes lost ≡ pids → pending_of nodes lost ≡ []
      go [] is = is
      go (pid ∷ pids) is =
          let pending = listed_is pid (subst (λ (all : List Pid). Contains all pid) (sym is) (contains_of (pid ∷ pids) pid (inl refl))) in
          let taken = none pending.home pending.other pid pending.home_there pending.other_there pending.home_left pending.other_left pending.named pending.ended in
          absurd (cc (sym taken ∙ pending.untaken))

-- ---- where no node is lost

-- a run of nodes that know of no loss is one of nodes that may be lost
lifted_run : (config : Config) (es : List (Event Action)) (w v : TimedFrameWorld) → Leads (frame_machine config) w es v
    → LosingLeads (losing_frame_machine config) last_notice (losing_of config w []) (all_steps es) (losing_of config v [])
lifted_run config [] w v l = ap (λ (u : TimedFrameWorld). losing_of config u []) l
lifted_run config (e ∷ es) w v l =
    (losing_of config l.0 [], lifted config [] w l.0 e (happened (frame_machine config) w l.0 e l.1) refl, lifted_run config es l.0 v l.2)

pub reached_so : (config : Config) (es : List (Event Action)) (w : TimedFrameWorld) → Reaches config es w → LosingReaches config (all_steps es) (losing_of config w [])
reached_so config es w l = subst (λ (u : LosingFrameWorld). LosingLeads (losing_frame_machine config) last_notice u (all_steps es) (losing_of config w [])) (sym (start_is config))
    (lifted_run config es (start_of (frame_machine config)) w l)

pub none_of_plain : (config : Config) (w : TimedFrameWorld) → NonePending config (plain w) → NonePendingLive config (losing_of config w [])
none_of_plain config w none home i pid home_there there _ _ named ended = none home i pid home_there there named ended

pub plain_none : (config : Config) (w : TimedFrameWorld) → NonePendingLive config (losing_of config w []) → NonePending config (plain w)
plain_none config w none home i pid home_there there named ended = none home i pid home_there there refl refl named ended
