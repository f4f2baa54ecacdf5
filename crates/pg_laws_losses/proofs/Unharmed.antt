-- No packet on the way to a node that is not lost is refused there, but by a full clock, where it is from a node whose loss was
-- not seen.
use Rattle.std.proofs.Common.{◌≡◌, ◌≢◌, ◌⊎◌, inl, inr, ℕ, Bool, true, false, not, ◌||◌, cond, length, map, take, drop}
use Rattle.std.proofs.Common.{List, [], ◌∷◌, ◌++◌, Option, Some, None, Result, Ok, Err, refl, ap, sym, ◌∙◌, subst}
use Rattle.std.specs.Prelude.{option_map}
use Rattle.std.specs.List.{IsDistinct}
use Rattle.std.proofs.lemmas.List.{take-append-drop}
use Rattle.pg_term.specs.Same.{same_atom}
use Rattle.pg_laws.specs.PgExchange.GroupList.{GroupList}
use Rattle.pg_laws.specs.PgMessageTypes.declared.message.Message.{Message}
use Rattle.pg_laws.specs.PgMessageTypes.declared.message.Message.TheVariants.{Call, Reply, DelLock, Exchange, Down}
use Rattle.pg_laws.specs.PgMessageTypes.declared.message.Request.TheVariants.{SetLock, Change}
use Rattle.pg_laws.specs.PgStep.Machines.Happened.{Happened}
use Rattle.pg_laws.specs.PgStep.Machines.Losing.{Noticed, Sent, Last, LosingEvent, mapped_turn, nobody_gone}
use Rattle.pg_laws.specs.PgStep.Machines.Machine.{Input, Turn, Event, Taken, Own, node_of, start_of}
use Rattle.pg_laws.specs.PgStep.Machines.Places.{is_pair, is_place}
use Rattle.pg_laws.proofs.PgStep.Machines.Places.{by_place}
use Rattle.pg_laws.proofs.PgStep.Machines.Plain.{plain_start}
use Rattle.pg_laws.proofs.PgStep.Machines.Steps.{pair_apart}
use Rattle.pg_laws.specs.PgStep.Config.{Config, names_of, name_at, nodes_at, groups_at}
use Rattle.pg_laws.specs.PgStep.FrameMachine.{losing_frame_machine, losing_machine_of, node_step, place_turn, placed}
use Rattle.pg_laws.specs.PgStep.Losses.{see_loss}
use Rattle.pg_laws.specs.PgStep.LossLaws.{LosingFrameWorld}
use Rattle.pg_laws.specs.PgStep.Nodes.{Node, Nodes}
use Rattle.pg_laws.specs.PgStep.Peers.{exchange, is_bad_exchange}
use Rattle.pg_laws.specs.PgStep.State.{State, live_nodes}
use Rattle.pg_laws.specs.PgStep.Step.{CLOCK_LIMIT, Action, taken}
use Rattle.pg_laws.specs.PgStep.Turns.{NodeTurn, Report}
use Rattle.pg_laws.specs.PgStep.declared.refusal.Refusal.{Refusal}
use Rattle.pg_laws.specs.PgStep.declared.refusal.Refusal.TheVariants.{NodeLost, NotAMessage}
use Rattle.pg_laws.specs.History.{all_reported}
use Rattle.pg_laws.specs.Sent.{exchange_of, exchanges_in}
use Rattle.pg_laws.proofs.ends.Apart.{pair_first, pair_second, same_place}
use Rattle.pg_laws.proofs.locks.Moved.{replies_taken}
use Rattle.pg_laws.proofs.references.Keys.{atoms, read_at, read_other}
use Rattle.pg_laws.proofs.steps.Made.{StepMakes, Talking, Merging, Ending}
use Rattle.pg_laws.proofs.steps.Made.{TellsNothing, sends_no_exchange, step_makes}
use Rattle.pg_laws.proofs.steps.Ways.{WayAfter, Grown, Shorter, Unchanged, pair_there}
use Rattle.pg_laws.proofs.steps.Ways.{state_after, told_append, told_nothing, way_after}
use Rattle.pg_laws_losses.specs.Reached.{LosingReaches}
use Rattle.pg_laws_losses.proofs.Bridge.{Has, Left, live_at, near_at, next_left, not_true}
use Rattle.pg_laws_losses.proofs.Lasts.{made_stays}
use Rattle.pg_laws_losses.proofs.Lossy.{Lossy, bare, Passed, Went, Died, kept_past, Makes, Steps, Sees, makes, noted}

-- ---- the exchanges on a way

abbrev pub told_of : Noticed Message → List (Node × GroupList)
told_of (Sent x) = exchange_of x
told_of Last = []

abbrev pub told : List (Noticed Message) → List (Node × GroupList)
told xs = all_reported told_of xs

told_sent : (xs : List Message) → told (map Sent xs) ≡ exchanges_in xs
told_sent [] = refl
told_sent (x ∷ xs) = ap (λ ys. exchange_of x ++ ys) (told_sent xs)

-- what is on the way from p tells its groups once at most, and not where it was merged
abbrev pub Post : Config → ℕ → Bool → List (Node × GroupList) → Type 0
Post config p merged xs = (xs ≡ []) ⊎ ((xs ≡ (name_at config p, groups_at config p) ∷ []) × (merged ≡ false))

first_of_one : {A : Type 0} (x : A) (ys zs : List A) → ys ++ zs ≡ x ∷ [] → (ys ≡ []) ⊎ (ys ≡ x ∷ [])
first_of_one x [] zs e = inl refl
first_of_one x (y ∷ []) zs e = let one : y ≡ x = cc in inr (ap (λ z. z ∷ []) one)
first_of_one x (y ∷ z ∷ ys) zs e = absurd (cc)

first_of_none : {A : Type 0} (ys zs : List A) → ys ++ zs ≡ [] → ys ≡ []
first_of_none [] zs e = refl
first_of_none (y ∷ ys) zs e = absurd (cc)

-- of a part of the way
part_post : (config : Config) (p : ℕ) (merged : Bool) (all part rest : List (Node × GroupList)) → part ++ rest ≡ all → Post config p merged all → Post config p merged part
part_post config p merged all part rest e (inl none) = inl (first_of_none part rest (e ∙ none))
part_post config p merged all part rest e (inr one) = go (first_of_one (name_at config p, groups_at config p) part rest (e ∙ one.0))
  where
    go : (part ≡ []) ⊎ (part ≡ (name_at config p, groups_at config p) ∷ []) → Post config p merged part
    go (inl none) = inl none
    go (inr whole) = inr (whole, one.1)

-- where the first is taken
rest_post : (config : Config) (p : ℕ) (merged later : Bool) (x : Node × GroupList) (xs : List (Node × GroupList)) → Post config p merged (x ∷ xs) → Post config p later xs
rest_post config p merged later x xs (inl none) = absurd (cc)
rest_post config p merged later x xs (inr one) = inl (cc (one.0))

abbrev pub Posts : Config → Lossy → Type 0
Posts config w = (p i : ℕ) → is_pair (length config) i p ≡ true → (w.world.node i).lost (name_at config p) ≡ false → Post config p ((w.world.node i).merged (name_at config p)) (told (w.world.wire p i))

pub same_input : {p q : ℕ} {x z : Noticed Message} → ◌≡◌ {A = Input (Noticed Message) Action} (Taken p x) (Taken q z) → (p ≡ q) × (x ≡ z)
same_input e = (cc, cc)

pub noted_packet : (given : Input Message Action) (p : ℕ) (packet : Noticed Message) → noted given ≡ Taken p packet → (x : Message) × (given ≡ Taken p x) × (packet ≡ Sent x)
noted_packet (Taken q x) p packet e =
    let from : q ≡ p = cc in
    let is : Sent x ≡ packet = cc in
    (x, ap (λ z. Taken z x) from, sym is)
noted_packet (Own action) p packet e = absurd (cc)

given_packet : {p q : ℕ} {x z : Message} → ◌≡◌ {A = Input Message Action} (Taken p x) (Taken q z) → (p ≡ q) × (x ≡ z)
given_packet e = (cc, cc)

module _ (config : Config) (apart : IsDistinct same_atom (names_of config)) (w v : Lossy) (d : Event Action) (h : Happened (losing_machine_of config) w.world d v.world) (posts : Posts config w) where
  abbrev i : ℕ
  i = node_of d

  abbrev s : State
  s = w.world.node (node_of d)

  made : Makes config (node_of d) (w.world.node (node_of d)) h.input h.turn
  made = makes config (node_of d) (w.world.node (node_of d)) h.input h.turn h.made

  names_apart : (p q : ℕ) → is_place (length config) p ≡ true → is_place (length config) q ≡ true → p ≢ q → name_at config p ≢ name_at config q
  names_apart p q hp hq n e = n (same_place config apart p q hp hq (ap (same_atom (name_at config p)) (sym e) ∙ atoms.refl (name_at config p)))

  -- nothing is sent that tells of groups
  none_sent : Makes config (node_of d) (w.world.node (node_of d)) h.input h.turn → (y : ℕ) → told (h.turn.sends y) ≡ []
  none_sent (Steps given t is made_ same) y = ap (λ (u : Turn State (Noticed Message) Report). told (u.sends y)) same ∙ (told_sent (t.sends y) ∙ sends_no_exchange config (node_of d) (w.world.node (node_of d)) given t made_ y)
  none_sent (Sees p is not_yet same) y = ap (λ (u : Turn State (Noticed Message) Report). told (u.sends y)) same ∙ (told_sent (cond {A = List Message} (is_place (length config) y) [] []) ∙ none (is_place (length config) y))
    where
      none : (b : Bool) → exchanges_in (cond b [] []) ≡ []
      none true = refl
      none false = refl

  module _ (p : ℕ) (pair : is_pair (length config) (node_of d) p ≡ true) (old : Post config p ((w.world.node (node_of d)).merged (name_at config p)) (told (w.world.wire p (node_of d)))) where
    abbrev old_merged : Bool
    old_merged = (w.world.node (node_of d)).merged (name_at config p)

    -- a packet that tells nothing is taken, or none of this way
    shorter : (later : Bool) → later ≡ old_merged → (packet : Noticed Message) → told_of packet ≡ [] → w.world.wire p (node_of d) ≡ packet ∷ v.world.wire p (node_of d) → Post config p later (told (v.world.wire p (node_of d)))
    shorter later same packet nothing first =
        subst (λ b. Post config p b (told (v.world.wire p (node_of d)))) (sym same)
        (subst (λ xs. Post config p old_merged (xs ++ told (v.world.wire p (node_of d)))) nothing (subst (λ xs. Post config p old_merged (told xs)) first old))

    stays : (later : Bool) → later ≡ old_merged → v.world.wire p (node_of d) ≡ w.world.wire p (node_of d) → Post config p later (told (v.world.wire p (node_of d)))
    stays later same way = subst (λ b. Post config p b (told (v.world.wire p (node_of d)))) (sym same) (subst (λ xs. Post config p old_merged (told xs)) (sym way) old)

    stepped : (given : Input Message Action) (t : NodeTurn) → h.input ≡ noted given → StepMakes config (node_of d) (w.world.node (node_of d)) given t
        → WayAfter (node_of d) h.input p (node_of d) (h.turn.sends (node_of d)) (w.world.wire p (node_of d)) (v.world.wire p (node_of d)) → Post config p (t.state.merged (name_at config p)) (told (v.world.wire p (node_of d)))
    stepped given t is kind (Grown own new) = absurd (pair_apart (length config) (node_of d) p pair (sym own))
    stepped given t is (Talking talks nothing) (Shorter packet other here from first) =
        let x = noted_packet given p packet (sym is ∙ from) in
        let none : exchange_of x.0 ≡ [] = (subst TellsNothing x.1 nothing).0 in
        shorter (t.state.merged (name_at config p)) (ap (λ (f : Node → Bool). f (name_at config p)) talks.merged) packet (ap told_of x.2 ∙ none) first
    stepped given t is (Talking talks nothing) (Unchanged other untaken same) = stays (t.state.merged (name_at config p)) (ap (λ (f : Node → Bool). f (name_at config p)) talks.merged) same
    stepped given t is (Ending q pid from_ same_) (Shorter packet other here from first) =
        let x = noted_packet given p packet (sym is ∙ from) in
        let down = given_packet (sym from_ ∙ x.1) in
        shorter (t.state.merged (name_at config p)) (ap (λ (u : NodeTurn). u.state.merged (name_at config p)) same_) packet (ap told_of x.2 ∙ ap exchange_of (sym down.1)) first
    stepped given t is (Ending q pid from_ same_) (Unchanged other untaken same) = stays (t.state.merged (name_at config p)) (ap (λ (u : NodeTurn). u.state.merged (name_at config p)) same_) same
    stepped given t is (Merging q node groups from_ good same_) (Shorter packet other here from first) =
        let x = noted_packet given p packet (sym is ∙ from) in
        let it = given_packet (sym from_ ∙ x.1) in
        let tells : told_of packet ≡ (node, groups) ∷ [] = ap told_of x.2 ∙ ap exchange_of (sym it.1) in
        rest_post config p old_merged (t.state.merged (name_at config p)) (node, groups) (told (v.world.wire p (node_of d)))
        (subst (λ xs. Post config p old_merged (xs ++ told (v.world.wire p (node_of d)))) tells (subst (λ xs. Post config p old_merged (told xs)) first old))
    stepped given t is (Merging q node groups from_ good same_) (Unchanged other untaken same) =
        let there = pair_there (losing_machine_of config) w.world v.world d h q (Sent (Exchange node groups)) (is ∙ ap noted from_) in
        let differ : p ≢ q = λ e. untaken (Sent (Exchange node groups)) refl (is ∙ (ap noted from_ ∙ ap (λ z. Taken z (Sent (Exchange node groups))) (sym e))) in
        let names = names_apart p q (pair_second (length config) (node_of d) p pair) (pair_second (length config) (node_of d) q there) differ in
        stays (t.state.merged (name_at config p)) (ap (λ (u : NodeTurn). u.state.merged (name_at config p)) same_ ∙ read_other same_atom atoms (w.world.node (node_of d)).merged (name_at config q) true (name_at config p) names) same

    after : Makes config (node_of d) (w.world.node (node_of d)) h.input h.turn
        → WayAfter (node_of d) h.input p (node_of d) (h.turn.sends (node_of d)) (w.world.wire p (node_of d)) (v.world.wire p (node_of d))
        → h.turn.state.lost (name_at config p) ≡ false → Post config p (h.turn.state.merged (name_at config p)) (told (v.world.wire p (node_of d)))
    after (Steps given t is made_ same) way known =
        let kind = step_makes config (node_of d) (w.world.node (node_of d)) given t made_ in
        subst (λ (u : Turn State (Noticed Message) Report). Post config p (u.state.merged (name_at config p)) (told (v.world.wire p (node_of d)))) (sym same)
        (subst (λ (u : Turn State Message Report). Post config p (u.state.merged (name_at config p)) (told (v.world.wire p (node_of d)))) (sym kind.1) (stepped given kind.0 is kind.2 way))
    after (Sees q is not_yet same) (Grown own new) known = absurd (pair_apart (length config) (node_of d) p pair (sym own))
    after (Sees q is not_yet same) (Shorter packet other here from first) known =
        let one = same_input (sym is ∙ from) in
        let lost : h.turn.state.lost (name_at config p) ≡ true = ap (λ (u : Turn State (Noticed Message) Report). u.state.lost (name_at config p)) same
        ∙ read_at same_atom atoms (w.world.node (node_of d)).lost (name_at config q) true (name_at config p) (ap (name_at config) (sym one.0)) in
        absurd (cc (sym known ∙ lost))
    after (Sees q is not_yet same) (Unchanged other untaken way) known =
        let there = pair_there (losing_machine_of config) w.world v.world d h q Last is in
        let differ : p ≢ q = λ e. untaken Last refl (is ∙ ap (λ z. Taken z Last) (sym e)) in
        let names = names_apart p q (pair_second (length config) (node_of d) p pair) (pair_second (length config) (node_of d) q there) differ in
        stays (h.turn.state.merged (name_at config p)) (ap (λ (u : Turn State (Noticed Message) Report). u.state.merged (name_at config p)) same
        ∙ read_other same_atom atoms (w.world.node (node_of d)).merged (name_at config q) true (name_at config p) names) way

  pub elsewhere : (p j : ℕ) → j ≢ node_of d → WayAfter (node_of d) h.input p j (h.turn.sends j) (w.world.wire p j) (v.world.wire p j) → told (v.world.wire p j) ≡ told (w.world.wire p j)
  elsewhere p j other (Grown own new) = ap told new ∙ told_nothing told_of (w.world.wire p j) (h.turn.sends j) (none_sent made j)
  elsewhere p j other (Shorter packet apart_ here taken_ old) = absurd (other here)
  elsewhere p j other (Unchanged apart_ untaken same) = ap told same

  pub event_posts : Posts config v
  event_posts p j pair = state_after (losing_machine_of config) w.world v.world d h (λ u. u.lost (name_at config p) ≡ false → Post config p (u.merged (name_at config p)) (told (v.world.wire p j))) j
      (λ own known.
      let here : is_pair (length config) (node_of d) p ≡ true = subst (λ z. is_pair (length config) z p ≡ true) own pair in
      let before : (w.world.node (node_of d)).lost (name_at config p) ≡ false = not_true ((w.world.node (node_of d)).lost (name_at config p)) (λ was. absurd_so known ((made_stays config (node_of d) (w.world.node (node_of d)) h.input h.turn made).lost (name_at config p) was)) in
      subst (λ z. Post config p (h.turn.state.merged (name_at config p)) (told (v.world.wire p z))) (sym own)
      (after p here (posts p (node_of d) here before) made (way_after (losing_machine_of config) w.world v.world d h p (node_of d)) known))
      (λ other known. subst (Post config p ((w.world.node j).merged (name_at config p))) (sym (elsewhere p j other (way_after (losing_machine_of config) w.world v.world d h p j))) (posts p j pair known))
    where
      absurd_so : {b : Bool} → b ≡ false → b ≡ true → ⊥
      absurd_so e f = absurd (cc (sym e ∙ f))

module _ (config : Config) (apart : IsDistinct same_atom (names_of config)) where
  pub passed_posts : (w v : Lossy) (e : LosingEvent Action) → Passed config w v e → Posts config w → Posts config v
  passed_posts w v e (Went d is lives h same) old = event_posts config apart w v d h old
  passed_posts w v e (Died i keep is there lives cut gone) old = died_posts
    where
      died_posts : Posts config v
      died_posts p j pair known =
          let before : (w.world.node j).lost (name_at config p) ≡ false = ap (λ u. (u.node j).lost (name_at config p)) (sym cut) ∙ known in
          subst (λ u. Post config p ((u.node j).merged (name_at config p)) (told (u.wire p j))) (sym cut)
          (by_place w.world.wire i _ (λ (f : ℕ → List (Noticed Message)). Post config p ((w.world.node j).merged (name_at config p)) (told (f j))) p
          (λ own. cut_post (is_pair (length config) i j) (keep j) (subst (λ k. Post config p ((w.world.node j).merged (name_at config p)) (told (w.world.wire k j))) own (old p j pair before)))
          (λ other. old p j pair before))
        where
          cut_post : (b : Bool) (k : ℕ) → Post config p ((w.world.node j).merged (name_at config p)) (told (w.world.wire i j))
              → Post config p ((w.world.node j).merged (name_at config p)) (told (cond b (take k (w.world.wire i j) ++ Last ∷ []) (w.world.wire i j)))
          cut_post false k post = post
          cut_post true k post =
              let way = w.world.wire i j in
              let all : told (take k way ++ Last ∷ []) ++ told (drop k way) ≡ told way =
              ap (λ xs. xs ++ told (drop k way)) (told_nothing told_of (take k way) (Last ∷ []) refl) ∙ (sym (told_append told_of (take k way) (drop k way)) ∙ ap told (take-append-drop k way)) in
              part_post config p ((w.world.node j).merged (name_at config p)) (told way) (told (take k way ++ Last ∷ [])) (told (drop k way)) all post

  pub start_posts : Posts config (nobody_gone (start_of (losing_machine_of config)))
  start_posts p i pair known = go (is_pair (length config) p i)
    where
      go : (b : Bool) → Post config p false (told (map Sent (cond b (Exchange (name_at config p) (groups_at config p) ∷ []) [])))
      go true = inr (refl, refl)
      go false = inl refl

  pub posted : (es : List (LosingEvent Action)) (w : LosingFrameWorld) → LosingReaches config es w → Posts config (bare w)
  posted es w l = kept_past config (Posts config) passed_posts es (nobody_gone (start_of (losing_frame_machine config))) w l
      (subst (λ u. Posts config (nobody_gone u)) (sym (plain_start (losing_machine_of config) CLOCK_LIMIT)) start_posts)

  -- ---- what is taken

  no_turn : {A B : Type 0} (f : A → B) (o : Option A) → option_map f o ≡ None → o ≡ None
  no_turn f None e = refl
  no_turn f (Some x) e = absurd (cc)

  none_placed : (r : Result NodeTurn Refusal) (t : NodeTurn) → r ≡ Ok t → placed config r ≡ None → ⊥
  none_placed (Ok t) u e none = absurd (cc)
  none_placed (Err refusal) u e none = absurd (cc)

  good_post : (p : ℕ) (merged : Bool) (node : Node) (groups : GroupList) (rest : List (Node × GroupList)) → Post config p merged ((node, groups) ∷ rest) → not (same_atom node (name_at config p)) || merged ≡ false
  good_post p merged node groups rest (inl none) = absurd (cc)
  good_post p merged node groups rest (inr one) =
      let named : node ≡ name_at config p = ap (λ xs. first_name xs) one.0 in
      ap (λ b. not (same_atom node (name_at config p)) || b) one.1 ∙ (ap (λ x. not (same_atom x (name_at config p)) || false) named ∙ ap (λ b. not b || false) (atoms.refl (name_at config p)))
    where
      first_name : List (Node × GroupList) → Node
      first_name [] = node
      first_name (x ∷ xs) = x.0

  module _ (v : Lossy) (has : Has config apart v) (posts : Posts config v) (i p : ℕ) (pair : is_pair (length config) i p ≡ true) (lives : v.gone i ≡ false) (known : (v.world.node i).lost (name_at config p) ≡ false) where
    abbrev m : Nodes
    m = live_nodes (nodes_at config i) (v.world.node i)

    abbrev here : is_place (length config) i ≡ true
    here = pair_first (length config) i p pair

    abbrev there : is_place (length config) p ≡ true
    there = pair_second (length config) i p pair

    is_taken : (x : Message) (rest : List (Noticed Message)) → v.world.wire p i ≡ Sent x ∷ rest → placed config (taken (live_nodes (nodes_at config i) (v.world.node i)) (name_at config p) x (v.world.node i)) ≡ None → ⊥
    is_taken (Call r (SetLock name)) rest first e = absurd (cc)
    is_taken (Call r (Change update)) rest first e = absurd (cc)
    is_taken (DelLock name r) rest first e = absurd (cc)
    is_taken (Down pid) rest first e = absurd (cc)
    is_taken (Reply r said) rest first e =
        let others = next_left (v.gone p) (Reply r said) rest (has.ways p i) (subst (λ z. Left (v.gone p) z (has.ways p i)) first (has.cut p i there here (λ same. pair_apart (length config) i p pair (sym same)) known)) in
        let made_ = replies_taken has.world (name_at config i) (name_at config p) r said others.0 (live_at config apart v has i here lives) (near_at config apart v has i p here there lives known) has.inv
        (has.shows.wire p i there here ∙ others.1) in
        none_placed (taken (live_nodes (nodes_at config i) (v.world.node i)) (name_at config p) (Reply r said) (v.world.node i)) made_.0
        (sym (λ k. taken (has.shows.seat i here k) (name_at config p) (Reply r said) (has.shows.node i here k)) ∙ made_.1) e
    is_taken (Exchange node groups) rest first e =
        go (is_bad_exchange (name_at config p) node (v.world.node i))
        (good_post p ((v.world.node i).merged (name_at config p)) node groups (told rest) (subst (λ xs. Post config p ((v.world.node i).merged (name_at config p)) (told xs)) first (posts p i pair known))) e
      where
        go : (b : Bool) → b ≡ false → placed config (cond b (Err NotAMessage) (Ok (exchange (name_at config p) groups (v.world.node i)))) ≡ None → ⊥
        go true good none = absurd (cc)
        go false good none = absurd (cc)

    pub not_refused : (packet : Noticed Message) (rest : List (Noticed Message)) → v.world.wire p i ≡ packet ∷ rest → (losing_machine_of config).step i (v.world.node i) (Taken p packet) ≢ None
    not_refused (Sent x) rest first e =
        let none : node_step config i (v.world.node i) (Taken p x) ≡ None = no_turn (mapped_turn Sent) (node_step config i (v.world.node i) (Taken p x)) e in
        is_taken x rest first (sym (ap (λ b. placed config (cond b (Err NodeLost) (taken (live_nodes (nodes_at config i) (v.world.node i)) (name_at config p) x (v.world.node i)))) known) ∙ none)
    not_refused Last rest first e =
        absurd (cc (sym (ap (λ b. option_map (mapped_turn {Q = Noticed Message} Sent) (cond b None (Some (place_turn config (see_loss (name_at config p) (v.world.node i)))))) known) ∙ e))
