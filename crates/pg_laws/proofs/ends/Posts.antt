-- The exchange of each node is on the way to each other one until it is merged there, once.
use Rattle.std.proofs.Common.{◌≡◌, ◌≢◌, ℕ, Bool, true, false, not, ◌||◌, cond, length, List}
use Rattle.std.proofs.Common.{[], ◌∷◌, ◌++◌, None, Ok, Err, refl, ap, sym, ◌∙◌, subst}
use Rattle.std.specs.List.{IsDistinct}
use Rattle.pg_term.specs.Same.{same_atom}
use Rattle.pg_step.specs.PgGroup.Functions.{upd}
use Rattle.pg_step.proofs.PgGroup.Changes.{upd_at, upd_by}
use Rattle.pg_step.specs.PgExchange.GroupList.{GroupList}
use Rattle.pg_step.specs.PgMessageTypes.declared.message.Message.{Message}
use Rattle.pg_step.specs.PgMessageTypes.declared.message.Message.TheVariants.{Call, Reply, DelLock, Exchange, Down}
use Rattle.pg_step.specs.PgMessageTypes.declared.message.Request.TheVariants.{SetLock, Change}
use Rattle.pg_step.specs.Machines.Places.{is_place, is_pair}
use Rattle.pg_step.specs.Machines.Machine.{Event, Input, Taken, node_of, start_of}
use Rattle.pg_step.specs.Machines.Happened.{Happened}
use Rattle.pg_step.specs.Machines.Clocked.{plain}
use Rattle.pg_step.specs.Nodes.{Node}
use Rattle.pg_step.specs.State.{State}
use Rattle.pg_step.specs.Turns.{NodeTurn}
use Rattle.pg_step.specs.Peers.{is_bad_exchange, exchange}
use Rattle.pg_step.specs.declared.refusal.Refusal.TheVariants.{NotAMessage}
use Rattle.pg_step.specs.Step.{CLOCK_LIMIT, Action, taken}
use Rattle.pg_step.specs.Config.{Config, names_of, name_at, nodes_at, groups_at}
use Rattle.pg_step.specs.FrameMachine.{placed, node_step, machine_of, FrameWorld}
use Rattle.pg_step.proofs.Once.{is_same}
use Rattle.pg_step.proofs.Machines.Steps.{pair_apart}
use Rattle.pg_step.proofs.Machines.Sequences.{kept}
use Rattle.pg_step.proofs.Machines.Plain.{plain_from_start}
use Rattle.pg_laws.specs.Reached.{TimedFrameWorld, Reaches}
use Rattle.pg_laws.specs.Sent.{exchange_of, exchanges_in, is_reply}
use Rattle.pg_laws.proofs.ends.Apart.{same_place, pair_second, pair_swapped}
use Rattle.pg_laws.proofs.steps.Ways.{told_nothing, WayAfter, Grown, Shorter}
use Rattle.pg_laws.proofs.steps.Ways.{Unchanged, way_after, state_after, pair_there}
use Rattle.pg_laws.proofs.steps.Lossless.{NobodyLost, takes_all}
use Rattle.pg_laws.proofs.steps.Made.{StepMakes, Talking, Merging, Ending, TellsNothing, step_makes}

-- what is on the way from p where its exchange was merged, or not
abbrev pub post : Config → ℕ → Bool → List (Node × GroupList)
post config p merged = cond merged [] ((name_at config p, groups_at config p) ∷ [])

abbrev pub Posted : Config → FrameWorld → Type 0
Posted config w = (p i : ℕ) → is_pair (length config) i p ≡ true → exchanges_in (w.wire p i) ≡ post config p ((w.node i).merged (name_at config p))

pub posted_start : (config : Config) → Posted config (start_of (machine_of config))
posted_start config p i pair = go (is_pair (length config) p i) (pair_swapped (length config) i p pair)
  where
    go : (b : Bool) → b ≡ true → exchanges_in (cond b (Exchange (name_at config p) (groups_at config p) ∷ []) []) ≡ post config p false
    go true there = refl
    go false there = absurd (cc)

-- one exchange on the way was not merged, and is the last
pub taken_post : (config : Config) (p : ℕ) (merged : Bool) (reported : Node × GroupList) (rest : List (Node × GroupList)) → reported ∷ rest ≡ post config p merged
    → (merged ≡ false) × (reported ≡ (name_at config p, groups_at config p)) × (rest ≡ [])
taken_post config p true reported rest is = absurd (cc)
taken_post config p false reported rest is = (refl, cc, cc)

packet_is : {p q : ℕ} {x z : Message} → ◌≡◌ {A = Input Message Action} (Taken p x) (Taken q z) → (p ≡ q) × (x ≡ z)
packet_is e = (cc, cc)

module _ (config : Config) (apart : IsDistinct same_atom (names_of config)) (w v : FrameWorld) (e : Event Action) (h : Happened (machine_of config) w e v) (posted : Posted config w) where
  abbrev i : ℕ
  i = node_of e

  abbrev s : State
  s = w.node i

  -- nothing is sent that tells of groups
  none_sent : (t : NodeTurn) → StepMakes config i s h.input t → (q : ℕ) (b : Bool) → exchanges_in (cond b (t.sends (name_at config q)) []) ≡ []
  none_sent t kind q false = refl
  none_sent t (Talking talks nothing) q true = talks.exchanges (name_at config q)
  none_sent t (Merging p node groups taken good same) q true = ap (λ (u : NodeTurn). exchanges_in (u.sends (name_at config q))) same
  none_sent t (Ending p pid taken same) q true = ap (λ (u : NodeTurn). exchanges_in (u.sends (name_at config q))) same

  -- the ways to the node of the event
  fits : (p : ℕ) → is_pair (length config) i p ≡ true → (t : NodeTurn) → StepMakes config i s h.input t
      → WayAfter i h.input p i (h.turn.sends i) (w.wire p i) (v.wire p i) → exchanges_in (v.wire p i) ≡ post config p (t.state.merged (name_at config p))
  fits p pair t kind (Grown own new) = absurd (pair_apart (length config) i p pair (sym own))
  -- no peer is merged
  fits p pair t (Talking talks nothing) (Shorter packet other here taken old) =
      let tells : (exchange_of packet ≡ []) = (subst TellsNothing taken nothing).0 in
      sym (ap (λ xs. xs ++ exchanges_in (v.wire p i)) tells) ∙ sym (ap exchanges_in old) ∙ posted p i pair ∙ ap (λ (f : Node → Bool). post config p (f (name_at config p))) (sym talks.merged)
  fits p pair t (Talking talks nothing) (Unchanged other untaken same) =
      ap exchanges_in same ∙ posted p i pair ∙ ap (λ (f : Node → Bool). post config p (f (name_at config p))) (sym talks.merged)
  fits p pair t (Ending q pid taken same) (Shorter packet other here from old) =
      let tells : exchange_of packet ≡ [] = ap exchange_of (sym (packet_is (sym taken ∙ from)).1) in
      sym (ap (λ xs. xs ++ exchanges_in (v.wire p i)) tells) ∙ sym (ap exchanges_in old) ∙ posted p i pair ∙ ap (λ (u : NodeTurn). post config p (u.state.merged (name_at config p))) (sym same)
  fits p pair t (Ending q pid taken same) (Unchanged other untaken as_it_was) =
      ap exchanges_in as_it_was ∙ posted p i pair ∙ ap (λ (u : NodeTurn). post config p (u.state.merged (name_at config p))) (sym same)
  -- the exchange of p is taken
  fits p pair t (Merging q node groups taken good same) (Shorter packet other here from old) =
      let is = packet_is (sym taken ∙ from) in
      let reported : (node, groups) ∷ exchanges_in (v.wire p i) ≡ post config p (s.merged (name_at config p)) =
      ap (λ x. exchange_of x ++ exchanges_in (v.wire p i)) is.1 ∙ sym (ap exchanges_in old) ∙ posted p i pair in
      let now : t.state.merged (name_at config p) ≡ true =
      ap (λ (u : NodeTurn). u.state.merged (name_at config p)) same
      ∙ ap (λ z. upd same_atom s.merged (name_at config z) true (name_at config p)) is.0 ∙ upd_at same_atom s.merged (name_at config p) true (is_same (name_at config p)) in
      (taken_post config p (s.merged (name_at config p)) (node, groups) (exchanges_in (v.wire p i)) reported).2 ∙ ap (post config p) (sym now)
  -- the exchange of another is taken
  fits p pair t (Merging q node groups taken good same) (Unchanged other untaken as_it_was) =
      ap exchanges_in as_it_was ∙ posted p i pair
      ∙ upd_by same_atom s.merged (name_at config q) (λ b. post config p (s.merged (name_at config p)) ≡ post config p b) true (name_at config p)
      (λ names. absurd (untaken (Exchange node groups) refl (taken ∙ ap (λ z. Taken z (Exchange node groups)) (one names)))) (λ _. refl)
      ∙ ap (λ (u : NodeTurn). post config p (u.state.merged (name_at config p))) (sym same)
    where
      one : same_atom (name_at config q) (name_at config p) ≡ true → q ≡ p
      one = same_place config apart q p (pair_second (length config) i q (pair_there (machine_of config) w v e h q (Exchange node groups) taken)) (pair_second (length config) i p pair)

  -- the ways to another node
  elsewhere : (p j : ℕ) → j ≢ i → WayAfter i h.input p j (h.turn.sends j) (w.wire p j) (v.wire p j) → exchanges_in (v.wire p j) ≡ exchanges_in (w.wire p j)
  elsewhere p j other (Grown own new) =
      let t = step_makes config i s h.input h.turn h.made in
      ap exchanges_in new ∙ told_nothing exchange_of (w.wire p j) (h.turn.sends j) (ap (λ u. exchanges_in (u.sends j)) t.1 ∙ none_sent t.0 t.2 j (is_place (length config) j))
  elsewhere p j other (Shorter packet apart here taken old) = absurd (other here)
  elsewhere p j other (Unchanged apart untaken same) = ap exchanges_in same

  pub posted_event : Posted config v
  posted_event p j pair = state_after (machine_of config) w v e h (λ u. exchanges_in (v.wire p j) ≡ post config p (u.merged (name_at config p))) j
      (λ own.
      let t = step_makes config i s h.input h.turn h.made in
      let here : is_pair (length config) i p ≡ true = subst (λ z. is_pair (length config) z p ≡ true) own pair in
      subst (λ z. exchanges_in (v.wire p z) ≡ post config p (h.turn.state.merged (name_at config p))) (sym own)
      (fits p here t.0 t.2 (way_after (machine_of config) w v e h p i) ∙ ap (λ u. post config p (u.state.merged (name_at config p))) (sym t.1)))
      (λ other. elsewhere p j other (way_after (machine_of config) w v e h p j) ∙ posted p j pair)

module _ (config : Config) (apart : IsDistinct same_atom (names_of config)) where
  pub posted_timed : (es : List (Event Action)) (w : TimedFrameWorld) → Reaches config es w → Posted config (plain w)
  posted_timed es w l =
      kept (machine_of config) (Posted config) (posted_event config apart) es (start_of (machine_of config)) (plain w)
      (plain_from_start (machine_of config) CLOCK_LIMIT es w l) (posted_start config)

-- an exchange that is next is none that is refused
pub good_exchange : (config : Config) (w : FrameWorld) → Posted config w → (i p : ℕ) (node : Node) (groups : GroupList) (rest : List Message) → is_pair (length config) i p ≡ true
    → w.wire p i ≡ Exchange node groups ∷ rest → is_bad_exchange (name_at config p) node (w.node i) ≡ false
good_exchange config w posted i p node groups rest pair first =
    let reported = taken_post config p ((w.node i).merged (name_at config p)) (node, groups) (exchanges_in rest) (sym (ap exchanges_in first) ∙ posted p i pair) in
    let named : node ≡ name_at config p = ap (λ x. x.0) reported.1 in
    ap (λ b. not (same_atom node (name_at config p)) || b) reported.0
    ∙ ap (λ x. not (same_atom x (name_at config p)) || false) named ∙ ap (λ b. not b || false) (is_same (name_at config p))

-- no packet but a reply is refused
none_taken : (config : Config) (w : FrameWorld) → Posted config w → (i p : ℕ) (x : Message) (rest : List Message) → is_pair (length config) i p ≡ true
    → w.wire p i ≡ x ∷ rest → is_reply x ≡ false → placed config (taken (nodes_at config i) (name_at config p) x (w.node i)) ≢ None
none_taken config w posted i p (Call reference (SetLock name)) rest pair first other e = absurd (cc)
none_taken config w posted i p (Call reference (Change update)) rest pair first other e = absurd (cc)
none_taken config w posted i p (Reply reference said) rest pair first other e = absurd (cc)
none_taken config w posted i p (DelLock name reference) rest pair first other e = absurd (cc)
none_taken config w posted i p (Down pid) rest pair first other e = absurd (cc)
none_taken config w posted i p (Exchange node groups) rest pair first other e =
    go (is_bad_exchange (name_at config p) node (w.node i)) (good_exchange config w posted i p node groups rest pair first) e
  where
    go : (b : Bool) → b ≡ false → placed config (cond b (Err NotAMessage) (Ok (exchange (name_at config p) groups (w.node i)))) ≡ None → ⊥
    go true good none = absurd (cc)
    go false good none = absurd (cc)

pub none_refused : (config : Config) (w : FrameWorld) → NobodyLost w → Posted config w → (i p : ℕ) (x : Message) (rest : List Message) → is_pair (length config) i p ≡ true
    → w.wire p i ≡ x ∷ rest → is_reply x ≡ false → node_step config i (w.node i) (Taken p x) ≢ None
none_refused config w nobody posted i p x rest pair first other e =
    none_taken config w posted i p x rest pair first other
    (ap (placed config) (sym (takes_all (nodes_at config i) (name_at config p) x (w.node i) (nobody i))) ∙ e)
