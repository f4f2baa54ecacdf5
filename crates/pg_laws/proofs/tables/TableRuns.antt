-- The table of a node over a run.
use Rattle.std.proofs.Common.{◌≡◌, ◌≢◌, ℕ, ◌+◌, Bool, true, false, not, ◌||◌, ◌&&◌, cond, nat_eq, length}
use Rattle.std.proofs.Common.{List, [], ◌∷◌, ◌++◌, Option, Some, None, refl, ap, sym, ◌∙◌, subst}
use Rattle.std.specs.List.{IsDistinct}
use Rattle.std.proofs.lemmas.Bool.{eq-eqb, ne_eqb}
use Rattle.std.proofs.lemmas.List.{append-nil, length-append}
use Rattle.pg_term.specs.declared.term.Term.{Term}
use Rattle.pg_term.specs.Same.{same_atom, same_term}
use Rattle.pg_step.specs.PgGroup.declared.update.Update.{Update}
use Rattle.pg_step.specs.PgGroup.Value.{name_of}
use Rattle.pg_step.specs.PgExchange.GroupList.{GroupList}
use Rattle.pg_step.specs.PgMessageTypes.declared.message.Message.TheVariants.{Exchange}
use Rattle.pg_step.specs.Machines.Places.{is_place}
use Rattle.pg_step.specs.Machines.Machine.{Event, Taken, node_of, start_of}
use Rattle.pg_step.specs.Machines.Happened.{Happened}
use Rattle.pg_step.specs.Machines.Runs.{Leads}
use Rattle.pg_step.specs.Nodes.{Node}
use Rattle.pg_step.specs.State.{formed}
use Rattle.pg_step.specs.Turns.{NodeTurn, Report}
use Rattle.pg_step.specs.Peers.{exchange}
use Rattle.pg_step.specs.Step.{Action}
use Rattle.pg_step.specs.Config.{Config, names_of, name_at, groups_at, nodes_at}
use Rattle.pg_step.specs.FrameMachine.{machine_of, FrameWorld}
use Rattle.pg_laws.specs.History.{is_formed, applied_count, is_update_of, update_of, update_by, applied_by}
use Rattle.pg_step.proofs.Machines.Steps.{changes, happens_so}
use Rattle.pg_step.proofs.Machines.Sequences.{kept, whole}
use Rattle.pg_laws.specs.Sent.{exchanges_in}
use Rattle.pg_laws.proofs.steps.Ways.{told_append, state_after, packet_there, pair_there}
use Rattle.pg_laws.proofs.ends.Posts.{Posted, posted_start, posted_event, taken_post}
use Rattle.pg_laws.proofs.tables.Applied.{StepTables, Tabling, Merges, step_tables}
use Rattle.pg_laws.proofs.tables.Formed.{not_formed}
use Rattle.pg_laws.proofs.tables.Tabled.{TableIs, tables_step, exchange_step, table_start}

-- ---- counts

one_counted : (b : Bool) (name : Term) (o : Option Update) → length (cond b (update_of name o) []) ≡ cond (b && is_update_of name o) 1 0
one_counted false name o = refl
one_counted true name None = refl
one_counted true name (Some u) = go (same_term name (name_of u))
  where
    go : (d : Bool) → length (cond d (u ∷ []) []) ≡ cond d 1 0
    go true = refl
    go false = refl

pub as_many : (i : ℕ) (name : Term) (reported : List (ℕ × Report)) → length (applied_by i name reported) ≡ applied_count i name reported
as_many i name [] = refl
as_many i name (t ∷ ts) =
    length-append (update_by i name t) (applied_by i name ts)
    ∙ ap (λ n. n + length (applied_by i name ts)) (one_counted (nat_eq t.0 i) name t.1.applied)
    ∙ ap (λ n. cond (nat_eq t.0 i && is_update_of name t.1.applied) 1 0 + n) (as_many i name ts)

none_long : {A : Type 0} (xs : List A) → length xs ≡ 0 → xs ≡ []
none_long [] e = refl
none_long (x ∷ xs) e = absurd (cc)

pub none_applied : (i : ℕ) (name : Term) (reported : List (ℕ × Report)) → applied_count i name reported ≡ 0 → applied_by i name reported ≡ []
none_applied i name reported none = none_long (applied_by i name reported) (as_many i name reported ∙ none)

first_none : {A : Type 0} (xs ys : List A) → xs ++ ys ≡ [] → xs ≡ []
first_none [] ys e = refl
first_none (x ∷ xs) ys e = absurd (cc)

-- ---- an event

bad_or_new : (a b : Bool) → (a || b) ≡ false → b ≡ false
bad_or_new true b e = absurd (cc)
bad_or_new false b e = e

module _ (config : Config) (apart : IsDistinct same_atom (names_of config)) (w v : FrameWorld) (e : Event Action) (h : Happened (machine_of config) w e v) (name : Term) where
  -- what is applied by the event
  pub applied_after : (i : ℕ) → applied_by i name v.reported ≡ applied_by i name w.reported ++ cond (nat_eq (node_of e) i) (update_of name h.turn.reported.applied) []
  applied_after i =
      ap (applied_by i name) ((changes (machine_of config) w v e h).reported)
      ∙ told_append (update_by i name) w.reported ((node_of e, h.turn.reported) ∷ [])
      ∙ ap (λ xs. applied_by i name w.reported ++ xs) (append-nil (update_by i name (node_of e, h.turn.reported)))

  module _ (posted : Posted config w) where
    -- an exchange that is taken is that of its node, which was not merged
    taken_groups : (p : ℕ) (node : Node) (groups : GroupList) → h.input ≡ Taken p (Exchange node groups) → groups ≡ groups_at config p
    taken_groups p node groups taken =
        let there = packet_there (machine_of config) w v e h p (Exchange node groups) taken in
        let pair = pair_there (machine_of config) w v e h p (Exchange node groups) taken in
        ap (λ x. x.1) (taken_post config p ((w.node (node_of e)).merged (name_at config p)) (node, groups) (exchanges_in there.0) (sym (ap exchanges_in there.1) ∙ posted p (node_of e) pair)).1

    turn_tabled : (us : List Update) → TableIs config (node_of e) name (w.node (node_of e)) us → (formed (nodes_at config (node_of e)) (w.node (node_of e)) ≡ false → us ≡ [])
        → (t : NodeTurn) → StepTables config (w.node (node_of e)) h.input t → TableIs config (node_of e) name t.state (us ++ update_of name t.reported.applied)
    turn_tabled us is unformed t (Tabling tables) = tables_step config (node_of e) name (w.node (node_of e)) us is t tables
    turn_tabled us is unformed t (Merges p node groups taken good same) =
        let i = node_of e in
        let s = w.node i in
        let pair = pair_there (machine_of config) w v e h p (Exchange node groups) taken in
        let new : s.merged (name_at config p) ≡ false = bad_or_new (not (same_atom node (name_at config p))) (s.merged (name_at config p)) good in
        let none : us ≡ [] = unformed (not_formed config i s p pair new) in
        let merged = exchange_step config apart i p pair s new name (subst (TableIs config i name s) none is) in
        let reported : t ≡ exchange (name_at config p) (groups_at config p) s = same ∙ ap (λ g. exchange (name_at config p) g s) (taken_groups p node groups taken) in
        subst (λ (u : NodeTurn). TableIs config i name u.state (us ++ update_of name u.reported.applied)) (sym reported)
        (subst (TableIs config i name ((exchange (name_at config p) (groups_at config p) s).state)) (sym (append-nil us ∙ none)) merged)

    pub tabled_event : (i : ℕ) → TableIs config i name (w.node i) (applied_by i name w.reported) → (formed (nodes_at config i) (w.node i) ≡ false → applied_by i name w.reported ≡ [])
        → TableIs config i name (v.node i) (applied_by i name v.reported)
    tabled_event i is unformed = subst (TableIs config i name (v.node i)) (sym (applied_after i))
        (state_after (machine_of config) w v e h (λ s. TableIs config i name s (applied_by i name w.reported ++ cond (nat_eq (node_of e) i) (update_of name h.turn.reported.applied) [])) i
        (λ own. here own is unformed) (λ other. there other))
      where
        there : i ≢ node_of e → TableIs config i name (w.node i) (applied_by i name w.reported ++ cond (nat_eq (node_of e) i) (update_of name h.turn.reported.applied) [])
        there other = subst (TableIs config i name (w.node i)) (sym (ap (λ b. applied_by i name w.reported ++ cond b (update_of name h.turn.reported.applied) []) (ne_eqb (node_of e) i (λ same. other (sym same))) ∙ append-nil (applied_by i name w.reported))) is

        here : i ≡ node_of e → TableIs config i name (w.node i) (applied_by i name w.reported) → (formed (nodes_at config i) (w.node i) ≡ false → applied_by i name w.reported ≡ [])
            → TableIs config i name h.turn.state (applied_by i name w.reported ++ cond (nat_eq (node_of e) i) (update_of name h.turn.reported.applied) [])
        here own was none =
            let t = step_tables config (node_of e) (w.node (node_of e)) h.input h.turn h.made in
            let us = applied_by i name w.reported in
            let now = turn_tabled us (subst (λ j. TableIs config j name (w.node j) us) own was) (subst (λ j. formed (nodes_at config j) (w.node j) ≡ false → us ≡ []) own none) t.0 t.2 in
            let turned = subst (λ u. TableIs config (node_of e) name u.state (us ++ update_of name u.reported.applied)) (sym t.1) now in
            subst (λ b. TableIs config i name h.turn.state (us ++ cond b (update_of name h.turn.reported.applied) [])) (sym (eq-eqb (node_of e) i (sym own)))
            (subst (λ j. TableIs config j name h.turn.state (us ++ update_of name h.turn.reported.applied)) (sym own) turned)

-- ---- a run

-- node i applies no update of a group before it is formed
abbrev pub AppliesFormed : Config → ℕ → Term → Type 0
AppliesFormed config i name = (events : List (Event Action)) (w : FrameWorld) → Leads (machine_of config) (start_of (machine_of config)) events w
    → is_formed config w i ≡ false → applied_count i name w.reported ≡ 0

module _ (config : Config) (apart : IsDistinct same_atom (names_of config)) (i : ℕ) (there : is_place (length config) i ≡ true) (name : Term) where
  -- a group of which the node has applied no update
  abbrev Untouched : FrameWorld → Type 0
  Untouched w = applied_by i name w.reported ≡ [] → TableIs config i name (w.node i) []

  untouched_event : (w v : FrameWorld) (e : Event Action) → Happened (machine_of config) w e v → Posted config w × Untouched w → Posted config v × Untouched v
  untouched_event w v e h q = (
    posted_event config apart w v e h q.0,
    λ none.
        let was : applied_by i name w.reported ≡ [] = first_none (applied_by i name w.reported) (cond (nat_eq (node_of e) i) (update_of name h.turn.reported.applied) []) (sym (applied_after config apart w v e h name i) ∙ none) in
        subst (TableIs config i name (v.node i)) none
        (tabled_event config apart w v e h name q.0 i (subst (TableIs config i name (w.node i)) (sym was) (q.1 was)) (λ _. was)),
  )

  pub untouched_run : (es : List (Event Action)) (w : FrameWorld) → Leads (machine_of config) (start_of (machine_of config)) es w → Untouched w
  untouched_run es w l = (kept (machine_of config) (λ u. Posted config u × Untouched u) untouched_event es (start_of (machine_of config)) w l
      (posted_start config, λ _. table_start config apart i name there)).1

  -- any group, where the node has applied none of its updates before it was formed
  module _ (formed_first : AppliesFormed config i name) where
    abbrev Came : FrameWorld → Type 0
    Came w = (es : List (Event Action)) × Leads (machine_of config) (start_of (machine_of config)) es w

    abbrev All : FrameWorld → Type 0
    All w = Came w × Posted config w × TableIs config i name (w.node i) (applied_by i name w.reported)

    all_event : (w v : FrameWorld) (e : Event Action) → Happened (machine_of config) w e v → All w → All v
    all_event w v e h q =
        let m = machine_of config in
        let came : Came v = (q.0.0 ++ e ∷ [], whole m q.0.0 (e ∷ []) (start_of m) w v q.0.1 (v, happens_so m w v e h, refl)) in (
          came,
          posted_event config apart w v e h q.1,
          tabled_event config apart w v e h name q.1 i q.2 (λ unformed. none_applied i name w.reported (formed_first q.0.0 w q.0.1 unformed)),
        )

    pub tabled_run : (es : List (Event Action)) (w : FrameWorld) → Leads (machine_of config) (start_of (machine_of config)) es w → TableIs config i name (w.node i) (applied_by i name w.reported)
    tabled_run es w l = (kept (machine_of config) All all_event es (start_of (machine_of config)) w l
        (([], refl), posted_start config, table_start config apart i name there)).2
