-- The tables of formed nodes, and the ends that they took, where nodes are lost.
use Rattle.std.proofs.Common.{◌≡◌, ◌≢◌, ◌⊎◌, inl, inr, ℕ, Bool, true, false, not, ◌&&◌, ◌||◌, cond}
use Rattle.std.proofs.Common.{nat_eq, length, List, [], ◌∷◌, ◌++◌, Some, None, refl, ap, sym, ◌∙◌, subst}
use Rattle.std.specs.List.{IsDistinct, list_any}
use Rattle.std.proofs.Math.Path.{fun_ext}
use Rattle.std.proofs.lemmas.Bool.{eq-eqb, ne_eqb}
use Rattle.std.proofs.lemmas.Bool.Decides.{Decides-ltb}
use Rattle.std.proofs.lemmas.List.{append-nil}
use Rattle.pg_term.specs.declared.pid.Pid.{Pid}
use Rattle.pg_term.specs.declared.term.Term.{Term}
use Rattle.pg_term.specs.Same.{same_atom}
use Rattle.pg_laws.specs.PgGroup.declared.update.Update.{Update}
use Rattle.pg_laws.specs.PgGroup.Functions.{upd}
use Rattle.pg_laws.specs.PgGroup.Scope.{at_node}
use Rattle.pg_laws.specs.PgGroup.Value.{Value, less}
use Rattle.pg_laws.specs.PgMessageTypes.declared.message.Message.{Message}
use Rattle.pg_laws.specs.PgMessageTypes.declared.message.Message.TheVariants.{Exchange}
use Rattle.pg_laws.specs.PgStep.Machines.Clocked.{plain}
use Rattle.pg_laws.specs.PgStep.Machines.Happened.{Happened}
use Rattle.pg_laws.specs.PgStep.Machines.Losing.{Noticed, Sent, LosingEvent, Step, Lose, LosingLeads, all_steps, nobody_gone}
use Rattle.pg_laws.specs.PgStep.Machines.Machine.{Input, Turn, Event, node_of, start_of}
use Rattle.pg_laws.proofs.PgStep.Machines.Plain.{plain_start}
use Rattle.pg_laws.proofs.PgStep.Machines.Steps.{changes, pair_apart}
use Rattle.pg_laws.specs.PgStep.Config.{Config, names_of, name_at, nodes_at}
use Rattle.pg_laws.specs.PgStep.FrameMachine.{last_notice, losing_frame_machine, losing_machine_of}
use Rattle.pg_laws.specs.PgStep.LossLaws.{LosingFrameWorld}
use Rattle.pg_laws.specs.PgStep.Nodes.{Node}
use Rattle.pg_laws.specs.PgStep.State.{State, formed}
use Rattle.pg_laws.specs.PgStep.Step.{CLOCK_LIMIT, Action}
use Rattle.pg_laws.specs.PgStep.Turns.{NodeTurn, Report}
use Rattle.pg_laws.proofs.PgStep.Unnoticed.{without_losses}
use Rattle.pg_laws.specs.History.{applied_by, base, replay, update_by, update_of}
use Rattle.pg_laws.specs.WithLosses.{FormedAtLosses, is_of_lost}
use Rattle.pg_laws.proofs.ends.Apart.{pair_second}
use Rattle.pg_laws.proofs.places.Clauses.{formed_tables}
use Rattle.pg_laws.proofs.places.Shown.{IsHere}
use Rattle.pg_laws.proofs.references.Keys.{atoms, read_other, split}
use Rattle.pg_laws.proofs.steps.Lasting.{all_stay}
use Rattle.pg_laws.proofs.steps.Lossless.{step_sees_none}
use Rattle.pg_laws.proofs.steps.Ways.{own_place, pair_there, state_after, told_append}
use Rattle.pg_laws.proofs.tables.Applied.{Merges, StepTables, Tabling, step_tables}
use Rattle.pg_laws.proofs.tables.Formed.{all_merged, knows_all}
use Rattle.pg_laws.proofs.tables.Tabled.{TableIs, tables_step}
use Rattle.pg_laws_losses.specs.Reached.{LosingReaches}
use Rattle.pg_laws_losses.proofs.Lasts.{event_stays, formed_later, made_stays}
use Rattle.pg_laws_losses.proofs.Lossy.{Lossy, bare, Passed, Went, Died, kept_past, Makes, Steps, Sees, makes, noted}

-- ---- the processes of a lost node have ended

-- of this node, all processes of nodes whose loss it saw have ended
abbrev pub HasEndedLost : State → Type 0
HasEndedLost s = (q : Node) (pid : Pid) → s.lost q ≡ true → same_atom q pid.node ≡ true → s.ended pid ≡ true

EndedLost : Lossy → Type 0
EndedLost w = (i : ℕ) → HasEndedLost (w.world.node i)

made_ended : (config : Config) (i : ℕ) (s : State) (input : Input (Noticed Message) Action) (turn : Turn State (Noticed Message) Report) → Makes config i s input turn → HasEndedLost s → HasEndedLost turn.state
made_ended config i s input turn (Steps given t is made same) old q pid lost own =
    let stays = made_stays config i s input turn (Steps given t is made same) in
    let before : s.lost q ≡ true = ap (λ (f : Node → Bool). f q) (sym (ap (λ (u : Turn State (Noticed Message) Report). u.state.lost) same ∙ step_sees_none config i s given t made)) ∙ lost in
    stays.ended pid (old q pid before own)
made_ended config i s input turn (Sees p is not_yet same) old q pid lost own =
    subst (λ (u : Turn State (Noticed Message) Report). u.state.ended pid ≡ true) (sym same)
    (go (split same_atom atoms q (name_at config p)) (subst (λ (u : Turn State (Noticed Message) Report). u.state.lost q ≡ true) same lost))
  where
    or_left : (a b : Bool) → a ≡ true → a || b ≡ true
    or_left true b e = refl
    or_left false b e = absurd (cc)

    or_right : (a b : Bool) → b ≡ true → a || b ≡ true
    or_right true b e = refl
    or_right false b e = e

    go : (q ≡ name_at config p) ⊎ (q ≢ name_at config p) → upd same_atom s.lost (name_at config p) true q ≡ true → at_node (name_at config p) pid || s.ended pid ≡ true
    go (inl e) _ = or_left (at_node (name_at config p) pid) (s.ended pid) (ap (λ z. same_atom z pid.node) (sym e) ∙ own)
    go (inr n) new = or_right (at_node (name_at config p) pid) (s.ended pid) (old q pid (sym (read_other same_atom atoms s.lost (name_at config p) true q n) ∙ new) own)

event_ended : (config : Config) (w v : Lossy) (e : LosingEvent Action) → Passed config w v e → EndedLost w → EndedLost v
unfolding EndedLost
event_ended config w v e (Went d is lives h same) old i = state_after (losing_machine_of config) w.world v.world d h HasEndedLost i
    (λ own. made_ended config (node_of d) (w.world.node (node_of d)) h.input h.turn (makes config (node_of d) (w.world.node (node_of d)) h.input h.turn h.made) (old (node_of d)))
    (λ other. old i)
event_ended config w v e (Died j keep is there lives cut gone) old i = subst HasEndedLost (ap (λ u. u.node i) (sym cut)) (old i)

any_so : (f : Node → Bool) (xs : List Node) → list_any f xs ≡ true → (x : Node) × (f x ≡ true)
any_so f [] e = absurd (cc)
any_so f (x ∷ xs) e = go (f x) refl e (any_so f xs)
  where
    go : (b : Bool) → f x ≡ b → b || list_any f xs ≡ true → (list_any f xs ≡ true → (x : Node) × (f x ≡ true)) → (x : Node) × (f x ≡ true)
    go true is _ later = (x, is)
    go false is rest later = later rest

both_true : (a b : Bool) → a && b ≡ true → (a ≡ true) × (b ≡ true)
both_true true true e = (refl, refl)
both_true true false e = absurd (cc)
both_true false b e = absurd (cc)

reached_ended : (config : Config) (es : List (LosingEvent Action)) (w : LosingFrameWorld) → LosingReaches config es w → EndedLost (bare w)
unfolding EndedLost
reached_ended config es w l = kept_past config EndedLost (event_ended config) es (nobody_gone (start_of (losing_frame_machine config))) w l
    (subst (λ u. EndedLost (nobody_gone u)) (sym (plain_start (losing_machine_of config) CLOCK_LIMIT)) (λ i q pid lost own. absurd (cc)))

-- all processes of a node whose loss was seen have ended
pub lost_ended : (config : Config) (es : List (LosingEvent Action)) (w : LosingFrameWorld) → LosingReaches config es w → (i : ℕ) → HasEndedLost (w.world.node i).state
unfolding EndedLost
lost_ended config es w l i = reached_ended config es w l i

-- the ended, the processes of lost nodes among them
pub all_ended : (config : Config) (es : List (LosingEvent Action)) (w : LosingFrameWorld) (i : ℕ) → LosingReaches config es w
    → (w.world.node i).state.ended ≡ (λ pid. (w.world.node i).state.ended pid || is_of_lost config w i pid)
unfolding EndedLost
all_ended config es w i l = fun_ext (λ pid. go pid ((w.world.node i).state.ended pid) refl (is_of_lost config w i pid) refl)
  where
    go : (pid : Pid) (a : Bool) → (w.world.node i).state.ended pid ≡ a → (b : Bool) → is_of_lost config w i pid ≡ b → (w.world.node i).state.ended pid ≡ (w.world.node i).state.ended pid || is_of_lost config w i pid
    go pid true is b _ = is ∙ ap (λ c. c || is_of_lost config w i pid) (sym is)
    go pid false is false none = is ∙ (sym none ∙ ap (λ c. c || is_of_lost config w i pid) (sym is))
    go pid false is true some =
        let one = any_so (λ name. same_atom name pid.node && (w.world.node i).state.lost name) (names_of config) some in
        let both = both_true (same_atom one.0 pid.node) ((w.world.node i).state.lost one.0) one.1 in
        let ended : (w.world.node i).state.ended pid ≡ true = reached_ended config es w l i one.0 pid both.1 both.0 in
        absurd (cc (sym is ∙ ended))

-- ---- tables

less_more : (v : Value) (one other : Pid → Bool) → less (less v other) one ≡ less v (λ pid. one pid || other pid)
less_more None one other = refl
less_more (Some counts) one other = ap Some (fun_ext (λ pid. go (one pid) (other pid) (counts pid)))
  where
    go : (a b : Bool) (n : ℕ) → cond a 0 (cond b 0 n) ≡ cond (a || b) 0 n
    go true b n = refl
    go false b n = refl

-- what a formed node has of a group, where it has applied these updates of it
abbrev pub TableOf : Config → Term → State → List Update → Type 0
TableOf config name s us = s.table name ≡ less (replay (base config name) us) s.ended

-- all nodes are formed, and have the tables of what they have applied
record Tabled (config : Config) (w : Lossy) : Type 0 where
  full : (i : ℕ) → IsHere config i → formed (nodes_at config i) (w.world.node i) ≡ true
  tables : (i : ℕ) (name : Term) → IsHere config i → TableOf config name (w.world.node i) (applied_by i name w.world.reported)

bad_or_new : (a b : Bool) → (a || b) ≡ false → b ≡ false
bad_or_new true b e = absurd (cc)
bad_or_new false b e = e

module _ (config : Config) (w v : Lossy) (d : Event Action) (h : Happened (losing_machine_of config) w.world d v.world) (name : Term) (full : formed (nodes_at config (node_of d)) (w.world.node (node_of d)) ≡ true)
    (later : formed (nodes_at config (node_of d)) h.turn.state ≡ true) where
  abbrev i : ℕ
  i = node_of d

  abbrev s : State
  s = w.world.node (node_of d)

  module _ (us : List Update) (old : TableOf config name (w.world.node (node_of d)) us) where
    step_table : (given : Input Message Action) (t : NodeTurn) → h.input ≡ noted given → StepTables config s given t → formed (nodes_at config (node_of d)) t.state ≡ true
        → TableOf config name t.state (us ++ update_of name t.reported.applied)
    step_table given t is (Tabling tables) full_after =
        let before : TableIs config i name s us = old ∙ ap (λ v. less (replay v us) s.ended) (sym (knows_all config i s name full)) in
        tables_step config i name s us before t tables ∙ ap (λ v. less (replay v (us ++ update_of name t.reported.applied)) t.state.ended) (knows_all config i t.state name full_after)
    step_table given t is (Merges p node groups taken good same) full_after =
        let pair = pair_there (losing_machine_of config) w.world v.world d h p (Sent (Exchange node groups)) (is ∙ ap noted taken) in
        let merged = all_merged config i s full p ((Decides-ltb p (length config)).0 (pair_second (length config) i p pair)) (pair_apart (length config) i p pair) in
        absurd (cc (sym merged ∙ bad_or_new (not (same_atom node (name_at config p))) (s.merged (name_at config p)) good))

    made_table : Makes config i s h.input h.turn → TableOf config name h.turn.state (us ++ update_of name h.turn.reported.applied)
    made_table (Steps given t is made same) =
        let tables = step_tables config i s given t made in
        subst (λ (u : Turn State (Noticed Message) Report). formed (nodes_at config i) u.state ≡ true → TableOf config name u.state (us ++ update_of name u.reported.applied)) (sym same)
        (subst (λ (u : Turn State Message Report). formed (nodes_at config i) u.state ≡ true → TableOf config name u.state (us ++ update_of name u.reported.applied)) (sym tables.1)
        (step_table given tables.0 is tables.2)) later
    made_table (Sees p is not_yet same) =
        subst (λ (u : Turn State (Noticed Message) Report). TableOf config name u.state (us ++ update_of name u.reported.applied)) (sym same)
        (ap (λ v. less v (at_node (name_at config p))) old ∙ (less_more (replay (base config name) us) (at_node (name_at config p)) s.ended
        ∙ ap (λ xs. less (replay (base config name) xs) (λ pid. at_node (name_at config p) pid || s.ended pid)) (sym (append-nil us))))

event_tabled : (config : Config) (w v : Lossy) (e : LosingEvent Action) → Passed config w v e → Tabled config w → Tabled config v
event_tabled config w v e (Died i keep is there lives cut gone) old = record {
  full = λ j here. subst (λ u. formed (nodes_at config j) (u.node j) ≡ true) (sym cut) (old.full j here);
  tables = λ j name here. subst (λ u. TableOf config name (u.node j) (applied_by j name u.reported)) (sym cut) (old.tables j name here);
}
event_tabled config w v e (Went d is lives h same) old = record {
  full = full;
  tables = λ j name here. subst (TableOf config name (v.world.node j)) (sym (after j name)) (state_after (losing_machine_of config) w.world v.world d h (λ s. TableOf config name s (applied_by j name w.world.reported ++ cond (nat_eq (node_of d) j) (update_of name h.turn.reported.applied) [])) j
      (λ own. this j name here own) (λ other. that j name here other));
}
  where
    full : (j : ℕ) → IsHere config j → formed (nodes_at config j) (v.world.node j) ≡ true
    full j here = all_stay (w.world.node j).merged (v.world.node j).merged (nodes_at config j).peers ((event_stays config w v e (Went d is lives h same) j).merged) (old.full j here)

    after : (j : ℕ) (name : Term) → applied_by j name v.world.reported ≡ applied_by j name w.world.reported ++ cond (nat_eq (node_of d) j) (update_of name h.turn.reported.applied) []
    after j name =
        ap (applied_by j name) ((changes (losing_machine_of config) w.world v.world d h).reported)
        ∙ (told_append (update_by j name) w.world.reported ((node_of d, h.turn.reported) ∷ [])
        ∙ ap (λ xs. applied_by j name w.world.reported ++ xs) (append-nil (update_by j name (node_of d, h.turn.reported))))

    that : (j : ℕ) (name : Term) → IsHere config j → j ≢ node_of d → TableOf config name (w.world.node j) (applied_by j name w.world.reported ++ cond (nat_eq (node_of d) j) (update_of name h.turn.reported.applied) [])
    that j name here other = subst (TableOf config name (w.world.node j))
        (sym (ap (λ b. applied_by j name w.world.reported ++ cond b (update_of name h.turn.reported.applied) []) (ne_eqb (node_of d) j (λ e. other (sym e))) ∙ append-nil (applied_by j name w.world.reported))) (old.tables j name here)

    this : (j : ℕ) (name : Term) → IsHere config j → j ≡ node_of d → TableOf config name h.turn.state (applied_by j name w.world.reported ++ cond (nat_eq (node_of d) j) (update_of name h.turn.reported.applied) [])
    this j name here own =
        let there : IsHere config (node_of d) = own_place (losing_machine_of config) w.world v.world d h in
        let now : formed (nodes_at config (node_of d)) h.turn.state ≡ true =
        subst (λ (s : State). formed (nodes_at config (node_of d)) s ≡ true) ((changes (losing_machine_of config) w.world v.world d h).state) (full (node_of d) there) in
        let us = applied_by j name w.world.reported in
        let was : TableOf config name (w.world.node (node_of d)) us = subst (λ k. TableOf config name (w.world.node k) us) own (old.tables j name here) in
        subst (λ b. TableOf config name h.turn.state (us ++ cond b (update_of name h.turn.reported.applied) [])) (sym (eq-eqb (node_of d) j (sym own)))
        (made_table config w v d h name (old.full (node_of d) there) now us was (makes config (node_of d) (w.world.node (node_of d)) h.input h.turn h.made))

-- ---- runs

-- the events before the first loss
abbrev FirstLoss : List (LosingEvent Action) → Type 0
FirstLoss es = ((fs : List (Event Action)) × (es ≡ all_steps fs)) ⊎ ((fs : List (Event Action)) × (node : ℕ) × (keep : ℕ → ℕ) × (after : List (LosingEvent Action)) × (es ≡ all_steps fs ++ Lose node keep ∷ after))

first_loss : (es : List (LosingEvent Action)) → FirstLoss es
first_loss [] = inl ([], refl)
first_loss (Lose node keep ∷ es) = inr ([], node, keep, es, refl)
first_loss (Step d ∷ es) = go (first_loss es)
  where
    go : FirstLoss es → FirstLoss (Step d ∷ es)
    go (inl all) = inl (d ∷ all.0, ap (λ xs. Step d ∷ xs) all.1)
    go (inr some) = inr (d ∷ some.0, some.1, some.2, some.3, ap (λ xs. Step d ∷ xs) some.4)

losing_parts : (config : Config) (es fs : List (LosingEvent Action)) (w v : LosingFrameWorld) → LosingLeads (losing_frame_machine config) last_notice w (es ++ fs) v
    → (u : LosingFrameWorld) × LosingLeads (losing_frame_machine config) last_notice w es u × LosingLeads (losing_frame_machine config) last_notice u fs v
losing_parts config [] fs w v l = (w, refl, l)
losing_parts config (e ∷ es) fs w v l = let rest = losing_parts config es fs l.0 v l.2 in (rest.0, (l.0, l.1, rest.1), rest.2)

module _ (config : Config) (apart : IsDistinct same_atom (names_of config)) where
  -- before the first loss
  steps_tabled : (fs : List (Event Action)) (w : LosingFrameWorld) → LosingReaches config (all_steps fs) w → (i : ℕ) (name : Term) → IsHere config i → formed (nodes_at config i) (w.world.node i).state ≡ true
      → TableOf config name (w.world.node i).state (applied_by i name w.world.reported)
  steps_tabled fs w l i name here full =
      let run = without_losses config fs w l in
      let node : (w.world.node i).state ≡ (plain run.0).node i = ap (λ (u : LosingFrameWorld). (u.world.node i).state) run.2 in
      let reported : w.world.reported ≡ (plain run.0).reported = ap (λ (u : LosingFrameWorld). u.world.reported) run.2 in
      let all = formed_tables config apart fs run.0 run.1 i name here (subst (λ s. formed (nodes_at config i) s ≡ true) node full) in
      subst (λ s. TableOf config name s (applied_by i name w.world.reported)) (sym node)
      (subst (λ ts. TableOf config name ((plain run.0).node i) (applied_by i name ts)) (sym reported) all)

  pub table_of : (es : List (LosingEvent Action)) (w : LosingFrameWorld) → LosingReaches config es w → FormedAtLosses config es → (i : ℕ) (name : Term) → IsHere config i
      → formed (nodes_at config i) (w.world.node i).state ≡ true → TableOf config name (w.world.node i).state (applied_by i name w.world.reported)
  table_of es w l at_losses i name here full = go (first_loss es)
    where
      go : FirstLoss es → TableOf config name (w.world.node i).state (applied_by i name w.world.reported)
      go (inl all) = steps_tabled all.0 w (subst (λ xs. LosingReaches config xs w) all.1 l) i name here full
      go (inr some) =
          let parts = losing_parts config (all_steps some.0) (Lose some.1 some.2 ∷ some.3) (nobody_gone (start_of (losing_frame_machine config))) w (subst (λ xs. LosingReaches config xs w) some.4 l) in
          let all_formed : (j : ℕ) → IsHere config j → formed (nodes_at config j) (parts.0.world.node j).state ≡ true = λ j there. at_losses (all_steps some.0) some.3 some.1 some.2 parts.0 j some.4 parts.1 there in
          (kept_past config (Tabled config) (event_tabled config) (Lose some.1 some.2 ∷ some.3) parts.0 w parts.2
          (record { full = all_formed; tables = λ j other there. steps_tabled some.0 parts.0 parts.1 j other there (all_formed j there) })).tables i name here

  -- and where some node is lost, all are formed
  pub formed_past : (es : List (LosingEvent Action)) (w : LosingFrameWorld) → LosingReaches config es w → FormedAtLosses config es → (i p : ℕ) → IsHere config i → w.gone p ≡ true
      → formed (nodes_at config i) (w.world.node i).state ≡ true
  formed_past es w l at_losses i p here gone = go (first_loss es)
    where
      go : FirstLoss es → formed (nodes_at config i) (w.world.node i).state ≡ true
      go (inl all) =
          let run = without_losses config all.0 w (subst (λ xs. LosingReaches config xs w) all.1 l) in
          let never : true ≡ false = sym gone ∙ ap (λ (u : LosingFrameWorld). u.gone p) run.2 in
          absurd (cc)
      go (inr some) =
          let parts = losing_parts config (all_steps some.0) (Lose some.1 some.2 ∷ some.3) (nobody_gone (start_of (losing_frame_machine config))) w (subst (λ xs. LosingReaches config xs w) some.4 l) in
          formed_later config parts.0 w (Lose some.1 some.2 ∷ some.3) i parts.2 (at_losses (all_steps some.0) some.3 some.1 some.2 parts.0 i some.4 parts.1 here)
