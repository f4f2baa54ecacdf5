-- What lasts from one world to later ones: answers, formation, ends; and what a step makes of the table.
use Rattle.std.proofs.Common.{◌≡◌, ℕ, Bool, true, ◌&&◌, List, [], ◌∷◌, ◌++◌, Some, refl, ap, sym, ◌∙◌, subst}
use Rattle.std.specs.Cmp.{first_so, second_so}
use Rattle.std.specs.List.{list_all}
use Rattle.pg_term.specs.declared.pid.Pid.{Pid}
use Rattle.pg_term.specs.Same.{same_atom, same_pid}
use Rattle.pg_step.proofs.PgGroup.Changes.{upd_by}
use Rattle.pg_step.specs.PgMessageTypes.declared.message.Message.{Message}
use Rattle.pg_step.specs.Machines.Clocked.{plain}
use Rattle.pg_step.specs.Machines.Happened.{Happened}
use Rattle.pg_step.specs.Machines.Machine.{Event, Input, Turn, node_of}
use Rattle.pg_step.specs.Machines.Runs.{Leads}
use Rattle.pg_step.proofs.Machines.Plain.{plain_leads}
use Rattle.pg_step.proofs.Machines.Sequences.{kept, tells}
use Rattle.pg_step.specs.Config.{Config, nodes_at}
use Rattle.pg_step.specs.FrameMachine.{FrameWorld, frame_machine, machine_of, node_step, place_turn}
use Rattle.pg_step.specs.Nodes.{Node}
use Rattle.pg_step.specs.State.{State, Response}
use Rattle.pg_step.specs.Step.{CLOCK_LIMIT, Action}
use Rattle.pg_step.specs.Turns.{NodeTurn, Report}
use Rattle.pg_laws.specs.History.{answer_by, answers_by, is_formed}
use Rattle.pg_laws.specs.Lasting.{Tabling, Applying, Ending, Merging}
use Rattle.pg_laws.specs.Reached.{TimedFrameWorld}
use Rattle.pg_laws.proofs.steps.Ways.{state_after, told_append}
use Rattle.pg_laws.proofs.tables.Applied.{Tables, Applying as Applies, EndingOne, StepTables}
use Rattle.pg_laws.proofs.tables.Applied.{Tabling as Tabled, Merges, step_tables}

-- ---- a step

placed_tabling : (config : Config) (s : State) (t : NodeTurn) → Tables s t → Tabling s (place_turn config t)
placed_tabling config s t (Applies table ended merged) = Applying table ended
placed_tabling config s t (EndingOne pid table ended merged none) = Ending pid table ended none

tabling_of : (config : Config) (s : State) (input : Input Message Action) (t : NodeTurn) → StepTables config s input t → Tabling s (place_turn config t)
tabling_of config s input t (Tabled is) = placed_tabling config s t is
tabling_of config s input t (Merges p node groups taken good same) = subst (λ (u : NodeTurn). Tabling s (place_turn config u)) (sym same) (Merging groups refl refl refl)

pub tabling : (config : Config) (i : ℕ) (s : State) (input : Input Message Action) (turn : Turn State Message Report) → node_step config i s input ≡ Some turn → Tabling s turn
tabling config i s input turn is =
    let t = step_tables config i s input turn is in
    subst (Tabling s) (sym t.1) (tabling_of config s input t.0 t.2)

-- ---- what lasts

-- the peers that were merged stay so, and the ends that were taken stay taken
pub record Lasts (s t : State) : Type 0 where
  pub merged : (q : Node) → s.merged q ≡ true → t.merged q ≡ true
  pub ended : (pid : Pid) → s.ended pid ≡ true → t.ended pid ≡ true

placed_lasts : (s : State) (t : NodeTurn) → Tables s t → Lasts s t.state
placed_lasts s t (Applies table ended merged) = record {
  merged = λ q is. ap (λ (f : Node → Bool). f q) merged ∙ is;
  ended = λ pid is. ap (λ (f : Pid → Bool). f pid) ended ∙ is;
}
placed_lasts s t (EndingOne pid table ended merged none) = record {
  merged = λ q is. ap (λ (f : Node → Bool). f q) merged ∙ is;
  ended = λ other is. ap (λ (f : Pid → Bool). f other) ended ∙ upd_by same_pid s.ended pid (λ b. b ≡ true) true other (λ _. refl) (λ _. is);
}

pub step_lasts : (config : Config) (s : State) (input : Input Message Action) (t : NodeTurn) → StepTables config s input t → Lasts s t.state
step_lasts config s input t (Tabled is) = placed_lasts s t is
step_lasts config s input t (Merges p node groups taken good same) = subst (λ (u : NodeTurn). Lasts s u.state) (sym same) (record {
  merged = λ q is. upd_by same_atom s.merged _ (λ b. b ≡ true) true q (λ _. refl) (λ _. is);
  ended = λ pid is. is;
})

pub all_stay : (f g : Node → Bool) (qs : List Node) → ((q : Node) → f q ≡ true → g q ≡ true) → list_all f qs ≡ true → list_all g qs ≡ true
all_stay f g [] stays all = refl
all_stay f g (q ∷ qs) stays all =
    ap (λ b. b && list_all g qs) (stays q (first_so (f q) (list_all f qs) all)) ∙ all_stay f g qs stays (second_so (f q) (list_all f qs) all)

pub event_lasts : (config : Config) (w v : FrameWorld) (e : Event Action) → Happened (machine_of config) w e v → (i : ℕ) → Lasts (w.node i) (v.node i)
event_lasts config w v e h i = state_after (machine_of config) w v e h (Lasts (w.node i)) i
    (λ own.
    let t = step_tables config (node_of e) (w.node (node_of e)) h.input h.turn h.made in
    let turned : Lasts (w.node (node_of e)) h.turn.state = subst (λ (u : Turn State Message Report). Lasts (w.node (node_of e)) u.state) (sym t.1) (step_lasts config (w.node (node_of e)) h.input t.0 t.2) in
    subst (λ j. Lasts (w.node j) h.turn.state) (sym own) turned)
    (λ other. record { merged = λ q is. is; ended = λ pid is. is })

pub stay_formed : (config : Config) (w v : TimedFrameWorld) (events : List (Event Action)) (i : ℕ) → Leads (frame_machine config) w events v
    → is_formed config (plain w) i ≡ true → is_formed config (plain v) i ≡ true
stay_formed config w v events i l full =
    kept (machine_of config) (λ u. is_formed config u i ≡ true)
    (λ x y e h is. all_stay (x.node i).merged (y.node i).merged (nodes_at config i).peers ((event_lasts config x y e h i).merged) is)
    events (plain w) (plain v) (plain_leads (machine_of config) CLOCK_LIMIT events w v l) full

pub stay_taken : (config : Config) (w v : TimedFrameWorld) (events : List (Event Action)) (i : ℕ) (pid : Pid) → Leads (frame_machine config) w events v
    → ((plain w).node i).ended pid ≡ true → ((plain v).node i).ended pid ≡ true
stay_taken config w v events i pid l is =
    kept (machine_of config) (λ u. (u.node i).ended pid ≡ true) (λ x y e h was. (event_lasts config x y e h i).ended pid was)
    events (plain w) (plain v) (plain_leads (machine_of config) CLOCK_LIMIT events w v l) is

pub stay_merged : (config : Config) (w v : TimedFrameWorld) (events : List (Event Action)) (i : ℕ) (q : Node) → Leads (frame_machine config) w events v
    → ((plain w).node i).merged q ≡ true → ((plain v).node i).merged q ≡ true
stay_merged config w v events i q l is =
    kept (machine_of config) (λ u. (u.node i).merged q ≡ true) (λ x y e h was. (event_lasts config x y e h i).merged q was)
    events (plain w) (plain v) (plain_leads (machine_of config) CLOCK_LIMIT events w v l) is

pub more_answers_later : (config : Config) (w v : TimedFrameWorld) (events : List (Event Action)) (i port : ℕ) → Leads (frame_machine config) w events v
    → (more : List (ℕ × Response)) × (answers_by i (plain v).reported port ≡ answers_by i (plain w).reported port ++ more)
more_answers_later config w v events i port l =
    let all = tells (machine_of config) events (plain w) (plain v) (plain_leads (machine_of config) CLOCK_LIMIT events w v l) in
    (answers_by i all.0 port, ap (λ ts. answers_by i ts port) all.1 ∙ told_append (answer_by i port) (plain w).reported all.0)
