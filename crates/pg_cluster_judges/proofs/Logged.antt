-- The logs of nodes that ran apart join to one run.
use Rattle.std.proofs.Common.{◌≡◌, ◌<◌, ◌∙◌, ℕ, true, false, length, map, List, [], ◌∷◌, ◌++◌, refl, sym, ap, subst}
use Rattle.std.proofs.lemmas.Simd.{map-map}
use Rattle.pg_world.specs.PgFrame.Laws.{PiecesContinue, WrittenIsRead}
use Rattle.pg_world.specs.PgGroup.declared.table.GroupTable.{Ghosts}
use Rattle.pg_world.specs.PgStep.Machines.Machine.{Event}
use Rattle.pg_world.specs.PgStep.Machines.Clocked.{Timed, plain}
use Rattle.pg_world.specs.PgStep.Machines.Places.{is_pair}
use Rattle.pg_world.specs.PgLaws.Headline.{OneHistory}
use Rattle.pg_world.specs.PgLaws.History.{all_reported, answers_by}
use Rattle.pg_cluster_judges.specs.Joined.{Joined}
use Rattle.pg_cluster_judges.specs.Logs.{AreLogs, NodeLeads, event_of as machine_event, log_entry as machine_entry}
use Rattle.pg_cluster_judges.specs.Merge.{Merges, clocks_of, merged_logs, seen_log}
use Rattle.pg_world.specs.PgNode.declared.node.Node.{Node}
use Rattle.pg_world.specs.PgNode.Nodes.{held_by, links_of}
use Rattle.pg_world.specs.PgNodeState.States.{answers_of, state_of}
use Rattle.pg_node_run.specs.declared.log.NodeEvent.{NodeEvent}
use Rattle.pg_node_run.specs.Acts.{Act, Given, Took, Saw, Did, SawNone, log_entry, event_of}
use Rattle.pg_node_run.specs.Follows.{log_of, node_of, standing_of}
use Rattle.pg_world.specs.PgStep.Config.{Config, name_at, nodes_at, ports_at}
use Rattle.pg_world.specs.PgStep.FrameMachine.{frame_machine}
use Rattle.pg_world.specs.PgStep.Nodes.{all_of}
use Rattle.pg_world.specs.PgStep.State.{Response, State}
use Rattle.pg_world.specs.PgStep.Step.{Action, Issue, Retry}
use Rattle.pg_cluster_judges.specs.Apart.{Linked, HaveRun, RanTogether, Unseen, event_at, events_in}
use Rattle.pg_cluster_judges.proofs.Answered.{answers_on, answers_reported, given_at}
use Rattle.pg_cluster_judges.proofs.Begun.{leads, shown}
use Rattle.pg_cluster_judges.proofs.Crossing.{first_taken, left_on, puts_all}
use Rattle.pg_cluster_judges.proofs.Turns.{act_at, first_none, input_at, leads_alike}
use Rattle.pg_cluster_judges.proofs.Turns.{others_none, saw_none, PlacedAct, SeesNone}
use Rattle.pg_world.specs.Crossings.{node_of as seen_node}
use Rattle.pg_world.specs.PgWorldPackets.Views.{peer_place}
use Rattle.pg_world.specs.PgWorldPackets.Worlds.{AreAnswers, ShowsNode}
use Rattle.pg_world.proofs.PgWorldPackets.Turning.{is_pair_so}

-- ---- entries

one_event : (i : ℕ) (input : Given) → SeesNone input → event_at i (event_of input) ≡ machine_event i (input_at i input)
one_event i (Took p x) none = refl
one_event i (Saw p last) none = saw_none p last none
one_event i (Did (Issue port command)) none = refl
one_event i (Did (Retry op)) none = refl

-- the entries of acts are those of the machine's turns
entries_alike : (config : Config) (i : ℕ) (acts : List Act) → SawNone acts → seen_log (event_at i) (map log_entry acts) ≡ map (machine_entry i) (map (act_at config i) acts)
entries_alike config i [] none = refl
entries_alike config i (act ∷ acts) none = λ j. (act.turn.state.clock, one_event i act.input (first_none act acts none) j) ∷ entries_alike config i acts (others_none act acts none) j

-- what a log is seen as has its clocks
clocks_alike : {E F : Type 0} (view : E → F) (log : List (ℕ × E)) → clocks_of (seen_log view log) ≡ clocks_of log
clocks_alike {E} {F} view log = map-map (λ (x : ℕ × F). x.0) (λ (x : ℕ × E). (x.0, view x.1)) log

module _ {T : Type 0} {g : Ghosts T} (config : Config) (nodes : List (Node T g)) (begun ended : ℕ → Linked T g) (ran : HaveRun config nodes begun ended) (unseen : Unseen config nodes begun ended ran) where
  -- what the logs tell of all nodes
  abbrev pub logs_on : ℕ → List (ℕ × Event Action)
  logs_on i = seen_log (event_at i) (log_of (ended i))

  abbrev pub acts_on : ℕ → List PlacedAct
  acts_on i = map (act_at config i) (ran.acts i)

  abbrev pub ends_on : ℕ → Timed State
  ends_on i = state_of (held_by (node_of (ended i)))

  entries_on : (i : ℕ) → i < length config → logs_on i ≡ map (machine_entry i) (acts_on i)
  entries_on i within =
      ap (seen_log (event_at i)) ((ran.follows i within).log ∙ ap (λ w. w ++ map log_entry (ran.acts i)) (ran.unlogged i within))
      ∙ entries_alike config i (ran.acts i) (unseen i within)

  runs_on : (i : ℕ) → i < length config → NodeLeads (frame_machine config) i ((frame_machine config).first i) (acts_on i) (ends_on i)
  runs_on i within =
      subst (λ s. NodeLeads (frame_machine config) i s (acts_on i) (ends_on i)) (sym (shown config nodes begun ended ran i within).state)
      (leads_alike config i within (standing_of (node_of (begun i))) (ran.acts i) (standing_of (node_of (ended i))) (unseen i within) (leads config nodes begun ended ran i within))

  pub are_logs : PiecesContinue → WrittenIsRead → AreLogs (frame_machine config) logs_on acts_on ends_on (left_on config nodes begun ended ran)
  are_logs more read = record {
    runs = runs_on;
    entries = entries_on;
    ways = λ p q from to other. first_taken config nodes begun ended ran p q (is_pair_so (length config) p q from to (λ e. other (sym e))) (puts_all config nodes begun ended ran unseen p q) more read;
  }

  pub merges_on : (order : List (ℕ × ℕ)) → Merges (length config) (λ i. clocks_of (log_of (ended i))) order → Merges (length config) (λ i. clocks_of (logs_on i)) order
  merges_on order merges =
      let alike : ◌≡◌ {A = ℕ → List ℕ} (λ i. clocks_of (log_of (ended i))) (λ i. clocks_of (logs_on i)) = λ j i. sym (clocks_alike (event_at i) (log_of (ended i))) j in
      subst (λ (clocks : ℕ → List ℕ). Merges (length config) clocks order) alike merges

  -- ---- the run

  module _ (order : List (ℕ × ℕ)) (run : Joined (frame_machine config) logs_on acts_on ends_on (left_on config nodes begun ended ran) (merged_logs logs_on order)) where
    answers_shown : (i : ℕ) → i < length config → (port : ℕ) → AreAnswers (name_at config i) (answers_by i run.world.reported port) (answers_of (held_by (node_of (ended i))) port)
    answers_shown i within port =
        subst (λ (zs : List (ℕ × Response)). AreAnswers (name_at config i) zs (answers_of (held_by (node_of (ended i))) port))
        (sym (answers_reported i port run.world.reported ∙ ap (all_reported (given_at port)) (run.reported i within)))
        (answers_on config i (all_of (nodes_at config i)) (ports_at config i) (standing_of (node_of (begun i))) (ran.acts i) (standing_of (node_of (ended i))) (λ q. [])
        (leads config nodes begun ended ran i within) (shown config nodes begun ended ran i within).answers port)

    node_shown : (i : ℕ) → i < length config → ShowsNode config run.world i (seen_node (node_of (ended i)))
    node_shown i within = record {
      names = (ran.follows i within).names ∙ (shown config nodes begun ended ran i within).names;
      ports = (ran.follows i within).ports ∙ (shown config nodes begun ended ran i within).ports;
      state = run.nodes i within;
      answers = answers_shown i within;
    }

    pub ran_together : OneHistory config (merged_logs logs_on order) (plain run.world)
        → ((x y : ℕ) → is_pair (length config) x y ≡ true → (links_of (node_of (ended x)) (peer_place x y)).damaged ≡ false)
        → RanTogether config ended (events_in ended order)
    ran_together history sound = record {
      w = run.world;
      leads = run.leads;
      nodes = node_shown;
      logs = λ i within. run.logs_of i within ∙ map-map (λ (x : ℕ × Event Action). x.1) (λ (x : ℕ × NodeEvent). (x.0, event_at i x.1)) (log_of (ended i));
      history = history;
      sound = sound;
    }
