-- Each entry of a run is the change that its command asked for, which came in at that port of that node.
use Rattle.std.proofs.Common.{◌≡◌, ℕ, List, [], ◌∷◌, ◌++◌, Option, Some, None, refl, ap, sym, ◌∙◌, subst}
use Rattle.std.specs.List.{AllByRecursion}
use Rattle.std.proofs.lemmas.List.{append_assoc, append-nil}
use Rattle.pg_step.specs.PgGroup.declared.update.Update.{Update}
use Rattle.pg_step.specs.declared.command.Command.{Command}
use Rattle.pg_step.specs.declared.command.OpId.{OpId}
use Rattle.pg_step.specs.Machines.Machine.{Event, node_of, start_of}
use Rattle.pg_step.specs.Machines.Happened.{Happened}
use Rattle.pg_step.specs.Machines.Runs.{Leads}
use Rattle.pg_step.specs.Machines.Clocked.{plain}
use Rattle.pg_step.specs.Step.{CLOCK_LIMIT, Action}
use Rattle.pg_step.specs.Config.{Config}
use Rattle.pg_step.specs.FrameMachine.{machine_of, FrameWorld}
use Rattle.pg_laws.specs.History.{Entry, entry_of, entries, command_at}
use Rattle.pg_step.proofs.Machines.Steps.{changes, happened}
use Rattle.pg_step.proofs.Machines.Plain.{plain_from_start}
use Rattle.pg_laws.specs.Reached.{TimedFrameWorld, Reaches}
use Rattle.pg_laws.proofs.steps.Ways.{all_both, all_behind, all_since, state_after}
use Rattle.pg_laws.proofs.steps.Grows.{entries_append}
use Rattle.pg_laws.proofs.commands.Asked.{HasAsked, step_asked}
use Rattle.pg_laws.proofs.commands.Ports.{command_more, AllCounted, event_counted, command_came}
use Rattle.pg_step.specs.Commands.{change_of}

-- the update is that of the command of this number, which came in at the port
abbrev pub AskedBy : ℕ → List (Event Action) → OpId → Update → Type 0
AskedBy i events op u = (c : Command) × (command_at i op events ≡ Some c) × (change_of c ≡ Some u)

pub asked_more : (i : ℕ) (es fs : List (Event Action)) (op : OpId) (u : Update) → AskedBy i es op u → AskedBy i (es ++ fs) op u
asked_more i es fs op u asked = (asked.0, command_more i op asked.0 es fs asked.1, asked.2)

pub record AllAsked (es : List (Event Action)) (w : FrameWorld) : Type 0 where
  pub counts : AllCounted es w
  pub nodes : (i : ℕ) → HasAsked (AskedBy i es) (w.node i)
  pub entries : AllByRecursion (λ (e : Entry). AskedBy e.node es e.op e.update) (entries w.reported)

pub has_more : (i : ℕ) (es fs : List (Event Action)) (s : Rattle.pg_step.specs.State.State) → HasAsked (AskedBy i es) s → HasAsked (AskedBy i (es ++ fs)) s
has_more i es fs s all = record {
  waits = λ op u e. asked_more i es fs op u (all.waits op u e);
  locks = λ c op u lead st e. asked_more i es fs op u (all.locks c op u lead st e);
}

begun_entry : (i : ℕ) (es : List (Event Action)) (o : Option (OpId × Update)) → ((op : OpId) (u : Update) → o ≡ Some (op, u) → AskedBy i es op u)
    → AllByRecursion (λ (e : Entry). AskedBy e.node es e.op e.update) (entry_of i o ++ [])
begun_entry i es None asked = tt
begun_entry i es (Some x) asked = (asked x.0 x.1 refl, tt)

pub event_asked : (config : Config) (es : List (Event Action)) (w v : FrameWorld) (e : Event Action) → Happened (machine_of config) w e v → AllAsked es w → AllAsked (es ++ e ∷ []) v
event_asked config es w v e h all =
    let i = node_of e in
    let more = es ++ e ∷ [] in
    let step = step_asked (AskedBy i more) config i (w.node i) h.input h.turn h.made
    (λ port c u is change. (c, command_came config es w v e h all.counts port c is, change)) (has_more i es (e ∷ []) (w.node i) (all.nodes i)) in
    record {
      counts = event_counted config es w v e h all.counts;
      nodes = λ j. state_after (machine_of config) w v e h (HasAsked (AskedBy j more)) j
          (λ own. subst (λ z. HasAsked (AskedBy z more) h.turn.state) (sym own) step.0) (λ _. has_more j es (e ∷ []) (w.node j) (all.nodes j));
      entries = subst (AllByRecursion (λ (x : Entry). AskedBy x.node more x.op x.update)) (sym (ap entries ((changes (machine_of config) w v e h).reported) ∙ entries_append w.reported ((i, h.turn.reported) ∷ [])))
          (all_both (λ (x : Entry). AskedBy x.node more x.op x.update) (entries w.reported) (entries ((i, h.turn.reported) ∷ []))
          (all_since (λ (x : Entry). AskedBy x.node es x.op x.update) (λ (x : Entry). AskedBy x.node more x.op x.update) (entries w.reported) (λ x. asked_more x.node es (e ∷ []) x.op x.update) all.entries)
          (begun_entry i more h.turn.reported.began step.1));
    }

run_asked : (config : Config) (done es : List (Event Action)) (w v : FrameWorld) → Leads (machine_of config) w es v → AllAsked done w → AllAsked (done ++ es) v
run_asked config done [] w v l all = subst (λ es. AllAsked es v) (sym (append-nil done)) (subst (AllAsked done) l all)
run_asked config done (e ∷ es) w v l all = subst (λ fs. AllAsked fs v) (append_assoc done (e ∷ []) es)
    (run_asked config (done ++ e ∷ []) es l.0 v l.2 (event_asked config done w l.0 e (happened (machine_of config) w l.0 e l.1) all))

pub entries_asked : (config : Config) (es : List (Event Action)) (w : TimedFrameWorld) → Reaches config es w → (before after : List Entry) (e : Entry)
    → entries (plain w).reported ≡ before ++ e ∷ after → (c : Command) × (command_at e.node e.op es ≡ Some c) × (change_of c ≡ Some e.update)
entries_asked config es w l before after e is =
    let all = run_asked config [] es (start_of (machine_of config)) (plain w) (plain_from_start (machine_of config) CLOCK_LIMIT es w l)
    (record { counts = λ i port. refl; nodes = λ i. record { waits = λ op u e. absurd (cc); locks = λ c op u lead st e. absurd (cc) }; entries = tt }) in
    (all_behind (λ (x : Entry). AskedBy x.node es x.op x.update) before (e ∷ after) (subst (AllByRecursion (λ (x : Entry). AskedBy x.node es x.op x.update)) is all.entries)).0
