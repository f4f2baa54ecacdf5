-- What commands asked for, and how they were answered, where nodes are lost.
use Rattle.std.proofs.Common.{◌≡◌, ◌⊎◌, inl, inr, ℕ, ◌<◌, true, length, List}
use Rattle.std.proofs.Common.{[], ◌∷◌, ◌++◌, Some, refl, ap, sym, ◌∙◌, subst}
use Rattle.std.specs.List.{AllByRecursion}
use Rattle.std.proofs.lemmas.Bool.{cases_eq}
use Rattle.std.proofs.lemmas.List.{append-nil, append_assoc}
use Rattle.pg_laws.specs.PgGroup.declared.update.Update.{Update}
use Rattle.pg_laws.specs.PgMessageTypes.declared.message.Message.{Message}
use Rattle.pg_laws.specs.PgStep.Machines.Happened.{Happened}
use Rattle.pg_laws.specs.PgStep.Machines.Losing.{Noticed, Sent, LosingEvent, LosingLeads, Lose, Step, mapped_turn, nobody_gone}
use Rattle.pg_laws.specs.PgStep.Machines.Machine.{Turn, Event, Take, Do, Own, node_of, start_of}
use Rattle.pg_laws.proofs.PgStep.Machines.Options.{some_is}
use Rattle.pg_laws.proofs.PgStep.Machines.Plain.{plain_start}
use Rattle.pg_laws.proofs.PgStep.Machines.Steps.{changes}
use Rattle.pg_laws.specs.PgStep.declared.command.Command.{Command}
use Rattle.pg_laws.specs.PgStep.declared.command.OpId.{OpId}
use Rattle.pg_laws.specs.PgStep.Commands.{change_of}
use Rattle.pg_laws.specs.PgStep.Config.{Config, name_at}
use Rattle.pg_laws.specs.PgStep.FrameMachine.{FrameWorld, last_notice, losing_frame_machine, losing_machine_of, place_turn}
use Rattle.pg_laws.specs.PgStep.Losses.{forgets, see_loss}
use Rattle.pg_laws.specs.PgStep.LossLaws.{LosingFrameWorld}
use Rattle.pg_laws.specs.PgStep.Nodes.{Node}
use Rattle.pg_laws.specs.PgStep.State.{State, Status, Use}
use Rattle.pg_laws.specs.PgStep.State.Use.{Fresh, Locking, Owning, Updating, Spent}
use Rattle.pg_laws.specs.PgStep.Step.{CLOCK_LIMIT, Action}
use Rattle.pg_laws.specs.PgStep.Turns.{Report}
use Rattle.pg_laws.specs.History.{Entry, IsAnsweredOk, answered_count, answers_by}
use Rattle.pg_laws.specs.History.{command_at, entries, issued, ok_means_lock}
use Rattle.pg_laws.proofs.commands.Answered.{Silent}
use Rattle.pg_laws.proofs.commands.AnsweredRuns.{AllOk, NeedsNone, OkIn, elsewhere_ok, event_ok, own_ok, start_ok}
use Rattle.pg_laws.proofs.commands.Asked.{HasAsked}
use Rattle.pg_laws.proofs.commands.AskedRuns.{AllAsked, AskedBy, asked_more, event_asked, has_more}
use Rattle.pg_laws.proofs.commands.Ports.{AllCounted, issued_more}
use Rattle.pg_laws.proofs.steps.Grows.{entries_append}
use Rattle.pg_laws.proofs.steps.Ways.{all_behind, all_since, state_after}
use Rattle.pg_laws_losses.specs.Reached.{LosingReaches, steps_of}
use Rattle.pg_laws_losses.proofs.Carried.{AsStep, as_step}
use Rattle.pg_laws_losses.proofs.Lossy.{Lossy, bare, heard, Passed, Went, Died, passed, Makes, Steps, Sees, makes}

-- ---- what is known of the commands

counted_as : (es : List (Event Action)) (u v : FrameWorld) → v.node ≡ u.node → AllCounted es u → AllCounted es v
counted_as es u v node old i port = ap (λ (f : ℕ → State). (f i).counts port) node ∙ old i port

asked_as : (es : List (Event Action)) (u v : FrameWorld) → v.node ≡ u.node → v.reported ≡ u.reported → AllAsked es u → AllAsked es v
asked_as es u v node reported old = record {
  counts = counted_as es u v node old.counts;
  nodes = λ i. subst (λ (f : ℕ → State). HasAsked (AskedBy i es) (f i)) (sym node) (old.nodes i);
  entries = subst (λ ts. AllByRecursion (λ (e : Entry). AskedBy e.node es e.op e.update) (entries ts)) (sym reported) old.entries;
}

ok_as : (es : List (Event Action)) (u v : FrameWorld) → v.node ≡ u.node → v.reported ≡ u.reported → AllOk es u → AllOk es v
ok_as es u v node reported old = record {
  counts = counted_as es u v node old.counts;
  nodes = λ i. subst (OkIn i es) (sym reported) (old.nodes i);
}

record Commands (es : List (Event Action)) (w : Lossy) : Type 0 where
  asked : AllAsked es (heard w)
  ok : AllOk es (heard w)

stepped : (config : Config) (es : List (Event Action)) (w v : Lossy) (d : Event Action) → AsStep config w v d → Commands es w → Commands (es ++ d ∷ []) v
stepped config es w v d s old = record {
  asked = asked_as (es ++ d ∷ []) s.to (heard v) s.node_later s.reported_later (event_asked config es s.from s.to d s.step (asked_as es (heard w) s.from s.node s.reported old.asked));
  ok = ok_as (es ++ d ∷ []) s.to (heard v) s.node_later s.reported_later (event_ok config es s.from s.to d s.step (ok_as es (heard w) s.from s.node s.reported old.ok));
}

-- ---- a loss is seen

forgets_locking : (peer : Node) (used : Use) (op : OpId) (u : Update) (lead : Node) (st : Node → Status) → forgets peer used ≡ Locking op u lead st → (before : Node → Status) × (used ≡ Locking op u lead before)
forgets_locking peer Fresh op u lead st e = absurd (cc)
forgets_locking peer (Locking o v l before) op u lead st e =
    let same_op : o ≡ op = cc in
    let same_update : v ≡ u = cc in
    let same_lead : l ≡ lead = cc in
    (before, λ k. Locking (same_op k) (same_update k) (same_lead k) before)
forgets_locking peer (Owning name n) op u lead st e = absurd (cc)
forgets_locking peer (Updating o v c replied) op u lead st e = absurd (cc)
forgets_locking peer Spent op u lead st e = absurd (cc)

loss_asked : (Asks : OpId → Update → Type 0) (peer : Node) (s : State) → HasAsked Asks s → HasAsked Asks (see_loss peer s).state
loss_asked Asks peer s old = record {
  waits = old.waits;
  locks = λ c op u lead st e. let before = forgets_locking peer (s.uses c) op u lead st e in old.locks c op u lead before.0 before.1;
}

module _ (config : Config) (es : List (Event Action)) (w v : Lossy) (i q p : ℕ) (h : Happened (losing_machine_of config) w.world (Take i q) v.world)
    (same : h.turn ≡ mapped_turn Sent (place_turn config (see_loss (name_at config p) (w.world.node i)))) (old : Commands es w) where
  abbrev more : List (Event Action)
  more = es ++ Take i q ∷ []

  state_is : h.turn.state ≡ (see_loss (name_at config p) (w.world.node i)).state
  state_is = ap (λ (z : Turn State (Noticed Message) Report). z.state) same

  reported_is : v.world.reported ≡ w.world.reported ++ (i, h.turn.reported) ∷ []
  reported_is = (changes (losing_machine_of config) w.world v.world (Take i q) h).reported

  saw_counted : AllCounted (es ++ Take i q ∷ []) (heard v)
  saw_counted j port = state_after (losing_machine_of config) w.world v.world (Take i q) h (λ (s : State). s.counts port ≡ length (issued j port (es ++ Take i q ∷ []))) j
      (λ own. ap (λ (s : State). s.counts port) state_is ∙ (ap (λ k. (w.world.node k).counts port) (sym own) ∙ now)) (λ other. now)
    where
      now : (w.world.node j).counts port ≡ length (issued j port (es ++ Take i q ∷ []))
      now = old.asked.counts j port ∙ ap length (sym (issued_more j port es (Take i q ∷ []) ∙ append-nil (issued j port es)))

  saw_asked : AllAsked (es ++ Take i q ∷ []) (heard v)
  saw_asked = record {
    counts = saw_counted;
    nodes = λ j. state_after (losing_machine_of config) w.world v.world (Take i q) h (HasAsked (AskedBy j (es ++ Take i q ∷ []))) j
        (λ own. subst (HasAsked (AskedBy j (es ++ Take i q ∷ []))) (sym state_is) (loss_asked (AskedBy j (es ++ Take i q ∷ [])) (name_at config p) (w.world.node i)
        (subst (λ k. HasAsked (AskedBy j (es ++ Take i q ∷ [])) (w.world.node k)) own (has_more j es (Take i q ∷ []) (w.world.node j) (old.asked.nodes j)))))
        (λ other. has_more j es (Take i q ∷ []) (w.world.node j) (old.asked.nodes j));
    entries = subst (AllByRecursion (λ (x : Entry). AskedBy x.node (es ++ Take i q ∷ []) x.op x.update)) (sym entries_same)
        (all_since (λ (x : Entry). AskedBy x.node es x.op x.update) (λ (x : Entry). AskedBy x.node (es ++ Take i q ∷ []) x.op x.update) (entries w.world.reported) (λ x. asked_more x.node es (Take i q ∷ []) x.op x.update) old.asked.entries);
  }
    where
      entries_same : entries v.world.reported ≡ entries w.world.reported
      entries_same = ap entries (reported_is ∙ ap (λ (z : Turn State (Noticed Message) Report). w.world.reported ++ (i, z.reported) ∷ []) same)
          ∙ (entries_append w.world.reported ((i, (see_loss (name_at config p) (w.world.node i)).reported) ∷ []) ∙ append-nil (entries w.world.reported))

  saw_ok : AllOk (es ++ Take i q ∷ []) (heard v)
  saw_ok = record { counts = saw_counted; nodes = λ j. subst (OkIn j (es ++ Take i q ∷ [])) (sym reported_is) (go j (cases_eq i j)) }
    where
      go : (j : ℕ) → (i ≡ j) ⊎ (i ≡ j → ⊥) → OkIn j (es ++ Take i q ∷ []) (w.world.reported ++ (i, h.turn.reported) ∷ [])
      go j (inl own) = own_ok j i es (Take i q ∷ []) w.world.reported h.turn.reported (old.ok.nodes j) own
          (Silent (ap (λ (z : Turn State (Noticed Message) Report). z.reported.gave) same) (ap (λ (z : Turn State (Noticed Message) Report). z.reported.answered) same))
      go j (inr other) = elsewhere_ok j i es (Take i q ∷ []) w.world.reported h.turn.reported (old.ok.nodes j) other

-- ---- events

went : (config : Config) (es : List (Event Action)) (w v : Lossy) (d : Event Action) (h : Happened (losing_machine_of config) w.world d v.world)
    → Makes config (node_of d) (w.world.node (node_of d)) h.input h.turn → Commands es w → Commands (es ++ d ∷ []) v
went config es w v d h (Steps given t is made same) old = stepped config es w v d (as_step config w v d h given t is made same) old
went config es w v (Take i q) h (Sees p is not_yet same) old = record { asked = saw_asked config es w v i q p h same old; ok = saw_ok config es w v i q p h same old }
went config es w v (Do i action) h (Sees p is not_yet same) old = let no : Own action ≡ h.input = some_is h.given in absurd (cc (no ∙ is))

run_commands : (config : Config) (done : List (Event Action)) (es : List (LosingEvent Action)) (w v : LosingFrameWorld) → LosingLeads (losing_frame_machine config) last_notice w es v
    → Commands done (bare w) → Commands (done ++ steps_of es) (bare v)
run_commands config done [] w v l old = subst (λ xs. Commands xs (bare v)) (sym (append-nil done)) (subst (λ (u : LosingFrameWorld). Commands done (bare u)) l old)
run_commands config done (Step d ∷ es) w v l old = subst (λ xs. Commands xs (bare v)) (append_assoc done (d ∷ []) (steps_of es))
    (run_commands config (done ++ d ∷ []) es l.0 v l.2 (go (passed config w l.0 (Step d) l.1)))
  where
    go : Passed config (bare w) (bare l.0) (Step d) → Commands (done ++ d ∷ []) (bare l.0)
    go (Went f is lives h same) =
        let one : f ≡ d = step_is f d (sym is) in
        subst (λ x. Commands (done ++ x ∷ []) (bare l.0)) one (went config done (bare w) (bare l.0) f h (makes config (node_of f) ((bare w).world.node (node_of f)) h.input h.turn h.made) old)
      where
        step_is : (f d : Event Action) → ◌≡◌ {A = LosingEvent Action} (Step f) (Step d) → f ≡ d
        step_is f d e = cc
    go (Died i keep is there lives cut gone) = absurd (cc)
run_commands config done (Lose node keep ∷ es) w v l old = run_commands config done es l.0 v l.2 (go (passed config w l.0 (Lose node keep) l.1))
  where
    go : Passed config (bare w) (bare l.0) (Lose node keep) → Commands done (bare l.0)
    go (Went f is lives h same) = absurd (cc)
    go (Died i cut_at is there lives cut gone) = subst (λ u. Commands done (record { world = u; gone = (l.0).gone })) (sym cut) (record {
      asked = asked_as done (heard (bare w)) _ refl refl old.asked;
      ok = ok_as done (heard (bare w)) _ refl refl old.ok;
    })

module _ (config : Config) (es : List (LosingEvent Action)) (w : LosingFrameWorld) (l : LosingReaches config es w) where
  commands : Commands (steps_of es) (bare w)
  commands = run_commands config [] es (nobody_gone (start_of (losing_frame_machine config))) w l
      (subst (λ u. Commands [] (nobody_gone u)) (sym (plain_start (losing_machine_of config) CLOCK_LIMIT)) (record { asked = first; ok = first_ok }))
    where
      first : AllAsked [] (heard (nobody_gone (start_of (losing_machine_of config))))
      first = record { counts = λ i port. refl; nodes = λ i. record { waits = λ op u e. absurd (cc); locks = λ c op u lead st e. absurd (cc) }; entries = tt }

      first_ok : AllOk [] (heard (nobody_gone (start_of (losing_machine_of config))))
      first_ok = let start = start_ok config in record { counts = λ i port. refl; nodes = start.nodes }

  pub entries_given : (before after : List Entry) (e : Entry) → entries w.world.reported ≡ before ++ e ∷ after → (c : Command) × (command_at e.node e.op (steps_of es) ≡ Some c) × (change_of c ≡ Some e.update)
  entries_given before after e is =
      (all_behind (λ (x : Entry). AskedBy x.node (steps_of es) x.op x.update) before (e ∷ after) (subst (AllByRecursion (λ (x : Entry). AskedBy x.node (steps_of es) x.op x.update)) is commands.asked.entries)).0

  pub behind_ok : (i : ℕ) (op : OpId) → 0 < answered_count i op w.world.reported → IsAnsweredOk op (answers_by i w.world.reported)
  behind_ok i op some = (commands.ok.nodes i).behind op some

  pub ok_behind : (i : ℕ) (op : OpId) (c : Command) → command_at i op (steps_of es) ≡ Some c → ok_means_lock c ≡ true → IsAnsweredOk op (answers_by i w.world.reported) → 0 < answered_count i op w.world.reported
  ok_behind i op c is needs ok = go ((commands.ok.nodes i).only op ok)
    where
      go : (0 < answered_count i op w.world.reported) ⊎ NeedsNone i (steps_of es) op → 0 < answered_count i op w.world.reported
      go (inl some) = some
      go (inr none) =
          let same : Some c ≡ Some none.0 = sym is ∙ none.1 in
          let one : c ≡ none.0 = cc in
          absurd (cc (sym needs ∙ ap ok_means_lock one ∙ none.2))
