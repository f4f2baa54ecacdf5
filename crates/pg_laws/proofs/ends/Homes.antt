-- Each end is at its home: at any node, and on the way.
use Rattle.std.proofs.Common.{◌≡◌, ◌⊎◌, inl, inr, ℕ, Bool, true, false, cond}
use Rattle.std.proofs.Common.{length, List, [], ◌∷◌, refl, ap, sym, ◌∙◌, subst}
use Rattle.std.specs.List.{AllByRecursion}
use Rattle.pg_term.specs.declared.pid.Pid.{Pid}
use Rattle.pg_step.specs.PgMessageTypes.declared.message.Message.TheVariants.{Exchange, Down}
use Rattle.pg_step.specs.Machines.Places.{is_place, is_pair}
use Rattle.pg_step.specs.Machines.Machine.{Event, Taken, node_of, start_of}
use Rattle.pg_step.specs.Machines.Happened.{Happened}
use Rattle.pg_step.specs.Machines.Runs.{Leads}
use Rattle.pg_step.specs.Machines.Clocked.{plain}
use Rattle.pg_step.specs.State.{State}
use Rattle.pg_step.specs.Turns.{NodeTurn}
use Rattle.pg_step.specs.Step.{CLOCK_LIMIT, Action}
use Rattle.pg_step.specs.Config.{Config, name_at, groups_at}
use Rattle.pg_step.specs.FrameMachine.{place_turn, machine_of, FrameWorld}
use Rattle.pg_step.proofs.Machines.Steps.{changes}
use Rattle.pg_step.proofs.Machines.Sequences.{kept}
use Rattle.pg_step.proofs.Machines.Plain.{plain_from_start}
use Rattle.pg_laws.specs.Reached.{TimedFrameWorld, Reaches, HasEndedAt}
use Rattle.pg_laws.specs.Sent.{end_of, ends_in}
use Rattle.pg_laws.proofs.steps.Ways.{all_both, all_behind, all_since, told_append, WayAfter, Grown}
use Rattle.pg_laws.proofs.steps.Ways.{Shorter, Unchanged, way_after, state_after, own_place, packet_there}
use Rattle.pg_laws.proofs.steps.Made.{StepMakes, Talking, Merging, Ending, step_makes, still_ended, ended_by}

pub record Homed (config : Config) (w : FrameWorld) : Type 0 where
  -- an end that is on the way is told by its home
  pub reported : (p i : ℕ) → AllByRecursion (λ pid. HasEndedAt config w pid p) (ends_in (w.wire p i))
  -- an end at any node is at its home
  pub ends : (i : ℕ) (pid : Pid) → (w.node i).ended pid ≡ true → (h : ℕ) × HasEndedAt config w pid h

pub homed_start : (config : Config) → Homed config (start_of (machine_of config))
homed_start config = record {
  reported = λ p i. none p i (is_pair (length config) p i);
  ends = λ i pid e. absurd (cc);
}
  where
    none : (p i : ℕ) (b : Bool) → AllByRecursion (λ pid. HasEndedAt config (start_of (machine_of config)) pid p) (ends_in (cond b (Exchange (name_at config p) (groups_at config p) ∷ []) []))
    none p i true = tt
    none p i false = tt

module _ (config : Config) (w v : FrameWorld) (e : Event Action) (h : Happened (machine_of config) w e v) (homed : Homed config w) where
  -- the turn of the event, as the node made it
  abbrev made : (t : NodeTurn) × (h.turn ≡ place_turn config t) × StepMakes config (node_of e) (w.node (node_of e)) h.input t
  made = step_makes config (node_of e) (w.node (node_of e)) h.input h.turn h.made

  abbrev turn : NodeTurn
  turn = made.0

  state_there : v.node (node_of e) ≡ turn.state
  state_there = (changes (machine_of config) w v e h).state ∙ ap (λ u. u.state) made.1

  lasts_there : (pid : Pid) (t : NodeTurn) → StepMakes config (node_of e) (w.node (node_of e)) h.input t → (w.node (node_of e)).ended pid ≡ true → t.state.ended pid ≡ true
  lasts_there pid t (Talking talks nothing) ended = talks.lasting pid ended
  lasts_there pid t (Merging p node groups is good same) ended = ap (λ (u : NodeTurn). u.state.ended pid) same ∙ ended
  lasts_there pid t (Ending p other is same) ended = ap (λ (u : NodeTurn). u.state.ended pid) same ∙ still_ended other pid (w.node (node_of e)) ended

  -- who has ended has ended behind the event
  lasts : (j : ℕ) (pid : Pid) → (w.node j).ended pid ≡ true → (v.node j).ended pid ≡ true
  lasts j pid = state_after (machine_of config) w v e h (λ s. (w.node j).ended pid ≡ true → s.ended pid ≡ true) j
      (λ own ended. ap (λ u. u.state.ended pid) made.1 ∙ lasts_there pid turn made.2 (subst (λ z. (w.node z).ended pid ≡ true) own ended))
      (λ other ended. ended)

  home_lasts : (pid : Pid) (j : ℕ) → HasEndedAt config w pid j → HasEndedAt config v pid j
  home_lasts pid j home = (home.0, home.1, lasts j pid home.2)

  -- a process of the own node that has ended by the turn
  own_home : (pid : Pid) → pid.node ≡ name_at config (node_of e) → turn.state.ended pid ≡ true → HasEndedAt config v pid (node_of e)
  own_home pid own ended = (own_place (machine_of config) w v e h, own, ap (λ (s : State). s.ended pid) state_there ∙ ended)

  -- what the event sends
  sent_homed : (t : NodeTurn) → StepMakes config (node_of e) (w.node (node_of e)) h.input t → turn ≡ t → (j : ℕ) (b : Bool)
      → AllByRecursion (λ pid. HasEndedAt config v pid (node_of e)) (ends_in (cond b (t.sends (name_at config j)) []))
  sent_homed t kind is j false = tt
  sent_homed t (Talking talks nothing) is j true =
      all_since (λ pid. (pid.node ≡ name_at config (node_of e)) × (t.state.ended pid ≡ true)) (λ pid. HasEndedAt config v pid (node_of e)) (ends_in (t.sends (name_at config j)))
      (λ pid both. own_home pid both.0 (ap (λ (u : NodeTurn). u.state.ended pid) is ∙ both.1)) (talks.reported (name_at config j))
  sent_homed t (Merging p node groups taken good same) is j true =
      subst (λ (u : NodeTurn). AllByRecursion (λ pid. HasEndedAt config v pid (node_of e)) (ends_in (u.sends (name_at config j)))) (sym same) tt
  sent_homed t (Ending p pid taken same) is j true =
      subst (λ (u : NodeTurn). AllByRecursion (λ pid. HasEndedAt config v pid (node_of e)) (ends_in (u.sends (name_at config j)))) (sym same) tt

  sent : (j : ℕ) → AllByRecursion (λ pid. HasEndedAt config v pid (node_of e)) (ends_in (h.turn.sends j))
  sent j = subst (λ u. AllByRecursion (λ pid. HasEndedAt config v pid (node_of e)) (ends_in (u.sends j))) (sym made.1) (sent_homed turn made.2 refl j (is_place (length config) j))

  -- what is on the way behind the event
  told_after : (p i : ℕ) → AllByRecursion (λ pid. HasEndedAt config v pid p) (ends_in (v.wire p i))
  told_after p i = go (way_after (machine_of config) w v e h p i)
    where
      before : AllByRecursion (λ pid. HasEndedAt config v pid p) (ends_in (w.wire p i))
      before = all_since (λ pid. HasEndedAt config w pid p) (λ pid. HasEndedAt config v pid p) (ends_in (w.wire p i)) (λ pid. home_lasts pid p) (homed.reported p i)

      go : WayAfter (node_of e) h.input p i (h.turn.sends i) (w.wire p i) (v.wire p i) → AllByRecursion (λ pid. HasEndedAt config v pid p) (ends_in (v.wire p i))
      go (Grown own new) = subst (λ xs. AllByRecursion (λ pid. HasEndedAt config v pid p) (ends_in xs)) (sym new)
          (subst (AllByRecursion (λ pid. HasEndedAt config v pid p)) (sym (told_append end_of (w.wire p i) (h.turn.sends i)))
          (all_both (λ pid. HasEndedAt config v pid p) (ends_in (w.wire p i)) (ends_in (h.turn.sends i)) before
          (subst (λ z. AllByRecursion (λ pid. HasEndedAt config v pid z) (ends_in (h.turn.sends i))) (sym own) (sent i))))
      go (Shorter packet apart here taken old) = all_behind (λ pid. HasEndedAt config v pid p) (end_of packet) (ends_in (v.wire p i))
          (subst (λ xs. AllByRecursion (λ pid. HasEndedAt config v pid p) (ends_in xs)) old before)
      go (Unchanged apart untaken same) = subst (λ xs. AllByRecursion (λ pid. HasEndedAt config v pid p) (ends_in xs)) (sym same) before

  -- an end that is taken is at its home
  taken_home : (p : ℕ) (pid : Pid) → h.input ≡ Taken p (Down pid) → HasEndedAt config w pid p
  taken_home p pid is =
      let there = packet_there (machine_of config) w v e h p (Down pid) is in
      (subst (λ xs. AllByRecursion (λ z. HasEndedAt config w z p) (ends_in xs)) there.1 (homed.reported p (node_of e))).0

  ends_there : (pid : Pid) (t : NodeTurn) → StepMakes config (node_of e) (w.node (node_of e)) h.input t → turn ≡ t → t.state.ended pid ≡ true → (j : ℕ) × HasEndedAt config v pid j
  ends_there pid t (Talking talks nothing) is ended = go (talks.ended pid ended)
    where
      go : ((w.node (node_of e)).ended pid ≡ true) ⊎ (pid.node ≡ name_at config (node_of e)) → (j : ℕ) × HasEndedAt config v pid j
      go (inl old) = let home = homed.ends (node_of e) pid old in (home.0, home_lasts pid home.0 home.1)
      go (inr own) = (node_of e, own_home pid own (ap (λ (u : NodeTurn). u.state.ended pid) is ∙ ended))
  ends_there pid t (Merging p node groups taken good same) is ended =
      let home = homed.ends (node_of e) pid (ap (λ (u : NodeTurn). u.state.ended pid) (sym same) ∙ ended) in (home.0, home_lasts pid home.0 home.1)
  ends_there pid t (Ending p other taken same) is ended = go (ended_by other pid (w.node (node_of e)) (ap (λ (u : NodeTurn). u.state.ended pid) (sym same) ∙ ended))
    where
      go : ((w.node (node_of e)).ended pid ≡ true) ⊎ (other ≡ pid) → (j : ℕ) × HasEndedAt config v pid j
      go (inl old) = let home = homed.ends (node_of e) pid old in (home.0, home_lasts pid home.0 home.1)
      go (inr same_one) = (p, home_lasts pid p (subst (λ z. HasEndedAt config w z p) same_one (taken_home p other taken)))

  ends_after : (i : ℕ) (pid : Pid) → (v.node i).ended pid ≡ true → (j : ℕ) × HasEndedAt config v pid j
  ends_after i pid = state_after (machine_of config) w v e h (λ s. s.ended pid ≡ true → (j : ℕ) × HasEndedAt config v pid j) i
      (λ own ended. ends_there pid turn made.2 refl (ap (λ u. u.state.ended pid) (sym made.1) ∙ ended))
      (λ other ended. let home = homed.ends i pid ended in (home.0, home_lasts pid home.0 home.1))

  pub homed_event : Homed config v
  homed_event = record { reported = told_after; ends = ends_after }

pub homed_run : (config : Config) (es : List (Event Action)) (w v : FrameWorld) → Leads (machine_of config) w es v → Homed config w → Homed config v
homed_run config = kept (machine_of config) (Homed config) (homed_event config)

pub homed_timed : (config : Config) (es : List (Event Action)) (w : TimedFrameWorld) → Reaches config es w → Homed config (plain w)
homed_timed config es w l = homed_run config es (start_of (machine_of config)) (plain w) (plain_from_start (machine_of config) CLOCK_LIMIT es w l) (homed_start config)
