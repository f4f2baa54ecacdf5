-- What each event did in a run in which nodes may be lost, and what stays.
use Rattle.std.proofs.Common.{◌≡◌, ℕ, Bool, true, false, cond, nat_lt, List, [], ◌∷◌, ◌++◌, map, ◌⊎◌, inl, inr, nat_eq, Some, None, Ok, Err, refl, ap, sym, ◌∙◌, subst, arith}
use Rattle.std.specs.Prelude.{◌↔◌}
use Rattle.std.proofs.lemmas.Bool.{cases_eq}
use Rattle.std.proofs.lemmas.List.{append-nil}
use Rattle.pg_term.specs.declared.pid.Pid.{Pid}
use Rattle.pg_laws.specs.PgMessageTypes.declared.message.Message.{Message}
use Rattle.pg_laws.specs.PgStep.Machines.Clocked.{plain}
use Rattle.pg_laws.specs.PgStep.Machines.Happened.{Happened}
use Rattle.pg_laws.specs.PgStep.Machines.Happened.{Changes}
use Rattle.pg_laws.specs.PgStep.Machines.Losing.{LosingEvent, LosingLeads, Noticed, Sent, Step, losing_happens, mapped_turn}
use Rattle.pg_laws.specs.PgStep.Machines.Machine.{Event, Input, Turn, Do, Taken, Own, happens, node_of, perform, without_input}
use Rattle.pg_laws.specs.PgStep.Machines.Places.{set_at}
use Rattle.pg_laws.proofs.PgStep.Machines.Options.{some_is}
use Rattle.pg_laws.proofs.PgStep.Machines.Places.{by_place}
use Rattle.pg_laws.proofs.PgStep.Machines.Steps.{changes, happens_so}
use Rattle.pg_laws.proofs.PgStep.Queries.{created, joined, left, query_answers}
use Rattle.pg_laws.specs.PgStep.declared.answer.Reply.TheVariants as reply
use Rattle.pg_laws.specs.PgStep.declared.command.Command.{Command}
use Rattle.pg_laws.specs.PgStep.declared.refusal.Refusal.TheVariants.{NoSuchPlace}
use Rattle.pg_laws.specs.PgStep.Commands.{command, fault_of, next_op, refused}
use Rattle.pg_laws.specs.PgStep.Config.{Config, made_at, name_at, nodes_at, ports_at}
use Rattle.pg_laws.specs.PgStep.FrameMachine.{FrameWorld, last_notice, losing_frame_machine, losing_machine_of}
use Rattle.pg_laws.specs.PgStep.FrameMachine.{machine_of, node_step, place_turn, placed}
use Rattle.pg_laws.specs.PgStep.Losses.{forgets, see_loss}
use Rattle.pg_laws.specs.PgStep.LossLaws.{LosingFrameWorld}
use Rattle.pg_laws.specs.PgStep.Nodes.{Node}
use Rattle.pg_laws.specs.PgStep.State.{Response, State, Use, live_nodes}
use Rattle.pg_laws.specs.PgStep.State.Response.{Given, Read}
use Rattle.pg_laws.specs.PgStep.State.Use.{Fresh, Locking, Owning, Updating, Spent}
use Rattle.pg_laws.specs.PgStep.Step.{Action, Issue}
use Rattle.pg_laws.specs.PgStep.StepLaws.{OnlyAnswers}
use Rattle.pg_laws.specs.PgStep.Turns.{Report, nothing}
use Rattle.pg_laws.specs.Fresh.{MakesFresh, made_by, made_in}
use Rattle.pg_laws.specs.Lasting.{at_once, refused_by}
use Rattle.pg_laws.specs.ReferencesFit.{ReferencesFit, UseFollows}
use Rattle.pg_laws.proofs.commands.AtOnce.{at_once_of, refused_exactly_of}
use Rattle.pg_laws.proofs.ends.Fresh.{Say, event_says, none_yet, numbered_once}
use Rattle.pg_laws.proofs.references.UsedOnce.{HasGone, event_follows, follows_same, follows_then}
use Rattle.pg_laws.proofs.steps.Lasting.{tabling}
use Rattle.pg_laws.proofs.steps.Ways.{told_append}
use Rattle.pg_laws_losses.specs.Onward.{AnswersAlone, AppliesOnce, LookAnswers, ReadsTable, RefusesExactly, SawLoss, TableFollows, Turned}
use Rattle.pg_laws_losses.specs.Reached.{LosingReaches, nodes_of}
use Rattle.pg_laws_losses.proofs.Carried.{IsKept, carried_on, carried_past}
use Rattle.pg_laws_losses.proofs.Counting.{all_count}
use Rattle.pg_laws_losses.proofs.Lossy.{Died, Makes, Passed, Sees, Steps, Went, bare, heard, makes, noted, passed}
use Rattle.pg_laws_losses.proofs.Standing.{loss_fits}

-- ---- what an event is

step_is : (d e : Event Action) → ◌≡◌ {A = LosingEvent Action} (Step d) (Step e) → d ≡ e
step_is d e same = cc

module _ (config : Config) (m v : LosingFrameWorld) (d : Event Action) (e : losing_happens (losing_frame_machine config) last_notice m (Step d) ≡ Some v) where
  done : Happened (losing_machine_of config) (plain m.world) d (plain v.world)
  done = go (passed config m v (Step d) e)
    where
      go : Passed config (bare m) (bare v) (Step d) → Happened (losing_machine_of config) (plain m.world) d (plain v.world)
      go (Went other is lives h same) = subst (λ x. Happened (losing_machine_of config) (plain m.world) x (plain v.world)) (step_is other d (sym is)) h
      go (Died i keep is there lives cut gone) = absurd (cc)

  pub applies_once : AppliesOnce d m v
  applies_once = record {
    report = done.turn.reported;
    reported = all.reported;
    table = go (makes config (node_of d) ((plain m.world).node (node_of d)) done.input done.turn done.made);
    others = all.states;
  }
    where
      all : Changes d done.turn (plain m.world) (plain v.world)
      all = changes (losing_machine_of config) (plain m.world) (plain v.world) d done

      go : Makes config (node_of d) ((plain m.world).node (node_of d)) done.input done.turn → TableFollows (m.world.node (node_of d)).state (v.world.node (node_of d)).state done.turn.reported
      go (Steps given t is made same) = Turned t (tabling config (node_of d) ((plain m.world).node (node_of d)) given t made)
          (all.state ∙ ap (λ (u : Turn State (Noticed Message) Report). u.state) same) (ap (λ (u : Turn State (Noticed Message) Report). u.reported) same)
      go (Sees p is not_yet same) = SawLoss (name_at config p)
          (all.state ∙ ap (λ (u : Turn State (Noticed Message) Report). u.state) same) (ap (λ (u : Turn State (Noticed Message) Report). u.reported) same)

-- ---- commands

module _ (config : Config) (m v : LosingFrameWorld) (i port : ℕ) (c : Command) (h : Happened (losing_machine_of config) (plain m.world) (Do i (Issue port c)) (plain v.world))
    (t : Turn State Message Report) (made : node_step config i (m.world.node i).state (Own (Issue port c)) ≡ Some t) (same : h.turn ≡ mapped_turn Sent t) where
  abbrev s : State
  s = (m.world.node i).state

  abbrev to : FrameWorld
  to = perform (without_input {C = Action} (nodes_of m) (Do i (Issue port c))) i t

  -- the same step, where nobody knows of a loss and nothing is on the way
  abbrev told : Happened (machine_of config) (nodes_of m) (Do i (Issue port c)) to
  told = record { there = h.there; input = Own (Issue port c); given = refl; turn = t; made = made; leaves = refl }

  reported_is : v.world.reported ≡ m.world.reported ++ (i, t.reported) ∷ []
  reported_is = (changes (losing_machine_of config) (plain m.world) (plain v.world) (Do i (Issue port c)) h).reported
      ∙ ap (λ (u : Turn State (Noticed Message) Report). m.world.reported ++ (i, u.reported) ∷ []) same

  alone : (response : Response) → (happens (machine_of config) (nodes_of m) (Do i (Issue port c)) ≡ Some to → OnlyAnswers i port response (nodes_of m) to) → AnswersAlone i port response m v
  alone response answers = record {
    nodes = record {
      node = all.state ∙ (ap (λ (u : Turn State (Noticed Message) Report). u.state) same ∙ (sym plainly.state ∙ only.node));
      others = all.states;
      ways = λ x y. refl;
      reported = reported_is ∙ (sym plainly.reported ∙ only.reported);
    };
    ways = λ x y. go x y (cases_eq x i);
  }
    where
      only : OnlyAnswers i port response (nodes_of m) to
      only = answers (happens_so (machine_of config) (nodes_of m) to (Do i (Issue port c)) told)

      all : Changes (Do i (Issue port c)) h.turn (plain m.world) (plain v.world)
      all = changes (losing_machine_of config) (plain m.world) (plain v.world) (Do i (Issue port c)) h

      plainly : Changes (Do i (Issue port c)) t (nodes_of m) to
      plainly = changes (machine_of config) (nodes_of m) to (Do i (Issue port c)) told

      none : (y : ℕ) → t.sends y ≡ []
      none y = sym (plainly.sent y) ∙ only.ways i y

      go : (x y : ℕ) → (x ≡ i) ⊎ (x ≡ i → ⊥) → (plain v.world).wire x y ≡ (plain m.world).wire x y
      go x y (inl own) = subst (λ z. (plain v.world).wire z y ≡ (plain m.world).wire z y) (sym own)
          (all.sent y ∙ (ap (λ (u : Turn State (Noticed Message) Report). (plain m.world).wire i y ++ u.sends y) same
          ∙ (ap (λ (xs : List Message). (plain m.world).wire i y ++ map Sent xs) (none y) ∙ append-nil ((plain m.world).wire i y))))
      go x y (inr other) = all.ways x y other (λ never. never)

  reads : ReadsTable i port c m v
  reads query small = alone (Read c s.table) (query_answers config (nodes_of m) to i port c query small)

  turn_is : t ≡ place_turn config (command (nodes_at config i) (live_nodes (nodes_at config i) s) port c s)
  turn_is = go (nat_lt port (ports_at config i)) made
    where
      go : (b : Bool) → placed config (cond b (Ok (command (nodes_at config i) (live_nodes (nodes_at config i) s) port c s)) (Err NoSuchPlace)) ≡ Some t
          → t ≡ place_turn config (command (nodes_at config i) (live_nodes (nodes_at config i) s) port c s)
      go true e = sym (some_is e)
      go false e = absurd (cc)

  refuses : RefusesExactly config i port c m v
  refuses = record {
    report = t.reported;
    reported = reported_is;
    by_fault = λ fault. subst (λ (r : Report). (r.gave ≡ Some (next_op port s, refused fault)) ↔ (refused_by (nodes_at config i) s c ≡ Some fault)) (sym (ap (λ (u : Turn State Message Report). u.reported) turn_is))
        (refused_exactly_of (nodes_at config i) (live_nodes (nodes_at config i) s) port c s fault);
    by_look = λ update r change fine. subst (λ (report : Report). ((report.gave ≡ Some (next_op port s, Given r)) × (report.answered ≡ None)) ↔ (at_once s update ≡ Some r))
        (sym (ap (λ (u : Turn State Message Report). u.reported) turn_is)) (at_once_of (nodes_at config i) (live_nodes (nodes_at config i) s) port c update s r change fine);
  }

-- a command is no sight of a loss
module _ (config : Config) (m v : LosingFrameWorld) (i port : ℕ) (c : Command) (e : losing_happens (losing_frame_machine config) last_notice m (Step (Do i (Issue port c))) ≡ Some v) where
  abbrev h : Happened (losing_machine_of config) (plain m.world) (Do i (Issue port c)) (plain v.world)
  h = done config m v (Do i (Issue port c)) e

  own_input : (given : Input Message Action) → Own (Issue port c) ≡ noted given → given ≡ Own (Issue port c)
  own_input (Taken p x) is = absurd (cc)
  own_input (Own action) is = let same : Issue port c ≡ action = cc in ap Own (sym same)

  turned : (P : Type 0) → ((t : Turn State Message Report) → node_step config i (m.world.node i).state (Own (Issue port c)) ≡ Some t → h.turn ≡ mapped_turn Sent t → P) → P
  turned P so = go (makes config i ((plain m.world).node i) h.input h.turn h.made)
    where
      go : Makes config i ((plain m.world).node i) h.input h.turn → P
      go (Steps given t is made same) = so t (subst (λ z. node_step config i (m.world.node i).state z ≡ Some t) (own_input given (some_is h.given ∙ is)) made) same
      go (Sees p is not_yet same) = let no : Own (Issue port c) ≡ h.input = some_is h.given in absurd (cc (no ∙ is))

  pub reads_table : ReadsTable i port c m v
  reads_table = turned (ReadsTable i port c m v) (λ t made same. reads config m v i port c h t made same)

  pub refuses_exactly : RefusesExactly config i port c m v
  refuses_exactly = turned (RefusesExactly config i port c m v) (λ t made same. refuses config m v i port c h t made same)

  pub answers_alone : (response : Response) → ((to : FrameWorld) → happens (machine_of config) (nodes_of m) (Do i (Issue port c)) ≡ Some to → OnlyAnswers i port response (nodes_of m) to) → AnswersAlone i port response m v
  answers_alone response answers = turned (AnswersAlone i port response m v)
      (λ t made same. alone config m v i port c h t made same response (answers (to config m v i port c h t made same)))

module _ (config : Config) (m v : LosingFrameWorld) (i port : ℕ) where
  pub look_answers : (c : Command) → losing_happens (losing_frame_machine config) last_notice m (Step (Do i (Issue port c))) ≡ Some v → LookAnswers config i port c m v
  look_answers c e = record {
    created = λ name counts is fine there. answers_alone config m v i port c e (Given reply.Ok)
        (λ to. subst (λ x. fault_of (nodes_at config i) (m.world.node i).state x ≡ None → happens (machine_of config) (nodes_of m) (Do i (Issue port x)) ≡ Some to → OnlyAnswers i port (Given reply.Ok) (nodes_of m) to) (sym is)
        (λ free. created config (nodes_of m) to i port name counts free there) fine);
    joined = λ name pid is fine absent. answers_alone config m v i port c e (Given (reply.NoSuchGroup name))
        (λ to. subst (λ x. fault_of (nodes_at config i) (m.world.node i).state x ≡ None → happens (machine_of config) (nodes_of m) (Do i (Issue port x)) ≡ Some to → OnlyAnswers i port (Given (reply.NoSuchGroup name)) (nodes_of m) to) (sym is)
        (λ free. joined config (nodes_of m) to i port name pid free absent) fine);
    left = λ name pid is fine absent. answers_alone config m v i port c e (Given (reply.NoSuchGroup name))
        (λ to. subst (λ x. fault_of (nodes_at config i) (m.world.node i).state x ≡ None → happens (machine_of config) (nodes_of m) (Do i (Issue port x)) ≡ Some to → OnlyAnswers i port (Given (reply.NoSuchGroup name)) (nodes_of m) to) (sym is)
        (λ free. left config (nodes_of m) to i port name pid free absent) fine);
  }

-- ---- references

forgets_follow : (peer : Node) (x : Use) → UseFollows x (forgets peer x)
forgets_follow peer Fresh = tt
forgets_follow peer (Locking op u lead st) = (refl, refl)
forgets_follow peer (Owning name n) = (refl, refl)
forgets_follow peer (Updating op u c replied) = (refl, refl, refl)
forgets_follow peer Spent = tt

follows_kept : (config : Config) (first : FrameWorld) → IsKept config (HasGone config first)
follows_kept config first = record {
  same = λ u v node reported gone i. subst (λ (f : ℕ → State). ReferencesFit (f i) × ((c : ℕ) → UseFollows ((first.node i).uses c) ((f i).uses c))) (sym node) (gone i);
  step = λ u v d h gone. event_follows config first u v d h gone;
  loss = λ u i p gone j. by_place u.node i (see_loss (name_at config p) (u.node i)).state (λ (s : State). ReferencesFit s × ((c : ℕ) → UseFollows ((first.node j).uses c) (s.uses c))) j
      (λ own.
      let before = subst (λ k. ReferencesFit (u.node k) × ((c : ℕ) → UseFollows ((first.node j).uses c) ((u.node k).uses c))) own (gone j) in (
        loss_fits (name_at config p) (u.node i) before.0,
        λ c. follows_then ((first.node j).uses c) ((u.node i).uses c) (forgets (name_at config p) ((u.node i).uses c)) (before.1 c) (forgets_follow (name_at config p) ((u.node i).uses c)),
      ))
      (λ other. gone j);
}

pub references_fit : (config : Config) (events : List (LosingEvent Action)) (w : LosingFrameWorld) (i : ℕ) → LosingReaches config events w → ReferencesFit (w.world.node i).state
references_fit config events w i l = (all_count config events w i l).counts.fitting

pub uses_follow : (config : Config) (before events : List (LosingEvent Action)) (m w : LosingFrameWorld) (i c : ℕ) → LosingReaches config before m → LosingLeads (losing_frame_machine config) last_notice m events w
    → UseFollows ((m.world.node i).state.uses c) ((w.world.node i).state.uses c)
uses_follow config before events m w i c reached l =
    (carried_on config (HasGone config (heard (bare m))) (follows_kept config (heard (bare m))) events m w l
    (λ j. (references_fit config before m j reached, λ d. follows_same ((m.world.node j).state.uses d))) i).1 c

-- ---- processes

module _ (config : Config) (i : ℕ) where
  abbrev Says : FrameWorld → Type 0
  Says u = Say config i (u.node i) (made_by i u.reported)

  none_made : (b : Bool) → cond {A = List Pid} b [] [] ++ [] ≡ []
  none_made true = refl
  none_made false = refl

  says_kept : IsKept config Says
  says_kept = record {
    same = λ u v node reported said. subst (λ (ts : List (ℕ × Report)). Say config i (v.node i) (made_by i ts)) (sym reported)
        (subst (λ (f : ℕ → State). Say config i (f i) (made_by i u.reported)) (sym node) said);
    step = λ u v d h said. event_says config i u v d h said;
    loss = λ u j p said. subst (Say config i (set_at u.node j (see_loss (name_at config p) (u.node j)).state i))
        (sym (told_append (made_in i) u.reported ((j, nothing) ∷ []) ∙ (ap (λ ps. made_by i u.reported ++ ps) (none_made (nat_eq j i)) ∙ append-nil (made_by i u.reported))))
        (by_place u.node j (see_loss (name_at config p) (u.node j)).state (λ s. Say config i s (made_by i u.reported)) i
        (λ own. subst (λ k. Say config i (u.node k) (made_by i u.reported)) own said) (λ other. said));
  }

  pub makes_fresh : (events : List (LosingEvent Action)) (w : LosingFrameWorld) → LosingReaches config events w → MakesFresh config (nodes_of w) i
  makes_fresh events w l =
      let said = carried_past config Says says_kept events w l (none_yet (name_at config i) (made_at config i), omega arith) in
      record { in_order = said.0; count = said.1; once = numbered_once config i (made_by i w.world.reported) said.0 }
