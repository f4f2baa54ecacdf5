-- A node that is not formed holds no lock: it grants none.
use Rattle.std.proofs.Common.{◌≡◌, ℕ, Bool, true, false, ◌&&◌, cond, List}
use Rattle.std.proofs.Common.{[], ◌∷◌, Some, None, refl, ap, sym, ◌∙◌, subst}
use Rattle.std.specs.List.{list_all}
use Rattle.std.specs.Cmp.{first_so, second_so}
use Rattle.std.proofs.lemmas.Bool.{and_from}
use Rattle.pg_term.specs.declared.term.Term.{Term}
use Rattle.pg_term.specs.RefParts.{RefParts}
use Rattle.pg_term.specs.Same.{same_atom, same_term}
use Rattle.pg_step.specs.PgGroup.Functions.{upd}
use Rattle.pg_step.proofs.PgGroup.Changes.{upd_by}
use Rattle.pg_step.specs.PgLock.Locks.{Locks, held, is_free, after_ask, given_up}
use Rattle.pg_step.specs.PgMessageTypes.declared.message.Message.{Message}
use Rattle.pg_step.specs.Machines.Machine.{Input, Turn, Event, Taken, Own, node_of, start_of}
use Rattle.pg_step.specs.Machines.Happened.{Happened}
use Rattle.pg_step.specs.Machines.Clocked.{plain}
use Rattle.pg_step.specs.Nodes.{Node, Nodes}
use Rattle.pg_step.specs.State.{State, formed}
use Rattle.pg_step.specs.Turns.{NodeTurn, Report}
use Rattle.pg_step.specs.Step.{CLOCK_LIMIT, Action}
use Rattle.pg_step.specs.Config.{Config, name_at, nodes_at, ports_at}
use Rattle.pg_step.specs.FrameMachine.{node_step, machine_of, FrameWorld}
use Rattle.pg_step.specs.Peers.{exchange}
use Rattle.pg_step.proofs.Once.{clash}
use Rattle.pg_step.proofs.Machines.Sequences.{kept}
use Rattle.pg_step.proofs.Machines.Plain.{plain_from_start}
use Rattle.pg_laws.specs.Reached.{TimedFrameWorld, Reaches}
use Rattle.pg_laws.proofs.steps.Single.{Any, AnyUpdate, OfSingle, acted_so, taken_so}
use Rattle.pg_laws.proofs.steps.Lossless.{NoneLost, NobodyLost, took_all, did_all, event_nobody}
use Rattle.pg_laws.proofs.steps.Ways.{state_after}

-- ---- locks

abbrev pub NoneHeld : Locks → Type 0
NoneHeld locks = (name : Term) → locks name ≡ None

still_none : (b : Bool) (locks : Locks) (name : Term) → NoneHeld locks → NoneHeld (given_up b locks name)
unfolding held
still_none true locks name none other = go (same_term name other)
  where
    go : (b : Bool) → cond b None (locks other) ≡ None
    go true = refl
    go false = none other
still_none false locks name none other = none other

-- an unformed node answers false
unanswered : (asked full free : Bool) (locks : Locks) (name : Term) (reference : RefParts) → full ≡ false → NoneHeld locks → NoneHeld (after_ask (asked && (full && free)) locks name reference)
unanswered true false free locks name reference unformed none = none
unanswered false full free locks name reference unformed none = none
unanswered true true free locks name reference unformed none = absurd (cc)

-- ---- turns

abbrev pub Unlocked : Nodes → State → Type 0
Unlocked m s = formed m s ≡ false → NoneHeld s.locks

abbrev KeepsUnlocked : Nodes → State → NodeTurn → Type 0
KeepsUnlocked m s t = Unlocked m s → Unlocked m t.state

unlocked_singly : (m : Nodes) → OfSingle m Any AnyUpdate (KeepsUnlocked m) (KeepsUnlocked m)
unlocked_singly m = record {
  alone = λ s t keeps. keeps;
  before = λ s t next _ a b free. b (a free);
  behind = λ s t next _ a b free. b (a free);
  stays = λ s free. free;
  counted = λ port s free. free;
  lasts = λ op pid s new. new;
  answered = λ op response s _ free. free;
  opened = λ op u s _ _ free. free;
  made = λ op s _ free. free;
  attempted = λ lead op u s _ free. free;
  asked = λ who c op u lead st s _ free unformed. unanswered _ (formed m s) _ s.locks _ _ unformed (free unformed);
  given_up = λ c op u lead st s _ _ free unformed. still_none _ s.locks _ (free unformed);
  begun = λ c op u lead st s _ _ free. free;
  finished = λ n op u c replied s _ _ free unformed. still_none _ s.locks _ (free unformed);
  heard = λ c op u lead st p status s _ _ free. free;
  confirmed = λ n op u c replied p s _ _ free. free;
  odd = λ what s free. free;
  requested = λ p reference name s free unformed. unanswered true (formed m s) (is_free (s.locks name)) s.locks name reference unformed (free unformed);
  updated = λ p reference u s free. free;
  freed = λ name reference s free unformed. still_none _ s.locks _ (free unformed);
}

-- who has merged all has merged all with one more
pub all_more : (f : Node → Bool) (p : Node) (names : List Node) → list_all f names ≡ true → list_all (upd same_atom f p true) names ≡ true
all_more f p [] all = refl
all_more f p (q ∷ names) all =
    and_from (upd same_atom f p true q) (list_all (upd same_atom f p true) names)
    (upd_by same_atom f p (λ b. b ≡ true) true q (λ _. refl) (λ _. first_so (f q) (list_all f names) all))
    (all_more f p names (second_so (f q) (list_all f names) all))

pub before_too : (m : Nodes) (s t : State) (p : Node) → t.merged ≡ upd same_atom s.merged p true → formed m t ≡ false → formed m s ≡ false
before_too m s t p merged unformed = go (formed m s) refl
  where
    go : (b : Bool) → formed m s ≡ b → formed m s ≡ false
    go false is = is
    go true is = absurd (clash (sym (ap (λ (f : Node → Bool). list_all f m.peers) merged ∙ all_more s.merged p m.peers is) ∙ unformed))

step_unlocked : (config : Config) (i : ℕ) (s : State) (input : Input Message Action) (turn : Turn State Message Report) → node_step config i s input ≡ Some turn
    → NoneLost s → Unlocked (nodes_at config i) s → Unlocked (nodes_at config i) turn.state
step_unlocked config i s (Taken p x) turn is nobody free =
    let m = nodes_at config i in
    let t = took_all config i s nobody p x turn is in
    subst (λ u. Unlocked m u.state) (sym t.2)
    (taken_so m Any AnyUpdate (KeepsUnlocked m) (KeepsUnlocked m) (unlocked_singly m) (name_at config p) x s t.0
    (λ node groups _ _ before unformed. before (before_too m s ((exchange (name_at config p) groups s).state) (name_at config p) refl unformed)) (λ pid _ before. before) t.1 free)
step_unlocked config i s (Own action) turn is nobody free =
    let m = nodes_at config i in
    let t = did_all config i s nobody action turn is in
    subst (λ u. Unlocked m u.state) (sym t.2)
    (acted_so m Any AnyUpdate (KeepsUnlocked m) (KeepsUnlocked m) (unlocked_singly m) (nodes_at config i) (λ pid u _ _ _ before. before) (ports_at config i) action s t.0 (λ port. tt) (λ port c u _ _. tt) t.1 free)

-- ---- runs

abbrev pub AllUnlocked : Config → FrameWorld → Type 0
AllUnlocked config w = (i : ℕ) → Unlocked (nodes_at config i) (w.node i)

pub event_unlocked : (config : Config) (w v : FrameWorld) (e : Event Action) → Happened (machine_of config) w e v → NobodyLost w → AllUnlocked config w → AllUnlocked config v
event_unlocked config w v e h nobody free j = state_after (machine_of config) w v e h (Unlocked (nodes_at config j)) j
    (λ own. subst (λ z. Unlocked (nodes_at config z) h.turn.state) (sym own) (step_unlocked config (node_of e) (w.node (node_of e)) h.input h.turn h.made (nobody (node_of e)) (free (node_of e)))) (λ _. free j)

abbrev NoneHold : Config → FrameWorld → Type 0
NoneHold config w = NobodyLost w × AllUnlocked config w

pub unlocked_timed : (config : Config) (es : List (Event Action)) (w : TimedFrameWorld) → Reaches config es w → AllUnlocked config (plain w)
unlocked_timed config es w l =
    (kept (machine_of config) (NoneHold config) (λ v u e h both. (event_nobody config v u e h both.0, event_unlocked config v u e h both.0 both.1)) es (start_of (machine_of config)) (plain w)
    (plain_from_start (machine_of config) CLOCK_LIMIT es w l) (λ i. refl, λ i _ name. refl)).1
