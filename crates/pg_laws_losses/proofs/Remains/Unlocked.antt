-- A node that is not formed holds no lock, and who begins an update is formed, also where nodes are lost.
use Rattle.std.proofs.Common.{◌≡◌, ◌≢◌, ◌⊎◌, inl, inr, ℕ, Bool, true, false, not, ◌&&◌}
use Rattle.std.proofs.Common.{cond, List, [], ◌∷◌, Some, None, refl, ap, sym, ◌∙◌, subst}
use Rattle.std.specs.List.{filter, list_all}
use Rattle.pg_term.specs.declared.pid.Pid.{Pid}
use Rattle.pg_term.specs.declared.term.Term.{Term}
use Rattle.pg_term.specs.RefParts.{RefParts}
use Rattle.pg_term.specs.Same.{same_atom, same_term}
use Rattle.pg_laws.specs.PgGroup.declared.update.Update.{Update}
use Rattle.pg_laws.specs.PgGroup.Functions.{upd}
use Rattle.pg_laws.proofs.PgGroup.Changes.{upd_by}
use Rattle.pg_laws.specs.PgExchange.GroupList.{GroupList}
use Rattle.pg_laws.specs.PgLock.Locks.{Locks, held, is_free, after_ask, given_up, freed_of}
use Rattle.pg_laws.specs.PgMessageTypes.declared.message.Message.{Message}
use Rattle.pg_laws.specs.PgMessageTypes.declared.message.Message.TheVariants.{Down}
use Rattle.pg_laws.specs.PgStep.Machines.Losing.{LosingEvent, Noticed, nobody_gone}
use Rattle.pg_laws.specs.PgStep.Machines.Machine.{Input, Turn, Taken, Own, node_of, start_of}
use Rattle.pg_laws.proofs.PgStep.Machines.Plain.{plain_start}
use Rattle.pg_laws.specs.PgStep.declared.command.OpId.{OpId}
use Rattle.pg_laws.specs.PgStep.Config.{Config, name_at, nodes_at, ports_at}
use Rattle.pg_laws.specs.PgStep.FrameMachine.{losing_frame_machine, losing_machine_of, node_step, place_turn}
use Rattle.pg_laws.specs.PgStep.Losses.{forgets, see_loss}
use Rattle.pg_laws.specs.PgStep.LossLaws.{LosingFrameWorld}
use Rattle.pg_laws.specs.PgStep.Nodes.{Node, Nodes, to_peers}
use Rattle.pg_laws.specs.PgStep.Peers.{ended_in, exchange, process_end}
use Rattle.pg_laws.specs.PgStep.State.{State, Status, Use, formed, live_nodes}
use Rattle.pg_laws.specs.PgStep.State.Status.{Unasked, Asked, Yes, No}
use Rattle.pg_laws.specs.PgStep.State.Use.{Fresh, Locking, Owning, Updating, Spent}
use Rattle.pg_laws.specs.PgStep.Step.{Action, CLOCK_LIMIT}
use Rattle.pg_laws.specs.PgStep.Turns.{NodeTurn, Report, becomes_and_sends}
use Rattle.pg_laws.proofs.places.Begun.{FitsOwn, KeepsOwn, OwnFits, TurnOwn, own_singly}
use Rattle.pg_laws.proofs.places.Unlocked.{NoneHeld, Unlocked, all_more, before_too}
use Rattle.pg_laws.proofs.references.Keys.{atoms, read_at, read_other, split}
use Rattle.pg_laws.proofs.steps.Lasting.{step_lasts}
use Rattle.pg_laws.proofs.steps.Lossless.{step_sees_none}
use Rattle.pg_laws.proofs.steps.Made.{did_so, took_so}
use Rattle.pg_laws.proofs.steps.Single.{Any, AnyUpdate, OfSingle, acted_so, taken_so}
use Rattle.pg_laws.proofs.steps.Ways.{state_after}
use Rattle.pg_laws.proofs.tables.Applied.{step_tables}
use Rattle.pg_laws_losses.specs.Reached.{LosingReaches}
use Rattle.pg_laws_losses.proofs.Lossy.{Lossy, Passed, Went, Died, kept_past, Makes, Steps, Sees, makes}

-- ---- locks

still_none : (b : Bool) (locks : Locks) (name : Term) → NoneHeld locks → NoneHeld (given_up b locks name)
unfolding held
still_none true locks name none other = go (same_term name other)
  where
    go : (b : Bool) → cond b None (locks other) ≡ None
    go true = refl
    go false = none other
still_none false locks name none other = none other

-- an unformed node answers false
unanswered : (asked full free : Bool) (locks : Locks) (name : Term) (reference : RefParts) → full ≡ false → NoneHeld locks → NoneHeld (after_ask (asked && (full && free)) locks name reference)
unanswered true false free locks name reference unformed none = none
unanswered false full free locks name reference unformed none = none
unanswered true true free locks name reference unformed none = absurd (cc)

-- ---- turns

abbrev KeepsUnlocked : Nodes → State → NodeTurn → Type 0
KeepsUnlocked m s t = Unlocked m s → Unlocked m t.state

unlocked_singly : (m : Nodes) → OfSingle m Any AnyUpdate (KeepsUnlocked m) (KeepsUnlocked m)
unlocked_singly m = record {
  alone = λ s t keeps. keeps;
  before = λ s t next _ a b free. b (a free);
  behind = λ s t next _ a b free. b (a free);
  stays = λ s free. free;
  counted = λ port s free. free;
  lasts = λ op pid s new. new;
  answered = λ op response s _ free. free;
  opened = λ op u s _ _ free. free;
  made = λ op s _ free. free;
  attempted = λ lead op u s _ free. free;
  asked = λ who c op u lead st s _ free unformed. unanswered _ (formed m s) _ s.locks _ _ unformed (free unformed);
  given_up = λ c op u lead st s _ _ free unformed. still_none _ s.locks _ (free unformed);
  begun = λ c op u lead st s _ _ free. free;
  finished = λ n op u c replied s _ _ free unformed. still_none _ s.locks _ (free unformed);
  heard = λ c op u lead st p status s _ _ free. free;
  confirmed = λ n op u c replied p s _ _ free. free;
  odd = λ what s free. free;
  requested = λ p reference name s free unformed. unanswered true (formed m s) (is_free (s.locks name)) s.locks name reference unformed (free unformed);
  updated = λ p reference u s free. free;
  freed = λ name reference s free unformed. still_none _ s.locks _ (free unformed);
}

-- both of a turn
record Both (m : Nodes) (s : State) (t : NodeTurn) : Type 0 where
  locks : KeepsUnlocked m s t
  own : TurnOwn m s t

of_exchange : (m : Nodes) (p : Node) (groups : GroupList) (s : State) → TurnOwn m s (exchange p groups s)
of_exchange m p groups s = record {
  keeps = λ fits. record { own = λ c op u lead st is. later (st m.own) (fits.own c op u lead st is) };
  began = λ fits op u e. absurd (cc);
  stays = all_more s.merged p m.peers;
}
  where
    later : (v : Status) → FitsOwn (formed m s) v → FitsOwn (formed m ((exchange p groups s).state)) v
    later Asked f = f
    later Yes f = all_more s.merged p m.peers f
    later Unasked f = tt
    later No f = tt

of_end : (m : Nodes) (pid : Pid) (s : State) → TurnOwn m s (process_end pid s)
of_end m pid s = record { keeps = λ fits. record { own = λ c op u lead st is. fits.own c op u lead st is }; began = λ fits op u e. absurd (cc); stays = λ full. full }

of_own_end : (m : Nodes) (pid : Pid) (s : State) → TurnOwn m s (becomes_and_sends (ended_in pid s) (to_peers m (λ _. true) (Down pid)))
of_own_end m pid s = record { keeps = λ fits. record { own = λ c op u lead st is. fits.own c op u lead st is }; began = λ fits op u e. absurd (cc); stays = λ full. full }

-- ---- what a node counts

-- who has merged those that are lost has merged all where it has merged the live
pub all_left : (merged lost : Node → Bool) (names : List Node) → ((q : Node) → lost q ≡ true → merged q ≡ true) → list_all merged (filter (λ q. not (lost q)) names) ≡ list_all merged names
all_left merged lost [] h = refl
all_left merged lost (q ∷ names) h = go (lost q) refl (all_left merged lost names h)
  where
    go : (b : Bool) → lost q ≡ b → list_all merged (filter (λ x. not (lost x)) names) ≡ list_all merged names
        → list_all merged (cond (not b) (q ∷ filter (λ x. not (lost x)) names) (filter (λ x. not (lost x)) names)) ≡ (merged q && list_all merged names)
    go false is rest = ap (λ b. merged q && b) rest
    go true is rest = rest ∙ ap (λ b. b && list_all merged names) (sym (h q is))

-- of a node, by the nodes of its configuration
pub record Waits (m : Nodes) (s : State) : Type 0 where
  -- a loss that was seen counts as an exchange that was taken
  pub lost : (q : Node) → s.lost q ≡ true → s.merged q ≡ true
  pub unlocked : Unlocked m s
  pub own : OwnFits m s

module _ (config : Config) (i : ℕ) (s : State) (old : Waits (nodes_at config i) s) where
  abbrev all : Nodes
  all = nodes_at config i

  abbrev m : Nodes
  m = live_nodes (nodes_at config i) s

  full_is : formed m s ≡ formed all s
  full_is = all_left s.merged s.lost all.peers old.lost

  unlocked_left : Unlocked m s
  unlocked_left unformed = old.unlocked (sym full_is ∙ unformed)

  own_left : OwnFits m s
  own_left = record { own = λ c op u lead st is. subst (λ b. FitsOwn b (st all.own)) (sym full_is) (old.own.own c op u lead st is) }

  -- what a step makes
  record Turned (t : State) (reported : Report) : Type 0 where
    waits : Waits all t
    began : (op : OpId) (u : Update) → reported.began ≡ Some (op, u) → formed all s ≡ true

  turned : (t : NodeTurn) → t.state.lost ≡ s.lost → ((q : Node) → s.merged q ≡ true → t.state.merged q ≡ true) → Both m s t → Turned t.state t.reported
  turned t same grows both = record {
    waits = record { lost = lost; unlocked = λ unformed. both.locks unlocked_left (later_is ∙ unformed); own = record { own = own } };
    began = λ op u e. sym full_is ∙ both.own.began own_left op u e;
  }
    where
      lost : (q : Node) → t.state.lost q ≡ true → t.state.merged q ≡ true
      lost q is = grows q (old.lost q (ap (λ (f : Node → Bool). f q) (sym same) ∙ is))

      later_is : formed m t.state ≡ formed all t.state
      later_is = all_left t.state.merged s.lost all.peers (λ q is. grows q (old.lost q is))

      own : (c : ℕ) (op : OpId) (u : Update) (lead : Node) (st : Node → Status) → t.state.uses c ≡ Locking op u lead st → FitsOwn (formed all t.state) (st all.own)
      own c op u lead st is = subst (λ b. FitsOwn b (st all.own)) later_is ((both.own.keeps own_left).own c op u lead st is)

  step_turned : (input : Input Message Action) (turn : Turn State Message Report) → node_step config i s input ≡ Some turn → Turned turn.state turn.reported
  step_turned (Taken p x) turn is =
      let t = took_so config i s p x turn is in
      subst (λ (u : Turn State Message Report). Turned u.state u.reported) (sym t.2) (turned t.0
      (ap (λ (u : Turn State Message Report). u.state.lost) (sym t.2) ∙ step_sees_none config i s (Taken p x) turn is)
      (grows (Taken p x) turn is t.0 t.2)
      (record {
        locks = taken_so m Any AnyUpdate (KeepsUnlocked m) (KeepsUnlocked m) (unlocked_singly m) (name_at config p) x s t.0
            (λ node groups _ _ before unformed. before (before_too m s ((exchange (name_at config p) groups s).state) (name_at config p) refl unformed)) (λ pid _ before. before) t.1;
        own = taken_so m Any AnyUpdate (KeepsOwn m) (TurnOwn m) (own_singly m) (name_at config p) x s t.0
            (λ node groups _ _. of_exchange m (name_at config p) groups s) (λ pid _. of_end m pid s) t.1;
      }))
    where
      grows : (input : Input Message Action) (turn : Turn State Message Report) → node_step config i s input ≡ Some turn → (t : NodeTurn) → turn ≡ place_turn config t
          → (q : Node) → s.merged q ≡ true → t.state.merged q ≡ true
      grows input turn is t same q was =
          let k = step_tables config i s input turn is in
          ap (λ (u : Turn State Message Report). u.state.merged q) (sym same) ∙ (ap (λ (u : Turn State Message Report). u.state.merged q) k.1 ∙ (step_lasts config s input k.0 k.2).merged q was)
  step_turned (Own action) turn is =
      let t = did_so config i s action turn is in
      let k = step_tables config i s (Own action) turn is in
      subst (λ (u : Turn State Message Report). Turned u.state u.reported) (sym t.2) (turned t.0
      (ap (λ (u : Turn State Message Report). u.state.lost) (sym t.2) ∙ step_sees_none config i s (Own action) turn is)
      (λ q was. ap (λ (u : Turn State Message Report). u.state.merged q) (sym t.2) ∙ (ap (λ (u : Turn State Message Report). u.state.merged q) k.1 ∙ (step_lasts config s (Own action) k.0 k.2).merged q was))
      (record {
        locks = acted_so m Any AnyUpdate (KeepsUnlocked m) (KeepsUnlocked m) (unlocked_singly m) all (λ pid u _ _ _ before. before) (ports_at config i) action s t.0 (λ port. tt) (λ port c u _ _. tt) t.1;
        own = acted_so m Any AnyUpdate (KeepsOwn m) (TurnOwn m) (own_singly m) all (λ pid u _ _ _. of_own_end m pid u) (ports_at config i) action s t.0 (λ port. tt) (λ port c u _ _. tt) t.1;
      }))

  -- ---- a loss is seen

  module _ (peer : Node) where
    abbrev t : State
    t = (see_loss peer s).state

    seen_lost : (q : Node) → t.lost q ≡ true → t.merged q ≡ true
    seen_lost q = go (split same_atom atoms q peer)
      where
        go : (q ≡ peer) ⊎ (q ≢ peer) → upd same_atom s.lost peer true q ≡ true → upd same_atom s.merged peer true q ≡ true
        go (inl e) _ = read_at same_atom atoms s.merged peer true q e
        go (inr other) was = read_other same_atom atoms s.merged peer true q other ∙ old.lost q (sym (read_other same_atom atoms s.lost peer true q other) ∙ was)

    later : (v : Status) → FitsOwn (formed all s) v → FitsOwn (formed all t) v
    later Asked f = f
    later Yes f = all_more s.merged peer all.peers f
    later Unasked f = tt
    later No f = tt

    forgotten : (used : Use) → ((op : OpId) (u : Update) (lead : Node) (st : Node → Status) → used ≡ Locking op u lead st → FitsOwn (formed all s) (st all.own))
        → (op : OpId) (u : Update) (lead : Node) (st : Node → Status) → forgets peer used ≡ Locking op u lead st → FitsOwn (formed all t) (st all.own)
    forgotten (Locking op u lead st) fits op2 u2 lead2 st2 e =
        let same : upd same_atom st peer Unasked ≡ st2 = cc in
        subst (λ (x : Node → Status). FitsOwn (formed all t) (x all.own)) same
        (upd_by same_atom st peer (FitsOwn (formed all t)) Unasked all.own (λ _. tt) (λ _. later (st all.own) (fits op u lead st refl)))
    forgotten Fresh fits op u lead st e = absurd (cc)
    forgotten Spent fits op u lead st e = absurd (cc)
    forgotten (Owning name n) fits op u lead st e = absurd (cc)
    forgotten (Updating o v c replied) fits op u lead st e = absurd (cc)

    seen_turned : Waits all t
    seen_turned = record {
      lost = seen_lost;
      unlocked = λ unformed name. ap (freed_of peer) (old.unlocked (before_too all s t peer refl unformed) name);
      own = record { own = λ c. forgotten (s.uses c) (old.own.own c) };
    }

  made_turned : (input : Input (Noticed Message) Action) (turn : Turn State (Noticed Message) Report) → Makes config i s input turn → Turned turn.state turn.reported
  made_turned input turn (Steps given t is made same) = subst (λ (u : Turn State (Noticed Message) Report). Turned u.state u.reported) (sym same) (step_turned given t made)
  made_turned input turn (Sees p is not_yet same) = subst (λ (u : Turn State (Noticed Message) Report). Turned u.state u.reported) (sym same)
      (record { waits = seen_turned (name_at config p); began = λ op u e. absurd (cc) })

  -- who begins an update is formed
  pub began_formed : (input : Input (Noticed Message) Action) (turn : Turn State (Noticed Message) Report) → Makes config i s input turn → (op : OpId) (u : Update) → turn.reported.began ≡ Some (op, u) → formed (nodes_at config i) s ≡ true
  began_formed input turn made = (made_turned input turn made).began

  pub made_waits : (input : Input (Noticed Message) Action) (turn : Turn State (Noticed Message) Report) → Makes config i s input turn → Waits (nodes_at config i) turn.state
  made_waits input turn made = (made_turned input turn made).waits

-- ---- runs

abbrev AllWait : Config → Lossy → Type 0
AllWait config w = (i : ℕ) → Waits (nodes_at config i) (w.world.node i)

event_waits : (config : Config) (w v : Lossy) (e : LosingEvent Action) → Passed config w v e → AllWait config w → AllWait config v
event_waits config w v e (Went d is lives h same) old j = state_after (losing_machine_of config) w.world v.world d h (Waits (nodes_at config j)) j
    (λ own. subst (λ z. Waits (nodes_at config z) h.turn.state) (sym own)
    (made_waits config (node_of d) (w.world.node (node_of d)) (old (node_of d)) h.input h.turn (makes config (node_of d) (w.world.node (node_of d)) h.input h.turn h.made)))
    (λ _. old j)
event_waits config w v e (Died i keep is there lives cut gone) old j = subst (λ u. Waits (nodes_at config j) (u.node j)) (sym cut) (old j)

start_waits : (config : Config) → AllWait config (nobody_gone (start_of (losing_machine_of config)))
start_waits config i = record { lost = λ q e. absurd (cc); unlocked = λ _ name. refl; own = record { own = λ c op u lead st e. absurd (cc) } }

pub waits : (config : Config) (es : List (LosingEvent Action)) (w : LosingFrameWorld) → LosingReaches config es w → (i : ℕ) → Waits (nodes_at config i) (w.world.node i).state
waits config es w l = kept_past config (AllWait config) (event_waits config) es (nobody_gone (start_of (losing_frame_machine config))) w l
    (subst (λ u. AllWait config (nobody_gone u)) (sym (plain_start (losing_machine_of config) CLOCK_LIMIT)) (start_waits config))
