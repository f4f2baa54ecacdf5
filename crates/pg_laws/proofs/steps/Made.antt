-- What the step of a node of a configuration makes: a turn that merges no peer, a peer's exchange, or a peer's end.
use Rattle.std.proofs.Common.{◌∙◌, ap, length, ◌≡◌, ◌⊎◌, inl, inr, ℕ, Bool, true, false}
use Rattle.std.proofs.Common.{◌&&◌, cond, [], ◌∷◌, Some, Result, Ok, Err, refl, sym, subst}
use Rattle.std.specs.List.{AllByRecursion}
use Rattle.pg_term.specs.declared.pid.Pid.{Pid}
use Rattle.pg_term.specs.Same.{same_atom, same_pid}
use Rattle.pg_term.specs.contracts.pid.PidEq.TheImpl.Laws as pid_laws
use Rattle.pg_term.proofs.Same.{pid_is}
use Rattle.pg_step.proofs.PgGroup.Changes.{upd_at, upd_by}
use Rattle.pg_step.specs.PgExchange.GroupList.{GroupList}
use Rattle.pg_step.specs.PgMessageTypes.declared.message.Message.{Message}
use Rattle.pg_step.specs.PgMessageTypes.declared.message.Message.TheVariants.{Call, Reply, DelLock, Exchange, Down}
use Rattle.pg_step.specs.Machines.Machine.{Input, Turn, Taken, Own}
use Rattle.pg_step.specs.Nodes.{Node, Nodes, is_peer, to_peers}
use Rattle.pg_step.specs.State.{State, live_nodes}
use Rattle.pg_step.specs.Turns.{NodeTurn, Report, becomes_and_sends}
use Rattle.pg_step.specs.Peers.{is_bad_exchange, exchange, process_end, ended_in}
use Rattle.pg_step.specs.Step.{Action, taken, acted}
use Rattle.pg_step.specs.declared.refusal.Refusal.{Refusal}
use Rattle.pg_step.specs.declared.refusal.Refusal.TheVariants.{NotAMessage, NodeLost}
use Rattle.pg_step.specs.Config.{Config, name_at, nodes_at, ports_at}
use Rattle.pg_step.specs.FrameMachine.{place_turn, placed, node_step}
use Rattle.pg_step.proofs.Machines.Options.{some_is}
use Rattle.pg_step.proofs.Once.{same_is}
use Rattle.pg_step.specs.Machines.Places.{is_place}
use Rattle.pg_laws.specs.Sent.{exchange_of, exchanges_in, end_of, ends_in}
use Rattle.pg_laws.proofs.steps.Single.{Any, AnyUpdate, Makes, ok_is, acted_so, taken_so}
use Rattle.pg_laws.proofs.ends.Talk.{Talks, sent_nothing, talks_singly}

-- ---- the end of a process

-- who has ended has ended behind it
pub still_ended : (pid other : Pid) (s : State) → s.ended other ≡ true → (ended_in pid s).ended other ≡ true
still_ended pid other s e = upd_by same_pid s.ended pid (λ b. b ≡ true) true other (λ _. refl) (λ _. e)

-- and of others that one alone
pub ended_by : (pid other : Pid) (s : State) → (ended_in pid s).ended other ≡ true → (s.ended other ≡ true) ⊎ (pid ≡ other)
ended_by pid other s = upd_by same_pid s.ended pid (λ b. b ≡ true → (s.ended other ≡ true) ⊎ (pid ≡ other)) true other (λ is _. inr (pid_is pid other is)) (λ _ e. inl e)

ends_talk : (m : Nodes) (pid : Pid) (s : State) → same_atom pid.node m.own ≡ true → Talks m s (becomes_and_sends (ended_in pid s) (to_peers m (λ _. true) (Down pid)))
ends_talk m pid s home = record {
  merged = refl;
  exchanges = λ q. sent_nothing exchange_of (Down pid) (is_peer m q && true) refl;
  lasting = λ other. still_ended pid other s;
  ended = λ other e. own other (ended_by pid other s e);
  reported = λ q. reported (is_peer m q && true);
}
  where
    at_home : pid.node ≡ m.own
    at_home = same_is pid.node m.own home

    own : (other : Pid) → (s.ended other ≡ true) ⊎ (pid ≡ other) → (s.ended other ≡ true) ⊎ (other.node ≡ m.own)
    own other (inl e) = inl e
    own other (inr is) = inr (subst (λ (z : Pid). z.node ≡ m.own) is at_home)

    reported : (b : Bool) → AllByRecursion (λ z. (z.node ≡ m.own) × ((ended_in pid s).ended z ≡ true)) (ends_in (cond b (Down pid ∷ []) []))
    reported true = ((at_home, upd_at same_pid s.ended pid true (pid_laws.laws-law.refl pid)), tt)
    reported false = tt

-- ---- a step

-- what is taken is neither an exchange nor an end
abbrev pub TellsNothing : Input Message Action → Type 0
TellsNothing (Taken p x) = (exchange_of x ≡ []) × (end_of x ≡ [])
TellsNothing (Own action) = Unit {0}

-- what node i makes of an input in a state
pub data StepMakes (config : Config) (i : ℕ) (s : State) (input : Input Message Action) (t : NodeTurn) : Type 0 where
  Talking : Talks (live_nodes (nodes_at config i) s) s t → TellsNothing input → StepMakes config i s input t
  Merging : (p : ℕ) (node : Node) (groups : GroupList) → input ≡ Taken p (Exchange node groups) → is_bad_exchange (name_at config p) node s ≡ false
      → t ≡ exchange (name_at config p) groups s → StepMakes config i s input t
  Ending : (p : ℕ) (pid : Pid) → input ≡ Taken p (Down pid) → t ≡ process_end pid s → StepMakes config i s input t

module _ (config : Config) (i : ℕ) (s : State) where
  -- of a packet
  packet_makes : (p : ℕ) (x : Message) (t : NodeTurn) → Makes (taken (live_nodes (nodes_at config i) s) (name_at config p) x s) t → StepMakes config i s (Taken p x) t
  packet_makes p (Call reference request) t is =
      Talking (taken_so (live_nodes (nodes_at config i) s) Any AnyUpdate (Talks (live_nodes (nodes_at config i) s)) (Talks (live_nodes (nodes_at config i) s)) (talks_singly (live_nodes (nodes_at config i) s)) (name_at config p) (Call reference request) s t
      (λ node groups e. absurd (cc)) (λ pid e. absurd (cc)) is) (refl, refl)
  packet_makes p (Reply reference said) t is =
      Talking (taken_so (live_nodes (nodes_at config i) s) Any AnyUpdate (Talks (live_nodes (nodes_at config i) s)) (Talks (live_nodes (nodes_at config i) s)) (talks_singly (live_nodes (nodes_at config i) s)) (name_at config p) (Reply reference said) s t
      (λ node groups e. absurd (cc)) (λ pid e. absurd (cc)) is) (refl, refl)
  packet_makes p (DelLock name reference) t is =
      Talking (taken_so (live_nodes (nodes_at config i) s) Any AnyUpdate (Talks (live_nodes (nodes_at config i) s)) (Talks (live_nodes (nodes_at config i) s)) (talks_singly (live_nodes (nodes_at config i) s)) (name_at config p) (DelLock name reference) s t
      (λ node groups e. absurd (cc)) (λ pid e. absurd (cc)) is) (refl, refl)
  packet_makes p (Exchange node groups) t is = go (is_bad_exchange (name_at config p) node s) refl is
    where
      go : (b : Bool) → is_bad_exchange (name_at config p) node s ≡ b → Makes (cond b (Err NotAMessage) (Ok (exchange (name_at config p) groups s))) t
          → StepMakes config i s (Taken p (Exchange node groups)) t
      go true _ e = absurd (cc)
      go false good e = Merging p node groups refl good (sym (ok_is e))
  packet_makes p (Down pid) t is = Ending p pid refl (sym (ok_is is))

  pub placed_so : (r : Result NodeTurn Refusal) (turn : Turn State Message Report) → placed config r ≡ Some turn → (t : NodeTurn) × Makes r t × (turn ≡ place_turn config t)
  placed_so (Ok t) turn is = (t, refl, sym (some_is is))
  placed_so (Err refusal) turn is = absurd (cc)

  -- what is made of a packet and of what a node does of its own, with the nodes that it counts
  pub took_so : (p : ℕ) (x : Message) (turn : Turn State Message Report) → node_step config i s (Taken p x) ≡ Some turn
      → (t : NodeTurn) × Makes (taken (live_nodes (nodes_at config i) s) (name_at config p) x s) t × (turn ≡ place_turn config t)
  took_so p x turn is = go (s.lost (name_at config p)) is
    where
      go : (b : Bool) → placed config (cond b (Err NodeLost) (taken (live_nodes (nodes_at config i) s) (name_at config p) x s)) ≡ Some turn
          → (t : NodeTurn) × Makes (taken (live_nodes (nodes_at config i) s) (name_at config p) x s) t × (turn ≡ place_turn config t)
      go true e = absurd (cc)
      go false e = placed_so (taken (live_nodes (nodes_at config i) s) (name_at config p) x s) turn e

  pub did_so : (action : Action) (turn : Turn State Message Report) → node_step config i s (Own action) ≡ Some turn
      → (t : NodeTurn) × Makes (acted (nodes_at config i) (live_nodes (nodes_at config i) s) (ports_at config i) action s) t × (turn ≡ place_turn config t)
  did_so action turn is = placed_so (acted (nodes_at config i) (live_nodes (nodes_at config i) s) (ports_at config i) action s) turn is

  pub step_makes : (input : Input Message Action) (turn : Turn State Message Report) → node_step config i s input ≡ Some turn
      → (t : NodeTurn) × (turn ≡ place_turn config t) × StepMakes config i s input t
  step_makes (Taken p x) turn is =
      let t = took_so p x turn is in
      (t.0, t.2, packet_makes p x t.0 t.1)
  step_makes (Own action) turn is =
      let m = live_nodes (nodes_at config i) s in
      let t = did_so action turn is in
      (t.0, t.2, Talking (acted_so m Any AnyUpdate (Talks m) (Talks m) (talks_singly m) (nodes_at config i) (λ pid u home full lives. ends_talk m pid u home) (ports_at config i) action s t.0 (λ port. tt) (λ port c u _ _. tt) t.1) tt)

-- ---- what a step sends

module _ (config : Config) (i : ℕ) (s : State) (input : Input Message Action) where
  no_exchange : (t : NodeTurn) → StepMakes config i s input t → (q : ℕ) (b : Bool) → exchanges_in (cond b (t.sends (name_at config q)) []) ≡ []
  no_exchange t kind q false = refl
  no_exchange t (Talking talks nothing) q true = talks.exchanges (name_at config q)
  no_exchange t (Merging p node groups taken good same) q true = ap (λ (u : NodeTurn). exchanges_in (u.sends (name_at config q))) same
  no_exchange t (Ending p pid taken same) q true = ap (λ (u : NodeTurn). exchanges_in (u.sends (name_at config q))) same

  -- no step tells of groups
  pub sends_no_exchange : (turn : Turn State Message Report) → node_step config i s input ≡ Some turn → (q : ℕ) → exchanges_in (turn.sends q) ≡ []
  sends_no_exchange turn is q =
      let t = step_makes config i s input turn is in
      ap (λ u. exchanges_in (u.sends q)) t.1 ∙ no_exchange t.0 t.2 q (is_place (length config) q)

  own_ends : (t : NodeTurn) → StepMakes config i s input t → (q : ℕ) (b : Bool)
      → AllByRecursion (λ pid. (pid.node ≡ name_at config i) × (t.state.ended pid ≡ true)) (ends_in (cond b (t.sends (name_at config q)) []))
  own_ends t kind q false = tt
  own_ends t (Talking talks nothing) q true = talks.reported (name_at config q)
  own_ends t (Merging p node groups taken good same) q true =
      subst (λ (u : NodeTurn). AllByRecursion (λ pid. (pid.node ≡ name_at config i) × (t.state.ended pid ≡ true)) (ends_in (u.sends (name_at config q)))) (sym same) tt
  own_ends t (Ending p pid taken same) q true =
      subst (λ (u : NodeTurn). AllByRecursion (λ z. (z.node ≡ name_at config i) × (t.state.ended z ≡ true)) (ends_in (u.sends (name_at config q)))) (sym same) tt

  -- a step tells of the ends of its own processes alone, which have ended there
  pub sends_own_ends : (turn : Turn State Message Report) → node_step config i s input ≡ Some turn → (q : ℕ)
      → AllByRecursion (λ pid. (pid.node ≡ name_at config i) × (turn.state.ended pid ≡ true)) (ends_in (turn.sends q))
  sends_own_ends turn is q =
      let t = step_makes config i s input turn is in
      subst (λ u. AllByRecursion (λ pid. (pid.node ≡ name_at config i) × (u.state.ended pid ≡ true)) (ends_in (u.sends q))) (sym t.1) (own_ends t.0 t.2 q (is_place (length config) q))
