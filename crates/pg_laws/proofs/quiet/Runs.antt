-- What each world of a run has kept of references and locks, so that nothing stays behind where nothing is on the way.
use Rattle.std.proofs.Common.{◌≡◌, ℕ, length, List, ◌∷◌, Some, refl, sym, ◌∙◌, subst}
use Rattle.std.specs.List.{AllByRecursion, IsDistinct}
use Rattle.pg_term.specs.RefParts.{RefParts}
use Rattle.pg_term.specs.Same.{same_atom}
use Rattle.pg_step.specs.PgRefs.Numbered.{numbered}
use Rattle.pg_step.specs.PgMessageTypes.declared.message.Message.{Message}
use Rattle.pg_step.specs.PgMessageTypes.declared.message.Message.TheVariants.{Call, Reply, DelLock, Exchange, Down}
use Rattle.pg_step.specs.PgMessageTypes.declared.message.Request.TheVariants.{SetLock, Change}
use Rattle.pg_step.specs.Machines.Machine.{Input, Turn, Event, Taken, Own, node_of, start_of}
use Rattle.pg_step.specs.Machines.Happened.{Happened}
use Rattle.pg_step.specs.Machines.Clocked.{plain}
use Rattle.pg_step.specs.Machines.Runs.{Leads}
use Rattle.pg_step.specs.State.{State}
use Rattle.pg_step.specs.Turns.{Report}
use Rattle.pg_step.specs.Step.{CLOCK_LIMIT, Action}
use Rattle.pg_step.specs.Config.{Config, names_of, name_at, nodes_at, ports_at}
use Rattle.pg_step.specs.FrameMachine.{node_step, machine_of, FrameWorld}
use Rattle.pg_step.proofs.Machines.Plain.{plain_from_start}
use Rattle.pg_step.proofs.Machines.Sequences.{kept}
use Rattle.pg_laws.specs.Reached.{TimedFrameWorld, Reaches}
use Rattle.pg_laws.proofs.ends.Apart.{pair_second}
use Rattle.pg_laws.proofs.locks.Kept.{IsOurs}
use Rattle.pg_laws.proofs.places.Bridged.{Bridged, event_bridged, first_bridged}
use Rattle.pg_laws.proofs.places.Shown.{IsHere}
use Rattle.pg_laws.proofs.quiet.Gathering.{Settled, AsksWell, acted_settled, taken_settled}
use Rattle.pg_laws.proofs.quiet.Linked.{Linked, step_linked, first_linked}
use Rattle.pg_laws.proofs.steps.Lossless.{NoneLost, took_all, did_all}
use Rattle.pg_laws.proofs.steps.Ways.{state_after, own_place, packet_there, pair_there}

-- a reference of a node that is there
pub record IsOfNode (config : Config) (r : RefParts) : Type 0 where
  pub place : ℕ
  pub number : ℕ
  pub here : IsHere config place
  pub is : r ≡ numbered (name_at config place) number

of_own : (config : Config) (i : ℕ) → IsHere config i → (c : ℕ) → IsOfNode config (numbered (name_at config i) c)
of_own config i here c = record { place = i; number = c; here = here; is = refl }

abbrev pub SettledAt : Config → ℕ → State → Type 0
SettledAt config i s = Settled (nodes_at config i) (IsOfNode config) s

-- ---- a step

module _ (config : Config) (i : ℕ) (s : State) (here : IsHere config i) (nobody : NoneLost s) where
  step_settled : (input : Input Message Action) (turn : Turn State Message Report) → node_step config i s input ≡ Some turn
      → ((p : ℕ) (x : Message) → input ≡ Taken p x → AsksWell (IsOfNode config) x) → SettledAt config i s → SettledAt config i turn.state
  step_settled (Taken p x) turn is asks before =
      let t = took_all config i s nobody p x turn is in
      subst (λ u. SettledAt config i u.state) (sym t.2) (taken_settled (nodes_at config i) (IsOfNode config) (of_own config i here) (name_at config p) x s t.0 (asks p x refl) t.1 before)
  step_settled (Own action) turn is asks before =
      let t = did_all config i s nobody action turn is in
      subst (λ u. SettledAt config i u.state) (sym t.2)
      (acted_settled (nodes_at config i) (IsOfNode config) (of_own config i here) (nodes_at config i) (ports_at config i) action s t.0 t.1 before)

-- a request of node p is one under a reference of its own
asks_own : (config : Config) (p : ℕ) (to : List ℕ) (x : Message) → IsHere config p → IsOurs (name_at config p) to x → AsksWell (IsOfNode config) x
asks_own config p to (Call reference (SetLock name)) here ours = record { place = p; number = ours.0; here = here; is = ours.1 }
asks_own config p to (Call reference (Change u)) here ours = tt
asks_own config p to (Reply reference said) here ours = tt
asks_own config p to (DelLock name reference) here ours = tt
asks_own config p to (Exchange node groups) here ours = tt
asks_own config p to (Down pid) here ours = tt

-- ---- a run

module _ (config : Config) (apart : IsDistinct same_atom (names_of config)) where
  pub record Rested (v : FrameWorld) : Type 0 where
    pub bridged : Bridged config apart v
    pub settled : (i : ℕ) → IsHere config i → SettledAt config i (v.node i)
    pub linked : (i : ℕ) → Linked (v.node i)

  module _ (v u : FrameWorld) (e : Event Action) (h : Happened (machine_of config) v e u) (before : Rested v) where
    abbrev pub i : ℕ
    i = node_of e

    here : IsHere config i
    here = own_place (machine_of config) v u e h

    asks : (p : ℕ) (x : Message) → h.input ≡ Taken p x → AsksWell (IsOfNode config) x
    asks p x is =
        let has = before.bridged.has in
        let first = packet_there (machine_of config) v u e h p x is in
        let there = pair_second (length config) i p (pair_there (machine_of config) v u e h p x is) in
        let on_way : has.world.wire (name_at config p) (name_at config i) ≡ x ∷ first.0 = has.shows.wire p i there here ∙ first.1 in
        asks_own config p (name_at config i) x there
        (subst (AllByRecursion (IsOurs (name_at config p) (name_at config i))) on_way (has.inv.tidy.ours (name_at config p) (name_at config i))).0

    event_rested : Rested u
    event_rested = record {
      bridged = event_bridged config apart v u e h before.bridged;
      settled = λ j there. state_after (machine_of config) v u e h (SettledAt config j) j
          (λ own. subst (λ z. SettledAt config z h.turn.state) (sym own)
          (step_settled config i (v.node i) here (before.bridged.nobody i) h.input h.turn h.made asks (before.settled i here)))
          (λ _. before.settled j there);
      linked = λ j. state_after (machine_of config) v u e h Linked j
          (λ own. step_linked config i (v.node i) h.input h.turn h.made (before.linked i)) (λ _. before.linked j);
    }

  first_rested : Rested (start_of (machine_of config))
  first_rested = record {
    bridged = first_bridged config apart;
    settled = λ i _. record { gather = λ c. refl; known = λ name r e. absurd (cc) };
    linked = λ i. first_linked ((machine_of config).first i) refl refl;
  }

  rested : (es : List (Event Action)) (w : FrameWorld) → Leads (machine_of config) (start_of (machine_of config)) es w → Rested w
  rested es w l = kept (machine_of config) Rested (λ v u e h before. event_rested v u e h before) es (start_of (machine_of config)) w l first_rested

  pub rested_timed : (es : List (Event Action)) (w : TimedFrameWorld) → Reaches config es w → Rested (plain w)
  rested_timed es w l = rested es (plain w) (plain_from_start (machine_of config) CLOCK_LIMIT es w l)
