-- What came of a packet, once its turn is known.
use Rattle.std.proofs.Common.{◌≡◌, ◌↔◌, ◌⊎◌, inl, inr, ℕ, ◌+◌, ◌≤◌, Bool, true, false, cond, max}
use Rattle.std.proofs.Common.{List, Option, None, Result, Ok, Err, refl, sym, ap, ◌∙◌, subst}
use Rattle.std.specs.Prelude.{OnOk, OnErr, IfOk, IfErr}
use Rattle.std.proofs.lemmas.Bool.{le-leb}
use Rattle.pg_node_ports.specs.PgMessageTypes.declared.message.Message.{Message}
use Rattle.pg_node_ports.specs.PgMessageTypes.declared.message.Message.TheVariants.{Exchange}
use Rattle.pg_node_ports.specs.PgExchange.GroupList.{GroupList}
use Rattle.pg_node_ports.specs.PgStep.Machines.Clocked.{Timed, Stamped}
use Rattle.pg_node_ports.specs.PgNodeOpens.Places.{name_at}
use Rattle.pg_node_ports.specs.PgStep.declared.answer.Answer.{Answer}
use Rattle.pg_node_ports.specs.PgStep.declared.command.OpId.{OpId}
use Rattle.pg_node_ports.specs.PgStep.Nodes.{Node, Nodes}
use Rattle.pg_node_ports.specs.PgStep.State.{State, Response, live_nodes}
use Rattle.pg_node_ports.specs.PgStep.Turns.{NodeTurn}
use Rattle.pg_node_ports.specs.PgStep.Peers.{is_bad_exchange, exchange}
use Rattle.pg_node_ports.specs.PgStep.Losses.{see_loss}
use Rattle.pg_node_ports.specs.PgStep.Step.{TimedTurn, CLOCK_LIMIT, taken, at_clock, timed, step_take}
use Rattle.pg_node_ports.specs.PgStep.declared.refusal.Refusal.{Refusal}
use Rattle.pg_node_ports.specs.PgStep.declared.refusal.Refusal.TheVariants as refusal
use Rattle.pg_node_sends.specs.declared.done.Done.{Done}
use Rattle.pg_node_sends.specs.declared.outgoing.Outgoing.{Ghosts as Listing}
use Rattle.pg_node_state.specs.declared.state.fault.NodeFault.{NodeFault}
use Rattle.pg_node_state.specs.declared.state.fault.NodeFault.TheVariants.{Refused, OutOfMemory}
use Rattle.pg_node_state.specs.declared.state.fault.NodeFault.TheVariants as faults
use Rattle.pg_node_ports.specs.PgGroup.declared.table.GroupTable.{Ghosts}
use Rattle.pg_node_state.specs.declared.state.NodeState.{NodeState}
use Rattle.pg_node_state.specs.States.{IsReported, Gave, Comes, ComesAt, Stays, step_see_loss}
use Rattle.pg_node_state.specs.States.{state_of, answers_of}

-- a clause on errors, of what always holds
pub on_err : {A E : Type 0} (result : Result A E) (P : Type 0) → P → OnErr result P
on_err (Ok x) P p = tt
on_err (Err e) P p = p

-- what stays where a part fails stays whatever its error is made to
pub stays_too : {T A B E F : Type 0} {g : Ghosts T} {before after : NodeState T g} {e : E} (result : Result B F) → Stays {A = A} before after (Err e) → Stays before after result
stays_too {before} {after} result h = record {
  state = on_err result (state_of after ≡ state_of before) h.state;
  answers = on_err result (answers_of after ≡ answers_of before) h.answers;
  names = h.names;
  ports = h.ports;
  forgotten = h.forgotten;
}

-- a clause on successes, by another
pub on_ok : {A E : Type 0} (result : Result A E) (P Q : Type 0) → (P → Q) → OnOk result P → OnOk result Q
on_ok (Ok x) P Q then p = then p
on_ok (Err e) P Q then p = tt

-- a peer that is not lost, within the limit of the clock
module _ (m : Nodes) (p : Node) (x : Stamped Message) (s : Timed State) (clock : ℕ)
    (here : s.state.lost p ≡ false) (later : clock ≡ max s.clock x.stamp + 1) (within : clock ≤ CLOCK_LIMIT) where
  -- the clock, and then what the packet leads to
  by_packet : step_take m p x s ≡ timed clock (taken (live_nodes m s.state) p x.packet s.state)
  by_packet = (λ i. timed (sym later i) (cond (here i) (Err refusal.NodeLost) (taken (live_nodes m s.state) p x.packet s.state)))

  happened : (turn : NodeTurn) → taken (live_nodes m s.state) p x.packet s.state ≡ Ok turn → step_take m p x s ≡ Ok (at_clock clock turn)
  happened turn is = by_packet ∙ (ap (timed clock) is ∙ ap (λ b. cond b (Ok (at_clock clock turn)) (Err refusal.ClockFull)) (le-leb clock CLOCK_LIMIT within))

  pub comes : {S : Type 0} {h : Listing S} (names : List Node) (turn : NodeTurn) (done : Done S h) (s1 : Timed State) (before after : ℕ → List Answer)
      → taken (live_nodes m s.state) p x.packet s.state ≡ Ok turn → turn.reported.gave ≡ None
      → IsReported names (at_clock clock turn) done → s1 ≡ (at_clock clock turn).state → after ≡ before
      → Comes names (step_take m p x s) (Ok done) s1 before after
  comes names turn done s1 before after is none told state same =
      subst (λ r. Comes names r (Ok done) s1 before after) (sym (happened turn is)) (record {
        told = told;
        state = state;
        answers = subst (λ (gave : Option (OpId × Response)). Gave (name_at names 0) gave before after) (sym none) same;
      })

  -- whatever it leads to
  abbrev at_once : Result NodeTurn Refusal → Result TimedTurn Refusal
  at_once (Ok turn) = Ok (at_clock clock turn)
  at_once (Err fault) = Err fault

  timed_is : (t : Result NodeTurn Refusal) → timed clock t ≡ at_once t
  timed_is (Ok turn) = ap (λ b. cond b (Ok (at_clock clock turn)) (Err refusal.ClockFull)) (le-leb clock CLOCK_LIMIT within)
  timed_is (Err refusal.NoSuchPlace) = refl
  timed_is (Err refusal.NodeLost) = refl
  timed_is (Err refusal.NotWaiting) = refl
  timed_is (Err refusal.NotAMessage) = ap (λ b. cond b (Err refusal.NotAMessage) (Err refusal.ClockFull)) (le-leb clock CLOCK_LIMIT within)
  timed_is (Err refusal.NotDrained) = ap (λ b. cond b (Err refusal.NotDrained) (Err refusal.ClockFull)) (le-leb clock CLOCK_LIMIT within)
  timed_is (Err refusal.NotLost) = ap (λ b. cond b (Err refusal.NotLost) (Err refusal.ClockFull)) (le-leb clock CLOCK_LIMIT within)
  timed_is (Err refusal.ClockFull) = ap (λ b. cond b (Err refusal.ClockFull) (Err refusal.ClockFull)) (le-leb clock CLOCK_LIMIT within)

  pub comes_at : {S : Type 0} {h : Listing S} (names : List Node) (t : Result NodeTurn Refusal) (result : Result (Done S h) NodeFault) (s1 : Timed State) (before after : ℕ → List Answer)
      → taken (live_nodes m s.state) p x.packet s.state ≡ t → ComesAt clock names t result s1 before after
      → Comes names (step_take m p x s) result s1 before after
  comes_at {S} {h} names t result s1 before after is told = subst (λ r. Comes names r result s1 before after) (sym (by_packet ∙ (ap (timed clock) is ∙ timed_is t))) (go t told)
    where
      go : (t : Result NodeTurn Refusal) → ComesAt clock names t result s1 before after → Comes names (at_once t) result s1 before after
      go (Ok turn) comes = comes
      go (Err fault) comes = comes

  -- the first groups of a peer
  pub groups_come : {S : Type 0} {h : Listing S} (names : List Node) (node : Node) (groups : GroupList) (result : Result (Done S h) NodeFault) (s1 : Timed State) (before after : ℕ → List Answer)
      → x.packet ≡ Exchange node groups
      → ((result ≡ Err (Refused refusal.NotAMessage)) ↔ (is_bad_exchange p node s.state ≡ true))
      → IfErr result (λ fault. (fault ≡ Refused refusal.NotAMessage) ⊎ (fault ≡ OutOfMemory))
      → IfOk result (IsReported names (at_clock clock (exchange p groups s.state)))
      → OnOk result (s1 ≡ (at_clock clock (exchange p groups s.state)).state)
      → after ≡ before
      → Comes names (step_take m p x s) result s1 before after
  groups_come {S} {h} names node groups result s1 before after is bad fault told state same = go (is_bad_exchange p node s.state) refl result refl
    where
      leads : (b : Bool) → is_bad_exchange p node s.state ≡ b → taken (live_nodes m s.state) p x.packet s.state ≡ cond b (Err refusal.NotAMessage) (Ok (exchange p groups s.state))
      leads b e = ap (λ (x : Message). taken (live_nodes m s.state) p x s.state) is ∙ ap (λ b. cond b (Err refusal.NotAMessage) (Ok (exchange p groups s.state))) e

      refused : is_bad_exchange p node s.state ≡ true → step_take m p x s ≡ Err refusal.NotAMessage
      refused e = by_packet ∙ (ap (timed clock) (leads true e) ∙ ap (λ b. cond b (Err refusal.NotAMessage) (Err refusal.ClockFull)) (le-leb clock CLOCK_LIMIT within))

      good : (r : Result (Done S h) NodeFault) → result ≡ r → is_bad_exchange p node s.state ≡ false → Comes names (step_take m p x s) r s1 before after
      good (Ok done) r e = comes names (exchange p groups s.state) done s1 before after (leads false e) refl
          (subst (λ z. IfOk z (IsReported names (at_clock clock (exchange p groups s.state)))) r told)
          (subst (λ z. OnOk z (s1 ≡ (at_clock clock (exchange p groups s.state)).state)) r state) same
      good (Err OutOfMemory) r e = subst (λ z. Comes {S = S} {h = h} names z (Err OutOfMemory) s1 before after) (sym (happened (exchange p groups s.state) (leads false e))) tt
      good (Err (Refused other)) r e = absurd (which (subst (λ z. IfErr z (λ fault. (fault ≡ Refused refusal.NotAMessage) ⊎ (fault ≡ OutOfMemory))) r fault))
        where
          which : (Refused other ≡ Refused refusal.NotAMessage) ⊎ (Refused other ≡ OutOfMemory) → ⊥
          which (inl f) = let h : true ≡ false = sym (bad.0 (r ∙ ap Err f)) ∙ e in cc
          which (inr f) = cc
      good (Err (faults.Message other)) r e = absurd (which (subst (λ z. IfErr z (λ fault. (fault ≡ Refused refusal.NotAMessage) ⊎ (fault ≡ OutOfMemory))) r fault))
        where
          which : (faults.Message other ≡ Refused refusal.NotAMessage) ⊎ (faults.Message other ≡ OutOfMemory) → ⊥
          which (inl f) = cc
          which (inr f) = cc
      good (Err faults.TooLong) r e = absurd (which (subst (λ z. IfErr z (λ fault. (fault ≡ Refused refusal.NotAMessage) ⊎ (fault ≡ OutOfMemory))) r fault))
        where
          which : (faults.TooLong ≡ Refused refusal.NotAMessage) ⊎ (faults.TooLong ≡ OutOfMemory) → ⊥
          which (inl f) = cc
          which (inr f) = cc
      good (Err faults.Damaged) r e = absurd (which (subst (λ z. IfErr z (λ fault. (fault ≡ Refused refusal.NotAMessage) ⊎ (fault ≡ OutOfMemory))) r fault))
        where
          which : (faults.Damaged ≡ Refused refusal.NotAMessage) ⊎ (faults.Damaged ≡ OutOfMemory) → ⊥
          which (inl f) = cc
          which (inr f) = cc

      go : (b : Bool) → is_bad_exchange p node s.state ≡ b → (r : Result (Done S h) NodeFault) → result ≡ r → Comes names (step_take m p x s) r s1 before after
      go true e r is_r = subst (λ z. Comes names z r s1 before after) (sym (refused e)) (sym is_r ∙ bad.1 e)
      go false e r is_r = good r is_r e

-- the loss of a peer that is not lost, within the limit of the clock
pub loss_comes : {S : Type 0} {h : Listing S} (p : Node) (last : ℕ) (s : Timed State) (clock : ℕ) → s.state.lost p ≡ false → clock ≡ max s.clock last + 1 → clock ≤ CLOCK_LIMIT
    → (names : List Node) (done : Done S h) (s1 : Timed State) (before after : ℕ → List Answer)
    → IsReported names (at_clock clock (see_loss p s.state)) done → s1 ≡ (at_clock clock (see_loss p s.state)).state → after ≡ before
    → Comes names (step_see_loss p last s) (Ok done) s1 before after
loss_comes p last s clock here later within names done s1 before after told state same =
    subst (λ r. Comes names r (Ok done) s1 before after) (sym seen) (record { told = told; state = state; answers = same })
  where
    seen : step_see_loss p last s ≡ Ok (at_clock clock (see_loss p s.state))
    seen = (λ i. timed (sym later i) (cond (here i) (Err refusal.NodeLost) (Ok (see_loss p s.state))))
        ∙ ap (λ b. cond b (Ok (at_clock clock (see_loss p s.state))) (Err refusal.ClockFull)) (le-leb clock CLOCK_LIMIT within)
