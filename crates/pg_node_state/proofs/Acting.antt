-- What came of a retry, once its turn is known.
use Rattle.std.proofs.Common.{◌≡◌, ℕ, ◌+◌, ◌<◌, ◌≤◌, Bool, true, false, cond, nat_lt, nat_le, Ok, Err, ap, ◌∙◌, arith}
use Rattle.std.proofs.lemmas.Bool.{le-leb}
use Rattle.std.proofs.lemmas.Bool.Decides.{nat_tests}
use Rattle.pg_node_ports.specs.PgStep.Machines.Clocked.{Timed}
use Rattle.pg_node_ports.specs.PgStep.declared.command.OpId.{OpId}
use Rattle.pg_node_ports.specs.PgStep.Nodes.{Nodes}
use Rattle.pg_node_ports.specs.PgStep.State.{State, live_nodes}
use Rattle.pg_node_ports.specs.PgStep.Turns.{NodeTurn}
use Rattle.pg_node_ports.specs.PgStep.Attempts.{waits, tried_again}
use Rattle.pg_node_ports.specs.PgStep.Step.{CLOCK_LIMIT, Retry, at_clock, timed, step_act}
use Rattle.pg_node_ports.specs.PgStep.declared.refusal.Refusal.TheVariants as refusal

is_below : (n m : ℕ) → n < m → nat_lt n m ≡ true
is_below n m l = grind (arith, nat_tests)

is_beyond : (n m : ℕ) → m < n → nat_le n m ≡ false
is_beyond n m l = grind (arith, nat_tests)

-- within the limit of the clock, and beyond it
within_limit : (clock : ℕ) (turn : NodeTurn) → clock ≤ CLOCK_LIMIT → timed clock (Ok turn) ≡ Ok (at_clock clock turn)
within_limit clock turn within = ap (λ b. cond b (Ok (at_clock clock turn)) (Err refusal.ClockFull)) (le-leb clock CLOCK_LIMIT within)

beyond_limit : (clock : ℕ) (turn : NodeTurn) → CLOCK_LIMIT < clock → timed clock (Ok turn) ≡ Err refusal.ClockFull
beyond_limit clock turn beyond = ap (λ b. cond b (Ok (at_clock clock turn)) (Err refusal.ClockFull)) (is_beyond clock CLOCK_LIMIT beyond)

module _ (whole : Nodes) (ports : ℕ) (s : Timed State) where
  -- ---- a retry

  module _ (op : OpId) (there : op.port < ports) where
    abbrev m : Nodes
    m = live_nodes whole s.state

    abbrev turn : NodeTurn
    turn = tried_again (s.state.stages op) m op s.state

    leads : (b : Bool) → waits m (s.state.stages op) s.state ≡ b → step_act whole ports (Retry op) s ≡ timed (s.clock + 1) (cond b (Ok turn) (Err refusal.NotWaiting))
    leads b e = (λ i. timed (s.clock + 1) (cond (is_below op.port ports there i) (cond (e i) (Ok turn) (Err refusal.NotWaiting)) (Err refusal.NoSuchPlace)))

    pub retried : waits m (s.state.stages op) s.state ≡ true → s.clock + 1 ≤ CLOCK_LIMIT → step_act whole ports (Retry op) s ≡ Ok (at_clock (s.clock + 1) turn)
    retried e within = leads true e ∙ within_limit (s.clock + 1) turn within

    pub retry_full : waits m (s.state.stages op) s.state ≡ true → CLOCK_LIMIT < s.clock + 1 → step_act whole ports (Retry op) s ≡ Err refusal.ClockFull
    retry_full e beyond = leads true e ∙ beyond_limit (s.clock + 1) turn beyond

    pub not_waiting : waits m (s.state.stages op) s.state ≡ false → step_act whole ports (Retry op) s ≡ Err refusal.NotWaiting
    not_waiting e = leads false e
