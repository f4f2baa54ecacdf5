-- What a step refuses.
use Rattle.std.proofs.Common.{◌≡◌, ℕ, Bool, true, false, not, ◌&&◌, cond, max, nat_le, nat_lt}
use Rattle.std.proofs.Common.{length, List, [], ◌∷◌, Some, None, Result, Ok, Err, refl, ap}
use Rattle.std.proofs.Math.Path.{fun_ext}
use Rattle.std.specs.Prelude.{◌+◌}
use Rattle.pg_message_types.specs.declared.message.Message.{Message}
use Rattle.pg_message_types.specs.declared.message.Message.TheVariants.{Call, Reply, DelLock, Exchange, Down}
use Rattle.pg_message_types.specs.declared.message.Request.TheVariants.{SetLock, Change}
use Rattle.pg_message_types.specs.declared.message.Said.{Said}
use Rattle.pg_step.specs.Machines.Places.{is_place}
use Rattle.pg_step.specs.Machines.Clocked.{Timed, Stamped, stamped, timed_turn, timed as machine_timed}
use Rattle.pg_multicall.specs.Gathered.{what_of}
use Rattle.pg_multicall.specs.declared.gather.Taken.{Taken as Heard}
use Rattle.pg_multicall.specs.declared.gather.Taken.TheVariants as what
use Rattle.pg_step.specs.Nodes.{Node, Nodes}
use Rattle.pg_step.specs.State.{State, live_nodes, Use}
use Rattle.pg_step.specs.Turns.{NodeTurn}
use Rattle.pg_step.specs.Peers.{is_bad_exchange, exchange}
use Rattle.pg_refs.specs.Numbered.{number_in}
use Rattle.pg_step.specs.Commands.{command}
use Rattle.pg_step.specs.Attempts.{reply_by, waits, tried_again, use_of, gathered, is_kind, reply_under, reply_by}
use Rattle.pg_step.specs.Step.{CLOCK_LIMIT, Action, Issue, Retry, TimedTurn}
use Rattle.pg_step.specs.Step.{at_clock, timed, taken, step_take, step_act}
use Rattle.pg_step.specs.Config.{Config, name_at}
use Rattle.pg_step.specs.FrameMachine.{placed, place_turn}
use Rattle.pg_step.specs.declared.refusal.Refusal.{Refusal}
use Rattle.pg_step.specs.declared.refusal.Refusal.TheVariants.{NotAMessage, NoSuchPlace, NodeLost}
use Rattle.pg_step.specs.declared.refusal.Refusal.TheVariants.{NotLost, NotDrained, NotWaiting, ClockFull}
use Rattle.pg_step.specs.StepLaws.{place_timed, timed_placed, refusal_of, port_of, retries_none}
use Rattle.pg_step.specs.StepLaws.{is_full, is_wrong_kind, is_no_message, is_stranger}
use Rattle.pg_step.specs.Faults.{first_that_holds}

-- ---- the clocked machine

stamped_if : {P : Type 0} (clock : ℕ) (b : Bool) (xs : List P) → stamped clock (cond b xs []) ≡ cond b (stamped clock xs) []
stamped_if clock true xs = refl
stamped_if clock false xs = refl

same_turn : (config : Config) (clock : ℕ) (t : NodeTurn) → timed_turn clock (place_turn config t) ≡ place_timed config (at_clock clock t)
same_turn config clock t = λ i. record {
  state = record { clock = clock; state = t.state };
  sends = (fun_ext (λ q. stamped_if clock (is_place (length config) q) (t.sends (name_at config q)))) i;
  reported = t.reported;
}

pub same_step : (config : Config) (clock : ℕ) (r : Result NodeTurn Refusal) → machine_timed CLOCK_LIMIT clock (placed config r) ≡ timed_placed config (timed clock r)
same_step config clock (Ok t) = go (nat_le clock CLOCK_LIMIT)
  where
    go : (b : Bool) → cond b (Some (timed_turn clock (place_turn config t))) None ≡ timed_placed config (cond b (Ok (at_clock clock t)) (Err ClockFull))
    go true = ap Some (same_turn config clock t)
    go false = refl
same_step config clock (Err NoSuchPlace) = refl
same_step config clock (Err NotWaiting) = refl
same_step config clock (Err NodeLost) = refl
same_step config clock (Err NotAMessage) = go (nat_le clock CLOCK_LIMIT)
  where
    go : (b : Bool) → None ≡ timed_placed config (cond b (Err NotAMessage) (Err ClockFull))
    go true = refl
    go false = refl
same_step config clock (Err NotLost) = go (nat_le clock CLOCK_LIMIT)
  where
    go : (b : Bool) → None ≡ timed_placed config (cond b (Err NotLost) (Err ClockFull))
    go true = refl
    go false = refl
same_step config clock (Err NotDrained) = go (nat_le clock CLOCK_LIMIT)
  where
    go : (b : Bool) → None ≡ timed_placed config (cond b (Err NotDrained) (Err ClockFull))
    go true = refl
    go false = refl
same_step config clock (Err ClockFull) = go (nat_le clock CLOCK_LIMIT)
  where
    go : (b : Bool) → None ≡ timed_placed config (cond b (Err ClockFull) (Err ClockFull))
    go true = refl
    go false = refl

-- ---- which packets are refused

module _ (m : Nodes) (p : Node) (s : State) where
  reply_refused : (used : Use) (c : ℕ) (said : Said) → refusal_of (reply_under used m p c said s) ≡ cond (is_wrong_kind used p said) (Some NotAMessage) None
  reply_refused used c said = go (what_of true (gathered used p)) (is_kind used said)
    where
      go : (w : Heard) (kind : Bool) → refusal_of (reply_by w kind used m p c said s) ≡ cond (not (is_stranger w) && not kind) (Some NotAMessage) None
      go what.Stranger kind = refl
      go what.Double true = refl
      go what.Double false = refl
      go what.Counted true = refl
      go what.Counted false = refl

  pub message_refused : (x : Message) → refusal_of (taken m p x s) ≡ cond (is_no_message m p x s) (Some NotAMessage) None
  message_refused (Call reference (SetLock name)) = refl
  message_refused (Call reference (Change update)) = refl
  message_refused (Reply reference said) = reply_refused (use_of m reference s) (number_in reference) said
  message_refused (DelLock name reference) = refl
  message_refused (Exchange node groups) = go (is_bad_exchange p node s)
    where
      go : (b : Bool) → refusal_of (cond b (Err NotAMessage) (Ok (exchange p groups s))) ≡ cond b (Some NotAMessage) None
      go true = refl
      go false = refl
  message_refused (Down pid) = refl

-- ---- in which order

-- a refusal that is told behind the clock's
pub behind_clock : (clock : ℕ) (b : Bool) (r : Result NodeTurn Refusal) → refusal_of r ≡ cond b (Some NotAMessage) None
    → refusal_of (timed clock r) ≡ first_that_holds ((is_full clock, ClockFull) ∷ (b, NotAMessage) ∷ [])
behind_clock clock true (Ok t) e = absurd (cc)
behind_clock clock false (Ok t) e = go (nat_le clock CLOCK_LIMIT)
  where
    go : (fits : Bool) → refusal_of (cond fits (Ok (at_clock clock t)) (Err ClockFull)) ≡ cond (not fits) (Some ClockFull) None
    go true = refl
    go false = refl
behind_clock clock false (Err f) e = absurd (cc)
behind_clock clock true (Err NotAMessage) e = go (nat_le clock CLOCK_LIMIT)
  where
    go : (fits : Bool) → refusal_of {T = TimedTurn} (cond fits (Err NotAMessage) (Err ClockFull)) ≡ cond (not fits) (Some ClockFull) (Some NotAMessage)
    go true = refl
    go false = refl
behind_clock clock true (Err NoSuchPlace) e = absurd (cc)
behind_clock clock true (Err NotWaiting) e = absurd (cc)
behind_clock clock true (Err NodeLost) e = absurd (cc)
behind_clock clock true (Err NotLost) e = absurd (cc)
behind_clock clock true (Err NotDrained) e = absurd (cc)
behind_clock clock true (Err ClockFull) e = absurd (cc)

-- what is not refused but for the clock
fits_or_full : (clock : ℕ) (t : NodeTurn) → refusal_of (timed clock (Ok t)) ≡ cond (is_full clock) (Some ClockFull) None
fits_or_full clock t = behind_clock clock false (Ok t) refl

pub acts_in_order : (m : Nodes) (ports : ℕ) (action : Action) (s : Timed State)
    → refusal_of (step_act m ports action s) ≡ first_that_holds (
    (not (nat_lt (port_of action) ports), NoSuchPlace) ∷ (retries_none (live_nodes m s.state) action s.state, NotWaiting) ∷ (is_full (s.clock + 1), ClockFull) ∷ [])
acts_in_order m ports (Issue port c) s = go (nat_lt port ports)
  where
    go : (b : Bool) → refusal_of (timed (s.clock + 1) (cond b (Ok (command m (live_nodes m s.state) port c s.state)) (Err NoSuchPlace)))
        ≡ cond (not b) (Some NoSuchPlace) (cond (is_full (s.clock + 1)) (Some ClockFull) None)
    go true = fits_or_full (s.clock + 1) (command m (live_nodes m s.state) port c s.state)
    go false = refl
acts_in_order m ports (Retry op) s = go (nat_lt op.port ports) (waits (live_nodes m s.state) (s.state.stages op) s.state)
  where
    again : NodeTurn
    again = tried_again (s.state.stages op) (live_nodes m s.state) op s.state

    go : (b d : Bool) → refusal_of (timed (s.clock + 1) (cond b (cond d (Ok again) (Err NotWaiting)) (Err NoSuchPlace)))
        ≡ cond (not b) (Some NoSuchPlace) (cond (not d) (Some NotWaiting) (cond (is_full (s.clock + 1)) (Some ClockFull) None))
    go false d = refl
    go true false = refl
    go true true = fits_or_full (s.clock + 1) again

pub takes_in_order : (m : Nodes) (p : Node) (x : Stamped Message) (s : Timed State)
    → refusal_of (step_take m p x s) ≡ first_that_holds (
    (s.state.lost p, NodeLost) ∷ (is_full (max s.clock x.stamp + 1), ClockFull) ∷ (is_no_message (live_nodes m s.state) p x.packet s.state, NotAMessage) ∷ [])
takes_in_order m p x s = go (s.state.lost p)
  where
    counted : Nodes
    counted = live_nodes m s.state

    clock : ℕ
    clock = max s.clock x.stamp + 1

    go : (b : Bool) → refusal_of (timed clock (cond b (Err NodeLost) (taken counted p x.packet s.state)))
        ≡ cond b (Some NodeLost) (first_that_holds ((is_full clock, ClockFull) ∷ (is_no_message counted p x.packet s.state, NotAMessage) ∷ []))
    go true = refl
    go false = behind_clock clock (is_no_message counted p x.packet s.state) (taken counted p x.packet s.state) (message_refused counted p s.state x.packet)
