-- Nothing is stuck, where no node is lost: takes end, nothing remains where no packet is on the way, and each open command gets on.
use Rattle.std.specs.Prelude.{◌≡◌, ℕ, ◌+◌, ◌*◌, ◌≤◌, true, List, ◌∷◌, length, Some}
use Rattle.pg_step.specs.PgMessageTypes.declared.message.Message.{Message}
use Rattle.pg_step.specs.Machines.Clocked.{Stamped, plain}
use Rattle.pg_step.specs.Machines.Machine.{Event, Take, Do, happens}
use Rattle.pg_step.specs.Machines.Places.{is_place, is_pair}
use Rattle.pg_step.specs.Machines.Runs.{Leads}
use Rattle.pg_step.specs.declared.command.OpId.{OpId}
use Rattle.pg_step.specs.Config.{Config}
use Rattle.pg_step.specs.FrameMachine.{frame_machine}
use Rattle.pg_step.specs.Step.{Action, Retry}
use Rattle.pg_laws.specs.Counted.{is_open}
use Rattle.pg_laws.specs.Quiet.{AllFormed, HasClockRoom, IsQuiet, NoLockHeld, NoneOpen, NothingUnderWay, OnlyTakes}
use Rattle.pg_laws.specs.Quiet.{OnlyTakesAndRetries, RetryGoes, most_events, most_takes, peer_count}
use Rattle.pg_laws.specs.Reached.{TimedFrameWorld}

-- Of a world to which events led.
pub record NothingIsStuck (config : Config) (w : TimedFrameWorld) : Type 0 where
  -- takes alone end; while a packet is on the way each that is next can be taken; and takes lead to where none is on the way
  pub ends : (v : TimedFrameWorld) (takes : List (Event Action)) → OnlyTakes takes → Leads (frame_machine config) w takes v → length takes ≤ most_takes config (plain w)
  pub goes_on : (x y : ℕ) (packet : Stamped Message) (rest : List (Stamped Message)) → HasClockRoom config w 1
      → is_pair (length config) x y ≡ true → w.wire x y ≡ packet ∷ rest → (v : TimedFrameWorld) × (happens (frame_machine config) w (Take y x) ≡ Some v)
  pub rests : HasClockRoom config w (most_takes config (plain w))
      → (takes : List (Event Action)) × (v : TimedFrameWorld) × OnlyTakes takes × Leads (frame_machine config) w takes v × IsQuiet config (plain v)
  -- there each node is formed, no lock is held, and each open command waits for its retry
  pub formed : IsQuiet config (plain w) → AllFormed config (plain w)
  pub unlocked : IsQuiet config (plain w) → NoLockHeld config (plain w)
  pub waits : (i : ℕ) → IsQuiet config (plain w) → is_place (length config) i ≡ true → NothingUnderWay ((plain w).node i)
  -- which can happen, and is answered ok
  pub tried : (i : ℕ) (op : OpId) → IsQuiet config (plain w) → is_place (length config) i ≡ true → is_open (((plain w).node i).stages op) ≡ true → HasClockRoom config w 1
      → (v : TimedFrameWorld) × (happens (frame_machine config) w (Do i (Retry op)) ≡ Some v)
  pub retried : (v : TimedFrameWorld) (takes : List (Event Action)) (i : ℕ) (op : OpId) → IsQuiet config (plain w) → is_place (length config) i ≡ true
      → is_open (((plain w).node i).stages op) ≡ true → HasClockRoom config w (1 + 5 * peer_count config)
      → OnlyTakes takes → Leads (frame_machine config) w (Do i (Retry op) ∷ takes) v → RetryGoes config i op (length takes) v
  -- takes and retries answer each command that came in
  pub answers : HasClockRoom config w (most_events config (plain w))
      → (more : List (Event Action)) × (v : TimedFrameWorld) × OnlyTakesAndRetries more × Leads (frame_machine config) w more v
      × NoneOpen config (plain v) × IsQuiet config (plain v)
