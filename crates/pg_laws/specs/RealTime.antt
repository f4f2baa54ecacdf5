-- The history of a group goes by real time: what was answered before another command came in comes before it.
use Rattle.std.specs.Prelude.{◌≡◌, ℕ, ◌<◌, ◌≤◌, true, List, ◌∷◌, ◌++◌, length, None}
use Rattle.pg_term.specs.declared.term.Term.{Term}
use Rattle.pg_step.specs.Machines.Clocked.{plain}
use Rattle.pg_step.specs.Machines.Machine.{Event}
use Rattle.pg_step.specs.Machines.Places.{is_place}
use Rattle.pg_step.specs.declared.command.OpId.{OpId}
use Rattle.pg_step.specs.Config.{Config}
use Rattle.pg_step.specs.FrameMachine.{FrameWorld}
use Rattle.pg_step.specs.Step.{Action}
use Rattle.pg_step.specs.Turns.{Report}
use Rattle.pg_laws.specs.History.{Entry, answered_count, applied_count, command_at, entries, history, times}
use Rattle.pg_laws.specs.Reached.{Reaches, TimedFrameWorld}

-- What was reported until a time, when these events had happened, stands before what comes in later.
pub record StandsBefore (asked : List (Event Action)) (until now : List (ℕ × Report)) : Type 0 where
  -- a command that was answered behind its lock stands before each that came in later, wherever that was, in whatever group
  pub answered : (i : ℕ) (op : OpId) (earlier later : List Entry) (e : Entry) → 0 < answered_count i op until
      → command_at e.node e.op asked ≡ None → entries now ≡ earlier ++ e ∷ later → 1 ≤ times i op earlier
  -- so does each entry of a group that was there before that one came in
  pub in_group : (name : Term) (before after earlier later : List Entry) (a e : Entry) → history name until ≡ before ++ a ∷ after
      → command_at e.node e.op asked ≡ None → history name now ≡ earlier ++ e ∷ later → (rest : List Entry) × (earlier ≡ before ++ a ∷ rest)
  -- no node goes back
  pub onward : (x : ℕ) (name : Term) → applied_count x name until ≤ applied_count x name now

-- Of a world w to which events led: of each world m that the first of them had led to.
pub record InRealTime (config : Config) (events : List (Event Action)) (w : FrameWorld) : Type 0 where
  pub order : (first last : List (Event Action)) (m : TimedFrameWorld) → events ≡ first ++ last → Reaches config first m
      → StandsBefore first (plain m).reported w.reported
  -- an update that was answered is among those that each node has applied, from then on
  pub seen : (first last : List (Event Action)) (m : TimedFrameWorld) (x : ℕ) (name : Term) (before after : List Entry) (e : Entry)
      → events ≡ first ++ last → Reaches config first m → is_place (length config) x ≡ true
      → history name (plain m).reported ≡ before ++ e ∷ after → 0 < answered_count e.node e.op (plain m).reported
      → (more : List Entry) × (history name w.reported ≡ before ++ e ∷ (after ++ more)) × (length before < applied_count x name w.reported)
