-- One run of all nodes out of the logs of each.
use Rattle.std.specs.Prelude.{◌≡◌, ◌≢◌, ℕ, ◌<◌, map, List, ◌++◌}
use Rattle.pg_world.specs.PgStep.Machines.Machine.{Machine, Event, start_of}
use Rattle.pg_world.specs.PgStep.Machines.Clocked.{Timed, Stamped, TimedWorld}
use Rattle.pg_world.specs.PgStep.Machines.Runs.{Leads, events_of, reported_by}
use Rattle.pg_cluster_judges.specs.Logs.{LoggedAct, NodeLeads, reports_of}

-- These events lead from one world to another through a world in which node i is in the state s.
pub record Passes {S P C O : Type 0} (m : Machine (Timed S) (Stamped P) C O) (from : TimedWorld S P O) (events : List (Event C))
    (to : TimedWorld S P O) (i : ℕ) (s : Timed S) : Type 0 where
  pub before : List (Event C)
  pub after : List (Event C)
  pub are : events ≡ before ++ after
  pub world : TimedWorld S P O
  pub led : Leads m from before world
  pub goes_on : Leads m world after to
  pub state : world.node i ≡ s

-- The events lead from the start to a world in which each node is where its log ended, and what was not taken is on the way;
-- each node's events are those of its log, and what it reported is reported. Where its first turns lead a node, there it is in a
-- world on the way.
pub record Joined {S P C O : Type 0} (m : Machine (Timed S) (Stamped P) C O) (logs : ℕ → List (ℕ × Event C))
    (acts : ℕ → List (LoggedAct (Timed S) (Stamped P) C O)) (ends : ℕ → Timed S) (left : ℕ → ℕ → List (Stamped P))
    (events : List (Event C)) : Type 0 where
  pub world : TimedWorld S P O
  pub leads : Leads m (start_of m) events world
  pub nodes : (i : ℕ) → i < m.size → world.node i ≡ ends i
  pub ways : (p q : ℕ) → p < m.size → q < m.size → p ≢ q → world.wire p q ≡ left p q
  pub reported : (i : ℕ) → i < m.size → reported_by i world.reported ≡ reports_of (acts i)
  pub logs_of : (i : ℕ) → i < m.size → events_of i events ≡ map (λ x. x.1) (logs i)
  pub passes : (i : ℕ) → i < m.size → (first rest : List (LoggedAct (Timed S) (Stamped P) C O)) (s : Timed S) → acts i ≡ first ++ rest
      → NodeLeads m i (m.first i) first s → Passes m (start_of m) events world i s
