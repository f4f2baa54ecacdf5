-- For how long a port keeps a change that it could hand over.
use Rattle.std.specs.Prelude.{◌≡◌, ◌≤◌, ◌+◌, ◌<◌, ℕ, Bool, true, cond, List, []}
use Rattle.pg_node_process.specs.Retries.{gives_way, ticks_left}
use Rattle.pg_process.specs.Accounts.{hands_in}
use Rattle.pg_process.specs.Chains.{AllDo, Step}
use Rattle.pg_process.specs.Situations.{Setting, Situation}
use Rattle.pg_process.specs.Turns.{is_free}

-- none of its changes is with the node and one waits, but it gives way to other nodes
pub record Keeps (port : ℕ) (a : Situation) : Type 0 where
  pub free : is_free (a.ports port) ≡ true
  pub gives : gives_way (a.courtesies port) ≡ true

-- it keeps it still, and may do so at as many ticks less as came
pub record KeepsOn (port ticks : ℕ) (a b : Situation) : Type 0 where
  pub keeps : Keeps port b
  pub fewer : ticks_left (b.courtesies port) + ticks ≤ ticks_left (a.courtesies port)

-- A body is heard by these deeds, so that each port that keeps a change hands one over, or keeps on. A port that gives way may do so at two ticks at most, and at one at
-- least (`ticks_left`). So it keeps its change over one tick, and hands it over by the second.
pub record KeepsShortly (set : Setting) (is_tick : Bool) (a b : Situation) : Type 0 where
  pub steps : List Step
  pub does : AllDo set a steps b
  pub ports : (port : ℕ) → port < set.ports → Keeps port a → hands_in port steps ≡ [] → KeepsOn port (cond is_tick 1 0) a b
