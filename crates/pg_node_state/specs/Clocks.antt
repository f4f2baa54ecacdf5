-- The clock at which an event happens.
use Rattle.std.specs.Prelude.{◌<◌, ◌≤◌, ℕ}
use Rattle.pg_node_ports.specs.PgMessageTypes.Limits.{max_stamp}

-- it is later than the one before, and within the limit
pub record IsNow (before clock : ℕ) : Type 0 where
  pub later : before < clock
  pub within : clock ≤ max_stamp
