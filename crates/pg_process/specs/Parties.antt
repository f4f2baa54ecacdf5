-- Whom the bodies of a process are of.
use Rattle.std.specs.Prelude.{ℕ, List}
use Rattle.pg_node.specs.PgNodeOpens.Places.{name_at}
use Rattle.pg_node.specs.PgStep.Nodes.{Node}
use Rattle.pg_node_process.specs.Whom.{Whom}

-- the node with these names, of which the own one is the first, and so many ports and peers
abbrev pub whom_of : List Node → ℕ → ℕ → Whom
whom_of names ports peers = record { name = name_at names 0; ports = ports; peers = peers }
