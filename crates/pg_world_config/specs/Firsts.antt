-- The nodes of a configuration as they start.
use Rattle.std.specs.Prelude.{ℕ, zero, suc, List, [], ◌∷◌, ◌++◌}
use Rattle.pg_node_state.specs.PgStep.Config.{Config, nodes_at, groups_at, made_at, ports_at, first_table}
use Rattle.pg_node_state.specs.PgStep.Nodes.{all_of}
use Rattle.pg_node_state.specs.PgStep.State.{new_state}
use Rattle.pg_world_config.specs.Seen.{Seen}

-- node i of a configuration as it starts: its clock is at 0, and it has taken nothing
abbrev pub seen_first : Config → ℕ → Seen
seen_first config i = record {
  names = all_of (nodes_at config i);
  ports = ports_at config i;
  state = record { clock = 0; state = new_state (first_table (groups_at config i)) (made_at config i) };
  answers = λ port. [];
}

-- the first so many of them
abbrev pub firsts : Config → ℕ → List Seen
firsts config zero = []
firsts config (suc n) = firsts config n ++ seen_first config n ∷ []
