-- How a process may begin.
use Rattle.std.specs.Prelude.{ℕ, Bool, true, not, ◌&&◌, nat_le, length, List, [], ◌∷◌}
use Rattle.std.specs.List.{list_any}
use Rattle.pg_term.specs.Same.{same_atom}
use Rattle.pg_node_process.specs.declared.config.ProcessConfig.{ProcessConfig}

-- no two of these names are one
abbrev pub are_apart : List (List ℕ) → Bool
are_apart [] = true
are_apart (name ∷ names) = not (list_any (same_atom name) names) && are_apart names

-- 15 peers at most, 1 to 64 ports, 268,435,455 processes at most, a label of 255 bytes at most
abbrev pub are_counts_within : ProcessConfig → Bool
are_counts_within config =
    nat_le (length config.peers.items) 15 && (nat_le 1 config.ports && (nat_le config.ports 64 && (nat_le config.made 268435455 && nat_le (length config.label.items) 255)))

-- and the name of the node and those of its peers differ
abbrev pub is_config : ProcessConfig → Bool
is_config config = are_counts_within config && are_apart (config.own ∷ config.peers.items)
