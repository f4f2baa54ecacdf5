use Rattle.std.proofs.Common.{◌≡◌, true, take}
use Rattle.std.specs.List.{All}
use Rattle.pg_cluster_judges.specs.Judges.{HasAs, is_seen_free}
use Rattle.pg_cluster_judges.proofs.closed.judges.agrees_on.Given as goal

-- of the names so far
abbrev pub invariant-loop-name : goal.invariant-loop-name
invariant-loop-name l = All (λ name. is_seen_free l.nodes name ≡ true → All (HasAs l.node name) l.nodes) (take l.name-index l.names)
