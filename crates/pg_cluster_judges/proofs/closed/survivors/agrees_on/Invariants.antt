use Rattle.std.proofs.Common.{◌≡◌, take}
use Rattle.std.specs.Prelude.{true}
use Rattle.std.specs.List.{All}
use Rattle.pg_cluster_judges.specs.Judges.{HasAs}
use Rattle.pg_cluster_judges.specs.Survivors.{is_compared, survivors}
use Rattle.pg_cluster_judges.proofs.closed.survivors.agrees_on.Given as goal

-- of the names so far
abbrev pub invariant-loop-name : goal.invariant-loop-name
invariant-loop-name l =
    All (λ name. is_compared (survivors l.lost l.nodes) l.lost l.logs name ≡ true → All (HasAs l.node name) (survivors l.lost l.nodes)) (take l.name-index l.names)
