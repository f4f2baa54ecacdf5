use Rattle.std.proofs.Common.{◌≡◌, true, take}
use Rattle.std.specs.List.{All}
use Rattle.pg_cluster_judges.specs.Judges.{AgreesWith, formed_in}
use Rattle.pg_cluster_judges.proofs.closed.judges.are_one.Given as goal

-- of the nodes so far
abbrev pub invariant-loop-node : goal.invariant-loop-node
invariant-loop-node l = All (λ x. formed_in x ≡ true → AgreesWith l.nodes x) (take l.node-index l.nodes)
