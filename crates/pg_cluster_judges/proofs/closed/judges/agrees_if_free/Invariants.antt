use Rattle.std.proofs.Common.{take}
use Rattle.std.specs.List.{All}
use Rattle.pg_cluster_judges.specs.Judges.{HasAs}
use Rattle.pg_cluster_judges.proofs.closed.judges.agrees_if_free.Given as goal

-- of the nodes so far
abbrev pub invariant-loop-other : goal.invariant-loop-other
invariant-loop-other l = All (HasAs l.node l.name) (take l.other-index l.nodes)
