use Rattle.pg_script.specs.Rounds.{RowFrom, view_of}
use Rattle.pg_script.proofs.settling.row.Given as goal

-- the pairs so far
abbrev pub invariant-loop-to : goal.invariant-loop-to
invariant-loop-to l = RowFrom l.from l.to l.moved (view_of l.initial.stage.world) (view_of l.stage.world)
