use Rattle.pg_script.specs.Rounds.{Rows, view_of}
use Rattle.pg_script.proofs.settling.round.Given as goal

-- the nodes so far
abbrev pub invariant-loop-from : goal.invariant-loop-from
invariant-loop-from l = Rows l.count l.from l.moved (view_of l.initial.stage.world) (view_of l.stage.world)
