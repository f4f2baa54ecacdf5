use Rattle.pg_script.specs.Rounds.{AllMoved, view_of}
use Rattle.pg_script.proofs.settling.settle.Given as goal

-- the rounds so far
abbrev pub invariant-loop : goal.invariant-loop
invariant-loop l = AllMoved l.count l.counter (view_of l.initial.stage.world) (view_of l.stage.world)
