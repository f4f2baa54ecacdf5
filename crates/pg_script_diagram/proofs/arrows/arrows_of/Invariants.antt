use Rattle.std.proofs.Common.{◌≡◌, take}
use Rattle.pg_script_diagram.specs.Arrows.{arrows_from}
use Rattle.pg_script_diagram.proofs.arrows.arrows_of.Given as goal

-- the arrows of the events so far
abbrev pub invariant-loop-row : goal.invariant-loop-row
invariant-loop-row l = l.arrows.items ≡ arrows_from 0 0 (take l.row l.events)
