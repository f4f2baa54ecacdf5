use Rattle.std.proofs.Common.{◌≡◌, ◌++◌, map, take}
use Rattle.pg_explore_survey.specs.Findings.{link_line}
use Rattle.pg_explore_survey.proofs.drawing.add_links.Given as goal

-- those of the first
abbrev pub invariant-loop-way : goal.invariant-loop-way
invariant-loop-way l = l.links.items ≡ l.initial.links.items ++ map (link_line l.from) (take l.way-index l.led)
