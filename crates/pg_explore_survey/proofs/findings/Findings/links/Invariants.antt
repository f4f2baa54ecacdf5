use Rattle.std.proofs.Common.{◌≡◌, ◌++◌, drop}
use Rattle.pg_explore_survey.specs.Findings.{led_in, links_from}
use Rattle.pg_explore_survey.proofs.findings.Findings.links.Given as goal

-- those so far, and those of the rest
abbrev pub invariant-loop-from : goal.invariant-loop-from
invariant-loop-from l = l.links.items ++ links_from l.from (drop l.from (led_in l.self)) ≡ links_from 0 (led_in l.self)
