use Rattle.std.proofs.Common.{◌≡◌, ◌&&◌, drop}
use Rattle.std.specs.List.{list_any}
use Rattle.pg_term.specs.Same.{same_atom}
use Rattle.pg_step.specs.PgEnds.Numbers.{is_among}
use Rattle.pg_world_config.proofs.config.was_made.Given as goal

-- what is left of the list says what all of it says
abbrev pub invariant-loop-start : goal.invariant-loop-start
invariant-loop-start l = list_any (λ start. same_atom l.pid.node start.name && is_among start.made l.pid) (drop l.start-index l.starts) ≡ list_any (λ start. same_atom l.pid.node start.name && is_among start.made l.pid) l.starts
