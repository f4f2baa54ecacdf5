use Rattle.std.proofs.Common.{◌≡◌, drop}
use Rattle.std.specs.List.{list_all}
use Rattle.pg_step.specs.Config.{was_made}
use Rattle.pg_world_config.proofs.config.are_made.Given as goal

-- what is left of the list says what all of it says
abbrev pub invariant-loop-group : goal.invariant-loop-group
invariant-loop-group l = list_all (λ group. list_all (was_made l.starts) group.1) (drop l.group-index l.groups) ≡ list_all (λ group. list_all (was_made l.starts) group.1) l.groups
