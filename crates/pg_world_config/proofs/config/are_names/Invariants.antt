use Rattle.std.proofs.Common.{◌≡◌, drop}
use Rattle.std.specs.List.{list_all}
use Rattle.pg_step.specs.PgMessageTypes.Name.{is_name}
use Rattle.pg_world_config.proofs.config.are_names.Given as goal

-- what is left of the list says what all of it says
abbrev pub invariant-loop-group : goal.invariant-loop-group
invariant-loop-group l = list_all (λ group. is_name group.0) (drop l.group-index l.groups) ≡ list_all (λ group. is_name group.0) l.groups
