use Rattle.std.proofs.Common.{◌≡◌, drop}
use Rattle.std.specs.List.{list_all}
use Rattle.pg_step.specs.Config.{was_made}
use Rattle.pg_world_config.proofs.config.all_made.Given as goal

-- what is left of the list says what all of it says
abbrev pub invariant-loop-pid : goal.invariant-loop-pid
invariant-loop-pid l = list_all (was_made l.starts) (drop l.pid-index l.members) ≡ list_all (was_made l.starts) l.members
