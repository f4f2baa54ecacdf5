use Rattle.std.proofs.Common.{◌≡◌, true, take}
use Rattle.std.specs.List.{list_all}
use Rattle.pg_world_config.specs.Configs.{is_start}
use Rattle.pg_world_config.proofs.config.are_starts.Given as goal

-- those so far are
abbrev pub invariant-loop-start : goal.invariant-loop-start
invariant-loop-start l = list_all (is_start l.starts) (take l.start-index l.starts) ≡ true
