use Rattle.std.proofs.Common.{◌≡◌, drop}
use Rattle.std.specs.List.{list_all}
use Rattle.pg_step.specs.PgEnds.Processes.{made_of, node_of}
use Rattle.pg_node_process.specs.Groups.{is_own}
use Rattle.pg_node_process.proofs.groups.all_own.Given as goal

-- what is left of the list says what all of it says
abbrev pub invariant-loop-pid : goal.invariant-loop-pid
invariant-loop-pid l = list_all (is_own (node_of l.processes) (made_of l.processes)) (drop l.pid-index l.members) ≡ list_all (is_own (node_of l.processes) (made_of l.processes)) l.members
