use Rattle.std.specs.Prelude.{max, ◌+◌}
use Rattle.pg_step.specs.Config.{name_at, nodes_at, ports_at}
use Rattle.pg_step.specs.Step.{node_takes, node_acts}
use Rattle.pg_step.proofs.Refusals.{same_step}
use Rattle.pg_step.proofs.step_laws.step_is_clocked.Goals as goal

pub returns-clause-taken : goal.returns-clause-taken
returns-clause-taken c = λ config i p s x. same_step config (max s.clock x.stamp + 1) (node_takes (nodes_at config i) (name_at config p) x.packet s.state)

pub returns-clause-own : goal.returns-clause-own
returns-clause-own c = λ config i s action. same_step config (s.clock + 1) (node_acts (nodes_at config i) (ports_at config i) action s.state)
