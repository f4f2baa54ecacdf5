use Rattle.pg_step.proofs.Machines.Sequences.{parts, whole, one_world, untouched}
use Rattle.pg_step.proofs.machine.laws.runs.Goals as goal

pub returns-clause-parts : goal.returns-clause-parts
returns-clause-parts g c = λ m w v es fs. (parts m es fs w v, λ both. whole m es fs w both.0 v both.1 both.2)

pub returns-clause-one_world : goal.returns-clause-one_world
returns-clause-one_world g c = λ m w u v es. one_world m es w u v

pub returns-clause-untouched : goal.returns-clause-untouched
returns-clause-untouched g c = λ m w v es i. untouched m i es w v
