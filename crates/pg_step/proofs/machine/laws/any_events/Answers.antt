use Rattle.pg_step.proofs.Machines.Sequences.{leads_ran, ran_all, run_there, run_append, ran_append}
use Rattle.pg_step.proofs.machine.laws.any_events.Goals as goal

pub returns-clause-leads : goal.returns-clause-leads
returns-clause-leads g c = λ m w es. leads_ran m es w

pub returns-clause-ran : goal.returns-clause-ran
returns-clause-ran g c = λ m w v es. ran_all m es w v

pub returns-clause-run : goal.returns-clause-run
returns-clause-run g c = λ m w v es. run_there m es w v

pub returns-clause-run_parts : goal.returns-clause-run_parts
returns-clause-run_parts g c = λ m w es fs. run_append m es fs w

pub returns-clause-ran_parts : goal.returns-clause-ran_parts
returns-clause-ran_parts g c = λ m w es fs. ran_append m es fs w
