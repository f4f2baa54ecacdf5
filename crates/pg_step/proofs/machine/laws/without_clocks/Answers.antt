use Rattle.pg_step.specs.Machines.Machine.{start_of}
use Rattle.pg_step.specs.Machines.Runs.{run, ran}
use Rattle.pg_step.specs.Machines.Clocked.{clocked}
use Rattle.pg_step.proofs.Machines.Plain.{plain_start, plain_happens, plain_leads, plain_from_start}
use Rattle.pg_step.proofs.Machines.Sequences.{leads_ran}
use Rattle.pg_step.proofs.Machines.Short.{short_runs}
use Rattle.pg_step.proofs.machine.laws.without_clocks.Goals as goal

pub returns-clause-start : goal.returns-clause-start
returns-clause-start g c = λ limit m. plain_start m limit

pub returns-clause-event : goal.returns-clause-event
returns-clause-event g c = λ limit m w e. plain_happens m limit w e

pub returns-clause-leads : goal.returns-clause-leads
returns-clause-leads g c = λ limit m w v es. plain_leads m limit es w v

pub returns-clause-from_start : goal.returns-clause-from_start
returns-clause-from_start g c = λ limit m v es. plain_from_start m limit es v

pub returns-clause-run : goal.returns-clause-run
returns-clause-run g c = λ limit m es. plain_from_start m limit (ran (clocked limit m) (start_of (clocked limit m)) es) (run (clocked limit m) (start_of (clocked limit m)) es) (leads_ran (clocked limit m) es (start_of (clocked limit m)))

pub returns-clause-short : goal.returns-clause-short
returns-clause-short g c = λ limit m v es room l. short_runs m limit es v room l
