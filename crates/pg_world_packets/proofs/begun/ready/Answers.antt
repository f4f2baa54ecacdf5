use Rattle.pg_world_config.proofs.Deciding.{passes}
use Rattle.pg_world_packets.proofs.Opened.{on_ok, ready_so, few_so, few_fault, judged}
use Rattle.pg_world_packets.proofs.begun.ready.Goals as goal

pub returns-in-Ok-clause-good : goal.returns-in-Ok-clause-good
returns-in-Ok-clause-good c = on_ok c.few_enough.result (passes c.args.config.now.ring c.args.config.now.starts.items c.in-Ok.ensures.told)

pub returns-in-Ok-clause-ready : goal.returns-in-Ok-clause-ready
returns-in-Ok-clause-ready c = ready_so c.args.config.now.ring c.args.config.now.starts.items c.as_slice.result.now c.as_slice.ensures.value c.in-Ok.ensures.told c.few_enough.result c.few_enough.ensures.few

pub returns-in-Ok-clause-none : goal.returns-in-Ok-clause-none
returns-in-Ok-clause-none c = on_ok c.few_enough.result c.in-Ok.ensures.told

pub returns-in-Ok-clause-fault : goal.returns-in-Ok-clause-fault
returns-in-Ok-clause-fault c = few_fault c.args.config.now.ring c.args.config.now.starts.items c.as_slice.result.now c.as_slice.ensures.value c.in-Ok.ensures.told c.few_enough.result c.few_enough.ensures.fault

pub returns-in-Ok-clause-few : goal.returns-in-Ok-clause-few
returns-in-Ok-clause-few c = few_so c.args.config.now.starts.items c.as_slice.result.now c.as_slice.ensures.value c.few_enough.result c.few_enough.ensures.few

pub returns-in-Err-clause-fault : goal.returns-in-Err-clause-fault
returns-in-Err-clause-fault c = judged c.args.config.now.ring c.args.config.now.starts.items c.in-Err.fault c.check.result (search) c.check.ensures.told c.check.ensures.never
