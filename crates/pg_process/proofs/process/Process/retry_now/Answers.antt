use Rattle.pg_process.proofs.Chained.{tried, tried_until}
use Rattle.pg_process.proofs.process.Process.retry_now.Goals as goal

pub returns-in-Ok-clause-works : goal.returns-in-Ok-clause-works
returns-in-Ok-clause-works c = tried c.args.op c.in-Ok.field-0 c.args.self.now c.retry.new.self c.in-Ok.ensures.made

pub returns-in-Ok-clause-retries : goal.returns-in-Ok-clause-retries
returns-in-Ok-clause-retries c = (c.in-Ok.field-0, c.in-Ok.ensures.made)

pub returns-in-Err-clause-until : goal.returns-in-Err-clause-until
returns-in-Err-clause-until c = tried_until c.args.op c.in-Err.fault c.args.self.now c.retry.new.self c.in-Err.ensures.failed
