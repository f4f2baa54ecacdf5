use Rattle.pg_process.proofs.Chained.{looked}
use Rattle.pg_process.proofs.process.Process.look_on.Goals as goal

pub returns-clause-works : goal.returns-clause-works
returns-clause-works c = looked c.args.port c.look.result c.args.is_tick c.args.self.now c.look.new.self c.look.ensures.made
