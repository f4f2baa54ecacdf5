use Rattle.pg_process.specs.Deeds.{Aged}
use Rattle.pg_process.proofs.Chained.{made_works}
use Rattle.pg_process.proofs.Settling.{aged_rest}
use Rattle.pg_process.proofs.process.Process.warn_of_clock.Goals as goal

pub returns-clause-works : goal.returns-clause-works
returns-clause-works c = made_works c.tell_old_clock.result Aged _ _ tt c.tell_old_clock.ensures.made

pub returns-clause-rest : goal.returns-clause-rest
returns-clause-rest c = aged_rest c.tell_old_clock.result c.args.self.now c.tell_old_clock.new.self c.tell_old_clock.ensures.made
