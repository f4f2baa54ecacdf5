use Rattle.pg_process.specs.Deeds.{Formed}
use Rattle.pg_process.proofs.Chained.{made_works}
use Rattle.pg_process.proofs.Settling.{told_rest}
use Rattle.pg_process.proofs.process.Process.form.Goals as goal

pub returns-clause-works : goal.returns-clause-works
returns-clause-works c = made_works c.tell_formed.result Formed _ _ tt c.tell_formed.ensures.made

pub returns-clause-rest : goal.returns-clause-rest
returns-clause-rest c = told_rest c.tell_formed.result c.args.self.now c.tell_formed.new.self c.tell_formed.ensures.made
