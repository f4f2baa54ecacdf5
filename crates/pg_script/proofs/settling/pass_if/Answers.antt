use Rattle.std.proofs.lemmas.Result.{IfOk-weaker}
use Rattle.pg_script.specs.Rounds.{view_of}
use Rattle.pg_script.proofs.Rounding.{passes_no_one, passes_on}
use Rattle.pg_script.proofs.settling.pass_if.Goals as goal

pub returns-then-from-to : goal.returns-then-from-to
returns-then-from-to c = passes_no_one c.args.from c.args.to (view_of c.args.stage.now.world) c.if-from-to.true

pub returns-else-from-to : goal.returns-else-from-to
returns-else-from-to c =
    IfOk-weaker c.pass.result _ _ (λ moved. passes_on c.args.from c.args.to moved (view_of c.args.stage.now.world) (view_of c.pass.new.stage.world) c.if-from-to.false) c.pass.ensures
