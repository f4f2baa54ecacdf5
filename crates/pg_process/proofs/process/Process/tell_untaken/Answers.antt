use Rattle.std.proofs.Common.{◌∙◌, sym}
use Rattle.pg_process.proofs.Said.{untaken_none, untaken_told}
use Rattle.pg_process.proofs.process.Process.tell_untaken.Goals as goal

pub returns-then-tells_none-clause-made : goal.returns-then-tells_none-clause-made
returns-then-tells_none-clause-made c = λ before u. untaken_none before c.args.self.now c.args.peer c.args.fault u (sym c.tells_none.ensures ∙ c.if-tells_none.true)

pub returns-in-Ok-clause-made : goal.returns-in-Ok-clause-made
returns-in-Ok-clause-made c = λ before u.
    untaken_told before c.args.self.now c.args.peer c.args.fault u c.tell-said.new.self c.in_ok-told.told c.index.result.now c.requires (sym c.damages.ensures ∙ c.if-not-damages.false)
    c.in_ok-told.ensures c.index.ensures c.in-Ok.ensures.said c.in-Ok.ensures.rest
