use Rattle.std.proofs.Common.{List, get_or, refl, subst, arith}
use Rattle.std.specs.Prelude.{take}
use Rattle.std.proofs.lemmas.List.{take_more}
use Rattle.pg_node.specs.PgStep.declared.command.OpId.{OpId}
use Rattle.pg_process.specs.Turns.{TriesEach}
use Rattle.pg_process.proofs.Chained.{itself, work_rests, works_on, works_until}
use Rattle.pg_process.proofs.Turning.{take_all, tries_more}
use Rattle.pg_process.proofs.process.Process.retry_each.Goals as goal

pub loop-op-init : goal.loop-op-init
loop-op-init c = record { works = work_rests c.args.self.now c.args.self.now (itself c.args.self.now); each = refl }

pub loop-op-preserved : goal.loop-op-preserved
loop-op-preserved c =
    let none : OpId = record { port = 0; number = 0 } in
    let ops = c.args.ops.now in
    let k = c.loop-op.op-index in record {
      works = works_on c.args.self.now c.loop-op.self c.retry_if_due.new.self c.loop-op.invariant.works c.in-Ok.ensures.works;
      each = tries_more (take k ops) _ (get_or ops k none) c.args.is_tick c.args.self.now c.loop-op.self c.retry_if_due.new.self (take_more ops k none c.loop-op-test.true)
          c.loop-op.invariant.each c.in-Ok.ensures.tries;
    }

pub returns-clause-each : goal.returns-clause-each
returns-clause-each c =
    subst (λ (ops : List OpId). TriesEach ops c.args.is_tick c.args.self.now c.loop-op.self) (take_all c.args.ops.now c.loop-op.op-index (omega (arith, c.loop-op-test.false))) c.loop-op.invariant.each

pub returns-in-Err-clause-until : goal.returns-in-Err-clause-until
returns-in-Err-clause-until c = works_until c.in-Err.fault c.args.self.now c.loop-op.self c.retry_if_due.new.self c.loop-op.invariant.works c.in-Err.ensures.until
