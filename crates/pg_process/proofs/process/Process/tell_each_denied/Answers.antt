use Rattle.std.proofs.Common.{◌≡◌, ◌∙◌, true, get_or, ap, refl, subst, sym, arith}
use Rattle.pg_node.specs.Nodes.{held_by}
use Rattle.pg_node.specs.PgNodeState.States.{kept_by, live_of}
use Rattle.pg_node.specs.PgStep.Attempts.{waits}
use Rattle.pg_process.specs.Situations.{Situation, situation_of}
use Rattle.pg_process.proofs.Chained.{itself, work_rests, works_on, works_until}
use Rattle.pg_process.proofs.Waiting.{all_told, denied_rests, denied_then, each_waits, no_op, told_next}
use Rattle.pg_process.proofs.process.Process.tell_each_denied.Goals as goal

pub loop-op-init : goal.loop-op-init
loop-op-init c = record {
  works = work_rests c.args.self.now c.args.self.now (itself c.args.self.now);
  node = refl;
  only = denied_rests (situation_of c.args.self.now) (situation_of c.args.self.now) refl;
  told = λ place less. absurd (omega (arith, less));
}

pub loop-op-preserved : goal.loop-op-preserved
loop-op-preserved c = record {
  works = works_on c.args.self.now c.loop-op.self c.tell_if_there.new.self c.loop-op.invariant.works c.in-Ok.ensures.works;
  node = c.in-Ok.ensures.node ∙ c.loop-op.invariant.node;
  only = denied_then (situation_of c.args.self.now) (situation_of c.loop-op.self) (situation_of c.tell_if_there.new.self) c.loop-op.invariant.only c.in-Ok.ensures.only;
  told = told_next c.args.ops.now c.loop-op.op-index c.args.self.now c.loop-op.self c.tell_if_there.new.self c.loop-op.invariant.node c.in-Ok.ensures.only c.loop-op.invariant.told c.in-Ok.ensures.told;
}

pub returns-clause-only : goal.returns-clause-only
returns-clause-only c = c.loop-op.invariant.only

pub returns-clause-told : goal.returns-clause-told
returns-clause-told c =
    all_told c.args.self.now c.loop-op.self c.args.ops.now c.loop-op.invariant.works.goes.setting (ap (λ (s : Situation). s.node) c.loop-op.invariant.only.rest) c.requires
    (λ place less. c.loop-op.invariant.told place (omega (arith, less, c.loop-op-test.false)))

pub returns-in-Err-clause-until : goal.returns-in-Err-clause-until
returns-in-Err-clause-until c = works_until c.in-Err.fault c.args.self.now c.loop-op.self c.tell_if_there.new.self c.loop-op.invariant.works c.in-Err.ensures.until

pub tell_if_there-requires : goal.tell_if_there-requires
tell_if_there-requires c =
    let a = c.args.self.now in
    subst (λ n. waits (live_of (held_by n)) ((kept_by (held_by n)).stages (get_or c.args.ops.now c.loop-op.op-index no_op)) (kept_by (held_by n)) ≡ true) (sym c.loop-op.invariant.node)
    (each_waits (live_of (held_by a.node)) (kept_by (held_by a.node)) c.args.ops.now c.loop-op.op-index no_op c.requires c.loop-op-test.true)
