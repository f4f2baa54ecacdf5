use Rattle.std.proofs.Common.{arith, inr, subst}
use Rattle.pg_node_run.specs.Ports.{HandsNext}
use Rattle.pg_node_run.proofs.Forgetting.{forgets_next, forgets_none, forgets_still, hands_count}
use Rattle.pg_node_run.proofs.PortsGoing.{hands_none, hands_on}
use Rattle.pg_node_run.proofs.Wanting.{not_both}
use Rattle.pg_node_run.proofs.port.Port.hand_all.Goals as goal

pub loop-init : goal.loop-init
loop-init c = (
  hands_none c.args.answers.now c.args.self.now,
  forgets_none c.args.place c.args.self.now c.args.pauses.now,
  c.idle-phase.ensures.whole,
  omega arith,
)

pub loop-preserved : goal.loop-preserved
loop-preserved c =
    let was = c.loop.invariant in (
      hands_on c.args.answers.now c.args.self.now c.loop.self c.hand.new.self was.0 c.hand.ensures.hands,
      forgets_next c.args.place c.in-Ok-Some.number c.in-Ok-Some.field-0 c.args.self.now c.loop.self c.hand.new.self c.args.pauses.now c.loop.pauses c.forget.new.self c.in-Ok-Some.field-0-is
          c.in-Ok-Some.ensures.number was.1 c.forget.ensures.forgotten c.forget.ensures.others,
      was.2,
      (let more = hands_count c.in-Ok-Some.number c.in-Ok-Some.field-0 c.loop.self c.hand.new.self c.in-Ok-Some.field-0-is c.in-Ok-Some.ensures.number in let count = was.3 in omega (arith, more, count)),
    )

pub returns-after-loop-clause-hands : goal.returns-after-loop-clause-hands
returns-after-loop-clause-hands c = c.loop.invariant.0

pub returns-after-loop-clause-forgets : goal.returns-after-loop-clause-forgets
returns-after-loop-clause-forgets c = c.loop.invariant.1

pub returns-after-loop-clause-all : goal.returns-after-loop-clause-all
returns-after-loop-clause-all c = λ whole. inr (let count = c.loop.invariant.3 in let past = c.loop-test.false in omega (arith, count, past))

pub returns-after-loop-clause-left : goal.returns-after-loop-clause-left
returns-after-loop-clause-left c = λ short. not_both _ c.loop.invariant.2 short

pub returns-in-Ok-None-clause-hands : goal.returns-in-Ok-None-clause-hands
returns-in-Ok-None-clause-hands c = hands_on c.args.answers.now c.args.self.now c.loop.self c.hand.new.self c.loop.invariant.0 c.hand.ensures.hands

pub returns-in-Ok-None-clause-left : goal.returns-in-Ok-None-clause-left
returns-in-Ok-None-clause-left c = λ short. not_both _ c.loop.invariant.2 short

pub returns-in-Err-clause-hands : goal.returns-in-Err-clause-hands
returns-in-Err-clause-hands c = hands_on c.args.answers.now c.args.self.now c.loop.self c.hand.new.self c.loop.invariant.0 c.hand.ensures.hands

pub returns-in-Ok-None-clause-forgets : goal.returns-in-Ok-None-clause-forgets
returns-in-Ok-None-clause-forgets c =
    forgets_still c.args.place c.args.self.now c.loop.self c.hand.new.self c.args.pauses.now c.loop.pauses c.loop.invariant.1
    (subst (λ n. HandsNext n c.loop.self c.hand.new.self) c.in-Ok-None.field-0-is c.in-Ok-None.ensures.number)

pub returns-in-Err-clause-forgets : goal.returns-in-Err-clause-forgets
returns-in-Err-clause-forgets c =
    forgets_still c.args.place c.args.self.now c.loop.self c.hand.new.self c.args.pauses.now c.loop.pauses c.loop.invariant.1 c.in-Err.ensures.err
