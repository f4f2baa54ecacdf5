use Rattle.std.proofs.Common.{◌<◌, Bool, ℕ, refl, subst, sym, zero}
use Rattle.pg_process.specs.Turns.{HandsIf}
use Rattle.pg_process.proofs.Chained.{itself, work_rests, works_on, works_until}
use Rattle.pg_process.proofs.Situated.{same_ports}
use Rattle.pg_process.proofs.Turning.{fewer_wait, hands_many, hands_some}
use Rattle.pg_process.proofs.process.Process.hand_over_many.Goals as goal

pub loop-fault-init : goal.loop-fault-init
loop-fault-init c = record { works = work_rests c.args.self.now c.args.self.now (itself c.args.self.now); hands = (zero, refl); there = c.requires }

pub loop-fault-smaller : goal.loop-fault-smaller
loop-fault-smaller c =
    fewer_wait c.args.port c.loop-fault.self c.hand_over_one.new.self (subst (λ (d : Bool). HandsIf c.args.port d c.loop-fault.self c.hand_over_one.new.self) c.in-Ok-true.field-0-test c.in-Ok-true.ensures.hands)

pub loop-fault-preserved : goal.loop-fault-preserved
loop-fault-preserved c =
    let works = works_on c.args.self.now c.loop-fault.self c.hand_over_one.new.self c.loop-fault.invariant.works c.in-Ok-true.ensures.works in record {
      works = works;
      hands = hands_some c.args.port c.in-Ok-true.field-0 c.args.self.now c.loop-fault.self c.hand_over_one.new.self c.in-Ok-true.field-0-test c.loop-fault.invariant.hands c.in-Ok-true.ensures.hands;
      there = subst (λ (n : ℕ). c.args.port < n) (sym (same_ports c.args.self.now c.hand_over_one.new.self works.goes.setting)) c.requires;
    }

pub returns-in-Ok-false-clause-works : goal.returns-in-Ok-false-clause-works
returns-in-Ok-false-clause-works c = works_on c.args.self.now c.loop-fault.self c.hand_over_one.new.self c.loop-fault.invariant.works c.in-Ok-false.ensures.works

pub returns-in-Ok-false-clause-hands : goal.returns-in-Ok-false-clause-hands
returns-in-Ok-false-clause-hands c =
    hands_many c.args.port c.in-Ok-false.field-0 c.args.self.now c.loop-fault.self c.hand_over_one.new.self c.in-Ok-false.field-0-test c.loop-fault.invariant.hands c.in-Ok-false.ensures.hands

pub returns-in-Err-clause-until : goal.returns-in-Err-clause-until
returns-in-Err-clause-until c = works_until c.in-Err.fault c.args.self.now c.loop-fault.self c.hand_over_one.new.self c.loop-fault.invariant.works c.in-Err.ensures.until
