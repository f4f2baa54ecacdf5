use Rattle.std.proofs.Common.{◌<◌, ◌∙◌, ℕ, Ok, ap, subst, sym}
use Rattle.pg_process.specs.Deeds.{Sent}
use Rattle.pg_process.specs.Situations.{Situation}
use Rattle.pg_process.proofs.Chained.{fails_until, work_made, work_rests, works_on, works_until}
use Rattle.pg_process.proofs.Looping.{fewer_bytes}
use Rattle.pg_process.proofs.Settling.{sends_made, sends_rests, sends_then}
use Rattle.pg_process.proofs.Situated.{same_peers}
use Rattle.pg_process.proofs.process.Process.send_all.Goals as goal

pub loop-fault-smaller : goal.loop-fault-smaller
loop-fault-smaller c =
    let made = c.in-Ok-true.ensures.sent c.in-Ok-true.field-0-test in
    fewer_bytes c.args.peer made.0 c.loop-fault.self c.send.new.self made.1 made.2

pub loop-fault-preserved : goal.loop-fault-preserved
loop-fault-preserved c =
    let made = c.in-Ok-true.ensures.sent c.in-Ok-true.field-0-test in record {
      works = works_on _ _ _ c.loop-fault.invariant.works (work_made (Sent c.args.peer made.0) _ _ tt made.2);
      sends = sends_then c.args.peer _ _ _ c.loop-fault.invariant.sends (sends_made c.args.peer made.0 _ _ made.2);
      there = subst (λ (n : ℕ). c.args.peer < n) (sym (same_peers c.loop-fault.self c.send.new.self made.2.setting)) c.loop-fault.invariant.there;
    }

pub returns-in-Ok-false-clause-works : goal.returns-in-Ok-false-clause-works
returns-in-Ok-false-clause-works c = works_on _ _ _ c.loop-fault.invariant.works (work_rests _ _ (c.in-Ok-false.ensures.none (ap (λ b. Ok b) c.in-Ok-false.field-0-test)).0)

pub returns-in-Ok-false-clause-none : goal.returns-in-Ok-false-clause-none
returns-in-Ok-false-clause-none c =
    let none = c.in-Ok-false.ensures.none (ap (λ b. Ok b) c.in-Ok-false.field-0-test) in
    ap (λ (s : Situation). (s.links c.args.peer).outbox) none.0.same ∙ none.1

pub returns-in-Ok-false-clause-sends : goal.returns-in-Ok-false-clause-sends
returns-in-Ok-false-clause-sends c =
    let none = c.in-Ok-false.ensures.none (ap (λ b. Ok b) c.in-Ok-false.field-0-test) in
    sends_then c.args.peer _ _ _ c.loop-fault.invariant.sends (sends_rests c.args.peer _ _ none.0)

pub returns-in-Err-clause-until : goal.returns-in-Err-clause-until
returns-in-Err-clause-until c = works_until _ _ _ _ c.loop-fault.invariant.works (fails_until (Sent c.args.peer c.in-Err.ensures.failed.0) _ _ _ c.in-Err.ensures.failed.1)
