use Rattle.std.proofs.Common.{◌<◌, ◌∙◌, ℕ, Ok, ap, refl, subst, sym}
use Rattle.pg_process.specs.Deeds.{Answered}
use Rattle.pg_process.specs.Situations.{Situation}
use Rattle.pg_process.proofs.Chained.{fails_until, itself, work_made, work_rests, works_on, works_until}
use Rattle.pg_process.proofs.Settling.{answer_else}
use Rattle.pg_process.proofs.Situated.{fewer_answers, same_ports}
use Rattle.pg_process.proofs.Turning.{says_made, says_rests, says_then}
use Rattle.pg_process.proofs.process.Process.answer_all.Goals as goal

pub loop-fault-init : goal.loop-fault-init
loop-fault-init c =
    let a = c.args.self.now in record { works = work_rests a a (itself a); says = says_rests c.args.port a a (itself a); others = λ other n. refl; there = c.requires }

pub loop-fault-smaller : goal.loop-fault-smaller
loop-fault-smaller c =
    let made = c.in-Ok-true.ensures.said c.in-Ok-true.field-0-test in
    fewer_answers c.args.port made.0 c.loop-fault.self c.answer.new.self made.1

pub loop-fault-preserved : goal.loop-fault-preserved
loop-fault-preserved c =
    let made = c.in-Ok-true.ensures.said c.in-Ok-true.field-0-test in record {
      works = works_on _ _ _ c.loop-fault.invariant.works (work_made (Answered c.args.port made.0) _ _ tt made.1);
      says = says_then c.args.port _ _ _ c.loop-fault.invariant.says (says_made c.args.port made.0 c.loop-fault.self c.answer.new.self made.1);
      others = λ other n. answer_else c.args.port made.0 c.loop-fault.self c.answer.new.self made.1 other n ∙ c.loop-fault.invariant.others other n;
      there = subst (λ (n : ℕ). c.args.port < n) (sym (same_ports c.loop-fault.self c.answer.new.self made.1.setting)) c.loop-fault.invariant.there;
    }

pub returns-in-Ok-false-clause-works : goal.returns-in-Ok-false-clause-works
returns-in-Ok-false-clause-works c = works_on _ _ _ c.loop-fault.invariant.works (work_rests _ _ (c.in-Ok-false.ensures.none (ap (λ b. Ok b) c.in-Ok-false.field-0-test)).0)

pub returns-in-Ok-false-clause-says : goal.returns-in-Ok-false-clause-says
returns-in-Ok-false-clause-says c =
    let none = c.in-Ok-false.ensures.none (ap (λ b. Ok b) c.in-Ok-false.field-0-test) in record {
      says = says_then c.args.port _ _ _ c.loop-fault.invariant.says (says_rests c.args.port _ _ none.0);
      none = ap (λ (s : Situation). s.node.answers c.args.port) none.0.same ∙ none.1;
    }

pub returns-in-Ok-false-clause-none : goal.returns-in-Ok-false-clause-none
returns-in-Ok-false-clause-none c =
    let none = c.in-Ok-false.ensures.none (ap (λ b. Ok b) c.in-Ok-false.field-0-test) in
    ap (λ (s : Situation). s.node.answers c.args.port) none.0.same ∙ none.1

pub returns-in-Ok-false-clause-others : goal.returns-in-Ok-false-clause-others
returns-in-Ok-false-clause-others c = λ other n.
    let none = c.in-Ok-false.ensures.none (ap (λ b. Ok b) c.in-Ok-false.field-0-test) in
    ap (λ (s : Situation). s.node.answers other) none.0.same ∙ c.loop-fault.invariant.others other n

pub returns-in-Err-clause-until : goal.returns-in-Err-clause-until
returns-in-Err-clause-until c = works_until _ _ _ _ c.loop-fault.invariant.works (fails_until (Answered c.args.port c.in-Err.ensures.failed.0) _ _ _ c.in-Err.ensures.failed.1)
