use Rattle.std.proofs.Common.{◌<◌, ℕ, Bool, subst, sym}
use Rattle.pg_process.specs.Takings.{TakesOne}
use Rattle.pg_process.proofs.Chained.{work_rests, works_on, works_until}
use Rattle.pg_process.proofs.Looping.{fewer_left, none_rests, stops_until, took_setting, took_works}
use Rattle.pg_process.proofs.Situated.{same_peers}
use Rattle.pg_process.proofs.process.Process.take_all.Goals as goal

pub loop-fault-smaller : goal.loop-fault-smaller
loop-fault-smaller c =
    let took = subst (λ (taken : Bool). TakesOne c.args.peer taken c.loop-fault.self c.take_next.new.self) c.in-Ok-true.field-0-test c.in-Ok-true.ensures.made in
    fewer_left c.args.peer c.loop-fault.self c.take_next.new.self took

pub loop-fault-preserved : goal.loop-fault-preserved
loop-fault-preserved c =
    let took = subst (λ (taken : Bool). TakesOne c.args.peer taken c.loop-fault.self c.take_next.new.self) c.in-Ok-true.field-0-test c.in-Ok-true.ensures.made in record {
      works = works_on _ _ _ c.loop-fault.invariant.works (took_works c.args.peer _ _ took);
      there = subst (λ (n : ℕ). c.args.peer < n) (sym (same_peers c.loop-fault.self c.take_next.new.self (took_setting c.args.peer _ _ took))) c.loop-fault.invariant.there;
    }

pub returns-in-Ok-false-clause-works : goal.returns-in-Ok-false-clause-works
returns-in-Ok-false-clause-works c =
    let none = subst (λ (taken : Bool). TakesOne c.args.peer taken c.loop-fault.self c.take_next.new.self) c.in-Ok-false.field-0-test c.in-Ok-false.ensures.made in
    works_on _ _ _ c.loop-fault.invariant.works (work_rests _ _ none.0)

pub returns-in-Ok-false-clause-none : goal.returns-in-Ok-false-clause-none
returns-in-Ok-false-clause-none c =
    let none = subst (λ (taken : Bool). TakesOne c.args.peer taken c.loop-fault.self c.take_next.new.self) c.in-Ok-false.field-0-test c.in-Ok-false.ensures.made in
    none_rests c.args.peer c.loop-fault.self c.take_next.new.self none.0 none.1

pub returns-in-Err-clause-until : goal.returns-in-Err-clause-until
returns-in-Err-clause-until c = works_until _ _ _ _ c.loop-fault.invariant.works (stops_until c.args.peer _ _ _ c.in-Err.ensures.failed)
