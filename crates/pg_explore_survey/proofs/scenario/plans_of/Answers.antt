use Rattle.std.proofs.Common.{◌≡◌, ◌++◌, ◌∷◌, [], List, sym, ap, subst, ◌∙◌, length, append_assoc}
use Rattle.std.proofs.lemmas.List.{append-nil, nil_from_length}
use Rattle.pg_explore.specs.declared.plan.Plan.{Plan}
use Rattle.pg_script.specs.declared.script.ScriptLine.{ScriptLine}
use Rattle.pg_explore_survey.specs.Scenarios.{AddPlans, ArePlans, planned_act}
use Rattle.pg_explore_tally.proofs.Walking.{slice_left}
use Rattle.pg_explore_survey.proofs.Planning.{plans_more}
use Rattle.pg_explore_survey.proofs.scenario.plans_of.Goals as goal

pub loop-line-init : goal.loop-line-init
loop-line-init c = record { len = c.in_ok-plans.ensures.len; plans = c.in_ok-plans.ensures.none; rest = c.into_iter-line-iterator.ensures.into_iter_gives.0 }

pub loop-line-preserved : goal.loop-line-preserved
loop-line-preserved c =
    let old = c.loop-line.plans in
    let new = c.add.new.plans in
    let next = c.in-Some.ensures.steps.0 in
    let adds = subst (λ (xs : List Plan). AddPlans (λ place. planned_act place c.in-Some.line.act) xs new) c.as_mut_slice.ensures.value c.in_ok-add.ensures in
    let left = slice_left old.len new old.items old.ok.0 adds.len in
    record {
      len = ap length left ∙ adds.len ∙ c.loop-line.invariant.len;
      plans = subst (λ (xs : List Plan). ArePlans (c.loop-line.yielded ++ c.in-Some.line ∷ []) xs) (sym left) (plans_more c.loop-line.yielded c.in-Some.line old.items new c.loop-line.invariant.plans adds);
      rest = append_assoc c.loop-line.yielded (c.in-Some.line ∷ []) c.next.new.self.rest.items ∙ ap (λ (xs : List ScriptLine). c.loop-line.yielded ++ xs) (sym next) ∙ c.loop-line.invariant.rest;
    }

pub returns-clause-len : goal.returns-clause-len
returns-clause-len c = c.loop-line.invariant.len

pub returns-clause-plans : goal.returns-clause-plans
returns-clause-plans c =
    let rest = c.loop-line.line-iterator.rest in
    let none : rest.items ≡ [] = nil_from_length rest.items (sym rest.ok.0 ∙ c.in-None.ensures.steps.0) in
    subst (λ (xs : List ScriptLine). ArePlans xs c.loop-line.plans.items)
    (sym (append-nil c.loop-line.yielded) ∙ ap (λ (xs : List ScriptLine). c.loop-line.yielded ++ xs) (sym none) ∙ c.loop-line.invariant.rest) c.loop-line.invariant.plans
