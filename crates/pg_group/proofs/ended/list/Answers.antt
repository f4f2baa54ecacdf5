use Rattle.std.proofs.Common.{◌++◌, [], List, map, sym, ap, subst, ◌∙◌}
use Rattle.std.specs.Prelude.{unwrap_or}
use Rattle.std.specs.List.Sorted.{IsStrictlySortedBy}
use Rattle.pg_term.specs.declared.pid.Pid.{Pid}
use Rattle.pg_term.specs.Same.{pid_cmp}
use Rattle.pg_group.specs.Numbers.{pid_at}
use Rattle.pg_group.proofs.EndedNumbers.{listed_in, pids_sorted, none_sorted}
use Rattle.pg_group.proofs.ended.list.Goals as goal

pub returns-in_ok-list-in-Some-clause-pids : goal.returns-in_ok-list-in-Some-clause-pids
returns-in_ok-list-in-Some-clause-pids c =
    c.in_ok-list-in-Some.ensures.pids
    ∙ ap (λ (l : List Pid). l ++ map (pid_at c.args.node.now) c.in-Some.numbers.now) c.new-pids.ensures.items
    ∙ ap (λ o. map (pid_at c.args.node.now) (unwrap_or o [])) c.in-Some.ensures.value
    ∙ listed_in c.args.numbers.now c.len-nodes.ensures.ordered c.args.node.now

pub returns-in_ok-list-in-Some-clause-ordered : goal.returns-in_ok-list-in-Some-clause-ordered
returns-in_ok-list-in-Some-clause-ordered c =
    subst (IsStrictlySortedBy pid_cmp)
    (sym (c.in_ok-list-in-Some.ensures.pids ∙ ap (λ (l : List Pid). l ++ map (pid_at c.args.node.now) c.in-Some.numbers.now) c.new-pids.ensures.items))
    (pids_sorted c.args.node.now c.in-Some.numbers.now c.in_ok-list-in-Some.ensures.ordered)

pub returns-in-None-clause-pids : goal.returns-in-None-clause-pids
returns-in-None-clause-pids c =
    c.new-pids.ensures.items
    ∙ ap (λ o. map (pid_at c.args.node.now) (unwrap_or o [])) c.in-None.ensures.value
    ∙ listed_in c.args.numbers.now c.len-nodes.ensures.ordered c.args.node.now

pub returns-in-None-clause-ordered : goal.returns-in-None-clause-ordered
returns-in-None-clause-ordered c = subst (IsStrictlySortedBy pid_cmp) (sym c.new-pids.ensures.items) none_sorted
