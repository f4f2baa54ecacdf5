use Rattle.std.proofs.Common.{◌≡◌, List, [], ◌++◌, sym, ap, subst, ◌∙◌}
use Rattle.std.specs.List.{filter}
use Rattle.std.specs.List.Sorted.{IsStrictlySortedBy}
use Rattle.std.proofs.lemmas.List.{append-nil, nil_from_length}
use Rattle.pg_term.specs.declared.pid.Pid.{Pid}
use Rattle.pg_term.specs.Same.{pid_cmp}
use Rattle.pg_ends.specs.Numbers.{is_among}
use Rattle.pg_ends.proofs.Listed.{AreNumbered, singles_so}
use Rattle.pg_ends.proofs.processes.Processes.singles.Goals as goal

pub returns : goal.returns
returns c =
    let own = c.args.self.now.node in
    let made = c.args.self.now.made in
    let law = c.numbered_from_one.ensures in
    let numbered : AreNumbered own = record { number = law.number own; made = law.made own; first = law.first; last = law.last; only = law.only } in
    let sorted = subst (IsStrictlySortedBy pid_cmp) c.in_ok-singles.ensures.pids c.in_ok-singles.ensures.ordered in
    let left = c.loop-pid.pid-iterator.rest in
    let none : left.items ≡ [] = nil_from_length left.items (sym left.ok.0 ∙ c.in-None.ensures.steps.0) in
    sym (append-nil c.loop-pid.pids.items)
    ∙ ap (λ (rest : List Pid). c.loop-pid.pids.items ++ filter (is_among made) rest) (sym none)
    ∙ c.loop-pid.invariant
    ∙ singles_so own numbered c.args.ended.now c.requires sorted made
