use Rattle.std.proofs.Common.{◌≡◌, Result, Ok, Err, sym, ◌∙◌}
use Rattle.std.specs.Result.{IfOk}
use Rattle.pg_ends.proofs.Listed.{all_so}
use Rattle.pg_ends.proofs.processes.Processes.ended.Goals as goal

if_same : {A B E : Type 0} (of : A → B) (some other : B) → some ≡ other → (result : Result A E) → IfOk result (λ a. of a ≡ some) → IfOk result (λ a. of a ≡ other)
if_same of some other is (Ok a) h = h ∙ is
if_same of some other is (Err e) h = h

pub returns-then-has_node : goal.returns-then-has_node
returns-then-has_node c = if_same (λ pids. pids.items) _ _ (all_so c.args.self.now.node c.args.ended.now (sym c.has_node.ensures ∙ c.if-has_node.true) c.args.self.now.made) c.all.result c.all.ensures
