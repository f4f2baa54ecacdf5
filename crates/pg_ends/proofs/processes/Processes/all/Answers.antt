use Rattle.std.proofs.Common.{◌+◌, [], ◌∷◌, ◌++◌, sym, ◌∙◌}
use Rattle.pg_ends.specs.Numbers.{pid_of}
use Rattle.pg_ends.proofs.Listed.{first_more, none_first}
use Rattle.pg_ends.proofs.processes.Processes.all.Goals as goal

pub loop-before-init : goal.loop-before-init
loop-before-init c = c.new-pids.ensures.items ∙ none_first c.args.self.now.node

pub loop-before-preserved : goal.loop-before-preserved
loop-before-preserved c =
    c.in_ok-push.ensures.items
    ∙ (λ i. c.loop-before.invariant i ++ record (pid_of c.args.self.now.node (c.loop-before.before + 1)) { node = c.in_ok-copy.ensures i } ∷ [])
    ∙ sym (first_more c.args.self.now.node c.loop-before.before)
