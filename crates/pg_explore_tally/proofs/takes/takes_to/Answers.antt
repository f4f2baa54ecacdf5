use Rattle.std.proofs.Common.{Ok, List, Option, ap, sym, subst, ◌∙◌}
use Rattle.pg_explore_tally.specs.declared.takes.Takes.{Takes}
use Rattle.pg_explore_tally.specs.Takes.{AreTakes}
use Rattle.pg_explore_tally.proofs.Walking.{are_takes, slice_left}
use Rattle.pg_explore_tally.proofs.takes.takes_to.Goals as goal

pub returns-then-not-branch : goal.returns-then-not-branch
returns-then-not-branch c =
    let old = c.loop.takes in
    subst (λ (xs : List (Option Takes)). AreTakes c.args.worlds.now xs) (sym (slice_left old.len c.pass.new.takes old.items old.ok.0 (c.in_ok-pass.ensures.kept.len ∙ sym c.loop.invariant.len)))
    (are_takes c.args.worlds.now c.pass.new.takes c.in_ok-pass.ensures.kept (c.in_ok-pass.ensures.closed (ap Ok c.if-not-branch.true)))
