use Rattle.std.proofs.Common.{List, sym, subst}
use Rattle.std.specs.Global.{Vec}
use Rattle.std.specs.Prelude.{ℕ, ◌+◌}
use Rattle.pg_explore_survey.specs.Scenarios.{AreCommands}
use Rattle.pg_explore_survey.proofs.Planning.{commands_more}
use Rattle.pg_explore_survey.proofs.scenario.commands_of.Goals as goal

pub loop-place-preserved : goal.loop-place-preserved
loop-place-preserved c =
    subst (λ (xs : List (Vec ℕ)). AreCommands c.args.lines.now (c.loop-place.place + 1) xs) (sym c.in_ok-push.ensures.items)
    (commands_more c.args.lines.now c.loop-place.place c.loop-place.commands.items c.in_ok-lines.lines c.loop-place.invariant c.in_ok-lines.ensures)
