use Rattle.pg_program.proofs.Exploring.{found_of, was_explored}
use Rattle.pg_program.proofs.explore.explore_scenario.Goals as goal

pub returns-in-Ok : goal.returns-in-Ok
returns-in-Ok g c = λ contents is.
    let found = c.in-Ok.found in
    let known = c.in-Ok.ensures in
    was_explored contents c.args.quest _ _ _ _ _ c.show_found-told.result found (found_of contents c.args.scenario.now c.args.quest found is known.scenario known.reached known.distinct known.first known.few known.followed known.cut known.ways known.counted) c.show_found-told.ensures
