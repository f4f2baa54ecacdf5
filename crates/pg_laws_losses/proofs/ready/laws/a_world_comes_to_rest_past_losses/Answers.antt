use Rattle.pg_laws_losses.proofs.Readiness.Resting.{comes_to_rest, next_is_taken}
use Rattle.pg_laws_losses.proofs.ready.laws.a_world_comes_to_rest_past_losses.Goals as goal

pub returns-clause-goes_on : goal.returns-clause-goes_on
returns-clause-goes_on c = λ config w events x y packet rest apart l room pair lives is. next_is_taken config apart events w l room x y packet rest pair lives is

pub returns-clause-rests : goal.returns-clause-rests
returns-clause-rests c = λ config w events apart l room.
    let all = comes_to_rest config apart events w l room in
    (all.takes, all.world, all.only, all.leads, all.quiet)
