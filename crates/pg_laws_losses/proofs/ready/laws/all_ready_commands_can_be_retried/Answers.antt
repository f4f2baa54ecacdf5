use Rattle.pg_laws_losses.proofs.Readiness.Rounds.{retried_all}
use Rattle.pg_laws_losses.proofs.ready.laws.all_ready_commands_can_be_retried.Goals as goal

pub returns : goal.returns
returns c = λ config w events room apart l seen free.
    let all = retried_all config apart events w l seen room (λ u. Unit {0}) (λ done u v i op r here lives ready happens kept. tt) free tt in
    (all.retries, all.world, all.only, all.leads, all.each, all.were, all.none, all.left)
