use Rattle.pg_laws_losses.proofs.Retrying.Everyone.{all_answered}
use Rattle.pg_laws_losses.proofs.retried.laws.every_command_can_be_answered_past_losses.Goals as goal

pub returns : goal.returns
returns c = λ config w events apart l free.
    let all = all_answered config apart events w l free in
    (all.more, all.world, all.only, all.leads, all.none_open, all.quiet)
