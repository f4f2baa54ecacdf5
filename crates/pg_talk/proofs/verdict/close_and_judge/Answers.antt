use Rattle.std.proofs.Common.{◌≡◌, true, map, subst}
use mathlib.Core.Logic.{∥∥₁_map}
use Rattle.pg_cluster.specs.PgClusterJudges.Closed.{IsOneRun, IsReplayed}
use Rattle.pg_cluster.specs.PgClusterJudges.Judges.{Agree}
use Rattle.pg_cluster.specs.PgClusterJudges.Schedule.{IsLosingSchedule}
use Rattle.pg_cluster.specs.PgWorldPackets.Openings.{CanBegin}
use Rattle.pg_cluster.specs.Running.{config_in}
use Rattle.pg_cluster.specs.PgClusterJudges.Survivors.{SurvivorsAgree}
use Rattle.pg_cluster.specs.PgClusterJudges.Together.{AreOneLosingRun}
use Rattle.pg_talk.proofs.Judging.{told_by_losses, told_so}
use Rattle.pg_talk.proofs.verdict.close_and_judge.Goals as goal

pub returns : goal.returns
returns g c =
    let config = config_in c.args.running in
    let given = config.starts.items in
    let closed = c.in-Ok.closed in
    let logs = map (λ v. v.items) closed.logs.items in
    let one_run = rw c.in-Ok.is at c.close-closed.ensures.one_run in
    let agree = rw c.in-Ok.is at c.close-closed.ensures.agree in
    let heard = rw c.in-Ok.is at c.close-closed.ensures.heard in
    let lost = rw c.in-Ok.is at c.close-closed.ensures.lost in
    let survivors = rw c.in-Ok.is at c.close-closed.ensures.survivors in
    let order = rw c.in-Ok.is at c.close-closed.ensures.order in
    let losing_run = rw c.in-Ok.is at c.close-closed.ensures.losing_run in
    let told = c.in_ok-agree.ensures in
    let replay = rw c.close-closed.ensures.config at c.in_ok-replay.ensures.losing_run in
    let replays = rw c.close-closed.ensures.config at c.in_ok-replay.ensures.replays in
    let is : c.in_ok-replay.field-0 ≡ true =
    told_so (CanBegin config.ring given) c.in_ok-replay.field-0 c.close-closed.ensures.can (λ can. replay can losing_run) in
    let replayed : IsReplayed given closed = replays is in record {
      nodes = closed.nodes.items;
      logs = closed.logs.items;
      schedule = replayed.steps;
      made = c.close-closed.ensures.made;
      heard = heard;
      steps = subst (λ marks. IsLosingSchedule logs marks replayed.steps) lost (record { order = closed.order.items; merges = order; is = replayed.are });
      one_run = λ nobody. ∥∥₁_map (one_run nobody) (λ (run : IsOneRun given closed). run replayed.steps replayed.are);
      losing_run = subst (λ marks. ∥ AreOneLosingRun given marks closed.nodes.items replayed.steps ∥₁) lost (losing_run replayed.steps replayed.are);
      agreed = agree;
      survivors_agreed = subst (λ marks. ∥ SurvivorsAgree closed.nodes.items marks closed.logs.items ∥₁) lost survivors;
      agree = told_by_losses (Agree closed.nodes.items closed.logs.items) (SurvivorsAgree closed.nodes.items closed.lost.items closed.logs.items) closed.lost.items c.in_ok-agree.field-0
          (rw lost agree) survivors (λ nobody holds. (told.nobody nobody).1 holds) (λ some holds. (told.some some).1 holds);
      replay = is;
      replays = replayed.replays;
    }
