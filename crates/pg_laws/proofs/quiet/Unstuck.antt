-- Nothing is stuck, together.
use Rattle.std.proofs.Common.{◌+◌, ◌≤◌, List, arith}
use Rattle.std.specs.List.{IsDistinct}
use Rattle.pg_term.specs.Same.{same_atom}
use Rattle.pg_step.specs.Machines.Clocked.{plain}
use Rattle.pg_step.specs.Machines.Machine.{Event}
use Rattle.pg_step.specs.Config.{Config, names_of}
use Rattle.pg_step.specs.Step.{Action, CLOCK_LIMIT}
use Rattle.pg_laws.specs.Quiet.{most_takes}
use Rattle.pg_laws.specs.Reached.{Reaches, TimedFrameWorld}
use Rattle.pg_laws.specs.Unstuck.{NothingIsStuck}
use Rattle.pg_laws.proofs.ends.Posts.{posted_timed}
use Rattle.pg_laws.proofs.quiet.Answering.{all_answered}
use Rattle.pg_laws.proofs.quiet.Ending.{comes_to_rest, next_is_taken, takes_end}
use Rattle.pg_laws.proofs.quiet.Rest.{all_formed, no_lock_held, nothing_under_way}
use Rattle.pg_laws.proofs.quiet.Retry.{retry_goes, retry_happens}
use Rattle.pg_laws.proofs.quiet.Runs.{rested_timed}

pub unstuck : (config : Config) → IsDistinct same_atom (names_of config) → (events : List (Event Action)) (w : TimedFrameWorld) → Reaches config events w → NothingIsStuck config w
unstuck config apart events w l = record {
  ends = λ v takes only more. takes_end config apart events w l takes v only more;
  goes_on = λ x y packet rest room pair is. next_is_taken config apart events w l room x y packet rest pair is;
  rests = λ room.
      let all = comes_to_rest config apart events w l 0 (λ i here. let free : (w.node i).clock + most_takes config (plain w) ≤ CLOCK_LIMIT = room i here in omega (arith, free)) in
      (all.takes, all.world, all.only, all.leads, all.quiet);
  formed = λ quiet. all_formed config apart (plain w) (rested_timed config apart events w l) quiet (posted_timed config apart events w l);
  unlocked = λ quiet. no_lock_held config apart (plain w) (rested_timed config apart events w l) quiet;
  waits = λ i quiet here. nothing_under_way config apart (plain w) (rested_timed config apart events w l) quiet i here;
  tried = λ i op quiet here opened room. retry_happens config apart i here events w l quiet op opened room;
  retried = λ v takes i op quiet here opened room only more. retry_goes config apart i here events w l quiet op opened room takes only v more;
  answers = λ room. let all = all_answered config apart events w l room in (all.more, all.world, all.only, all.leads, all.none_open, all.quiet);
}
