use Rattle.std.proofs.Common.{◌+◌, ◌≤◌, arith}
use Rattle.pg_step.specs.Machines.Clocked.{plain}
use Rattle.pg_step.specs.Step.{CLOCK_LIMIT}
use Rattle.pg_laws.specs.Quiet.{most_takes}
use Rattle.pg_laws.proofs.quiet.Ending.{comes_to_rest, next_is_taken, takes_end}
use Rattle.pg_laws.proofs.laws.a_world_comes_to_rest.Goals as goal

pub returns-clause-ends : goal.returns-clause-ends
returns-clause-ends c = λ config w v events takes apart l only more. takes_end config apart events w l takes v only more

pub returns-clause-goes_on : goal.returns-clause-goes_on
returns-clause-goes_on c = λ config w events x y packet rest apart l room pair is. next_is_taken config apart events w l room x y packet rest pair is

pub returns-clause-rests : goal.returns-clause-rests
returns-clause-rests c = λ config w events apart l room.
    let all = comes_to_rest config apart events w l 0 (λ i here. let free : (w.node i).clock + most_takes config (plain w) ≤ CLOCK_LIMIT = room i here in omega (arith, free)) in
    (all.takes, all.world, all.only, all.leads, all.quiet)
