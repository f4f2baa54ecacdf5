-- A loss among nodes with clocks.
use Rattle.std.proofs.Common.{◌≡◌, List, [], ◌∷◌, Option, Some, None, refl}
use Rattle.pg_laws.specs.PgGroup.Functions.{upd}
use Rattle.pg_laws.specs.PgStep.Machines.Machine.{Take, Do, happens}
use Rattle.pg_laws.specs.PgStep.Machines.Losing.{LosingEvent, Step, Lose, losing_happens}
use Rattle.pg_laws.specs.PgStep.declared.command.Command.TheVariants as command
use Rattle.pg_laws.specs.PgStep.FrameMachine.{losing_frame_machine, last_notice}
use Rattle.pg_laws.specs.PgStep.Step.{Action}
use Rattle.pg_laws_examples.specs.Examples.{at, two_nodes}
use Rattle.pg_laws_examples.specs.LossExamples.{TimedLosing, timed_start, sees, LossWithClocks}

abbrev come : TimedLosing → LosingEvent Action → Option TimedLosing
come w e = losing_happens (losing_frame_machine two_nodes) last_notice w e

abbrev reached : Option TimedLosing → TimedLosing
reached (Some w) = w
reached None = timed_start

world_1 : TimedLosing
unfolding losing_happens happens upd
world_1 = reached (come timed_start (Step (at 0 command.Make)))

world_2 : TimedLosing
unfolding losing_happens happens upd
world_2 = reached (come world_1 (Step (at 0 command.Make)))

world_3 : TimedLosing
unfolding losing_happens happens upd
world_3 = reached (come world_2 (Lose 0 (λ y. 1)))

world_4 : TimedLosing
unfolding losing_happens happens upd
world_4 = reached (come world_3 (Step (Take 1 0)))

world_5 : TimedLosing
unfolding losing_happens happens upd
world_5 = reached (come world_4 (sees 1 0))

pub outcome : LossWithClocks
unfolding losing_happens happens upd world_1 world_2 world_3 world_4 world_5
outcome = record {
  lost = world_3;
  drained = world_4;
  seen = world_5;
  first = (world_1, refl, (world_2, refl, (world_3, refl, refl)));
  clock_a = refl;
  second = (world_4, refl, refl);
  third = (world_5, refl, refl);
  clock_b = refl;
  lost_b = refl;
  own = refl;
  not_lost = refl;
  lost_itself = refl;
  not_drained = refl;
  not_drained_first = refl;
  clock_full = refl;
  last_clock = refl;
  none = refl;
  seen_already = refl;
  no_place = refl;
  too_many = refl;
  lost_already = refl;
}
