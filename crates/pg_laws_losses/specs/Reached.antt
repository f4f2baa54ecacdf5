-- The worlds that nodes come to which can be lost.
use Rattle.std.specs.Prelude.{ℕ, Bool, not, ◌&&◌, length, List, [], ◌∷◌}
use Rattle.pg_laws.specs.PgStep.Machines.Losing.{LosingEvent, LosingLeads, Lose, Step, nobody_gone}
use Rattle.pg_laws.specs.PgStep.Machines.Machine.{Event, start_of}
use Rattle.pg_laws.specs.PgStep.Machines.Places.{is_place}
use Rattle.pg_laws.specs.PgStep.Config.{Config}
use Rattle.pg_laws.specs.PgStep.FrameMachine.{FrameWorld, last_notice, losing_frame_machine}
use Rattle.pg_laws.specs.PgStep.LossLaws.{LosingFrameWorld}
use Rattle.pg_laws.specs.PgStep.Step.{Action}

-- these events lead the nodes of the configuration from their start to the world
abbrev pub LosingReaches : Config → List (LosingEvent Action) → LosingFrameWorld → Type 0
LosingReaches config events w = LosingLeads (losing_frame_machine config) last_notice (nobody_gone (start_of (losing_frame_machine config))) events w

-- the steps among events
abbrev pub steps_of : List (LosingEvent Action) → List (Event Action)
steps_of [] = []
steps_of (Step e ∷ es) = e ∷ steps_of es
steps_of (Lose node keep ∷ es) = steps_of es

-- the nodes without their clocks, and what they reported, with nothing on the way
abbrev pub nodes_of : LosingFrameWorld → FrameWorld
nodes_of w = record { node = λ i. (w.world.node i).state; wire = λ x y. []; reported = w.world.reported }

-- a node of the configuration that is not lost
abbrev pub lives_in : Config → LosingFrameWorld → ℕ → Bool
lives_in config w i = is_place (length config) i && not (w.gone i)
