-- Words for what nodes have in common, where nodes are lost.
use Rattle.std.specs.Prelude.{◌≡◌, ◌⊎◌, ℕ, true, length}
use Rattle.pg_term.specs.declared.pid.Pid.{Pid}
use Rattle.pg_laws.specs.PgStep.Machines.Places.{is_place}
use Rattle.pg_laws.specs.PgStep.Config.{Config, name_at}
use Rattle.pg_laws.specs.PgStep.LossLaws.{LosingFrameWorld}
use Rattle.pg_laws.specs.WithLosses.{has_seen}

-- the process is of a node where it has ended, or whose loss node i has seen
abbrev pub EndedHome : Config → LosingFrameWorld → ℕ → Pid → Type 0
EndedHome config w i pid = (home : ℕ) × (is_place (length config) home ≡ true) × (pid.node ≡ name_at config home)
    × (((w.world.node home).state.ended pid ≡ true) ⊎ (has_seen config w i home ≡ true))

-- node i has seen the loss of each node that is lost
abbrev pub SawAll : Config → LosingFrameWorld → ℕ → Type 0
SawAll config w i = (p : ℕ) → is_place (length config) p ≡ true → w.gone p ≡ true → has_seen config w i p ≡ true
