-- Moments of runs, as they are seen.
use Rattle.std.specs.Prelude.{◌≡◌, ℕ, ◌+◌, ◌-◌, zero, suc, map, length, replicate, List, [], ◌∷◌, ◌++◌}
use Rattle.pg_world_packets.specs.PgStep.Config.{Config}
use Rattle.pg_world_packets.specs.Alike.{AreAlikeWorlds}
use Rattle.pg_world_packets.specs.FrameWorlds.{view_of, lost_of, given_of}
use Rattle.pg_world_packets.specs.Starts.{Begins}
use Rattle.pg_world_packets.specs.Views.{View}
use Rattle.pg_explore.specs.declared.moment.Moment.{Moment}
use Rattle.pg_explore.specs.declared.moves.Move.{Move}
use Rattle.pg_explore.specs.declared.moves.Move.TheVariants.{Take, Next, Loss, Retry, SeeLoss}
use Rattle.pg_explore.specs.declared.strand.Strand.{Strand}

-- how far the plan of a node has come: how much of it, and how often each command that came in was tried again, by their numbers
pub record Progress : Type 0 where
  pub come : ℕ
  pub retries : List ℕ

abbrev pub progress_of : Strand → Progress
progress_of strand = record { come = strand.come; retries = strand.retries.items }

-- nothing came in
abbrev pub no_progress : Progress
no_progress = record { come = 0; retries = [] }

-- a moment as it is seen: its world, the nodes that are lost there, and how far the plans have come, by the places of the nodes
pub record Sight : Type 0 where
  pub view : View
  pub lost : List ℕ
  pub progress : List Progress

abbrev pub sight_of : Moment → Sight
sight_of moment = record { view = view_of moment.world; lost = lost_of moment.world; progress = map progress_of moment.strands.items }

-- the same but for clocks and stamps
pub record AreAlike (one other : Sight) : Type 0 where
  pub worlds : AreAlikeWorlds one.view one.lost other.view other.lost
  pub progress : one.progress ≡ other.progress

-- the moment is one of a configuration: its world began there, and there is a plan for each node
pub record IsMomentOf (config : Config) (moment : Moment) : Type 0 where
  pub given : given_of moment.world ≡ config
  pub size : length moment.strands.items ≡ length config

-- there is a plan for each node
abbrev pub IsSized : Moment → Type 0
IsSized moment = length moment.strands.items ≡ length (given_of moment.world)

-- the configuration as it begins, where no node is lost and nothing came in
pub record IsFirst (config : Config) (sight : Sight) : Type 0 where
  pub begins : Begins config sight.view
  pub lost : sight.lost ≡ []
  pub progress : sight.progress ≡ replicate (length config) no_progress

-- ---- what a step makes of the progress

-- what stands at a place is changed
abbrev pub change_at : {A : Type 0} → ℕ → (A → A) → List A → List A
change_at place change [] = []
change_at zero change (x ∷ xs) = change x ∷ xs
change_at (suc place) change (x ∷ xs) = x ∷ change_at place change xs

-- a command came in
abbrev pub with_command : Progress → Progress
with_command progress = record { come = progress.come + 1; retries = progress.retries ++ 0 ∷ [] }

-- something else did
abbrev pub with_loss : Progress → Progress
with_loss progress = record { come = progress.come + 1; retries = progress.retries }

-- a command of this number, from 1 on, was tried again
abbrev pub with_retry : ℕ → Progress → Progress
with_retry number progress = record { come = progress.come; retries = change_at (number - 1) (λ made. made + 1) progress.retries }

abbrev pub progress_after : Move → List Progress → List Progress
progress_after (Take i p) progress = progress
progress_after (Next i) progress = change_at i with_command progress
progress_after (Loss i keep) progress = change_at i with_loss progress
progress_after (Retry i op) progress = change_at i (with_retry op.number) progress
progress_after (SeeLoss i p) progress = progress
