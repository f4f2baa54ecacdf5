-- What holds while moments are lent.
use Rattle.std.proofs.Common.{◌≡◌, ◌<◌, ◌≤◌, ℕ, ◌+◌, max, List, [], ◌∷◌, ◌++◌, length, take, Option, Some}
use Rattle.std.proofs.Common.{None, Bool, true, false, refl, sym, ap, ◌∙◌, subst, arith, append_assoc}
use Rattle.std.proofs.lemmas.List.{append-nil, take_more}
use Rattle.std.specs.Prelude.{slice_get}
use Rattle.pg_world_packets.specs.PgStep.Config.{Config}
use Rattle.pg_explore.specs.declared.explored.Explored.{Explored}
use Rattle.pg_explore.specs.declared.explored.Met.{Met}
use Rattle.pg_explore.specs.declared.plan.Plan.{Plan}
use Rattle.pg_explore.specs.Explorations.{AreFollowed, MeetsMore, ExploredHolds, IsSound, Lends, met_of}
use Rattle.pg_explore.specs.declared.visitor.Led.{Led}
use Rattle.pg_explore.specs.Lent.{AreLent}
use Rattle.pg_explore.specs.Ways.{AreLentWays, AreWays}

pub record Lent (config : Config) (plans : List Plan) (most limit turns : ℕ) (before after : Option (List Met)) (was now : Option (List (List Led))) (explored : Explored) : Type 0 where
  pub holds : IsSound config plans most explored.bins explored.met.items
  pub some : 0 < length explored.met.items
  pub few : length explored.met.items ≤ max 1 limit
  pub turns_are : explored.lent ≡ turns
  pub inside : explored.lent ≤ length explored.met.items
  pub followed : AreFollowed plans most explored.met.items explored.lent
  pub lent : AreLent before after (take explored.lent explored.met.items)
  pub ways : AreLentWays was now (AreWays plans most explored.met.items explored.lent)

pub none_lent : (before : Option (List Met)) (mets : List Met) → AreLent before before (take 0 mets)
none_lent None mets = tt
none_lent (Some xs) mets = ap Some (sym (append-nil xs))
