-- The fewest and the most takes on walks.
use Rattle.std.specs.Prelude.{◌≡◌, ◌<◌, ◌≤◌, ℕ, ◌+◌, min, max, length, get_or, List, Option, Some, None}
use Rattle.std.specs.List.{Contains}
use Rattle.std.proofs.Math.ListN.{set}
use Rattle.std.specs.Global.{Vec}
use Rattle.pg_explore_tally.specs.declared.takes.Takes.{Takes}
use Rattle.pg_explore_tally.specs.declared.ways.Way.{Way}
use Rattle.pg_explore_tally.specs.Walks.{IsWalk, takes_of, takes_on, ways_at}

-- a walk from the first world to a place takes just so many packets
pub record IsTaken (worlds : List (Vec Way)) (place count : ℕ) : Type 0 where
  pub ways : List Way
  pub walk : IsWalk worlds 0 ways place
  pub takes : takes_of ways ≡ count

-- some walks to a place take as many packets as the fewest and the most
pub record IsWalked (worlds : List (Vec Way)) (place : ℕ) (takes : Takes) : Type 0 where
  pub fewest : IsTaken worlds place takes.fewest
  pub most : IsTaken worlds place takes.most

-- so many takes lie between the fewest and the most
pub record IsInBounds (takes : Takes) (count : ℕ) : Type 0 where
  pub fewest : takes.fewest ≤ count
  pub most : count ≤ takes.most

-- the fewest and the most takes on walks from the first world to a place; None: no walk leads there
abbrev pub AreTakesTo : List (Vec Way) → ℕ → Option Takes → Type 0
AreTakesTo worlds place None = (ways : List Way) → IsWalk worlds 0 ways place → ⊥
AreTakesTo worlds place (Some takes) = IsWalked worlds place takes × ((ways : List Way) → IsWalk worlds 0 ways place → IsInBounds takes (takes_of ways))

-- those of each world, by its place
pub record AreTakes (worlds : List (Vec Way)) (all : List (Option Takes)) : Type 0 where
  pub len : length all ≡ length worlds
  pub are : (place : ℕ) → AreTakesTo worlds place (get_or all place None)

-- ---- how the code keeps it

-- what it takes to come by a way to where it leads
abbrev pub takes_after : Takes → Way → Takes
takes_after from way = record { fewest = from.fewest + takes_on way; most = from.most + takes_on way }

-- the fewest and the most of both
abbrev pub widened_to : Option Takes → Takes → Takes
widened_to None new = new
widened_to (Some old) new = record { fewest = min old.fewest new.fewest; most = max old.most new.most }

abbrev pub followed_from : List (Option Takes) → Option Takes → Way → List (Option Takes)
followed_from all None way = all
followed_from all (Some from) way = set all way.place (Some (widened_to (get_or all way.place None) (takes_after from way)))

-- a way from a place is followed
abbrev pub followed : List (Option Takes) → ℕ → Way → List (Option Takes)
followed all place way = followed_from all (get_or all place None) way

-- all that is known is walked
abbrev pub AreWalked : List (Vec Way) → List (Option Takes) → Type 0
AreWalked worlds all = (place : ℕ) (takes : Takes) → get_or all place None ≡ Some takes → IsWalked worlds place takes

-- the first world is reached with no take
abbrev pub IsReachedUntaken : Option Takes → Type 0
IsReachedUntaken None = ⊥
IsReachedUntaken (Some takes) = takes.fewest ≡ 0

-- so it is where there is a world
abbrev pub HasFirst : List (Option Takes) → Type 0
HasFirst all = 0 < length all → IsReachedUntaken (get_or all 0 None)

-- what holds all along
pub record AreKept (worlds : List (Vec Way)) (all : List (Option Takes)) : Type 0 where
  pub len : length all ≡ length worlds
  pub walked : AreWalked worlds all
  pub first : HasFirst all

-- what is known of one end of a way holds, with the way, of the other
pub record IsWider (from : Takes) (way : Way) (to : Takes) : Type 0 where
  pub fewest : to.fewest ≤ from.fewest + takes_on way
  pub most : from.most + takes_on way ≤ to.most

abbrev pub AreWider : Option Takes → Way → Option Takes → Type 0
AreWider None way to = Unit {0}
AreWider (Some from) way None = ⊥
AreWider (Some from) way (Some to) = IsWider from way to

abbrev pub IsClosedBy : List (Option Takes) → ℕ → Way → Type 0
IsClosedBy all place way = way.place < length all → AreWider (get_or all place None) way (get_or all way.place None)

-- each way from a place
abbrev pub IsClosedAt : List (Vec Way) → List (Option Takes) → ℕ → Type 0
IsClosedAt worlds all place = (way : Way) → Contains (ways_at worlds place) way → IsClosedBy all place way

-- each way
abbrev pub AreClosed : List (Vec Way) → List (Option Takes) → Type 0
AreClosed worlds all = (place : ℕ) → IsClosedAt worlds all place
