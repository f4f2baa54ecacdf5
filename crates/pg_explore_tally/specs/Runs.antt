-- Runs through marked worlds.
use Rattle.std.specs.Prelude.{◌≡◌, ◌≤◌, ℕ, ◌+◌, Bool, true, false, cond, nat_le, ◌&&◌}
use Rattle.std.specs.Prelude.{length, get_or, slice_get, List, [], ◌∷◌, Option, Some, None}
use Rattle.std.proofs.Math.ListN.{set}
use Rattle.std.specs.Global.{Vec}
use Rattle.pg_explore_tally.specs.declared.runs.Run.{Run}
use Rattle.pg_explore_tally.specs.declared.streaks.Hop.{Hop}
use Rattle.pg_explore_tally.specs.declared.streaks.Streak.{Streak}
use Rattle.pg_explore_tally.specs.declared.ways.Way.{Way}
use Rattle.pg_explore_tally.specs.Walks.{ways_at}

abbrev pub IsMarked : List Bool → ℕ → Type 0
IsMarked marks place = get_or marks place false ≡ true

-- a way leads from a world to another
pub record HopLeads (worlds : List (Vec Way)) (hop : Hop) (to : ℕ) : Type 0 where
  pub way : Way
  pub is : slice_get (ways_at worlds hop.place) hop.way ≡ Some way
  pub place : way.place ≡ to

-- Ways, one after another, from a marked world through marked worlds.
abbrev pub IsRun : List (Vec Way) → List Bool → ℕ → List Hop → Type 0
IsRun worlds marks place [] = IsMarked marks place
IsRun worlds marks place (hop ∷ hops) = IsMarked marks place × (hop.place ≡ place) × ((to : ℕ) × HopLeads worlds hop to × IsRun worlds marks to hops)

-- a run that is as long as each other; None: no world is marked
abbrev pub IsLongest : List (Vec Way) → List Bool → Option Run → Type 0
IsLongest worlds marks None = (place : ℕ) → IsMarked marks place → ⊥
IsLongest worlds marks (Some run) = IsRun worlds marks run.first run.hops.items
    × ((place : ℕ) (hops : List Hop) → IsRun worlds marks place hops → length hops ≤ length run.hops.items)

-- ---- how the code keeps it

abbrev pub no_streak : Streak
no_streak = record { len = 0; before = None }

abbrev pub streak_of : List Streak → ℕ → Streak
streak_of streaks place = get_or streaks place no_streak

abbrev pub len_at : List Streak → ℕ → ℕ
len_at streaks place = (streak_of streaks place).len

-- a world by itself
abbrev pub alone_of : Bool → Streak
alone_of mark = record { len = cond mark 1 0; before = None }

-- a longer run was found, by a way to this place
abbrev pub is_longer : List Streak → Hop → ℕ → Bool
is_longer streaks hop reached = nat_le 1 (len_at streaks reached) && nat_le (len_at streaks reached) (len_at streaks hop.place)

-- a way is followed
abbrev pub followed : List Streak → Hop → ℕ → List Streak
followed streaks hop reached = cond (is_longer streaks hop reached) (set streaks reached (record { len = len_at streaks hop.place + 1; before = Some hop })) streaks

-- the run that ends with a world comes there from no longer one, if from any
abbrev pub IsBefore : List (Vec Way) → List Bool → List Streak → ℕ → ℕ → Option Hop → Type 0
IsBefore worlds marks streaks place len None = len ≤ 1
IsBefore worlds marks streaks place len (Some hop) = IsMarked marks hop.place × HopLeads worlds hop place × (len ≤ len_at streaks hop.place + 1)

-- what is known of the run that ends with a world
pub record IsStreak (worlds : List (Vec Way)) (marks : List Bool) (streaks : List Streak) (place : ℕ) : Type 0 where
  pub some : IsMarked marks place → 1 ≤ len_at streaks place
  pub none : get_or marks place false ≡ false → len_at streaks place ≡ 0
  pub before : IsBefore worlds marks streaks place (len_at streaks place) (streak_of streaks place).before

abbrev pub AreStreaks : List (Vec Way) → List Bool → List Streak → Type 0
AreStreaks worlds marks streaks = (place : ℕ) → IsStreak worlds marks streaks place

-- no longer run comes to a world by a way from another
abbrev pub IsPassed : List Streak → ℕ → ℕ → Type 0
IsPassed streaks from to = 1 ≤ len_at streaks from → 1 ≤ len_at streaks to → len_at streaks from + 1 ≤ len_at streaks to

-- by none of the ways from a place
abbrev pub IsSettledAt : List (Vec Way) → List Streak → ℕ → Type 0
IsSettledAt worlds streaks place = (number to : ℕ) → HopLeads worlds (record { place = place; way = number }) to → IsPassed streaks place to

abbrev pub AreSettled : List (Vec Way) → List Streak → Type 0
AreSettled worlds streaks = (place : ℕ) → IsSettledAt worlds streaks place

-- none is longer
abbrev pub IsGreatest : List Streak → ℕ → Type 0
IsGreatest streaks found = (place : ℕ) → len_at streaks place ≤ len_at streaks found

-- a run leads through so many worlds
pub record IsRunTo (worlds : List (Vec Way)) (marks : List Bool) (first : ℕ) (hops : List Hop) (count : ℕ) : Type 0 where
  pub run : IsRun worlds marks first hops
  pub len : length hops + 1 ≡ count
