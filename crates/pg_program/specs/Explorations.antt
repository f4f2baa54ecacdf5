-- How an exploration ends.
use Rattle.std.specs.Prelude.{◌≡◌, ◌≢◌, ◌⊎◌, ◌↔◌, ◌<◌, ◌≤◌, ℕ, zero, suc, List, length, max, nat_lt, is_some, Bool}
use Rattle.std.specs.Prelude.{true, false, IsTrue, Option, Some, None, Result, Ok, Err, string_bytes, if◌then◌else◌}
use Rattle.std.specs.Io.KnownBytes.{Appends}
use Rattle.std.specs.Str.{is_utf8}
use Rattle.pg_cluster.specs.PgWorldConfig.Faults.{world_number_of}
use Rattle.pg_cluster.specs.PgWorldConfig.declared.fault.WorldFault.TheVariants.{OutOfMemory}
use Rattle.pg_explore.specs.declared.fault.ExploreFault.{ExploreFault}
use Rattle.pg_explore.specs.declared.fault.ExploreFault.TheVariants as explore
use Rattle.pg_explore.specs.declared.plan.Plan.{Plan}
use Rattle.pg_explore.specs.Explorations.{AreUnlike, AreFollowed, AreReached}
use Rattle.pg_explore.specs.Ways.{AreWays}
use Rattle.pg_script.specs.Scripts.{Contents}
use Rattle.pg_explore_survey.specs.declared.findings.Findings.{Findings}
use Rattle.pg_explore_survey.specs.Findings.{IsCounted, IsPage, IsWhereMarked, end_numbered, end_places, differing_marks, led_in, met_in}
use Rattle.pg_explore_survey.specs.Scenarios.{IsScenarioOf, scenario_of}
use Rattle.pg_program.specs.declared.fault.Fault.{Fault}
use Rattle.pg_program.specs.declared.fault.Fault.TheVariants.{Run, Given, Line}
use Rattle.pg_program.specs.declared.words.Quest.{Quest}
use Rattle.pg_program.specs.Inputs.{NotRead, Said, told_fault}
use Rattle.pg_program.specs.Limits.{max_script_len}
use Rattle.pg_program.specs.Scripts.{IsRefused, NotWritten}

-- ---- what is explored

-- what bytes say: they are no text, or a text that is a scenario or none
abbrev pub bytes_planned : List ℕ → Said
bytes_planned bytes = if is_utf8 bytes then told_fault (scenario_of bytes) else Err (Given 40)

-- what an input says: it is too long, or its bytes say it
abbrev pub input_planned : List ℕ → Said
input_planned input = if nat_lt max_script_len (length input) then Err (Given 11) else bytes_planned input

-- this is said of some input
abbrev pub IsPlanned : (List ℕ → Type 0) → Said → Type 0
IsPlanned is_input said = (input : List ℕ) × is_input input × (input_planned input ≡ said)

-- ---- what is found

abbrev pub plans_in : Findings → List Plan
plans_in found = found.scenario.now.plans.items

-- Worlds are found of what an input says: some, and no more than the limit; each is reached, no two are alike, and each step from those that were explored is followed. Fewer
-- than all are explored only where the limit was met. The ways from these are the steps that happen there, and what is counted is counted of these worlds and ways.
pub record AreFound (contents : Contents) (quest : Quest) (found : Findings) : Type 0 where
  pub scenario : IsScenarioOf contents found.scenario.now
  pub first : 0 < length (met_in found)
  pub few : length (met_in found) ≤ max 1 quest.limit
  pub reached : AreReached contents.starts (plans_in found) quest.retries (met_in found)
  pub distinct : AreUnlike (met_in found)
  pub followed : AreFollowed (plans_in found) quest.retries (met_in found) found.explored.lent
  pub cut : found.explored.lent < length (met_in found) → quest.limit ≤ length (met_in found)
  pub ways : AreWays (plans_in found) quest.retries (met_in found) found.explored.lent (led_in found)
  pub counted : IsCounted found

-- ---- what is asked

-- what is asked for is there: what was counted is; a run to an end where there are so many ends; a run in which nodes differ where some do
abbrev pub HasWhatIsAsked : ℕ → Bool → Findings → Bool → Type 0
HasWhatIsAsked zero false found there = there ≡ true
HasWhatIsAsked zero true found there = IsWhereMarked (differing_marks found) there
HasWhatIsAsked (suc number) differing found there = there ≡ is_some (end_numbered (end_places found) (suc number))

-- a text of what was counted is its page; of the text of a run nothing is said
abbrev pub IsAskedText : ℕ → Bool → Findings → List ℕ → Type 0
IsAskedText zero false found text = IsPage found text
IsAskedText zero true found text = Unit {0}
IsAskedText (suc number) differing found text = Unit {0}

-- a text where what is asked for is there; None: it is not
abbrev pub IsAnswer : ℕ → Bool → Findings → Option (List ℕ) → Type 0
IsAnswer show differing found None = HasWhatIsAsked show differing found false
IsAnswer show differing found (Some text) = HasWhatIsAsked show differing found true × IsAskedText show differing found text

-- such a text was printed and flushed, and it is told whether all worlds were explored
pub record WasShown (quest : Quest) (found : Findings) (flushed : Type 0) (before after : Option (List ℕ)) (whole : Bool) : Type 0 where
  pub text : List ℕ
  pub answer : IsAnswer quest.show quest.is_differing found (Some text)
  pub appends : Appends before after text
  pub end : flushed
  pub all : IsTrue whole ↔ (length (met_in found) ≤ found.explored.lent)

-- by 16, what is asked for is not there; by 11, there are too many worlds for a picture
abbrev pub NotThere : Quest → Findings → ℕ → Type 0
NotThere quest found number = ((number ≡ 16) × IsAnswer quest.show quest.is_differing found None) ⊎ ((number ≡ 11) × (60 < length (met_in found)))

-- what becomes of what was found
abbrev pub Shown : Quest → Findings → Type 0 → Type 0 → Type 0 → Option (List ℕ) → Option (List ℕ) → Result Bool Fault → Type 0
Shown quest found unchanged unwritten flushed before after (Ok whole) = WasShown quest found flushed before after whole
Shown quest found unchanged unwritten flushed before after (Err (Run number)) = NotWritten unwritten number
Shown quest found unchanged unwritten flushed before after (Err (Given number)) = NotThere quest found number × unchanged
Shown quest found unchanged unwritten flushed before after (Err (Line line number)) = ⊥

-- worlds were found, and so it ended
pub record WasExplored (contents : Contents) (quest : Quest) (unchanged unwritten flushed : Type 0) (before after : Option (List ℕ)) (end : Result Bool Fault) : Type 0 where
  pub found : Findings
  pub are : AreFound contents quest found
  pub shown : Shown quest found unchanged unwritten flushed before after end

-- the configuration was refused, and nothing was written
abbrev pub WasRefused : Contents → Type 0 → Result Bool Fault → Type 0
WasRefused contents unchanged (Err (Given number)) = IsRefused contents number × unchanged
WasRefused contents unchanged end = ⊥

-- ---- how it ends

-- what an input says was explored, or its configuration was refused; or it says nothing, which is told, and nothing was written
abbrev pub SaidEnd : Said → Quest → Type 0 → Type 0 → Type 0 → Option (List ℕ) → Option (List ℕ) → Result Bool Fault → Type 0
SaidEnd (Ok contents) quest unchanged unwritten flushed before after end = WasExplored contents quest unchanged unwritten flushed before after end ⊎ WasRefused contents unchanged end
SaidEnd (Err fault) quest unchanged unwritten flushed before after end = (end ≡ Err fault) × unchanged

-- or there was no memory
abbrev pub PlannedEnd : Said → Quest → Type 0 → Type 0 → Type 0 → Option (List ℕ) → Option (List ℕ) → Result Bool Fault → Type 0
PlannedEnd said quest unchanged unwritten flushed before after end = (end ≡ Err (Run 10)) ⊎ SaidEnd said quest unchanged unwritten flushed before after end

-- the input was not read, and nothing was written
abbrev pub IsUnheard : Type 0 → Type 0 → Result Bool Fault → Type 0
IsUnheard unread unchanged (Err (Run number)) = NotRead unread number × unchanged
IsUnheard unread unchanged end = ⊥

-- How `explore` ends: the input was not read; or it was read, and what it says came to this end.
abbrev pub ExploreEnd : (List ℕ → Type 0) → Type 0 → Quest → Type 0 → Type 0 → Type 0 → Option (List ℕ) → Option (List ℕ) → Result Bool Fault → Type 0
ExploreEnd is_input unread quest unchanged unwritten flushed before after end =
    IsUnheard unread unchanged end ⊎ ((said : Said) × IsPlanned is_input said × PlannedEnd said quest unchanged unwritten flushed before after end)

-- `explore` was asked for so, and ended so
pub record WasAsked (IsExplore : Quest → Type 0) (Ends : Quest → Result Bool Fault → Type 0) (end : Result Bool Fault) : Type 0 where
  pub quest : Quest
  pub asked : IsExplore quest
  pub ends : Ends quest end

-- ---- faults

-- a fault of an exploration is told so
abbrev pub WhyNot : ExploreFault → Fault → Type 0
WhyNot (explore.World fault) (Run number) = number ≡ 10
WhyNot (explore.World fault) (Given number) = (fault ≢ OutOfMemory) × (number ≡ world_number_of fault)
WhyNot (explore.World fault) (Line line number) = ⊥
WhyNot explore.OutOfMemory (Run number) = number ≡ 10
WhyNot explore.OutOfMemory (Given number) = ⊥
WhyNot explore.OutOfMemory (Line line number) = ⊥

-- a picture was not drawn: there was no memory, a write failed, or there are too many worlds
abbrev pub NotPictured : Type 0 → ℕ → Fault → Type 0
NotPictured unmade worlds (Run number) = NotWritten unmade number
NotPictured unmade worlds (Given number) = (number ≡ 11) × (60 < worlds)
NotPictured unmade worlds (Line line number) = ⊥
