-- What a survey finds.
use Rattle.std.specs.Prelude.{◌≡◌, ◌↔◌, ◌<◌, ◌≤◌, ℕ, zero, suc, ◌+◌, List, [], ◌∷◌, ◌++◌, Bool, true, false}
use Rattle.std.specs.Prelude.{IsTrue, cond, length, get_or, map, nat_eq, slice_get, Option, Some, None}
use Rattle.std.specs.List.{Contains, count_by}
use Rattle.std.specs.Global.{Vec}
use Rattle.std.specs.Option.{option_map_or}
use Rattle.pg_script.specs.PgScriptDiagram.declared.graph.Graph.{Graph}
use Rattle.pg_script.specs.PgScriptDiagram.declared.graph.Link.{Link}
use Rattle.pg_script.specs.PgScriptDiagram.declared.graph.LinkKind.{LinkKind}
use Rattle.pg_script.specs.PgScriptDiagram.declared.graph.LinkKind.TheVariants as kinds
use Rattle.pg_script.specs.PgScriptDiagram.declared.graph.Spot.{Spot}
use Rattle.pg_explore.specs.declared.explored.Met.{Met}
use Rattle.pg_explore.specs.declared.moment.Moment.{Moment}
use Rattle.pg_explore.specs.declared.moves.Move.{Move}
use Rattle.pg_explore.specs.declared.moves.Move.TheVariants.{Take, Next, Loss, Retry, SeeLoss}
use Rattle.pg_explore.specs.declared.visitor.Led.{Led}
use Rattle.pg_explore.specs.Explorations.{met_of}
use Rattle.pg_explore_tally.specs.declared.report.Report.{Report}
use Rattle.pg_explore_tally.specs.declared.takes.Takes.{Takes}
use Rattle.pg_explore_tally.specs.declared.ways.Way.{Way}
use Rattle.pg_explore_tally.specs.Pages.{page_of}
use Rattle.pg_explore_tally.specs.Takes.{IsTaken, IsInBounds, widened_to}
use Rattle.pg_explore_tally.specs.Walks.{IsWalk, takes_of}
use Rattle.pg_term.specs.declared.term.Term.{Term}
use Rattle.pg_script.specs.PgWorldPackets.FrameWorlds.{lost_of, traffic_of}
use Rattle.pg_script.specs.PgWorldConfig.Seen.{Seen}
use Rattle.pg_explore_survey.specs.declared.findings.Findings.{Findings}
use Rattle.pg_explore_survey.specs.Names.{AddsNames, changed_in, known_in}
use Rattle.pg_explore_survey.specs.Differing.{Differ, DifferFree, SeesOne, Decides}
use Rattle.pg_explore_survey.specs.Texts.{AreSections, Counting, countings_of}
use Rattle.pg_explore_survey.specs.Ways.{AreWaysOf, all_led}

-- ---- what was met

abbrev pub met_in : Findings → List Met
met_in found = met_of found.explored

-- the ways from each world that was lent
abbrev pub ways_in : Findings → List (Vec Way)
ways_in found = found.ways.ways.items

-- the steps that happen there, and where they lead
abbrev pub led_in : Findings → List (List Led)
led_in found = all_led found.ways.led.items

-- the places of the ends
abbrev pub end_places : Findings → List ℕ
end_places found = found.tally.ends.items

-- of each world, whether two formed nodes differ
abbrev pub differing_marks : Findings → List Bool
differing_marks found = found.tally.differing.items

-- the places of the worlds from which no way leads, where the first stands at this place
abbrev pub ends_from : ℕ → List (Vec Way) → List ℕ
ends_from place [] = []
ends_from place (ways ∷ worlds) = cond (nat_eq (length ways.items) 0) (place ∷ ends_from (place + 1) worlds) (ends_from (place + 1) worlds)

-- a mark for each world, which says whether a fact holds of it
pub record AreMarks (P : Met → Type 0) (mets : List Met) (marks : List Bool) : Type 0 where
  pub len : length marks ≡ length mets
  pub tell : (place : ℕ) (met : Met) → slice_get mets place ≡ Some met → Decides (P met) (get_or marks place false)

abbrev pub nodes_in : Met → List Seen
nodes_in met = (traffic_of met.moment.world).nodes

abbrev pub lost_in : Met → List ℕ
lost_in met = lost_of met.moment.world

-- as many nodes as there are plans
abbrev pub nodes_planned : Met → ℕ
nodes_planned met = length met.moment.strands.items

-- two nodes that are formed and not lost have not the same of one of some groups
abbrev pub DiffersIn : List Term → Met → Type 0
DiffersIn names met = Differ (nodes_in met) (lost_in met) (nodes_planned met) names

-- so it is of one of which a node sees the lock free, and no end is pending
abbrev pub DiffersFreeIn : List Term → Met → Type 0
DiffersFreeIn names met = DifferFree (nodes_in met) (lost_in met) (nodes_planned met) names

-- a node that is not lost sees the lock of one of them held
abbrev pub HoldsIn : List Term → Met → Type 0
HoldsIn names met = SeesOne (nodes_in met) (lost_in met) true (nodes_planned met) names

-- the groups that are compared
abbrev pub names_in : Findings → List Term
names_in found = found.tally.names.items

-- what is counted of what was met
pub record IsCounted (found : Findings) : Type 0 where
  pub ways : AreWaysOf (led_in found) (ways_in found)
  pub ends : end_places found ≡ ends_from 0 (ways_in found)
  pub groups : AddsNames (changed_in found.scenario.now.plans.items) [] found.tally.groups.items
  pub names : AddsNames (changed_in found.scenario.now.plans.items ++ known_in found.scenario.now.config.starts.items) [] (names_in found)
  pub differing : AreMarks (DiffersIn (names_in found)) (met_in found) (differing_marks found)
  pub free : AreMarks (DiffersFreeIn (names_in found)) (met_in found) found.tally.free.items
  pub held : AreMarks (HoldsIn (names_in found)) (met_in found) found.tally.held.items

-- an end by its number, from 1 on
abbrev pub end_numbered : List ℕ → ℕ → Option ℕ
end_numbered ends zero = None
end_numbered ends (suc number) = slice_get ends number

abbrev pub moment_in : Option Met → Option Moment
moment_in None = None
moment_in (Some met) = Some met.moment

abbrev pub moment_at : List Met → Option ℕ → Option Moment
moment_at mets None = None
moment_at mets (Some place) = moment_in (slice_get mets place)

-- ---- what is printed

-- a walk to one of some places takes just so many packets
pub record IsTakenTo (worlds : List (Vec Way)) (places : List ℕ) (count : ℕ) : Type 0 where
  pub place : ℕ
  pub among : Contains places place
  pub taken : IsTaken worlds place count

pub record IsSpan (worlds : List (Vec Way)) (places : List ℕ) (takes : Takes) : Type 0 where
  pub fewest : IsTakenTo worlds places takes.fewest
  pub most : IsTakenTo worlds places takes.most
  pub within : (place : ℕ) (ways : List Way) → Contains places place → IsWalk worlds 0 ways place → IsInBounds takes (takes_of ways)

-- the fewest and the most takes on walks from the first world to some places; None: no walk leads to one of them
abbrev pub AreAmong : List (Vec Way) → List ℕ → Option Takes → Type 0
AreAmong worlds places None = (place : ℕ) (ways : List Way) → Contains places place → IsWalk worlds 0 ways place → ⊥
AreAmong worlds places (Some takes) = IsSpan worlds places takes

-- those of one more place, if some are known
abbrev pub joined_takes : Option Takes → Option Takes → Option Takes
joined_takes among None = among
joined_takes among (Some next) = Some (widened_to among next)

-- what is counted at the ends, group by group and command by command
abbrev pub countings_in : Findings → List Counting
countings_in found = countings_of found.scenario.now (met_in found) (end_places found) found.tally.groups.items

-- what a report says
pub record IsReport (found : Findings) (report : Report) : Type 0 where
  pub worlds : report.worlds ≡ length (met_in found)
  pub whole : IsTrue report.is_whole ↔ (length (met_in found) ≤ found.explored.lent)
  pub ends : report.ends ≡ length (end_places found)
  pub takes : AreAmong (ways_in found) (end_places found) report.takes
  pub differing : report.differing ≡ count_by (λ mark. mark) (differing_marks found)
  pub free : report.free ≡ count_by (λ mark. mark) found.tally.free.items
  pub held : report.held ≡ count_by (λ place. get_or found.tally.held.items place false) (end_places found)
  pub sections : AreSections (countings_in found) report.sections.items

-- a text is the page of such a report
pub record IsPage (found : Findings) (text : List ℕ) : Type 0 where
  pub report : Report
  pub says : IsReport found report
  pub is : text ≡ page_of report

-- ---- runs and pictures

-- the colour of a step
abbrev pub link_kind : Move → LinkKind
link_kind (Take i p) = kinds.Take
link_kind (Next i) = kinds.Command
link_kind (Loss i keep) = kinds.Loss
link_kind (Retry i op) = kinds.Retry
link_kind (SeeLoss i p) = kinds.Loss

-- the line of a step from the world of a place
abbrev pub link_line : ℕ → Led → Link
link_line from led = record { from = from; to = led.place; kind = link_kind led.step }

-- those of all worlds, of which the first stands at this place
abbrev pub links_from : ℕ → List (List Led) → List Link
links_from place [] = []
links_from place (row ∷ rows) = map (link_line place) row ++ links_from (place + 1) rows

-- no way leads from the world of a place, which was lent
abbrev pub is_end_at : List (Vec Way) → ℕ → Bool
is_end_at worlds place = option_map_or (λ (ways : Vec Way). nat_eq (length ways.items) 0) (slice_get worlds place) false

-- the spot of a world tells ends, and where two formed nodes differ
pub record IsSpot (found : Findings) (place : ℕ) (spot : Spot) : Type 0 where
  pub end : spot.is_end ≡ is_end_at (ways_in found) place
  pub mark : spot.is_marked ≡ get_or (differing_marks found) place false

-- those of the first worlds, so many
pub record AreSpots (found : Findings) (count : ℕ) (spots : List Spot) : Type 0 where
  pub len : length spots ≡ count
  pub are : (place : ℕ) (spot : Spot) → slice_get spots place ≡ Some spot → IsSpot found place spot

-- it is there just where some world is marked
pub record IsWhereMarked (marks : List Bool) (there : Bool) : Type 0 where
  pub some : there ≡ true → (place : ℕ) × (get_or marks place false ≡ true)
  pub none : there ≡ false → (place : ℕ) → get_or marks place false ≡ true → ⊥

-- up to 60 worlds are drawn, each as a spot, and each step that happens there as a line
abbrev pub IsDrawn : Findings → Option Graph → Type 0
IsDrawn found None = 60 < length (met_in found)
IsDrawn found (Some graph) = (length (met_in found) ≤ 60) × AreSpots found (length (met_in found)) graph.spots.items × (graph.links.items ≡ links_from 0 (led_in found))
