-- The texts that are counted at ends.
use Rattle.std.specs.Prelude.{◌≡◌, ℕ, ◌-◌, ◌++◌, List, [], ◌∷◌, false, cond, nat_eq, nat_lt, codes, encode_utf8_all}
use Rattle.std.specs.Prelude.{fold, length, map, slice_get, string_bytes, IsPermutation, Option, Some, None}
use Rattle.std.specs.Global.{Vec}
use Rattle.std.specs.List.{count_by, flat_map, range_with_len}
use Rattle.std.specs.Option.{option_map_or}
use Rattle.std.specs.Str.{bytes_eq}
use Rattle.pg_term.specs.declared.term.Term.{Term}
use Rattle.pg_script.specs.PgText.Writing.{term_text}
use Rattle.pg_script.specs.PgStep.declared.answer.Answer.{Answer}
use Rattle.pg_script.specs.PgScriptLines.Printing.{reply_text}
use Rattle.pg_script.specs.PgLaws.History as history
use Rattle.pg_script.specs.PgWorldPackets.FrameWorlds.{traffic_of, view_of}
use Rattle.pg_script.specs.PgWorldConfig.Seen.{Seen}
use Rattle.pg_explore.specs.declared.explored.Met.{Met}
use Rattle.pg_explore_tally.specs.declared.counts.Counted.{Counted}
use Rattle.pg_explore_tally.specs.declared.report.Section.{Section}
use Rattle.pg_explore_tally.specs.Counts.{AreOnce, IsDescending, times}
use Rattle.pg_explore_survey.specs.declared.pen.Pen.{Pen}
use Rattle.pg_explore_survey.specs.declared.scenario.Scenario.{Scenario}

-- ---- a pen

-- the bytes so far
abbrev pub written : Pen → List ℕ
written pen = string_bytes pen.out

-- a pen has written these bytes then, where memory was never short
abbrev pub EndsAs : List ℕ → Pen → Pen → Type 0
EndsAs text old new = new.is_short ≡ false → (old.is_short ≡ false) × (written new ≡ text)

-- it wrote these at its end
abbrev pub Writes : List ℕ → Pen → Pen → Type 0
Writes text old new = EndsAs (written old ++ text) old new

-- ---- the lines of commands

-- the line of a place; empty where there is none
abbrev pub line_at : Scenario → ℕ → List ℕ
line_at scenario place = option_map_or (λ line. line.now) (slice_get scenario.lines.items place) []

-- the places of the lines of a node's commands
abbrev pub places_of : Scenario → ℕ → List ℕ
places_of scenario node = option_map_or (λ (places : Vec ℕ). places.items) (slice_get scenario.commands.items node) []

-- the line of a command of a node, by its place among them
abbrev pub command_at : Scenario → ℕ → ℕ → List ℕ
command_at scenario node place = option_map_or (λ line. line_at scenario line) (slice_get (places_of scenario node) place) []

-- by its number, from 1 on
abbrev pub line_of_command : Scenario → ℕ → ℕ → List ℕ
line_of_command scenario node number = command_at scenario node (number - 1)

-- ---- histories

-- one more line, after a comma where some are there
abbrev pub with_line : List ℕ → List ℕ → List ℕ
with_line [] line = line
with_line (code ∷ text) line = (code ∷ text) ++ (codes ", " ++ line)

abbrev pub with_entry : Scenario → List ℕ → history.Entry → List ℕ
with_entry scenario text entry = with_line text (line_of_command scenario entry.node entry.op.number)

abbrev pub or_nothing : List ℕ → List ℕ
or_nothing [] = codes "nothing"
or_nothing (code ∷ text) = code ∷ text

-- the lines of the commands in a group's history
abbrev pub history_text : Scenario → Term → Met → List ℕ
history_text scenario group met = or_nothing (fold (with_entry scenario) [] ((view_of met.moment.world).account.histories group))

abbrev pub history_title : Term → List ℕ
history_title group = codes "ends by the history of " ++ encode_utf8_all (term_text group)

-- ---- answers

-- the answers that a node gave at its one port
abbrev pub answers_in : Seen → List Answer
answers_in node = cond (nat_lt 0 node.ports) (node.answers 0) []

abbrev pub answers_at : List Seen → ℕ → List Answer
answers_at nodes node = option_map_or answers_in (slice_get nodes node) []

-- the answer to a command, by its number from 0 on
abbrev pub answer_to : ℕ → List Answer → Option Answer
answer_to place [] = None
answer_to place (answer ∷ answers) = cond (nat_eq (answer.number - 1) place) (Some answer) (answer_to place answers)

abbrev pub told_text : Option Answer → List ℕ
told_text None = codes "not answered"
told_text (Some answer) = encode_utf8_all (reply_text answer.reply)

-- what a command of a node was answered
abbrev pub answer_text : ℕ → ℕ → Met → List ℕ
answer_text node place met = told_text (answer_to place (answers_at (traffic_of met.moment.world).nodes node))

abbrev pub answer_title : Scenario → ℕ → ℕ → List ℕ
answer_title scenario node place = codes "ends by the answer to " ++ command_at scenario node place

-- ---- sections

-- the text of an end
abbrev pub text_at : (Met → List ℕ) → List Met → ℕ → List (List ℕ)
text_at text mets place = option_map_or (λ met. text met ∷ []) (slice_get mets place) []

-- those of some ends
abbrev pub texts_at : (Met → List ℕ) → List Met → List ℕ → List (List ℕ)
texts_at text mets ends = flat_map (text_at text mets) ends

-- each of some texts has one row, with how often it is there
pub record AreCounted (texts : List (List ℕ)) (rows : List Counted) : Type 0 where
  pub times : (text : List ℕ) → times rows text ≡ count_by (λ other. bytes_eq other text) texts
  pub once : AreOnce rows

-- a section: its title, and some texts
pub record Counting : Type 0 where
  pub title : List ℕ
  pub texts : List (List ℕ)

-- it says how often each text is there, the most frequent first
pub record IsSection (counting : Counting) (section : Section) : Type 0 where
  pub title : string_bytes section.title ≡ counting.title
  pub rows : List Counted
  pub counted : AreCounted counting.texts rows
  pub shuffled : IsPermutation rows section.rows.items
  pub order : IsDescending section.rows.items

abbrev pub AreSections : List Counting → List Section → Type 0
AreSections [] [] = Unit {0}
AreSections [] (section ∷ sections) = ⊥
AreSections (counting ∷ countings) [] = ⊥
AreSections (counting ∷ countings) (section ∷ sections) = IsSection counting section × AreSections countings sections

-- ---- how the code keeps it

-- more texts are counted
abbrev pub AddTexts : List (List ℕ) → List Counted → List Counted → Type 0
AddTexts more old new = (texts : List (List ℕ)) → AreCounted texts old → AreCounted (texts ++ more) new

-- more sections stand after those that are there
abbrev pub AddSections : List Counting → List Section → List Section → Type 0
AddSections more old new = (countings : List Counting) → AreSections countings old → AreSections (countings ++ more) new

-- ---- what is counted

-- the histories of a group at ends
abbrev pub history_counting : Scenario → List Met → List ℕ → Term → Counting
history_counting scenario mets ends group = record { title = history_title group; texts = texts_at (history_text scenario group) mets ends }

-- the answers to a command at ends
abbrev pub answer_counting : Scenario → List Met → List ℕ → ℕ → ℕ → Counting
answer_counting scenario mets ends node place = record { title = answer_title scenario node place; texts = texts_at (answer_text node place) mets ends }

-- the answers to the commands of a node
abbrev pub answer_countings : Scenario → List Met → List ℕ → ℕ → List Counting
answer_countings scenario mets ends node = map (answer_counting scenario mets ends node) (range_with_len 0 (length (places_of scenario node)))

-- the histories of groups, and the answers to the commands of each node
abbrev pub countings_of : Scenario → List Met → List ℕ → List Term → List Counting
countings_of scenario mets ends groups =
    map (history_counting scenario mets ends) groups ++ flat_map (answer_countings scenario mets ends) (range_with_len 0 (length scenario.commands.items))
