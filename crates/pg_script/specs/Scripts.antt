-- Scripts: what their lines say, one after another.
use Rattle.std.specs.Prelude.{◌≡◌, ◌+◌, ℕ, zero, suc, List, [], ◌∷◌, ◌++◌, length, Bool, true, ◌==◌, Option}
use Rattle.std.specs.Prelude.{Some, None, is_some, option_map, unwrap_or, Result, Ok, Err, if◌then◌else◌}
use Rattle.std.specs.BTreeMap.{BTreeMap, get}
use Rattle.std.specs.List.{slice_split}
use Rattle.pg_term.specs.declared.pid.Pid.{Pid}
use Rattle.pg_term.specs.declared.term.Term.{Term}
use Rattle.pg_term.specs.Same.{same_atom, atom_cmp}
use Rattle.pg_script_trace.specs.PgStep.declared.start.Start.{Start}
use Rattle.pg_script_trace.specs.PgWorldPackets.declared.step.FrameStep.TheVariants as events
use Rattle.pg_script_trace.specs.PgWorld.declared.step.Step.TheVariants as steps
use Rattle.pg_script_trace.specs.PgScriptLines.declared.line.Line.{Line}
use Rattle.pg_script_trace.specs.PgScriptLines.declared.line.Line.TheVariants.{Ring, Node, Has, Pair, At, Settle, History}
use Rattle.pg_script_trace.specs.PgScriptLines.declared.line.PairForm.{PairForm}
use Rattle.pg_script_trace.specs.PgScriptLines.declared.line.PairForm.TheVariants as pair
use Rattle.pg_script_trace.specs.PgScriptLines.declared.line.NodeForm.{NodeForm}
use Rattle.pg_script_trace.specs.PgScriptLines.declared.line.NodeForm.TheVariants as node
use Rattle.pg_script_trace.specs.PgScriptLines.Forms.{line_of}
use Rattle.pg_script.specs.declared.act.Act.{Act}
use Rattle.pg_script.specs.declared.act.Act.TheVariants as act
use Rattle.pg_script.specs.declared.fault.LineFault.{LineFault}
use Rattle.pg_script.specs.declared.fault.LineFault.TheVariants.{BadLine, UnknownNode, LateDeclaration, BadConfig}
use Rattle.pg_script.specs.declared.fault.ScriptFault.{ScriptFault}
use Rattle.pg_script.specs.declared.reading.Reading.{Reading}
use Rattle.pg_script.specs.declared.reading.TheConstants.{DEFAULT_RING}
use Rattle.pg_script.specs.declared.script.Script.{Script}
use Rattle.pg_script.specs.declared.script.ScriptLine.{ScriptLine}

-- ---- what a line does that is no declaration, where nodes stand by their places

abbrev pub pair_act : ℕ → ℕ → PairForm → Act
pair_act first second (pair.Put max) = act.Step (steps.Put first second max)
pair_act first second (pair.Pull max) = act.Step (steps.Pull first second max)
pair_act first second pair.Take = act.Step (steps.Event (events.Take first second))
pair_act first second pair.SeeLoss = act.Step (steps.Event (events.SeeLoss first second))
pair_act first second pair.Outbox = act.Outbox first second

-- each node has the one port 0
abbrev pub node_act : ℕ → NodeForm → Act
node_act place (node.Command command) = act.Step (steps.Event (events.Command place 0 command))
node_act place (node.Retry number) = act.Step (steps.Event (events.Retry place (record { port = 0; number = number })))
node_act place (node.Lock group) = act.Lock place group
node_act place node.Lose = act.Step (steps.Lose place)

-- ---- what the lines so far say

pub record Draft : Type 0 where
  -- the capacity of each ring, where a line names it
  pub ring : Option ℕ
  pub starts : List Start
  pub lines : List ScriptLine

abbrev pub Said : Type 0
Said = Result Draft LineFault

-- the place of the node of this name
abbrev pub place_of : List ℕ → List Start → Option ℕ
place_of name [] = None
place_of name (start ∷ starts) = if same_atom name start.name then Some 0 else option_map suc (place_of name starts)

-- two nodes apart from each other
abbrev pub apart : Option ℕ → Option ℕ → Option (ℕ × ℕ)
apart None second = None
apart (Some first) None = None
apart (Some first) (Some second) = if first == second then None else Some (first, second)

abbrev pub places_of_pair : List ℕ → List ℕ → List Start → Option (ℕ × ℕ)
places_of_pair first second starts = apart (place_of first starts) (place_of second starts)

-- nodes that were declared
abbrev pub if_known : {A : Type 0} → Option A → (A → Said) → Said
if_known None next = Err UnknownNode
if_known (Some x) next = next x

-- a declaration stands above all other lines
abbrev pub declared : Draft → Said → Said
declared draft said = if length draft.lines == 0 then said else Err LateDeclaration

-- ---- declarations

-- `ring`, once
abbrev pub ring_said : Draft → ℕ → Said
ring_said draft capacity = if is_some draft.ring then Err BadLine else declared draft (Ok (record { ring = Some capacity; starts = draft.starts; lines = draft.lines }))

-- a node as it is declared: of one port, and with no group yet
abbrev pub declared_start : List ℕ → ℕ → Start
declared_start name made = record { name = name; made = made; ports = 1; groups = [] }

abbrev pub with_start : Draft → Start → Draft
with_start draft start = record { ring = draft.ring; starts = draft.starts ++ start ∷ []; lines = draft.lines }

-- `node`, once for each name
abbrev pub node_said : Draft → List ℕ → ℕ → Said
node_said draft name made = declared draft (if is_some (place_of name draft.starts) then Err BadConfig else Ok (with_start draft (declared_start name made)))

-- a node with one group more
abbrev pub with_group : Term → List Pid → Start → Start
with_group group members start = record { name = start.name; made = start.made; ports = start.ports; groups = start.groups ++ (group, members) ∷ [] }

-- what stands at a place is changed
abbrev pub change_at : {A : Type 0} → ℕ → (A → A) → List A → List A
change_at place change [] = []
change_at zero change (x ∷ xs) = change x ∷ xs
change_at (suc place) change (x ∷ xs) = x ∷ change_at place change xs

abbrev pub with_group_at : Draft → Term → List Pid → ℕ → Draft
with_group_at draft group members place = record { ring = draft.ring; starts = change_at place (with_group group members) draft.starts; lines = draft.lines }

-- `has`
abbrev pub has_said : Draft → List ℕ → Term → List Pid → Said
has_said draft name group members = declared draft (if_known (place_of name draft.starts) (λ place. Ok (with_group_at draft group members place)))

-- ---- lines

-- a line that is no declaration
abbrev pub act_said : Draft → ℕ → Act → Said
act_said draft number act = Ok (record { ring = draft.ring; starts = draft.starts; lines = draft.lines ++ record { number = number; act = act } ∷ [] })

abbrev pub line_said : Draft → ℕ → Line → Said
line_said draft number (Ring capacity) = ring_said draft capacity
line_said draft number (Node name made) = node_said draft name made
line_said draft number (Has name group members) = has_said draft name group members
line_said draft number (Pair first second form) = if_known (places_of_pair first second draft.starts) (λ places. act_said draft number (pair_act places.0 places.1 form))
line_said draft number (At name form) = if_known (place_of name draft.starts) (λ place. act_said draft number (node_act place form))
line_said draft number (Settle rounds) = act_said draft number (act.Settle rounds)
line_said draft number (History group) = act_said draft number (act.History group)

-- an empty line, or one that begins with `%`
abbrev pub is_skipped : List ℕ → Bool
is_skipped [] = true
is_skipped (b ∷ bs) = b == 37

-- a line that has a form
abbrev pub draft_said : Draft → ℕ → Option Line → Said
draft_said draft number None = Err BadLine
draft_said draft number (Some line) = line_said draft number line

-- the line of this number
abbrev pub text_said : Draft → ℕ → List ℕ → Said
text_said draft number text = if is_skipped text then Ok draft else draft_said draft number (line_of text)

-- ---- whole scripts

-- the first fault is told with the number of its line
abbrev pub goes_on : ℕ → Said → (Draft → Result Draft ScriptFault) → Result Draft ScriptFault
goes_on number (Err fault) next = Err (record { line = number; fault = fault })
goes_on number (Ok draft) next = next draft

-- lines, from this number on
abbrev pub lines_said : Draft → ℕ → List (List ℕ) → Result Draft ScriptFault
lines_said draft number [] = Ok draft
lines_said draft number (text ∷ texts) = goes_on number (text_said draft number text) (λ new. lines_said new (number + 1) texts)

-- line feeds end lines; behind the last one stands one more line, which may be empty
abbrev pub lines_in : List ℕ → List (List ℕ)
lines_in text = slice_split (λ b. b == 10) text

-- what a script holds
pub record Contents : Type 0 where
  pub ring : ℕ
  pub starts : List Start
  pub lines : List ScriptLine

abbrev pub contents_of : Script → Contents
contents_of script = record { ring = script.config.ring; starts = script.config.starts.items; lines = script.lines.items }

abbrev pub finished : Result Draft ScriptFault → Result Contents ScriptFault
finished (Err fault) = Err fault
finished (Ok draft) = Ok (record { ring = unwrap_or draft.ring DEFAULT_RING; starts = draft.starts; lines = draft.lines })

-- what a text says, or its first faulty line, from 1, with its first fault
abbrev pub script_of : List ℕ → Result Contents ScriptFault
script_of text = finished (lines_said (record { ring = None; starts = []; lines = [] }) 1 (lines_in text))

-- ---- how the code keeps it

abbrev pub draft_of : Reading → Draft
draft_of reading = record { ring = reading.ring; starts = reading.starts.items; lines = reading.lines.items }

-- the place of each node by its name
abbrev pub HavePlaces : BTreeMap (List ℕ) ℕ → List Start → Type 0
HavePlaces places starts = (name : List ℕ) → get atom_cmp places name ≡ place_of name starts

abbrev pub IsPlaced : Reading → Type 0
IsPlaced reading = HavePlaces reading.places reading.starts.items

abbrev pub lines_of_rest : Option (List ℕ) → List (List ℕ)
lines_of_rest None = []
lines_of_rest (Some rest) = lines_in rest
