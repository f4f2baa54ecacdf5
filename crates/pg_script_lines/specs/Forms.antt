-- The forms of lines: what a line says, read off its words from left to right.
use Rattle.std.specs.Prelude.{ℕ, List, [], ◌∷◌, codes, nat_le, Option, Some, None, if◌then◌else◌}
use Rattle.std.specs.Str.{bytes_eq, chars}
use Rattle.pg_term.specs.declared.pid.Pid.{Pid}
use Rattle.pg_term.specs.declared.term.Term.{Term}
use Rattle.pg_step.specs.declared.command.Command.{Command}
use Rattle.pg_step.specs.declared.command.Command.TheVariants.{Create, Delete, Join, Leave, Make, Finish}
use Rattle.pg_step.specs.declared.command.Command.TheVariants.{Members, LocalMembers, WhichGroups, Closest}
use Rattle.pg_text.specs.Reading.{atom_from_text, term_of, pid_of, number_of}
use Rattle.pg_script_lines.specs.declared.forms.TheConstants.{MAX_MOVED, MAX_ROUNDS}
use Rattle.pg_script_lines.specs.declared.keyword.Keyword.{Keyword}
use Rattle.pg_script_lines.specs.declared.keyword.Keyword.TheVariants as keyword
use Rattle.pg_script_lines.specs.declared.keyword.PairKeyword.{PairKeyword}
use Rattle.pg_script_lines.specs.declared.keyword.PairKeyword.TheVariants as pair
use Rattle.pg_script_lines.specs.declared.keyword.NodeKeyword.{NodeKeyword}
use Rattle.pg_script_lines.specs.declared.keyword.NodeKeyword.TheVariants as node
use Rattle.pg_script_lines.specs.declared.line.Line.{Line}
use Rattle.pg_script_lines.specs.declared.line.Line.TheVariants as line
use Rattle.pg_script_lines.specs.declared.line.PairForm.{PairForm}
use Rattle.pg_script_lines.specs.declared.line.PairForm.TheVariants as pair_forms
use Rattle.pg_script_lines.specs.declared.line.NodeForm.{NodeForm}
use Rattle.pg_script_lines.specs.declared.line.NodeForm.TheVariants as node_forms
use Rattle.pg_script_lines.specs.declared.words.Stand.TheVariants.{Bare}
use Rattle.pg_script_lines.specs.Keywords.{keyword_of}
use Rattle.pg_script_lines.specs.Words.{quoted_words}

-- what the first of some words say, and the words behind them; nothing where they say no such thing
abbrev pub Worded : Type 0 → Type 0
Worded A = Option (A × List (List ℕ))

-- what is said next
abbrev pub then_said : {A B : Type 0} → Worded A → (A → List (List ℕ) → Worded B) → Worded B
then_said None next = None
then_said (Some x) next = next x.0 x.1

-- the same, seen as something else
abbrev pub said_as : {A B : Type 0} → (A → B) → Worded A → Worded B
said_as make None = None
said_as make (Some x) = Some (make x.0, x.1)

-- a value that has these words behind it
abbrev pub with_rest : {A : Type 0} → List (List ℕ) → Option A → Worded A
with_rest rest None = None
with_rest rest (Some x) = Some (x, rest)

-- ---- single words

-- the first word is read as a value
abbrev pub first_as : {A : Type 0} → (List ℕ → Option A) → List (List ℕ) → Worded A
first_as value [] = None
first_as value (word ∷ words) = with_rest words (value (chars word))

abbrev pub atom_in : List (List ℕ) → Worded (List ℕ)
atom_in = first_as atom_from_text

abbrev pub term_in : List (List ℕ) → Worded Term
term_in = first_as term_of

abbrev pub pid_in : List (List ℕ) → Worded Pid
pid_in = first_as pid_of

abbrev pub number_in : List (List ℕ) → Worded ℕ
number_in = first_as number_of

-- `[N]`: a number, or this one where no word is left
abbrev pub number_or : ℕ → List (List ℕ) → Worded ℕ
number_or default [] = Some (default, [])
number_or default (word ∷ words) = with_rest words (number_of (chars word))

abbrev pub keyword_in : List (List ℕ) → Worded Keyword
keyword_in [] = None
keyword_in (word ∷ words) = with_rest words (keyword_of word)

-- `[PID ..]`: pids up to the end
abbrev pub pids_in : List (List ℕ) → Worded (List Pid)
pids_in [] = Some ([], [])
pids_in (word ∷ words) = then_said (with_rest words (pid_of (chars word))) (λ pid rest. said_as (λ pids. pid ∷ pids) (pids_in words))

-- `[made N]`
abbrev pub made_in : List (List ℕ) → Worded ℕ
made_in [] = Some (0, [])
made_in (word ∷ words) = if bytes_eq word (codes "made") then number_in words else None

-- ---- behind the keyword

-- `NODE [made N]`
abbrev pub node_line : List (List ℕ) → Worded Line
node_line words = then_said (atom_in words) (λ name rest. said_as (line.Node name) (made_in rest))

-- `NODE TERM [PID ..]`
abbrev pub has_line : List (List ℕ) → Worded Line
has_line words = then_said (atom_in words) (λ node rest. then_said (term_in rest) (λ group behind. said_as (line.Has node group) (pids_in behind)))

-- so many rounds, where they are not too many
abbrev pub rounds_within : ℕ → List (List ℕ) → Worded Line
rounds_within rounds rest = if nat_le rounds MAX_ROUNDS then Some (line.Settle rounds, rest) else None

-- `[N]`
abbrev pub settle_line : List (List ℕ) → Worded Line
settle_line words = then_said (number_or MAX_ROUNDS words) rounds_within

-- behind the nodes of a line about two: `[N]` or nothing
abbrev pub pair_form : PairKeyword → List (List ℕ) → Worded PairForm
pair_form pair.Put words = said_as pair_forms.Put (number_or MAX_MOVED words)
pair_form pair.Pull words = said_as pair_forms.Pull (number_or MAX_MOVED words)
pair_form pair.Take words = Some (pair_forms.Take, words)
pair_form pair.Outbox words = Some (pair_forms.Outbox, words)
pair_form pair.SeeLoss words = Some (pair_forms.SeeLoss, words)

-- `NODE NODE`, and what its keyword asks for
abbrev pub pair_line : PairKeyword → List (List ℕ) → Worded Line
pair_line keyword words =
    then_said (atom_in words) (λ first rest. then_said (atom_in rest) (λ second behind. said_as (line.Pair first second) (pair_form keyword behind)))

-- `TERM PID`
abbrev pub member_in : (Term → Pid → Command) → List (List ℕ) → Worded Command
member_in change words = then_said (term_in words) (λ group rest. said_as (change group) (pid_in rest))

-- `TERM N`
abbrev pub choice_in : List (List ℕ) → Worded Command
choice_in words = then_said (term_in words) (λ group rest. said_as (Closest group) (number_in rest))

-- behind the node of a line about one
abbrev pub node_form : NodeKeyword → List (List ℕ) → Worded NodeForm
node_form node.Create words = said_as (λ group. node_forms.Command (Create group)) (term_in words)
node_form node.Delete words = said_as (λ group. node_forms.Command (Delete group)) (term_in words)
node_form node.Join words = said_as node_forms.Command (member_in Join words)
node_form node.Leave words = said_as node_forms.Command (member_in Leave words)
node_form node.Make words = Some (node_forms.Command Make, words)
node_form node.End words = said_as (λ pid. node_forms.Command (Finish pid)) (pid_in words)
node_form node.Members words = said_as (λ group. node_forms.Command (Members group)) (term_in words)
node_form node.Local words = said_as (λ group. node_forms.Command (LocalMembers group)) (term_in words)
node_form node.Groups words = Some (node_forms.Command WhichGroups, words)
node_form node.Closest words = said_as node_forms.Command (choice_in words)
node_form node.Retry words = said_as node_forms.Retry (number_in words)
node_form node.Lock words = said_as node_forms.Lock (term_in words)
node_form node.Lose words = Some (node_forms.Lose, words)

-- `NODE`, and what its keyword asks for
abbrev pub at_line : NodeKeyword → List (List ℕ) → Worded Line
at_line keyword words = then_said (atom_in words) (λ node rest. said_as (line.At node) (node_form keyword rest))

-- ---- whole lines

abbrev pub line_with : Keyword → List (List ℕ) → Worded Line
line_with keyword.Ring words = said_as line.Ring (number_in words)
line_with keyword.Node words = node_line words
line_with keyword.Has words = has_line words
line_with keyword.Settle words = settle_line words
line_with keyword.History words = said_as line.History (term_in words)
line_with (keyword.Pair keyword) words = pair_line keyword words
line_with (keyword.At keyword) words = at_line keyword words

abbrev pub line_in : List (List ℕ) → Worded Line
line_in words = then_said (keyword_in words) line_with

-- no word is left
abbrev pub whole : {A : Type 0} → Worded A → Option A
whole None = None
whole (Some (x, [])) = Some x
whole (Some (x, word ∷ words)) = None

-- what a line says that is not empty and no comment, where it has a form
abbrev pub line_of : List ℕ → Option Line
line_of text = whole (line_in (quoted_words Bare text))
