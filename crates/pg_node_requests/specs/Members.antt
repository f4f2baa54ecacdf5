-- What nodes know as they start, by the text of one term: a list of {Node, Made, [{Name, [Pid, ..]}, ..]}.
use Rattle.std.specs.Prelude.{◌≡◌, ◌<◌, ◌+◌, ◌++◌, ℕ, suc, Bool, true, false, ◌&&◌, nat_eq, List, [], ◌∷◌}
use Rattle.std.specs.Prelude.{Option, Some, None, chars, codes, decimal, get_or, length, map, set, if◌then◌else◌}
use Rattle.std.specs.Option.{option_map, option_and_then}
use Rattle.pg_term.specs.declared.pid.Pid.{Pid}
use Rattle.pg_term.specs.declared.term.Term.{Term}
use Rattle.pg_term.specs.Same.{same_atom}
use Rattle.pg_step.specs.PgMessageTypes.Parts.{atom_of, elements_of, items_of, pid_of}
use Rattle.pg_step.specs.PgMessageTypes.Reading.{read_each}
use Rattle.pg_step.specs.declared.start.Start.{Start}
use Rattle.pg_text.specs.Reading.{term_of}
use Rattle.pg_node_requests.specs.Requests.{number_of}

-- the name of the node of this number: `n1`, `n2` and so on
abbrev pub node_name : ℕ → List ℕ
node_name number = chars (codes "n" ++ decimal number)

-- names that are numbered from 1 on
abbrev pub AreNumbered : List (List ℕ) → Type 0
AreNumbered names = (i : ℕ) (none : List ℕ) → i < length names → get_or names i none ≡ node_name (i + 1)

abbrev pub Group : Type 0
Group = Term × List Pid

-- [Pid, ..]
abbrev pub pids_of : Term → Option (List Pid)
pids_of term = option_and_then (read_each pid_of) (items_of term)

-- {Name, [Pid, ..]}
abbrev pub group_in : List Term → Option Group
group_in (name ∷ members ∷ []) = option_map (λ pids. (name, pids)) (pids_of members)
group_in _ = None

abbrev pub group_of : Term → Option Group
group_of term = option_and_then group_in (elements_of term)

-- [{Name, [Pid, ..]}, ..]
abbrev pub groups_of : Term → Option (List Group)
groups_of term = option_and_then (read_each group_of) (items_of term)

abbrev pub starting : ℕ → Option (List ℕ) → Option ℕ → Option (List Group) → Option Start
starting ports (Some name) (Some made) (Some groups) = Some (record { name = name; made = made; ports = ports; groups = groups })
starting ports name made groups = None

-- {Node, Made, [{Name, [Pid, ..]}, ..]}
abbrev pub node_in : ℕ → List Term → Option Start
node_in ports (name ∷ made ∷ groups ∷ []) = starting ports (atom_of name) (number_of 32 made) (groups_of groups)
node_in ports _ = None

abbrev pub node_of : ℕ → Term → Option Start
node_of ports term = option_and_then (node_in ports) (elements_of term)

-- a node of which nothing is told: it made no process and knows no group
abbrev pub bare : ℕ → List ℕ → Start
bare ports name = record { name = name; made = 0; ports = ports; groups = [] }

abbrev pub has_none : List Group → Bool
has_none [] = true
has_none (group ∷ groups) = false

abbrev pub is_bare : Start → Bool
is_bare start = nat_eq start.made 0 && has_none start.groups

-- the place of the node of this name
abbrev pub place_among : List ℕ → List Start → Option ℕ
place_among name [] = None
place_among name (start ∷ starts) = if same_atom name start.name then Some 0 else option_map suc (place_among name starts)

-- what is told takes the place of the node of its name, of which nothing was told
abbrev pub put_at : List Start → Start → ℕ → Option (List Start)
put_at starts told place = if is_bare (get_or starts place told) then Some (set starts place told) else None

abbrev pub put_told : List Start → Start → Option (List Start)
put_told starts told = option_and_then (put_at starts told) (place_among told.name starts)

-- all that is told, one after another
abbrev pub told_all : ℕ → List Start → List Term → Option (List Start)
told_all ports starts [] = Some starts
told_all ports starts (term ∷ terms) = option_and_then (λ told. option_and_then (λ starts. told_all ports starts terms) (put_told starts told)) (node_of ports term)

-- nodes with these names, each with so many ports, by what a term tells
abbrev pub starts_by : List (List ℕ) → ℕ → Term → Option (List Start)
starts_by names ports term = option_and_then (told_all ports (map (bare ports) names)) (items_of term)

-- by what a text tells
abbrev pub starts_said : List (List ℕ) → ℕ → List ℕ → Option (List Start)
starts_said names ports text = option_and_then (starts_by names ports) (term_of text)
