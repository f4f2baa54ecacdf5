-- What the bodies of a service's input ask for.
use Rattle.std.specs.Prelude.{ℕ, pos, ◌^◌, nat_lt, List, [], ◌∷◌, codes, Option, Some, None, if◌then◌else◌}
use Rattle.std.specs.Option.{option_map, option_and_then}
use Rattle.pg_term.specs.declared.term.Term.{Term, out-Term}
use Rattle.pg_term.specs.declared.term.Term.TheOpen.{Term-F}
use Rattle.pg_step.specs.PgMessageTypes.Parts.{elements_of, is_word, atom_of, pid_of}
use Rattle.pg_step.specs.declared.command.Command.{Command}
use Rattle.pg_step.specs.declared.command.Command.TheVariants as commands
use Rattle.pg_node_requests.specs.declared.input.Input.{Input}
use Rattle.pg_node_requests.specs.declared.input.Input.TheVariants as inputs
use Rattle.pg_node_requests.specs.declared.layout.NodePorts.{NodePorts}
use Rattle.pg_node_requests.specs.Layouts.{client_at, place_of}

abbrev pub number_in : ℕ → Term-F Term → Option ℕ
number_in bits (Term-F.Int (pos number)) = if nat_lt number (2 ^ bits) then Some number else None
number_in bits _ = None

-- a number of so many bits
abbrev pub number_of : ℕ → Term → Option ℕ
number_of bits term = number_in bits (out-Term term)

-- make, which_groups
abbrev pub lone_command : Term → Option Command
lone_command word =
    if is_word word (codes "make") then Some commands.Make
    else if is_word word (codes "which_groups") then Some commands.WhichGroups
    else None

-- {create, Name}, {delete, Name}, {members, Name}, {local_members, Name}, {finish, Pid}
abbrev pub command_on : Term → Term → Option Command
command_on word argument =
    if is_word word (codes "create") then Some (commands.Create argument)
    else if is_word word (codes "delete") then Some (commands.Delete argument)
    else if is_word word (codes "members") then Some (commands.Members argument)
    else if is_word word (codes "local_members") then Some (commands.LocalMembers argument)
    else if is_word word (codes "finish") then option_map commands.Finish (pid_of argument)
    else None

-- {join, Name, Pid}, {leave, Name, Pid}, {closest, Name, Word}
abbrev pub command_with : Term → Term → Term → Option Command
command_with word name argument =
    if is_word word (codes "join") then option_map (commands.Join name) (pid_of argument)
    else if is_word word (codes "leave") then option_map (commands.Leave name) (pid_of argument)
    else if is_word word (codes "closest") then option_map (commands.Closest name) (number_of 32 argument)
    else None

abbrev pub command_in : List Term → Option Command
command_in (word ∷ argument ∷ []) = command_on word argument
command_in (word ∷ name ∷ argument ∷ []) = command_with word name argument
command_in _ = None

abbrev pub command_or : Term → Option (List Term) → Option Command
command_or term (Some parts) = command_in parts
command_or term None = lone_command term

-- the command that a term is
abbrev pub command_of : Term → Option Command
command_of term = command_or term (elements_of term)

-- what is asked, if it is something
abbrev pub input_asked : Option ℕ → Option Command → Input
input_asked (Some client) (Some command) = inputs.Ask client command
input_asked client command = inputs.Bad

-- {Node, Port, Command}
abbrev pub request_in : List NodePorts → Term → Term → Term → Input
request_in nodes node port command = input_asked (option_and_then (λ name. option_and_then (client_at nodes name) (number_of 16 port)) (atom_of node)) (command_of command)

abbrev pub lost : Option ℕ → Input
lost (Some node) = inputs.Lose node
lost None = inputs.Bad

-- {lose, Node}
abbrev pub loss_in : List NodePorts → Term → Term → Input
loss_in nodes word node = if is_word word (codes "lose") then lost (option_and_then (λ name. place_of name nodes) (atom_of node)) else inputs.Bad

abbrev pub input_in : List NodePorts → Option (List Term) → Input
input_in nodes (Some (word ∷ node ∷ [])) = loss_in nodes word node
input_in nodes (Some (node ∷ port ∷ command ∷ [])) = request_in nodes node port command
input_in nodes _ = inputs.Bad

-- what a term asks for
abbrev pub input_of : List NodePorts → Term → Input
input_of nodes term = input_in nodes (elements_of term)
