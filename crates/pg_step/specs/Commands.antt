-- What a node makes of a command (create/1, delete/1, join/2, leave/2, get_members/1, get_local_members/1,
-- which_groups/0 and get_closest_pid/1 of the pg2 manual page, and the making and ending of processes).
use Rattle.std.specs.Prelude.{◌≡◌, ℕ, ◌+◌, Bool, true, false, not, cond, nat_eq}
use Rattle.std.specs.Prelude.{nat_le, List, [], ◌∷◌, Option, Some, None}
use Rattle.std.specs.List.Sorted.{IsSorted}
use Rattle.pg_term.specs.declared.pid.Pid.{Pid}
use Rattle.pg_term.specs.declared.term.Term.{Term}
use Rattle.pg_term.specs.Same.{same_atom, term_cmp}
use Rattle.pg_message_types.specs.PgGroup.declared.update.Update.{Update}
use Rattle.pg_message_types.specs.PgGroup.declared.update.Update.TheVariants as update
use Rattle.pg_message_types.specs.PgGroup.Functions.{upd}
use Rattle.pg_message_types.specs.PgGroup.Value.{Value, name_of}
use Rattle.pg_message_types.specs.PgGroup.Scope.{anywhere, at_node}
use Rattle.pg_message_types.specs.PgGroup.Members.{IsMemberList}
use Rattle.pg_message_types.specs.PgGroup.Table.{Table, AreNames}
use Rattle.pg_query.specs.Closest.{IsClosest}
use Rattle.pg_ends.specs.Limits.{max_processes}
use Rattle.pg_ends.specs.Numbers.{pid_of, is_among}
use Rattle.pg_message_types.specs.Name.{is_name}
use Rattle.pg_message_types.specs.declared.message.Message.TheVariants.{Down}
use Rattle.pg_step.specs.declared.command.Command.{Command}
use Rattle.pg_step.specs.declared.command.Command.TheVariants.{Create, Delete, Join, Leave, Make, Finish}
use Rattle.pg_step.specs.declared.command.Command.TheVariants.{Members, LocalMembers, WhichGroups, Closest}
use Rattle.pg_step.specs.declared.command.OpId.{OpId}
use Rattle.pg_step.specs.declared.answer.Reply.{Reply}
use Rattle.pg_step.specs.declared.answer.Reply.TheVariants as reply
use Rattle.pg_step.specs.declared.command_fault.CommandFault.{CommandFault}
use Rattle.pg_step.specs.declared.command_fault.CommandFault.TheVariants.{NameTooLarge, ForeignPid, NotFormed}
use Rattle.pg_step.specs.declared.command_fault.CommandFault.TheVariants.{NotMade, AlreadyEnded, ProcessLimit, Busy}
use Rattle.pg_step.specs.Faults.{command_number_of, first_that_holds}
use Rattle.pg_step.specs.Nodes.{Node, Nodes, is_node, to_peers}
use Rattle.pg_step.specs.State.{State, Response, formed}
use Rattle.pg_step.specs.State.Stage.{Waiting}
use Rattle.pg_step.specs.State.Response.{Given, Read}
use Rattle.pg_step.specs.Turns.{NodeTurn, nothing, becomes, becomes_and_sends, and_then}
use Rattle.pg_step.specs.Peers.{ended_in}
use Rattle.pg_step.specs.Attempts.{same_op, attempt}

-- the change that a command asks for
abbrev pub change_of : Command → Option Update
change_of (Create name) = Some (update.Create name)
change_of (Delete name) = Some (update.Delete name)
change_of (Join name pid) = Some (update.Join name pid)
change_of (Leave name pid) = Some (update.Leave name pid)
change_of c = None

-- ---- what is refused

-- so many commands are open at most at one node
abbrev pub OPEN_LIMIT : ℕ
OPEN_LIMIT = 256

-- the name in a command is none that can be sent
abbrev pub has_large_name : Command → Bool
has_large_name (Create name) = not (is_name name)
has_large_name (Delete name) = not (is_name name)
has_large_name (Join name pid) = not (is_name name)
has_large_name (Leave name pid) = not (is_name name)
has_large_name (Members name) = not (is_name name)
has_large_name (LocalMembers name) = not (is_name name)
has_large_name (Closest name word) = not (is_name name)
has_large_name _ = false

-- the process is of no node of the set; one that is to end is not of this node
abbrev pub has_foreign_pid : Nodes → Command → Bool
has_foreign_pid m (Join name pid) = not (is_node m pid.node)
has_foreign_pid m (Leave name pid) = not (is_node m pid.node)
has_foreign_pid m (Finish pid) = not (same_atom pid.node m.own)
has_foreign_pid m _ = false

-- a process ends at a formed node alone
abbrev pub ends_unformed : Nodes → State → Command → Bool
ends_unformed m s (Finish pid) = not (formed m s)
ends_unformed m s _ = false

-- the process that is to end was not made
abbrev pub ends_unmade : State → Command → Bool
ends_unmade s (Finish pid) = not (is_among s.processes pid)
ends_unmade s _ = false

-- the process that is to end has ended
abbrev pub ends_again : State → Command → Bool
ends_again s (Finish pid) = s.ended pid
ends_again s _ = false

-- no number is left for a further process
abbrev pub passes_limit : State → Command → Bool
passes_limit s Make = nat_le max_processes s.processes
passes_limit s _ = false

-- Which fault a command is refused by, the first that holds: NameTooLarge, ForeignPid, NotFormed, NotMade, AlreadyEnded,
-- ProcessLimit.
abbrev pub fault_of : Nodes → State → Command → Option CommandFault
fault_of m s c = first_that_holds (
    (has_large_name c, NameTooLarge) ∷ (has_foreign_pid m c, ForeignPid) ∷ (ends_unformed m s c, NotFormed)
    ∷ (ends_unmade s c, NotMade) ∷ (ends_again s c, AlreadyEnded) ∷ (passes_limit s c, ProcessLimit) ∷ [])

-- ---- what is answered

-- the answer to a command that is refused by this fault
abbrev pub refused : CommandFault → Response
refused fault = Given (reply.Refused (command_number_of fault))

-- the command is answered
abbrev pub answer : OpId → Response → State → NodeTurn
answer op response s = record (becomes s) { reported = record nothing { gave = Some (op, response) } }

-- The look: what is answered without any lock, by the own table. There is nothing to create where the group is there,
-- and nothing to join or to leave where it is not. A delete never looks.
abbrev pub look : Value → Update → Option Reply
look (Some counts) (update.Create name) = Some reply.Ok
look None (update.Join name pid) = Some (reply.NoSuchGroup name)
look None (update.Leave name pid) = Some (reply.NoSuchGroup name)
look v u = None

-- A command is opened, and its first attempt begins.
abbrev pub open_command : OpId → Update → State → NodeTurn
open_command op u s = becomes (record s { opened = s.opened + 1; stages = upd same_op s.stages op (Waiting u) })

-- Any other change: it is refused as Busy where as many commands are open as can be.
abbrev pub undertake : Nodes → OpId → Update → State → NodeTurn
undertake m op u s =
    cond (nat_le OPEN_LIMIT s.opened) (answer op (refused Busy) s)
    (and_then (open_command op u s) (attempt m op u))

abbrev pub change_by : Option Reply → Nodes → OpId → Update → State → NodeTurn
change_by (Some r) m op u s = answer op (Given r) s
change_by None m op u s = undertake m op u s

-- A change.
abbrev pub change : Nodes → OpId → Update → State → NodeTurn
change m op u s = change_by (look (s.table (name_of u)) u) m op u s

-- A process is made: it has the next number.
abbrev pub make : Nodes → OpId → State → NodeTurn
make m op s = answer op (Given (reply.Made (pid_of m.own (s.processes + 1)))) (record s { processes = s.processes + 1 })

-- A process ends at its home, which tells every peer.
abbrev pub end_process : Nodes → OpId → Pid → State → NodeTurn
end_process m op pid s =
    and_then (becomes_and_sends (ended_in pid s) (to_peers m (λ q. true) (Down pid))) (answer op (Given reply.Ok))

-- What a command leads to that is not refused. A query is answered by the own table as it is.
abbrev pub carried_out : Nodes → OpId → Command → State → NodeTurn
carried_out m op (Create name) s = change m op (update.Create name) s
carried_out m op (Delete name) s = change m op (update.Delete name) s
carried_out m op (Join name pid) s = change m op (update.Join name pid) s
carried_out m op (Leave name pid) s = change m op (update.Leave name pid) s
carried_out m op Make s = make m op s
carried_out m op (Finish pid) s = end_process m op pid s
carried_out m op query s = answer op (Read query s.table) s

-- A refused command is answered by its fault.
abbrev pub command_by : Option CommandFault → Nodes → OpId → Command → State → NodeTurn
command_by (Some fault) m op c s = answer op (refused fault) s
command_by None m op c s = carried_out m op c s

-- The command is the next one of its port.
abbrev pub next_op : ℕ → State → OpId
next_op port s = record { port = port; number = s.counts port + 1 }

abbrev pub count_command : ℕ → State → NodeTurn
count_command port s = becomes (record s { counts = upd nat_eq s.counts port (s.counts port + 1) })

-- A command that comes in at a port.
-- Of the whole set is asked whose process is foreign, of the nodes that count all else.
abbrev pub command : Nodes → Nodes → ℕ → Command → State → NodeTurn
command whole m port c s = and_then (count_command port s) (command_by (fault_of whole s c) m (next_op port s) c)

-- ---- what a query reads

-- the members of a group that pass a test, in the order of pids, each as often as it joined
abbrev pub ListsMembers : Value → (Pid → Bool) → Term → Reply → Type 0
ListsMembers None among name r = r ≡ reply.NoSuchGroup name
ListsMembers (Some counts) among name r = (pids : List Pid) × IsMemberList (Some counts) among pids × (r ≡ reply.Pids pids)

-- the names of the groups, in the order of terms
abbrev pub ListsGroups : Table → Reply → Type 0
ListsGroups table r = (names : List Term) × AreNames table names × IsSorted term_cmp names × (r ≡ reply.Groups names)

-- the member that a word picks, a local one where there is one
abbrev pub PicksMember : Value → Node → ℕ → Term → Reply → Type 0
PicksMember None own word name (reply.NoSuchGroup other) = other ≡ name
PicksMember (Some counts) own word name (reply.NoProcess other) = IsMemberList (Some counts) anywhere [] × (other ≡ name)
PicksMember (Some counts) own word name (reply.Closest pid) = IsClosest (Some counts) own word pid
PicksMember v own word name r = ⊥

-- the reply to a query of this node
abbrev pub Reads : Node → Command → Table → Reply → Type 0
Reads own (Members name) table r = ListsMembers (table name) anywhere name r
Reads own (LocalMembers name) table r = ListsMembers (table name) (at_node own) name r
Reads own WhichGroups table r = ListsGroups table r
Reads own (Closest name word) table r = PicksMember (table name) own word name r
Reads own command table r = ⊥

-- the reply that an answer tells
abbrev pub Answers : Node → Response → Reply → Type 0
Answers own (Given r) other = other ≡ r
Answers own (Read query table) r = Reads own query table r
