-- Worked examples: configurations, lists of events, and what is read of a world. Where nothing else is said packets are
-- taken in rounds: in each, every ordered pair of nodes moves one packet, if one is on the way.
use Rattle.std.specs.Prelude.{ℕ, Bool, true, None, ◌&&◌, nat_eq, map, List, [], ◌∷◌, ◌++◌, Option, codes, is_some, Some}
use Rattle.pg_term.specs.declared.pid.Pid.{Pid}
use Rattle.pg_term.specs.declared.term.Term.{Term}
use Rattle.pg_term.specs.RefParts.{RefParts}
use Rattle.pg_term.specs.Same.{same_pid}
use Rattle.pg_laws.specs.PgGroup.declared.update.Update.{Update}
use Rattle.pg_laws.specs.PgGroup.Table.{Table}
use Rattle.pg_laws.specs.PgGroup.Value.{count_in, nobody}
use Rattle.pg_laws.specs.PgMessageTypes.declared.message.Message.{Message}
use Rattle.pg_laws.specs.PgMessageTypes.declared.message.Message.TheVariants.{Reply}
use Rattle.pg_laws.specs.PgMessageTypes.declared.message.Said.TheVariants.{Granted, Denied, Applied}
use Rattle.pg_laws.specs.PgRefs.Numbered.{numbered}
use Rattle.pg_laws.specs.PgEnds.Numbers.{pid_of}
use Rattle.pg_laws.specs.PgExchange.GroupList.{GroupList}
use Rattle.pg_laws.specs.PgStep.declared.start.Start.{Start}
use Rattle.pg_laws.specs.PgStep.declared.command.Command.{Command}
use Rattle.pg_laws.specs.PgStep.declared.command.Command.TheVariants as command
use Rattle.pg_laws.specs.PgStep.declared.command.OpId.{OpId}
use Rattle.pg_laws.specs.PgStep.declared.answer.Odd.{Odd}
use Rattle.pg_laws.specs.PgStep.declared.answer.Reply.TheVariants as reply
use Rattle.pg_laws.specs.PgStep.Machines.Places.{set_way}
use Rattle.pg_laws.specs.PgStep.Machines.Machine.{Event, Take, Do, start_of}
use Rattle.pg_laws.specs.PgStep.Machines.Runs.{Leads, run}
use Rattle.pg_laws.specs.PgStep.Nodes.{Node}
use Rattle.pg_laws.specs.PgStep.State.{Response, State, new_state}
use Rattle.pg_laws.specs.PgStep.State.Response.{Given, Read}
use Rattle.pg_laws.specs.PgStep.Step.{Action, Issue, Retry}
use Rattle.pg_laws.specs.PgStep.Config.{Config}
use Rattle.pg_laws.specs.PgStep.FrameMachine.{machine_of, FrameWorld}
use Rattle.pg_laws.specs.History.{Entry, answers_by}

-- ---- words

-- a node of one port that has made so many processes and starts with these groups
abbrev pub node : Node → ℕ → GroupList → Start
node name made groups = record { name = name; made = made; ports = 1; groups = groups }

abbrev pub a : Node
a = codes "a"

abbrev pub b : Node
b = codes "b"

abbrev pub c : Node
c = codes "c"

-- the first process of a, and that of b
abbrev pub a1 : Pid
a1 = pid_of a 1

abbrev pub b1 : Pid
b1 = pid_of b 1

-- a configuration's nodes as they start
abbrev pub start : Config → FrameWorld
start config = start_of (machine_of config)

-- a world behind events
unfoldable pub behind : Config → FrameWorld → List (Event Action) → FrameWorld
behind config w events = run (machine_of config) w events

-- each of the events happens
unfoldable pub AllHappen : Config → FrameWorld → List (Event Action) → Type 0
AllHappen config w events = Leads (machine_of config) w events (behind config w events)

-- a command at the port of node i
abbrev pub at : ℕ → Command → Event Action
at i c = Do i (Issue 0 c)

-- the command of this number of the port
abbrev pub op_at : ℕ → OpId
op_at number = record { port = 0; number = number }

-- node i tries its command of this number again
abbrev pub again : ℕ → ℕ → Event Action
again i number = Do i (Retry (op_at number))

-- the answers of node i, each with the number of its command
abbrev pub answers_of : FrameWorld → ℕ → List (ℕ × Response)
answers_of w i = answers_by i w.reported 0

abbrev pub table_of : FrameWorld → ℕ → Table
table_of w i = (w.node i).table

-- how often a process is a member of a group at node i
abbrev pub count_at : FrameWorld → ℕ → Term → Pid → ℕ
count_at w i name pid = count_in (table_of w i name) pid

-- the group is in the table of node i
abbrev pub has_group : FrameWorld → ℕ → Term → Bool
has_group w i name = is_some (table_of w i name)

-- who holds the lock of a name at node i
abbrev pub holder_at : FrameWorld → ℕ → Term → Option RefParts
holder_at w i name = (w.node i).locks name

-- the command of this number is answered ok
abbrev pub is_ok : ℕ → ℕ × Response
is_ok number = (number, Given reply.Ok)

-- a query of this number is answered by a table
abbrev pub query_answer : ℕ → Command → Table → ℕ × Response
query_answer number query table = (number, Read query table)

-- the command of this number of node i stands in the history with its update
abbrev pub stands : ℕ → ℕ → Update → Entry
stands i number update = record { node = i; op = op_at number; update = update }

-- the group is there, with so many counts of a process
abbrev pub has_counts : FrameWorld → ℕ → Term → Pid → ℕ → Bool
has_counts w i name pid n = has_group w i name && nat_eq (count_at w i name pid) n

-- the replies that completed nothing, one place for each event
abbrev pub odd_of : FrameWorld → List (Option Odd)
odd_of w = map (λ t. t.1.odd) w.reported

-- the world with more packets on the way from p to i
abbrev pub with_packets : ℕ → ℕ → List Message → FrameWorld → FrameWorld
with_packets p i packets w = record w { wire = set_way w.wire p i (w.wire p i ++ packets) }

-- a true, a false and an ok of this reference
abbrev pub yes : RefParts → Message
yes reference = Reply reference Granted

abbrev pub no : RefParts → Message
no reference = Reply reference Denied

abbrev pub done : RefParts → Message
done reference = Reply reference Applied

-- ---- configurations

abbrev pub two_nodes : Config
two_nodes = node a 0 [] ∷ node b 0 [] ∷ []

-- a has made its first process, which is in the group g
abbrev pub two_and_member : Term → Config
two_and_member g = node a 1 ((g, a1 ∷ []) ∷ []) ∷ node b 0 [] ∷ []

-- both nodes know the group g, each with other members
abbrev pub two_tables : Term → Config
two_tables g = node a 1 ((g, a1 ∷ a1 ∷ []) ∷ []) ∷ node b 1 ((g, a1 ∷ b1 ∷ []) ∷ []) ∷ []

abbrev pub three_nodes : Config
three_nodes = node a 0 [] ∷ node b 0 [] ∷ node c 0 [] ∷ []

-- a and b know the group g, with different counts of one process
abbrev pub three_tables : Term → Config
three_tables g = node a 1 ((g, a1 ∷ a1 ∷ []) ∷ []) ∷ node b 0 ((g, a1 ∷ []) ∷ []) ∷ node c 0 [] ∷ []

-- ---- events

-- two nodes take each other's exchange
abbrev pub two_meet : List (Event Action)
two_meet = Take 1 0 ∷ Take 0 1 ∷ []

-- and so do three
abbrev pub three_meet : List (Event Action)
three_meet = Take 1 0 ∷ Take 2 0 ∷ Take 0 1 ∷ Take 2 1 ∷ Take 0 2 ∷ Take 1 2 ∷ []

-- One change by a: b, the greater, is asked first and grants; a grants itself and begins; b applies the update and
-- replies; the command ends, and b's lock is freed.
abbrev pub change_by_a : List (Event Action)
change_by_a = Take 1 0 ∷ Take 0 1 ∷ Take 1 0 ∷ Take 0 1 ∷ Take 1 0 ∷ []

-- One change by b, which has granted itself: a grants; b begins; a applies the update and replies; the command ends,
-- and a's lock is freed.
abbrev pub change_by_b : List (Event Action)
change_by_b = Take 0 1 ∷ Take 1 0 ∷ Take 0 1 ∷ Take 1 0 ∷ Take 0 1 ∷ []

-- Two creators at once: both meet at b, the greater. It is granted its own lock first and denies a, which waits. After
-- b has created the group a tries again.
abbrev pub created_by_two : Term → List (Event Action)
created_by_two g = two_meet
    ++ at 0 (command.Create g) ∷ at 1 (command.Create g)
    ∷ Take 1 0 ∷ Take 0 1 ∷ Take 1 0 ∷ Take 0 1 ∷ Take 0 1 ∷ Take 1 0 ∷ Take 0 1
    ∷ again 0 1 ∷ change_by_a ++ at 0 command.WhichGroups ∷ []

-- A process that a makes joins a group twice, by b; then both nodes are asked.
abbrev pub joined_twice : Term → List (Event Action)
joined_twice g = two_meet
    ++ at 0 (command.Create g) ∷ change_by_a
    ++ at 0 command.Make ∷ at 1 (command.Join g a1) ∷ change_by_b
    ++ at 1 (command.Join g a1) ∷ change_by_b
    ++ at 0 (command.Members g) ∷ at 1 (command.Members g) ∷ []

-- Then it leaves once, and both are asked again.
abbrev pub left_once : Term → List (Event Action)
left_once g = at 1 (command.Leave g a1) ∷ change_by_b ++ at 0 (command.Members g) ∷ at 1 (command.Members g) ∷ []

-- A group is deleted by b after a has looked for it and before a has its lock; then a tries again.
abbrev pub deleted_between : Term → List (Event Action)
deleted_between g = two_meet
    ++ at 0 (command.Create g) ∷ change_by_a
    ++ at 0 (command.Join g a1) ∷ at 1 (command.Delete g)
    ∷ Take 1 0 ∷ Take 0 1 ∷ Take 1 0 ∷ Take 0 1 ∷ Take 0 1 ∷ Take 1 0 ∷ Take 0 1
    ∷ again 0 2 ∷ change_by_a ++ at 0 (command.Members g) ∷ at 1 (command.Members g) ∷ []

-- a is asked before it is formed, and b, which is not formed, creates another group; then they meet and are asked.
abbrev pub tables_met : Term → Term → List (Event Action)
tables_met g h = at 0 (command.Members g) ∷ at 1 (command.Create h)
    ∷ two_meet ++ at 0 (command.Members g) ∷ at 1 (command.Members g) ∷ []

-- Then b tries again.
abbrev pub created_later : List (Event Action)
created_later = again 1 1 ∷ change_by_b

-- b joins a process of a to a group, and has begun the update when that process ends at a.
abbrev pub ended_between : Term → List (Event Action)
ended_between g = two_meet
    ++ at 1 (command.Join g a1) ∷ Take 0 1 ∷ Take 1 0
    ∷ at 0 (command.Finish a1) ∷ at 1 (command.Members g) ∷ at 0 (command.Members g) ∷ []

-- Then the end comes to b, and the update to a.
abbrev pub joined_late : Term → List (Event Action)
joined_late g = Take 1 0 ∷ Take 0 1 ∷ Take 1 0 ∷ Take 0 1 ∷ at 0 (command.Members g) ∷ at 1 (command.Members g) ∷ []

-- A process of a ends.
abbrev pub ended_at_home : List (Event Action)
ended_at_home = two_meet ++ at 0 (command.Finish a1) ∷ []

-- b takes the end, and then joins the process.
abbrev pub joined_after : Term → List (Event Action)
joined_after g = Take 1 0 ∷ at 1 (command.Join g a1) ∷ change_by_b

-- a asks for a lock among three.
abbrev pub first_request : Term → List (Event Action)
first_request g = three_meet ++ at 0 (command.Create g) ∷ []

-- c is formed, and b, which has not taken a's exchange, asks for the lock of a delete: c grants, and b asks a. a takes
-- b's exchange and then its request; c's exchange is still on the way.
abbrev pub met_one : Term → List (Event Action)
met_one g = Take 2 0 ∷ Take 2 1 ∷ at 1 (command.Delete g) ∷ Take 2 1 ∷ Take 1 2 ∷ Take 1 2 ∷ Take 0 1 ∷ Take 0 1 ∷ []

-- Then a takes c's exchange.
abbrev pub met_both : List (Event Action)
met_both = Take 0 2 ∷ []

-- b and c are formed, and a, which is not, asks for the lock of a create: c grants. a takes c's exchange and its answer, and
-- asks the rest, itself among them. b grants; a takes b's exchange and then its answer.
abbrev pub asked_unformed : Term → List (Event Action)
asked_unformed g = Take 1 0 ∷ Take 2 0 ∷ Take 2 1 ∷ Take 1 2 ∷ at 0 (command.Create g)
    ∷ Take 2 0 ∷ Take 0 2 ∷ Take 0 2 ∷ Take 1 0 ∷ Take 0 1 ∷ Take 0 1 ∷ []

-- Then b and c take what a sends them.
abbrev pub given_back : List (Event Action)
given_back = Take 1 0 ∷ Take 2 0 ∷ []

-- a and c are formed, and b is not. a asks c, which grants, and then itself, which grants, and b
abbrev pub granted_at_home : Term → List (Event Action)
granted_at_home g = Take 0 1 ∷ Take 0 2 ∷ Take 2 0 ∷ Take 2 1 ∷ at 0 (command.Create g) ∷ Take 2 0 ∷ Take 0 2 ∷ []

-- b takes a's exchange and its request, and denies; a takes that, and c what a sends it then
abbrev pub denied_by_b : List (Event Action)
denied_by_b = Take 1 0 ∷ Take 1 0 ∷ Take 0 1 ∷ Take 2 0 ∷ []

-- ---- replies

-- the references of a's lock and of its update, and one that a never made
abbrev pub lock_ref : RefParts
lock_ref = numbered a 1

abbrev pub update_ref : RefParts
update_ref = numbered a 2

abbrev pub other_ref : RefParts
other_ref = numbered a 3

-- Three nodes as they start, and on the way to a, behind the exchanges, replies that nobody but a takes.
abbrev pub with_replies : FrameWorld
with_replies =
    with_packets 1 0 (yes lock_ref ∷ yes lock_ref ∷ done update_ref ∷ done update_ref ∷ [])
    (with_packets 2 0 (yes lock_ref ∷ yes lock_ref ∷ done other_ref ∷ done update_ref ∷ []) (start three_nodes))

-- a is formed and asks c, the greatest.
abbrev pub asked_greatest : Term → List (Event Action)
asked_greatest g = Take 0 1 ∷ Take 0 2 ∷ at 0 (command.Create g) ∷ []

-- a true of b, of c, of c again and of b; then the update is on its way: an ok of b, of b again, and of c under another
-- reference.
abbrev pub gathering_events : List (Event Action)
gathering_events = Take 0 1 ∷ Take 0 2 ∷ Take 0 2 ∷ Take 0 1 ∷ Take 0 1 ∷ Take 0 1 ∷ Take 0 2 ∷ []

-- the ok of c
abbrev pub completed : List (Event Action)
completed = Take 0 2 ∷ []

-- ---- one node, and a change of three

abbrev pub one_node : Config
one_node = node a 0 [] ∷ []

-- a single node creates a group.
abbrev pub created_alone : Term → List (Event Action)
created_alone g = at 0 (command.Create g) ∷ []

-- a creates a group among three. c, the greatest, grants; a asks the rest, b, and itself; b grants, and the update begins.
-- b and c apply it and reply; the command ends, and both locks are freed.
abbrev pub created_by_three : Term → List (Event Action)
created_by_three g = three_meet
    ++ at 0 (command.Create g) ∷ Take 2 0 ∷ Take 0 2 ∷ Take 1 0 ∷ Take 0 1
    ∷ Take 1 0 ∷ Take 2 0 ∷ Take 0 1 ∷ Take 0 2 ∷ Take 1 0 ∷ Take 2 0 ∷ []

-- ---- nodes that refuse

-- a node, formed or not, that has made so many processes and has so many open commands
abbrev pub busy_node : Bool → ℕ → ℕ → State
busy_node met made opened = record (new_state (λ name. None) made) { merged = λ q. met; opened = opened }

-- a formed node that has made so many processes, and at which the process with the number 1 has ended
abbrev pub mourning_node : ℕ → State
mourning_node made = record (busy_node true made 0) { ended = same_pid a1 }

-- a formed node at which each group is there, without members
abbrev pub keeping_node : State
keeping_node = record (busy_node true 0 0) { table = λ name. Some nobody }

abbrev pub c1 : Pid
c1 = pid_of c 1
