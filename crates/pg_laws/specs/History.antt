-- What is said of a world: the history of each group, what each node has applied of it, and what tables are.
use Rattle.std.specs.Prelude.{◌≡◌, ℕ, ◌+◌, Bool, true, false, cond, nat_eq, ◌&&◌, ◌||◌, ◌-◌}
use Rattle.std.specs.Prelude.{slice_get, List, [], ◌∷◌, ◌++◌, length, map, Option, Some, None}
use Rattle.pg_term.specs.declared.pid.Pid.{Pid}
use Rattle.pg_term.specs.declared.term.Term.{Term}
use Rattle.pg_term.specs.Same.{same_term, same_atom}
use Rattle.pg_step.specs.PgGroup.declared.update.Update.{Update}
use Rattle.pg_step.specs.PgGroup.Value.{Value, apply, merge, name_of}
use Rattle.pg_step.specs.declared.command.OpId.{OpId}
use Rattle.pg_step.specs.declared.command.Command.{Command}
use Rattle.pg_step.specs.declared.command.Command.TheVariants as command
use Rattle.pg_step.specs.declared.answer.Reply.TheVariants as reply
use Rattle.std.specs.List.{Contains, count_by, list_any}
use Rattle.pg_step.specs.Machines.Machine.{Event, Do}
use Rattle.pg_step.specs.Step.{Action, Issue}
use Rattle.pg_step.specs.Machines.Places.{is_place}
use Rattle.pg_step.specs.Nodes.{Node}
use Rattle.pg_step.specs.State.{Response, formed}
use Rattle.pg_step.specs.State.Response.{Given}
use Rattle.pg_step.specs.Turns.{Report}
use Rattle.pg_step.specs.Attempts.{same_op}
use Rattle.pg_step.specs.FrameMachine.{FrameWorld}
use Rattle.pg_step.specs.Config.{Config, name_at, nodes_at, first_table}

-- ---- the history

-- an update that has every grant, with the place of its node and its command
pub record Entry : Type 0 where
  pub node : ℕ
  pub op : OpId
  pub update : Update

-- the entry of a turn of node i that began an update
abbrev pub entry_of : ℕ → Option (OpId × Update) → List Entry
entry_of i None = []
entry_of i (Some (op, update)) = record { node = i; op = op; update = update } ∷ []

-- All entries, in the order in which their commands got the last grant.
abbrev pub entries : List (ℕ × Report) → List Entry
entries [] = []
entries (t ∷ ts) = entry_of t.0 t.1.began ++ entries ts

abbrev pub of_group : Term → List Entry → List Entry
of_group name [] = []
of_group name (e ∷ es) = cond (same_term name (name_of e.update)) (e ∷ of_group name es) (of_group name es)

-- The history of a group: its updates in the order in which their commands got the last grant.
abbrev pub history : Term → List (ℕ × Report) → List Entry
history name reported = of_group name (entries reported)

abbrev pub updates_of : List Entry → List Update
updates_of entries = map (λ e. e.update) entries

-- ---- counts

abbrev pub is_update_of : Term → Option Update → Bool
is_update_of name None = false
is_update_of name (Some update) = same_term name (name_of update)

-- How many updates of a group node i has applied.
abbrev pub applied_count : ℕ → Term → List (ℕ × Report) → ℕ
applied_count i name [] = 0
applied_count i name (t ∷ ts) = cond (nat_eq t.0 i && is_update_of name t.1.applied) 1 0 + applied_count i name ts

abbrev pub is_op : OpId → Option OpId → Bool
is_op op None = false
is_op op (Some other) = same_op op other

-- what each of some things tells, the first one's first
abbrev pub all_reported : {P B : Type 0} → (P → List B) → List P → List B
all_reported tells [] = []
all_reported tells (x ∷ xs) = tells x ++ all_reported tells xs

-- the update, where it is one of this group
abbrev pub update_of : Term → Option Update → List Update
update_of name None = []
update_of name (Some u) = cond (same_term name (name_of u)) (u ∷ []) []

-- what node i applied by a turn, where it is its own
abbrev pub update_by : ℕ → Term → ℕ × Report → List Update
update_by i name t = cond (nat_eq t.0 i) (update_of name t.1.applied) []

-- the updates of a group that node i has applied, the earliest first
abbrev pub applied_by : ℕ → Term → List (ℕ × Report) → List Update
applied_by i name reported = all_reported (update_by i name) reported

-- How often a command of node i was answered behind its lock.
abbrev pub answered_count : ℕ → OpId → List (ℕ × Report) → ℕ
answered_count i op [] = 0
answered_count i op (t ∷ ts) = cond (nat_eq t.0 i && is_op op t.1.answered) 1 0 + answered_count i op ts

-- How often a command of node i stands among entries.
abbrev pub times : ℕ → OpId → List Entry → ℕ
times i op [] = 0
times i op (e ∷ es) = cond (nat_eq e.node i && same_op op e.op) 1 0 + times i op es

-- ---- tables

-- a group after updates, in their order
abbrev pub replay : Value → List Update → Value
replay v [] = v
replay v (u ∷ us) = replay (apply v u) us

-- what those nodes had of a group at the start, together, that pass a test
abbrev pub known : (Node → Bool) → Term → Config → Value
known test name [] = None
known test name (start ∷ starts) = merge (cond (test start.name) (first_table start.groups name) None) (known test name starts)

-- what all nodes had of a group at the start, together
abbrev pub base : Config → Term → Value
base config name = known (λ q. true) name config

-- ---- commands

-- the commands that came in at a port of a node, the earliest first
abbrev pub issued : ℕ → ℕ → List (Event Action) → List Command
issued i port [] = []
issued i port (Do j (Issue q c) ∷ es) = cond (nat_eq i j && nat_eq port q) (c ∷ issued i port es) (issued i port es)
issued i port (e ∷ es) = issued i port es

-- the command by its port and its number there, the first being 1
abbrev pub command_at : ℕ → OpId → List (Event Action) → Option Command
command_at i op es = cond (nat_eq op.number 0) None (slice_get (issued i op.port es) (op.number - 1))

-- the answers given at the ports of a node, each with the number of its command, the earliest first
abbrev pub AnswerList : Type 0
AnswerList = ℕ → List (ℕ × Response)

-- the answer that a turn gave, where it is one of this port
abbrev pub answer_at : ℕ → Option (OpId × Response) → List (ℕ × Response)
answer_at port None = []
answer_at port (Some (op, response)) = cond (nat_eq op.port port) ((op.number, response) ∷ []) []

-- the answer of a turn, where it is one of node i
abbrev pub answer_by : ℕ → ℕ → ℕ × Report → List (ℕ × Response)
answer_by i port t = cond (nat_eq t.0 i) (answer_at port t.1.gave) []

-- the answers that node i gave
abbrev pub answers_by : ℕ → List (ℕ × Report) → AnswerList
answers_by i reported port = all_reported (answer_by i port) reported

-- a command was answered, by whatever reply
abbrev pub has_answer : OpId → AnswerList → Bool
has_answer op answers = list_any (λ a. nat_eq a.0 op.number) (answers op.port)

-- how many answers a command has
abbrev pub answers_to : OpId → AnswerList → ℕ
answers_to op answers = count_by (λ a. nat_eq a.0 op.number) (answers op.port)

-- an answer of a command is ok
abbrev pub IsAnsweredOk : OpId → AnswerList → Type 0
IsAnsweredOk op answers = Contains (answers op.port) (op.number, Given reply.Ok)

-- What is answered ok behind a lock alone: a delete, a join, a leave. A create may be answered ok by the look, and all
-- else takes no lock.
abbrev pub ok_means_lock : Command → Bool
ok_means_lock (command.Delete name) = true
ok_means_lock (command.Join name pid) = true
ok_means_lock (command.Leave name pid) = true
ok_means_lock c = false

-- ---- worlds

-- node i has taken the exchange of each peer
abbrev pub is_formed : Config → FrameWorld → ℕ → Bool
is_formed config w i = formed (nodes_at config i) (w.node i)

-- whose groups node i has: its own, and those of the exchanges that it took
abbrev pub has_groups : Config → FrameWorld → ℕ → Node → Bool
has_groups config w i q = same_atom (name_at config i) q || (w.node i).merged q

-- node i sees the lock of a group free
abbrev pub LockFree : FrameWorld → ℕ → Term → Type 0
LockFree w i name = (w.node i).locks name ≡ None

-- no end is pending: one that its home has, each node has
abbrev pub NonePending : Config → FrameWorld → Type 0
NonePending config w = (home i : ℕ) (pid : Pid) → is_place (length config) home ≡ true → is_place (length config) i ≡ true
    → pid.node ≡ name_at config home → (w.node home).ended pid ≡ true → (w.node i).ended pid ≡ true
