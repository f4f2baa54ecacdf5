-- What the worked examples come to.
use Rattle.std.specs.Prelude.{◌≡◌, true, false, [], ◌∷◌, ◌++◌, Some, None, Ok, Err}
use Rattle.pg_term.specs.declared.term.Term.{Term}
use Rattle.pg_laws.specs.PgGroup.declared.update.Update.TheVariants as update
use Rattle.pg_laws.specs.PgRefs.Numbered.{numbered}
use Rattle.pg_laws.specs.PgMessageTypes.declared.message.Message.TheVariants.{Call, Exchange}
use Rattle.pg_laws.specs.PgMessageTypes.declared.message.Request.TheVariants.{SetLock}
use Rattle.pg_laws.specs.PgStep.declared.command.Command.TheVariants as command
use Rattle.pg_laws.specs.PgStep.declared.answer.Reply.TheVariants as reply
use Rattle.pg_laws.specs.PgStep.declared.answer.Odd.TheVariants.{Stranger, Double}
use Rattle.pg_laws.specs.PgStep.declared.refusal.Refusal.TheVariants.{NotAMessage}
use Rattle.pg_laws.specs.PgStep.State.Response.{Given}
use Rattle.pg_laws.specs.PgStep.State.Stage.{Waiting, Changing}
use Rattle.pg_laws.specs.PgStep.Attempts.{strange}
use Rattle.pg_laws.specs.PgStep.Commands.{Reads}
use Rattle.pg_laws.specs.PgStep.Step.{taken}
use Rattle.pg_laws.specs.PgStep.Config.{groups_at, nodes_at}
use Rattle.pg_laws.specs.PgStep.Machines.Machine.{Take}
use Rattle.pg_laws.specs.PgStep.Machines.Runs.{Leads}
use Rattle.pg_laws.specs.PgStep.FrameMachine.{FrameWorld, machine_of}
use Rattle.pg_laws.specs.History.{history, is_formed}
use Rattle.pg_laws_examples.specs.Examples.{a, b, c, a1, b1, op_at, start, answers_of, table_of, has_group}
use Rattle.pg_laws_examples.specs.Examples.{has_counts, holder_at, is_ok, query_answer, stands, odd_of, yes, no}
use Rattle.pg_laws_examples.specs.Examples.{at, change_by_b, two_meet, two_nodes}
use Rattle.pg_laws_examples.specs.Examples.{done, two_tables, three_nodes, three_tables, lock_ref, update_ref}

-- A client at b begins after a client at a was answered.
pub record OneAfterAnother (g : Term) : Type 0 where
  pub answered : FrameWorld
  pub done : FrameWorld
  -- the create of a is answered; b, which still holds the lock of a, has applied it
  pub first : Leads (machine_of two_nodes) (start two_nodes)
      (two_meet ++ at 0 (command.Create g) ∷ Take 1 0 ∷ Take 0 1 ∷ Take 1 0 ∷ Take 0 1 ∷ []) answered
  pub answers_a : answers_of answered 0 ≡ is_ok 1 ∷ []
  pub group_b : has_group answered 1 g ≡ true
  -- a query comes in at b, and then a delete
  pub second : Leads (machine_of two_nodes) answered (at 1 (command.Members g) ∷ Take 1 0 ∷ at 1 (command.Delete g) ∷ change_by_b) done
  pub answers_b : answers_of done 1 ≡ query_answer 1 (command.Members g) (table_of answered 1) ∷ is_ok 2 ∷ []
  pub none_a : table_of done 0 g ≡ None
  pub none_b : table_of done 1 g ≡ None
  -- which comes after the create
  pub history : history g done.reported ≡ stands 0 1 (update.Create g) ∷ stands 1 2 (update.Delete g) ∷ []

-- Two creators at once.
pub record TwoCreators (g : Term) (w : FrameWorld) : Type 0 where
  pub answers_a : answers_of w 0 ≡ is_ok 1 ∷ query_answer 2 command.WhichGroups (table_of w 0) ∷ []
  pub answers_b : answers_of w 1 ≡ is_ok 1 ∷ []
  pub names_a : Reads a command.WhichGroups (table_of w 0) (reply.Groups (g ∷ []))
  -- the group is there, and its lock is free
  pub group_b : has_group w 1 g ≡ true
  pub free_a : holder_at w 0 g ≡ None
  pub free_b : holder_at w 1 g ≡ None
  -- the create of b stands before that of a
  pub history : history g w.reported ≡ stands 1 1 (update.Create g) ∷ stands 0 1 (update.Create g) ∷ []

-- Replies to a, one after the other.
pub record GatheredReplies (g : Term) (asking gathered completed : FrameWorld) : Type 0 where
  -- While c alone is asked, an ok of it is no message. One of b, which is not asked, is a stranger's, whatever it says.
  pub wrong_kind : taken (nodes_at three_nodes 0) c (done lock_ref) (asking.node 0) ≡ Err NotAMessage
  pub not_asked : taken (nodes_at three_nodes 0) b (done lock_ref) (asking.node 0) ≡ Ok (strange Stranger (asking.node 0))
  -- after the two exchanges and the create: true of b, of c, of c again, of b; ok of b, of b again, of c with another reference
  pub odd : odd_of gathered ≡ None ∷ None ∷ None
      ∷ Some Stranger ∷ None ∷ Some Stranger ∷ None ∷ None ∷ Some Double ∷ Some Stranger ∷ []
  -- while the update goes out, a true of c is no message
  pub wrong_kind_later : taken (nodes_at three_nodes 0) c (yes update_ref) (gathered.node 0) ≡ Err NotAMessage
  -- the command is open until c has replied
  pub still_open : (gathered.node 0).stages (op_at 1) ≡ Changing 2
  pub unanswered : answers_of gathered 0 ≡ []
  pub history : history g gathered.reported ≡ stands 0 1 (update.Create g) ∷ []
  pub answered : answers_of completed 0 ≡ is_ok 1 ∷ []

-- The greatest node is asked alone.
pub record GreatestFirst (g : Term) (w : FrameWorld) : Type 0 where
  pub none_to_b : w.wire 0 1 ≡ []
  pub one_to_c : w.wire 0 2 ≡ Call lock_ref (SetLock g) ∷ []

-- Three nodes take each other's groups.
pub record FormationOfThree (g : Term) (one both : FrameWorld) : Type 0 where
  -- a has taken one exchange of two: it is not formed, has its process twice, and has denied b the lock
  pub unformed_a : is_formed (three_tables g) one 0 ≡ false
  pub counts_a : has_counts one 0 g a1 2 ≡ true
  pub denied : one.wire 0 1 ≡ Exchange a (groups_at (three_tables g) 0) ∷ no (numbered b 1) ∷ []
  pub free_a : holder_at one 0 g ≡ None
  -- c, which began without the group, is formed and has it
  pub formed_c : is_formed (three_tables g) one 2 ≡ true
  pub counts_c : has_counts one 2 g a1 2 ≡ true
  -- then a has taken both
  pub formed_a : is_formed (three_tables g) both 0 ≡ true
  pub counts_kept : has_counts both 0 g a1 2 ≡ true

-- A node denies itself the lock that both others grant.
pub record DeniedByItself (g : Term) (denied freed : FrameWorld) : Type 0 where
  -- a was not formed when it was asked; now it is, and both others hold the lock for it
  pub formed_a : is_formed three_nodes denied 0 ≡ true
  pub held_b : holder_at denied 1 g ≡ Some lock_ref
  pub held_c : holder_at denied 2 g ≡ Some lock_ref
  pub free_a : holder_at denied 0 g ≡ None
  -- no update begins: the command waits
  pub waits : (denied.node 0).stages (op_at 1) ≡ Waiting (update.Create g)
  pub unanswered : answers_of denied 0 ≡ []
  pub history : history g denied.reported ≡ []
  -- then both are freed
  pub freed_b : holder_at freed 1 g ≡ None
  pub freed_c : holder_at freed 2 g ≡ None

-- Another node denies the lock that the caller has granted itself.
pub record DeniedByAnother (g : Term) (granted denied : FrameWorld) : Type 0 where
  -- a and c hold the lock for it
  pub held_a : holder_at granted 0 g ≡ Some lock_ref
  pub held_c : holder_at granted 2 g ≡ Some lock_ref
  pub unformed_b : is_formed three_nodes denied 1 ≡ false
  -- no update begins: the command waits, and both are freed
  pub waits : (denied.node 0).stages (op_at 1) ≡ Waiting (update.Create g)
  pub unanswered : answers_of denied 0 ≡ []
  pub history : history g denied.reported ≡ []
  pub free_a : holder_at denied 0 g ≡ None
  pub free_b : holder_at denied 1 g ≡ None
  pub free_c : holder_at denied 2 g ≡ None

-- A group is deleted between the look of a join and its lock.
pub record DeleteBetween (g : Term) (w : FrameWorld) : Type 0 where
  -- the join is answered ok all the same
  pub answers_a : answers_of w 0 ≡ is_ok 1 ∷ is_ok 2 ∷ query_answer 3 (command.Members g) (table_of w 0) ∷ []
  pub answers_b : answers_of w 1 ≡ is_ok 1 ∷ query_answer 2 (command.Members g) (table_of w 1) ∷ []
  -- and there is no group
  pub none_a : Reads a (command.Members g) (table_of w 0) (reply.NoSuchGroup g)
  pub none_b : Reads b (command.Members g) (table_of w 1) (reply.NoSuchGroup g)
  pub free_a : holder_at w 0 g ≡ None
  pub free_b : holder_at w 1 g ≡ None
  pub history : history g w.reported
      ≡ stands 0 1 (update.Create g) ∷ stands 1 1 (update.Delete g) ∷ stands 0 2 (update.Join g a1) ∷ []

-- An end is pending until the other node has taken it, and a later join adds nothing.
pub record PendingEnd (g : Term) (pending later : FrameWorld) : Type 0 where
  pub ended_a : (pending.node 0).ended a1 ≡ true
  pub pending_b : (pending.node 1).ended a1 ≡ false
  pub counts_b : has_counts pending 1 g a1 1 ≡ true
  pub ended_b : (later.node 1).ended a1 ≡ true
  pub answers_a : answers_of later 0 ≡ is_ok 1 ∷ []
  pub answers_b : answers_of later 1 ≡ is_ok 1 ∷ []
  -- the group is there, and empty
  pub empty_a : has_counts later 0 g a1 0 ≡ true
  pub empty_b : has_counts later 1 g a1 0 ≡ true
  pub free_a : holder_at later 0 g ≡ None
  pub free_b : holder_at later 1 g ≡ None

-- Two nodes begin with different tables.
pub record InitialTables (g h : Term) (met later : FrameWorld) : Type 0 where
  -- before it is formed a answers from its own groups
  pub first_a : Reads a (command.Members g) (table_of (start (two_tables g)) 0) (reply.Pids (a1 ∷ a1 ∷ []))
  pub answers_a : answers_of later 0
      ≡ query_answer 1 (command.Members g) (table_of (start (two_tables g)) 0) ∷ query_answer 2 (command.Members g) (table_of met 0) ∷ []
  -- then both have the greater count of each process
  pub met_a : Reads a (command.Members g) (table_of met 0) (reply.Pids (a1 ∷ a1 ∷ b1 ∷ []))
  pub met_b : Reads b (command.Members g) (table_of met 1) (reply.Pids (a1 ∷ a1 ∷ b1 ∷ []))
  -- b's create waits, and has no lock at a; tried again, it is answered behind the query
  pub unanswered : answers_of met 1 ≡ query_answer 2 (command.Members g) (table_of met 1) ∷ []
  pub free_met : holder_at met 0 h ≡ None
  pub answers_b : answers_of later 1 ≡ query_answer 2 (command.Members g) (table_of met 1) ∷ is_ok 1 ∷ []
  pub group_a : has_group later 0 h ≡ true
  pub group_b : has_group later 1 h ≡ true

-- A process ends before the update of its join has come to its home.
pub record EndBeatsLateJoin (g : Term) (ended later : FrameWorld) : Type 0 where
  -- b has the process twice, and a no more
  pub ended_b : Reads b (command.Members g) (table_of ended 1) (reply.Pids (a1 ∷ a1 ∷ []))
  pub ended_a : Reads a (command.Members g) (table_of ended 0) (reply.Pids [])
  pub answers_a : answers_of later 0
      ≡ is_ok 1 ∷ query_answer 2 (command.Members g) (table_of ended 0) ∷ query_answer 3 (command.Members g) (table_of later 0) ∷ []
  pub answers_b : answers_of later 1
      ≡ query_answer 2 (command.Members g) (table_of ended 1) ∷ is_ok 1 ∷ query_answer 3 (command.Members g) (table_of later 1) ∷ []
  -- then neither has it
  pub gone_a : Reads a (command.Members g) (table_of later 0) (reply.Pids [])
  pub gone_b : Reads b (command.Members g) (table_of later 1) (reply.Pids [])

-- A process joins twice and leaves once.
pub record JoinTwiceLeaveOnce (g : Term) (joined left : FrameWorld) : Type 0 where
  -- both nodes read it twice, and then once
  pub joined_a : Reads a (command.Members g) (table_of joined 0) (reply.Pids (a1 ∷ a1 ∷ []))
  pub joined_b : Reads b (command.Members g) (table_of joined 1) (reply.Pids (a1 ∷ a1 ∷ []))
  pub left_a : Reads a (command.Members g) (table_of left 0) (reply.Pids (a1 ∷ []))
  pub left_b : Reads b (command.Members g) (table_of left 1) (reply.Pids (a1 ∷ []))
  pub answers_a : answers_of left 0 ≡ is_ok 1 ∷ (2, Given (reply.Made a1))
      ∷ query_answer 3 (command.Members g) (table_of joined 0) ∷ query_answer 4 (command.Members g) (table_of left 0) ∷ []
  pub answers_b : answers_of left 1 ≡ is_ok 1 ∷ is_ok 2 ∷ query_answer 3 (command.Members g) (table_of joined 1)
      ∷ is_ok 4 ∷ query_answer 5 (command.Members g) (table_of left 1) ∷ []

-- A single node creates a group, in one event.
pub record SingleNode (g : Term) (w : FrameWorld) : Type 0 where
  pub answers : answers_of w 0 ≡ is_ok 1 ∷ []
  pub group : has_group w 0 g ≡ true
  pub free : holder_at w 0 g ≡ None
  pub history : history g w.reported ≡ stands 0 1 (update.Create g) ∷ []

-- One of three creates a group.
pub record ChangeOfThree (g : Term) (w : FrameWorld) : Type 0 where
  pub answers_a : answers_of w 0 ≡ is_ok 1 ∷ []
  pub group_a : has_group w 0 g ≡ true
  pub group_b : has_group w 1 g ≡ true
  pub group_c : has_group w 2 g ≡ true
  pub free_a : holder_at w 0 g ≡ None
  pub free_b : holder_at w 1 g ≡ None
  pub free_c : holder_at w 2 g ≡ None
  pub history : history g w.reported ≡ stands 0 1 (update.Create g) ∷ []
  -- nothing is on the way to b or c any more
  pub none_to_b : w.wire 0 1 ≡ []
  pub none_to_c : w.wire 0 2 ≡ []
