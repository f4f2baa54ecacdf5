-- Worked examples of losses: lists of events, and what they lead to. Clocks are left out, but in the last.
use Rattle.std.specs.Prelude.{◌≡◌, ℕ, Bool, true, false, not, ◌||◌, cond, nat_eq, length}
use Rattle.std.specs.Prelude.{List, [], ◌∷◌, ◌++◌, map, Option, Some, None, is_some}
use Rattle.pg_term.specs.declared.term.Term.{Term}
use Rattle.pg_laws.specs.PgGroup.Value.{count_in}
use Rattle.pg_laws.specs.PgGroup.declared.update.Update.TheVariants as update
use Rattle.pg_laws.specs.PgMessageTypes.declared.message.Message.{Message}
use Rattle.pg_laws.specs.PgMessageTypes.declared.message.Message.TheVariants.{Call}
use Rattle.pg_laws.specs.PgMessageTypes.declared.message.Request.TheVariants.{SetLock}
use Rattle.pg_laws.specs.PgStep.declared.answer.Reply.TheVariants as reply
use Rattle.pg_laws.specs.PgStep.declared.command.Command.TheVariants as command
use Rattle.pg_laws.specs.PgStep.Commands.{Reads}
use Rattle.pg_laws.specs.PgStep.Machines.Places.{is_pair, set_at}
use Rattle.pg_laws.specs.PgStep.Machines.Machine.{Event, Take, start_of}
use Rattle.pg_laws.specs.PgStep.State.{State, live_nodes}
use Rattle.pg_laws.specs.PgStep.State.Stage.{Waiting}
use Rattle.pg_laws.specs.PgStep.Attempts.{is_complete}
use Rattle.pg_laws.specs.PgStep.Turns.{Report}
use Rattle.pg_laws.specs.PgStep.Step.{Action}
use Rattle.pg_laws.specs.PgStep.declared.refusal.Refusal.{Refusal}
use Rattle.pg_laws.specs.PgStep.declared.refusal.Refusal.TheVariants.{NoSuchPlace, NodeLost, NotLost, NotDrained, ClockFull}
use Rattle.pg_laws.specs.PgStep.Machines.Losing.{Noticed, Sent, Last, LosingWorld, LosingEvent, Step, Lose, LosingLeads, nobody_gone}
use Rattle.pg_laws.specs.PgStep.LossLaws.{LosingFrameWorld as TimedLosingFrames}
use Rattle.pg_laws.specs.PgStep.LossLaws.{see_refusal as timed_see_refusal, lose_refusal as timed_lose_refusal}
use Rattle.pg_laws.specs.PgStep.Config.{Config, name_at, nodes_at}
use Rattle.pg_laws.specs.PgStep.FrameMachine.{losing_machine_of, losing_frame_machine, last_notice}
use Rattle.pg_laws.specs.History.{history, answers_by}
use Rattle.pg_laws_examples.specs.Examples.{node, a, b, a1, b1, at, again, is_ok, op_at, query_answer, stands}
use Rattle.pg_laws_examples.specs.Examples.{two_meet, two_nodes, three_nodes, three_meet, lock_ref}
use Rattle.pg_laws.specs.PgStep.Faults.{first_that_holds}

-- ---- words

abbrev pub LosingFrameWorld : Type 0
LosingFrameWorld = LosingWorld State (Noticed Message) Report

abbrev pub the_last : State → Noticed Message
the_last s = Last

abbrev pub losing_start : Config → LosingFrameWorld
losing_start config = nobody_gone (start_of (losing_machine_of config))

-- each of the events happens
abbrev pub Come : Config → LosingFrameWorld → List (LosingEvent Action) → LosingFrameWorld → Type 0
Come config w events v = LosingLeads (losing_machine_of config) the_last w events v

abbrev pub steps : List (Event Action) → List (LosingEvent Action)
steps events = map Step events

-- node i sees the loss of node p
abbrev pub sees : ℕ → ℕ → LosingEvent Action
sees i p = Step (Take i p)

abbrev pub is_last : List (Noticed Message) → Bool
is_last (Last ∷ rest) = true
is_last _ = false

-- why node i does not see the loss of node p now
abbrev pub see_refusal : Config → LosingFrameWorld → ℕ → ℕ → Option Refusal
see_refusal config w i p = first_that_holds (
    (not (is_pair (length config) i p), NoSuchPlace) ∷ (w.gone i || (w.world.node i).lost (name_at config p), NodeLost)
    ∷ (not (w.gone p), NotLost) ∷ (not (is_last (w.world.wire p i)), NotDrained) ∷ [])

-- ---- what they come to

-- A retry goes on once the greatest, which was asked alone, is lost.
pub record ReadyByLoss (g : Term) : Type 0 where
  pub seen : LosingFrameWorld
  pub tried : LosingFrameWorld
  pub done : LosingFrameWorld
  -- a asks c, which is lost
  pub first : Come three_nodes (losing_start three_nodes)
      (steps three_meet ++ steps (at 0 (command.Create g) ∷ []) ++ Lose 2 (λ y. 0) ∷ sees 0 2 ∷ []) seen
  -- seeing the loss sends nothing; the retry asks b under the same reference
  pub second : Come three_nodes seen (steps (again 0 1 ∷ [])) tried
  pub none_sent : seen.world.wire 0 1 ≡ []
  pub one_sent : tried.world.wire 0 1 ≡ Sent (Call lock_ref (SetLock g)) ∷ []
  -- b sees the loss, and the create ends
  pub third : Come three_nodes tried (sees 1 2 ∷ steps (Take 1 0 ∷ Take 0 1 ∷ Take 1 0 ∷ Take 0 1 ∷ Take 1 0 ∷ [])) done
  pub answers_a : answers_by 0 done.world.reported 0 ≡ is_ok 1 ∷ []
  pub group_b : is_some ((done.world.node 1).table g) ≡ true

-- A command is ready, and holds the lock of its group: another is denied until it is tried again.
pub record HeldUntilRetry (g : Term) : Type 0 where
  pub seen : LosingFrameWorld
  pub denied : LosingFrameWorld
  pub done : LosingFrameWorld
  -- c has granted a, and so has a itself; b is lost before it answers, and both see it
  pub first : Come three_nodes (losing_start three_nodes)
      (steps three_meet ++ steps (at 0 (command.Create g) ∷ Take 2 0 ∷ Take 0 2 ∷ []) ++ Lose 1 (λ y. 0) ∷ sees 0 1 ∷ sees 2 1 ∷ []) seen
  pub ready : is_complete (live_nodes (nodes_at three_nodes 0) (seen.world.node 0)) ((seen.world.node 0).uses 1) ≡ true
  pub held_c : (seen.world.node 2).locks g ≡ Some lock_ref
  -- a create at c is denied, and waits
  pub second : Come three_nodes seen (steps (at 2 (command.Create g) ∷ [])) denied
  pub waits_c : (denied.world.node 2).stages (op_at 1) ≡ Waiting (update.Create g)
  -- the retry begins the update of a, which ends and frees the lock
  pub third : Come three_nodes denied (steps (again 0 1 ∷ Take 2 0 ∷ Take 0 2 ∷ Take 2 0 ∷ [])) done
  pub answers_a : answers_by 0 done.world.reported 0 ≡ is_ok 1 ∷ []
  pub free_a : (done.world.node 0).locks g ≡ None
  pub free_c : (done.world.node 2).locks g ≡ None
  pub history : history g done.world.reported ≡ stands 0 1 (update.Create g) ∷ []

-- An update of a lost node comes to one of the others, and is taken there before the loss is seen.
pub record Drained (g : Term) : Type 0 where
  pub lost : LosingFrameWorld
  pub done : LosingFrameWorld
  -- a has begun its update; the packet to b stays, the one to c does not
  pub first : Come three_nodes (losing_start three_nodes)
      (steps three_meet ++ steps (at 0 (command.Create g) ∷ Take 2 0 ∷ Take 0 2 ∷ Take 1 0 ∷ Take 0 1 ∷ []) ++ Lose 0 (λ y. cond (nat_eq y 1) 1 0) ∷ []) lost
  pub not_drained : see_refusal three_nodes lost 1 0 ≡ Some NotDrained
  -- b takes the update, and then both see the loss
  pub second : Come three_nodes lost (steps (Take 1 0 ∷ []) ++ sees 1 0 ∷ sees 2 0 ∷ []) done
  pub group_b : is_some ((done.world.node 1).table g) ≡ true
  pub none_c : (done.world.node 2).table g ≡ None
  pub history : history g done.world.reported ≡ stands 0 1 (update.Create g) ∷ []

-- A lock that a lost node holds is freed, and the others go on.
pub record LockOfTheLost (g : Term) : Type 0 where
  pub held : LosingFrameWorld
  pub seen : LosingFrameWorld
  pub done : LosingFrameWorld
  pub first : Come three_nodes (losing_start three_nodes) (steps three_meet ++ steps (at 0 (command.Create g) ∷ Take 2 0 ∷ [])) held
  pub held_c : (held.world.node 2).locks g ≡ Some lock_ref
  pub second : Come three_nodes held (Lose 0 (λ y. 0) ∷ sees 2 0 ∷ []) seen
  pub free_c : (seen.world.node 2).locks g ≡ None
  pub third : Come three_nodes seen (sees 1 0 ∷ steps (at 1 (command.Create g) ∷ Take 2 1 ∷ Take 1 2 ∷ Take 2 1 ∷ Take 1 2 ∷ Take 2 1 ∷ [])) done
  pub answers_b : answers_by 1 done.world.reported 0 ≡ is_ok 1 ∷ []
  pub group_b : is_some ((done.world.node 1).table g) ≡ true
  pub group_c : is_some ((done.world.node 2).table g) ≡ true
  pub seen_already : see_refusal three_nodes done 2 0 ≡ Some NodeLost

-- two nodes, each with a process in one group
abbrev pub two_members : Term → Config
two_members g = node a 1 ((g, a1 ∷ []) ∷ []) ∷ node b 1 ((g, b1 ∷ []) ∷ []) ∷ []

-- The processes of a lost node are in no group, and come into none.
pub record MembersOfTheLost (g : Term) : Type 0 where
  pub lost : LosingFrameWorld
  pub seen : LosingFrameWorld
  pub done : LosingFrameWorld
  -- a is lost; b does not know it yet
  pub first : Come (two_members g) (losing_start (two_members g)) (steps two_meet ++ Lose 0 (λ y. 0) ∷ steps (at 1 (command.Members g) ∷ [])) lost
  pub counts_a1 : count_in ((lost.world.node 1).table g) a1 ≡ 1
  pub counts_b1 : count_in ((lost.world.node 1).table g) b1 ≡ 1
  pub read_lost : Reads b (command.Members g) (lost.world.node 1).table (reply.Pids (a1 ∷ b1 ∷ []))
  -- it sees the loss
  pub second : Come (two_members g) lost (sees 1 0 ∷ steps (at 1 (command.Members g) ∷ [])) seen
  pub gone_a1 : count_in ((seen.world.node 1).table g) a1 ≡ 0
  pub stays_b1 : count_in ((seen.world.node 1).table g) b1 ≡ 1
  pub read_seen : Reads b (command.Members g) (seen.world.node 1).table (reply.Pids (b1 ∷ []))
  -- a join of the lost process is answered ok, and adds nothing
  pub third : Come (two_members g) seen (steps (at 1 (command.Join g a1) ∷ at 1 (command.Members g) ∷ [])) done
  pub still_gone : count_in ((done.world.node 1).table g) a1 ≡ 0
  pub still_there : count_in ((done.world.node 1).table g) b1 ≡ 1
  pub read_done : Reads b (command.Members g) (done.world.node 1).table (reply.Pids (b1 ∷ []))
  pub answers_b : answers_by 1 done.world.reported 0
      ≡ query_answer 1 (command.Members g) (lost.world.node 1).table ∷ query_answer 2 (command.Members g) (seen.world.node 1).table
      ∷ is_ok 3 ∷ query_answer 4 (command.Members g) (done.world.node 1).table ∷ []

-- ---- with clocks

abbrev pub TimedLosing : Type 0
TimedLosing = TimedLosingFrames

abbrev pub timed_start : TimedLosing
timed_start = nobody_gone (start_of (losing_frame_machine two_nodes))

abbrev pub ComeTimed : TimedLosing → List (LosingEvent Action) → TimedLosing → Type 0
ComeTimed w events v = LosingLeads (losing_frame_machine two_nodes) last_notice w events v

-- the world, where the clock of b is this
abbrev pub with_clock : ℕ → TimedLosing → TimedLosing
with_clock clock w = record w { world = record w.world { node = set_at w.world.node 1 (record (w.world.node 1) { clock = clock }) } }

-- Who sees a loss is later than the last event of the lost; and what stands in the way of a loss, each refusal in its place.
pub record LossWithClocks : Type 0 where
  pub lost : TimedLosing
  pub drained : TimedLosing
  pub seen : TimedLosing
  -- a makes two processes, and is lost; its exchange stays on the way to b
  pub first : ComeTimed timed_start (steps (at 0 command.Make ∷ at 0 command.Make ∷ []) ++ Lose 0 (λ y. 1) ∷ []) lost
  pub clock_a : (lost.world.node 0).clock ≡ 2
  -- b takes the exchange, and then sees the loss
  pub second : ComeTimed lost (steps (Take 1 0 ∷ [])) drained
  pub third : ComeTimed drained (sees 1 0 ∷ []) seen
  pub clock_b : (seen.world.node 1).clock ≡ 3
  pub lost_b : (seen.world.node 1).state.lost a ≡ true
  -- why a loss is not seen
  pub own : timed_see_refusal two_nodes lost 1 1 ≡ Some NoSuchPlace
  pub not_lost : timed_see_refusal two_nodes timed_start 1 0 ≡ Some NotLost
  pub lost_itself : timed_see_refusal two_nodes lost 0 1 ≡ Some NodeLost
  pub not_drained : timed_see_refusal two_nodes lost 1 0 ≡ Some NotDrained
  pub not_drained_first : timed_see_refusal two_nodes (with_clock 1073741824 lost) 1 0 ≡ Some NotDrained
  pub clock_full : timed_see_refusal two_nodes (with_clock 1073741824 drained) 1 0 ≡ Some ClockFull
  pub last_clock : timed_see_refusal two_nodes (with_clock 1073741823 drained) 1 0 ≡ None
  pub none : timed_see_refusal two_nodes drained 1 0 ≡ None
  pub seen_already : timed_see_refusal two_nodes seen 1 0 ≡ Some NodeLost
  -- why a node is not lost
  pub no_place : timed_lose_refusal two_nodes timed_start 2 (λ y. 0) ≡ Some NoSuchPlace
  pub too_many : timed_lose_refusal two_nodes timed_start 0 (λ y. 2) ≡ Some NoSuchPlace
  pub lost_already : timed_lose_refusal two_nodes lost 0 (λ y. 0) ≡ Some NodeLost
