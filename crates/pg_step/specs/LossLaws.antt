-- Words for the laws of losses.
use Rattle.std.specs.Prelude.{◌≡◌, ℕ, ◌+◌, Bool, true, false, not, ◌&&◌, ◌||◌, max}
use Rattle.std.specs.Prelude.{length, List, [], ◌∷◌, Option, None, Some, is_some}
use Rattle.pg_term.specs.declared.pid.Pid.{Pid}
use Rattle.pg_term.specs.declared.term.Term.{Term}
use Rattle.pg_term.specs.RefParts.{RefParts}
use Rattle.pg_term.specs.Same.{same_atom}
use Rattle.pg_message_types.specs.PgGroup.Value.{count_in}
use Rattle.pg_message_types.specs.declared.message.Message.{Message}
use Rattle.pg_step.specs.Machines.Places.{is_place, is_pair}
use Rattle.pg_step.specs.Machines.Clocked.{Timed, Stamped}
use Rattle.pg_step.specs.Machines.Losing.{Noticed, Sent, Last, LosingWorld, can_keep}
use Rattle.pg_step.specs.declared.command.OpId.{OpId}
use Rattle.pg_step.specs.declared.refusal.Refusal.{Refusal}
use Rattle.pg_step.specs.declared.refusal.Refusal.TheVariants.{NoSuchPlace, NodeLost, NotLost, NotDrained, ClockFull}
use Rattle.pg_step.specs.Config.{Config, name_at}
use Rattle.pg_step.specs.Faults.{first_that_holds}
use Rattle.pg_step.specs.Nodes.{Node}
use Rattle.pg_step.specs.State.{State, Use}
use Rattle.pg_step.specs.State.Status.{Unasked}
use Rattle.pg_step.specs.State.Use.{Locking, Updating}
use Rattle.pg_step.specs.Attempts.{gathered}
use Rattle.pg_step.specs.StepLaws.{is_full}
use Rattle.pg_step.specs.Turns.{Report, NodeTurn, nothing}

-- the world of packets of nodes that can be lost, with clocks
abbrev pub LosingFrameWorld : Type 0
LosingFrameWorld = LosingWorld (Timed State) (Stamped (Noticed Message)) Report

abbrev pub is_notice : {P : Type 0} → Noticed P → Bool
is_notice (Sent x) = false
is_notice Last = true

-- nothing is on the way from a lost node any more but its last notice
abbrev pub way_is_drained : List (Stamped (Noticed Message)) → Bool
way_is_drained [] = false
way_is_drained (x ∷ rest) = is_notice x.packet

-- the clock that taking the first of these sets
abbrev pub clock_after : ℕ → List (Stamped (Noticed Message)) → ℕ
clock_after clock [] = clock
clock_after clock (x ∷ rest) = max clock x.stamp + 1

-- Why node i does not see the loss of node p now, the first that holds.
abbrev pub see_refusal : Config → LosingFrameWorld → ℕ → ℕ → Option Refusal
see_refusal config w i p = first_that_holds (
    (not (is_pair (length config) i p), NoSuchPlace)
    ∷ (w.gone i || (w.world.node i).state.lost (name_at config p), NodeLost)
    ∷ (not (w.gone p), NotLost)
    ∷ (not (way_is_drained (w.world.wire p i)), NotDrained)
    ∷ (is_full (clock_after (w.world.node i).clock (w.world.wire p i)), ClockFull) ∷ [])

-- Why node i is not lost now, with so many packets left on each way from it, the first that holds.
abbrev pub lose_refusal : Config → LosingFrameWorld → ℕ → (ℕ → ℕ) → Option Refusal
lose_refusal config w i keep = first_that_holds (
    (not (is_place (length config) i && can_keep (length config) w.world i keep), NoSuchPlace)
    ∷ (w.gone i, NodeLost) ∷ [])

-- nothing that this node has said is gathered under a reference that is used so, and it is asked no more
abbrev pub Forgotten : Node → Use → Type 0
Forgotten peer (Locking op update first st) = st peer ≡ Unasked
Forgotten peer (Updating op update c replied) = replied peer ≡ false
Forgotten peer used = Unit {0}

-- What a node in the state s has made of the loss of a peer by this turn.
pub record SeesLoss (peer : Node) (s : State) (t : NodeTurn) : Type 0 where
  -- no lock is held by the lost node, and those that others hold stay
  pub freed : (name : Term) (holder : RefParts) → t.state.locks name ≡ Some holder → same_atom peer holder.node ≡ false
  pub held : (name : Term) (holder : RefParts) → s.locks name ≡ Some holder → same_atom peer holder.node ≡ false → t.state.locks name ≡ Some holder
  -- all processes of the lost node have ended, and no other
  pub ended : (pid : Pid) → same_atom peer pid.node ≡ true → t.state.ended pid ≡ true
  pub living : (pid : Pid) → same_atom peer pid.node ≡ false → t.state.ended pid ≡ s.ended pid
  -- they are in no group, the other members stay, and so do the groups
  pub members : (name : Term) (pid : Pid) → same_atom peer pid.node ≡ true → count_in (t.state.table name) pid ≡ 0
  pub others : (name : Term) (pid : Pid) → same_atom peer pid.node ≡ false → count_in (t.state.table name) pid ≡ count_in (s.table name) pid
  pub groups : (name : Term) → is_some (t.state.table name) ≡ is_some (s.table name)
  -- it counts as merged, and counts no more
  pub merged : t.state.merged peer ≡ true
  pub lost : t.state.lost peer ≡ true
  -- what is gathered forgets it, and keeps what the others have said
  pub forgotten : (c : ℕ) → Forgotten peer (t.state.uses c)
  pub gathered : (c : ℕ) (q : Node) → same_atom peer q ≡ false → gathered (t.state.uses c) q ≡ gathered (s.uses c) q
  -- nothing is sent or reported, and the commands stay as they are
  pub silent : (q : Node) → t.sends q ≡ []
  pub none : t.reported ≡ nothing
  pub stages : (op : OpId) → t.state.stages op ≡ s.stages op
  pub counts : (port : ℕ) → t.state.counts port ≡ s.counts port
