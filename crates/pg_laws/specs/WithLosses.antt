-- What runs in which nodes are lost keep, as records. The laws of pg_laws_losses prove them.
--
-- The history of a group, the answers and the entries are the words of runs without a loss, read of what the nodes reported:
-- where a node was lost while it alone was waited for, the command's last grant, and so its entry, comes with the retry that
-- goes on.
use Rattle.std.specs.Prelude.{◌≡◌, ◌⊎◌, ℕ, ◌+◌, ◌<◌, ◌≤◌, Bool, true, false, ◌||◌, ◌&&◌}
use Rattle.std.specs.Prelude.{cond, nat_eq, length, List, [], ◌∷◌, ◌++◌, map, Some}
use Rattle.std.specs.List.{list_any}
use Rattle.pg_term.specs.declared.pid.Pid.{Pid}
use Rattle.pg_term.specs.declared.term.Term.{Term}
use Rattle.pg_term.specs.RefParts.{RefParts}
use Rattle.pg_term.specs.Same.{same_atom}
use Rattle.pg_step.specs.PgGroup.Value.{less}
use Rattle.pg_step.specs.Machines.Losing.{Lose, LosingEvent, LosingLeads, nobody_gone}
use Rattle.pg_step.specs.Machines.Machine.{start_of}
use Rattle.pg_step.specs.Machines.Places.{is_place}
use Rattle.pg_step.specs.Config.{Config, name_at, names_of, nodes_at}
use Rattle.pg_step.specs.FrameMachine.{last_notice, losing_frame_machine}
use Rattle.pg_step.specs.LossLaws.{LosingFrameWorld}
use Rattle.pg_step.specs.State.{formed}
use Rattle.pg_step.specs.Step.{Action}
use Rattle.pg_laws.specs.History.{Entry, answered_count, base, history, replay, updates_of}

-- ---- worlds

-- the loss of node p was seen by node i
abbrev pub has_seen : Config → LosingFrameWorld → ℕ → ℕ → Bool
has_seen config w i p = (w.world.node i).state.lost (name_at config p)

-- the process is of a node whose loss node i has seen
abbrev pub is_of_lost : Config → LosingFrameWorld → ℕ → Pid → Bool
is_of_lost config w i pid = list_any (λ name. same_atom name pid.node && (w.world.node i).state.lost name) (names_of config)

-- No end is pending among the live nodes: one that its home has, where the home is not lost, each node has that is
-- not lost.
abbrev pub NonePendingLive : Config → LosingFrameWorld → Type 0
NonePendingLive config w = (home i : ℕ) (pid : Pid) → is_place (length config) home ≡ true → is_place (length config) i ≡ true
    → w.gone home ≡ false → w.gone i ≡ false
    → pid.node ≡ name_at config home → (w.world.node home).state.ended pid ≡ true → (w.world.node i).state.ended pid ≡ true

-- ---- thinned histories

-- entries, each with a mark that says whether it stays
abbrev pub Marked : Type 0
Marked = List (Entry × Bool)

abbrev pub all_entries : Marked → List Entry
all_entries marked = map (λ m. m.0) marked

abbrev pub left_of : Marked → List Entry
left_of [] = []
left_of (m ∷ ms) = cond m.1 (m.0 ∷ left_of ms) (left_of ms)

-- how many entries of a node are left out
abbrev pub left_out : ℕ → Marked → ℕ
left_out node [] = 0
left_out node (m ∷ ms) = cond (nat_eq m.0.node node && cond m.1 false true) 1 0 + left_out node ms

-- Some entries left out of others: of each node one at most, and none of a node that is not among these.
pub record Thinned (thin whole : List Entry) (among : ℕ → Bool) : Type 0 where
  pub marked : Marked
  pub all : all_entries marked ≡ whole
  pub stay : left_of marked ≡ thin
  pub few : (node : ℕ) → left_out node marked ≤ cond (among node) 1 0

-- ---- what live nodes have

-- What a node that is not lost has of a group.
pub record HasThinned (config : Config) (w : LosingFrameWorld) (i : ℕ) (name : Term) : Type 0 where
  -- the history, or all of it but its last entry, with at most one entry left out of each node whose loss was seen
  pub before : List Entry
  pub whole : (before ≡ history name w.world.reported) ⊎ ((last : Entry) × (before ++ last ∷ [] ≡ history name w.world.reported))
  pub thin : List Entry
  pub thinned : Thinned thin before (has_seen config w i)
  -- once it is formed its table is what they make of what all began with, less the ended, the processes of lost nodes among
  -- them
  pub table : formed (nodes_at config i) (w.world.node i).state ≡ true → (w.world.node i).state.table name
      ≡ less (replay (base config name) (updates_of thin)) (λ pid. (w.world.node i).state.ended pid || is_of_lost config w i pid)
  -- no answered update is left out, also none of a lost node
  pub answered : (e : Entry) (first rest : List Entry) → history name w.world.reported ≡ first ++ e ∷ rest
      → 0 < answered_count e.node e.op w.world.reported → (kept : List Entry) × (later : List Entry) × (thin ≡ kept ++ e ∷ later)

-- No lock is held for a node whose loss was seen.
abbrev pub NoLockOfLost : LosingFrameWorld → ℕ → Type 0
NoLockOfLost w i = (name : Term) (holder : RefParts) → (w.world.node i).state.locks name ≡ Some holder → (w.world.node i).state.lost holder.node ≡ false

-- every node was formed when the first was lost
abbrev pub FormedAtLosses : Config → List (LosingEvent Action) → Type 0
FormedAtLosses config events = (before after : List (LosingEvent Action)) (node : ℕ) (keep : ℕ → ℕ) (w : LosingFrameWorld) (i : ℕ)
    → events ≡ before ++ Lose node keep ∷ after
    → LosingLeads (losing_frame_machine config) last_notice (nobody_gone (start_of (losing_frame_machine config))) before w
    → is_place (length config) i ≡ true → formed (nodes_at config i) (w.world.node i).state ≡ true

-- What live nodes have, where every node was formed at the first loss.
pub record HasTablesPastLosses (config : Config) (events : List (LosingEvent Action)) (w : LosingFrameWorld) : Type 0 where
  pub tables : (i : ℕ) (name : Term) → is_place (length config) i ≡ true → w.gone i ≡ false → HasThinned config w i name
  -- and where some node is lost, each is formed
  pub all_formed : (i p : ℕ) → is_place (length config) i ≡ true → w.gone p ≡ true → formed (nodes_at config i) (w.world.node i).state ≡ true
