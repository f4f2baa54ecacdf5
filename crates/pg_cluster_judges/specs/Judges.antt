-- What a cluster that has ended is judged by.
use Rattle.std.specs.Prelude.{◌≡◌, ℕ, nat_eq, Bool, true, false, not, ◌&&◌, List, Some, is_none, is_some, slice_get}
use Rattle.std.specs.declared.vec.Vec.{Vec}
use Rattle.std.specs.declared.alloc.Global.{Global}
use Rattle.std.specs.List.{All, list_all, list_any}
use Rattle.pg_term.specs.declared.pid.Pid.{Pid}
use Rattle.pg_term.specs.declared.term.Term.{Term}
use Rattle.pg_world.specs.PgGroup.declared.table.GroupTable.{Ghosts}
use Rattle.pg_world.specs.PgNode.declared.node.Node.{Node}
use Rattle.pg_world.specs.PgNode.Nodes.{held_by}
use Rattle.pg_world.specs.PgNodeState.States.{kept_by, live_of}
use Rattle.pg_node_run.specs.declared.log.NodeEvent.{NodeEvent}
use Rattle.pg_node_run.specs.declared.log.NodeEvent.TheVariants as events
use Rattle.pg_world.specs.PgStep.declared.command.Command.TheVariants.{Finish}
use Rattle.pg_world.specs.PgStep.State.{State, formed}
use Rattle.pg_world.specs.PgStep.Config.{Config}
use Rattle.pg_world.specs.PgWorldPackets.declared.step.FrameStep.{FrameStep}
use Rattle.pg_world.specs.Crossings.{node_of}
use Rattle.pg_cluster_judges.specs.ApartWithLosses.{nodes_in}
use Rattle.pg_world.specs.PgWorldPackets.Past.{RanFrames}
use Rattle.pg_world.specs.PgWorldConfig.Seen.{Seen}
use Rattle.pg_world.specs.PgWorldPackets.Worlds.{ShowsNode}

-- one of the steps that have these numbers was refused since memory ran out
abbrev pub ran_out : List ℕ → Bool
ran_out numbers = list_any (λ number. nat_eq number 10) numbers

-- each of the steps that have these numbers was made, or took nothing where nothing was on the way
abbrev pub all_made : List ℕ → Bool
all_made numbers = list_all (λ number. nat_eq number 0) numbers

module _ {T : Type 0} {g : Ghosts T} where
  -- each node is seen as the one at its place
  abbrev pub AreShown : List Seen → List (Node T g) → Type 0
  AreShown seen nodes = (i : ℕ) (node : Node T g) → slice_get nodes i ≡ Some node → slice_get seen i ≡ Some (node_of node)

  -- The schedule, made step by step from the start of the configuration, leads to a world with losses of which all holds that a run
  -- tells (`RanFrames`), and each of these nodes is the node at its place there. Each step was made.
  pub record Replays (given : Config) (schedule : List FrameStep) (nodes : List (Node T g)) : Type 0 where
    pub numbers : List ℕ
    pub made : all_made numbers ≡ true
    pub ran : RanFrames given schedule numbers (λ config u. (i : ℕ) (node : Node T g) → slice_get nodes i ≡ Some node → ShowsNode config (nodes_in u) i (node_of node))

  -- ---- one opinion

  abbrev pub state_in : Node T g → State
  state_in node = kept_by (held_by node)

  abbrev pub formed_in : Node T g → Bool
  formed_in node = formed (live_of (held_by node)) (state_in node)

  -- one of these nodes sees the lock of the group free
  abbrev pub is_seen_free : List (Node T g) → Term → Bool
  is_seen_free nodes name = list_any (λ node. is_none ((state_in node).locks name)) nodes

  -- one of these nodes has taken the end of the process, and not each
  abbrev pub is_taken_by_some : List (Node T g) → Pid → Bool
  is_taken_by_some nodes pid = list_any (λ node. (state_in node).ended pid) nodes && not (list_all (λ node. (state_in node).ended pid) nodes)

  -- the event is such an end
  abbrev pub is_pending_end : List (Node T g) → NodeEvent → Bool
  is_pending_end nodes (events.Command port (Finish pid)) = is_taken_by_some nodes pid
  is_pending_end nodes event = false

  -- these logs tell of such an end
  abbrev pub is_end_pending : List (Node T g) → List (Vec (ℕ × NodeEvent) Global) → Bool
  is_end_pending nodes logs = list_any (λ log. list_any (λ entry. is_pending_end nodes entry.1) log.items) logs

  -- two nodes have the same of the group, or the second is not formed
  abbrev pub HasAs : Node T g → Term → Node T g → Type 0
  HasAs x name y = formed_in y ≡ true → (state_in x).table name ≡ (state_in y).table name

  -- a node has the same as each of these nodes that is formed, of each of its groups whose lock one of them sees free
  abbrev pub AgreesWith : List (Node T g) → Node T g → Type 0
  AgreesWith nodes x = (name : Term) → is_some ((state_in x).table name) ≡ true → is_seen_free nodes name ≡ true → All (HasAs x name) nodes

  -- formed nodes have the same of each group whose lock one node sees free
  abbrev pub AreOne : List (Node T g) → Type 0
  AreOne nodes = All (λ x. formed_in x ≡ true → (name : Term) → is_seen_free nodes name ≡ true → All (HasAs x name) nodes) nodes

  -- they do, where no end is pending
  abbrev pub Agree : List (Node T g) → List (Vec (ℕ × NodeEvent) Global) → Type 0
  Agree nodes logs = is_end_pending nodes logs ≡ false → AreOne nodes
