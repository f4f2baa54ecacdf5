-- The ends that are pending: each is one that the home of its process has and another node has not. Of lost nodes nothing counts.
use Rattle.std.specs.Prelude.{◌≡◌, ℕ, ◌+◌, Bool, true, false, not, ◌&&◌, cond, drop}
use Rattle.std.specs.Prelude.{is_none, length, map, slice_get, List, [], ◌∷◌, ◌++◌, Some}
use Rattle.std.specs.Borrow.{Bor}
use Rattle.std.specs.List.{filter, list_all, list_any}
use Rattle.std.specs.Option.{option_map_or}
use Rattle.pg_term.specs.declared.pid.Pid.{Pid}
use Rattle.pg_term.specs.declared.term.Term.{Term}
use Rattle.pg_node_state.specs.PgGroup.declared.table.GroupTable.{Ghosts}
use Rattle.pg_node_state.specs.PgEnds.Numbers.{first_pids}
use Rattle.pg_node_state.specs.PgStep.Machines.Places.{is_place}
use Rattle.pg_node_state.specs.PgStep.Config.{Config, name_at}
use Rattle.pg_node_state.specs.PgStep.LossLaws.{LosingFrameWorld}
use Rattle.pg_node_state.specs.PgStep.Nodes.{Node}
use Rattle.pg_node_state.specs.declared.state.NodeState.{NodeState}
use Rattle.pg_node_state.specs.PgNodeOpens.Places.{name_at as place_name}
use Rattle.pg_world_account.specs.Losses.{is_lost}
use Rattle.pg_world_config.specs.Seen.{Seen, seen_of}

-- ---- in a world with losses

-- The end of a process is pending: its home has it, which is not lost, and some node has not that is not lost either.
pub record IsPending (config : Config) (u : LosingFrameWorld) (pid : Pid) : Type 0 where
  pub home : ℕ
  pub home_there : is_place (length config) home ≡ true
  pub home_left : u.gone home ≡ false
  pub named : pid.node ≡ name_at config home
  pub ended : (u.world.node home).state.ended pid ≡ true
  pub other : ℕ
  pub other_there : is_place (length config) other ≡ true
  pub other_left : u.gone other ≡ false
  pub untaken : (u.world.node other).state.ended pid ≡ false

-- ---- as nodes are seen

-- of some nodes, the first of which is at this place, those that are not lost
abbrev pub live_from : ℕ → List Seen → List ℕ → List Seen
live_from place [] lost = []
live_from place (node ∷ nodes) lost = cond (is_lost lost place) (live_from (place + 1) nodes lost) (node ∷ live_from (place + 1) nodes lost)

-- nodes that are lent, as they are seen
abbrev pub lent_as : {T : Type 0} {g : Ghosts T} → List (Bor (NodeState T g)) → List Seen
lent_as nodes = map (λ node. seen_of node.now) nodes

-- the nodes of a world that are not lost
abbrev pub live_states : List Seen → List ℕ → List Seen
live_states nodes lost = live_from 0 nodes lost

-- the name of a node
abbrev pub own_of : Seen → Node
own_of node = place_name node.names 0

-- the node has taken the end of a process
abbrev pub has_end : Seen → Pid → Bool
has_end node pid = node.state.state.ended pid

-- one of the nodes has not taken the end of a process
abbrev pub is_untaken : List Seen → Pid → Bool
is_untaken left pid = list_any (λ node. not (has_end node pid)) left

-- the home has the end, and one of the live nodes has not
abbrev pub is_pending : List Seen → Seen → Pid → Bool
is_pending left home pid = has_end home pid && is_untaken left pid

-- the processes that a node has made whose end is pending
abbrev pub pending_at : List Seen → Seen → List Pid
pending_at left home = filter (is_pending left home) (first_pids (own_of home) home.state.state.processes)

-- those of some of the live nodes
abbrev pub pending_among : List Seen → List Seen → List Pid
pending_among left [] = []
pending_among left (home ∷ homes) = pending_at left home ++ pending_among left homes

-- The ends that are pending where nodes are as they are seen, of which these are lost: home by home, and at each by number.
abbrev pub pending_of : List Seen → List ℕ → List Pid
pending_of nodes lost = pending_among (live_states nodes lost) (live_states nodes lost)

-- ---- what nodes agree on, as they are seen

-- a node that has seen no loss has formed: it took the exchange of each of its peers, who stand behind its own name
abbrev pub has_formed : Seen → Bool
has_formed node = list_all node.state.state.merged (drop 1 node.names)

-- the node at a place sees the lock of a group free
abbrev pub sees_free : List Seen → ℕ → Term → Bool
sees_free nodes x name = option_map_or (λ node. is_none (node.state.state.locks name)) (slice_get nodes x) false

-- formed nodes have the same of a group
abbrev pub AgreeOn : List Seen → Term → Type 0
AgreeOn nodes name = (i j : ℕ) (one other : Seen) → slice_get nodes i ≡ Some one → slice_get nodes j ≡ Some other → has_formed one ≡ true → has_formed other ≡ true
    → one.state.state.table name ≡ other.state.state.table name
