-- Whether the nodes of a cluster that were not lost came to one opinion.
use Rattle.std.specs.Prelude.{◌≡◌, ℕ, zero, suc, nat_eq, Bool, true, false, not}
use Rattle.std.specs.Prelude.{◌&&◌, ◌||◌, List, [], ◌∷◌, get_or, is_some, length, map}
use Rattle.std.specs.declared.vec.Vec.{Vec}
use Rattle.std.specs.declared.alloc.Global.{Global}
use Rattle.std.specs.List.{All, list_any}
use Rattle.pg_term.specs.declared.term.Term.{Term}
use Rattle.pg_term.specs.Same.{same_term}
use Rattle.pg_world.specs.PgGroup.declared.table.GroupTable.{Ghosts}
use Rattle.pg_world.specs.PgWorldPackets.Views.{peer_place}
use Rattle.pg_world.specs.PgNode.declared.node.Node.{Node}
use Rattle.pg_node_run.specs.declared.log.NodeEvent.{NodeEvent}
use Rattle.pg_node_run.specs.declared.log.NodeEvent.TheVariants as events
use Rattle.pg_world.specs.PgStep.declared.command.Command.{Command}
use Rattle.pg_world.specs.PgStep.declared.command.Command.TheVariants as commands
use Rattle.pg_cluster_judges.specs.Judges.{HasAs, formed_in, is_end_pending, is_seen_free, state_in}

-- ---- which nodes were not lost

-- whether the node at a place was lost
abbrev pub was_lost : List Bool → ℕ → Bool
was_lost lost place = get_or lost place false

-- of a list with an element for each node, those of the nodes that were not lost
abbrev pub survivors : {A : Type 0} → List Bool → List A → List A
survivors lost [] = []
survivors [] (x ∷ xs) = x ∷ survivors [] xs
survivors (true ∷ lost) (x ∷ xs) = survivors lost xs
survivors (false ∷ lost) (x ∷ xs) = x ∷ survivors lost xs

-- one of the places before this one is such
abbrev pub any_before : (ℕ → Bool) → ℕ → Bool
any_before f zero = false
any_before f (suc n) = any_before f n || f n

-- ---- what their logs tell

abbrev pub Log : Type 0
Log = Vec (ℕ × NodeEvent) Global

-- the log of the node at a place
abbrev pub log_at : List Log → ℕ → List (ℕ × NodeEvent)
log_at logs place = get_or (map (λ log. log.items) logs) place []

-- the event is that the loss of the peer at a place is seen
abbrev pub is_loss_of : ℕ → NodeEvent → Bool
is_loss_of place (events.SeeLoss peer) = nat_eq peer place
is_loss_of place event = false

-- the event is that a packet of the peer at a place is taken
abbrev pub is_take_of : ℕ → NodeEvent → Bool
is_take_of place (events.Take peer) = nat_eq peer place
is_take_of place event = false

-- the command asks for an update of the group
abbrev pub asks_of : Term → Command → Bool
asks_of name (commands.Create group) = same_term group name
asks_of name (commands.Delete group) = same_term group name
asks_of name (commands.Join group pid) = same_term group name
asks_of name (commands.Leave group pid) = same_term group name
asks_of name command = false

-- the event is a command that asks for an update of the group
abbrev pub is_change_of : Term → NodeEvent → Bool
is_change_of name (events.Command port command) = asks_of name command
is_change_of name event = false

-- a log has such an event
abbrev pub has_event : (NodeEvent → Bool) → List (ℕ × NodeEvent) → Bool
has_event wanted log = list_any (λ entry. wanted entry.1) log

-- one of the nodes that were not lost has in its log no such event of the peer that is the node at this place
abbrev pub is_missing : (ℕ → NodeEvent → Bool) → List Bool → List Log → ℕ → Bool
is_missing wanted lost logs node =
    any_before (λ place. not (was_lost lost place) && not (has_event (wanted (peer_place place node)) (log_at logs place))) (length logs)

-- a loss is pending: one of the nodes that were not lost has not seen it
abbrev pub is_loss_pending : List Bool → List Log → Bool
is_loss_pending lost logs = any_before (λ node. was_lost lost node && is_missing is_loss_of lost logs node) (length logs)

-- A lost node was asked for an update of the group, or some of the others took no packet of it, and so not what it told at first.
abbrev pub is_touched_by_lost : List Bool → List Log → Term → Bool
is_touched_by_lost lost logs name =
    any_before (λ node. was_lost lost node && (has_event (is_change_of name) (log_at logs node) || is_missing is_take_of lost logs node)) (length logs)

-- ---- one opinion

module _ {T : Type 0} {g : Ghosts T} where
  -- the group is compared: one of these nodes sees its lock free, and it is not of a lost node
  abbrev pub is_compared : List (Node T g) → List Bool → List Log → Term → Bool
  is_compared nodes lost logs name = is_seen_free nodes name && not (is_touched_by_lost lost logs name)

  -- a node has the same as each of these nodes that is formed, of each of its groups that is compared
  abbrev pub AgreesOf : (Term → Bool) → List (Node T g) → Node T g → Type 0
  AgreesOf compared nodes x = (name : Term) → is_some ((state_in x).table name) ≡ true → compared name ≡ true → All (HasAs x name) nodes

  -- formed nodes have the same of each group that is compared
  abbrev pub AreOneOf : (Term → Bool) → List (Node T g) → Type 0
  AreOneOf compared nodes = All (λ x. formed_in x ≡ true → (name : Term) → compared name ≡ true → All (HasAs x name) nodes) nodes

  -- the nodes that were not lost do, where no loss and no end of a process is pending among them
  abbrev pub SurvivorsAgree : List (Node T g) → List Bool → List Log → Type 0
  SurvivorsAgree nodes lost logs =
      is_loss_pending lost logs ≡ false → is_end_pending (survivors lost nodes) logs ≡ false
      → AreOneOf (is_compared (survivors lost nodes) lost logs) (survivors lost nodes)

  -- ---- the same tables

  abbrev pub HasSame : Node T g → Node T g → Type 0
  HasSame x y = (state_in x).table ≡ (state_in y).table

  -- each of these nodes has the same table as each
  abbrev pub HaveSame : List (Node T g) → Type 0
  HaveSame nodes = All (λ x. All (HasSame x) nodes) nodes
