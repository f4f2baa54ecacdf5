-- What a process keeps, as plain data.
use Rattle.std.specs.Prelude.{ℕ, zero, suc, nat_eq, List, [], ◌∷◌}
use Rattle.pg_node.specs.Links.{Link}
use Rattle.pg_node.specs.Nodes.{held_by, links_of}
use Rattle.pg_node.specs.PgGroup.Functions.{upd}
use Rattle.pg_node.specs.PgGroup.Table.{Table}
use Rattle.pg_node.specs.PgNodeOpens.Places.{name_at}
use Rattle.pg_node.specs.PgNodeState.Issued.{ports_of}
use Rattle.pg_node.specs.PgNodeState.States.{names_of, state_of, answers_of}
use Rattle.pg_node.specs.PgStep.Nodes.{Node}
use Rattle.pg_node_process.specs.declared.retries.Courtesy.{Courtesy}
use Rattle.pg_node_process.specs.Desks.{Port, nothing_came, port_of}
use Rattle.pg_node_process.specs.Retries.{at_first}
use Rattle.pg_node_run.specs.Acts.{Standing}
use Rattle.pg_process.specs.declared.process.Process.{Process}
use Rattle.pg_process.specs.declared.process.Told.{Told}

-- the names of the nodes of the set, the own one first, and how many ports the node has
pub record Setting : Type 0 where
  pub names : List Node
  pub ports : ℕ

abbrev pub own_of : Setting → Node
own_of set = name_at set.names 0

-- The node, with the answers that it gave and that were not said; what stands in its links; the requests of each port, and how the port gives
-- way; how many bodies came; and what the host was told once, and is told.
pub record Situation : Type 0 where
  pub node : Standing
  pub links : ℕ → Link
  pub ports : ℕ → Port
  pub courtesies : ℕ → Courtesy
  pub came : ℕ
  pub told : Told

-- the groups of the node
abbrev pub table_of : Situation → Table
table_of a = a.node.state.state.table

-- what is seen of each thing of a list, by its place
abbrev pub seen_in : {A B : Type 0} → (A → B) → B → List A → ℕ → B
seen_in see none [] place = none
seen_in see none (x ∷ xs) zero = see x
seen_in see none (x ∷ xs) (suc n) = seen_in see none xs n

-- what stands at one place is another
abbrev pub at_place : {A : Type 0} → ℕ → (A → A) → (ℕ → A) → ℕ → A
at_place place change things = upd nat_eq things place (change (things place))

-- ---- by the code

abbrev pub setting_of : Process → Setting
setting_of process = record { names = names_of (held_by process.node); ports = ports_of (held_by process.node) }

abbrev pub situation_of : Process → Situation
situation_of process = record {
  node = record { state = state_of (held_by process.node); answers = answers_of (held_by process.node) };
  links = links_of process.node;
  ports = seen_in port_of nothing_came process.desks.items;
  courtesies = seen_in (λ c. c) at_first process.courtesies.items;
  came = process.came;
  told = process.told;
}
