use Rattle.std.proofs.Common.{◌≡◌, ◌+◌, ◌∙◌, ℕ, suc, List, length, sym, ap, arith, subst}
use Rattle.pg_node_state.specs.PgGroup.Table.{Table}
use Rattle.pg_node_state.specs.PgStep.Machines.Clocked.{Timed}
use Rattle.pg_node_state.specs.PgNodeOpens.Places.{name_at}
use Rattle.pg_node_state.specs.PgStep.Nodes.{Node}
use Rattle.pg_node_state.specs.PgStep.State.{State}
use Rattle.pg_node.specs.Begun.{BeginsLinked}
use Rattle.pg_node.specs.Nodes.{links_of}
use Rattle.pg_node_state.specs.States.{names_of, state_of}
use Rattle.pg_node.proofs.Linked.{as_ok}
use Rattle.pg_node.proofs.node.Node.new.Goals as goal

one_more : (n : ℕ) → n + 1 ≡ suc n
one_more n = omega arith

pub returns-in-Ok-clause-state : goal.returns-in-Ok-clause-state
returns-in-Ok-clause-state g c = as_ok c.opened.result _ _ (λ node held. ap state_of held ∙ c.in-Ok.ensures.state) c.opened.ensures.state

pub returns-in-Ok-clause-begun : goal.returns-in-Ok-clause-begun
returns-in-Ok-clause-begun g c =
    let state = c.in-Ok.state in
    let peers : ℕ = length c.args.config.peers.items in
    let same : peers + 1 ≡ length (names_of state) = one_more peers ∙ sym (ap (λ (ns : List Node). length ns) c.in-Ok.ensures.names) in
    as_ok c.opened.result _ _ (λ node begins.
    subst (λ (own : Node). BeginsLinked (g.T.GroupTable.contents c.args.table) own peers (links_of node)) (ap (λ (ns : List Node). name_at ns 0) c.in-Ok.ensures.names)
    (subst (λ (table : Table). BeginsLinked table (name_at (names_of state) 0) peers (links_of node)) (ap (λ (s : Timed State). s.state.table) c.in-Ok.ensures.state) begins)) (c.opened.ensures.begun peers same)
