-- Nodes are alike where they are seen as the same but for their clocks.
use Rattle.std.proofs.Common.{◌≡◌, ap}
use Rattle.pg_node_state.specs.PgGroup.declared.table.GroupTable.{Ghosts}
use Rattle.pg_node_state.specs.declared.state.NodeState.{NodeState}
use Rattle.pg_node_state.specs.Same.{AreAlike}
use Rattle.pg_world_packets.specs.Alike.{without_clock}
use Rattle.pg_world_config.specs.Seen.{Seen, seen_of}

module _ {T : Type 0} {g : Ghosts T} (one other : NodeState T g) where
  pub seen_alike : AreAlike one other → without_clock (seen_of one) ≡ without_clock (seen_of other)
  seen_alike h = λ i. record { names = h.names i; ports = h.ports i; state = record { clock = 0; state = h.kept i }; answers = h.answers i }

  pub alike_seen : without_clock (seen_of one) ≡ without_clock (seen_of other) → AreAlike one other
  alike_seen e = record {
    names = ap (λ (s : Seen). s.names) e;
    kept = ap (λ (s : Seen). s.state.state) e;
    ports = ap (λ (s : Seen). s.ports) e;
    answers = ap (λ (s : Seen). s.answers) e;
  }
