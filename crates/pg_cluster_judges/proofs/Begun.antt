-- What the start shows of nodes that then ran apart, and what their acts lead them to.
use Rattle.std.proofs.Common.{◌≡◌, ◌<◌, ◌-◌, ◌∙◌, ℕ, true, get_or, length, map}
use Rattle.std.proofs.Common.{replicate, List, [], ◌++◌, sym, ap, subst, arith}
use Rattle.std.specs.Prelude.{option_map}
use Rattle.std.specs.List.{IsDistinct}
use Rattle.std.proofs.lemmas.Option.{slice_get-map, slice_get_within, get_or_from_slice_get}
use Rattle.std.proofs.lemmas.List.{get_or-map, get_or-replicate, length-map}
use Rattle.pg_world.specs.PgGroup.declared.table.GroupTable.{Ghosts}
use Rattle.pg_world.specs.PgStep.Machines.Machine.{start_of}
use Rattle.pg_world.specs.PgStep.Machines.Places.{is_pair}
use Rattle.pg_world.specs.PgNode.declared.node.Node.{Node}
use Rattle.pg_world.specs.PgNodeState.Issued.{ports_of}
use Rattle.pg_world.specs.PgNode.Links.{Link}
use Rattle.pg_world.specs.PgNode.Nodes.{held_by, links_of}
use Rattle.pg_node_run.specs.Acts.{AllLead}
use Rattle.pg_node_run.specs.Follows.{node_of, peers_of, standing_of}
use Rattle.pg_world.specs.PgStep.Config.{Config, names_of as names_in, nodes_at, ports_at}
use Rattle.pg_world.specs.PgStep.FrameMachine.{frame_machine}
use Rattle.pg_world.specs.PgStep.Nodes.{all_of}
use Rattle.pg_term.specs.Same.{same_atom}
use Rattle.pg_cluster_judges.specs.Apart.{Linked, HaveRun}
use Rattle.pg_cluster_judges.proofs.Sent.{frames_on}
use Rattle.pg_world.specs.Crossings.{no_links, node_of as seen_node}
use Rattle.pg_world.specs.PgWorldPackets.Views.{peer_place}
use Rattle.pg_world.specs.PgWorldPackets.Worlds.{ShowsNode}
use Rattle.pg_world.proofs.PgWorldPackets.Peering.{place_within}
use Rattle.pg_world.proofs.PgWorldPackets.Turning.{pair_is}

module _ {T : Type 0} {g : Ghosts T} (config : Config) (nodes : List (Node T g)) (begun ended : ℕ → Linked T g) (ran : HaveRun config nodes begun ended) where
  pub apart : IsDistinct same_atom (names_in config)
  apart = ran.starts.traffic.nodes.apart

  pub shown : (i : ℕ) → i < length config → ShowsNode config (start_of (frame_machine config)) i (seen_node (node_of (begun i)))
  shown i within = ran.starts.traffic.nodes.each i (seen_node (node_of (begun i))) (slice_get-map seen_node nodes i ∙ ap (option_map seen_node) (ran.held i within))

  -- its acts, by what the configuration calls its nodes and its ports
  pub leads : (i : ℕ) → i < length config
      → AllLead (all_of (nodes_at config i)) (ports_at config i) (standing_of (node_of (begun i))) (ran.acts i) (standing_of (node_of (ended i)))
  leads i within =
      let names = (shown i within).names in
      let ports = (shown i within).ports in
      subst (λ n. AllLead (all_of (nodes_at config i)) n (standing_of (node_of (begun i))) (ran.acts i) (standing_of (node_of (ended i)))) ports
      (subst (λ ns. AllLead ns (ports_of (held_by (node_of (begun i)))) (standing_of (node_of (begun i))) (ran.acts i) (standing_of (node_of (ended i)))) names
      (ran.follows i within).lead)

  -- ---- links

  pub links_there : (i : ℕ) → i < length config → get_or (map links_of nodes) i no_links ≡ links_of (node_of (begun i))
  links_there i within =
      let n = node_of (begun i) in
      get_or-map links_of nodes i n no_links (slice_get_within nodes i n (ran.held i within)) ∙ ap links_of (get_or_from_slice_get nodes i n n (ran.held i within))

  size : length nodes ≡ length config
  size = sym (length-map nodes seen_node) ∙ ran.starts.traffic.nodes.size

  module _ (x y : ℕ) (pair : is_pair (length config) x y ≡ true) where
    -- the place of the one among the peers of the other
    pub place_there : peer_place x y < length (peers_of (begun x))
    place_there =
        let p = pair_is (length config) x y pair in
        let low = place_within x y (length config) p.0 p.1 p.2 in
        omega (arith, low, ran.linked x p.0)

    nothing_between : ◌≡◌ {A = List ℕ} (get_or (get_or (replicate (length nodes) (replicate (length nodes - 1) [])) x []) (peer_place x y) []) []
    nothing_between =
        let p = pair_is (length config) x y pair in
        let low = place_within x y (length config) p.0 p.1 p.2 in
        ap (λ (row : List (List ℕ)). get_or row (peer_place x y) []) (get_or-replicate (length nodes) x (replicate (length nodes - 1) []) [] (omega (arith, p.0, size)))
        ∙ get_or-replicate (length nodes - 1) (peer_place x y) [] [] (omega (arith, low, size))

    -- what had come in, and then what was to go out, are the frames of what the one tells the other at the start
    pub opened : (links_of (node_of (begun y)) (peer_place y x)).unread ++ (links_of (node_of (begun x)) (peer_place x y)).outbox ≡ frames_on ((frame_machine config).opening x y)
    opened =
        let p = pair_is (length config) x y pair in
        ap (λ (links : ℕ → Link). (links (peer_place y x)).unread ++ (links_of (node_of (begun x)) (peer_place x y)).outbox) (sym (links_there y p.1))
        ∙ (ap (λ (links : ℕ → Link). (get_or (map links_of nodes) y no_links (peer_place y x)).unread ++ (links (peer_place x y)).outbox) (sym (links_there x p.0))
        ∙ (ap (λ (ring : List ℕ). (get_or (map links_of nodes) y no_links (peer_place y x)).unread ++ (ring ++ (get_or (map links_of nodes) x no_links (peer_place x y)).outbox)) (sym nothing_between)
        ∙ ran.starts.traffic.ways x y pair))
