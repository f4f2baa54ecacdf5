-- A node over bytes that would see the loss of a peer: what it is given, and which bytes stay.
use Rattle.std.proofs.Common.{◌≡◌, ◌≢◌, ◌⊎◌, inl, inr, ℕ, ◌+◌, ◌<◌, true, false, get_or}
use Rattle.std.proofs.Common.{length, List, [], Result, refl, sym, ap, ◌∙◌, subst}
use Rattle.std.specs.Prelude.{slice_set}
use Rattle.std.proofs.lemmas.Bool.{cases_eq}
use Rattle.pg_world_packets.specs.PgGroup.declared.table.GroupTable.{Ghosts}
use Rattle.pg_world_packets.specs.PgStep.Machines.Places.{is_pair}
use Rattle.pg_world_packets.specs.PgStep.Machines.Clocked.{Timed}
use Rattle.pg_world_packets.specs.PgNodeOpens.Places.{name_at}
use Rattle.pg_world_packets.specs.PgStep.Config.{Config}
use Rattle.pg_world_packets.specs.PgStep.State.{State}
use Rattle.pg_node.specs.declared.node.Node.{Node}
use Rattle.pg_world_packets.specs.PgNodeSends.Dones.{FramedDone}
use Rattle.pg_world_packets.specs.PgNodeState.declared.state.fault.NodeFault.{NodeFault}
use Rattle.pg_node.specs.Bytes.{closed}
use Rattle.pg_node.specs.Links.{Link, at_link}
use Rattle.pg_node.specs.Nodes.{held_by, links_of, step_lose}
use Rattle.pg_world_packets.specs.PgNodeState.States.{names_of, state_of, answers_of, Comes}
use Rattle.pg_world.specs.declared.rings.Rings.{Rings}
use Rattle.pg_world.specs.Crossings.{crossing_in, node_of, link_at, bytes_at}
use Rattle.pg_world_packets.specs.PgWorldAccount.Losses.{is_lost}
use Rattle.pg_world_packets.specs.Views.{peer_place, place_of_peer}
use Rattle.pg_world_packets.specs.Worlds.{TimedFrameWorld, ShowsNodes}
use Rattle.pg_world.specs.Changes.{links_at}
use Rattle.pg_world.proofs.Linked.{seen_there, changed_here, changed_else, part_kept}
use Rattle.pg_world_packets.proofs.Peering.{there_and_back}
use Rattle.pg_world_packets.proofs.Turning.{pair_is}

-- the clock of a peer
pub peer_clock : (config : Config) {T : Type 0} {g : Ghosts T} (nodes : List (Node T g)) (rings : List Rings) (p : ℕ) (node : Node T g) (w : TimedFrameWorld)
    → ShowsNodes config (crossing_in nodes rings).nodes w → p < length nodes → node ≡ get_or nodes p node → (w.node p).clock ≡ (state_of (held_by node)).clock
peer_clock config nodes rings p node w shows l at = ap (λ (s : Timed State). s.clock) (shows.each p (node_of node) (seen_there nodes rings p node l at)).state

-- what the node is told, by the place of the peer and by its link
pub step_there : {T : Type 0} {g : Ghosts T} (k place : ℕ) → k ≡ place → (node after : Node T g) (last : ℕ) (result : Result FramedDone NodeFault) {links : ℕ → Link} → links ≡ links_of node
    → Comes (names_of (held_by node)) (step_lose (name_at (names_of (held_by node)) (k + 1)) last (links_of node k) (state_of (held_by node))) result (state_of (held_by after)) (answers_of (held_by node)) (answers_of (held_by after))
    → Comes (names_of (held_by node)) (step_lose (name_at (names_of (held_by node)) (place + 1)) last (links place) (state_of (held_by node))) result (state_of (held_by after)) (answers_of (held_by node)) (answers_of (held_by after))
step_there k place same node after last result is comes =
    subst (λ (ls : ℕ → Link). Comes (names_of (held_by node)) (step_lose (name_at (names_of (held_by node)) (place + 1)) last (ls place) (state_of (held_by node))) result (state_of (held_by after)) (answers_of (held_by node)) (answers_of (held_by after))) (sym is)
    (subst (λ z. Comes (names_of (held_by node)) (step_lose (name_at (names_of (held_by node)) (z + 1)) last (links_of node z) (state_of (held_by node))) result (state_of (held_by after)) (answers_of (held_by node)) (answers_of (held_by after))) same comes)

-- Where a link is closed to a lost peer, the bytes on the way between others stay.
module _ {T : Type 0} {g : Ghosts T} (nodes : List (Node T g)) (rings : List Rings) (i p : ℕ) (node after : Node T g) (l : i < length nodes) (at : node ≡ get_or nodes i node)
    (links : links_of after ≡ at_link (peer_place i p) closed (links_of node)) (lost : List ℕ) (gone : is_lost lost p ≡ true) (apart : p ≢ i) where
  outbox_kept : (x y : ℕ) → y ≢ x → is_lost lost y ≡ false → (link_at (crossing_in (slice_set nodes i after) rings) x y).outbox ≡ (link_at (crossing_in nodes rings) x y).outbox
  outbox_kept x y n stays = ap (λ (k : Link). k.outbox) (changed_else nodes rings rings i (peer_place i p) node after closed l at links x (peer_place x y) other)
    where
      other : (x ≡ i) × (peer_place x y ≡ peer_place i p) → ⊥
      other (d, e) =
          let same : y ≡ p = sym (there_and_back i y (subst (λ k. y ≢ k) d n)) ∙ (ap (place_of_peer i) (subst (λ k. peer_place k y ≡ peer_place i p) d e) ∙ there_and_back i p apart) in
          let no : false ≡ true = sym stays ∙ (ap (is_lost lost) same ∙ gone) in
          absurd (cc)

  -- nothing goes out where nothing did, or to the lost peer
  pub closed_empty : (x y : ℕ) → ((x ≡ i) × (y ≡ p)) ⊎ ((link_at (crossing_in nodes rings) x y).outbox ≡ []) → (link_at (crossing_in (slice_set nodes i after) rings) x y).outbox ≡ []
  closed_empty x y (inl (d, e)) = subst (λ k. (link_at (crossing_in (slice_set nodes i after) rings) k y).outbox ≡ []) (sym d) (subst (λ k. (link_at (crossing_in (slice_set nodes i after) rings) i k).outbox ≡ []) (sym e)
      (ap (λ (k : Link). k.outbox) (changed_here nodes rings rings i (peer_place i p) node after closed l at links)))
  closed_empty x y (inr none) = go (cases_eq x i) (cases_eq (peer_place x y) (peer_place i p))
    where
      go : (x ≡ i) ⊎ (x ≢ i) → (peer_place x y ≡ peer_place i p) ⊎ (peer_place x y ≢ peer_place i p) → (link_at (crossing_in (slice_set nodes i after) rings) x y).outbox ≡ []
      go (inl d) (inl e) = ap (λ (k : Link). k.outbox) ((λ j. links_at (crossing_in (slice_set nodes i after) rings) (d j) (e j)) ∙ changed_here nodes rings rings i (peer_place i p) node after closed l at links)
      go (inr n) e = ap (λ (k : Link). k.outbox) (changed_else nodes rings rings i (peer_place i p) node after closed l at links x (peer_place x y) (λ both. n both.0)) ∙ none
      go (inl d) (inr n) = ap (λ (k : Link). k.outbox) (changed_else nodes rings rings i (peer_place i p) node after closed l at links x (peer_place x y) (λ both. n both.1)) ∙ none

  pub closed_bytes : (size x y : ℕ) → is_pair size x y ≡ true → is_lost lost y ≡ false → bytes_at (crossing_in (slice_set nodes i after) rings) x y ≡ bytes_at (crossing_in nodes rings) x y
  closed_bytes size x y pair stays = λ j. record {
    outbox = outbox_kept x y (pair_is size x y pair).2 stays j;
    ring = (bytes_at (crossing_in nodes rings) x y).ring;
    came = part_kept nodes rings rings i (peer_place i p) node after closed l at links (λ (k : Link). k.unread) (λ k. refl) y (peer_place y x) j;
  }
