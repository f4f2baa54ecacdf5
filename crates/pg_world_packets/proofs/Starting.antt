-- What the world shows in which all nodes start.
use Rattle.std.proofs.Common.{◌≡◌, ℕ, zero, suc, ◌+◌, ◌-◌, ◌<◌, ◌^◌, true, cond}
use Rattle.std.proofs.Common.{map, get_or, take, length, replicate, List, [], ◌∷◌, ◌++◌, Option}
use Rattle.std.proofs.Common.{Some, refl, sym, ap, ◌∙◌, arith, subst}
use Rattle.std.specs.Prelude.{slice_get, option_map}
use Rattle.std.specs.List.{All, IsDistinct}
use Rattle.std.proofs.lemmas.List.{get_or-replicate, length-replicate, length-map}
use Rattle.std.proofs.lemmas.List.{map-append, take_more}
use Rattle.std.proofs.lemmas.Option.{slice_get-map, slice_get-get_or}
use Rattle.pg_term.specs.Same.{same_atom, same_term}
use Rattle.pg_node_state.specs.PgGroup.declared.table.GroupTable.{Ghosts}
use Rattle.pg_node_state.specs.PgExchange.GroupList.{IsSnapshot, announced_names}
use Rattle.pg_node_state.specs.PgMessageTypes.declared.message.Message.{Message}
use Rattle.pg_node_state.specs.PgMessageTypes.declared.message.Message.TheVariants.{Exchange}
use Rattle.pg_node_state.specs.PgMessageTypes.Members.{HasFewMembers}
use Rattle.pg_node_state.specs.PgStep.Machines.Places.{is_pair}
use Rattle.pg_node_state.specs.PgStep.Machines.Machine.{start_of}
use Rattle.pg_node_state.specs.PgStep.Machines.Clocked.{Stamped, stamped}
use Rattle.pg_node_state.specs.PgStep.Config.{Config, names_of, name_at, groups_at, first_table}
use Rattle.pg_node_state.specs.PgStep.FrameMachine.{frame_machine}
use Rattle.pg_node_state.specs.PgNodeOpens.Places.{name_at as place_name}
use Rattle.pg_node_state.specs.declared.state.NodeState.{NodeState}
use Rattle.pg_node_state.specs.States.{kept_by}
use Rattle.pg_node_state.specs.PgNodeSends.Sent.{stamped_of}
use Rattle.pg_world_packets.specs.declared.ways.Ways.{Ways}
use Rattle.pg_world_config.specs.Seen.{Seen, seen_of}
use Rattle.pg_world_packets.specs.Views.{ways_of, fresh_view, traffic_in, peer_place, on_the_way, IsWhole}
use Rattle.pg_world_packets.specs.Worlds.{ShowsNode, TimedFrameWorld}
use Rattle.pg_world_config.specs.Firsts.{seen_first, firsts}
use Rattle.pg_world_packets.specs.Starts.{TellsFew, AnnouncesToEach, AllOpen, Orders, Begins}
use Rattle.pg_world_config.proofs.Starting.{firsts_are, firsts_length}
use Rattle.pg_world_packets.proofs.Ordered.{ordered_names, ordered_length, same_first, tells_few}
use Rattle.pg_world_packets.proofs.Peering.{known, place_within}
use Rattle.pg_world_packets.proofs.Turning.{pair_is}

-- ---- the packets

-- one more node whose packets are on the way
pub open_more : (peers : ℕ) (nodes : List Seen) (rows : List (List (List (Stamped Message)))) (node : Seen) (row : List (List (Stamped Message)))
    → AllOpen peers nodes rows → AnnouncesToEach peers node row → AllOpen peers (nodes ++ node ∷ []) (rows ++ row ∷ [])
open_more peers [] [] node row going one = (one, tt)
open_more peers [] (r ∷ rows) node row going one = absurd going
open_more peers (n ∷ nodes) [] node row going one = absurd going
open_more peers (n ∷ nodes) (r ∷ rows) node row going one = (going.0, open_more peers nodes rows node row going.1 one)

-- the same of the code's nodes
pub opening_more : {T : Type 0} {g : Ghosts T} (peers : ℕ) (nodes : List (NodeState T g)) (outs : List Ways) (k : ℕ) (node : NodeState T g) (out : Ways) → k < length nodes → node ≡ get_or nodes k node
    → AllOpen peers (map seen_of (take k nodes)) (map ways_of outs) → AnnouncesToEach peers (seen_of node) (ways_of out) → AllOpen peers (map seen_of (take (k + 1) nodes)) (map ways_of (outs ++ out ∷ []))
opening_more {T} {g} peers nodes outs k node out within here before one =
    let nodes_are : map seen_of (take (k + 1) nodes) ≡ map seen_of (take k nodes) ++ seen_of node ∷ [] =
    ap (map seen_of) (take_more nodes k node within ∙ ap (λ (x : NodeState T g). take k nodes ++ x ∷ []) (sym here)) ∙ map-append seen_of (take k nodes) (node ∷ []) in
    let outs_are : map ways_of (outs ++ out ∷ []) ≡ map ways_of outs ++ ways_of out ∷ [] = map-append ways_of outs (out ∷ []) in
    subst (λ (seens : List Seen). AllOpen peers seens (map ways_of (outs ++ out ∷ []))) (sym nodes_are)
    (subst (λ (rows : List (List (List (Stamped Message)))). AllOpen peers (map seen_of (take k nodes) ++ seen_of node ∷ []) rows) (sym outs_are)
    (open_more peers (map seen_of (take k nodes)) (map ways_of outs) (seen_of node) (ways_of out) before one))

-- each node of the configuration tells its groups to each of so many peers
abbrev pub AreTold : ℕ → Config → List (List (List (Stamped Message))) → Type 0
AreTold peers [] [] = Unit {0}
AreTold peers (start ∷ starts) (row ∷ rows) = (row ≡ replicate peers (stamped 0 (Exchange start.name start.groups ∷ []))) × AreTold peers starts rows
AreTold peers starts rows = ⊥

-- these are the tables and the names of the nodes of a configuration
abbrev pub HaveTables : Config → List Seen → Type 0
HaveTables [] [] = Unit {0}
HaveTables (start ∷ starts) (node ∷ nodes) = (node.state.state.table ≡ first_table start.groups) × (place_name node.names 0 ≡ start.name) × HaveTables starts nodes
HaveTables starts nodes = ⊥

pub have_tables : (config : Config) (nodes : List Seen) → length nodes ≡ length config
    → ((i : ℕ) (node : Seen) → slice_get nodes i ≡ Some node → (node.state.state.table ≡ first_table (groups_at config i)) × (place_name node.names 0 ≡ name_at config i)) → HaveTables config nodes
have_tables [] [] len each = tt
have_tables [] (node ∷ nodes) len each = absurd (cc)
have_tables (start ∷ starts) [] len each = absurd (cc)
have_tables (start ∷ starts) (node ∷ nodes) len each =
    let here = each 0 node refl in
    (here.0, here.1, have_tables starts nodes (shorter (length nodes) (length starts) len) (λ i other at. each (suc i) other at))
  where
    shorter : (a b : ℕ) → suc a ≡ suc b → a ≡ b
    shorter a b e = omega (arith, e)

-- The configuration that is told.
pub record HasConfig (peers : ℕ) (given : Config) (rows : List (List (List (Stamped Message)))) : Type 0 where
  pub config : Config
  pub orders : Orders given config
  pub are : AreTold peers config rows

pub told : (peers : ℕ) (given : Config) (nodes : List Seen) (rows : List (List (List (Stamped Message)))) → HaveTables given nodes → AllOpen peers nodes rows → HasConfig peers given rows
told peers [] [] [] have going = record { config = []; orders = tt; are = tt }
told peers [] [] (row ∷ rows) have going = absurd going
told peers [] (node ∷ nodes) rows have going = absurd have
told peers (start ∷ starts) [] rows have going = absurd have
told peers (start ∷ starts) (node ∷ nodes) [] have going = absurd going
told peers (start ∷ starts) (node ∷ nodes) (row ∷ rows) have going =
    let rest = told peers starts nodes rows have.2 going.1 in
    let groups = going.0.1.0 in
    record {
      config = record { name = start.name; made = start.made; ports = start.ports; groups = groups } ∷ rest.config;
      orders = (record { name = refl; made = refl; ports = refl; groups = subst (λ table. IsSnapshot table groups) have.0 going.0.1.1 }, rest.orders);
      are = (going.0.2 ∙ (λ j. replicate peers (stamped_of (going.0.1.2 j) ∷ [])) ∙ (λ j. replicate peers (stamped 0 (Exchange (have.1 j) groups ∷ []))), rest.are);
    }

told_length : (peers : ℕ) (config : Config) (rows : List (List (List (Stamped Message)))) → AreTold peers config rows → length rows ≡ length config
told_length peers [] [] told = refl
told_length peers [] (row ∷ rows) told = absurd told
told_length peers (start ∷ starts) [] told = absurd told
told_length peers (start ∷ starts) (row ∷ rows) told = ap suc (told_length peers starts rows told.1)

told_row : (peers : ℕ) (config : Config) (rows : List (List (List (Stamped Message)))) (x : ℕ) → AreTold peers config rows → x < length config
    → get_or rows x [] ≡ replicate peers (stamped 0 (Exchange (name_at config x) (groups_at config x) ∷ []))
told_row peers [] [] x told l = absurd (omega (arith, l))
told_row peers [] (row ∷ rows) x told l = absurd told
told_row peers (start ∷ starts) [] x told l = absurd told
told_row peers (start ∷ starts) (row ∷ rows) zero told l = told.0
told_row peers (start ∷ starts) (row ∷ rows) (suc x) told l = told_row peers starts rows x told.1 (nearer x (length starts) l)
  where
    nearer : (a b : ℕ) → suc a < suc b → a < b
    nearer a b l = omega (arith, l)

-- ---- the world

module _ (given : Config) (nodes : List Seen) (rows : List (List (List (Stamped Message)))) (are : nodes ≡ firsts given (length given)) (going : AllOpen (length nodes - 1) nodes rows) where
  count : length nodes ≡ length given
  count = ap length are ∙ firsts_length given (length given)

  each_is : (i : ℕ) (node : Seen) → slice_get nodes i ≡ Some node → (i < length given) × (node ≡ seen_first given i)
  each_is i node at = firsts_are given (length given) i node (ap (λ (xs : List Seen). slice_get xs i) (sym are) ∙ at)

  the_told : HasConfig (length nodes - 1) given rows
  the_told = told (length nodes - 1) given nodes rows (have_tables given nodes count (λ i node at. let is = (each_is i node at).1 in (ap (λ (s : Seen). s.state.state.table) is, ap (λ (s : Seen). place_name s.names 0) is))) going

  size : length the_told.config ≡ length given
  size = ordered_length given the_told.config the_told.orders

  pub begins_whole : IsWhole (record { nodes = nodes; ways = rows })
  begins_whole = record {
    rows = told_length (length nodes - 1) the_told.config rows the_told.are ∙ (size ∙ sym count);
    known = λ i node at. let is = each_is i node at in ap (λ (s : Seen). length s.names) is.1 ∙ (known given i is.0 ∙ sym count);
    others = others;
  }
    where
      others : (i : ℕ) → i < length nodes → length (get_or rows i []) + 1 ≡ length nodes
      others i l =
          let row : length (get_or rows i []) ≡ length nodes - 1 = ap length (told_row (length nodes - 1) the_told.config rows i the_told.are (omega (arith, l, size, count)))
          ∙ length-replicate (length nodes - 1) (stamped 0 (Exchange (name_at the_told.config i) (groups_at the_told.config i) ∷ [])) in
          omega (arith, row, l)

  pub begins : IsDistinct same_atom (names_of given) → Begins given (fresh_view (record { nodes = nodes; ways = rows }))
  begins apart = (
    config,
    the_told.orders,
    record {
      traffic = record {
        nodes = record {
          apart = subst (IsDistinct same_atom) (sym (ordered_names given config the_told.orders)) apart;
          size = count ∙ sym size;
          each = λ i node at. subst (ShowsNode config start i) (same_first given config i the_told.orders ∙ sym (each_is i node at).1) (as_first i);
          nowhere = λ x y e. ap (λ b. stamped 0 (cond b (Exchange (name_at config x) (groups_at config x) ∷ []) [])) e;
        };
        ways = ways;
      };
      updates = record { history = λ name. refl; applied = λ i name. refl; marked = λ i name few. refl };
    },
  )
    where
      config : Config
      config = the_told.config

      start : TimedFrameWorld
      start = start_of (frame_machine config)

      as_first : (i : ℕ) → ShowsNode config start i (seen_first config i)
      as_first i = record { names = refl; ports = refl; state = refl; answers = λ port. tt }

      ways : (x y : ℕ) → is_pair (length config) x y ≡ true → start.wire x y ≡ on_the_way (record { nodes = nodes; ways = rows }) x y
      ways x y e =
          let pair = pair_is (length config) x y e in
          let packets = stamped 0 (Exchange (name_at config x) (groups_at config x) ∷ []) in
          let within = place_within x y (length config) pair.0 pair.1 pair.2 in
          let inside : peer_place x y < length nodes - 1 = omega (arith, within, size, count) in
          ap (λ b. stamped 0 (cond b (Exchange (name_at config x) (groups_at config x) ∷ []) [])) e
          ∙ sym (ap (λ (row : List (List (Stamped Message))). get_or row (peer_place x y) []) (told_row (length nodes - 1) config rows x the_told.are pair.0) ∙ get_or-replicate (length nodes - 1) (peer_place x y) packets [] inside)

-- ---- the code's nodes

-- what each tells has few members
pub all_few : {T : Type 0} {g : Ghosts T} (config : Config) (nodes : List (NodeState T g)) → map seen_of nodes ≡ firsts config (length config)
    → ((i : ℕ) → IsDistinct same_term (announced_names (groups_at config i))) → ((i : ℕ) → HasFewMembers (2 ^ 32) (groups_at config i)) → All (λ (node : NodeState T g). TellsFew (kept_by node).table) nodes
all_few {T} {g} config nodes are once few i d l =
    let node = get_or nodes i d in
    let at : slice_get (map seen_of nodes) i ≡ Some (seen_of node) = slice_get-map seen_of nodes i ∙ ap (λ (o : Option (NodeState T g)). option_map seen_of o) (slice_get-get_or nodes i d l) in
    let is = firsts_are config (length config) i (seen_of node) (ap (λ (xs : List Seen). slice_get xs i) (sym are) ∙ at) in
    subst TellsFew (sym (ap (λ (s : Seen). s.state.state.table) is.1)) (tells_few (groups_at config i) (once i) (few i))

-- ---- the code's world

-- The nodes as they start, and what they send then; the slice is that of the nodes.
module _ {T : Type 0} {g : Ghosts T} (given : Config) (nodes slice : List (NodeState T g)) (outs : List Ways) (same : slice ≡ nodes) (are : map seen_of nodes ≡ firsts given (length given))
    (going : AllOpen (length slice - 1) (map seen_of slice) (map ways_of outs)) where
  all_open : AllOpen (length (map seen_of nodes) - 1) (map seen_of nodes) (map ways_of outs)
  all_open = subst (λ n. AllOpen (n - 1) (map seen_of nodes) (map ways_of outs)) (sym (length-map nodes seen_of))
      (subst (λ (ns : List (NodeState T g)). AllOpen (length ns - 1) (map seen_of ns) (map ways_of outs)) same going)

  pub world_whole : IsWhole (traffic_in nodes outs)
  world_whole = begins_whole given (map seen_of nodes) (map ways_of outs) are all_open

  pub world_begins : IsDistinct same_atom (names_of given) → Begins given (fresh_view (traffic_in nodes outs))
  world_begins apart = begins given (map seen_of nodes) (map ways_of outs) are all_open apart

pub all_few_slice : {T : Type 0} {g : Ghosts T} (config : Config) (nodes slice : List (NodeState T g)) → slice ≡ nodes → map seen_of nodes ≡ firsts config (length config)
    → ((i : ℕ) → IsDistinct same_term (announced_names (groups_at config i))) → ((i : ℕ) → HasFewMembers (2 ^ 32) (groups_at config i)) → All (λ (node : NodeState T g). TellsFew (kept_by node).table) slice
all_few_slice {T} {g} config nodes slice same are once few = subst (λ (ns : List (NodeState T g)). All (λ (node : NodeState T g). TellsFew (kept_by node).table) ns) (sym same) (all_few config nodes are once few)
