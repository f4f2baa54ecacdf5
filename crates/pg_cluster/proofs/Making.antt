-- The rows of links, once all rings are made, and the nodes that have them.
use Rattle.std.proofs.Common.{◌≡◌, ◌<◌, ◌≤◌, ◌+◌, true, ℕ, zero, suc, List, [], ◌∷◌}
use Rattle.std.proofs.Common.{length, map, get_or, sym, ◌∙◌, ap, subst, arith, inl, inr}
use Rattle.std.specs.Prelude.{slice_get, Some, IfErr, IfOk, Result, Ok, Err}
use Rattle.std.specs.Option.{option_map}
use Rattle.std.proofs.lemmas.Option.{slice_get-get_or, slice_get-map, slice_get_within}
use Rattle.pg_cluster_judges.specs.PgNode.Nodes.{held_by}
use Rattle.pg_cluster_judges.specs.PgNodeState.States.{names_of}
use Rattle.std.specs.List.{All}
use Rattle.std.proofs.lemmas.Bool.Decides.{leb_tells}
use Rattle.std.proofs.lemmas.List.{get_or-map, length-map}
use Rattle.pg_cluster_judges.specs.PgStep.Machines.Places.{is_pair}
use Rattle.pg_ring.specs.Ends.{bytes_room}
use Rattle.pg_cluster_judges.specs.PgNodeRun.Notices.{IsUntold}
use Rattle.pg_cluster_judges.specs.PgNodeRun.Ports.{IsUnused}
use Rattle.pg_cluster_judges.specs.PgNodeRun.Runs.{notices_of}
use Rattle.pg_cluster_judges.specs.PgStep.Config.{Config, IsConfig}
use Rattle.pg_cluster_judges.specs.Apart.{End}
use Rattle.pg_cluster_judges.proofs.PgWorldPackets.Opened.{can_be_short}
use Rattle.pg_cluster_judges.proofs.PgWorldPackets.Peering.{known, place_low, place_high}
use Rattle.pg_cluster_judges.proofs.PgWorldPackets.Turning.{pair_is}
use Rattle.pg_cluster_judges.specs.PgWorld.BytesStart.{BytesBegin}
use Rattle.pg_cluster_judges.specs.PgWorld.Crossings.{idle_crossing, node_of as seen_node}
use Rattle.pg_cluster_judges.specs.PgWorldPackets.Views.{peer_place}
use Rattle.pg_cluster_judges.specs.PgWorldAccount.Histories.{no_account}
use Rattle.pg_cluster_judges.specs.PgWorldConfig.declared.fault.WorldFault.TheVariants.{OutOfMemory}
use Rattle.pg_cluster.specs.declared.fault.StartFault.{StartFault}
use Rattle.pg_cluster.specs.declared.fault.StartFault.TheVariants.{World, NoThread}
use Rattle.pg_cluster.specs.declared.runs.Made.{Made}
use Rattle.pg_cluster.specs.Clients.{AllPairs, IsOpenClient}
use Rattle.pg_cluster.specs.Ended.{NodeRow, AreWired, row_at}
use Rattle.pg_cluster_judges.specs.PgWorldPackets.Openings.{CanBegin}
use Rattle.pg_cluster.specs.Fault.{CantRun, IsShortage}
use Rattle.pg_cluster.specs.Rows.{HaveRowRoom, Wired, RowsWired}
use Rattle.pg_cluster.specs.Threads.{AreMade, HasLinks, HaveRings, RunOf}
use Rattle.pg_cluster_judges.specs.NodeOf.{NodeOf}
use Rattle.pg_cluster.specs.Threads.{node_in, row_in, log_in, ports_of_runs}
use Rattle.pg_cluster.proofs.Paired.{pairs_right}

-- the links of each
abbrev pub lists : List NodeRow → List (List End)
lists rows = map (λ v. v.items) rows

module _ (n : ℕ) (rows : List NodeRow) (none : NodeRow) (wired : RowsWired n rows) where
  row_is : (x : ℕ) → x < n → row_at (lists rows) x ≡ (get_or rows x none).items
  row_is x low = get_or-map (λ v. v.items) rows x none [] (let e = wired.rows in omega arith)

  two : (x y : ℕ) → is_pair n x y ≡ true → Wired (row_at (lists rows) x) (peer_place x y) (row_at (lists rows) y) (peer_place y x)
  two x y pair = let p = pair_is n x y pair in elim (leb_tells x y) [
    | inl t ↦
        let less : x < y = omega (arith, t.1, p.2) in
        rw (row_is x p.0, row_is y p.1, place_high x y t.1, place_low y x less) ((wired.earlier x y none less p.1 p.1).there)
    | inr f ↦
        let le : y ≤ x = omega (arith, f.1) in
        rw (row_is x p.0, row_is y p.1, place_low x y f.1, place_high y x le) ((wired.earlier y x none f.1 p.0 p.0).back)
  ]

  wired_by : AreWired n (lists rows)
  wired_by = record {
    joined = record {
      count = length-map rows (λ v. v.items) ∙ wired.rows;
      each = λ x low. rw (row_is x low) (wired.between x none (omega arith) low low);
      ends = λ x y end pair. (two x y pair end).0;
    };
    unsent = λ x y end pair. (two x y pair end).1;
    unreceived = λ x y end pair. (two x y pair end).2;
  }

-- each two of so many nodes have the rings between them
pub are_wired : (n : ℕ) (rows : List NodeRow) → RowsWired n rows → AreWired n (lists rows)
are_wired n [] wired = record {
  joined = record {
    count = wired.rows;
    each = λ x low. absurd (let e = wired.rows in omega arith);
    ends = λ x y end pair. absurd (let p = pair_is n x y pair in let e = wired.rows in omega (arith, p.0));
  };
  unsent = λ x y end pair. absurd (let p = pair_is n x y pair in let e = wired.rows in omega (arith, p.0));
  unreceived = λ x y end pair. absurd (let p = pair_is n x y pair in let e = wired.rows in omega (arith, p.0));
}
are_wired n (row ∷ rows) wired = wired_by n (row ∷ rows) row wired

-- the nodes of a configuration that were made with these links, if they were
pub are_made : {K : Type 0} (given : Config) (nodes : List NodeOf) (rows : List NodeRow) (result : Result (Made K) StartFault)
    → IsConfig given → length nodes ≡ length given → BytesBegin given (idle_crossing nodes) no_account → RowsWired (length nodes) rows
    → IfOk result (λ made. map node_in made.runs.items ≡ nodes) → IfOk result (λ made. map row_in made.runs.items ≡ lists rows)
    → IfOk result (λ made. All (λ run. log_in run ≡ []) made.runs.items) → IfOk result (λ made. All (λ run. IsUntold (notices_of run)) made.runs.items)
    → IfOk result (λ made. AllPairs IsOpenClient made.clients.items (ports_of_runs made.runs.items))
    → IfOk result (λ made. AreMade given made.runs.items)
are_made given nodes rows (Ok made) good count begins wired held rowed unlogged untold clients =
    let size : length made.runs.items ≡ length nodes = sym (length-map made.runs.items node_in) ∙ ap length held in record {
      count = size ∙ count;
      some = let s = good.some in omega arith;
      few = good.few;
      begins = subst (λ (ns : List NodeOf). BytesBegin given (idle_crossing ns) no_account) (sym held) begins;
      unlogged = unlogged;
      untold = untold;
      unused = pairs_right IsOpenClient IsUnused (λ client port both. both.1.1) made.clients.items (ports_of_runs made.runs.items) clients;
      wired = subst (λ (n : ℕ). AreWired n (map row_in made.runs.items)) (sym size) (subst (AreWired (length nodes)) (sym rowed) (are_wired (length nodes) rows wired));
    }
are_made given nodes rows (Err fault) good count begins wired held rowed unlogged untold clients = tt

-- ---- why nothing was made

pub shortage : (ring : ℕ) (given : Config) (fault : StartFault) → CanBegin ring given → IsShortage fault → CantRun ring given fault
shortage ring given (World OutOfMemory) can short = can_be_short ring given can
shortage ring given NoThread can short = can
shortage ring given (World fault) can short = absurd short

pub shortage_of : {A : Type 0} (ring : ℕ) (given : Config) (result : Result A StartFault) → CanBegin ring given → IfErr result IsShortage → IfErr result (CantRun ring given)
shortage_of ring given (Ok made) can short = tt
shortage_of ring given (Err fault) can short = shortage ring given fault can short

-- ---- the links of each node

-- it knows as many nodes as there are
pub names_begun : (given : Config) (nodes : List NodeOf) → BytesBegin given (idle_crossing nodes) no_account → (i : ℕ) (node : NodeOf) → slice_get nodes i ≡ Some node
    → length (names_of (held_by node)) ≡ length nodes
names_begun given nodes begins i node there =
    let shows = begins.2.traffic.nodes in
    let size : length nodes ≡ length begins.0 = sym (length-map nodes seen_node) ∙ shows.size in
    let seen : slice_get (map seen_node nodes) i ≡ Some (seen_node node) = slice_get-map seen_node nodes i ∙ ap (option_map seen_node) there in
    let low : i < length nodes = slice_get_within nodes i node there in
    ap length (shows.each i (seen_node node) seen).names ∙ (known begins.0 i (omega (arith, low, size)) ∙ sym size)

pub rows_fit : (given : Config) (nodes : List NodeOf) (rows : List NodeRow) → BytesBegin given (idle_crossing nodes) no_account → RowsWired (length nodes) rows → AllPairs HasLinks (lists rows) nodes
rows_fit given nodes rows begins wired = record {
  len = length-map rows (λ v. v.items) ∙ wired.rows;
  each = λ i row node low. at i row node low rows wired;
}
  where
    at : (i : ℕ) (row : List End) (node : NodeOf) → i < length nodes → (rs : List NodeRow) → RowsWired (length nodes) rs → HasLinks (get_or (lists rs) i row) (get_or nodes i node)
    at i row node low [] wired = absurd (let e = wired.rows in omega (arith, low, e))
    at i row node low (r ∷ rs) wired =
        let all : List NodeRow = r ∷ rs in
        let here : get_or (lists all) i row ≡ (get_or all i r).items = get_or-map (λ v. v.items) all i r row (let e = wired.rows in omega (arith, low, e)) in
        let long : length (get_or all i r).items + 1 ≡ length nodes = wired.between i r (omega arith) low low in
        let names = names_begun given nodes begins i (get_or nodes i node) (slice_get-get_or nodes i node low) in
        ap (λ w. length w + 1) here ∙ (long ∙ sym names)

-- ---- the room of the rings

-- what holds of the links of each row holds of those of each node that was made with them
pub rings_of : {K : Type 0} (room : ℕ) (rows : List NodeRow) (result : Result (Made K) StartFault) → HaveRowRoom room rows → IfOk result (λ made. map row_in made.runs.items ≡ lists rows)
    → IfOk result (λ made. HaveRings room made.runs.items)
rings_of {K} room rows (Ok made) have rowed = go made.runs.items rows rowed have
  where
    go : (runs : List (RunOf K)) (rows : List NodeRow) → map row_in runs ≡ lists rows → HaveRowRoom room rows → HaveRings room runs
    go [] rows same have i run low = absurd (omega (arith, low))
    go (run ∷ runs) [] same have i d low = absurd (cc same)
    go (run ∷ runs) (row ∷ rows) same have zero d low =
        let first : row_in run ≡ row.items = cc same in
        subst (All (λ (peer : End). bytes_room peer.link ≡ room)) (sym first) (have zero row (omega arith))
    go (run ∷ runs) (row ∷ rows) same have (suc i) d low =
        let others : map row_in runs ≡ lists rows = cc same in
        go runs rows others (λ k e l. have (suc k) e (omega (arith, l))) i d (omega (arith, low))
rings_of room rows (Err fault) have rowed = tt
