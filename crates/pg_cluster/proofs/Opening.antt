-- Lemmas on the clients of nodes that are made, one node after another.
use Rattle.std.proofs.lemmas.List.{map-append}
use Rattle.std.proofs.Common.{◌≡◌, ◌≤◌, ◌+◌, ℕ, List, [], ◌∷◌, ◌++◌, length, map, sym, ◌∙◌}
use Rattle.std.proofs.Common.{ap, subst, arith, append_assoc, append-nil, length-append}
use Rattle.std.proofs.lemmas.Grind.{flat_map-append}
use Rattle.pg_cluster_judges.specs.PgNodeRun.declared.port.Client.{Client}
use Rattle.pg_cluster_judges.specs.PgNodeRun.declared.port.Port.{Port}
use Rattle.pg_ring.specs.declared.slot_in.SlotIn.{SlotIn}
use Rattle.pg_ring.specs.declared.slot_out.SlotOut.{SlotOut}
use Rattle.pg_cluster_judges.specs.PgNodeRun.declared.notices.Notice.{Notice}
use Rattle.pg_cluster_judges.specs.PgNodeRun.Runs.{ports_at, notices_at}
use Rattle.pg_cluster.specs.Notices.{IsFresh}
use Rattle.pg_cluster.specs.Clients.{AllPairs, IsOpenClient, OpensMore, ports_ended}
use Rattle.pg_cluster.specs.Threads.{RunOf, RanOf, ports_of_runs}
use Rattle.pg_cluster.proofs.Paired.{pairs_none, pairs_push}

-- ---- ports that are opened

pub opens_none : (clients : List Client) → OpensMore clients clients []
opens_none clients = λ before all. subst (AllPairs IsOpenClient clients) (sym (append-nil before)) all

pub opens_one : (old clients : List Client) (ports : List Port) (client : Client) (port : Port) → OpensMore old clients ports → IsOpenClient client port
    → OpensMore old (clients ++ client ∷ []) (ports ++ port ∷ [])
opens_one old clients ports client port opens here = λ before all.
    subst (AllPairs IsOpenClient (clients ++ client ∷ [])) (append_assoc before ports (port ∷ []))
    (pairs_push IsOpenClient clients (before ++ ports) client port (opens before all) here)

module _ {K : Type 0} where
  pub opened_none : (clients : List Client) (runs : List (RunOf K)) → clients ≡ [] → runs ≡ [] → AllPairs IsOpenClient clients (ports_of_runs runs)
  opened_none clients runs no_client no_run =
      subst (λ (cs : List Client). AllPairs IsOpenClient cs (ports_of_runs runs)) (sym no_client)
      (subst (λ (rs : List (RunOf K)). AllPairs IsOpenClient [] (ports_of_runs rs)) (sym no_run) (pairs_none IsOpenClient))

  pub opened_more : (old new : List Client) (runs runs2 : List (RunOf K)) (run : RunOf K) (ports : List Port) → ports_at run ≡ ports → runs2 ≡ runs ++ run ∷ [] → OpensMore old new ports
      → AllPairs IsOpenClient old (ports_of_runs runs) → AllPairs IsOpenClient new (ports_of_runs runs2)
  opened_more old new runs runs2 run ports at is opens all =
      subst (AllPairs IsOpenClient new)
      (ap (λ ps. ports_of_runs runs ++ ps) (sym at ∙ sym (append-nil (ports_at run)))
      ∙ (sym (flat_map-append ports_at runs (run ∷ [])) ∙ ap (λ (rs : List (RunOf K)). ports_of_runs rs) (sym is)))
      (opens (ports_of_runs runs) all)

  -- ---- where a further node is told of losses

  pub fresh_none : (tellers : List (SlotOut Notice)) (runs : List (RunOf K)) → tellers ≡ [] → runs ≡ [] → AllPairs IsFresh tellers (map notices_at runs)
  fresh_none tellers runs no_teller no_run =
      subst (λ (ts : List (SlotOut Notice)). AllPairs IsFresh ts (map notices_at runs)) (sym no_teller)
      (subst (λ (rs : List (RunOf K)). AllPairs IsFresh [] (map notices_at rs)) (sym no_run) (pairs_none IsFresh))

  pub fresh_more : (tellers tellers2 : List (SlotOut Notice)) (runs runs2 : List (RunOf K)) (teller : SlotOut Notice) (run : RunOf K) (inlet : SlotIn Notice)
      → tellers2 ≡ tellers ++ teller ∷ [] → runs2 ≡ runs ++ run ∷ [] → notices_at run ≡ inlet → IsFresh teller inlet
      → AllPairs IsFresh tellers (map notices_at runs) → AllPairs IsFresh tellers2 (map notices_at runs2)
  fresh_more tellers tellers2 runs runs2 teller run inlet one two at here all =
      subst (λ (ts : List (SlotOut Notice)). AllPairs IsFresh ts (map notices_at runs2)) (sym one)
      (subst (AllPairs IsFresh (tellers ++ teller ∷ [])) (sym (ap (map notices_at) two ∙ map-append notices_at runs (run ∷ [])))
      (pairs_push IsFresh tellers (map notices_at runs) teller (notices_at run) all (subst (IsFresh teller) (sym at) here)))

  -- ---- ports that come back

  pub ports_moved : (all new own : List Port) (ran : RanOf K) (rest old : List (RanOf K)) (whole : List Port) → new ≡ all ++ own → own ≡ ports_at ran.run → old ≡ ran ∷ rest
      → all ++ ports_ended old ≡ whole → new ++ ports_ended rest ≡ whole
  ports_moved all new own ran rest old whole n o e was =
      ap (λ ps. ps ++ ports_ended rest) (n ∙ ap (λ ps. all ++ ps) o)
      ∙ (append_assoc all (ports_at ran.run) (ports_ended rest) ∙ (ap (λ (rs : List (RanOf K)). all ++ ports_ended rs) (sym e) ∙ was))

  pub ports_none_moved : (all : List Port) (left whole : List (RanOf K)) → all ≡ [] → left ≡ whole → all ++ ports_ended left ≡ ports_ended whole
  ports_none_moved all left whole none same = ap (λ (ps : List Port). ps ++ ports_ended left) none ∙ ap (λ (rs : List (RanOf K)). ports_ended rs) same

  -- there is room for the ports of one, and then for those of the others
  pub room_for_one : (own : List Port) (ran : RanOf K) (rest old : List (RanOf K)) (count room : ℕ) → own ≡ ports_at ran.run → old ≡ ran ∷ rest
      → count + length (ports_ended old) ≤ room → count + length own + length (ports_ended rest) ≤ room
  room_for_one own ran rest old count room o e was =
      let a = ap (λ (rs : List (RanOf K)). length (ports_ended rs)) e in
      let b = length-append (ports_at ran.run) (ports_ended rest) in
      let d = ap length o in
      omega (arith, was, a, b, d)

  pub ports_all_moved : (all : List Port) (left : List (RanOf K)) (whole : List Port) → left ≡ [] → all ++ ports_ended left ≡ whole → all ≡ whole
  ports_all_moved all left whole none was = sym (append-nil all) ∙ (ap (λ (rs : List (RanOf K)). all ++ ports_ended rs) (sym none) ∙ was)
