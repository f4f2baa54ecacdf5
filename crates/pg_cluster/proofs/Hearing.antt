-- What the clients of nodes that ran said and heard.
use Rattle.std.proofs.Common.{◌≡◌, ◌<◌, ℕ, suc, List, [], ◌∷◌, ◌++◌, length, map, take}
use Rattle.std.proofs.Common.{drop, get_or, refl, sym, ◌∙◌, ap, subst, arith, append_assoc}
use Rattle.std.specs.List.{All}
use Rattle.std.proofs.lemmas.List.{get_or_default, nil_from_length, take-append-drop}
use Rattle.pg_cluster_judges.specs.PgNode.Nodes.{held_by}
use Rattle.pg_cluster_judges.specs.PgNodeState.States.{answers_of}
use Rattle.pg_ring.specs.Ends.{Sends, Receives}
use Rattle.pg_cluster_judges.specs.PgNodeRun.declared.log.NodeEvent.{NodeEvent}
use Rattle.pg_cluster_judges.specs.PgNodeRun.declared.port.Client.{Client}
use Rattle.pg_cluster_judges.specs.PgNodeRun.declared.port.Port.{Port}
use Rattle.pg_cluster_judges.specs.PgNodeRun.Acts.{Act, Given, Took, Saw, Did, log_entry, event_of}
use Rattle.pg_cluster_judges.specs.PgNodeRun.Ports.{ArePort, IsUnused, Meets, SamePort, HandedOver, handed_count, asked_kept, polled}
use Rattle.pg_cluster_judges.specs.PgNodeRun.Runs.{Runs, ports_at}
use Rattle.pg_cluster_judges.specs.PgNodeRun.Turns.{PortFollows, command_at, commands_at}
use Rattle.pg_cluster_judges.specs.PgStep.declared.answer.Answer.{Answer}
use Rattle.pg_cluster_judges.specs.PgStep.Step.{Issue, Retry}
use Rattle.pg_cluster.specs.Clients.{AllPairs, AreClients, AllHeard, ClientHeard, NodeHeard}
use Rattle.pg_cluster.specs.Clients.{command_in, commands_in, ports_begun, ports_ended}
use Rattle.pg_cluster.specs.ClientsLaws.{port_later, same_itself}
use Rattle.pg_cluster.specs.Promises.{RanAs}
use Rattle.pg_cluster.specs.Threads.{Thread, RunOf, RanOf, Joined, begun_by, limit_of, node_in, log_in}
use Rattle.pg_cluster.proofs.Paired.{pairs_none, pairs_append, pairs_first, pairs_rest}
use Rattle.pg_cluster.proofs.Paired.{pair_at, pairs_by, all_first, all_rest}

-- ---- commands, as a log has them

command_same : (place : ℕ) (input : Given) → command_at place input ≡ command_in place (event_of input)
command_same place (Took p x) = refl
command_same place (Saw p last) = refl
command_same place (Did (Issue port command)) = refl
command_same place (Did (Retry op)) = refl

commands_logged : (place : ℕ) (acts : List Act) → commands_at place acts ≡ commands_in place (map log_entry acts)
commands_logged place [] = refl
commands_logged place (act ∷ acts) = (λ j. command_same place act.input j ++ commands_logged place acts j)

-- ---- one client

port_heard : (place : ℕ) (acts : List Act) (log : List (ℕ × NodeEvent)) (x y : List Answer) (a b : Port) (client : Client) → PortFollows place acts x y a b → IsUnused a
    → Meets client b → commands_at place acts ≡ commands_in place log → ClientHeard place (length x) acts log y client
port_heard place acts log x y a b client follows unused meets same =
    let over : HandedOver x a = record { first = unused.handed ∙ sym (ap (λ n. take n x) unused.count); within = let e = unused.count in omega (arith, e) } in
    let over2 : HandedOver y b = follows.handed over in record {
      taken = follows.given;
      further = asked_kept b ++ meets.on_the_way;
      submitted = meets.asked ∙ (ap (λ w. w ++ meets.on_the_way) (follows.asked [] (unused.asked ∙ sym unused.kept)) ∙ append_assoc follows.given (asked_kept b) meets.on_the_way);
      logged = follows.commands ∙ same;
      later = follows.later over;
      unpolled = meets.unpolled ++ drop (handed_count b) y;
      polled = sym (take-append-drop (handed_count b) y) ∙ (ap (λ w. w ++ drop (handed_count b) y) (sym over2.first ∙ meets.polled)
          ∙ append_assoc (polled client) meets.unpolled (drop (handed_count b) y));
    }

-- ---- the clients of one node

module _ {K : Type 0} where
  node_heard : (begun ended : RunOf K) (clients : List Client) → Runs Sends Receives begun ended → log_in begun ≡ [] → All IsUnused (ports_at begun)
      → AllPairs Meets clients (ports_at ended) → NodeHeard begun (node_in ended) (log_in ended) clients
  node_heard begun ended clients runs unlogged unused meets =
      let logged : log_in ended ≡ map log_entry runs.serves.acts = runs.serves.follows.log ∙ ap (λ w. w ++ map log_entry runs.serves.acts) unlogged in record {
        acts = runs.serves.acts;
        lead = runs.serves.follows.lead;
        logged = logged;
        count = meets.len ∙ runs.serves.served.len;
        each = λ place none low.
            let pair = pair_at Meets clients (ports_at ended) meets place none low in
            let within : place < length (ports_at begun) = let e = meets.len in let s = runs.serves.served.len in omega (arith, low, e, s) in
            port_heard place runs.serves.acts (log_in ended) (answers_of (held_by (node_in begun)) place) (answers_of (held_by (node_in ended)) place)
            (get_or (ports_at begun) place pair.0) (get_or (ports_at ended) place pair.0) (get_or clients place none)
            (runs.serves.served.each place pair.0 within) (unused place pair.0 within) pair.1 (commands_logged place runs.serves.acts ∙ ap (commands_in place) (sym logged));
      }

  same_node : (begun ended : RunOf K) → Runs Sends Receives begun ended → AllPairs SamePort (ports_at begun) (ports_at ended)
  same_node begun ended runs = record {
    len = sym runs.serves.served.len;
    each = λ i x y low.
        let within : i < length (ports_at begun) = let s = runs.serves.served.len in omega (arith, low, s) in
        subst (λ (z : Port). SamePort (get_or (ports_at begun) i x) z) (get_or_default (ports_at ended) i x y low) (runs.serves.served.each i x within).same;
  }

  -- ---- all nodes

  pub first_ran : (thread : Thread K) (threads : List (Thread K)) (ran : RanOf K) (rans : List (RanOf K)) → Joined (thread ∷ threads) (ran ∷ rans) → Runs Sends Receives (begun_by thread) ran.run
  first_ran thread threads ran rans joined =
      let some : 0 < length (ran ∷ rans) = omega arith in let kept : RanAs (begun_by thread) (limit_of thread) ran = joined.1 0 thread ran some in kept.runs

  pub others_ran : (thread : Thread K) (threads : List (Thread K)) (ran : RanOf K) (rans : List (RanOf K)) → Joined (thread ∷ threads) (ran ∷ rans) → Joined threads rans
  others_ran thread threads ran rans joined = (
    let e : length (ran ∷ rans) ≡ length (thread ∷ threads) = joined.0 in omega (arith, e),
    λ i t r low. let less : suc i < length (ran ∷ rans) = omega (arith, low) in joined.1 (suc i) t r less,
  )

  pub same_ports : (threads : List (Thread K)) (rans : List (RanOf K)) → Joined threads rans → AllPairs SamePort (ports_begun threads) (ports_ended rans)
  same_ports [] [] joined = pairs_none SamePort
  same_ports [] (ran ∷ rans) joined = absurd (let e = joined.0 in omega (arith, e))
  same_ports (thread ∷ threads) [] joined = absurd (let e = joined.0 in omega (arith, e))
  same_ports (thread ∷ threads) (ran ∷ rans) joined =
      pairs_append SamePort (ports_at (begun_by thread)) (ports_at ran.run) (ports_begun threads) (ports_ended rans)
      (same_node (begun_by thread) ran.run (first_ran thread threads ran rans joined)) (same_ports threads rans (others_ran thread threads ran rans joined))

  pub clients_still : (threads : List (Thread K)) (rans : List (RanOf K)) (clients : List Client) → Joined threads rans → AreClients threads clients
      → AllPairs ArePort clients (ports_ended rans)
  clients_still threads rans clients joined are =
      pairs_by ArePort SamePort ArePort (λ client port port2 are same. port_later client client port port2 are (same_itself client) same) clients (ports_begun threads) (ports_ended rans)
      are (same_ports threads rans joined)

  pub heard_all : (threads : List (Thread K)) (rans : List (RanOf K)) (clients : List Client) → Joined threads rans → All (λ thread. log_in (begun_by thread) ≡ []) threads
      → All IsUnused (ports_begun threads) → AllPairs Meets clients (ports_ended rans)
      → AllHeard threads (map (λ ran. node_in ran.run) rans) (map (λ ran. log_in ran.run) rans) clients
  heard_all [] [] clients joined unlogged unused meets = nil_from_length clients meets.len
  heard_all [] (ran ∷ rans) clients joined unlogged unused meets = absurd (let e = joined.0 in omega (arith, e))
  heard_all (thread ∷ threads) [] clients joined unlogged unused meets = absurd (let e = joined.0 in omega (arith, e))
  heard_all (thread ∷ threads) (ran ∷ rans) clients joined unlogged unused meets =
      let begun = ports_at (begun_by thread) in
      let ended = ports_at ran.run in
      let some : 0 < length (thread ∷ threads) = omega arith in (
        take (length ended) clients,
        drop (length ended) clients,
        sym (take-append-drop (length ended) clients),
        node_heard (begun_by thread) ran.run (take (length ended) clients) (first_ran thread threads ran rans joined) (unlogged 0 thread some)
            (all_first IsUnused begun (ports_begun threads) unused) (pairs_first Meets clients ended (ports_ended rans) meets),
        heard_all threads rans (drop (length ended) clients) (others_ran thread threads ran rans joined)
            (λ i t low. let less : suc i < length (thread ∷ threads) = omega (arith, low) in unlogged (suc i) t less)
            (all_rest IsUnused begun (ports_begun threads) unused) (pairs_rest Meets clients ended (ports_ended rans) meets),
      )
