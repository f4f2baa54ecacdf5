-- A cluster that is closed.
use Rattle.std.proofs.Common.{◌≡◌, inl, inr, ℕ, ◌<◌, Bool, false}
use Rattle.std.proofs.Common.{List, [], ◌∷◌, ◌++◌, length, map, arith}
use Rattle.std.proofs.Common.{Result, Ok, Err, refl, sym, ap, subst, ◌∙◌}
use Rattle.std.specs.Prelude.{IfOk}
use Rattle.pg_cluster_judges.specs.PgStep.Config.{Config}
use Rattle.pg_cluster_judges.specs.Closed.{IsOneRun}
use Rattle.pg_cluster_judges.specs.Judges.{Agree}
use Rattle.pg_cluster_judges.specs.Schedule.{NobodyLost}
use Rattle.pg_cluster.specs.Threads.{Thread, AreMade, begun_by}
use Rattle.pg_cluster_judges.specs.NodeOf.{NodeOf}
use Rattle.pg_cluster_judges.specs.Together.{AreOneRun}
use Rattle.pg_cluster_judges.proofs.Finished.{in_schedule, in_plain_schedule, SurvivorsOfOneRun}
use Rattle.std.proofs.Common.{◌≡◌, ◌<◌, ℕ, List, [], ◌∷◌, ◌++◌, length, map, get_or}
use Rattle.std.proofs.Common.{refl, sym, ◌∙◌, ap, subst, arith, inl, inr, length-append}
use Rattle.std.specs.Prelude.{Bool, false, Result, Ok, Err, IfOk, IfErr, MatchResult}
use Rattle.std.proofs.lemmas.Bool.Decides.{eqb_tells}
use Rattle.std.specs.List.{All, AllByRecursion}
use Rattle.std.specs.declared.alloc.Global.{Global}
use Rattle.std.specs.declared.vec.Vec.{Vec}
use Rattle.std.proofs.lemmas.List.{length-map, get_or-map}
use Rattle.std.proofs.Math.ListN.{get_or-append}
use Rattle.std.proofs.Math.Seq.{get_or-append_seam}
use Rattle.pg_ring.specs.declared.slot_in.SlotIn.{SlotIn}
use Rattle.pg_cluster_judges.specs.PgNodeRun.declared.log.NodeEvent.{NodeEvent}
use Rattle.pg_cluster_judges.specs.PgNodeRun.declared.notices.Notice.{Notice}
use Rattle.pg_cluster_judges.specs.PgNodeRun.declared.port.Client.{Client}
use Rattle.pg_ring.specs.Slots.{taken}
use Rattle.pg_cluster_judges.specs.PgNodeRun.Ports.{Meets}
use Rattle.pg_cluster_judges.specs.PgStep.Config.{Config}
use Rattle.pg_cluster_judges.specs.PgWorldPackets.declared.step.FrameStep.{FrameStep}
use Rattle.pg_cluster_judges.specs.declared.closed.Closed.{Closed}
use Rattle.pg_cluster_judges.specs.declared.closed.Stopped.{Stopped}
use Rattle.pg_cluster_judges.specs.declared.closed.TurnCount.{TurnCount}
use Rattle.pg_cluster.specs.Clients.{AllPairs, AllHeard, ClientsRest, ports_ended}
use Rattle.pg_cluster_judges.specs.Closed.{IsByClock, IsOneLosingRun, IsOneRun, JoinsToOneLosingRun, JoinsToOneRun}
use Rattle.pg_cluster_judges.specs.Closed.{nodes_of, logs_in, logs_of, turns_of, losses_of, clients_of}
use Rattle.pg_cluster_judges.specs.Judges.{Agree}
use Rattle.pg_cluster.specs.Ended.{AreWired, AllArrived}
use Rattle.pg_cluster.specs.Notices.{IsOfLost}
use Rattle.pg_cluster_judges.specs.Schedule.{NobodyLost}
use Rattle.pg_cluster_judges.specs.Schedule.{IsLosingSchedule, IsSchedule}
use Rattle.std.proofs.Props.{props}
use mathlib.Core.Logic.{∥∥₁_elim, ∥∥₁_map}
use Rattle.pg_cluster_judges.specs.Survivors.{SurvivorsAgree}
use Rattle.pg_cluster.specs.Threads.{RunOf, RanOf, Thread, AreMade, EndedWith, Joined, begun_by}
use Rattle.pg_cluster_judges.specs.NodeOf.{NodeOf}
use Rattle.pg_cluster.specs.Threads.{lasts_ended, node_in, log_in, turns_in, rows_begun, rows_ended, notices_ended}
use Rattle.pg_cluster_judges.specs.Together.{AreOneLosingRun, AreOneRun}
use Rattle.pg_cluster.proofs.Crossing.{crossed_after}
use Rattle.pg_cluster.proofs.Hearing.{heard_all}
use Rattle.pg_cluster_judges.proofs.StepsThere.{steps_there}

-- one more stands in its place
pub one_more_stands :
    {X Y : Type 0} (P : X → Y → Type 0) (hs : List X) (rs : List Y) (x : X) (r : Y)
    → ((h : X) → get_or hs (length rs) h ≡ x)
    → P x r
    → ((i : ℕ) (h : X) (d : Y) → i < length rs → P (get_or hs i h) (get_or rs i d))
    → (i : ℕ) (h : X) (d : Y)
    → i < length (rs ++ r ∷ [])
    → P (get_or hs i h) (get_or (rs ++ r ∷ []) i d)
one_more_stands P hs rs x r at here all i h d low = elim (eqb_tells i (length rs)) [
  | inl t ↦ rw (t.1, at h, get_or-append_seam rs r [] d) here
  | inr f ↦
      let less : i < length rs = let n = length-append rs (r ∷ []) in omega (arith, f.1) in
      rw (get_or-append rs (r ∷ []) d i less) (all i h d less)
]

-- what stopped is what the threads gave back
pub stopped_ended : {K : Type 0} (lost : List Bool) (threads : List (Thread K)) (rans : List (RanOf K)) (stopped : Stopped)
    → AreWired (length threads) (rows_begun threads) → Joined threads rans → AllArrived (length threads) (rows_ended rans)
    → nodes_of stopped ≡ map (λ ran. node_in ran.run) rans → logs_of stopped ≡ map (λ ran. log_in ran.run) rans
    → turns_of stopped ≡ map turns_in rans → length lost ≡ length threads
    → ((place : ℕ) (none : SlotIn Notice) → place < length lost
    → AllByRecursion (IsOfLost (length lost) (λ node. get_or lost node false) (λ node. get_or (lasts_ended rans) node 0) place) (taken (get_or (notices_ended rans) place none)))
    → (NobodyLost lost → All (λ inlet. taken inlet ≡ []) (notices_ended rans))
    → EndedWith lost threads (nodes_of stopped) (logs_of stopped) (turns_of stopped)
stopped_ended lost threads rans stopped wired joined arrived nodes logs turns marked told untold = record {
  rans = rans;
  joined = joined;
  ended = nodes;
  logged = logs;
  counted = turns;
  crossed = crossed_after (length threads) threads rans refl wired joined arrived;
  marked = marked;
  told = told;
  untold = untold;
}

-- and so it is of what is finished
pub finished_ended : {K : Type 0} (lost : List Bool) (threads : List (Thread K)) (stopped : Stopped) (result : Result Closed Stopped) → EndedWith lost threads (nodes_of stopped) (logs_of stopped) (turns_of stopped)
    → IfOk result (λ closed. closed.nodes.items ≡ nodes_of stopped) → IfOk result (λ closed. map (λ v. v.items) closed.logs.items ≡ logs_of stopped)
    → IfOk result (λ closed. closed.turns.items ≡ turns_of stopped) → IfErr result (λ other. other ≡ stopped)
    → MatchResult result (λ closed. EndedWith lost threads closed.nodes.items (map (λ v. v.items) closed.logs.items) closed.turns.items) (λ other. EndedWith lost threads (nodes_of other) (logs_of other) (turns_of other))
finished_ended lost threads stopped (Ok closed) ended nodes logs turns same =
    subst (λ ns. EndedWith lost threads ns (map (λ v. v.items) closed.logs.items) closed.turns.items) (sym nodes)
    (subst (λ ls. EndedWith lost threads (nodes_of stopped) ls closed.turns.items) (sym logs) (subst (EndedWith lost threads (nodes_of stopped) (logs_of stopped)) (sym turns) ended))
finished_ended lost threads stopped (Err other) ended nodes logs turns same = subst (λ (s : Stopped). EndedWith lost threads (nodes_of s) (logs_of s) (turns_of s)) (sym same) ended

-- the clients are the same
pub finished_clients : (clients : List Client) (stopped : Stopped) (result : Result Closed Stopped) → ClientsRest clients (clients_of stopped)
    → IfOk result (λ closed. closed.clients.items ≡ clients_of stopped) → IfErr result (λ other. other ≡ stopped)
    → MatchResult result (λ closed. ClientsRest clients closed.clients.items) (λ other. ClientsRest clients (clients_of other))
finished_clients clients stopped (Ok closed) rest same err = subst (ClientsRest clients) (sym same) rest
finished_clients clients stopped (Err other) rest same err = subst (λ (s : Stopped). ClientsRest clients (clients_of s)) (sym err) rest

-- merely so, where nodes may be lost
pub ended_merely : {K : Type 0} (lost : List Bool) (threads : List (Thread K)) (stopped : Stopped) (result : Result Closed Stopped) → ∥ EndedWith lost threads (nodes_of stopped) (logs_of stopped) (turns_of stopped) ∥₁
    → IfOk result (λ closed. closed.nodes.items ≡ nodes_of stopped) → IfOk result (λ closed. map (λ v. v.items) closed.logs.items ≡ logs_of stopped)
    → IfOk result (λ closed. closed.turns.items ≡ turns_of stopped) → IfErr result (λ other. other ≡ stopped)
    → MatchResult result (λ closed. ∥ EndedWith lost threads closed.nodes.items (map (λ v. v.items) closed.logs.items) closed.turns.items ∥₁) (λ other. ∥ EndedWith lost threads (nodes_of other) (logs_of other) (turns_of other) ∥₁)
ended_merely lost threads stopped (Ok closed) ended nodes logs turns same =
    subst (λ ns. ∥ EndedWith lost threads ns (map (λ v. v.items) closed.logs.items) closed.turns.items ∥₁) (sym nodes)
    (subst (λ ls. ∥ EndedWith lost threads (nodes_of stopped) ls closed.turns.items ∥₁) (sym logs) (subst (λ ts. ∥ EndedWith lost threads (nodes_of stopped) (logs_of stopped) ts ∥₁) (sym turns) ended))
ended_merely lost threads stopped (Err other) ended nodes logs turns same = subst (λ (s : Stopped). ∥ EndedWith lost threads (nodes_of s) (logs_of s) (turns_of s) ∥₁) (sym same) ended

-- what they said and heard is in what is finished
pub heard_merely : {K : Type 0} (threads : List (Thread K)) (clients : List Client) (stopped : Stopped) (result : Result Closed Stopped)
    → ((given : Config) → AreMade given (map begun_by threads) → ∥ AllHeard threads (nodes_of stopped) (logs_of stopped) clients ∥₁)
    → IfOk result (λ closed. closed.nodes.items ≡ nodes_of stopped) → IfOk result (λ closed. map (λ v. v.items) closed.logs.items ≡ logs_of stopped) → IfErr result (λ other. other ≡ stopped)
    → MatchResult result
    (λ closed. (given : Config) → AreMade given (map begun_by threads) → ∥ AllHeard threads closed.nodes.items (map (λ v. v.items) closed.logs.items) clients ∥₁)
    (λ other. (given : Config) → AreMade given (map begun_by threads) → ∥ AllHeard threads (nodes_of other) (logs_of other) clients ∥₁)
heard_merely threads clients stopped (Ok closed) heard nodes logs same = λ given made.
    subst (λ (ns : List NodeOf). ∥ AllHeard threads ns (map (λ v. v.items) closed.logs.items) clients ∥₁) (sym nodes)
    (subst (λ (ls : List (List (ℕ × NodeEvent))). ∥ AllHeard threads (nodes_of stopped) ls clients ∥₁) (sym logs) (heard given made))
heard_merely threads clients stopped (Err other) heard nodes logs same = λ given made.
    subst (λ (s : Stopped). ∥ AllHeard threads (nodes_of s) (logs_of s) clients ∥₁) (sym same) (heard given made)

-- and in what stopped
pub stopped_heard : {K : Type 0} (threads : List (Thread K)) (rans : List (RanOf K)) (clients : List Client) (stopped : Stopped) → Joined threads rans
    → AllPairs Meets clients (ports_ended rans) → nodes_of stopped ≡ map (λ ran. node_in ran.run) rans → logs_of stopped ≡ map (λ ran. log_in ran.run) rans
    → (given : Config) → AreMade given (map begun_by threads) → AllHeard threads (nodes_of stopped) (logs_of stopped) clients
stopped_heard {K} threads rans clients stopped joined meets nodes logs given made =
    let unlogged : All (λ (thread : Thread K). log_in (begun_by thread) ≡ []) threads = λ i thread low.
    let more : i < length (map begun_by threads) = let n = length-map threads begun_by in omega (arith, low, n) in
    subst (λ (run : RunOf K). log_in run ≡ []) (get_or-map begun_by threads i thread (begun_by thread) low) (made.unlogged i (begun_by thread) more) in
    subst (λ (ns : List NodeOf). AllHeard threads ns (logs_of stopped) clients) (sym nodes)
    (subst (λ (ls : List (List (ℕ × NodeEvent))). AllHeard threads (map (λ ran. node_in ran.run) rans) ls clients) (sym logs)
    (heard_all threads rans clients joined unlogged made.unused meets))

-- which were lost is the same
pub finished_lost : (lost : List Bool) (stopped : Stopped) (result : Result Closed Stopped) → losses_of stopped ≡ lost
    → IfOk result (λ closed. closed.lost.items ≡ losses_of stopped) → IfErr result (λ other. other ≡ stopped)
    → MatchResult result (λ closed. closed.lost.items ≡ lost) (λ other. losses_of other ≡ lost)
finished_lost lost stopped (Ok closed) are told same = told ∙ are
finished_lost lost stopped (Err other) are told same = ap losses_of same ∙ are

-- ---- its steps

-- they are one run of the machine with losses
pub finished_losing_run : {K : Type 0}
    → ((given : Config) (lost : List Bool) (threads : List (Thread K)) (nodes : List NodeOf) (logs : List (List (ℕ × NodeEvent))) (turns : List TurnCount) (schedule : List FrameStep)
    → AreMade given (map begun_by threads) → EndedWith lost threads nodes logs turns → IsLosingSchedule logs lost schedule → AreOneLosingRun given lost nodes schedule)
    → (lost : List Bool) (threads : List (Thread K)) (result : Result Closed Stopped)
    → MatchResult result (λ closed. ∥ EndedWith lost threads closed.nodes.items (map (λ v. v.items) closed.logs.items) closed.turns.items ∥₁) (λ other. ∥ EndedWith lost threads (nodes_of other) (logs_of other) (turns_of other) ∥₁)
    → IfOk result IsByClock → MatchResult result (λ closed. closed.lost.items ≡ lost) (λ other. losses_of other ≡ lost)
    → IfOk result (λ closed. (given : Config) → AreMade given (map begun_by threads) → IsOneLosingRun given closed)
finished_losing_run law lost threads (Ok closed) ended order same = λ given made steps are.
    ∥∥₁_map ended (λ e.
    law given closed.lost.items threads closed.nodes.items (logs_in closed) closed.turns.items steps made
    (subst (λ marks. EndedWith marks threads closed.nodes.items (logs_in closed) closed.turns.items) (sym same) e) (in_schedule closed order steps are))
finished_losing_run law lost threads (Err other) ended order same = tt

-- they are one run, where nobody was lost
pub finished_run : {K : Type 0}
    → ((given : Config) (lost : List Bool) (threads : List (Thread K)) (nodes : List NodeOf) (logs : List (List (ℕ × NodeEvent))) (turns : List TurnCount) (schedule : List FrameStep)
    → NobodyLost lost → AreMade given (map begun_by threads) → EndedWith lost threads nodes logs turns → IsSchedule logs (length logs) schedule → AreOneRun given nodes logs schedule)
    → (lost : List Bool) (threads : List (Thread K)) (result : Result Closed Stopped)
    → (NobodyLost lost → MatchResult result (λ closed. EndedWith lost threads closed.nodes.items (map (λ v. v.items) closed.logs.items) closed.turns.items) (λ other. EndedWith lost threads (nodes_of other) (logs_of other) (turns_of other)))
    → IfOk result IsByClock → MatchResult result (λ closed. closed.lost.items ≡ lost) (λ other. losses_of other ≡ lost)
    → IfOk result (λ closed. NobodyLost lost → (given : Config) → AreMade given (map begun_by threads) → IsOneRun given closed)
finished_run law lost threads (Ok closed) ended order same = λ nobody given made steps are.
    law given lost threads closed.nodes.items (logs_in closed) closed.turns.items steps nobody made (ended nobody) (in_plain_schedule closed order (subst NobodyLost (sym same) nobody) steps are)
finished_run law lost threads (Err other) ended order same = tt

-- what a thread made joins to one run, where no node was lost
pub stopped_joins : {K : Type 0}
    → ((given : Config) (lost : List Bool) (threads : List (Thread K)) (nodes : List NodeOf) (logs : List (List (ℕ × NodeEvent))) (turns : List TurnCount) (schedule : List FrameStep)
    → NobodyLost lost → AreMade given (map begun_by threads) → EndedWith lost threads nodes logs turns → IsSchedule logs (length logs) schedule → AreOneRun given nodes logs schedule)
    → (lost : List Bool) (threads : List (Thread K)) (stopped : Stopped) (result : Result Closed Stopped) → (NobodyLost lost → EndedWith lost threads (nodes_of stopped) (logs_of stopped) (turns_of stopped))
    → IfErr result (λ other. other ≡ stopped)
    → IfErr result (λ other. NobodyLost lost → (given : Config) → AreMade given (map begun_by threads) → JoinsToOneRun given (nodes_of other) (logs_of other))
stopped_joins law lost threads stopped (Ok closed) ended same = tt
stopped_joins law lost threads stopped (Err other) ended same = λ nobody given made.
    subst (λ (s : Stopped). JoinsToOneRun given (nodes_of s) (logs_of s)) (sym same)
    (λ schedule is. law given lost threads (nodes_of stopped) (logs_of stopped) (turns_of stopped) schedule nobody made (ended nobody) is)

-- what threads made joins to one run of the machine with losses, whoever was lost
pub stopped_joins_losing : {K : Type 0}
    → ((given : Config) (lost : List Bool) (threads : List (Thread K)) (nodes : List NodeOf) (logs : List (List (ℕ × NodeEvent))) (turns : List TurnCount) (schedule : List FrameStep)
    → AreMade given (map begun_by threads) → EndedWith lost threads nodes logs turns → IsLosingSchedule logs lost schedule → AreOneLosingRun given lost nodes schedule)
    → (lost : List Bool) (threads : List (Thread K)) (stopped : Stopped) (result : Result Closed Stopped) → ∥ EndedWith lost threads (nodes_of stopped) (logs_of stopped) (turns_of stopped) ∥₁
    → IfErr result (λ other. other ≡ stopped)
    → IfErr result (λ other. (given : Config) → AreMade given (map begun_by threads) → JoinsToOneLosingRun given lost (nodes_of other) (logs_of other))
stopped_joins_losing law lost threads stopped (Ok closed) ended same = tt
stopped_joins_losing law lost threads stopped (Err other) ended same = λ given made.
    subst (λ (s : Stopped). JoinsToOneLosingRun given lost (nodes_of s) (logs_of s)) (sym same)
    (λ schedule is. ∥∥₁_map ended (λ e. law given lost threads (nodes_of stopped) (logs_of stopped) (turns_of stopped) schedule made e is))

-- and of a cluster that has ended
pub closed_survivors : {K : Type 0} → SurvivorsOfOneRun
    → (lost : List Bool) (threads : List (Thread K)) (result : Result Closed Stopped)
    → MatchResult result (λ closed. ∥ EndedWith lost threads closed.nodes.items (map (λ v. v.items) closed.logs.items) closed.turns.items ∥₁) (λ other. ∥ EndedWith lost threads (nodes_of other) (logs_of other) (turns_of other) ∥₁)
    → IfOk result IsByClock → IfOk result (λ closed. (given : Config) → AreMade given (map begun_by threads) → IsOneLosingRun given closed)
    → IfOk result (λ closed. (given : Config) → AreMade given (map begun_by threads) → ∥ SurvivorsAgree closed.nodes.items closed.lost.items closed.logs.items ∥₁)
closed_survivors law lost threads (Ok closed) ended order run = λ given made.
    let there = steps_there closed in
    ∥∥₁_elim ended (hlevel props) (λ e.
    let count : length closed.logs.items ≡ length closed.nodes.items =
    sym (length-map closed.logs.items (λ v. v.items)) ∙ (ap length e.logged ∙ (length-map e.rans (λ ran. log_in ran.run) ∙ (sym (length-map e.rans (λ ran. node_in ran.run)) ∙ ap length (sym e.ended)))) in
    ∥∥₁_map (run given made there.0 there.1) (λ one. law given closed.lost.items closed.nodes.items closed.logs.items there.0 one count (in_schedule closed order there.0 there.1)))
closed_survivors law lost threads (Err other) ended order run = tt

-- the nodes of a cluster that has ended agree
pub closed_agree : {K : Type 0}
    → ((given : Config) (nodes : List NodeOf) (logs : List (Vec (ℕ × NodeEvent) Global)) (schedule : List FrameStep) → AreOneRun given nodes (map (λ v. v.items) logs) schedule → Agree nodes logs)
    → (lost : List Bool) (threads : List (Thread K)) (result : Result Closed Stopped)
    → IfOk result (λ closed. NobodyLost lost → (given : Config) → AreMade given (map begun_by threads) → IsOneRun given closed)
    → IfOk result (λ closed. NobodyLost lost → (given : Config) → AreMade given (map begun_by threads) → Agree closed.nodes.items closed.logs.items)
closed_agree law lost threads (Ok closed) run = λ nobody given made.
    let there = steps_there closed in
    law given closed.nodes.items closed.logs.items there.0 (run nobody given made there.0 there.1)
closed_agree law lost threads (Err stopped) run = tt
