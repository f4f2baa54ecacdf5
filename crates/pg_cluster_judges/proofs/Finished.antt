-- A cluster that has ended, by the order of its logs.
use Rattle.std.proofs.Common.{◌≡◌, ℕ, List, length, map}
use Rattle.std.proofs.Common.{sym, ◌∙◌, ap, subst}
use Rattle.std.specs.Prelude.{Bool, Result, Ok, Err, IfOk}
use Rattle.std.specs.declared.alloc.Global.{Global}
use Rattle.std.specs.declared.vec.Vec.{Vec}
use Rattle.std.proofs.lemmas.List.{length-map}
use Rattle.pg_node_run.specs.declared.log.NodeEvent.{NodeEvent}
use Rattle.pg_world.specs.PgStep.Config.{Config}
use Rattle.pg_world.specs.PgWorldPackets.declared.step.FrameStep.{FrameStep}
use Rattle.pg_cluster_judges.specs.declared.closed.Closed.{Closed}
use Rattle.pg_cluster_judges.specs.declared.closed.Stopped.{Stopped}
use Rattle.pg_cluster_judges.specs.Closed.{AreStepsOf, IsByClock, IsOneLosingRun, IsOneRun, JoinsToOneLosingRun, JoinsToOneRun}
use Rattle.pg_cluster_judges.specs.Closed.{nodes_of, logs_in, logs_of, losses_of}
use Rattle.pg_cluster_judges.specs.Judges.{Agree}
use Rattle.pg_cluster_judges.specs.Schedule.{NobodyLost}
use Rattle.pg_cluster_judges.specs.Schedule.{IsLosingSchedule, IsSchedule}
use mathlib.Core.Logic.{∥∥₁_map}
use Rattle.pg_cluster_judges.specs.Survivors.{SurvivorsAgree}
use Rattle.pg_cluster_judges.specs.NodeOf.{NodeOf}
use Rattle.pg_cluster_judges.specs.Together.{AreOneLosingRun, AreOneRun}
use Rattle.pg_cluster_judges.proofs.Scheduling.{all_events}
use Rattle.pg_cluster_judges.proofs.StepsThere.{steps_there}

-- what the steps of a cluster that has ended are, whoever was lost, and where nobody was
pub in_schedule : (closed : Closed) → IsByClock closed → (steps : List FrameStep) → AreStepsOf closed steps → IsLosingSchedule (logs_in closed) closed.lost.items steps
in_schedule closed order steps are = record { order = closed.order.items; merges = order; is = are }

pub in_plain_schedule : (closed : Closed) → IsByClock closed → NobodyLost closed.lost.items → (steps : List FrameStep) → AreStepsOf closed steps → IsSchedule (logs_in closed) (length (logs_in closed)) steps
in_plain_schedule closed order nobody steps are = all_events (logs_in closed) closed.lost.items steps (in_schedule closed order steps are) nobody

-- ---- what stopped, once it is finished

pub joined_run : (stopped : Stopped) (result : Result Closed Stopped) → IfOk result (λ closed. closed.nodes.items ≡ nodes_of stopped)
    → IfOk result (λ closed. map (λ v. v.items) closed.logs.items ≡ logs_of stopped) → IfOk result (λ closed. closed.lost.items ≡ losses_of stopped) → IfOk result IsByClock
    → IfOk result (λ closed. NobodyLost (losses_of stopped) → (given : Config) → JoinsToOneRun given (nodes_of stopped) (logs_of stopped) → IsOneRun given closed)
joined_run stopped (Ok closed) nodes logs lost order = λ nobody given joins steps are.
    subst (λ ns. AreOneRun given ns (logs_in closed) steps) (sym nodes)
    (subst (λ ls. AreOneRun given (nodes_of stopped) ls steps) (sym logs)
    (joins steps (subst (λ ls. IsSchedule ls (length ls) steps) logs (in_plain_schedule closed order (subst NobodyLost (sym lost) nobody) steps are))))
joined_run stopped (Err other) nodes logs lost order = tt

-- the same, whoever was lost
pub joined_losing_run : (stopped : Stopped) (result : Result Closed Stopped) → IfOk result (λ closed. closed.nodes.items ≡ nodes_of stopped)
    → IfOk result (λ closed. map (λ v. v.items) closed.logs.items ≡ logs_of stopped) → IfOk result (λ closed. closed.lost.items ≡ losses_of stopped) → IfOk result IsByClock
    → IfOk result (λ closed. (given : Config) → JoinsToOneLosingRun given (losses_of stopped) (nodes_of stopped) (logs_of stopped) → IsOneLosingRun given closed)
joined_losing_run stopped (Ok closed) nodes logs lost order = λ given joins steps are.
    subst (λ ns. ∥ AreOneLosingRun given closed.lost.items ns steps ∥₁) (sym nodes)
    (subst (λ marks. ∥ AreOneLosingRun given marks (nodes_of stopped) steps ∥₁) (sym lost)
    (joins steps (subst (λ ls. IsLosingSchedule ls (losses_of stopped) steps) logs
    (subst (λ marks. IsLosingSchedule (logs_in closed) marks steps) lost (in_schedule closed order steps are)))))
joined_losing_run stopped (Err other) nodes logs lost order = tt

pub joined_agree : ((given : Config) (nodes : List NodeOf) (logs : List (Vec (ℕ × NodeEvent) Global)) (schedule : List FrameStep)
    → AreOneRun given nodes (map (λ v. v.items) logs) schedule → Agree nodes logs)
    → (stopped : Stopped) (result : Result Closed Stopped)
    → IfOk result (λ closed. NobodyLost (losses_of stopped) → (given : Config) → JoinsToOneRun given (nodes_of stopped) (logs_of stopped) → IsOneRun given closed)
    → IfOk result (λ closed. NobodyLost (losses_of stopped) → (given : Config) → JoinsToOneRun given (nodes_of stopped) (logs_of stopped) → Agree closed.nodes.items closed.logs.items)
joined_agree law stopped (Ok closed) run = λ nobody given joins.
    let there = steps_there closed in
    law given closed.nodes.items closed.logs.items there.0 (run nobody given joins there.0 there.1)
joined_agree law stopped (Err other) run = tt

-- ---- survivors

-- the laws that are cited
abbrev pub SurvivorsOfOneRun : Type 0
SurvivorsOfOneRun = (given : Config) (lost : List Bool) (nodes : List NodeOf) (logs : List (Vec (ℕ × NodeEvent) Global)) (schedule : List FrameStep)
    → AreOneLosingRun given lost nodes schedule → length logs ≡ length nodes → IsLosingSchedule (map (λ v. v.items) logs) lost schedule → SurvivorsAgree nodes lost logs

-- they agree, of what stopped, once it is finished
pub joined_survivors : SurvivorsOfOneRun → (stopped : Stopped) (result : Result Closed Stopped) → IfOk result (λ closed. closed.nodes.items ≡ nodes_of stopped)
    → IfOk result (λ closed. map (λ v. v.items) closed.logs.items ≡ logs_of stopped) → IfOk result IsByClock
    → IfOk result (λ closed. (given : Config) → JoinsToOneLosingRun given (losses_of stopped) (nodes_of stopped) (logs_of stopped) → IsOneLosingRun given closed)
    → IfOk result (λ closed. (given : Config) → JoinsToOneLosingRun given (losses_of stopped) (nodes_of stopped) (logs_of stopped)
    → length (logs_of stopped) ≡ length (nodes_of stopped) → ∥ SurvivorsAgree closed.nodes.items closed.lost.items closed.logs.items ∥₁)
joined_survivors law stopped (Ok closed) nodes logs order run = λ given joins sizes.
    let count : length closed.logs.items ≡ length closed.nodes.items =
    sym (length-map closed.logs.items (λ v. v.items)) ∙ (ap length logs ∙ (sizes ∙ ap length (sym nodes))) in
    let there = steps_there closed in
    ∥∥₁_map (run given joins there.0 there.1) (λ one. law given closed.lost.items closed.nodes.items closed.logs.items there.0 one count (in_schedule closed order there.0 there.1))
joined_survivors law stopped (Err other) nodes logs order run = tt
