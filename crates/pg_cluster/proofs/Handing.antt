-- What a cluster in one hand ends as, of what it began with.
use Rattle.std.specs.Prelude.{Result, Ok, Err, IfOk, IfErr, MatchResult}
use mathlib.Core.Logic.{∥∥₁_elim, ∥∥₁_map}
use Rattle.std.proofs.Props.{props}
use Rattle.pg_cluster_judges.specs.PgStep.Config.{Config}
use Rattle.pg_cluster_judges.specs.declared.closed.Closed.{Closed}
use Rattle.pg_cluster_judges.specs.declared.closed.Stopped.{Stopped}
use Rattle.pg_cluster_judges.specs.Closed.{IsOneLosingRun}

module _ (Made : Config → Type 0) (given : Config) (made : ∥ Made given ∥₁) where
  -- what follows of each configuration that made the threads follows of the one that did, as a fact
  pub of_its_own : (Then : Type 0) (Shown : Config → Closed → Type 0) (closed : Result Closed Stopped)
      → IfOk closed (λ closed. Then → (given : Config) → Made given → Shown given closed) → IfOk closed (λ closed. Then → ∥ Shown given closed ∥₁)
  of_its_own Then Shown (Ok closed) all = λ then. ∥∥₁_map made (λ (m : Made given). all then given m)
  of_its_own Then Shown (Err stopped) all = tt

  -- a fact that follows so, whatever became of it
  pub fact_of_its_own : (A : Closed → Type 0) (B : Stopped → Type 0) (closed : Result Closed Stopped)
      → MatchResult closed (λ closed. (given : Config) → Made given → ∥ A closed ∥₁) (λ stopped. (given : Config) → Made given → ∥ B stopped ∥₁)
      → MatchResult closed (λ closed. ∥ A closed ∥₁) (λ stopped. ∥ B stopped ∥₁)
  fact_of_its_own A B (Ok closed) all = ∥∥₁_elim made (hlevel props) (λ (m : Made given). all given m)
  fact_of_its_own A B (Err stopped) all = ∥∥₁_elim made (hlevel props) (λ (m : Made given). all given m)

  -- the same of what is finished alone
  pub fact_once : (Shown : Config → Closed → Type 0) (closed : Result Closed Stopped) → IfOk closed (λ closed. (given : Config) → Made given → ∥ Shown given closed ∥₁)
      → IfOk closed (λ closed. ∥ Shown given closed ∥₁)
  fact_once Shown (Ok closed) all = ∥∥₁_elim made (hlevel props) (λ (m : Made given). all given m)
  fact_once Shown (Err stopped) all = tt

  -- and of its run
  pub run_once : (closed : Result Closed Stopped) → IfOk closed (λ closed. (given : Config) → Made given → IsOneLosingRun given closed) → IfOk closed (IsOneLosingRun given)
  run_once (Ok closed) all = λ steps are. ∥∥₁_elim made (hlevel props) (λ (m : Made given). all given m steps are)
  run_once (Err stopped) all = tt

  -- and of what stopped alone
  pub stopped_of_its_own : (Then : Type 0) (Joins : Config → Stopped → Type 0) (closed : Result Closed Stopped)
      → IfErr closed (λ stopped. Then → (given : Config) → Made given → Joins given stopped) → IfErr closed (λ stopped. Then → ∥ Joins given stopped ∥₁)
  stopped_of_its_own Then Joins (Ok closed) all = tt
  stopped_of_its_own Then Joins (Err stopped) all = λ then. ∥∥₁_map made (λ (m : Made given). all then given m)

  pub stopped_once : (Joins : Config → Stopped → Type 0) (closed : Result Closed Stopped)
      → IfErr closed (λ stopped. (given : Config) → Made given → Joins given stopped) → IfErr closed (λ stopped. ∥ Joins given stopped ∥₁)
  stopped_once Joins (Ok closed) all = tt
  stopped_once Joins (Err stopped) all = ∥∥₁_map made (λ (m : Made given). all given m)
