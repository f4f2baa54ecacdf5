-- What is true of each world that nodes come to which can be lost, whoever is lost and whenever.
use Rattle.std.specs.Prelude.{◌≡◌, ℕ, true, false, length, List}
use Rattle.pg_term.specs.declared.pid.Pid.{Pid}
use Rattle.pg_term.specs.declared.term.Term.{Term}
use Rattle.pg_laws.specs.PgStep.Machines.Losing.{LosingEvent}
use Rattle.pg_laws.specs.PgStep.Machines.Places.{is_place}
use Rattle.pg_laws.specs.PgStep.Config.{Config, name_at}
use Rattle.pg_laws.specs.PgStep.LossLaws.{LosingFrameWorld}
use Rattle.pg_laws.specs.PgStep.Step.{Action}
use Rattle.pg_laws.specs.Fresh.{MakesFresh}
use Rattle.pg_laws.specs.Reached.{FinishedAt}
use Rattle.pg_laws_losses.specs.Onward.{AnswersStay, AppliesOnce, EachCommand, EachStep, FormationStays, LookAnswers}
use Rattle.pg_laws_losses.specs.Onward.{LossesStay, ReadsTable, RefusesExactly, UsesReferencesOnce}
use Rattle.pg_laws_losses.specs.Reached.{nodes_of, steps_of}
use Rattle.pg_laws_losses.specs.Survived.{OneHistoryPastLosses}
use Rattle.pg_laws_losses.specs.Remains.Agreed.{AgreeOnUnchanged}
use Rattle.pg_laws_losses.specs.Remains.Heard.{MadeOf}
use Rattle.pg_laws_losses.specs.Remains.Missed.{TakenAlong}
use Rattle.pg_laws_losses.specs.Readiness.Ready.{ReadyGoOn}
use Rattle.pg_laws_losses.specs.Retrying.Retried.{RetriesGoOn}

pub record LossesSurvived (config : Config) (events : List (LosingEvent Action)) (w : LosingFrameWorld) : Type 0 where
  -- what live nodes have applied, who holds locks, what was answered
  pub kept : OneHistoryPastLosses config events w
  -- what the table of each node is made of
  pub made : (i : ℕ) → is_place (length config) i ≡ true → MadeOf config events w i
  -- what the losses that a live node saw took along of each group, and what its table is without it
  pub along : (i : ℕ) (name : Term) → is_place (length config) i ≡ true → w.gone i ≡ false → TakenAlong config events w i name
  -- who agrees on a group that no lost node changed
  pub agree : (i j x : ℕ) (name : Term) → AgreeOnUnchanged config events w i j x name
  -- what becomes of commands that a loss has left ready
  pub ready : ReadyGoOn config w
  -- what becomes of retries
  pub retries : RetriesGoOn config w
  -- what stays of each world on the way: answers; formation and ends; losses
  pub answers : AnswersStay config events w
  pub formation : FormationStays config events w
  pub losses : LossesStay config events w
  -- no process is made twice, and each reference has one use
  pub fresh : (i : ℕ) → MakesFresh config (nodes_of w) i
  pub references : UsesReferencesOnce config events w
  -- what came of each command: of a query, of one that the look answers, and which are refused
  pub reads : EachCommand config events ReadsTable
  pub looks : EachCommand config events (LookAnswers config)
  pub refuses : EachCommand config events (RefusesExactly config)
  -- what came of each step: one update at most
  pub updates : EachStep config events AppliesOnce
  -- a process of a node which that node has as ended was told to end there
  pub finished : (i : ℕ) (pid : Pid) → pid.node ≡ name_at config i → (w.world.node i).state.ended pid ≡ true → FinishedAt (steps_of events) i pid
