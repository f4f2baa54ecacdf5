-- What is told of acts, and of answers.
use Rattle.std.proofs.Common.{◌≡◌, ◌∙◌, ℕ, Bool, false, List, Option, Some, None, Ok, refl, sym, ap, subst}
use Rattle.pg_term.specs.declared.pid.Pid.{Pid}
use Rattle.pg_node.specs.PgGroup.Table.{Table}
use Rattle.pg_node.specs.PgGroup.declared.update.Update.{Update}
use Rattle.pg_node.specs.PgStep.Machines.Clocked.{Timed}
use Rattle.pg_node.specs.PgStep.Nodes.{Node}
use Rattle.pg_node.specs.PgStep.State.{State}
use Rattle.pg_node.specs.PgStep.Step.{Issue, Retry, TimedTurn}
use Rattle.pg_node.specs.PgStep.declared.answer.Reply.{Reply}
use Rattle.pg_node.specs.PgStep.declared.answer.Reply.TheVariants as replies
use Rattle.pg_node.specs.PgStep.declared.command.Command.{Command}
use Rattle.pg_node.specs.PgStep.declared.command.Command.TheVariants as commands
use Rattle.pg_node.specs.PgStep.declared.command.OpId.{OpId}
use Rattle.pg_node_process.specs.declared.desk.Numbered.{Numbered}
use Rattle.pg_node_process.specs.Mirrors.{TellsTable}
use Rattle.pg_node_run.specs.Acts.{Act, Did, Given, act_step}
use Rattle.pg_process.specs.Deeds.{joins_ended}
use Rattle.pg_process.specs.Mirrors.{KeepsEndedBy, TellsAct, TellsInput}
use Rattle.pg_process.specs.Tables.{began_update, by_update, table_issued}
use Rattle.pg_process.specs.Takings.{TellsMade}
use Rattle.pg_process.proofs.Tables.{applies_what_began, ended_stays, table_moves}

-- ---- answers

pub not_ok : (change : Option Numbered) (reply : Reply) (ended : Pid → Bool) → (reply ≡ replies.Ok → ⊥) → false ≡ joins_ended change reply ended
not_ok None reply ended never = refl
not_ok (Some change) replies.Ok ended never = absurd (never refl)
not_ok (Some change) (replies.Made pid) ended never = refl
not_ok (Some change) (replies.Pids pids) ended never = refl
not_ok (Some change) (replies.Closest pid) ended never = refl
not_ok (Some change) (replies.Groups names) ended never = refl
not_ok (Some change) (replies.NoSuchGroup name) ended never = refl
not_ok (Some change) (replies.NoProcess name) ended never = refl
not_ok (Some change) (replies.Refused number) ended never = refl

-- ---- actions

module _ (names : List Node) (ports : ℕ) (s t : Timed State) where
  keeps_ended : (port : ℕ) (command : Command) (turn : TimedTurn) → act_step names ports s (Did (Issue port command)) ≡ Ok turn → t ≡ turn.state → KeepsEndedBy command s.state.ended t.state.ended
  keeps_ended port (commands.Finish pid) turn made is = tt
  keeps_ended port (commands.Create name) turn made is = ap (λ (x : Timed State). x.state.ended) is ∙ ended_stays names ports s (Did (Issue port (commands.Create name))) turn made tt refl
  keeps_ended port (commands.Delete name) turn made is = ap (λ (x : Timed State). x.state.ended) is ∙ ended_stays names ports s (Did (Issue port (commands.Delete name))) turn made tt refl
  keeps_ended port (commands.Join name pid) turn made is = ap (λ (x : Timed State). x.state.ended) is ∙ ended_stays names ports s (Did (Issue port (commands.Join name pid))) turn made tt refl
  keeps_ended port (commands.Leave name pid) turn made is = ap (λ (x : Timed State). x.state.ended) is ∙ ended_stays names ports s (Did (Issue port (commands.Leave name pid))) turn made tt refl
  keeps_ended port commands.Make turn made is = ap (λ (x : Timed State). x.state.ended) is ∙ ended_stays names ports s (Did (Issue port commands.Make)) turn made tt refl
  keeps_ended port (commands.Members name) turn made is = ap (λ (x : Timed State). x.state.ended) is ∙ ended_stays names ports s (Did (Issue port (commands.Members name))) turn made tt refl
  keeps_ended port (commands.LocalMembers name) turn made is = ap (λ (x : Timed State). x.state.ended) is ∙ ended_stays names ports s (Did (Issue port (commands.LocalMembers name))) turn made tt refl
  keeps_ended port commands.WhichGroups turn made is = ap (λ (x : Timed State). x.state.ended) is ∙ ended_stays names ports s (Did (Issue port commands.WhichGroups)) turn made tt refl
  keeps_ended port (commands.Closest name word) turn made is = ap (λ (x : Timed State). x.state.ended) is ∙ ended_stays names ports s (Did (Issue port (commands.Closest name word))) turn made tt refl

  -- what a command made of the table and of who has ended
  pub record Issued (command : Command) (began : Option (OpId × Update)) (applied : Option Update) : Type 0 where
    pub ended : KeepsEndedBy command s.state.ended t.state.ended
    pub table : t.state.table ≡ table_issued command (began_update began) s.state t.state.ended
    pub applies : applied ≡ began_update began

  pub issued_so : (port : ℕ) (command : Command) (turn : TimedTurn) (began : Option (OpId × Update)) → act_step names ports s (Did (Issue port command)) ≡ Ok turn → t ≡ turn.state
      → began ≡ turn.reported.began → Issued command began turn.reported.applied
  issued_so port command turn began made is same =
      let applied : turn.reported.applied ≡ began_update began = applies_what_began names ports s (Issue port command) turn made ∙ ap began_update (sym same) in record {
        ended = keeps_ended port command turn made is;
        table = ap (λ (x : Timed State). x.state.table) is ∙ (table_moves names ports s (Did (Issue port command)) turn made tt
            ∙ (ap (λ (u : Option Update). table_issued command u s.state turn.state.state.ended) applied
            ∙ ap (λ (x : Timed State). table_issued command (began_update began) s.state x.state.ended) (sym is)));
        applies = applied;
      }

  -- what a trial made of them
  pub record Retried (began : Option (OpId × Update)) (applied : Option Update) : Type 0 where
    pub table : t.state.table ≡ by_update (began_update began) s.state.table t.state.ended
    pub applies : applied ≡ began_update began

  pub retried_so : (op : OpId) (turn : TimedTurn) (began : Option (OpId × Update)) → act_step names ports s (Did (Retry op)) ≡ Ok turn → t ≡ turn.state
      → began ≡ turn.reported.began → Retried began turn.reported.applied
  retried_so op turn began made is same =
      let applied : turn.reported.applied ≡ began_update began = applies_what_began names ports s (Retry op) turn made ∙ ap began_update (sym same) in
      let stays : t.state.ended ≡ s.state.ended = ap (λ (x : Timed State). x.state.ended) is ∙ ended_stays names ports s (Did (Retry op)) turn made tt refl in record {
        table = ap (λ (x : Timed State). x.state.table) is ∙ (table_moves names ports s (Did (Retry op)) turn made tt
            ∙ (ap (λ (u : Option Update). by_update u s.state.table s.state.ended) applied
            ∙ ap (λ (e : Pid → Bool). by_update (began_update began) s.state.table e) (sym stays)));
        applies = applied;
      }

-- an act is told as what its input is
pub told_act : (mirrored : Bool) (act : Act) (input : Given) (applied : Option Update) (before after after2 : Table) (said0 said1 : List ℕ)
    → (made : TellsMade mirrored input applied before after said0 said1) → act.input ≡ input → act.turn.reported.applied ≡ applied → after ≡ after2
    → TellsAct mirrored act before after2 made.outputs
told_act mirrored act input applied before after after2 said0 said1 made given applies is = record {
  table = subst (λ (t : Table). TellsTable mirrored before t made.outputs) is made.tells;
  form = subst (λ (x : Given). TellsInput x act.turn.reported.applied after2 made.outputs) (sym given)
      (subst (λ (u : Option Update). TellsInput input u after2 made.outputs) (sym applies) (subst (λ (t : Table). TellsInput input applied t made.outputs) is made.form));
}
