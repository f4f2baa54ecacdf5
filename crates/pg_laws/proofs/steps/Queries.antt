-- The answer of a query stays, with what it read.
use Rattle.std.proofs.Common.{◌≡◌, ℕ, true, false, cond, List, [], ◌∷◌, ◌++◌, Some, refl, ap, ◌∙◌, subst}
use Rattle.std.proofs.lemmas.Bool.{eq-eqb}
use Rattle.std.proofs.lemmas.List.{append_assoc, append-nil}
use Rattle.pg_step.specs.Machines.Clocked.{plain}
use Rattle.pg_step.specs.Machines.Machine.{Event, Do, start_of}
use Rattle.pg_step.specs.Machines.Runs.{Leads}
use Rattle.pg_step.proofs.Machines.Plain.{plain_event, plain_leads}
use Rattle.pg_step.proofs.Machines.Sequences.{one_world, parts, tells}
use Rattle.pg_step.specs.declared.command.Command.{Command}
use Rattle.pg_step.specs.declared.command.OpId.{OpId}
use Rattle.pg_step.specs.Commands.{has_large_name, next_op}
use Rattle.pg_step.specs.Config.{Config}
use Rattle.pg_step.specs.FrameMachine.{frame_machine, machine_of}
use Rattle.pg_step.specs.State.{Response}
use Rattle.pg_step.specs.State.Response.{Read}
use Rattle.pg_step.specs.Step.{Action, CLOCK_LIMIT, Issue}
use Rattle.pg_step.specs.StepLaws.{is_query}
use Rattle.pg_step.specs.Turns.{Report, nothing}
use Rattle.pg_step.proofs.Queries.{query_answers}
use Rattle.pg_laws.specs.History.{answer_at, answer_by, answers_by}
use Rattle.pg_laws.specs.Reached.{Reaches, TimedFrameWorld}
use Rattle.pg_laws.proofs.steps.Ways.{told_append}

-- a report by which a command of a port was answered is one answer more there
answered_by : (i : ℕ) (op : OpId) (response : Response) (report : Report) → report.gave ≡ Some (op, response) → answers_by i ((i, report) ∷ []) op.port ≡ (op.number, response) ∷ []
answered_by i op response report gave = append-nil (answer_by i op.port (i, report))
    ∙ (ap (λ b. cond b (answer_at op.port report.gave) []) (eq-eqb i i refl)
    ∙ (ap (answer_at op.port) gave
    ∙ ap (λ b. cond b ((op.number, response) ∷ []) []) (eq-eqb op.port op.port refl)))

answer_stays : (i : ℕ) (op : OpId) (response : Response) (report : Report) (before more : List (ℕ × Report)) → report.gave ≡ Some (op, response)
    → answers_by i ((before ++ (i, report) ∷ []) ++ more) op.port ≡ answers_by i before op.port ++ (op.number, response) ∷ answers_by i more op.port
answer_stays i op response report before more gave = told_append (answer_by i op.port) (before ++ (i, report) ∷ []) more
    ∙ (ap (λ xs. xs ++ answers_by i more op.port) (told_append (answer_by i op.port) before ((i, report) ∷ [])
    ∙ ap (λ xs. answers_by i before op.port ++ xs) (answered_by i op response report gave))
    ∙ append_assoc (answers_by i before op.port) ((op.number, response) ∷ []) (answers_by i more op.port))

pub query_stays : (config : Config) (events first last : List (Event Action)) (w m : TimedFrameWorld) (i port : ℕ) (c : Command) → events ≡ first ++ Do i (Issue port c) ∷ last
    → Reaches config events w → Reaches config first m → is_query c ≡ true → has_large_name c ≡ false
    → (more : List (ℕ × Response)) × (answers_by i (plain w).reported port ≡ answers_by i (plain m).reported port
    ++ ((next_op port ((plain m).node i)).number, Read c ((plain m).node i).table) ∷ more)
query_stays config events first last w m i port c is reaches on_the_way query small =
    let machine = frame_machine config in
    let e = Do i (Issue port c) in
    let both = parts machine first (e ∷ last) (start_of machine) w (subst (λ es. Reaches config es w) is reaches) in
    let same : both.0 ≡ m = one_world machine first (start_of machine) both.0 m both.1 on_the_way in
    let leads : Leads machine m (e ∷ last) w = subst (λ (u : TimedFrameWorld). Leads machine u (e ∷ last) w) same both.2 in
    let v = leads.0 in
    let only = query_answers config (plain m) (plain v) i port c query small (plain_event (machine_of config) CLOCK_LIMIT m v e leads.1) in
    let told = tells (machine_of config) last (plain v) (plain w) (plain_leads (machine_of config) CLOCK_LIMIT last v w leads.2) in
    let op : OpId = next_op port ((plain m).node i) in
    let response : Response = Read c ((plain m).node i).table in
    let report : Report = record nothing { gave = Some (op, response) } in (
      answers_by i told.0 port,
      ap (λ ts. answers_by i ts port) (told.1 ∙ ap (λ ts. ts ++ told.0) only.reported)
          ∙ answer_stays i op response report (plain m).reported told.0 refl,
    )
