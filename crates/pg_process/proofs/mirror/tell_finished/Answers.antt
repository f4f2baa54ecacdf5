use Rattle.std.proofs.Common.{◌∙◌, List, subst, sym}
use Rattle.std.specs.Prelude.{OnOk}
use Rattle.pg_node.specs.PgGroup.Table.{Table}
use Rattle.pg_node.specs.PgNodeState.States.{kept_by}
use Rattle.pg_node_process.specs.Mirrors.{SaysRows}
use Rattle.pg_node_process.specs.Outputs.{Output}
use Rattle.pg_process.proofs.Mirrored.{FinishTold, alone_told, ended_all, living_told, no_names, some_names}
use Rattle.pg_process.proofs.mirror.tell_finished.Goals as goal
use Rattle.pg_process.proofs.mirror.tell_finished.Goals.{then-is_empty-via-then-is_empty, then-is_empty-via-else-is_empty+then-not-ended}

pub returns-then-is_empty-clause-ok : goal.returns-then-is_empty-clause-ok
returns-then-is_empty-clause-ok c =
    let s = kept_by c.args.state.now in
    let said = c.args.outlet.now.gathered.items in
    elim c.then-is_empty.branch as (λ _. FinishTold c.args.pid.now c.args.names.now s.table s.ended said said) [
      | then-is_empty-via-then-is_empty w ↦ alone_told c.args.pid.now c.args.names.now s.table s.ended said (no_names c.args.names.now (sym c.is_empty.ensures ∙ w.if-is_empty.true))
      | then-is_empty-via-else-is_empty+then-not-ended w ↦ living_told c.args.pid.now c.args.names.now s.table s.ended said (sym w.ended.ensures ∙ w.if-not-ended.true)
    ]

pub returns-clause-ok : goal.returns-clause-ok
returns-clause-ok c =
    ended_all c.args.pid.now c.args.names.now (kept_by c.args.state.now).table (kept_by c.args.state.now).ended c.args.outlet.now.gathered.items c.tell_end.new.outlet.gathered.items c.tell_end.result
    (sym c.ended.ensures ∙ c.if-not-ended.false) (some_names c.args.names.now (sym c.is_empty.ensures ∙ c.if-is_empty.false))
    (subst (λ (t : Table). OnOk c.tell_end.result ((outputs : List Output) × SaysRows c.args.names.now t c.args.outlet.now.gathered.items c.tell_end.new.outlet.gathered.items outputs)) c.table.ensures c.tell_end.ensures.ok)
