-- A command is opened behind its count, and taken back.
use Rattle.std.proofs.Common.{◌≡◌, ℕ, ◌+◌, ◌-◌, sym, ◌∙◌, arith}
use Rattle.pg_node_ports.specs.PgGroup.declared.update.Update.{Update}
use Rattle.pg_node_ports.proofs.PgGroup.Changes.{upd_same, upd_twice}
use Rattle.pg_node_ports.specs.PgNodeOpens.declared.opens.Opens.{Opens}
use Rattle.pg_node_ports.specs.PgNodeOpens.Opens.{Shows}
use Rattle.pg_node_ports.specs.PgNodeOpens.TakenBack.{command_taken_back}
use Rattle.pg_node_ports.proofs.PgNodeOpens.Followed.{op_is}
use Rattle.pg_node_ports.specs.PgStep.declared.command.OpId.{OpId}
use Rattle.pg_node_ports.specs.PgStep.State.{State}
use Rattle.pg_node_ports.specs.PgStep.State.Stage.{Closed, Waiting}
use Rattle.pg_node_ports.specs.PgStep.Attempts.{same_op}
use Rattle.pg_node_ports.specs.PgStep.Commands.{count_command, open_command}

abbrev pub counted_state : ℕ → State → State
counted_state port s = (count_command port s).state

abbrev pub opened_state : ℕ → OpId → Update → State → State
opened_state port op update s = (open_command op update (counted_state port s)).state

-- the open commands do not show how many came in
pub shows_counted : (opens : Opens) (port : ℕ) (s : State) → Shows opens s → Shows opens (counted_state port s)
shows_counted opens port s h = record { references = h.references; uses = h.uses; opened = h.opened; stages = h.stages; lost_peers = h.lost_peers }

-- a command that was opened and taken back
pub shows_undone : (opens : Opens) (port : ℕ) (op : OpId) (update : Update) (s : State) → s.stages op ≡ Closed → Shows opens (command_taken_back op (opened_state port op update s)).state → Shows opens s
shows_undone opens port op update s closed h = record {
  references = h.references;
  uses = h.uses;
  opened = sym (less s.opened) ∙ h.opened;
  stages = sym (upd_twice same_op s.stages op (Waiting update) Closed ∙ upd_same same_op s.stages op (op_is op) Closed (sym closed)) ∙ h.stages;
  lost_peers = h.lost_peers;
}
  where
    less : (n : ℕ) → n + 1 - 1 ≡ n
    less n = omega arith
