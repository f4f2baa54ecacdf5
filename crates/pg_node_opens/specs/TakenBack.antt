-- What takes a counted reply back, or a command that was opened.
use Rattle.std.specs.Prelude.{ℕ, ◌-◌, Bool, false, nat_eq}
use Rattle.pg_term.specs.Same.{same_atom}
use Rattle.pg_step.specs.PgGroup.declared.update.Update.{Update}
use Rattle.pg_step.specs.PgGroup.Functions.{upd}
use Rattle.pg_step.specs.declared.command.OpId.{OpId}
use Rattle.pg_step.specs.Nodes.{Node}
use Rattle.pg_step.specs.State.{State}
use Rattle.pg_step.specs.State.Use.{Updating}
use Rattle.pg_step.specs.State.Stage.{Closed}
use Rattle.pg_step.specs.Attempts.{same_op}
use Rattle.pg_step.specs.Turns.{NodeTurn, becomes}

-- the ok of a node, as if it had not come
abbrev pub ok_taken_back : ℕ → OpId → Update → ℕ → (Node → Bool) → Node → State → NodeTurn
ok_taken_back u op update c replied p s = becomes (record s { uses = upd nat_eq s.uses u (Updating op update c (upd same_atom replied p false)) })

-- a command, as if it had not been opened
abbrev pub command_taken_back : OpId → State → NodeTurn
command_taken_back op s = becomes (record s { opened = s.opened - 1; stages = upd same_op s.stages op Closed })
