-- When two nodes keep the same open commands, in whatever order.
use Rattle.std.specs.Prelude.{ℕ, Bool, true, false, ◌&&◌, nat_eq, length, List}
use Rattle.std.specs.List.{list_all, list_any}
use Rattle.pg_term.specs.Same.{same_term, same_pid}
use Rattle.pg_step.specs.PgGroup.declared.update.Update.{Update}
use Rattle.pg_step.specs.PgGroup.declared.update.Update.TheVariants as update
use Rattle.pg_step.specs.Attempts.{same_op}
use Rattle.pg_node_opens.specs.declared.mark.Mark.{Mark}
use Rattle.pg_node_opens.specs.Marks.{same_marks, same_replies}
use Rattle.pg_node_opens.specs.declared.command.Phase.{Phase}
use Rattle.pg_node_opens.specs.declared.command.Phase.TheVariants as phase
use Rattle.pg_node_opens.specs.declared.command.OpenCommand.{OpenCommand}

-- whether two updates are one
abbrev pub same_update : Update → Update → Bool
same_update (update.Create name) (update.Create other) = same_term name other
same_update (update.Delete name) (update.Delete other) = same_term name other
same_update (update.Join name pid) (update.Join other member) = same_term name other && same_pid pid member
same_update (update.Leave name pid) (update.Leave other member) = same_term name other && same_pid pid member
same_update one other = false

-- whether two commands in these phases are seen as one: of an update that goes out it is seen who has applied it, of one that
-- waits no mark
abbrev pub is_alike : Phase → List Mark → Phase → List Mark → Bool
is_alike phase.Waiting ms phase.Waiting ns = true
is_alike (phase.Asking lock first) ms (phase.Asking other place) ns = nat_eq lock other && (nat_eq first place && same_marks ms ns)
is_alike (phase.Changing lock number) ms (phase.Changing other next) ns = nat_eq lock other && (nat_eq number next && same_replies ms ns)
is_alike ph ms other ns = false

abbrev pub is_twin : OpenCommand → OpenCommand → Bool
is_twin o p = same_op o.op p.op && (same_update o.update p.update && is_alike o.phase o.marks p.phase p.marks)

-- each command of the one has its twin in the other
abbrev pub have_twins : List OpenCommand → List OpenCommand → Bool
have_twins os ps = list_all (λ o. list_any (is_twin o) ps) os

-- as many references, as many commands, and the same ones
abbrev pub same_commands : ℕ → List OpenCommand → ℕ → List OpenCommand → Bool
same_commands made os other ps = nat_eq made other && (nat_eq (length os) (length ps) && (have_twins os ps && have_twins ps os))
