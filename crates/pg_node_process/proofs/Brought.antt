-- Whether a process is one of a node, where nobody has ended.
use Rattle.std.proofs.Common.{◌≡◌, Bool, true, false, cond, ◌&&◌, Ok, Err, Result, is_ok, refl, ap, ◌∙◌}
use Rattle.pg_term.specs.declared.pid.Pid.{Pid}
use Rattle.pg_term.specs.Same.{same_atom}
use Rattle.pg_step.specs.PgEnds.declared.processes.Processes.{Processes}
use Rattle.pg_step.specs.PgEnds.declared.fault.EndFault.{EndFault}
use Rattle.pg_step.specs.PgEnds.declared.fault.EndFault.TheVariants.{ForeignPid, NotMade}
use Rattle.pg_step.specs.PgEnds.Numbers.{is_among}
use Rattle.pg_step.specs.PgEnds.Processes.{finish_of, made_of, node_of}
use Rattle.pg_node_process.specs.Groups.{is_own}

abbrev told : Bool → Bool → Result (Unit {0}) EndFault
told a b = cond a (cond b (Ok tt) (Err NotMade)) (Err ForeignPid)

by_cases : (a b : Bool) → is_ok (told a b) ≡ (a && b)
by_cases true true = refl
by_cases true false = refl
by_cases false b = refl

pub is_own_where_none_ended : (processes : Processes) (pid : Pid) (ended : Pid → Bool) → ended ≡ (λ pid. false) → is_ok (finish_of processes pid ended) ≡ is_own (node_of processes) (made_of processes) pid
is_own_where_none_ended processes pid ended none =
    ap (λ (e : Pid → Bool). is_ok (finish_of processes pid e)) none ∙ by_cases (same_atom pid.node processes.node) (is_among processes.made pid)
