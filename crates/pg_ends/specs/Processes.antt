-- The processes that a node has made, and whether one of them can end.
use Rattle.std.specs.Prelude.{ℕ, Bool, List, cond, Result, Ok, Err}
use Rattle.pg_term.specs.declared.pid.Pid.{Pid}
use Rattle.pg_term.specs.Same.{same_atom}
use Rattle.pg_ends.specs.declared.processes.Processes.{Processes}
use Rattle.pg_ends.specs.declared.fault.EndFault.{EndFault}
use Rattle.pg_ends.specs.declared.fault.EndFault.TheVariants.{ForeignPid, NotMade, AlreadyEnded}
use Rattle.pg_ends.specs.Numbers.{is_among}

-- the node, and how many processes it has made
abbrev pub node_of : Processes → List ℕ
node_of processes = processes.node

abbrev pub made_of : Processes → ℕ
made_of processes = processes.made

-- a process of the node, which was made and has not ended, can end; else the first that holds is told
abbrev pub finish_of : Processes → Pid → (Pid → Bool) → Result (Unit {0}) EndFault
finish_of processes pid ended =
    cond (same_atom pid.node processes.node) (cond (is_among processes.made pid) (cond (ended pid) (Err AlreadyEnded) (Ok tt)) (Err NotMade)) (Err ForeignPid)
