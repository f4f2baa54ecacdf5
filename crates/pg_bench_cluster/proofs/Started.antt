-- A node that is made: its names differ, and its table is empty.
use Rattle.std.proofs.Common.{◌≡◌, ◌≤◌, ◌^◌, length, subst, false, List, [], ◌∷◌, None, sym, arith}
use Rattle.std.specs.List.{IsDistinct}
use Rattle.pg_term.specs.declared.pid.Pid.{Pid}
use Rattle.pg_term.specs.declared.term.Term.{Term}
use Rattle.pg_term.specs.Same.{same_atom}
use Rattle.pg_cluster.specs.PgGroup.Table.{Table}
use Rattle.pg_cluster.specs.PgGroup.Value.{count_in}
use Rattle.pg_cluster.specs.PgStep.Nodes.{Node}

pub three_apart : (a b c : Node) (peers : List Node) → peers ≡ b ∷ c ∷ [] → same_atom a b ≡ false → same_atom a c ≡ false → same_atom b c ≡ false → IsDistinct same_atom (a ∷ peers)
unfolding IsDistinct
three_apart a b c peers e ab ac bc = subst (λ (ns : List Node). IsDistinct same_atom (a ∷ ns)) (sym e) ((ab, (ac, tt)), ((bc, tt), (tt, tt)))

-- peers that are few
pub few_peers : (peers them : List Node) → peers ≡ them → length them ≤ 15 → length peers ≤ 15
few_peers peers them is few = subst (λ (ns : List Node). length ns ≤ 15) (sym is) few

-- nobody is a member
pub none_few : (table : Table) → table ≡ (λ name. None) → (name : Term) (pid : Pid) → count_in (table name) pid ≤ 2 ^ 32
none_few table e name pid = subst (λ (t : Table). count_in (t name) pid ≤ 2 ^ 32) (sym e) (omega arith)
