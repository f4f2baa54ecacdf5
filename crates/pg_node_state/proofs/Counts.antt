-- How often a pid is a member, after what a packet does to a table.
use Rattle.std.proofs.Common.{◌≡◌, ℕ, ◌<◌, ◌≤◌, Bool, true, false, cond, List}
use Rattle.std.proofs.Common.{[], ◌∷◌, length, Some, None, arith, sym, subst}
use Rattle.std.specs.Prelude.{count_by}
use Rattle.std.proofs.lemmas.List.Sums.{count_by-le-length}
use Rattle.pg_term.specs.declared.pid.Pid.{Pid}
use Rattle.pg_term.specs.declared.term.Term.{Term}
use Rattle.pg_term.specs.Same.{same_term, same_pid}
use Rattle.pg_node_ports.specs.PgGroup.declared.update.Update.{Update}
use Rattle.pg_node_ports.specs.PgGroup.Value.{Value, count_in, less, merge, listed}
use Rattle.pg_node_ports.specs.PgGroup.Scope.{at_node}
use Rattle.pg_node_ports.specs.PgGroup.Table.{Table, changed, without, without_node, merged, exchanged}
use Rattle.pg_node_ports.proofs.PgGroup.Growth.{changed_grown}
use Rattle.pg_node_ports.proofs.PgGroup.Changes.{upd_by}
use Rattle.pg_node_ports.specs.PgExchange.GroupList.{GroupList, all_merged}
use Rattle.pg_node_ports.specs.PgMessageTypes.Members.{HasFewMembers, IsShort}
use Rattle.pg_node_ports.specs.PgMessageTypes.declared.message.Message.{Message}
use Rattle.pg_node_ports.specs.PgMessageTypes.declared.message.Message.TheVariants.{Call, Reply, DelLock, Exchange, Down}

-- no count is above n
abbrev pub Few : ℕ → Table → Type 0
Few n table = (name : Term) (pid : Pid) → count_in (table name) pid ≤ n

less_counts : (v : Value) (ended : Pid → Bool) (pid : Pid) → count_in (less v ended) pid ≤ count_in v pid
less_counts None ended pid = omega arith
less_counts (Some counts) ended pid = go (ended pid)
  where
    go : (b : Bool) → cond b 0 (counts pid) ≤ counts pid
    go true = omega arith
    go false = omega arith

pub few_without : (n m : ℕ) (old new : Table) (pid : Pid) → n ≤ m → Few n old → new ≡ without old pid → Few m new
few_without n m old new pid later few e = subst (Few m) (sym e) (λ name q. omega (arith, less_counts (old name) (same_pid pid) q, few name q))

pub few_without_node : (n m : ℕ) (old new : Table) (node : List ℕ) → n ≤ m → Few n old → new ≡ without_node old node → Few m new
few_without_node n m old new node later few e = subst (Few m) (sym e) (λ name q. omega (arith, less_counts (old name) (at_node node) q, few name q))

pub few_changed : (n m : ℕ) (old new : Table) (update : Update) (ended : Pid → Bool) → n < m → Few n old → new ≡ changed old update ended → Few m new
few_changed n m old new update ended later few e = subst (Few m) (sym e) (λ name q. omega (arith, changed_grown n old update ended few name q))

greater_counts : (n : ℕ) (v w : Value) (pid : Pid) → count_in v pid ≤ n → count_in w pid ≤ n → count_in (merge v w) pid ≤ n
greater_counts n None w pid h k = k
greater_counts n (Some f) None pid h k = h
greater_counts n (Some f) (Some g) pid h k = omega (arith, h, k)

group_counts : (n limit : ℕ) (table : Table) (name : Term) (pids : List Pid) (ended : Pid → Bool) → limit ≤ n → length pids ≤ limit → Few n table → Few n (merged table name pids ended)
group_counts n limit table name pids ended fits short few other q =
    let counted : count_by (same_pid q) pids ≤ length pids = count_by-le-length (same_pid q) pids in
    let told : count_in (less (listed pids) ended) q ≤ count_by (same_pid q) pids = less_counts (listed pids) ended q in
    upd_by same_term table name (λ v. count_in v q ≤ n) (exchanged (table name) pids ended) other
    (λ e. greater_counts n (table name) (less (listed pids) ended) q (few name q) (omega arith)) (λ e. few other q)

all_counts : (n limit : ℕ) (table : Table) (groups : GroupList) (ended : Pid → Bool) → limit ≤ n → HasFewMembers limit groups → Few n table → Few n (all_merged table groups ended)
all_counts n limit table [] ended fits short few = few
all_counts n limit table (group ∷ groups) ended fits short few =
    all_counts n limit (merged table group.0 group.1 ended) groups ended fits short.1 (group_counts n limit table group.0 group.1 ended fits short.0 few)

pub few_merged : (n m limit : ℕ) (old new : Table) (groups : GroupList) (ended : Pid → Bool) → n ≤ m → limit ≤ n → HasFewMembers limit groups → Few n old → new ≡ all_merged old groups ended → Few m new
few_merged n m limit old new groups ended later fits short few e =
    subst (Few m) (sym e) (λ name q. omega (arith, all_counts n limit old groups ended fits short few name q))

few_members : (n m : ℕ) (groups : GroupList) → n ≤ m → HasFewMembers n groups → HasFewMembers m groups
few_members n m [] fits few = tt
few_members n m (group ∷ groups) fits few = (omega (arith, few.0, fits), few_members n m groups fits few.1)

-- what is short for a body is short for a longer one
pub short : (n m : ℕ) (message : Message) → n ≤ m → IsShort n message → IsShort m message
short n m (Call reference request) fits few = tt
short n m (Reply reference said) fits few = tt
short n m (DelLock name reference) fits few = tt
short n m (Exchange node groups) fits few = few_members n m groups fits few
short n m (Down pid) fits few = tt
