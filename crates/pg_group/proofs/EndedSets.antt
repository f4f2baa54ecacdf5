-- The ended as a test, after a pid or a node was put in, and copies of the nodes.
use Rattle.std.proofs.Common.{◌≡◌, ℕ, Bool, true, false, cond, ◌||◌, List, [], ◌∷◌, ◌++◌, refl, sym, ap, subst, ◌∙◌, append_assoc, append-nil}
use Rattle.std.proofs.Math.Path.{fun_ext}
use Rattle.std.specs.BTreeMap.{is_at}
use Rattle.std.specs.BTreeSet.{insert_key}
use Rattle.std.specs.Cmp.{IsTotalOrder}
use Rattle.std.specs.List.{list_any}
use Rattle.std.specs.List.Sorted.{IsStrictlySortedBy}
use Rattle.std.specs.Ordering.{is_eq, match_ordering}
use Rattle.std.specs.declared.cmp.Ordering.{Ordering}
use Rattle.std.specs.declared.cmp.Ordering.TheVariants.{Less, Equal, Greater}
use Rattle.std.proofs.lemmas.Cmp.{alike_right, nat_list_cmp_total}
use Rattle.pg_term.specs.declared.pid.Pid.{Pid}
use Rattle.pg_term.specs.Same.{same_atom, same_pid, atom_cmp, pid_cmp}
use Rattle.pg_term.specs.contracts.atom.AtomOrd.TheImpl.Laws as atom_laws
use Rattle.pg_term.specs.contracts.atom.AtomEq.TheImpl.Laws as atom_equality
use Rattle.pg_term.specs.contracts.pid.PidOrd.TheImpl.Laws as pid_laws
use Rattle.pg_term.specs.contracts.pid.PidEq.TheImpl.Laws as pid_equality
use Rattle.pg_group.specs.Ended.{ended_with}
use Rattle.pg_group.specs.Ends.{has_pid}
use Rattle.pg_group.specs.Functions.{upd}
use Rattle.pg_group.proofs.Changes.{upd_from}
use Rattle.pg_group.proofs.Ordered.{before_one, put_after}

-- whether a list has a node
abbrev pub has_node : List (List ℕ) → List ℕ → Bool
has_node nodes node = list_any (is_at (atom_cmp node)) nodes

-- those of the nodes, and the others
abbrev pub either_of : List (List ℕ) → List Pid → Pid → Bool
either_of nodes pids pid = has_node nodes pid.node || has_pid pids pid

-- whether one is there, after another was put in
has_put : {K : Type 0} {R : K → K → Ordering} → IsTotalOrder R → (xs : List K) (k q : K) → list_any (is_at (R q)) (insert_key R xs k) ≡ (is_at (R q) k || list_any (is_at (R q)) xs)
has_put o [] k q = refl
has_put {R = R} o (x ∷ xs) k q = go (R k x) refl (has_put o xs k q)
  where
    once : (a b c : Bool) → a ≡ b → (b || c) ≡ (a || (b || c))
    once true b c e = ap (λ z. z || c) (sym e)
    once false b c e = refl

    turned : (a b c : Bool) → (b || (a || c)) ≡ (a || (b || c))
    turned true true c = refl
    turned true false c = refl
    turned false b c = refl

    go : (p : Ordering) → R k x ≡ p → list_any (is_at (R q)) (insert_key R xs k) ≡ (is_at (R q) k || list_any (is_at (R q)) xs)
        → list_any (is_at (R q)) (match_ordering p (k ∷ x ∷ xs) (x ∷ xs) (x ∷ insert_key R xs k)) ≡ (is_at (R q) k || (is_at (R q) x || list_any (is_at (R q)) xs))
    go Less e f = refl
    go Equal e f = once (is_at (R q) k) (is_at (R q) x) (list_any (is_at (R q)) xs) (ap is_eq (alike_right o k x q e))
    go Greater e f = ap (λ b. is_at (R q) x || b) f ∙ turned (is_at (R q) k) (is_at (R q) x) (list_any (is_at (R q)) xs)

pub pid_put : (nodes : List (List ℕ)) (old new : List Pid) (pid : Pid) → new ≡ insert_key pid_cmp old pid → either_of nodes new ≡ upd same_pid (either_of nodes old) pid true
pid_put nodes old new pid is = upd_from same_pid (either_of nodes old) pid (either_of nodes new) true (λ other.
    ap (λ l. either_of nodes l other) is
    ∙ ap (λ b. has_node nodes other.node || b) (has_put pid_laws.total-law old pid other)
    ∙ ap (λ b. has_node nodes other.node || (b || has_pid old other)) (sym (pid_equality.laws-law.symm pid other ∙ pid_laws.matches_eq-law other pid))
    ∙ turned (has_node nodes other.node) (same_pid pid other) (has_pid old other))
  where
    turned : (a b c : Bool) → (a || (b || c)) ≡ cond b true (a || c)
    turned true true c = refl
    turned true false c = refl
    turned false true c = refl
    turned false false c = refl

pub node_put : (old new : List (List ℕ)) (pids : List Pid) (node : List ℕ) → new ≡ insert_key atom_cmp old node → either_of new pids ≡ ended_with (either_of old pids) node
node_put old new pids node is = fun_ext (λ other.
    ap (λ l. either_of l pids other) is
    ∙ ap (λ b. b || has_pid pids other) (has_put nat_list_cmp_total old node other.node)
    ∙ ap (λ b. (b || has_node old other.node) || has_pid pids other) (sym (atom_equality.laws-law.symm node other.node ∙ atom_laws.matches_eq-law other.node node))
    ∙ turned (same_atom node other.node) (has_node old other.node) (has_pid pids other))
  where
    turned : (a b c : Bool) → ((a || b) || c) ≡ (a || (b || c))
    turned true b c = refl
    turned false b c = refl

-- one more node that was copied, and its rest
pub copied_node : (all left copy rest new : List (List ℕ)) (node : List ℕ) → IsStrictlySortedBy atom_cmp all → copy ++ left ≡ all → left ≡ node ∷ rest → new ≡ insert_key atom_cmp copy node → new ++ rest ≡ all
copied_node all left copy rest new node sorted so is e =
    let whole : copy ++ node ∷ rest ≡ all = ap (λ l. copy ++ l) (sym is) ∙ so in
    ap (λ l. l ++ rest) (e ∙ ap (λ l. insert_key atom_cmp l node) (sym (append-nil copy)) ∙ put_after nat_list_cmp_total copy [] node (before_one nat_list_cmp_total copy rest node (subst (IsStrictlySortedBy atom_cmp) (sym whole) sorted)))
    ∙ append_assoc copy (node ∷ []) rest
    ∙ whole
