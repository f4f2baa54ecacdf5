-- What the order of pids says of edges.
use Rattle.std.proofs.Common.{◌≡◌, ℕ, true, false, List, refl, sym, ap, subst, ◌∙◌}
use Rattle.std.specs.Ordering.{is_lt, is_le, is_eq, is_gt, nat_cmp, ordering_then, ordering_reverse}
use Rattle.std.specs.Cmp.Lexicographic.{nat_list_eq_equiv, nat_list_cmp_total, texts_ties}
use Rattle.std.proofs.lemmas.Cmp.{tied_itself, upto}
use Rattle.std.specs.declared.cmp.Ordering.{Ordering}
use Rattle.std.specs.declared.cmp.Ordering.TheVariants.{Less, Equal, Greater}
use Rattle.pg_term.specs.declared.pid.Pid.{Pid}
use Rattle.pg_term.specs.Same.{same_pid, pid_cmp, same_atom, atom_cmp}
use Rattle.pg_term.specs.contracts.pid.PidOrd.TheImpl.Laws as order_laws
use Rattle.pg_term.specs.contracts.pid.PidEq.TheImpl.Laws as equality_laws
use Rattle.pg_term.proofs.Same.{pid_is}
use Rattle.pg_index_members.specs.declared.edge.Edge.{Edge}
use Rattle.pg_index_members.specs.declared.edge.Edge.TheVariants.{AtPid, AtNode, PastNode}
use Rattle.pg_index_members.specs.Edges.{before, IsDownward}

pub less_if : (o : Ordering) → is_lt o ≡ true → o ≡ Less
less_if Less e = refl
less_if Equal e = absurd cc
less_if Greater e = absurd cc

pub less_trans : (x y z : Pid) → pid_cmp x y ≡ Less → pid_cmp y z ≡ Less → pid_cmp x z ≡ Less
less_trans = order_laws.total-law.trans

pub equal_if : (x y : Pid) → same_pid x y ≡ true → pid_cmp x y ≡ Equal
equal_if x y e = subst (λ (z : Pid). pid_cmp x z ≡ Equal) (pid_is x y e) (tied_itself order_laws.total-law x)

pub greater_if : (x y : Pid) → is_lt (pid_cmp x y) ≡ false → same_pid x y ≡ false → pid_cmp x y ≡ Greater
greater_if x y e f = go (pid_cmp x y) refl
  where
    go : (o : Ordering) → pid_cmp x y ≡ o → pid_cmp x y ≡ Greater
    go Less g = absurd (let h = ap is_lt g in cc)
    go Equal g = absurd (let h = order_laws.matches_eq-law x y ∙ ap is_eq g in cc)
    go Greater g = g

pub turned : (x y : Pid) → pid_cmp x y ≡ Greater → pid_cmp y x ≡ Less
turned x y e = order_laws.total-law.antisymm y x ∙ ap ordering_reverse e

pub other_if_less : (x y : Pid) → pid_cmp x y ≡ Less → same_pid x y ≡ false
other_if_less x y e = order_laws.matches_eq-law x y ∙ ap is_eq e

pub other_turned : (x y : Pid) → same_pid x y ≡ false → same_pid y x ≡ false
other_turned x y e = sym (equality_laws.laws-law.symm x y) ∙ e

not_gt : (o : Ordering) → is_le o ≡ true → is_gt o ≡ false
not_gt Less e = refl
not_gt Equal e = refl
not_gt Greater e = absurd cc

le_if : (o : Ordering) → is_gt o ≡ false → is_le o ≡ true
le_if Less e = refl
le_if Equal e = refl
le_if Greater e = absurd cc

le_trans : (a b c : List ℕ) → is_gt (atom_cmp a b) ≡ false → is_le (atom_cmp b c) ≡ true → is_le (atom_cmp a c) ≡ true
le_trans a b c e f = le_if (atom_cmp a c) (upto nat_list_cmp_total a b c e (not_gt (atom_cmp b c) f))

lt_trans : (a b c : List ℕ) → is_gt (atom_cmp a b) ≡ false → is_lt (atom_cmp b c) ≡ true → is_lt (atom_cmp a c) ≡ true
lt_trans a b c e f = go (atom_cmp a b) refl
  where
    go : (o : Ordering) → atom_cmp a b ≡ o → is_lt (atom_cmp a c) ≡ true
    go Less g = ap is_lt (nat_list_cmp_total.trans a b c g (less_if (atom_cmp b c) f))
    go Equal g = ap is_lt (nat_list_cmp_total.congr a b c g) ∙ f
    go Greater g = absurd (let h = ap is_gt g in cc)

pub node_of_less : (x y : Pid) → pid_cmp x y ≡ Less → is_gt (atom_cmp x.node y.node) ≡ false
node_of_less x y e = go (atom_cmp x.node y.node) (ordering_then (nat_cmp x.serial y.serial) (ordering_then (nat_cmp x.id y.id) (nat_cmp x.creation y.creation))) e
  where
    go : (o p : Ordering) → ordering_then o p ≡ Less → is_gt o ≡ false
    go Less p f = refl
    go Equal p f = refl
    go Greater p f = absurd cc

pub downward : (e : Edge) → IsDownward (before e)
downward (AtPid edge) x y e f = ap is_lt (less_trans x y edge.now e (less_if (pid_cmp y edge.now) f))
downward (AtNode node) x y e f = lt_trans x.node y.node node.now (node_of_less x y e) f
downward (PastNode node) x y e f = le_trans x.node y.node node.now (node_of_less x y e) f

pub greater_turned : (x y : Pid) → pid_cmp x y ≡ Less → pid_cmp y x ≡ Greater
greater_turned x y e = order_laws.total-law.antisymm y x ∙ ap ordering_reverse e

pub same_is : (x y : Pid) → same_pid x y ≡ true → x ≡ y
same_is = pid_is

pub symm : (x y : Pid) → same_pid x y ≡ same_pid y x
symm = equality_laws.laws-law.symm

pub same_if : (x y : Pid) → pid_cmp x y ≡ Equal → same_pid x y ≡ true
same_if x y e = order_laws.matches_eq-law x y ∙ ap is_eq e

pub downward_pid : (pid : Pid) → IsDownward (λ q. is_lt (pid_cmp q pid))
downward_pid pid x y e f = ap is_lt (less_trans x y pid e (less_if (pid_cmp y pid) f))

pub same_self : (x : Pid) → same_pid x x ≡ true
same_self = equality_laws.laws-law.refl

pub not_greater : (x : Pid) → is_gt (pid_cmp x x) ≡ false
not_greater x = ap is_gt (tied_itself order_laws.total-law x)

pub at_node_is : (a b : List ℕ) → same_atom b a ≡ is_eq (atom_cmp a b)
at_node_is a b = nat_list_eq_equiv.symm b a ∙ texts_ties a b

pub downward_node : (node : List ℕ) → IsDownward (λ q. is_lt (atom_cmp q.node node))
downward_node node x y e f = lt_trans x.node y.node node (node_of_less x y e) f

pub downward_past : (node : List ℕ) → IsDownward (λ q. is_le (atom_cmp q.node node))
downward_past node x y e f = le_trans x.node y.node node (node_of_less x y e) f

-- of two pids of one node the numbers decide
pub numbers_decide : (pid other : Pid) → pid.node ≡ other.node
    → is_lt (ordering_then (nat_cmp pid.serial other.serial) (ordering_then (nat_cmp pid.id other.id) (nat_cmp pid.creation other.creation))) ≡ is_lt (pid_cmp pid other)
numbers_decide pid other e =
    let same : atom_cmp pid.node other.node ≡ Equal = subst (λ (n : List ℕ). atom_cmp pid.node n ≡ Equal) e (tied_itself nat_list_cmp_total pid.node) in
    ap (λ o. is_lt (ordering_then o (ordering_then (nat_cmp pid.serial other.serial) (ordering_then (nat_cmp pid.id other.id) (nat_cmp pid.creation other.creation))))) (sym same)
