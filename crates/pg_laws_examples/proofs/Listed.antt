-- What a query reads of a group whose members are the first processes of a and of b.
use Rattle.std.proofs.Common.{◌≡◌, Bool, true, false, List, [], ◌∷◌, Some, None, refl, ap, sym, subst, ◌∙◌}
use Rattle.std.specs.Prelude.{count_by, is_some}
use Rattle.pg_laws.specs.PgGroup.declared.update.Update.TheVariants as update
use Rattle.pg_term.specs.declared.pid.Pid.{Pid}
use Rattle.pg_term.specs.declared.term.Term.{Term}
use Rattle.pg_term.specs.Same.{same_pid, same_atom}
use Rattle.pg_term.proofs.Same.{pid_is}
use Rattle.pg_laws.specs.PgGroup.Functions.{upd}
use Rattle.pg_laws.specs.PgGroup.Value.{Value, nobody, with_one_more, with_one_less, less, listed}
use Rattle.pg_laws.specs.PgGroup.Scope.{anywhere}
use Rattle.pg_laws.specs.PgGroup.Members.{IsMemberList, count_among}
use Rattle.pg_laws.specs.PgGroup.Table.{applied, exchanged}
use Rattle.pg_laws.specs.PgStep.declared.answer.Reply.TheVariants as reply
use Rattle.std.specs.List.{list_any, IsDistinct}
use Rattle.std.specs.List.Sorted.{IsSorted}
use Rattle.std.proofs.lemmas.Map.Made.{IsDistinct-from_AllPairs}
use Rattle.std.proofs.Common.{arith}
use Rattle.std.proofs.Common.{◌||◌}
use Rattle.pg_term.specs.Same.{same_term, term_cmp}
use Rattle.pg_term.proofs.Same.{same_term as same_is}
use Rattle.pg_laws.specs.PgGroup.Table.{Table}
use Rattle.pg_laws_examples.proofs.Trace.{same_to_itself, apart_too, none_ended}
use Rattle.pg_laws.specs.PgStep.Commands.{ListsMembers, ListsGroups}
use Rattle.pg_laws_examples.specs.Examples.{a, a1, b1}

clash : true ≡ false → ⊥
clash e = absurd (cc)

-- another process than p, either way
apart : (p pid : Pid) → same_pid p p ≡ true → same_pid pid p ≡ false → same_pid p pid ≡ false
apart p pid itself differ = go (same_pid p pid) refl
  where
    go : (b : Bool) → same_pid p pid ≡ b → same_pid p pid ≡ false
    go false is = is
    go true is = absurd (clash (sym itself ∙ ap (λ x. same_pid x p) (pid_is p pid is) ∙ differ))

-- what holds of both processes, and of each other one
pub by_pid : (Q : Pid → Type 0) → Q a1 → Q b1
    → ((pid : Pid) → same_pid pid a1 ≡ false → same_pid a1 pid ≡ false → same_pid pid b1 ≡ false → same_pid b1 pid ≡ false → Q pid)
    → (pid : Pid) → Q pid
by_pid Q of_a of_b others pid = go (same_pid pid a1) (same_pid pid b1) refl refl
  where
    go : (b d : Bool) → same_pid pid a1 ≡ b → same_pid pid b1 ≡ d → Q pid
    go true d is _ = subst Q (sym (pid_is pid a1 is)) of_a
    go false true _ is = subst Q (sym (pid_is pid b1 is)) of_b
    go false false na nb = others pid na (apart a1 pid refl na) nb (apart b1 pid refl nb)

-- a group with these members is read
pub read_list : (v w : Value) (name : Term) (pids : List Pid) → v ≡ w → is_some w ≡ true → IsMemberList w anywhere pids → ListsMembers v anywhere name (reply.Pids pids)
read_list v None name pids same there listed = absurd (clash (sym there))
read_list v (Some counts) name pids same there listed = subst (λ x. ListsMembers x anywhere name (reply.Pids pids)) (sym same) (pids, listed, refl)

-- a group that is not there is read
pub read_none : (v : Value) (name : Term) → v ≡ None → ListsMembers v anywhere name (reply.NoSuchGroup name)
read_none v name same = subst (λ x. ListsMembers x anywhere name (reply.NoSuchGroup name)) (sym same) refl

-- two joins, and a leave behind them
pub twice_listed : IsMemberList (Some (with_one_more (with_one_more nobody a1) a1)) anywhere (a1 ∷ a1 ∷ [])
unfolding upd
twice_listed = record {
  ordered = ((refl, tt), (tt, tt));
  each = by_pid (λ pid. count_by (same_pid pid) (a1 ∷ a1 ∷ []) ≡ count_among (Some (with_one_more (with_one_more nobody a1) a1)) anywhere pid) refl refl
      (λ pid an a_apart bn b_apart. simp (an, a_apart) refl);
}

pub once_listed : IsMemberList (Some (with_one_less (with_one_more (with_one_more nobody a1) a1) a1)) anywhere (a1 ∷ [])
unfolding upd
once_listed = record {
  ordered = (tt, tt);
  each = by_pid (λ pid. count_by (same_pid pid) (a1 ∷ []) ≡ count_among (Some (with_one_less (with_one_more (with_one_more nobody a1) a1) a1)) anywhere pid) refl refl
      (λ pid an a_apart bn b_apart. simp (an, a_apart) refl);
}

-- the groups of a, and what a and b make of the other's groups
pub first_listed : IsMemberList (exchanged None (a1 ∷ a1 ∷ []) none_ended) anywhere (a1 ∷ a1 ∷ [])
unfolding upd
first_listed = record {
  ordered = ((refl, tt), (tt, tt));
  each = by_pid (λ pid. count_by (same_pid pid) (a1 ∷ a1 ∷ []) ≡ count_among (exchanged None (a1 ∷ a1 ∷ []) none_ended) anywhere pid) refl refl
      (λ pid an a_apart bn b_apart. simp (an) refl);
}

pub met_listed : IsMemberList (exchanged (exchanged None (a1 ∷ a1 ∷ []) none_ended) (a1 ∷ b1 ∷ []) none_ended) anywhere (a1 ∷ a1 ∷ b1 ∷ [])
unfolding upd
met_listed = record {
  ordered = ((refl, (refl, tt)), ((refl, tt), (tt, tt)));
  each = by_pid (λ pid. count_by (same_pid pid) (a1 ∷ a1 ∷ b1 ∷ []) ≡ count_among (exchanged (exchanged None (a1 ∷ a1 ∷ []) none_ended) (a1 ∷ b1 ∷ []) none_ended) anywhere pid) refl refl
      (λ pid an a_apart bn b_apart. simp (an, bn) refl);
}

pub met_too_listed : IsMemberList (exchanged (exchanged None (a1 ∷ b1 ∷ []) none_ended) (a1 ∷ a1 ∷ []) none_ended) anywhere (a1 ∷ a1 ∷ b1 ∷ [])
unfolding upd
met_too_listed = record {
  ordered = ((refl, (refl, tt)), ((refl, tt), (tt, tt)));
  each = by_pid (λ pid. count_by (same_pid pid) (a1 ∷ a1 ∷ b1 ∷ []) ≡ count_among (exchanged (exchanged None (a1 ∷ b1 ∷ []) none_ended) (a1 ∷ a1 ∷ []) none_ended) anywhere pid) refl refl
      (λ pid an a_apart bn b_apart. simp (an, bn) refl);
}

-- a process of each of two nodes, and what stays where the first node is lost
pub both_listed : IsMemberList (exchanged (exchanged None (b1 ∷ []) none_ended) (a1 ∷ []) none_ended) anywhere (a1 ∷ b1 ∷ [])
unfolding upd
both_listed = record {
  ordered = ((refl, tt), (tt, tt));
  each = by_pid (λ pid. count_by (same_pid pid) (a1 ∷ b1 ∷ []) ≡ count_among (exchanged (exchanged None (b1 ∷ []) none_ended) (a1 ∷ []) none_ended) anywhere pid) refl refl
      (λ pid an a_apart bn b_apart. simp (an, bn) refl);
}

pub left_listed : IsMemberList (less (exchanged (exchanged None (b1 ∷ []) none_ended) (a1 ∷ []) none_ended) (λ pid. same_atom a pid.node)) anywhere (b1 ∷ [])
unfolding upd
left_listed = record {
  ordered = (tt, tt);
  each = by_pid Holds refl refl (λ pid an a_apart bn b_apart. others pid an bn (same_atom a pid.node) refl);
}
  where
    Holds : Pid → Type 0
    Holds pid = count_by (same_pid pid) (b1 ∷ []) ≡ count_among (less (exchanged (exchanged None (b1 ∷ []) none_ended) (a1 ∷ []) none_ended) (λ p. same_atom a p.node)) anywhere pid

    others : (pid : Pid) → same_pid pid a1 ≡ false → same_pid pid b1 ≡ false → (b : Bool) → same_atom a pid.node ≡ b → Holds pid
    others pid an bn true is = simp (an, bn, is) refl
    others pid an bn false is = simp (an, bn, is) refl

-- a group told with one process, after a join of it, and after its end
pub joined_listed : (g : Term) → IsMemberList (applied (exchanged None (a1 ∷ []) none_ended) (update.Join g a1) none_ended) anywhere (a1 ∷ a1 ∷ [])
unfolding upd
joined_listed g = record {
  ordered = ((refl, tt), (tt, tt));
  each = by_pid (λ pid. count_by (same_pid pid) (a1 ∷ a1 ∷ []) ≡ count_among (applied (exchanged None (a1 ∷ []) none_ended) (update.Join g a1) none_ended) anywhere pid) refl refl
      (λ pid an a_apart bn b_apart. simp (an, a_apart) refl);
}

pub ended_listed : IsMemberList (less (exchanged None (a1 ∷ []) none_ended) (same_pid a1)) anywhere ([])
unfolding upd
ended_listed = record {
  ordered = tt;
  each = by_pid (λ pid. count_by (same_pid pid) ([]) ≡ count_among (less (exchanged None (a1 ∷ []) none_ended) (same_pid a1)) anywhere pid) refl refl
      (λ pid an a_apart bn b_apart. simp (an, a_apart) refl);
}

pub joined_ended_listed : (g : Term) → IsMemberList (less (applied (exchanged None (a1 ∷ []) none_ended) (update.Join g a1) none_ended) (same_pid a1)) anywhere ([])
unfolding upd
joined_ended_listed g = record {
  ordered = tt;
  each = by_pid (λ pid. count_by (same_pid pid) ([]) ≡ count_among (less (applied (exchanged None (a1 ∷ []) none_ended) (update.Join g a1) none_ended) (same_pid a1)) anywhere pid) refl refl
      (λ pid an a_apart bn b_apart. simp (an, a_apart) refl);
}

-- a table of one group is read
pub read_names : (table : Table) (g : Term) → is_some (table g) ≡ true → ((name : Term) → same_term g name ≡ false → table name ≡ None)
    → ListsGroups table (reply.Groups (g ∷ []))
read_names table g there others = (g ∷ [], record { each = each; once = alone }, sorted, refl)
  where
    alone : IsDistinct same_term (g ∷ [])
    alone = IsDistinct-from_AllPairs (λ x y. (same_is x y, λ e. subst (λ z. same_term x z ≡ true) e (same_to_itself x))) (g ∷ []) (λ i j d below within. absurd (omega arith))

    sorted : IsSorted term_cmp (g ∷ [])
    sorted = λ k d low high. absurd (omega arith)

    each : (name : Term) → list_any (same_term name) (g ∷ []) ≡ is_some (table name)
    each name = go (same_term g name) refl
      where
        go : (b : Bool) → same_term g name ≡ b → list_any (same_term name) (g ∷ []) ≡ is_some (table name)
        go true is = subst (λ n. list_any (same_term n) (g ∷ []) ≡ is_some (table n)) (same_is g name is) (ap (λ b. b || false) (same_to_itself g) ∙ sym there)
        go false is = ap (λ b. b || false) (apart_too g name is) ∙ sym (ap is_some (others name is))
