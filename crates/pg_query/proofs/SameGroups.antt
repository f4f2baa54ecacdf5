-- Tables that say the same of the names that they tell.
use Rattle.std.proofs.Common.{◌≡◌, ℕ, zero, suc, ◌+◌, ◌<◌, Bool, true, false, not, ◌||◌, ◌&&◌, Some, None}
use Rattle.std.proofs.Common.{List, [], ◌∷◌, length, take, get_or, refl, sym, ap, subst, ◌∙◌, arith}
use Rattle.std.proofs.Math.Bool.{beq}
use Rattle.std.proofs.Math.Path.{fun_ext}
use Rattle.std.specs.Prelude.{is_some, ◌↔◌, IsTrue, Result, Ok, Err, IfOk}
use Rattle.std.specs.Bool.{Decides}
use Rattle.std.specs.Cmp.{first_so, second_so}
use Rattle.std.specs.Cmp.Lexicographic.{pointwise}
use Rattle.std.specs.List.{list_all, list_any}
use Rattle.std.proofs.lemmas.List.Folds.{list_any_more}
use Rattle.std.proofs.lemmas.Slice.Eq.{slice_eq-Decides}
use Rattle.pg_term.specs.declared.pid.Pid.{Pid}
use Rattle.pg_term.specs.declared.term.Term.{Term}
use Rattle.pg_term.specs.Same.{same_pid, same_term}
use Rattle.pg_term.specs.contracts.pid.PidEq.TheImpl.Laws as pid_laws
use Rattle.pg_term.specs.contracts.term.TermEq.TheImpl.Laws as term_laws
use Rattle.pg_term.proofs.Same.{pid_is, same_term as term_is}
use Rattle.pg_group.specs.Value.{Value}
use Rattle.pg_group.specs.Scope.{anywhere}
use Rattle.pg_group.specs.Members.{IsMemberList}
use Rattle.pg_group.specs.Table.{Table, AreNames}
use Rattle.pg_query.specs.SameGroups.{AgreeOn}
use Rattle.pg_query.proofs.Listing.{HasOneList}

-- ---- one group

pub has_is : (b : Bool) (v : Value) → (b ≡ true) ↔ (is_some v ≡ true) → b ≡ is_some v
has_is true v h = sym (h.0 refl)
has_is false v h = go (is_some v) h.1
  where
    go : (c : Bool) → (c ≡ true → false ≡ true) → false ≡ c
    go true f = f refl
    go false f = refl

-- groups with the same members are one, where both are there or none is
pub group_told : (v w : Value) (pids : List Pid) → is_some v ≡ is_some w → IsMemberList v anywhere pids → IsMemberList w anywhere pids → v ≡ w
group_told None None pids e f g = refl
group_told None (Some n) pids e f g = absurd cc
group_told (Some m) None pids e f g = absurd cc
group_told (Some m) (Some n) pids e f g = ap Some (fun_ext (λ pid. sym (f.each pid) ∙ g.each pid))

-- two answers that are one
pub one_answer : (b c : Bool) → not (beq b c) ≡ false → b ≡ c
one_answer true true e = refl
one_answer true false e = absurd cc
one_answer false true e = absurd cc
one_answer false false e = refl

module _ (v w : Value) (pids others : List Pid) (r : Bool) (is : r ≡ pointwise same_pid pids others) (f : IsMemberList v anywhere pids) (g : IsMemberList w anywhere others) where
  lists_one : Decides r (pids ≡ others)
  lists_one = slice_eq-Decides (λ x y. (pid_is x y, λ e. ap (same_pid x) (sym e) ∙ pid_laws.laws-law.refl x)) pids others r is

  pub group_forth : is_some v ≡ is_some w → r ≡ true → v ≡ w
  group_forth e t = group_told v w pids e f (subst (IsMemberList w anywhere) (sym (lists_one.0 t)) g)

  pub group_back : HasOneList v anywhere → v ≡ w → r ≡ true
  group_back unique e = lists_one.1 (unique pids others f (subst (λ (u : Value). IsMemberList u anywhere others) (sym e) g))

-- ---- names that a test passes

or_true : (b c : Bool) → c ≡ true → (b || c) ≡ true
or_true true c e = refl
or_true false c e = e

names_pass : (test : Term → Bool) (names : List Term) → ((name : Term) → list_any (same_term name) names ≡ true → test name ≡ true) → list_all test names ≡ true
names_pass test [] h = refl
names_pass test (x ∷ xs) h =
    ap (λ b. b && list_all test xs) (h x (ap (λ b. b || list_any (same_term x) xs) (term_laws.laws-law.refl x)))
    ∙ names_pass test xs (λ name t. h name (or_true (same_term name x) (list_any (same_term name) xs) t))

each_passes : (test : Term → Bool) (names : List Term) (name : Term) → list_all test names ≡ true → list_any (same_term name) names ≡ true → test name ≡ true
each_passes test [] name a t = absurd cc
each_passes test (x ∷ xs) name a t = go (same_term name x) refl t (each_passes test xs name (second_so (test x) (list_all test xs) a))
  where
    go : (b : Bool) → same_term name x ≡ b → (b || list_any (same_term name) xs) ≡ true → (list_any (same_term name) xs ≡ true → test name ≡ true) → test name ≡ true
    go true e t later = ap test (term_is name x e) ∙ first_so (test x) (list_all test xs) a
    go false e t later = later t

-- ---- one name after the other

-- a name of the list
pub is_in : (names : List Term) (i : ℕ) (name : Term) → i < length names → name ≡ get_or names i name → list_any (same_term name) names ≡ true
is_in [] i name h e = absurd (omega arith)
is_in (x ∷ xs) zero name h e = ap (λ b. b || list_any (same_term name) xs) (ap (same_term name) (sym e) ∙ term_laws.laws-law.refl name)
is_in (x ∷ xs) (suc i) name h e = or_true (same_term name x) (list_any (same_term name) xs) (is_in xs i name (omega arith) e)

module _ (one other : Table) (names : List Term) (i : ℕ) (name : Term) (within : i < length names) (is : name ≡ get_or names i name) where
  pub agree_more : one name ≡ other name → AgreeOn one other (take i names) → AgreeOn one other (take (i + 1) names)
  agree_more same so_far q t = go (list_any (same_term q) (take i names)) refl (sym (list_any_more (same_term q) names i name within) ∙ t)
    where
      go : (b : Bool) → list_any (same_term q) (take i names) ≡ b → (b || same_term q (get_or names i name)) ≡ true → one q ≡ other q
      go true e t = so_far q e
      go false e t = let is_name : q ≡ name = term_is q (get_or names i name) t ∙ sym is in ap one is_name ∙ same ∙ ap other (sym is_name)

-- ---- two tables

module _ (one other : Table) (names others : List Term) (are : AreNames one names) (are' : AreNames other others) where
  pub same_has : one ≡ other → list_all (λ name. is_some (one name)) others ≡ true
  same_has e = names_pass (λ name. is_some (one name)) others (λ name t. ap (λ table. is_some (table name)) e ∙ sym (are'.each name) ∙ t)

  pub agree_same : list_all (λ name. is_some (one name)) others ≡ true → AgreeOn one other names → one ≡ other
  agree_same all agree = fun_ext (λ name. go name (one name) refl (other name) refl)
    where
      go : (name : Term) (v : Value) → one name ≡ v → (w : Value) → other name ≡ w → one name ≡ other name
      go name (Some m) e w f = agree name (are.each name ∙ ap is_some e)
      go name None e None f = e ∙ sym f
      go name None e (Some n) f =
          let there : is_some (one name) ≡ true = each_passes (λ name. is_some (one name)) others name all (are'.each name ∙ ap is_some f) in
          absurd (let clash : is_some (one name) ≡ false = ap is_some e in cc)

-- the same answer to another question
pub answers_too : {E P Q : Type 0} (r : Result Bool E) → (P → Q) → (Q → P) → IfOk r (λ same. IsTrue same ↔ P) → IfOk r (λ same. IsTrue same ↔ Q)
answers_too (Ok same) f g h = (λ e. f (h.0 e), λ q. h.1 (g q))
answers_too (Err e) f g h = tt
