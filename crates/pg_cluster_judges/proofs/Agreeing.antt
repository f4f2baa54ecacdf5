-- Nodes that agree.
use Rattle.std.proofs.Common.{◌≡◌, ◌↔◌, ℕ, zero, suc, ◌<◌, Bool, true, false, ◌||◌, List, [], ◌∷◌}
use Rattle.std.proofs.Common.{length, arith, Some, None, Result, Ok, Err, refl, sym, ap, subst, ◌∙◌}
use Rattle.std.specs.Prelude.{IfOk, IsTrue, is_some, slice_index_or}
use Rattle.std.specs.List.{All, list_any}
use Rattle.pg_term.specs.declared.term.Term.{Term}
use Rattle.pg_term.specs.Same.{same_term}
use Rattle.pg_term.specs.contracts.term.TermEq.TheImpl.Laws as term_laws
use Rattle.pg_term.proofs.Same.{same_term as term_is}
use Rattle.pg_world.specs.PgGroup.declared.table.GroupTable.{Ghosts}
use Rattle.pg_world.specs.PgGroup.Table.{AreNames, Table}
use Rattle.pg_world.specs.PgGroup.Value.{Value}
use Rattle.pg_world.specs.PgNode.declared.node.Node.{Node}
use Rattle.pg_cluster_judges.specs.Judges.{AgreesWith, AreOne, HasAs, formed_in, is_seen_free, state_in}

-- nodes have the same of a group where their tables say the same
pub has_as_so : {T E : Type 0} {g : Ghosts T} (result : Result Bool E) (one other : Node T g) (name : Term) (table table2 : Table)
    → table ≡ (state_in one).table → table2 ≡ (state_in other).table → formed_in other ≡ true
    → IfOk result (λ same. IsTrue same ↔ (table name ≡ table2 name)) → IfOk result (λ yes. IsTrue yes ↔ HasAs one name other)
has_as_so (Err e) one other name table table2 is is2 formed same = tt
has_as_so (Ok told) one other name table table2 is is2 formed same = (
  λ holds _. ap (λ (t : Table). t name) (sym is) ∙ (same.0 holds ∙ ap (λ (t : Table). t name) is2),
  λ has. same.1 (ap (λ (t : Table). t name) is ∙ (has formed ∙ ap (λ (t : Table). t name) (sym is2))),
)

module _ {T : Type 0} {g : Ghosts T} (nodes : List (Node T g)) where
  -- formed nodes have the same, where each has of its own groups what the others have
  pub one_so : All (λ x. formed_in x ≡ true → AgreesWith nodes x) nodes → AreOne nodes
  one_so all k x low formed name free = λ j y lower formed2. same k x low formed name free j y lower formed2
    where
      same : (k : ℕ) (x : Node T g) → k < length nodes → formed_in (slice_index_or nodes k x) ≡ true → (name : Term) → is_seen_free nodes name ≡ true
          → (j : ℕ) (y : Node T g) → j < length nodes → formed_in (slice_index_or nodes j y) ≡ true
          → (state_in (slice_index_or nodes k x)).table name ≡ (state_in (slice_index_or nodes j y)).table name
      same k x low formed name free j y lower formed2 = go ((state_in (slice_index_or nodes k x)).table name) refl ((state_in (slice_index_or nodes j y)).table name) refl
        where
          go : (v : Value) → (state_in (slice_index_or nodes k x)).table name ≡ v → (w : Value) → (state_in (slice_index_or nodes j y)).table name ≡ w
              → (state_in (slice_index_or nodes k x)).table name ≡ (state_in (slice_index_or nodes j y)).table name
          go (Some m) e w f = all k x low formed name (ap is_some e) free j y lower formed2
          go None e (Some n) f = sym (all j y lower formed2 name (ap is_some f) free k x low formed)
          go None e None f = e ∙ sym f

  -- and so each has
  pub so_one : AreOne nodes → All (λ x. formed_in x ≡ true → AgreesWith nodes x) nodes
  so_one one k x low formed name there free = one k x low formed name free

-- ---- names of a list

or_so : (b c : Bool) → c ≡ true → (b || c) ≡ true
or_so true c e = refl
or_so false c e = e

-- what is so of all of a list is so of each name in it
pub of_named : (P : Term → Type 0) (names : List Term) → All P names → (name : Term) → list_any (same_term name) names ≡ true → P name
of_named P [] all name e = absurd cc
of_named P (x ∷ xs) all name e = go (same_term name x) refl e (of_named P xs (λ k d low. all (suc k) d (omega (arith, low))) name)
  where
    go : (b : Bool) → same_term name x ≡ b → (b || list_any (same_term name) xs) ≡ true → (list_any (same_term name) xs ≡ true → P name) → P name
    go true is e later = subst P (sym (term_is name x is)) (all zero x (omega arith))
    go false is e later = later e

-- and the other way round
pub named_all : (P : Term → Type 0) (names : List Term) → ((name : Term) → list_any (same_term name) names ≡ true → P name) → All P names
named_all P [] h k d low = absurd (omega (arith, low))
named_all P (x ∷ xs) h zero d low = h x (ap (λ b. b || list_any (same_term x) xs) (term_laws.laws-law.refl x))
named_all P (x ∷ xs) h (suc k) d low = named_all P xs (λ name e. h name (or_so (same_term name x) (list_any (same_term name) xs) e)) k d (omega (arith, low))

-- ---- one node

module _ {T : Type 0} {g : Ghosts T} (nodes : List (Node T g)) (x : Node T g) where
  -- a node, if it is formed, agrees with each of these
  abbrev pub IsAgreed : Type 0
  IsAgreed = formed_in x ≡ true → AgreesWith nodes x

  -- it agrees on a group
  abbrev pub IsAgreedOn : Term → Type 0
  IsAgreedOn name = is_seen_free nodes name ≡ true → All (HasAs x name) nodes

  -- it agrees on the groups that it tells, which are all that it has
  module _ (table : Table) (names others : List Term) (is : table ≡ (state_in x).table) (are : AreNames table names) (same : others ≡ names) where
    pub agreed_forth : All IsAgreedOn others → AgreesWith nodes x
    agreed_forth all name there free =
        of_named IsAgreedOn names (subst (All IsAgreedOn) same all) name (are.each name ∙ (ap (λ (t : Table). is_some (t name)) is ∙ there)) free

    pub agreed_back : AgreesWith nodes x → All IsAgreedOn others
    agreed_back agree =
        subst (All IsAgreedOn) (sym same) (named_all IsAgreedOn names (λ name e. agree name (ap (λ (t : Table). is_some (t name)) (sym is) ∙ (sym (are.each name) ∙ e))))
