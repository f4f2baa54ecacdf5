-- Whether each name that one table tells the holder of has it in another.
use Rattle.std.proofs.Common.{◌≡◌, Bool, true, false, ◌&&◌, cond, Option, Some, None, List, [], ◌∷◌, refl, sym, ap, ◌∙◌}
use Rattle.std.proofs.Math.Path.{fun_ext}
use Rattle.std.specs.BTreeMap.{BTreeMap, get, is_at, IsOrdered}
use Rattle.std.specs.Cmp.{first_so, second_so}
use Rattle.std.specs.List.{AllByRecursion, list_all}
use Rattle.std.specs.Option.{is_some}
use Rattle.pg_term.specs.declared.term.Term.{Term}
use Rattle.pg_term.specs.RefParts.{RefParts}
use Rattle.pg_term.specs.Same.{term_cmp}
use Rattle.pg_term.specs.contracts.reference.ReferenceEq.TheImpl.Laws.{laws-law as references}
use Rattle.pg_term.proofs.Same.{ref_is}
use Rattle.pg_lock.specs.Holders.{AreSorted, AreApart, IsWithin, holder_among, holder_in, first_holder}
use Rattle.pg_lock.specs.Locks.{Locks, is_holder, holds_so}
use Rattle.pg_lock.proofs.Sorted.{Holder, named, each_found, through}
use Rattle.pg_lock.proofs.Held.{near_free}

apart : {A : Type 0} → false ≡ true → A
apart e = absurd cc

some_is : (r : RefParts) (o : Option RefParts) → o ≡ Some r → is_some o ≡ true
some_is r o e = ap is_some e

held_so : (o : Option RefParts) (r : RefParts) → is_holder o r ≡ true → o ≡ Some r
held_so None r e = apart e
held_so (Some h) r e = ap Some (ref_is h r e)

so_held : (o : Option RefParts) (r : RefParts) → o ≡ Some r → is_holder o r ≡ true
so_held o r e = ap (λ h. is_holder h r) e ∙ references.refl r

module _ (locks : Locks) where
  each_told : (es : List Holder) → list_all (holds_so locks) es ≡ true → (name : Term) (holder : RefParts) → holder_among es name ≡ Some holder → locks name ≡ Some holder
  each_told [] all name holder is = apart (some_is holder None is)
  each_told (e ∷ es) all name holder is = go (λ h. each_told es (second_so (holds_so locks e) (list_all (holds_so locks) es) all) name holder h) (is_at (term_cmp name) e.0) refl is
    where
      go : (holder_among es name ≡ Some holder → locks name ≡ Some holder) → (b : Bool) → is_at (term_cmp name) e.0 ≡ b → cond b (Some e.1) (holder_among es name) ≡ Some holder → locks name ≡ Some holder
      go rest false at h = rest h
      go rest true at h = ap locks (named name e.0 at) ∙ held_so (locks e.0) e.1 (first_so (holds_so locks e) (list_all (holds_so locks) es) all) ∙ h

  all_told : (es : List Holder) → AllByRecursion (λ e. locks e.0 ≡ Some e.1) es → list_all (holds_so locks) es ≡ true
  all_told [] all = refl
  all_told (e ∷ es) all = (λ i. so_held (locks e.0) e.1 all.0 i && list_all (holds_so locks) es) ∙ all_told es all.1

  module _ (near : List Holder) (far : BTreeMap Term RefParts) where
    pub within : list_all (holds_so locks) near ≡ true → list_all (holds_so locks) far.entries ≡ true → IsWithin (holder_in near far) locks
    within n f name holder is = go (holder_among near name) refl is
      where
        go : (o : Option RefParts) → holder_among near name ≡ o → first_holder o (get term_cmp far name) ≡ Some holder → locks name ≡ Some holder
        go None e h = each_told far.entries f name holder h
        go (Some one) e h = each_told near n name holder (e ∙ h)

    pub near_within : AreSorted near → IsWithin (holder_in near far) locks → list_all (holds_so locks) near ≡ true
    near_within sorted within = all_told near (through (λ (e : Holder). holder_among near e.0 ≡ Some e.1) (λ (e : Holder). locks e.0 ≡ Some e.1)
        (λ e is. within e.0 e.1 (ap (λ h. first_holder h (get term_cmp far e.0)) is)) near (each_found near sorted))

    pub far_within : IsOrdered term_cmp far → AreApart near far → IsWithin (holder_in near far) locks → list_all (holds_so locks) far.entries ≡ true
    far_within ordered one within = all_told far.entries (through (λ (e : Holder). holder_among far.entries e.0 ≡ Some e.1) (λ (e : Holder). locks e.0 ≡ Some e.1)
        (λ e is. within e.0 e.1 (ap (λ h. first_holder h (get term_cmp far e.0)) (near_free (holder_among near e.0) (get term_cmp far e.0) e.1 is (one e.0)) ∙ is))
        far.entries (each_found far.entries ordered))

-- locks within each other are one
pub within_both : (one other : Locks) → IsWithin one other → IsWithin other one → one ≡ other
within_both one other there back = fun_ext (λ name. go name (one name) (other name) (there name) (back name))
  where
    go : (name : Term) (o p : Option RefParts) → ((h : RefParts) → o ≡ Some h → p ≡ Some h) → ((h : RefParts) → p ≡ Some h → o ≡ Some h) → o ≡ p
    go name (Some h) p f g = sym (f h refl)
    go name None None f g = refl
    go name None (Some h) f g = g h refl

pub within_itself : (one other : Locks) → one ≡ other → IsWithin one other
within_itself one other e name holder is = ap (λ locks. locks name) (sym e) ∙ is
