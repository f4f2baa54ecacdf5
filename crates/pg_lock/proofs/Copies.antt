-- A map of holders that is copied name by name.
use Rattle.std.proofs.Common.{◌≡◌, suc, Bool, true, false, cond, Option, Some, None}
use Rattle.std.proofs.Common.{List, [], ◌∷◌, refl, sym, ap, subst, ◌∙◌, arith}
use Rattle.std.specs.BTreeMap.{BTreeMap, get, is_at}
use Rattle.std.specs.List.{All}
use Rattle.std.specs.Map.{lookup}
use Rattle.std.specs.Option.{option_or}
use Rattle.pg_term.specs.declared.term.Term.{Term}
use Rattle.pg_term.specs.RefParts.{RefParts}
use Rattle.pg_term.specs.Same.{term_cmp}
use Rattle.pg_term.specs.contracts.term.TermOrd.TheImpl.Laws as term_laws
use Rattle.pg_term.specs.contracts.term.TermEq.TheImpl.Laws as term_equality
use Rattle.pg_lock.proofs.Sorted.{named}

abbrev Beyond : Type 0
Beyond = BTreeMap Term RefParts

names_flip : (x y : Term) → is_at (term_cmp x) y ≡ is_at (term_cmp y) x
names_flip x y = sym (term_laws.matches_eq-law x y) ∙ term_equality.laws-law.symm x y ∙ term_laws.matches_eq-law y x

-- what was copied, and the entries that are left
pub record NamesCopied (whole done : Beyond) (left : List (Term × RefParts)) : Type 0 where
  pub overlaid : (q : Term) → option_or (get term_cmp done q) (lookup (is_at (term_cmp q)) left) ≡ get term_cmp whole q
  pub found : All (λ e. get term_cmp whole e.0 ≡ Some e.1) left

pub names_begun : (whole done : Beyond) (left : List (Term × RefParts)) → left ≡ whole.entries → All (λ e. get term_cmp whole e.0 ≡ Some e.1) whole.entries → done.entries ≡ [] → NamesCopied whole done left
names_begun whole done left is all empty = record {
  overlaid = λ q. ap (λ (es : List (Term × RefParts)). option_or (lookup (is_at (term_cmp q)) es) (lookup (is_at (term_cmp q)) left)) empty
      ∙ ap (lookup (is_at (term_cmp q))) is;
  found = subst (All (λ e. get term_cmp whole e.0 ≡ Some e.1)) (sym is) all;
}

pub names_more : (whole old new : Beyond) (name key : Term) (holder copy : RefParts) (before left : List (Term × RefParts)) → before ≡ (name, holder) ∷ left → key ≡ name → copy ≡ holder → NamesCopied whole old before
    → ((q : Term) → get term_cmp new q ≡ cond (is_at (term_cmp key) q) (Some copy) (get term_cmp old q)) → NamesCopied whole new left
names_more whole old new name key holder copy before left is same alike copied after = record {
  overlaid = λ q.
      ap (λ (o : Option RefParts). option_or o (lookup (is_at (term_cmp q)) left))
      (after q ∙ (λ i. cond (is_at (term_cmp (same i)) q) (Some (alike i)) (get term_cmp old q)))
      ∙ go q (is_at (term_cmp name) q) refl;
  found = λ i d below. here.found (suc i) d (omega arith);
}
  where
    here : NamesCopied whole old ((name, holder) ∷ left)
    here = subst (λ (l : List (Term × RefParts)). NamesCopied whole old l) is copied

    first : get term_cmp whole name ≡ Some holder
    first = here.found 0 (name, holder) (omega arith)

    go : (q : Term) (b : Bool) → is_at (term_cmp name) q ≡ b → option_or (cond b (Some holder) (get term_cmp old q)) (lookup (is_at (term_cmp q)) left) ≡ get term_cmp whole q
    go q true e = sym first ∙ ap (get term_cmp whole) (named name q e)
    go q false e = ap (λ b. option_or (get term_cmp old q) (cond b (Some holder) (lookup (is_at (term_cmp q)) left))) (sym (names_flip q name ∙ e)) ∙ here.overlaid q

or_none : (o : Option RefParts) → option_or o None ≡ o
or_none None = refl
or_none (Some holder) = refl

pub names_all : (whole done : Beyond) (left : List (Term × RefParts)) → left ≡ [] → NamesCopied whole done left → (q : Term) → get term_cmp done q ≡ get term_cmp whole q
names_all whole done left is copied q =
    let here = subst (λ (l : List (Term × RefParts)). NamesCopied whole done l) is copied in
    sym (or_none (get term_cmp done q)) ∙ here.overlaid q
