-- Lists from some place in them on.
use Rattle.std.proofs.Common.{◌≡◌, ◌≢◌, ℕ, zero, suc, ◌≤◌, Bool, true, false, cond, ltb, eqb, ◌&&◌, List, [], ◌∷◌, ◌++◌}
use Rattle.std.proofs.Common.{length, take, drop, map, Option, Some, None, Ok, Err, refl, sym, ap, subst, ◌∙◌, arith}
use Rattle.std.proofs.lemmas.Bool.{ltb-false}
use Rattle.std.specs.Int.{w16, w32}
use Rattle.pg_term.specs.declared.fault.TermFault.{TermFault}
use Rattle.pg_term.specs.declared.fault.TermFault.TheVariants.{Truncated, TooDeep}
use Rattle.pg_term.specs.declared.term.Term.{Term, Tuple, List as Listed}
use Rattle.pg_term.specs.Order.{kind_of}
use Rattle.pg_term_io.specs.Lists.{list_from, ListGoesOn, IsOver, IsText}
use Rattle.pg_term_io.specs.Numbers.{int_of}
use Rattle.pg_term_io.specs.Reading.{Read, ◌>>=◌, number_at, bytes_at, items_at, item_at, tail_at, readers}
use Rattle.pg_term_io.specs.Reading.{elements_behind, tail_behind, arity_at, item_behind, as_term, string_at, list_at}
use Rattle.pg_term_io.specs.declared.tag.ListTag.{ListTag}
use Rattle.pg_term_io.specs.declared.tag.Tag.{Tag}
use Rattle.pg_term_io.specs.declared.tag.Tag.TheVariants as tags
use Rattle.pg_term_io.specs.Tags.{tag_of, list_tag}
use Rattle.pg_term_io.proofs.Placed.{made, tuple_kind, leaf_is_no_list}

-- ---- the elements that stand there

-- items, and then the tail behind them
abbrev and_tail : ℕ → Read (List Term) → Read (List Term)
and_tail room items = items >>= λ i. tail_at room i.1 >>= λ tail. Ok (i.0 ++ tail.0, tail.1)

abbrev then_tail : List Term → Read (List Term) → Read (List Term)
then_tail items tail = tail >>= λ t. Ok (items ++ t.0, t.1)

abbrev after_first : Term → Read (List Term) → Read (List Term)
after_first t read = read >>= λ others. Ok (t ∷ others.0, others.1)

abbrev and_others : ℕ → ℕ → Read Term → Read (List Term)
and_others room n first = first >>= λ x. after_first x.0 (items_at (item_at room) n x.1)

module _ (room n : ℕ) (bytes : List ℕ) (ts : List Term) (rest : List ℕ) where
  with_tail : (t : Term) (mid : List ℕ) (us : List Term) (last : List ℕ) (tail : Read (List Term)) → item_at room bytes ≡ Ok (t, mid) → items_at (item_at room) n mid ≡ Ok (us, last) → tail_at room last ≡ tail
      → then_tail (t ∷ us) tail ≡ Ok (ts, rest) → ListGoesOn room n bytes ts rest
  unfolding list_from
  with_tail t mid us last (Ok v) here others tail e =
      let same : (t ∷ (us ++ v.0), v.1) ≡ (ts, rest) = cc in
      record {
        first = t;
        others = us ++ v.0;
        behind = mid;
        are = ap (λ (p : List Term × List ℕ). p.0) (sym same);
        here = here;
        after = ap (and_tail room) others ∙ ap (then_tail us) tail ∙ ap (λ (p : List Term × List ℕ). Ok (us ++ v.0, p.1)) same;
      }
  with_tail t mid us last (Err f) here others tail e = absurd cc

  with_others : (t : Term) (mid : List ℕ) (others : Read (List Term)) → item_at room bytes ≡ Ok (t, mid) → items_at (item_at room) n mid ≡ others → and_tail room (after_first t others) ≡ Ok (ts, rest) → ListGoesOn room n bytes ts rest
  with_others t mid (Ok x) here others e = with_tail t mid x.0 x.1 (tail_at room x.1) here others refl e
  with_others t mid (Err f) here others e = absurd cc

  with_first : (first : Read Term) → item_at room bytes ≡ first → and_tail room (and_others room n first) ≡ Ok (ts, rest) → ListGoesOn room n bytes ts rest
  with_first (Ok x) here e = with_others x.0 x.1 (items_at (item_at room) n x.1) here refl e
  with_first (Err f) here e = absurd cc

  -- where elements stand there, the first of them
  pub goes_on : list_from room (suc n) bytes ≡ Ok (ts, rest) → ListGoesOn room n bytes ts rest
  unfolding list_from items_at
  goes_on e = with_first (item_at room bytes) refl e

-- ---- its tail

module _ (room : ℕ) (bytes : List ℕ) (ts : List Term) (rest : List ℕ) where
  alone : (tail : Read (List Term)) → tail_at room bytes ≡ tail → then_tail [] tail ≡ Ok (ts, rest) → tail_at room bytes ≡ Ok (ts, rest)
  alone (Ok v) is e = is ∙ e
  alone (Err f) is e = absurd cc

  -- with no elements before it
  pub tail_alone : list_from room 0 bytes ≡ Ok (ts, rest) → tail_at room bytes ≡ Ok (ts, rest)
  unfolding list_from items_at
  tail_alone e = alone (tail_at room bytes) refl e

  -- a list is its own tail
  pub own_tail : tail_at room bytes ≡ Ok (ts, rest) → list_from room 0 bytes ≡ Ok (ts, rest)
  unfolding list_from items_at
  own_tail e = ap (then_tail []) e

no_tail_at : (room : ℕ) (ts : List Term) (rest : List ℕ) → tail_at room [] ≡ Ok (ts, rest) → ⊥
unfolding readers
no_tail_at zero ts rest e = absurd cc
no_tail_at (suc room) ts rest e = absurd cc

pub no_tail : (room count : ℕ) (bytes : List ℕ) (ts : List Term) (rest : List ℕ) → count ≡ 0 → length bytes ≡ 0 → list_from room count bytes ≡ Ok (ts, rest) → ⊥
no_tail room count [] ts rest none short e = no_tail_at room ts rest (tail_alone room [] ts rest (subst (λ (n : ℕ). list_from room n [] ≡ Ok (ts, rest)) none e))
no_tail room count (tag ∷ bytes) ts rest none short e = absurd (omega arith)

pub no_deeper_tail : (tag : ℕ) (bytes : List ℕ) (ts : List Term) (rest : List ℕ) → tail_at 0 (tag ∷ bytes) ≡ Ok (ts, rest) → ⊥
unfolding readers
no_deeper_tail tag bytes ts rest e = absurd cc

pub tail_empty : (room : ℕ) (bytes : List ℕ) (ts : List Term) (rest : List ℕ) → tail_at room (106 ∷ bytes) ≡ Ok (ts, rest) → IsOver bytes ts rest
unfolding readers elements_behind
tail_empty zero bytes ts rest e = absurd cc
tail_empty (suc room) bytes ts rest e =
    let same : ([], bytes) ≡ (ts, rest) = cc in
    record { none = ap (λ (p : List Term × List ℕ). p.0) (sym same); after = ap (λ (p : List Term × List ℕ). p.1) (sym same) }

pub tail_listed : (room n : ℕ) (bytes behind : List ℕ) (ts : List Term) (rest : List ℕ) → number_at w32 bytes ≡ Ok (n, behind) → tail_at (suc room) (108 ∷ bytes) ≡ Ok (ts, rest) → list_from room n behind ≡ Ok (ts, rest)
unfolding readers elements_behind list_at list_from
tail_listed room n bytes behind ts rest count e = sym (ap (λ (r : Read ℕ). r >>= λ n. and_tail room (items_at (item_at room) n.0 n.1)) count) ∙ e

pub tail_uncounted : (room : ℕ) (f : TermFault) (bytes : List ℕ) (ts : List Term) (rest : List ℕ) → number_at w32 bytes ≡ Err f → tail_at room (108 ∷ bytes) ≡ Ok (ts, rest) → ⊥
unfolding readers elements_behind list_at
tail_uncounted zero f bytes ts rest count e = absurd cc
tail_uncounted (suc room) f bytes ts rest count e = let no = sym (ap (λ (r : Read ℕ). r >>= λ n. and_tail room (items_at (item_at room) n.0 n.1)) count) ∙ e in absurd cc

-- ---- texts

-- so many bytes of a text, read as elements
text_of : (n : ℕ) (bytes : List ℕ) → n ≤ length bytes → n ≢ 0 → IsText (map int_of (take n bytes))
text_of zero bytes le some = absurd (some refl)
text_of (suc n) [] le some = absurd (omega arith)
text_of (suc n) (b ∷ bytes) le some = record { first = b; others = take n bytes; are = refl }

-- what the bytes of a text are, behind their number, and what follows them
pub record Spelt (n : ℕ) (behind : List ℕ) (ts : List Term) (rest : List ℕ) : Type 0 where
  pub long : n ≤ length behind
  pub are : ts ≡ map int_of (take n behind)
  pub after : rest ≡ drop n behind

-- what a text is read as, behind its number
abbrev text_at : ℕ → ℕ × List ℕ → Read (List Term)
text_at room n = bytes_at n.0 n.1 >>= λ text. cond (eqb room 0 && ltb 0 n.0) (Err TooDeep) (Ok (map int_of text.0, text.1))

pub text_none : (n : ℕ) (behind : List ℕ) (ts : List Term) (rest : List ℕ) → n ≡ 0 → Spelt n behind ts rest → IsOver behind ts rest
text_none n behind ts rest none s = record {
  none = subst (λ (n : ℕ). ts ≡ map int_of (take n behind)) none s.are;
  after = subst (λ (n : ℕ). rest ≡ drop n behind) none s.after;
}

pub text_some : (n : ℕ) (behind : List ℕ) (ts : List Term) (rest : List ℕ) → n ≢ 0 → Spelt n behind ts rest → IsText ts
text_some n behind ts rest some s = subst IsText (sym s.are) (text_of n behind s.long some)

module _ (room n : ℕ) (behind : List ℕ) (ts : List Term) (rest : List ℕ) where
  abbrev spelt_if : Bool → Bool → Read (List Term)
  spelt_if short deep = ◌>>=◌ {A = List ℕ × List ℕ} (cond short (Err Truncated) (Ok (take n behind, drop n behind))) λ text. cond deep (Err TooDeep) (Ok (map int_of text.0, text.1))

  spelt : (short deep : Bool) → ltb (length behind) n ≡ short → spelt_if short deep ≡ Ok (ts, rest) → Spelt n behind ts rest
  spelt true deep is e = absurd cc
  spelt false true is e = absurd cc
  spelt false false is e =
      let same : (map int_of (take n behind), drop n behind) ≡ (ts, rest) = cc in
      record { long = ltb-false (length behind) n is; are = ap (λ (p : List Term × List ℕ). p.0) (sym same); after = ap (λ (p : List Term × List ℕ). p.1) (sym same) }

  pub tail_spelt : (bytes : List ℕ) → number_at w16 bytes ≡ Ok (n, behind) → tail_at room (107 ∷ bytes) ≡ Ok (ts, rest) → Spelt n behind ts rest
  unfolding readers elements_behind string_at
  tail_spelt bytes count e = at room e
    where
      at : (room : ℕ) → tail_at room (107 ∷ bytes) ≡ Ok (ts, rest) → Spelt n behind ts rest
      at zero e = absurd cc
      at (suc room) e = spelt (ltb (length behind) n) (eqb room 0 && ltb 0 n) refl (sym (ap (λ (r : Read ℕ). r >>= text_at room) count) ∙ e)

pub tail_untold : (room : ℕ) (f : TermFault) (bytes : List ℕ) (ts : List Term) (rest : List ℕ) → number_at w16 bytes ≡ Err f → tail_at room (107 ∷ bytes) ≡ Ok (ts, rest) → ⊥
unfolding readers elements_behind string_at
tail_untold zero f bytes ts rest count e = absurd cc
tail_untold (suc room) f bytes ts rest count e = let no = sym (ap (λ (r : Read ℕ). r >>= text_at room) count) ∙ e in absurd cc

-- ---- what holds of a list that begins with a tag

-- other tags begin none
pub no_list : (room tag : ℕ) (bytes : List ℕ) (ts : List Term) (rest : List ℕ) → list_tag (tag_of tag) ≡ None → tail_at room (tag ∷ bytes) ≡ Ok (ts, rest) → ⊥
unfolding readers
no_list zero tag bytes ts rest none e = absurd cc
no_list (suc room) tag bytes ts rest none e = let no = ap (λ (found : Option ListTag). tail_behind room (readers room) found bytes) none in absurd cc

-- a list none of whose elements stand there
pub tail_after : (room count : ℕ) (bytes : List ℕ) (tag known : ℕ) (behind : List ℕ) (ts : List Term) (rest : List ℕ) → count ≡ 0 → bytes ≡ tag ∷ behind → tag ≡ known → list_from room count bytes ≡ Ok (ts, rest) → tail_at room (known ∷ behind) ≡ Ok (ts, rest)
tail_after room count bytes tag known behind ts rest none is this e =
    tail_alone room (known ∷ behind) ts rest (subst (λ (b : List ℕ). list_from room 0 b ≡ Ok (ts, rest)) (is ∙ ap (λ (tag : ℕ). tag ∷ behind) this) (subst (λ (n : ℕ). list_from room n bytes ≡ Ok (ts, rest)) none e))

-- ---- a list as an item

-- the item is a list, which is its own tail
pub record IsList (room : ℕ) (bytes : List ℕ) (t : Term) (rest : List ℕ) : Type 0 where
  pub elements : List Term
  pub is : t ≡ Listed elements
  pub read : list_from room 0 bytes ≡ Ok (elements, rest)

four_not_five : (place : Option ℕ) → place ≡ Some 4 → place ≡ Some 5 → ⊥
four_not_five place h k = absurd cc

module _ (room tag : ℕ) (bytes : List ℕ) (t : Term) (rest : List ℕ) (five : kind_of t ≡ 5) where
  no_tuple_there : (read : Read (List Term)) → as_term Tuple read ≡ Ok (t, rest) → IsList (suc room) (tag ∷ bytes) t rest
  no_tuple_there read e = absurd (four_not_five (Some (kind_of t)) (sym (made Tuple 4 tuple_kind read t rest e)) (ap Some five))

  list_there : (read : Read (List Term)) → tail_at (suc room) (tag ∷ bytes) ≡ read → as_term Listed read ≡ Ok (t, rest) → IsList (suc room) (tag ∷ bytes) t rest
  list_there (Ok x) is e =
      let same : (Listed x.0, x.1) ≡ (t, rest) = cc in
      record {
        elements = x.0;
        is = ap (λ (p : Term × List ℕ). p.0) (sym same);
        read = own_tail (suc room) (tag ∷ bytes) x.0 rest (is ∙ ap (λ (p : Term × List ℕ). Ok (x.0, p.1)) same);
      }
  list_there (Err f) is e = absurd cc

  by_tag : (found : Option Tag) → tag_of tag ≡ found → item_behind room (readers room) found bytes ≡ Ok (t, rest) → IsList (suc room) (tag ∷ bytes) t rest
  unfolding readers item_behind
  by_tag None is e = absurd cc
  by_tag (Some (tags.Tuple size)) is e = no_tuple_there (arity_at size bytes >>= λ n. items_at (item_at room) n.0 n.1) e
  by_tag (Some (tags.List form)) is e = list_there (elements_behind room (readers room) form bytes) (ap (λ (found : Option Tag). tail_behind room (readers room) (list_tag found) bytes) is) e
  by_tag (Some (tags.Leaf form)) is e = absurd (leaf_is_no_list form bytes t rest e five)

pub is_list : (room : ℕ) (bytes : List ℕ) (t : Term) (rest : List ℕ) → item_at room bytes ≡ Ok (t, rest) → kind_of t ≡ 5 → IsList room bytes t rest
unfolding readers item_behind
is_list zero [] t rest e five = absurd cc
is_list zero (tag ∷ bytes) t rest e five = absurd cc
is_list (suc room) [] t rest e five = absurd cc
is_list (suc room) (tag ∷ bytes) t rest e five = by_tag room tag bytes t rest five (tag_of tag) refl e
