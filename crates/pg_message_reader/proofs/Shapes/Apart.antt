-- The groups of a list, one after the other, whose names are kept.
use Rattle.std.proofs.Common.{◌≡◌, ℕ, Bool, true, false, cond, List, [], ◌∷◌, ◌++◌, Option}
use Rattle.std.proofs.Common.{Some, None, Ok, refl, sym, ap, subst, ◌∙◌, append_assoc}
use Rattle.std.proofs.Common.{◌+◌, length, length-append, take, arith}
use Rattle.std.proofs.Math.Seq.{get_or-append_seam, take-append_seam}
use Rattle.std.proofs.lemmas.List.{append-nil, take_all}
use Rattle.std.specs.Option.{option_map, option_and_then}
use Rattle.std.specs.Ordering.{is_eq}
use Rattle.pg_term.specs.declared.pid.Pid.{Pid}
use Rattle.pg_term.specs.declared.term.Term.{Term, out-Term}
use Rattle.pg_term.specs.declared.term.Term.TheOpen.{Term-F}
use Rattle.pg_term.specs.Order.{kind_step, kind_of}
use Rattle.pg_term.specs.Same.{term_cmp}
use Rattle.pg_message_types.specs.PgTermIo.Lists.{list_from, ListGoesOn}
use Rattle.pg_message_types.specs.PgTermIo.Reading.{item_at}
use Rattle.pg_message_types.proofs.PgTermIo.Lists.{is_list}
use Rattle.pg_message_types.specs.Groups.{IsNamed}
use Rattle.pg_message_types.specs.Parts.{list_in, items_of}
use Rattle.pg_message_types.specs.Reading.{Groups, read_each, group_of, groups_of, is_named_once, named_once}
use Rattle.pg_message_types.proofs.Ascents.{is_among, told_push, told_again, once_more}
use Rattle.pg_message_types.proofs.ReadBack.{items_is}

-- the first of some groups, and those after it
pub record Parts (first : Option (Term × List Pid)) (others : Option Groups) (gs : Groups) : Type 0 where
  pub group : Term × List Pid
  pub later : Groups
  pub is : first ≡ Some group
  pub are : others ≡ Some later
  pub all : gs ≡ group ∷ later

pub parts : (first : Option (Term × List Pid)) (others : Option Groups) (gs : Groups) → option_and_then (λ g. option_map (λ gs. g ∷ gs) others) first ≡ Some gs → Parts first others gs
parts None others gs e = absurd cc
parts (Some g) None gs e = absurd cc
parts (Some g) (Some later) gs e = let same : g ∷ later ≡ gs = cc in record { group = g; later = later; is = refl; are = refl; all = sym same }

-- groups of which the first have been seen, whose names are kept, and of which these elements are left
pub record Seen (kept : Term → Bool) (elements : List Term) (gs : Groups) : Type 0 where
  pub front : Groups
  pub back : Groups
  pub are : gs ≡ front ++ back
  pub left : read_each group_of elements ≡ Some back
  pub names : (n : Term) → kept n ≡ is_among n front
  pub once : is_named_once front ≡ true

-- one more that was not among them
once_push : (gs : Groups) (g : Term × List Pid) → is_named_once gs ≡ true → is_among g.0 gs ≡ false → is_named_once (gs ++ g ∷ []) ≡ true
once_push gs g e absent =
    let all = gs ++ g ∷ [] in
    let more : length gs + 1 ≡ length all = omega (arith, length-append gs (g ∷ [])) in
    let front : take (length gs) all ≡ gs = take-append_seam gs (g ∷ []) in
    ap is_named_once (sym (take_all (length gs + 1) all (omega (arith, more))))
    ∙ once_more all (length gs) g (omega (arith, more)) (sym (get_or-append_seam gs g [] g)) (ap is_named_once front ∙ e) (ap (is_among g.0) front ∙ absent)

name_is : (name : Term) (group : Option (Term × List Pid)) (g : Term × List Pid) → group ≡ Some g → IsNamed name group → g.0 ≡ name
name_is name group g is named = subst (IsNamed name) is named

twice_named : (o : Option Groups) → ((gs : Groups) → o ≡ Some gs → is_named_once gs ≡ false) → option_and_then named_once o ≡ None
twice_named None why = refl
twice_named (Some gs) why = ap (λ (b : Bool). cond b (Some gs) None) (why gs refl)

module _ (t : Term) (rest : List ℕ) where
  -- the elements that are left, where what the term tells are groups
  pub record IsKept (kept : Term → Bool) (room count : ℕ) (left : List ℕ) : Type 0 where
    pub elements : List Term
    pub read : list_from room count left ≡ Ok (elements, rest)
    pub seen : (gs : Groups) → option_and_then (read_each group_of) (items_of t) ≡ Some gs → Seen kept elements gs

  pub none_kept : (kept : Term → Bool) → ((n : Term) → kept n ≡ false) → (room : ℕ) (bytes : List ℕ) → item_at room bytes ≡ Ok (t, rest) → kind_of t ≡ 5 → IsKept kept room 0 bytes
  none_kept kept none room bytes e five =
      let list = is_list room bytes t rest e five in
      record {
        elements = list.elements;
        read = list.read;
        seen = λ gs all. record {
          front = [];
          back = gs;
          are = refl;
          left = sym (ap (λ (t : Term). option_and_then (read_each group_of) (items_of t)) list.is ∙ ap (option_and_then (read_each group_of)) (items_is list.elements)) ∙ all;
          names = none;
          once = refl;
        };
      }

  -- an element that is no group
  pub kept_nothing : (kept : Term → Bool) (room count : ℕ) (left : List ℕ) (before : IsKept kept room count left) (first : Term) (others : List Term) → before.elements ≡ first ∷ others → group_of first ≡ None → groups_of t ≡ None
  kept_nothing kept room count left before first others are none = twice_named (option_and_then (read_each group_of) (items_of t))
      (λ gs all.
      let seen = before.seen gs all in
      let p = parts (group_of first) (read_each group_of others) seen.back (sym (ap (read_each group_of) are) ∙ seen.left) in
      let no : None ≡ Some p.group = sym none ∙ p.is in
      absurd cc)

  module _ (kept : Term → Bool) (room count : ℕ) (left : List ℕ) (before : IsKept kept room count left) (below more : ℕ) (bytes : List ℕ) (goes : ListGoesOn below more bytes before.elements rest) (name : Term) (named : IsNamed name (group_of goes.first)) where
    next : (gs : Groups) (seen : Seen kept before.elements gs) → Parts (group_of goes.first) (read_each group_of goes.others) seen.back
    next gs seen = parts (group_of goes.first) (read_each group_of goes.others) seen.back (sym (ap (read_each group_of) goes.are) ∙ seen.left)

    pub one_kept : kept name ≡ false → (after : Term → Bool) → ((n : Term) → after n ≡ cond (is_eq (term_cmp name n)) true (kept n)) → (behind : List ℕ) → goes.behind ≡ behind → IsKept after below more behind
    one_kept absent after more_kept behind ends = record {
      elements = goes.others;
      read = subst (λ (b : List ℕ). list_from below more b ≡ Ok (goes.others, rest)) ends goes.after;
      seen = λ gs all.
          let seen = before.seen gs all in
          let p = next gs seen in
          record {
            front = seen.front ++ p.group ∷ [];
            back = p.later;
            are = seen.are ∙ ap (λ (hs : Groups). seen.front ++ hs) p.all ∙ sym (append_assoc seen.front (p.group ∷ []) p.later);
            left = p.are;
            names = λ n. told_push seen.front p.group n (after n) (kept n) (more_kept n ∙ ap (λ (m : Term). cond (is_eq (term_cmp m n)) true (kept n)) (sym (name_is name (group_of goes.first) p.group p.is named))) (seen.names n);
            once = once_push seen.front p.group seen.once (sym (seen.names p.group.0) ∙ ap kept (name_is name (group_of goes.first) p.group p.is named) ∙ absent);
          };
    }

    pub kept_twice : kept name ≡ true → groups_of t ≡ None
    kept_twice there = twice_named (option_and_then (read_each group_of) (items_of t))
        (λ gs all.
        let seen = before.seen gs all in
        let p = next gs seen in
        ap is_named_once (seen.are ∙ ap (λ (hs : Groups). seen.front ++ hs) p.all)
        ∙ told_again seen.front p.group p.later (sym (seen.names p.group.0) ∙ ap kept (name_is name (group_of goes.first) p.group p.is named) ∙ there))

  -- no more are left
  pub all_kept : (kept : Term → Bool) (room count : ℕ) (left : List ℕ) (before : IsKept kept room count left) → before.elements ≡ [] → (gs : Groups) → option_and_then (read_each group_of) (items_of t) ≡ Some gs → is_named_once gs ≡ true
  all_kept kept room count left before none gs all =
      let seen = before.seen gs all in
      let back : Some [] ≡ Some seen.back = sym (ap (read_each group_of) none) ∙ seen.left in
      let empty : [] ≡ seen.back = cc in
      ap is_named_once (seen.are ∙ ap (λ (hs : Groups). seen.front ++ hs) (sym empty) ∙ append-nil seen.front) ∙ seen.once

-- it is enough to look at lists
pub groups_by_lists : (t : Term) → (kind_of t ≡ 5 → groups_of t ≡ None) → groups_of t ≡ None
groups_by_lists t why = at (out-Term t) why
  where
    at : (l : Term-F Term) → (kind_step l ≡ 5 → option_and_then named_once (option_and_then (read_each group_of) (list_in l)) ≡ None) → option_and_then named_once (option_and_then (read_each group_of) (list_in l)) ≡ None
    at (Term-F.List ts) h = h refl
    at (Term-F.Int z) h = refl
    at (Term-F.Atom a) h = refl
    at (Term-F.Ref r) h = refl
    at (Term-F.Pid p) h = refl
    at (Term-F.Tuple ts) h = refl
    at (Term-F.Binary content) h = refl
