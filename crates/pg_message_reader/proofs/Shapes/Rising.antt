-- The names of groups, one after the other: whether each is an atom, and less than the next.
use Rattle.std.proofs.Common.{◌≡◌, ◌≢◌, ℕ, Bool, true, false, cond, List, [], ◌∷◌, ◌++◌, map, take, Option}
use Rattle.std.proofs.Common.{Some, None, Ok, refl, sym, ap, subst, ◌∙◌}
use Rattle.std.proofs.Common.{Result, Err}
use Rattle.std.specs.Prelude.{is_some, IsErr, ◌&&◌}
use Rattle.std.specs.declared.alloc.AllocError.{AllocError}
use Rattle.std.specs.List.{list_all}
use Rattle.std.specs.Option.{option_and_then}
use Rattle.std.specs.declared.cmp.Ordering.{Ordering}
use Rattle.std.specs.declared.cmp.Ordering.TheVariants.{Less}
use Rattle.std.proofs.lemmas.Bool.{eqb-true}
use Rattle.pg_term.specs.declared.pid.Pid.{Pid}
use Rattle.pg_term.specs.declared.term.Term.{Term}
use Rattle.pg_term.specs.Order.{kind_of}
use Rattle.pg_term.specs.Same.{term_cmp}
use Rattle.pg_message_types.specs.PgTermIo.Lists.{list_from, ListGoesOn}
use Rattle.pg_message_types.specs.PgTermIo.Reading.{item_at}
use Rattle.pg_message_types.proofs.PgTermIo.Lists.{is_list}
use Rattle.pg_message_types.specs.Groups.{IsNamed, is_less, is_ascending}
use Rattle.pg_message_types.specs.Parts.{items_of}
use Rattle.pg_message_types.specs.Reading.{Groups, read_each, group_in, group_of, groups_of, is_named_once, named_once}
use Rattle.pg_message_types.proofs.Ascents.{ascending_once}
use Rattle.pg_message_types.proofs.ReadBack.{items_is}
use Rattle.pg_message_reader.specs.Names.{all_in, firsts, names_of_groups, is_atom, do_ascend, are_plain, Tells}
use Rattle.pg_message_reader.specs.Shapes.Groups.{Sees}
use Rattle.pg_message_reader.specs.Shapes.Leaves.{Names}
use Rattle.pg_message_reader.specs.Shapes.Lists.{EndsAlike}
use Rattle.pg_message_reader.specs.Shapes.Shape.{listed_of}
use Rattle.pg_message_reader.specs.declared.shape.groups.names.Name.{Name}
use Rattle.pg_message_reader.proofs.Shapes.Apart.{parts}
use Rattle.pg_message_reader.proofs.Shapes.ListShapes.{behind_some, first_named}

left : (a b : Bool) → a && b ≡ true → a ≡ true
left true b e = refl
left false b e = absurd cc

right : (a b : Bool) → a && b ≡ true → b ≡ true
right true b e = e
right false b e = absurd cc

both_false : (a b : Bool) → a && b ≡ false → (P : Type 0) → (a ≡ false → P) → (a ≡ true → b ≡ false → P) → P
both_false true b e P h k = k refl e
both_false false b e P h k = h refl

-- it can not be true
not_so : (b : Bool) → (b ≡ true → ⊥) → b ≡ false
not_so true h = absurd (h refl)
not_so false h = refl

-- ---- the last name, and those that are left

abbrev pub with_last : Option Term → List Term → List Term
with_last None names = names
with_last (Some name) names = name ∷ names

abbrev pub IsLast : Option Name → Option Term → Type 0
IsLast None None = Unit {0}
IsLast (Some name) (Some t) = Names name t
IsLast None (Some t) = ⊥
IsLast (Some name) None = ⊥

pub record Rises (t : Term) (rest : List ℕ) (ascend : Bool) (last : Option Name) (room count : ℕ) (bytes : List ℕ) : Type 0 where
  pub ends : EndsAlike group_of room count bytes (listed_of t) rest
  pub seen : Option Term
  pub is : IsLast last seen
  pub rises : ascend ≡ true → do_ascend (names_of_groups t) ≡ do_ascend (with_last seen (firsts ends.elements))
  pub falls : ascend ≡ false → are_plain (names_of_groups t) ≡ false
  pub atoms : list_all is_atom (names_of_groups t) ≡ true → list_all is_atom (with_last seen (firsts ends.elements)) ≡ true

pub at_start : (room : ℕ) (bytes : List ℕ) (t : Term) (rest : List ℕ) (last : Option Name) → last ≡ None → item_at room bytes ≡ Ok (t, rest) → kind_of t ≡ 5 → Rises t rest true last room 0 bytes
at_start room bytes t rest last none e five =
    let list = is_list room bytes t rest e five in
    let items : items_of t ≡ Some list.elements = ap items_of list.is ∙ items_is list.elements in
    let names : names_of_groups t ≡ firsts list.elements = ap (λ (o : Option (List Term)). firsts (all_in o)) items in
    record {
      ends = record { elements = list.elements; read = list.read; same = ap (λ (o : Option (List Term)). is_some (option_and_then (read_each group_of) o)) items };
      seen = None;
      is = subst (λ (o : Option Name). IsLast o None) (sym none) tt;
      rises = λ _. ap do_ascend names;
      falls = λ no. absurd cc;
      atoms = λ h. ap (list_all is_atom) (sym names) ∙ h;
    }

module _ (t : Term) (rest : List ℕ) (ascend : Bool) (last : Option Name) (room count : ℕ) (bytes : List ℕ) (before : Rises t rest ascend last room count bytes) where
  module _ (below more : ℕ) (from : List ℕ) (goes : ListGoesOn below more from before.ends.elements rest) (first : Term) (is : take 1 (all_in (items_of goes.first)) ≡ first ∷ []) where
    are : firsts before.ends.elements ≡ first ∷ firsts goes.others
    are = ap firsts goes.are ∙ ap (λ (ns : List Term). ns ++ firsts goes.others) is

    atoms_now : list_all is_atom (names_of_groups t) ≡ true → list_all is_atom (with_last before.seen (first ∷ firsts goes.others)) ≡ true
    atoms_now h = ap (λ (ns : List Term). list_all is_atom (with_last before.seen ns)) (sym are) ∙ before.atoms h

    atoms_left : (seen : Option Term) → list_all is_atom (with_last seen (first ∷ firsts goes.others)) ≡ true → list_all is_atom (first ∷ firsts goes.others) ≡ true
    atoms_left None h = h
    atoms_left (Some m) h = right (is_atom m) (list_all is_atom (first ∷ firsts goes.others)) h

    -- a name that is no atom
    pub not_plain : kind_of first ≢ 1 → are_plain (names_of_groups t) ≡ false
    not_plain other = not_so (are_plain (names_of_groups t))
        (λ plain.
        let all = atoms_left before.seen (atoms_now (left (list_all is_atom (names_of_groups t)) (do_ascend (names_of_groups t)) plain)) in
        other (eqb-true (kind_of first) 1 (left (is_atom first) (list_all is_atom (firsts goes.others)) all)))

    module _ (name : Name) (named : Names name first) (greater : Bool)
        (when_first : last ≡ None → greater ≡ true)
        (when_less : (b : Name) (x y : Term) → last ≡ Some b → Names b x → Names name y → greater ≡ true → term_cmp x y ≡ Less)
        (when_atoms : (b : Name) (x y : Term) → last ≡ Some b → Names b x → Names name y → kind_of x ≡ 1 → kind_of y ≡ 1 → greater ≡ is_less (term_cmp x y)) where
      step : (o : Option Name) (seen : Option Term) → last ≡ o → IsLast o seen → greater ≡ true → do_ascend (with_last seen (first ∷ firsts goes.others)) ≡ do_ascend (first ∷ firsts goes.others)
      step None None e i g = refl
      step (Some b) (Some m) e i g = ap (λ (c : Ordering). is_less c && do_ascend (first ∷ firsts goes.others)) (when_less b m first e i named g)
      step None (Some m) e i g = absurd i
      step (Some b) None e i g = absurd i

      -- atoms that do not rise
      fall : (o : Option Name) (seen : Option Term) → last ≡ o → IsLast o seen → greater ≡ false → list_all is_atom (with_last seen (first ∷ firsts goes.others)) ≡ true → do_ascend (with_last seen (first ∷ firsts goes.others)) ≡ false
      fall None None e i g all = let yes : greater ≡ true = when_first e in absurd cc
      fall (Some b) (Some m) e i g all =
          let one = eqb-true (kind_of m) 1 (left (is_atom m) (list_all is_atom (first ∷ firsts goes.others)) all) in
          let others = right (is_atom m) (list_all is_atom (first ∷ firsts goes.others)) all in
          let two = eqb-true (kind_of first) 1 (left (is_atom first) (list_all is_atom (firsts goes.others)) others) in
          ap (λ (less : Bool). less && do_ascend (first ∷ firsts goes.others)) (sym (when_atoms b m first e i named one two) ∙ g)
      fall None (Some m) e i g all = absurd i
      fall (Some b) None e i g all = absurd i

      now : ascend ≡ true → do_ascend (names_of_groups t) ≡ do_ascend (with_last before.seen (first ∷ firsts goes.others))
      now h = before.rises h ∙ ap (λ (ns : List Term). do_ascend (with_last before.seen ns)) are

      pub one_more : is_some (group_of goes.first) ≡ true → (behind : List ℕ) → goes.behind ≡ behind → (after : Bool) → after ≡ (ascend && greater) → (new : Option Name) → new ≡ Some name → Rises t rest after new below more behind
      one_more some behind ends after both new kept = record {
        ends = record {
          elements = goes.others;
          read = subst (λ (b : List ℕ). list_from below more b ≡ Ok (goes.others, rest)) ends goes.after;
          same = before.ends.same ∙ ap (λ (ts : List Term). is_some (read_each group_of ts)) goes.are ∙ behind_some group_of (group_of goes.first) (read_each group_of goes.others) some;
        };
        seen = Some first;
        is = subst (λ (o : Option Name). IsLast o (Some first)) (sym kept) named;
        rises = λ h.
            let yes : ascend && greater ≡ true = sym both ∙ h in
            now (left ascend greater yes) ∙ step last before.seen refl before.is (right ascend greater yes);
        falls = λ h. both_false ascend greater (sym both ∙ h) (are_plain (names_of_groups t) ≡ false) before.falls
            (λ yes no. not_so (are_plain (names_of_groups t))
            (λ plain.
            let all = left (list_all is_atom (names_of_groups t)) (do_ascend (names_of_groups t)) plain in
            let rose : do_ascend (names_of_groups t) ≡ true = right (list_all is_atom (names_of_groups t)) (do_ascend (names_of_groups t)) plain in
            let fell : do_ascend (names_of_groups t) ≡ false = now yes ∙ fall last before.seen refl before.is no (atoms_now all) in
            absurd cc));
        atoms = λ h. atoms_left before.seen (atoms_now h);
      }

  few : (seen : Option Term) → do_ascend (with_last seen []) ≡ true
  few None = refl
  few (Some m) = refl

  -- no more are left
  pub risen : before.ends.elements ≡ [] → ascend ≡ true → do_ascend (names_of_groups t) ≡ true
  risen none h = before.rises h ∙ ap (λ (ts : List Term). do_ascend (with_last before.seen (firsts ts))) none ∙ few before.seen

-- ---- groups whose names ascend

name_of : Term × List Pid → Term
name_of group = group.0

group_first : (t : Term) (g : Term × List Pid) → group_of t ≡ Some g → take 1 (all_in (items_of t)) ≡ g.0 ∷ []
group_first t g e = at (items_of t) e
  where
    at : (o : Option (List Term)) → option_and_then group_in o ≡ Some g → take 1 (all_in o) ≡ g.0 ∷ []
    at None h = absurd cc
    at (Some []) h = absurd cc
    at (Some (name ∷ others)) h = ap (λ (n : Term). n ∷ []) (sym (subst (IsNamed name) h (first_named name others)))

names_are : (ts : List Term) (gs : Groups) → read_each group_of ts ≡ Some gs → firsts ts ≡ map (λ g. g.0) gs
names_are [] gs e = let same : [] ≡ gs = cc in ap (map (λ g. g.0)) same
names_are (t ∷ ts) gs e =
    let p = parts (group_of t) (read_each group_of ts) gs e in
    (λ i. group_first t p.group p.is i ++ names_are ts p.later p.are i) ∙ sym (ap (map (λ g. g.0)) p.all)

ascend_alike : (gs : Groups) → is_ascending gs ≡ do_ascend (map (λ g. g.0) gs)
ascend_alike [] = refl
ascend_alike (g ∷ []) = refl
ascend_alike (g ∷ f ∷ gs) = ap (λ (b : Bool). is_less (term_cmp g.0 f.0) && b) (ascend_alike (f ∷ gs))

pub once : (t : Term) → do_ascend (names_of_groups t) ≡ true → is_some (listed_of t) ≡ true → is_some (groups_of t) ≡ true
once t rose some = at (items_of t) rose some
  where
    groups : (ts : List Term) (o : Option Groups) → read_each group_of ts ≡ o → do_ascend (firsts ts) ≡ true → is_some o ≡ true → is_some (option_and_then named_once o) ≡ true
    groups ts (Some gs) e h s = ap (λ (b : Bool). is_some (cond b (Some gs) None)) (ascending_once gs (ascend_alike gs ∙ ap do_ascend (sym (names_are ts gs e)) ∙ h))
    groups ts None e h s = absurd cc

    at : (o : Option (List Term)) → do_ascend (firsts (all_in o)) ≡ true → is_some (option_and_then (read_each group_of) o) ≡ true → is_some (option_and_then named_once (option_and_then (read_each group_of) o)) ≡ true
    at None h s = absurd cc
    at (Some ts) h s = groups ts (read_each group_of ts) refl h s

-- what is seen of them in the end
pub sees : (t : Term) (rest : List ℕ) (ascend : Bool) (last : Option Name) (room count : ℕ) (bytes : List ℕ) (before : Rises t rest ascend last room count bytes) → before.ends.elements ≡ [] → is_some (listed_of t) ≡ true → Sees {E = AllocError} t (Ok (Some ascend))
sees t rest true last room count bytes before none some = once t (risen t rest true last room count bytes before none refl) some
sees t rest false last room count bytes before none some = (some, before.falls refl)

pub sees_fault : (t : Term) (r : Result (Option Bool) AllocError) → IsErr r → are_plain (names_of_groups t) ≡ false → Sees t r
sees_fault t (Ok found) e plain = absurd cc
sees_fault t (Err fault) e plain = plain

-- and of groups whose names had to be kept
pub kept : (t : Term) (r : Result Bool AllocError) → is_some (listed_of t) ≡ true → are_plain (names_of_groups t) ≡ false
    → (r ≡ Ok false → groups_of t ≡ None) → (r ≡ Ok true → (gs : Groups) → listed_of t ≡ Some gs → is_named_once gs ≡ true) → Tells (names_of_groups t) (is_some (groups_of t)) r
kept t (Err e) some plain twice differ = plain
kept t (Ok false) some plain twice differ = sym (ap (λ (o : Option Groups). is_some o) (twice refl))
kept t (Ok true) some plain twice differ = sym (at (listed_of t) some (differ refl))
  where
    at : (o : Option Groups) → is_some o ≡ true → ((gs : Groups) → o ≡ Some gs → is_named_once gs ≡ true) → is_some (option_and_then named_once o) ≡ true
    at (Some gs) e why = ap (λ (b : Bool). is_some (cond b (Some gs) None)) (why gs refl)
    at None e why = absurd cc
