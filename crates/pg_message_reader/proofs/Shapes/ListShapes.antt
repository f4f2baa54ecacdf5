-- Lists that tell no groups, and no members, seen element by element.
use Rattle.std.proofs.Common.{◌≡◌, ◌≢◌, ℕ, Bool, true, false, cond, List, [], ◌∷◌, map, Option}
use Rattle.std.proofs.Common.{Some, None, Ok, Err, Bor, refl, sym, ap, subst, ◌∙◌, rules}
use Rattle.std.specs.Prelude.{is_some, MatchOption}
use Rattle.std.specs.Option.{option_map, option_and_then}
use Rattle.pg_term.specs.declared.fault.TermFault.{TermFault}
use Rattle.pg_term.specs.declared.pid.Pid.{Pid}
use Rattle.pg_term.specs.declared.term.Term.{Term, out-Term, the_lemmas}
use Rattle.pg_term.specs.declared.term.Term.TheOpen.{Term-F}
use Rattle.pg_term.specs.Order.{kind_step, kind_of}
use Rattle.pg_message_types.specs.PgTermIo.declared.element.NextElement.{NextElement}
use Rattle.pg_message_types.specs.PgTermIo.declared.element.NextElement.TheVariants.{End, Item, NoItem}
use Rattle.pg_message_types.specs.PgTermIo.Lists.{list_from, ListGoesOn, IsText, Continues}
use Rattle.pg_message_types.specs.PgTermIo.Numbers.{int_of}
use Rattle.pg_message_types.specs.PgTermIo.Reading.{Read, item_at}
use Rattle.pg_message_types.specs.PgTermIo.Scanning.{past}
use Rattle.pg_message_types.proofs.PgTermIo.Lists.{is_list}
use Rattle.pg_message_types.specs.Groups.{IsNamed}
use Rattle.pg_message_types.specs.Name.{is_name}
use Rattle.pg_message_types.specs.Parts.{items_of, pid_in, pid_of}
use Rattle.pg_message_types.specs.Reading.{read_each, group_in, group_of}
use Rattle.pg_message_types.proofs.ReadBack.{items_is}
use Rattle.pg_message_reader.specs.Shapes.Lists.{EndsAlike}
use Rattle.pg_message_reader.proofs.Shapes.Shapes.{no_items, none_if}

-- ---- what is no list

pub no_pid_kind : (t : Term) → kind_of t ≢ 3 → pid_of t ≡ None
no_pid_kind t other = at (out-Term t) other
  where
    at : (l : Term-F Term) → kind_step l ≢ 3 → pid_in l ≡ None
    at (Term-F.Pid p) h = absurd (h refl)
    at (Term-F.Int z) h = refl
    at (Term-F.Atom a) h = refl
    at (Term-F.Ref r) h = refl
    at (Term-F.Tuple ts) h = refl
    at (Term-F.List ts) h = refl
    at (Term-F.Binary content) h = refl

pub pid_kind : (t : Term) → kind_of t ≡ 3 → is_some (pid_of t) ≡ true
pid_kind t three = at (out-Term t) three
  where
    at : (l : Term-F Term) → kind_step l ≡ 3 → is_some (pid_in l) ≡ true
    at (Term-F.Pid p) h = refl
    at (Term-F.Int z) h = absurd cc
    at (Term-F.Atom a) h = absurd cc
    at (Term-F.Ref r) h = absurd cc
    at (Term-F.Tuple ts) h = absurd cc
    at (Term-F.List ts) h = absurd cc
    at (Term-F.Binary content) h = absurd cc

pub no_list : {A : Type 0} (follow : List Term → Option A) (t : Term) → kind_of t ≢ 5 → option_and_then follow (items_of t) ≡ None
no_list follow t other = ap (option_and_then follow) (no_items t other)

-- an element that is read has an end
pub has_end : {A : Type 0} (read : Read A) (a : A) (mid : List ℕ) (f : TermFault) → read ≡ Ok (a, mid) → past read ≡ Err f → ⊥
has_end read a mid f here ends = let k : past read ≡ Ok mid = ap past here in absurd cc

pub int_no_pid : (n : ℕ) → pid_of (int_of n) ≡ None
int_no_pid n = search (rules, the_lemmas)

int_no_items : (n : ℕ) → items_of (int_of n) ≡ None
int_no_items n = search (rules, the_lemmas)

pub int_no_group : (n : ℕ) → group_of (int_of n) ≡ None
int_no_group n = ap (option_and_then group_in) (int_no_items n)

-- ---- all elements of a list, each of which has to be something

pub is_nothing : {A : Type 0} (o : Option A) → is_some o ≡ false → o ≡ None
is_nothing None e = refl
is_nothing (Some x) e = absurd cc

module _ {A : Type 0} (each : Term → Option A) where
  first_none : (t : Term) (ts : List Term) → each t ≡ None → read_each each (t ∷ ts) ≡ None
  first_none t ts why = ap (option_and_then (λ x. option_map (λ xs. x ∷ xs) (read_each each ts))) why

  -- behind what is something
  pub behind_some : (o : Option A) (others : Option (List A)) → is_some o ≡ true → is_some (option_and_then (λ x. option_map (λ xs. x ∷ xs) others) o) ≡ is_some others
  behind_some (Some x) (Some xs) e = refl
  behind_some (Some x) None e = refl
  behind_some None others e = absurd cc

  pub at_first : (room : ℕ) (bytes : List ℕ) (t : Term) (rest : List ℕ) → item_at room bytes ≡ Ok (t, rest) → kind_of t ≡ 5 → EndsAlike each room 0 bytes (option_and_then (read_each each) (items_of t)) rest
  at_first room bytes t rest e five =
      let list = is_list room bytes t rest e five in
      record { elements = list.elements; read = list.read; same = ap (λ (t : Term). is_some (option_and_then (read_each each) (items_of t))) list.is ∙ ap (λ (o : Option (List Term)). is_some (option_and_then (read_each each) o)) (items_is list.elements) }

  module _ (whole : Option (List A)) (rest : List ℕ) (room count : ℕ) (left : List ℕ) (before : EndsAlike each room count left whole rest) where
    module _ (below more : ℕ) (bytes : List ℕ) (goes : ListGoesOn below more bytes before.elements rest) where
      pub no_first : each goes.first ≡ None → whole ≡ None
      no_first none = is_nothing whole (before.same ∙ ap (λ (ts : List Term). is_some (read_each each ts)) goes.are ∙ ap (λ (o : Option (List A)). is_some o) (first_none goes.first goes.others none))

      pub behind_first : is_some (each goes.first) ≡ true → (behind : List ℕ) → goes.behind ≡ behind → EndsAlike each below more behind whole rest
      behind_first some behind ends = record {
        elements = goes.others;
        read = subst (λ (b : List ℕ). list_from below more b ≡ Ok (goes.others, rest)) ends goes.after;
        same = before.same ∙ ap (λ (ts : List Term). is_some (read_each each ts)) goes.are ∙ behind_some (each goes.first) (read_each each goes.others) some;
      }

    pub no_text : ((n : ℕ) → each (int_of n) ≡ None) → IsText before.elements → whole ≡ None
    no_text none text = is_nothing whole (before.same ∙ ap (λ (ts : List Term). is_some (read_each each ts)) text.are ∙ ap (λ (o : Option (List A)). is_some o) (first_none (int_of text.first) (map int_of text.others) (none text.first)))

    pub over : before.elements ≡ [] → is_some whole ≡ true
    over none = before.same ∙ ap (λ (ts : List Term). is_some (read_each each ts)) none

-- ---- what is no pair of a name and members

pub no_members : (name members : Term) (others : List Term) → option_and_then (read_each pid_of) (items_of members) ≡ None → group_in (name ∷ members ∷ others) ≡ None
no_members name members [] none = none_if (is_name name) _ None (ap (option_map (λ pids. (name, pids))) none) refl
no_members name members (t ∷ ts) none = refl

pub no_name : (name : Term) (others : List Term) → is_name name ≡ false → group_in (name ∷ others) ≡ None
no_name name [] why = refl
no_name name (members ∷ []) why = ap (λ (b : Bool). cond b (option_map (λ pids. (name, pids)) (option_and_then (read_each pid_of) (items_of members))) None) why
no_name name (members ∷ t ∷ ts) why = refl

pub no_third : (name members : Term) (others : List Term) → others ≢ [] → group_in (name ∷ members ∷ others) ≡ None
no_third name members [] some = absurd (some refl)
no_third name members (t ∷ ts) some = refl

pub some_group : (name members : Term) → is_name name ≡ true → is_some (option_and_then (read_each pid_of) (items_of members)) ≡ true → is_some (group_in (name ∷ members ∷ [])) ≡ true
some_group name members named some =
    at (is_name name) (option_and_then (read_each pid_of) (items_of members)) named some
  where
    at : (b : Bool) (o : Option (List Pid)) → b ≡ true → is_some o ≡ true → is_some {T = Term × List Pid} (cond b (option_map (λ pids. (name, pids)) o) None) ≡ true
    at true (Some pids) h e = refl
    at true None h e = absurd cc
    at false o h e = absurd cc

-- integers alone
int_no_members : (n : ℕ) → option_and_then (read_each pid_of) (items_of (int_of n)) ≡ None
int_no_members n = ap (option_and_then (read_each pid_of)) (int_no_items n)

pub text_behind_name : (name : Term) (others : List Term) → IsText others → group_in (name ∷ others) ≡ None
text_behind_name name others text = ap (λ (ts : List Term). group_in (name ∷ ts)) text.are ∙ no_members name (int_of text.first) (map int_of text.others) (int_no_members text.first)

pub text_no_group : (ts : List Term) → IsText ts → group_in ts ≡ None
text_no_group ts text = ap group_in text.are ∙ at text.others
  where
    at : (others : List ℕ) → group_in (map int_of (text.first ∷ others)) ≡ None
    at [] = refl
    at (n ∷ others) = no_members (int_of text.first) (int_of n) (map int_of others) (int_no_members n)

-- what goes on with no item
abbrev pub NoItemNext : NextElement → Type 0
NoItemNext next = (a b : ℕ) (c : Bor (List ℕ)) → next ≡ Item a b c → ⊥

pub starts_nothing : (next : NextElement) (ts : List Term) (rest : List ℕ) → NoItemNext next → Continues next ts rest → group_in ts ≡ None
starts_nothing (End b) ts rest other goes = ap group_in goes.none
starts_nothing (Item a b c) ts rest other goes = absurd (other a b c refl)
starts_nothing NoItem ts rest other goes = text_no_group ts goes

pub ends_nothing : (name : Term) (next : NextElement) (ts : List Term) (rest : List ℕ) → NoItemNext next → Continues next ts rest → group_in (name ∷ ts) ≡ None
ends_nothing name (End b) ts rest other goes = ap (λ (ts : List Term). group_in (name ∷ ts)) goes.none
ends_nothing name (Item a b c) ts rest other goes = absurd (other a b c refl)
ends_nothing name NoItem ts rest other goes = text_behind_name name ts goes

-- what goes on is not over
pub goes_somewhere : (next : NextElement) (ts : List Term) (rest : List ℕ) → ((behind : Bor (List ℕ)) → next ≡ End behind → ⊥) → Continues next ts rest → ts ≢ []
goes_somewhere (End b) ts rest other goes e = absurd (other b refl)
goes_somewhere (Item a b c) ts rest other goes e = let k : [] ≡ goes.first ∷ goes.others = sym e ∙ goes.are in absurd cc
goes_somewhere NoItem ts rest other goes e = let k : [] ≡ int_of goes.first ∷ map int_of goes.others = sym e ∙ goes.are in absurd cc

-- a list that is read, which is a group where its elements are
pub record IsListed (room : ℕ) (bytes : List ℕ) (t : Term) (rest : List ℕ) : Type 0 where
  pub elements : List Term
  pub read : list_from room 0 bytes ≡ Ok (elements, rest)
  pub same : group_of t ≡ group_in elements
  pub items : items_of t ≡ Some elements

pub group_is : (room : ℕ) (bytes : List ℕ) (t : Term) (rest : List ℕ) → item_at room bytes ≡ Ok (t, rest) → kind_of t ≡ 5 → IsListed room bytes t rest
group_is room bytes t rest e five =
    let list = is_list room bytes t rest e five in
    record { elements = list.elements; read = list.read; same = ap group_of list.is ∙ ap (option_and_then group_in) (items_is list.elements); items = ap items_of list.is ∙ items_is list.elements }

-- what is told of what is found, and of what is not, for other reasons
pub told : {X : Type 0} (r : Option X) (P : X → Type 0) (Q : Type 0) {A B C : Type 0} → (A → B) → (Q → C) → MatchOption r A (λ x. P x × Q) → MatchOption r B (λ x. P x × C)
told None P Q f g h = f h
told (Some x) P Q f g h = (h.0, g h.1)

-- whether something was found tells a truth
pub matched : {X : Type 0} (o : Option X) (b : Bool) (P : X → Type 0) → MatchOption o (b ≡ false) P → ((x : X) → P x → b ≡ true) → is_some o ≡ b
matched (Some x) b P h proves = sym (proves x h)
matched None b P h proves = sym h

-- what is known of what was found, and of what was not
pub at_some : {X : Type 0} (r : Option X) (x : X) (A : Type 0) (P : X → Type 0) → r ≡ Some x → MatchOption r A P → P x
at_some {X = X} r x A P is h = subst (λ (o : Option X). MatchOption o A P) is h

pub at_none : {X : Type 0} (r : Option X) (A : Type 0) (P : X → Type 0) → r ≡ None → MatchOption r A P → A
at_none {X = X} r A P is h = subst (λ (o : Option X). MatchOption o A P) is h

-- a group has the first element for its name
pub first_named : (name : Term) (others : List Term) → IsNamed name (group_in (name ∷ others))
first_named name [] = tt
first_named name (members ∷ []) = at (is_name name) (option_and_then (read_each pid_of) (items_of members))
  where
    at : (b : Bool) (pids : Option (List Pid)) → IsNamed name (cond b (option_map (λ pids. (name, pids)) pids) None)
    at true (Some pids) = refl
    at true None = tt
    at false pids = tt
first_named name (members ∷ t ∷ ts) = tt
