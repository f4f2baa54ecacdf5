-- What a mirror makes of what it is told.
use Rattle.std.proofs.Common.{◌≡◌, ◌∷◌, ◌++◌, ◌∙◌, ◌+◌, ◌-◌, ◌<◌, ◌≤◌, ◌^◌, [], List, ℕ, pos, inl, inr, Bool, true, false, cond, map, take, length, get_or, Option, Some, None, Result, Ok, Err, refl, sym, ap, subst, append-nil, arith, rules, min, lt-ltb, nat_lt}
use Rattle.std.specs.Prelude.{◌&&◌, ◌||◌, OnOk, OnErr, IfSome, IsOk, IsSome, is_some, unwrap_or, count_by, slice_get, if◌then◌else◌}
use Rattle.std.specs.List.{filter, flat_map, list_any}
use Rattle.std.proofs.Math.Path.{fun_ext}
use Rattle.std.proofs.lemmas.List.{take-append-le, take_all, take_more, map-append}
use Rattle.std.proofs.lemmas.List.Folds.{list_any-append}
use Rattle.std.proofs.lemmas.List.Elements.{filter_more}
use Rattle.std.proofs.lemmas.Option.{slice_get_within, get_or_from_slice_get}
use Rattle.pg_term.proofs.Same.{same_term as term_is, pid_is as same_is}
use Rattle.pg_term.specs.Same.{same_pid, same_term}
use Rattle.pg_term.specs.contracts.pid.PidEq.TheImpl.Laws as pid_laws
use Rattle.pg_term.specs.contracts.term.TermEq.TheImpl.Laws as term_laws
use Rattle.pg_term.specs.declared.pid.Pid.{Pid}
use Rattle.pg_term.specs.declared.term.Term.{Term, List as Listed, the_lemmas}
use Rattle.pg_term.specs.declared.term.Term.TheVariants.{Int, Pid as Process}
use Rattle.pg_step.proofs.PgGroup.Changes.{upd_at}
use Rattle.pg_step.proofs.PgGroup.Lists.{counted_first}
use Rattle.pg_step.proofs.PgGroup.Maps.{table_kept, join_refused}
use Rattle.pg_step.proofs.PgMessageTypes.ReadBack.{elements_is, items_is}
use Rattle.pg_step.specs.PgGroup.Functions.{upd}
use Rattle.pg_step.specs.PgGroup.Members.{IsMemberList}
use Rattle.pg_step.specs.PgGroup.Scope.{anywhere}
use Rattle.pg_step.specs.PgGroup.Table.{AreNames, Table, changed, without}
use Rattle.pg_step.specs.PgGroup.Value.{Counts, Value, apply, count_in, less, listed}
use Rattle.pg_step.specs.PgGroup.declared.update.Update.{Update}
use Rattle.pg_step.specs.PgGroup.declared.update.Update.TheVariants.{Create, Delete, Join, Leave}
use Rattle.pg_step.specs.PgMessageTypes.Parts.{pid_of}
use Rattle.pg_node_requests.specs.Requests.{number_of}
use Rattle.pg_node_process.proofs.Gathered.{adds_then, longer_by}
use Rattle.pg_node_process.specs.Mirrors.{Adds, AreGroupsOf, IsLonger, OnlyThese, RowsOf, SaysOne, SaysRows, SaysTable, SaysUpdate, TellsOf, TellsUpdate, all_assigned, assigned, assignments, before_pids, count_told, counted_so, entry, entry_assigned, gone, has_joined, no_groups, parts_assigned, patched, pids_in, row, row_assigned, told_of}
use Rattle.pg_node_process.specs.Outputs.{Mirrored, Output, Says, said}

-- ---- what an assignment makes of a table

assigned_then : (xs ys : List Term) (table : Table) → all_assigned (xs ++ ys) table ≡ all_assigned ys (all_assigned xs table)
assigned_then [] ys table = refl
assigned_then (x ∷ xs) ys table = assigned_then xs ys (assigned x table)

gone_is : (name : Term) (table : Table) → assigned (gone name) table ≡ upd same_term table name None
gone_is name table = ap (λ (o : Option (List Term)). parts_assigned o table) (elements_is (name ∷ []))

process_is : (pid : Pid) → pid_of (Process pid) ≡ Some pid
process_is pid = search (rules, the_lemmas)

pids_back : (pids : List Pid) → pids_in (map Process pids) ≡ pids
pids_back [] = refl
pids_back (pid ∷ pids) = ap (λ (o : Option Pid). before_pids o (pids_in (map Process pids))) (process_is pid) ∙ ap (λ (others : List Pid). pid ∷ others) (pids_back pids)

row_is : (name : Term) (pids : List Pid) (table : Table) → assigned (row name pids) table ≡ upd same_term table name (listed pids)
row_is name pids table =
    ap (λ (o : Option (List Term)). parts_assigned o table) (elements_is (name ∷ Listed (map Process pids) ∷ []))
    ∙ ap (λ (o : Option (List Term)). row_assigned name o table) (items_is (map Process pids))
    ∙ ap (λ (members : List Pid). upd same_term table name (listed members)) (pids_back pids)

number_is : (count : ℕ) → number_of 63 (Int (pos count)) ≡ (if nat_lt count (2 ^ 63) then Some count else None)
number_is count = search (rules, the_lemmas)

count_is : (count : ℕ) → count < 2 ^ 63 → number_of 63 (Int (pos count)) ≡ Some count
count_is count few = number_is count ∙ ap (λ (b : Bool). cond b (Some count) None) (lt-ltb count (2 ^ 63) few)

entry_is : (name : Term) (pid : Pid) (count : ℕ) (table : Table) → count < 2 ^ 63 → assigned (entry name pid count) table ≡ upd same_term table name (counted_so (table name) pid count)
entry_is name pid count table few =
    ap (λ (o : Option (List Term)). parts_assigned o table) (elements_is (name ∷ Process pid ∷ Int (pos count) ∷ []))
    ∙ (λ i. entry_assigned name (process_is pid i) (count_is count few i) table)

-- ---- rows of groups

by_name : (name x : Term) (v w : Value) (after : Table) → after name ≡ v → cond (same_term name x) v w ≡ cond (list_any (same_term x) (name ∷ [])) (after x) w
by_name name x v w after is = go (same_term name x) refl (term_laws.laws-law.symm name x)
  where
    go : (b : Bool) → same_term name x ≡ b → b ≡ same_term x name → cond b v w ≡ cond (list_any (same_term x) (name ∷ [])) (after x) w
    go true same flipped = sym is ∙ ap after (term_is name x same) ∙ (λ i. cond (list_any (λ (y : Term). flipped i) (name ∷ [])) (after x) w)
    go false same flipped = (λ i. cond (list_any (λ (y : Term). flipped i) (name ∷ [])) (after x) w)

-- one group is made what it is in another table
one_row : (name : Term) (v : Value) (after before : Table) → after name ≡ v → upd same_term before name v ≡ patched (name ∷ []) after before
unfolding upd
one_row name v after before is = fun_ext (λ x. by_name name x v (before x) after is)

members_listed : (v : Value) (pids : List Pid) → IsMemberList v anywhere pids → IsSome v → v ≡ listed pids
members_listed None pids is there = absurd cc
members_listed (Some counts) pids is there = ap Some (fun_ext (λ pid. sym (is.each pid)))

none_there : (v : Value) → (IsSome v → ⊥) → v ≡ None
none_there None absent = refl
none_there (Some counts) absent = absurd (absent refl)

pub gone_row : (name : Term) (after : Table) → (IsSome (after name) → ⊥) → RowsOf (name ∷ []) after (gone name ∷ [])
gone_row name after absent before = gone_is name before ∙ one_row name None after before (none_there (after name) absent)

pub member_row : (name : Term) (pids : List Pid) (after : Table) → IsMemberList (after name) anywhere pids → IsSome (after name) → RowsOf (name ∷ []) after (row name pids ∷ [])
member_row name pids after is there before = row_is name pids before ∙ one_row name (listed pids) after before (members_listed (after name) pids is there)

either : (a b : Bool) (v w : Value) → cond b v (cond a v w) ≡ cond (a || b) v w
either true true v w = refl
either true false v w = refl
either false b v w = refl

rows_then : (xs ys : List Term) (after : Table) (a b : List Term) → RowsOf xs after a → RowsOf ys after b → RowsOf (xs ++ ys) after (a ++ b)
rows_then xs ys after a b g h before =
    assigned_then a b before ∙ ap (all_assigned b) (g before) ∙ h (patched xs after before)
    ∙ fun_ext (λ x. either (list_any (same_term x) xs) (list_any (same_term x) ys) (after x) (before x) ∙ ap (λ (b : Bool). cond b (after x) (before x)) (sym (list_any-append (same_term x) xs ys)))

-- the group is told by one term
pub told_group : {E : Type 0} (added : Result (Unit {0}) E) (name term : Term) (after : Table) (said0 said1 : List ℕ) (a b : List Term) → RowsOf (name ∷ []) after (term ∷ []) → OnOk added (Adds (term ∷ []) said0 said1 a b)
    → OnOk added ((terms : List Term) × Adds terms said0 said1 a b × RowsOf (name ∷ []) after terms)
told_group (Ok done) name term after said0 said1 a b rows adds = (term ∷ [], adds, rows)
told_group (Err fault) name term after said0 said1 a b rows adds = tt

-- the rows of these groups are said, or wait to be said
abbrev pub AddsRows : List Term → Table → List ℕ → List ℕ → List Term → List Term → Type 0
AddsRows names after said0 said1 a b = (terms : List Term) × Adds terms said0 said1 a b × RowsOf names after terms

pub no_rows : (after : Table) → RowsOf [] after []
no_rows after before = refl

rows_next : (names more whole : List Term) (after : Table) (said0 said1 said2 : List ℕ) (a b c : List Term) → whole ≡ names ++ more → AddsRows names after said0 said1 a b → AddsRows more after said1 said2 b c → AddsRows whole after said0 said2 a c
rows_next names more whole after said0 said1 said2 a b c is g h =
    subst (λ (l : List Term). AddsRows l after said0 said2 a c) (sym is) (g.0 ++ h.0, adds_then g.0 h.0 said0 said1 said2 a b c g.1 h.1, rows_then names more after g.0 h.0 g.2 h.2)

-- the group at the next place
pub place_next : (names : List Term) (i : ℕ) (name : Term) (after : Table) (said0 said1 said2 : List ℕ) (a b c : List Term) → slice_get names i ≡ Some name → AddsRows (take i names) after said0 said1 a b → AddsRows (name ∷ []) after said1 said2 b c
    → AddsRows (take (i + 1) names) after said0 said2 a c
place_next names i name after said0 said1 said2 a b c at =
    rows_next (take i names) (name ∷ []) (take (i + 1) names) after said0 said1 said2 a b c (take_more names i name (slice_get_within names i name at) ∙ ap (λ (n : Term). take i names ++ n ∷ []) (get_or_from_slice_get names i name name at))

map_next : {A : Type 0} (f : A → Term) (xs : List A) (i : ℕ) (x : A) → i < length xs → x ≡ get_or xs i x → map f (take (i + 1) xs) ≡ map f (take i xs) ++ f x ∷ []
map_next f xs i x low is = ap (map f) (take_more xs i x low) ∙ map-append f (take i xs) (get_or xs i x ∷ []) ∙ ap (λ (y : _). map f (take i xs) ++ f y ∷ []) (sym is)

-- the next group of a list
pub group_next : {A : Type 0} (f : A → Term) (xs : List A) (i : ℕ) (x : A) (after : Table) (said0 said1 said2 : List ℕ) (a b c : List Term) → i < length xs → x ≡ get_or xs i x → AddsRows (map f (take i xs)) after said0 said1 a b → AddsRows (f x ∷ []) after said1 said2 b c
    → AddsRows (map f (take (i + 1) xs)) after said0 said2 a c
group_next f xs i x after said0 said1 said2 a b c low is = rows_next (map f (take i xs)) (f x ∷ []) (map f (take (i + 1) xs)) after said0 said1 said2 a b c (map_next f xs i x low is)

-- the group of the next name
pub name_next : (xs : List Term) (i : ℕ) (x : Term) (after : Table) (said0 said1 said2 : List ℕ) (a b c : List Term) → i < length xs → x ≡ get_or xs i x → AddsRows (take i xs) after said0 said1 a b → AddsRows (x ∷ []) after said1 said2 b c
    → AddsRows (take (i + 1) xs) after said0 said2 a c
name_next xs i x after said0 said1 said2 a b c low is = rows_next (take i xs) (x ∷ []) (take (i + 1) xs) after said0 said1 said2 a b c (take_more xs i x low ∙ ap (λ (y : Term). take i xs ++ y ∷ []) (sym is))

kept : (b : Bool) (v w : Value) → (b ≡ false → v ≡ w) → cond b v w ≡ v
kept true v w same = refl
kept false v w same = sym (same refl)

-- no other group is another
pub rows_all : (names : List Term) (before after : Table) → OnlyThese names before after → patched names after before ≡ after
rows_all names before after only = fun_ext (λ x. kept (list_any (same_term x) names) (after x) (before x) (only x))

absent_none : (v : Value) → is_some v ≡ false → v ≡ None
absent_none None absent = refl
absent_none (Some counts) absent = absurd cc

-- the groups of a table are those that a host tells who knows of none
pub only_names : (names : List Term) (after : Table) → AreNames after names → OnlyThese names no_groups after
only_names names after are x none = absent_none (after x) (sym (are.each x) ∙ none)

-- all places were visited
pub rows_whole : (names : List Term) (i : ℕ) (after : Table) (said0 said1 : List ℕ) (a b : List Term) → AreNames after names → length names ≤ i → AddsRows (take i names) after said0 said1 a b
    → (terms : List Term) × Adds terms said0 said1 a b × (all_assigned terms no_groups ≡ after)
rows_whole names i after said0 said1 a b are all g = (
  g.0,
  g.1,
  g.2 no_groups ∙ ap (λ (l : List Term). patched l after no_groups) (take_all i names all) ∙ rows_all names no_groups after (only_names names after are),
)

-- ---- what is said at last

take_front : (xs more : List ℕ) → take (length xs) (xs ++ more) ≡ xs
take_front xs more = take-append-le (length xs) xs more (omega arith) ∙ take_all (length xs) xs (omega arith)

-- the assignments that were gathered make the one table of the other
pub says_table : (terms : List Term) (before after : Table) (said0 said1 : List ℕ) → Adds terms said0 said1 [] [] → all_assigned terms before ≡ after → (outputs : List Output) × SaysTable before after said0 said1 outputs
says_table terms before after said0 said1 g makes = (
  g.outputs,
  record {
    tells = (g.alone, ap (λ (ts : List Term). all_assigned ts before) (sym (append-nil (flat_map assignments g.outputs)) ∙ g.told) ∙ makes);
    framed = g.framed;
    gathered = g.gathered;
  },
)

-- the rows that were gathered are told, whatever the host has
pub says_rows : (terms names : List Term) (after : Table) (said0 said1 : List ℕ) → Adds terms said0 said1 [] [] → RowsOf names after terms → (outputs : List Output) × SaysRows names after said0 said1 outputs
says_rows terms names after said0 said1 g rows = (
  g.outputs,
  record {
    alone = g.alone;
    rows = λ before. ap (λ (ts : List Term). all_assigned ts before) (sym (append-nil (flat_map assignments g.outputs)) ∙ g.told) ∙ rows before;
    framed = g.framed;
    gathered = g.gathered;
  },
)

-- where no other group is another, who had the one table has the other
pub rows_table : (names : List Term) (before after : Table) (said0 said1 : List ℕ) (outputs : List Output) → SaysRows names after said0 said1 outputs → OnlyThese names before after → SaysTable before after said0 said1 outputs
rows_table names before after said0 said1 outputs g only = record { tells = (g.alone, g.rows before ∙ rows_all names before after only); framed = g.framed; gathered = g.gathered }

pub longer_ok : {E : Type 0} (added : Result (Unit {0}) E) (said0 said1 : List ℕ) (a b : List Term) (P : List Term → Type 0) → OnOk added ((terms : List Term) × Adds terms said0 said1 a b × P terms) → OnOk added (IsLonger said0 said1)
longer_ok (Ok done) said0 said1 a b P g = longer_by g.1
longer_ok (Err fault) said0 said1 a b P g = tt

-- what was said behind so many bytes is let go
pub cut_back : {E F : Type 0} (added : Result (Unit {0}) E) (finished : Result (Unit {0}) F) (said0 said1 said2 : List ℕ) (len : ℕ) → len ≡ length said0 → OnOk added (IsLonger said0 said1) → OnErr added (IsLonger said0 said1)
    → OnErr finished (said2 ≡ take len said1) → OnErr finished (said2 ≡ said0)
cut_back added (Ok done) said0 said1 said2 len size g h cut = tt
cut_back (Ok done) (Err fault) said0 said1 said2 len size g h cut = cut ∙ (λ i. take (size i) (g.longer i)) ∙ take_front said0 g.more
cut_back (Err before) (Err fault) said0 said1 said2 len size g h cut = cut ∙ (λ i. take (size i) (h.longer i)) ∙ take_front said0 h.more

-- what was added is said
pub finished_all : {E F : Type 0} (added : Result (Unit {0}) E) (finished : Result (Unit {0}) F) (said0 said1 said2 : List ℕ) (start waiting : List Term) (P : List Term → Type 0) (Q : Type 0) → start ≡ []
    → OnOk added ((terms : List Term) × Adds terms said0 said1 start waiting × P terms)
    → OnOk finished ((terms : List Term) (before : List ℕ) → OnOk added (Adds terms before said1 [] waiting) → Adds terms before said2 [] []) → OnOk finished (IsOk added)
    → ((terms : List Term) → Adds terms said0 said2 [] [] → P terms → Q) → OnOk finished Q
finished_all (Ok done) (Ok last) said0 said1 said2 start waiting P Q empty g says was so = so g.0 (says g.0 said0 (subst (λ (l : List Term). Adds g.0 said0 said1 l waiting) empty g.1)) g.2
finished_all (Err before) (Ok last) said0 said1 said2 start waiting P Q empty g says was so = absurd cc
finished_all added (Err fault) said0 said1 said2 start waiting P Q empty g says was so = tt

-- ---- the end of a process

module _ (pid : Pid) where
  uncounted : (counts : Counts) (q : Pid) → counts pid ≡ 0 → counts q ≡ cond (same_pid pid q) 0 (counts q)
  uncounted counts q none = go (same_pid pid q) refl
    where
      go : (b : Bool) → same_pid pid q ≡ b → counts q ≡ cond b 0 (counts q)
      go true same = ap counts (sym (same_is pid q same)) ∙ none
      go false same = refl

  no_member : (v : Value) → count_in v pid ≡ 0 → v ≡ less v (same_pid pid)
  no_member None none = refl
  no_member (Some counts) none = ap Some (fun_ext (λ q. uncounted counts q none))

  none_counted : (n : ℕ) → nat_lt 0 n ≡ false → n ≡ 0
  none_counted n none = grind (arith, none)

  -- a group of which it was no member is as it was
  pub left_only : (names : List Term) (before after : Table) → AreGroupsOf before pid names → after ≡ without before pid → OnlyThese names before after
  left_only names before after are is x other = (λ i. is i x) ∙ sym (no_member (before x) (none_counted (count_in (before x) pid) (sym (are x) ∙ other)))

  -- ---- the groups of a process

  abbrev has_pid : Table → Term → Bool
  has_pid table name = nat_lt 0 (count_in (table name) pid)

  found_once : (table : Table) (x name : Term) (rest : Bool) (p : Bool) → has_pid table name ≡ p → (rest && has_pid table x) ≡ (rest && has_pid table x) → cond p (same_term x name || (rest && has_pid table x)) (rest && has_pid table x) ≡ ((same_term x name || rest) && has_pid table x)
  found_once table x name rest p has same = go (same_term x name) refl p has
    where
      go : (b : Bool) → same_term x name ≡ b → (p : Bool) → has_pid table name ≡ p → cond p (b || (rest && has_pid table x)) (rest && has_pid table x) ≡ ((b || rest) && has_pid table x)
      go true one true has = sym (ap (has_pid table) (term_is x name one) ∙ has)
      go true one false has = both rest (has_pid table x) (ap (has_pid table) (term_is x name one) ∙ has) ∙ sym (ap (has_pid table) (term_is x name one) ∙ has)
        where
          both : (r h : Bool) → h ≡ false → (r && h) ≡ false
          both true h e = e
          both false h e = refl
      go false one true has = refl
      go false one false has = refl

  any_cond : (x name : Term) (p : Bool) (rest : List Term) → list_any (same_term x) (cond p (name ∷ rest) rest) ≡ cond p (same_term x name || list_any (same_term x) rest) (list_any (same_term x) rest)
  any_cond x name true rest = refl
  any_cond x name false rest = refl

  found : (table : Table) (names : List Term) (x : Term) → list_any (same_term x) (filter (has_pid table) names) ≡ (list_any (same_term x) names && has_pid table x)
  found table [] x = refl
  found table (name ∷ names) x =
      any_cond x name (has_pid table name) (filter (has_pid table) names)
      ∙ ap (λ (b : Bool). cond (has_pid table name) (same_term x name || b) b) (found table names x)
      ∙ found_once table x name (list_any (same_term x) names) (has_pid table name) refl refl

  there_if : (v : Value) → (is_some v && nat_lt 0 (count_in v pid)) ≡ nat_lt 0 (count_in v pid)
  there_if None = refl
  there_if (Some counts) = refl

  -- those of all groups in which it counts
  groups_of : (table : Table) (names : List Term) → AreNames table names → AreGroupsOf table pid (filter (λ name. nat_lt 0 (count_in (table name) pid)) names)
  groups_of table names are x = found table names x ∙ ap (λ (b : Bool). b && has_pid table x) (are.each x) ∙ there_if (table x)

  pub groups_whole : (table : Table) (names those : List Term) (i : ℕ) → AreNames table names → length names ≤ i → those ≡ filter (λ name. nat_lt 0 (count_in (table name) pid)) (take i names) → AreGroupsOf table pid those
  groups_whole table names those i are all is =
      subst (AreGroupsOf table pid) (sym (is ∙ ap (filter (λ name. nat_lt 0 (count_in (table name) pid))) (take_all i names all))) (groups_of table names are)

  -- the group at the next place has the process or has it not
  group_found : (table : Table) (names : List Term) (i : ℕ) (name : Term) (b : Bool) → slice_get names i ≡ Some name → has_pid table name ≡ b
      → filter (λ name. nat_lt 0 (count_in (table name) pid)) (take (i + 1) names) ≡ filter (λ name. nat_lt 0 (count_in (table name) pid)) (take i names) ++ cond b (name ∷ []) []
  group_found table names i name b at has =
      filter_more (has_pid table) names i name (slice_get_within names i name at)
      ∙ ap (λ (n : Term). filter (has_pid table) (take i names) ++ cond (has_pid table n) (n ∷ []) []) (get_or_from_slice_get names i name name at)
      ∙ ap (λ (c : Bool). filter (has_pid table) (take i names) ++ cond c (name ∷ []) []) has

  pub group_put : (table : Table) (names : List Term) (i : ℕ) (name : Term) (count : ℕ) (old new : List Term) → slice_get names i ≡ Some name → count ≡ count_in (table name) pid → 0 < count
      → old ≡ filter (λ name. nat_lt 0 (count_in (table name) pid)) (take i names) → new ≡ old ++ name ∷ [] → new ≡ filter (λ name. nat_lt 0 (count_in (table name) pid)) (take (i + 1) names)
  group_put table names i name count old new at counted some so_far more =
      more ∙ ap (λ (l : List Term). l ++ name ∷ []) so_far ∙ sym (group_found table names i name true at (ap (nat_lt 0) (sym counted) ∙ lt-ltb 0 count some))

  pub group_left : (table : Table) (names : List Term) (i : ℕ) (name : Term) (count : ℕ) (old new : List Term) → slice_get names i ≡ Some name → count ≡ count_in (table name) pid → count ≤ 0
      → old ≡ filter (λ name. nat_lt 0 (count_in (table name) pid)) (take i names) → new ≡ old → new ≡ filter (λ name. nat_lt 0 (count_in (table name) pid)) (take (i + 1) names)
  group_left table names i name count old new at counted none so_far same =
      let zero_is : count ≡ 0 = omega (arith, none) in
      same ∙ so_far ∙ sym (append-nil (filter (has_pid table) (take i names))) ∙ sym (group_found table names i name false at (ap (nat_lt 0) (sym counted ∙ zero_is)))

-- ---- updates

module _ (name : Term) (before after : Table) where
  -- what stands in the group behind a change of it
  stands : (v : Value) → after ≡ upd same_term before name v → after name ≡ v
  stands v is = ap (λ (t : Table). t name) is ∙ upd_at same_term before name v (term_laws.laws-law.refl name)

  pub stays : (v : Value) → after ≡ upd same_term before name v → v ≡ before name → before ≡ after
  stays v is same = table_kept before name v same ∙ sym is

  no_pids : (pids : List Pid) (n : ℕ) → n ≡ 0 → n ≡ min (length pids) 18446744073709551615 → pids ≡ []
  no_pids [] n none is = refl
  no_pids (pid ∷ pids) n none is = let never : ⊥ = omega (arith, none, is) in absurd never

  -- a group of the size 0 is told by a row of nobody
  pub created : after ≡ upd same_term before name (apply (before name) (Create name)) → IsSome (after name) → (pids : List Pid) → IsMemberList (after name) anywhere pids → 0 ≡ min (length pids) 18446744073709551615
      → assigned (row name []) before ≡ after
  created is there pids members size =
      let v = apply (before name) (Create name) in
      row_is name [] before
      ∙ ap (upd same_term before name) (sym (members_listed (after name) [] (subst (λ (l : List Pid). IsMemberList (after name) anywhere l) (no_pids pids 0 refl size) members) there) ∙ stands v is)
      ∙ sym is

  made_empty : (v : Value) (pids : List Pid) → IsMemberList (apply v (Create name)) anywhere pids → (length pids ≡ 0 → ⊥) → apply v (Create name) ≡ v
  made_empty (Some counts) pids members some = refl
  made_empty None [] members some = absurd (some refl)
  made_empty None (pid ∷ pids) members some =
      let none : count_by (same_pid pid) (pid ∷ pids) ≡ 0 = members.each pid in
      let never : ⊥ = omega (arith, none, counted_first pid pids) in absurd never

  always_there : (w : Value) → IsSome (apply w (Create name))
  always_there None = refl
  always_there (Some counts) = refl

  -- a group that has members, or is there already, stays as it is
  pub created_before : (size : Option ℕ) → after ≡ upd same_term before name (apply (before name) (Create name)) → (IsSome (after name) → IsSome size)
      → IfSome size (λ n. (pids : List Pid) × (IsMemberList (after name) anywhere pids × (n ≡ min (length pids) 18446744073709551615))) → (size ≡ Some 0 → ⊥) → before ≡ after
  created_before None is there sized some = absurd (none_some (there (subst (λ (w : Value). IsSome w) (sym (stands (apply (before name) (Create name)) is)) (always_there (before name)))))
    where
      none_some : IsSome {T = ℕ} None → ⊥
      none_some e = absurd cc
  created_before (Some n) is there (pids, (members, size)) some =
      stays (apply (before name) (Create name)) is
      (made_empty (before name) pids (subst (λ (w : Value). IsMemberList w anywhere pids) (stands (apply (before name) (Create name)) is) members)
      (λ empty. some (ap Some (size ∙ ap (λ (m : ℕ). min m 18446744073709551615) empty))))

  module _ (pid : Pid) (more : ℕ → ℕ) where
    -- a group in which the count of the process is another
    abbrev pub stepped : Value → Value
    stepped None = None
    stepped (Some counts) = Some (upd same_pid counts pid (more (counts pid)))

    none_stepped : (w : Value) → stepped w ≡ None → stepped w ≡ w
    none_stepped None none = refl
    none_stepped (Some counts) none = absurd cc

    step_told : (w : Value) (counts : Counts) → stepped w ≡ Some counts → counted_so w pid (counts pid) ≡ stepped w
    step_told None counts is = absurd cc
    step_told (Some old) counts is =
        let one : upd same_pid old pid (more (old pid)) ≡ counts = cc in
        let count : more (old pid) ≡ counts pid = sym (upd_at same_pid old pid (more (old pid)) (pid_laws.laws-law.refl pid)) ∙ ap (λ (c : Counts). c pid) one in
        ap (λ (n : ℕ). Some (upd same_pid old pid n)) (sym count)

    pub tells_count : (update : Update) (told : Option Term) → ((count : ℕ) → entry name pid count ≡ told_of update count) → after ≡ upd same_term before name (stepped (before name)) → told ≡ count_told (after name) name pid
        → IfSome told (λ term. count_in (after name) pid < 2 ^ 63) → TellsOf update before after told
    tells_count update told tell is told_is few = subst (TellsOf update before after) (sym told_is) (go (after name) refl (subst (λ (o : Option Term). IfSome o (λ term. count_in (after name) pid < 2 ^ 63)) told_is few))
      where
        go : (v : Value) → after name ≡ v → IfSome (count_told v name pid) (λ term. count_in (after name) pid < 2 ^ 63) → TellsOf update before after (count_told v name pid)
        go None e few = stays (stepped (before name)) is (none_stepped (before name) (sym (stands (stepped (before name)) is) ∙ e))
        go (Some counts) e few = (
          entry_is name pid (counts pid) before (subst (λ (w : Value). count_in w pid < 2 ^ 63) e few)
              ∙ ap (upd same_term before name) (step_told (before name) counts (sym (stands (stepped (before name)) is) ∙ e)) ∙ sym is,
          counts pid,
          tell (counts pid),
        )

-- ---- what is told of an update

pub tells_created : (name term : Term) (before after : Table) (size : Option ℕ) → size ≡ Some 0 → (IsSome size → IsSome (after name))
    → IfSome size (λ n. (pids : List Pid) × (IsMemberList (after name) anywhere pids × (n ≡ min (length pids) 18446744073709551615)))
    → term ≡ row name [] → after ≡ upd same_term before name (apply (before name) (Create name)) → TellsOf (Create name) before after (Some term)
tells_created name term before after size least_is there sized told is =
    let least = subst (λ (o : Option ℕ). IfSome o (λ n. (pids : List Pid) × (IsMemberList (after name) anywhere pids × (n ≡ min (length pids) 18446744073709551615)))) least_is sized in (
      ap (λ (t : Term). assigned t before) told ∙ created name before after is (there (ap is_some least_is)) least.0 least.1.0 least.1.1,
      0,
      told,
    )

pub join_ended : (name : Term) (pid : Pid) (before after : Table) (ended : Pid → Bool) → after ≡ changed before (Join name pid) ended → ended pid ≡ true → before ≡ after
join_ended name pid before after ended is so = join_refused before name pid ended so ∙ sym is

joins : (name : Term) (before after : Table) (pid : Pid) (v : Value) → apply v (Join name pid) ≡ stepped name before after pid (λ n. n + 1) v
joins name before after pid None = refl
joins name before after pid (Some counts) = refl

leaves : (name : Term) (before after : Table) (pid : Pid) (v : Value) → apply v (Leave name pid) ≡ stepped name before after pid (λ n. n - 1) v
leaves name before after pid None = refl
leaves name before after pid (Some counts) = refl

tells_joined : (name : Term) (pid : Pid) (after : Table) (joined : Bool) → joined ≡ false → IfSome (count_told (after name) name pid) (λ term. count_in (after name) pid < 2 ^ 63)
    → (before : Table) (ended : Pid → Bool) → after ≡ changed before (Join name pid) ended → has_joined (Join name pid) ended ≡ joined → TellsOf (Join name pid) before after (count_told (after name) name pid)
tells_joined name pid after joined lives few before ended makes so =
    tells_count name before after pid (λ n. n + 1) (Join name pid) (count_told (after name) name pid) (λ count. refl)
    (makes ∙ ap (λ (b : Bool). upd same_term before name (cond b (before name) (apply (before name) (Join name pid)))) (so ∙ lives) ∙ ap (upd same_term before name) (joins name before after pid (before name))) refl few

tells_left : (name : Term) (pid : Pid) (after : Table) → IfSome (count_told (after name) name pid) (λ term. count_in (after name) pid < 2 ^ 63)
    → (before : Table) (ended : Pid → Bool) → after ≡ changed before (Leave name pid) ended → TellsOf (Leave name pid) before after (count_told (after name) name pid)
tells_left name pid after few before ended makes =
    tells_count name before after pid (λ n. n - 1) (Leave name pid) (count_told (after name) name pid) (λ count. refl) (makes ∙ ap (upd same_term before name) (leaves name before after pid (before name))) refl few

-- nothing is told of what stays as it is
pub stays_untold : (update : Update) (before after : Table) (said0 said1 : List ℕ) → said1 ≡ said0 → before ≡ after → (outputs : List Output) × SaysTable before after said0 said1 outputs × TellsUpdate (Some update) outputs
stays_untold update before after said0 said1 same is = ([], record { tells = (tt, is); framed = tt; gathered = same ∙ sym (append-nil said0) }, inl refl)

-- the term is told alone
told_alone : (update : Update) (term : Term) (before after : Table) (said0 said1 : List ℕ) → TellsOf update before after (Some term) → Says said0 said1 (Mirrored (Listed (term ∷ [])))
    → (outputs : List Output) × SaysTable before after said0 said1 outputs × TellsUpdate (Some update) outputs
told_alone update term before after said0 said1 tell says = (
  Mirrored (Listed (term ∷ [])) ∷ [],
  record {
    tells = (
      (ap is_some (items_is (term ∷ [])), tt),
      ap (λ (o : Option (List Term)). all_assigned (unwrap_or o [] ++ []) before) (items_is (term ∷ [])) ∙ tell.0,
    );
    framed = (says.framed, tt);
    gathered = says.wrote ∙ ap (λ (bytes : List ℕ). said0 ++ bytes) (sym (append-nil (said (Mirrored (Listed (term ∷ []))))));
  },
  inr (tell.1, ap (λ (t : Term). Mirrored (Listed (t ∷ [])) ∷ []) tell.2),
)

told_one : (update : Update) (told : Option Term) (before after : Table) (said0 said1 : List ℕ) → TellsOf update before after told → SaysOne told said0 said1
    → (outputs : List Output) × SaysTable before after said0 said1 outputs × TellsUpdate (Some update) outputs
told_one update None before after said0 said1 stays says = stays_untold update before after said0 said1 says stays
told_one update (Some term) before after said0 said1 tell says = told_alone update term before after said0 said1 tell says

pub joined_said : {E : Type 0} (r : Result (Unit {0}) E) (name : Term) (pid : Pid) (after : Table) (joined : Bool) (said0 said1 : List ℕ) → joined ≡ false → OnOk r (SaysOne (count_told (after name) name pid) said0 said1)
    → OnOk r (IfSome (count_told (after name) name pid) (λ term. count_in (after name) pid < 2 ^ 63)) → OnOk r (SaysUpdate (Join name pid) joined after said0 said1)
joined_said (Ok done) name pid after joined said0 said1 lives says few = λ before ended makes so.
    told_one (Join name pid) (count_told (after name) name pid) before after said0 said1 (tells_joined name pid after joined lives few before ended makes so) says
joined_said (Err fault) name pid after joined said0 said1 lives says few = tt

pub left_said : {E : Type 0} (r : Result (Unit {0}) E) (name : Term) (pid : Pid) (after : Table) (joined : Bool) (said0 said1 : List ℕ) → OnOk r (SaysOne (count_told (after name) name pid) said0 said1)
    → OnOk r (IfSome (count_told (after name) name pid) (λ term. count_in (after name) pid < 2 ^ 63)) → OnOk r (SaysUpdate (Leave name pid) joined after said0 said1)
left_said (Ok done) name pid after joined said0 said1 says few = λ before ended makes so.
    told_one (Leave name pid) (count_told (after name) name pid) before after said0 said1 (tells_left name pid after few before ended makes) says
left_said (Err fault) name pid after joined said0 said1 says few = tt

pub deleted_said : {E : Type 0} (r : Result (Unit {0}) E) (name : Term) (after : Table) (joined : Bool) (said0 said1 : List ℕ) → OnOk r (Says said0 said1 (Mirrored (Listed (gone name ∷ []))))
    → OnOk r (SaysUpdate (Delete name) joined after said0 said1)
deleted_said (Ok done) name after joined said0 said1 says = λ before ended makes so.
    told_alone (Delete name) (gone name) before after said0 said1 (gone_is name before ∙ sym makes, 0, refl) says
deleted_said (Err fault) name after joined said0 said1 says = tt

pub created_said : {E : Type 0} (r : Result (Unit {0}) E) (name term : Term) (after : Table) (size : Option ℕ) (said0 said1 : List ℕ) → size ≡ Some 0 → (IsSome size → IsSome (after name))
    → IfSome size (λ n. (pids : List Pid) × (IsMemberList (after name) anywhere pids × (n ≡ min (length pids) 18446744073709551615)))
    → term ≡ row name [] → OnOk r (Says said0 said1 (Mirrored (Listed (term ∷ [])))) → OnOk r ((joined : Bool) → SaysUpdate (Create name) joined after said0 said1)
created_said (Ok done) name term after size said0 said1 none there sized told says = λ joined before ended makes so.
    told_alone (Create name) term before after said0 said1 (tells_created name term before after size none there sized told makes) says
created_said (Err fault) name term after size said0 said1 none there sized told says = tt

pub at_update : {E : Type 0} (r : Result (Unit {0}) E) (update now : Update) (joined : Bool) (after : Table) (said0 said1 : List ℕ) → update ≡ now → OnOk r ((joined : Bool) → SaysUpdate now joined after said0 said1)
    → OnOk r (SaysUpdate update joined after said0 said1)
at_update (Ok done) update now joined after said0 said1 is says = subst (λ (u : Update). SaysUpdate u joined after said0 said1) (sym is) (says joined)
at_update (Err fault) update now joined after said0 said1 is says = tt
