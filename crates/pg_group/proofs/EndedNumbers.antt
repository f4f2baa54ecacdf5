-- The pids of nodes by their numbers, as one list of pids in order.
use Rattle.std.proofs.Common.{◌≡◌, ℕ, Bool, true, false, ◌||◌, cond, List, [], ◌∷◌, ◌++◌, map}
use Rattle.std.proofs.Common.{Some, None, refl, sym, ap, subst, ◌∙◌, append_assoc, append-nil}
use Rattle.std.specs.Prelude.{unwrap_or}
use Rattle.std.specs.BTreeMap.{BTreeMap, get, is_at, insert_entry}
use Rattle.std.specs.BTreeSet.{insert_key}
use Rattle.std.specs.Cmp.Lexicographic.{bytes_decides}
use Rattle.std.specs.List.{AllByRecursion, filter}
use Rattle.std.specs.List.Sorted.{IsStrictlySortedBy}
use Rattle.std.specs.Map.{keys_of, lookup, set_value}
use Rattle.std.specs.Ordering.{is_eq, match_ordering, ordering_reverse, ordering_then}
use Rattle.std.specs.declared.cmp.Ordering.{Ordering}
use Rattle.std.specs.declared.cmp.Ordering.TheVariants.{Less, Equal, Greater}
use Rattle.std.proofs.lemmas.Cmp.{nat_list_cmp_total, tied_itself}
use Rattle.std.proofs.lemmas.List.Elements.{filter-append}
use Rattle.std.proofs.lemmas.List.Folds.{list_any-append}
use Rattle.pg_term.specs.declared.pid.Pid.{Pid}
use Rattle.pg_term.specs.Same.{same_atom, atom_cmp, pid_cmp}
use Rattle.pg_term.specs.contracts.atom.AtomOrd.TheImpl.Laws as atom_laws
use Rattle.pg_term.specs.contracts.pid.PidOrd.TheImpl.Laws as pid_laws
use Rattle.pg_group.specs.declared.number.Number.{Number}
use Rattle.pg_group.specs.Numbers.{number_cmp, has_number, pid_at}
use Rattle.pg_group.specs.Ends.{has_pid, pids_at, all_pids, numbers_at}
use Rattle.pg_group.specs.Scope.{at_node}
use Rattle.pg_group.proofs.Ordered.{all_append, all_weaker, flop, put_after, put_before, none_above}

abbrev Entries : Type 0
Entries = List (List ℕ × List Number)

-- pids are compared by their nodes, and then by their numbers
by_node : (node other : List ℕ) (x y : Number) → pid_cmp (pid_at node x) (pid_at other y) ≡ ordering_then (atom_cmp node other) (number_cmp x y)
by_node node other x y = refl

less_node : (node other : List ℕ) (x y : Number) → atom_cmp node other ≡ Less → pid_cmp (pid_at node x) (pid_at other y) ≡ Less
less_node node other x y e = ap (λ o. ordering_then o (number_cmp x y)) e

greater_node : (node other : List ℕ) (x y : Number) → atom_cmp node other ≡ Greater → pid_cmp (pid_at node x) (pid_at other y) ≡ Greater
greater_node node other x y e = ap (λ o. ordering_then o (number_cmp x y)) e

one_node : (node : List ℕ) (x y : Number) → pid_cmp (pid_at node x) (pid_at node y) ≡ number_cmp x y
one_node node x y = ap (λ o. ordering_then o (number_cmp x y)) (tied_itself nat_list_cmp_total node)

same_node : (node other : List ℕ) → atom_cmp node other ≡ Equal → node ≡ other
same_node node other e = (bytes_decides node other).0 (atom_laws.matches_eq-law node other ∙ ap is_eq e)

-- ---- the pids of one node

pub pids_sorted : (node : List ℕ) (xs : List Number) → IsStrictlySortedBy number_cmp xs → IsStrictlySortedBy pid_cmp (map (pid_at node) xs)
unfolding IsStrictlySortedBy
pids_sorted node [] h = tt
pids_sorted node (x ∷ xs) h = (later xs h.0, pids_sorted node xs h.1)
  where
    later : (ys : List Number) → AllByRecursion (λ y. number_cmp x y ≡ Less) ys → AllByRecursion (λ p. pid_cmp (pid_at node x) p ≡ Less) (map (pid_at node) ys)
    later [] g = tt
    later (y ∷ ys) g = (one_node node x y ∙ g.0, later ys g.1)

has_here : (node : List ℕ) (x : Number) (ys : List Number) → has_pid (map (pid_at node) ys) (pid_at node x) ≡ has_number ys x
has_here node x [] = refl
has_here node x (y ∷ ys) = (λ i. is_eq (one_node node x y i) || has_here node x ys i)

put_here : (node : List ℕ) (x : Number) (ys : List Number) → insert_key pid_cmp (map (pid_at node) ys) (pid_at node x) ≡ map (pid_at node) (insert_key number_cmp ys x)
put_here node x [] = refl
put_here node x (y ∷ ys) =
    ap (λ o. match_ordering o (pid_at node x ∷ pid_at node y ∷ map (pid_at node) ys) (pid_at node y ∷ map (pid_at node) ys) (pid_at node y ∷ insert_key pid_cmp (map (pid_at node) ys) (pid_at node x))) (one_node node x y)
    ∙ go (number_cmp x y) (put_here node x ys)
  where
    go : (o : Ordering) → insert_key pid_cmp (map (pid_at node) ys) (pid_at node x) ≡ map (pid_at node) (insert_key number_cmp ys x)
        → match_ordering o (pid_at node x ∷ pid_at node y ∷ map (pid_at node) ys) (pid_at node y ∷ map (pid_at node) ys) (pid_at node y ∷ insert_key pid_cmp (map (pid_at node) ys) (pid_at node x))
        ≡ map (pid_at node) (match_ordering o (x ∷ y ∷ ys) (y ∷ ys) (y ∷ insert_key number_cmp ys x))
    go Less e = refl
    go Equal e = refl
    go Greater e = ap (λ l. pid_at node y ∷ l) e

pub none_sorted : IsStrictlySortedBy pid_cmp []
unfolding IsStrictlySortedBy
none_sorted = tt

-- ---- the pids of other nodes

before_node : (node other : List ℕ) (x : Number) (ys : List Number) → atom_cmp node other ≡ Greater → AllByRecursion (λ p. pid_cmp p (pid_at node x) ≡ Less) (map (pid_at other) ys)
before_node node other x [] e = tt
before_node node other x (y ∷ ys) e = (less_node other node y x (flop nat_list_cmp_total node other e), before_node node other x ys e)

after_node : (node other : List ℕ) (x : Number) (ys : List Number) → atom_cmp node other ≡ Less → AllByRecursion (λ p. pid_cmp (pid_at node x) p ≡ Less) (map (pid_at other) ys)
after_node node other x [] e = tt
after_node node other x (y ∷ ys) e = (less_node node other x y e, after_node node other x ys e)

after_nodes : (node : List ℕ) (x : Number) (es : Entries) → AllByRecursion (λ k. atom_cmp node k ≡ Less) (keys_of es) → AllByRecursion (λ p. pid_cmp (pid_at node x) p ≡ Less) (all_pids es)
after_nodes node x [] h = tt
after_nodes node x (e ∷ es) h = all_append (λ p. pid_cmp (pid_at node x) p ≡ Less) (pids_at e) (all_pids es) (after_node node e.0 x e.1 h.0) (after_nodes node x es h.1)

further : (node other : List ℕ) (keys : List (List ℕ)) → atom_cmp node other ≡ Less → AllByRecursion (λ k. atom_cmp other k ≡ Less) keys → AllByRecursion (λ k. atom_cmp node k ≡ Less) keys
further node other keys e h = all_weaker (λ k. atom_cmp other k ≡ Less) (λ k. atom_cmp node k ≡ Less) (λ k g. nat_list_cmp_total.trans node other k e g) keys h

-- what goes before all of the second list goes into the first
put_left : (xs ys : List Pid) (p : Pid) → AllByRecursion (λ q. pid_cmp p q ≡ Less) ys → insert_key pid_cmp (xs ++ ys) p ≡ insert_key pid_cmp xs p ++ ys
put_left [] ys p h = put_before pid_laws.total-law ys p h
put_left (x ∷ xs) ys p h = go (pid_cmp p x) (put_left xs ys p h)
  where
    go : (o : Ordering) → insert_key pid_cmp (xs ++ ys) p ≡ insert_key pid_cmp xs p ++ ys
        → match_ordering o (p ∷ x ∷ (xs ++ ys)) (x ∷ (xs ++ ys)) (x ∷ insert_key pid_cmp (xs ++ ys) p) ≡ match_ordering o (p ∷ x ∷ xs) (x ∷ xs) (x ∷ insert_key pid_cmp xs p) ++ ys
    go Less e = refl
    go Equal e = refl
    go Greater e = ap (λ l. x ∷ l) e

not_among : (node : List ℕ) (es : Entries) → AllByRecursion (λ k. atom_cmp node k ≡ Less) (keys_of es) → lookup (is_at (atom_cmp node)) es ≡ None
not_among node [] h = refl
not_among node (e ∷ es) h = ap (λ o. cond (is_eq o) (Some e.1) (lookup (is_at (atom_cmp node)) es)) h.0 ∙ not_among node es h.1

-- ---- what nodes have

abbrev found : List ℕ → Entries → List Number
found node es = unwrap_or (lookup (is_at (atom_cmp node)) es) []

has_found : (node : List ℕ) (x : Number) (es : Entries) → IsStrictlySortedBy atom_cmp (keys_of es) → has_pid (all_pids es) (pid_at node x) ≡ has_number (found node es) x
unfolding IsStrictlySortedBy
has_found node x [] h = refl
has_found node x (e ∷ es) h = list_any-append (is_at (pid_cmp (pid_at node x))) (pids_at e) (all_pids es) ∙ go (atom_cmp node e.0) refl (has_found node x es h.1)
  where
    no_pid : (o : Ordering) → is_eq o ≡ false → atom_cmp node e.0 ≡ o → (ys : List Number) → has_pid (map (pid_at e.0) ys) (pid_at node x) ≡ false
    no_pid o f g [] = refl
    no_pid Less f g (y ∷ ys) = ap (λ p. is_eq p || has_pid (map (pid_at e.0) ys) (pid_at node x)) (less_node node e.0 x y g) ∙ no_pid Less f g ys
    no_pid Equal f g (y ∷ ys) = absurd (cc f)
    no_pid Greater f g (y ∷ ys) = ap (λ p. is_eq p || has_pid (map (pid_at e.0) ys) (pid_at node x)) (greater_node node e.0 x y g) ∙ no_pid Greater f g ys

    or_false : (b c : Bool) → c ≡ false → (b || c) ≡ b
    or_false true c f = refl
    or_false false c f = f

    go : (o : Ordering) → atom_cmp node e.0 ≡ o → has_pid (all_pids es) (pid_at node x) ≡ has_number (found node es) x
        → (has_pid (pids_at e) (pid_at node x) || has_pid (all_pids es) (pid_at node x)) ≡ has_number (unwrap_or (cond (is_eq o) (Some e.1) (lookup (is_at (atom_cmp node)) es)) []) x
    go Less f rest = ap (λ b. b || has_pid (all_pids es) (pid_at node x)) (no_pid Less refl f e.1) ∙ rest
    go Greater f rest = ap (λ b. b || has_pid (all_pids es) (pid_at node x)) (no_pid Greater refl f e.1) ∙ rest
    go Equal f rest =
        or_false (has_pid (pids_at e) (pid_at node x)) (has_pid (all_pids es) (pid_at node x))
        (none_above pid_laws.total-law (all_pids es) (pid_at node x) (after_nodes node x es (subst (λ (k : List ℕ). AllByRecursion (λ l. atom_cmp k l ≡ Less) (keys_of es)) (sym (same_node node e.0 f)) h.0)))
        ∙ ap (λ k. has_pid (map (pid_at k) e.1) (pid_at node x)) (sym (same_node node e.0 f))
        ∙ has_here node x e.1

pub has_in : (numbers : BTreeMap (List ℕ) (List Number)) → IsStrictlySortedBy atom_cmp (keys_of numbers.entries) → (node : List ℕ) (x : Number) → has_pid (all_pids numbers.entries) (pid_at node x) ≡ has_number (numbers_at numbers node) x
has_in numbers sorted node x = has_found node x numbers.entries sorted

keeps : (node other : List ℕ) (b : Bool) → same_atom node other ≡ b → (ys : List Number) → filter (at_node node) (map (pid_at other) ys) ≡ cond b (map (pid_at other) ys) []
keeps node other true e [] = refl
keeps node other false e [] = refl
keeps node other true e (y ∷ ys) = ap (λ b. cond b (pid_at other y ∷ filter (at_node node) (map (pid_at other) ys)) (filter (at_node node) (map (pid_at other) ys))) e ∙ ap (λ l. pid_at other y ∷ l) (keeps node other true e ys)
keeps node other false e (y ∷ ys) = ap (λ b. cond b (pid_at other y ∷ filter (at_node node) (map (pid_at other) ys)) (filter (at_node node) (map (pid_at other) ys))) e ∙ keeps node other false e ys

none_kept : (node : List ℕ) (es : Entries) → AllByRecursion (λ k. atom_cmp node k ≡ Less) (keys_of es) → filter (at_node node) (all_pids es) ≡ []
none_kept node [] h = refl
none_kept node (e ∷ es) h =
    filter-append (at_node node) (pids_at e) (all_pids es)
    ∙ (λ i. keeps node e.0 false (atom_laws.matches_eq-law node e.0 ∙ ap is_eq h.0) e.1 i ++ none_kept node es h.1 i)

listed_found : (node : List ℕ) (es : Entries) → IsStrictlySortedBy atom_cmp (keys_of es) → map (pid_at node) (found node es) ≡ filter (at_node node) (all_pids es)
unfolding IsStrictlySortedBy
listed_found node [] h = refl
listed_found node (e ∷ es) h = go (atom_cmp node e.0) refl (listed_found node es h.1) ∙ sym (filter-append (at_node node) (pids_at e) (all_pids es))
  where
    others : (o : Ordering) → is_eq o ≡ false → atom_cmp node e.0 ≡ o → map (pid_at node) (found node es) ≡ filter (at_node node) (all_pids es) → map (pid_at node) (found node es) ≡ filter (at_node node) (pids_at e) ++ filter (at_node node) (all_pids es)
    others o f g rest = rest ∙ ap (λ l. l ++ filter (at_node node) (all_pids es)) (sym (keeps node e.0 false (atom_laws.matches_eq-law node e.0 ∙ ap is_eq g ∙ f) e.1))

    go : (o : Ordering) → atom_cmp node e.0 ≡ o → map (pid_at node) (found node es) ≡ filter (at_node node) (all_pids es)
        → map (pid_at node) (unwrap_or (cond (is_eq o) (Some e.1) (lookup (is_at (atom_cmp node)) es)) []) ≡ filter (at_node node) (pids_at e) ++ filter (at_node node) (all_pids es)
    go Less f rest = others Less refl f rest
    go Greater f rest = others Greater refl f rest
    go Equal f rest =
        ap (λ k. map (pid_at k) e.1) (same_node node e.0 f)
        ∙ sym (append-nil (pids_at e))
        ∙ (λ i. sym (keeps node e.0 true (atom_laws.matches_eq-law node e.0 ∙ ap is_eq f) e.1) i ++ sym (none_kept node es (subst (λ (k : List ℕ). AllByRecursion (λ l. atom_cmp k l ≡ Less) (keys_of es)) (sym (same_node node e.0 f)) h.0)) i)

pub listed_in : (numbers : BTreeMap (List ℕ) (List Number)) → IsStrictlySortedBy atom_cmp (keys_of numbers.entries) → (node : List ℕ) → map (pid_at node) (numbers_at numbers node) ≡ filter (at_node node) (all_pids numbers.entries)
listed_in numbers sorted node = listed_found node numbers.entries sorted

-- ---- one more pid

put_past : (node : List ℕ) (x : Number) (e : List ℕ × List Number) (pids : List Pid) → atom_cmp node e.0 ≡ Greater → pids_at e ++ insert_key pid_cmp pids (pid_at node x) ≡ insert_key pid_cmp (pids_at e ++ pids) (pid_at node x)
put_past node x e pids greater = sym (put_after pid_laws.total-law (pids_at e) pids (pid_at node x) (before_node node e.0 x e.1 greater))

put_found : (node : List ℕ) (x : Number) (old : List Number) (es : Entries) → IsStrictlySortedBy atom_cmp (keys_of es) → lookup (is_at (atom_cmp node)) es ≡ Some old → all_pids (set_value (is_at (atom_cmp node)) es (insert_key number_cmp old x)) ≡ insert_key pid_cmp (all_pids es) (pid_at node x)
unfolding IsStrictlySortedBy
put_found node x old [] h l = absurd (cc l)
put_found node x old (e ∷ es) h l = go (atom_cmp node e.0) refl l (put_found node x old es h.1)
  where
    go : (o : Ordering) → atom_cmp node e.0 ≡ o → cond (is_eq o) (Some e.1) (lookup (is_at (atom_cmp node)) es) ≡ Some old
        → (lookup (is_at (atom_cmp node)) es ≡ Some old → all_pids (set_value (is_at (atom_cmp node)) es (insert_key number_cmp old x)) ≡ insert_key pid_cmp (all_pids es) (pid_at node x))
        → all_pids (cond (is_eq o) ((e.0, insert_key number_cmp old x) ∷ es) (e ∷ set_value (is_at (atom_cmp node)) es (insert_key number_cmp old x))) ≡ insert_key pid_cmp (pids_at e ++ all_pids es) (pid_at node x)
    go Less f k rest = absurd (cc (sym k ∙ not_among node es (further node e.0 (keys_of es) f h.0)))
    go Greater f k rest = ap (λ l. pids_at e ++ l) (rest k) ∙ put_past node x e (all_pids es) f
    go Equal f k rest =
        let is : node ≡ e.0 = same_node node e.0 f in
        let old_is : e.1 ≡ old = cc k in
        ap (λ l. map (pid_at e.0) (insert_key number_cmp l x) ++ all_pids es) (sym old_is)
        ∙ ap (λ l. l ++ all_pids es) (sym (put_here e.0 x e.1))
        ∙ ap (λ n. insert_key pid_cmp (pids_at e) (pid_at n x) ++ all_pids es) (sym is)
        ∙ sym (put_left (pids_at e) (all_pids es) (pid_at node x) (after_nodes node x es (subst (λ (n : List ℕ). AllByRecursion (λ l. atom_cmp n l ≡ Less) (keys_of es)) (sym is) h.0)))

put_new : (node : List ℕ) (x : Number) (es : Entries) → IsStrictlySortedBy atom_cmp (keys_of es) → lookup (is_at (atom_cmp node)) es ≡ None → all_pids (insert_entry atom_cmp es node (x ∷ [])) ≡ insert_key pid_cmp (all_pids es) (pid_at node x)
unfolding IsStrictlySortedBy
put_new node x [] h l = refl
put_new node x (e ∷ es) h l = go (atom_cmp node e.0) refl l (put_new node x es h.1)
  where
    go : (o : Ordering) → atom_cmp node e.0 ≡ o → cond (is_eq o) (Some e.1) (lookup (is_at (atom_cmp node)) es) ≡ None
        → (lookup (is_at (atom_cmp node)) es ≡ None → all_pids (insert_entry atom_cmp es node (x ∷ [])) ≡ insert_key pid_cmp (all_pids es) (pid_at node x))
        → all_pids (match_ordering o ((node, x ∷ []) ∷ e ∷ es) ((e.0, x ∷ []) ∷ es) (e ∷ insert_entry atom_cmp es node (x ∷ []))) ≡ insert_key pid_cmp (pids_at e ++ all_pids es) (pid_at node x)
    go Less f k rest = sym (put_before pid_laws.total-law (all_pids (e ∷ es)) (pid_at node x) (after_nodes node x (e ∷ es) (f, further node e.0 (keys_of es) f h.0)))
    go Equal f k rest = absurd (cc k)
    go Greater f k rest = ap (λ l. pids_at e ++ l) (rest k) ∙ put_past node x e (all_pids es) f

module _ (old new : BTreeMap (List ℕ) (List Number)) (node : List ℕ) (x : Number) (sorted : IsStrictlySortedBy atom_cmp (keys_of old.entries)) where
  pub one_more : (some more : List Number) → get atom_cmp old node ≡ Some some → more ≡ insert_key number_cmp some x → new.entries ≡ set_value (is_at (atom_cmp node)) old.entries more → all_pids new.entries ≡ insert_key pid_cmp (all_pids old.entries) (pid_at node x)
  one_more some more had is e = ap all_pids (e ∙ ap (set_value (is_at (atom_cmp node)) old.entries) is) ∙ put_found node x some old.entries sorted had

  pub one_first : (more : List Number) → get atom_cmp old node ≡ None → more ≡ insert_key number_cmp [] x → new.entries ≡ insert_entry atom_cmp old.entries node more → all_pids new.entries ≡ insert_key pid_cmp (all_pids old.entries) (pid_at node x)
  one_first more had is e = ap all_pids (e ∙ ap (insert_entry atom_cmp old.entries node) is) ∙ put_new node x old.entries sorted had

-- what is written back changes nothing
set_same : (node : List ℕ) (some : List Number) (es : Entries) → lookup (is_at (atom_cmp node)) es ≡ Some some → set_value (is_at (atom_cmp node)) es some ≡ es
set_same node some [] l = refl
set_same node some (e ∷ es) l = go (is_at (atom_cmp node) e.0) l (set_same node some es)
  where
    go : (b : Bool) → cond b (Some e.1) (lookup (is_at (atom_cmp node)) es) ≡ Some some → (lookup (is_at (atom_cmp node)) es ≡ Some some → set_value (is_at (atom_cmp node)) es some ≡ es) → cond b ((e.0, some) ∷ es) (e ∷ set_value (is_at (atom_cmp node)) es some) ≡ e ∷ es
    go true k rest = let is : e.1 ≡ some = cc k in ap (λ s. (e.0, s) ∷ es) (sym is)
    go false k rest = ap (λ l. e ∷ l) (rest k)

pub none_more : (old new : BTreeMap (List ℕ) (List Number)) (node : List ℕ) (some same : List Number) → get atom_cmp old node ≡ Some some → same ≡ some → new.entries ≡ set_value (is_at (atom_cmp node)) old.entries same → all_pids new.entries ≡ all_pids old.entries
none_more old new node some same had is e = ap all_pids (e ∙ ap (set_value (is_at (atom_cmp node)) old.entries) is ∙ set_same node some old.entries had)

-- ---- copies, entry by entry

pub last_entry : (es rest : Entries) (node : List ℕ) (some : List Number) → IsStrictlySortedBy atom_cmp (keys_of (es ++ (node, some) ∷ rest)) → insert_entry atom_cmp es node some ≡ es ++ (node, some) ∷ []
unfolding IsStrictlySortedBy
last_entry [] rest node some h = refl
last_entry (e ∷ es) rest node some h =
    ap (λ o. match_ordering o ((node, some) ∷ e ∷ es) ((e.0, some) ∷ es) (e ∷ insert_entry atom_cmp es node some)) (nat_list_cmp_total.antisymm node e.0 ∙ ap ordering_reverse (below es h.0))
    ∙ ap (λ l. e ∷ l) (last_entry es rest node some h.1)
  where
    below : (fs : Entries) → AllByRecursion (λ k. atom_cmp e.0 k ≡ Less) (keys_of (fs ++ (node, some) ∷ rest)) → atom_cmp e.0 node ≡ Less
    below [] g = g.0
    below (f ∷ fs) g = below fs g.1

-- one more entry that was copied, and its rest
pub copied_entry : (all left copy rest new : Entries) (node : List ℕ) (some : List Number) → IsStrictlySortedBy atom_cmp (keys_of all) → copy ++ left ≡ all → left ≡ (node, some) ∷ rest → new ≡ insert_entry atom_cmp copy node some → new ++ rest ≡ all
copied_entry all left copy rest new node some sorted so is e =
    let whole : copy ++ (node, some) ∷ rest ≡ all = ap (λ l. copy ++ l) (sym is) ∙ so in
    ap (λ l. l ++ rest) (e ∙ last_entry copy rest node some (subst (λ (l : Entries). IsStrictlySortedBy atom_cmp (keys_of l)) (sym whole) sorted))
    ∙ append_assoc copy ((node, some) ∷ []) rest
    ∙ whole
