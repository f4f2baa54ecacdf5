-- Sets of ended pids, one within another.
use Rattle.std.proofs.Common.{◌≡◌, ℕ, suc, ◌+◌, ◌≤◌, Bool, true, false, ◌||◌}
use Rattle.std.proofs.Common.{◌&&◌, List, [], ◌∷◌, map, refl, sym, ap, ◌∙◌, arith}
use Rattle.std.proofs.Math.Path.{fun_ext}
use Rattle.std.specs.BTreeMap.{is_at}
use Rattle.std.specs.Cmp.{first_so, second_so}
use Rattle.std.specs.List.{list_all, list_any}
use Rattle.pg_term.specs.declared.pid.Pid.{Pid}
use Rattle.pg_term.specs.Same.{atom_cmp, pid_cmp}
use Rattle.pg_term.specs.contracts.pid.PidEq.TheImpl.Laws as equality_laws
use Rattle.pg_term.specs.contracts.pid.PidOrd.TheImpl.Laws as pid_laws
use Rattle.pg_term.proofs.Same.{pid_is}
use Rattle.pg_group.specs.Ended.{IsWithin}
use Rattle.std.specs.BTreeMap.{BTreeMap}
use Rattle.std.specs.List.Sorted.{IsStrictlySortedBy}
use Rattle.std.specs.Map.{keys_of}
use Rattle.std.proofs.lemmas.List.Folds.{list_all-append}
use Rattle.pg_group.specs.declared.number.Number.{Number}
use Rattle.pg_group.specs.Numbers.{has_number, pid_at}
use Rattle.pg_group.specs.Ends.{has_pid, pids_at, all_pids, numbers_at}
use Rattle.pg_group.proofs.EndedNumbers.{has_in}
use Rattle.pg_group.proofs.EndedSets.{either_of, has_node}

both_true : (b c : Bool) → b ≡ true → c ≡ true → (b && c) ≡ true
both_true b c e f = ap (λ z. z && c) e ∙ f

or_true : (b c : Bool) → c ≡ true → (b || c) ≡ true
or_true true c e = refl
or_true false c e = e

or_first : (b c : Bool) → c ≡ false → (b || c) ≡ true → b ≡ true
or_first true c e f = refl
or_first false c e f = absurd cc

-- ---- keys that pass a test

found_here : (pid : Pid) → is_at (pid_cmp pid) pid ≡ true
found_here pid = sym (pid_laws.matches_eq-law pid pid) ∙ equality_laws.laws-law.refl pid

pub all_pass : (test : Pid → Bool) (keys : List Pid) → ((q : Pid) → list_any (is_at (pid_cmp q)) keys ≡ true → test q ≡ true) → list_all test keys ≡ true
all_pass test [] h = refl
all_pass test (key ∷ keys) h =
    both_true (test key) (list_all test keys) (h key (ap (λ b. b || list_any (is_at (pid_cmp key)) keys) (found_here key)))
    (all_pass test keys (λ q t. h q (or_true (is_at (pid_cmp q) key) (list_any (is_at (pid_cmp q)) keys) t)))

pub each_passes : (test : Pid → Bool) (keys : List Pid) (q : Pid) → list_all test keys ≡ true → list_any (is_at (pid_cmp q)) keys ≡ true → test q ≡ true
each_passes test [] q a t = absurd cc
each_passes test (key ∷ keys) q a t = go (is_at (pid_cmp q) key) refl t (each_passes test keys q (second_so (test key) (list_all test keys) a))
  where
    go : (b : Bool) → is_at (pid_cmp q) key ≡ b → (b || list_any (is_at (pid_cmp q)) keys) ≡ true → (list_any (is_at (pid_cmp q)) keys ≡ true → test q ≡ true) → test q ≡ true
    go true e t later = ap test (pid_is q key (pid_laws.matches_eq-law q key ∙ e)) ∙ first_so (test key) (list_all test keys) a
    go false e t later = later t

-- ---- a node has more pids than a list can name

abbrev beyond : List Pid → ℕ
beyond [] = 0
beyond (pid ∷ pids) = suc (pid.serial + beyond pids)

unnamed : (pids : List Pid) (q : Pid) → beyond pids ≤ q.serial → list_any (is_at (pid_cmp q)) pids ≡ false
unnamed [] q h = refl
unnamed (pid ∷ pids) q h = ap (λ b. b || list_any (is_at (pid_cmp q)) pids) (go (is_at (pid_cmp q) pid) refl) ∙ unnamed pids q (omega arith)
  where
    go : (b : Bool) → is_at (pid_cmp q) pid ≡ b → b ≡ false
    go true e = absurd (let same : q.serial ≡ pid.serial = ap (λ (p : Pid). p.serial) (pid_is q pid (pid_laws.matches_eq-law q pid ∙ e)) in omega arith)
    go false e = refl

-- ---- one set within another

module _ (nodes others : List (List ℕ)) (pids members : List Pid) where
  pub within : ((node : List ℕ) → has_node nodes node ≡ true → has_node others node ≡ true) → list_all (either_of others members) pids ≡ true → IsWithin (either_of nodes pids) (either_of others members)
  within subset all pid t = go (has_node nodes pid.node) refl t
    where
      go : (b : Bool) → has_node nodes pid.node ≡ b → (b || has_pid pids pid) ≡ true → either_of others members pid ≡ true
      go true e t = ap (λ b. b || has_pid members pid) (subset pid.node e)
      go false e t = each_passes (either_of others members) pids pid all t

  pub pids_within : IsWithin (either_of nodes pids) (either_of others members) → list_all (either_of others members) pids ≡ true
  pids_within h = all_pass (either_of others members) pids (λ q t. h q (or_true (has_node nodes q.node) (has_pid pids q) t))

  -- of a node all of whose pids have ended no list tells all
  pub nodes_within : IsWithin (either_of nodes pids) (either_of others members) → (node : List ℕ) → has_node nodes node ≡ true → has_node others node ≡ true
  nodes_within h node t =
      let pid : Pid = record { node = node; serial = beyond members; id = 0; creation = 0 } in
      or_first (has_node others node) (has_pid members pid) (unnamed members pid (omega arith)) (h pid (ap (λ b. b || has_pid pids pid) t))

-- ---- pids by their numbers

pub all_entries : (test : Pid → Bool) (es : List (List ℕ × List Number)) → list_all (λ entry. list_all test (pids_at entry)) es ≡ list_all test (all_pids es)
all_entries test [] = refl
all_entries test (e ∷ es) = ap (λ b. list_all test (pids_at e) && b) (all_entries test es) ∙ sym (list_all-append test (pids_at e) (all_pids es))

-- the pids of a node that was put in as a whole
pub whole_passes : (nodes : List (List ℕ)) (pids : List Pid) (node : List ℕ) (some : List Number) → has_node nodes node ≡ true → true ≡ list_all (either_of nodes pids) (map (pid_at node) some)
whole_passes nodes pids node [] e = refl
whole_passes nodes pids node (x ∷ xs) e = whole_passes nodes pids node xs e ∙ ap (λ b. (b || has_pid pids (pid_at node x)) && list_all (either_of nodes pids) (map (pid_at node) xs)) (sym e)

-- those of a node that was not
pub singles_pass : (nodes : List (List ℕ)) (numbers : BTreeMap (List ℕ) (List Number)) → IsStrictlySortedBy atom_cmp (keys_of numbers.entries) → (node : List ℕ) (some : List Number) → has_node nodes node ≡ false
    → list_all (has_number (numbers_at numbers node)) some ≡ list_all (either_of nodes (all_pids numbers.entries)) (map (pid_at node) some)
singles_pass nodes numbers sorted node [] e = refl
singles_pass nodes numbers sorted node (x ∷ xs) e =
    (λ i. (sym (has_in numbers sorted node x) ∙ ap (λ b. b || has_pid (all_pids numbers.entries) (pid_at node x)) (sym e)) i && singles_pass nodes numbers sorted node xs e i)

-- ---- both ways

pub within_itself : (one other : Pid → Bool) → one ≡ other → IsWithin one other
within_itself one other e pid t = ap (λ test. test pid) (sym e) ∙ t

pub within_both : (one other : Pid → Bool) → IsWithin one other → IsWithin other one → one ≡ other
within_both one other f g = fun_ext (λ pid. go (one pid) (other pid) (f pid) (g pid))
  where
    go : (b c : Bool) → (b ≡ true → c ≡ true) → (c ≡ true → b ≡ true) → b ≡ c
    go true c f g = sym (f refl)
    go false true f g = g refl
    go false false f g = refl
