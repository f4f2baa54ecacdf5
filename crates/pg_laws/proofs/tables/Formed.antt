-- A node is formed where each other place's exchange is merged.
use Rattle.std.proofs.Common.{◌≡◌, ◌≢◌, ℕ, ◌<◌, zero, suc, Bool, true, false, ◌||◌, length}
use Rattle.std.proofs.Common.{List, [], ◌∷◌, refl, ap, sym, ◌∙◌, subst, arith, inl, inr, ◌⊎◌}
use Rattle.std.specs.List.{AllByRecursion, list_all, remove}
use Rattle.std.specs.Cmp.{first_so, second_so}
use Rattle.std.proofs.lemmas.Bool.{cases_eq}
use Rattle.std.proofs.lemmas.List.{length-map}
use Rattle.std.proofs.lemmas.Bool.Decides.{Decides-ltb}
use Rattle.pg_term.specs.declared.term.Term.{Term}
use Rattle.pg_term.specs.Same.{same_atom}
use Rattle.pg_step.specs.Machines.Places.{is_pair}
use Rattle.pg_step.specs.Nodes.{Node}
use Rattle.pg_step.specs.State.{State, formed}
use Rattle.pg_step.specs.Config.{Config, names_of, name_at, nodes_at}
use Rattle.pg_laws.specs.History.{known, base}
use Rattle.pg_step.proofs.Once.{is_same, clash}
use Rattle.pg_step.proofs.Machines.Steps.{pair_apart}
use Rattle.pg_laws.proofs.ends.Apart.{name_of_place, pair_second}
use Rattle.pg_laws.proofs.tables.Values.{known_same}
use Rattle.pg_laws.proofs.tables.Tabled.{has}

all_there : (test : Node → Bool) (names : List Node) (p : ℕ) → p < length names → list_all test names ≡ true → test (name_of_place names p) ≡ true
all_there test [] p below all = absurd (omega arith)
all_there test (x ∷ xs) zero below all = first_so (test x) (list_all test xs) all
all_there test (x ∷ xs) (suc p) below all = all_there test xs p (omega arith) (second_so (test x) (list_all test xs) all)

pub all_others : (test : Node → Bool) (names : List Node) (i p : ℕ) → p < length names → i ≢ p → list_all test (remove names i) ≡ true → test (name_of_place names p) ≡ true
all_others test [] i p below other all = absurd (omega arith)
all_others test (x ∷ xs) zero zero below other all = absurd (other refl)
all_others test (x ∷ xs) zero (suc p) below other all = all_there test xs p (omega arith) all
all_others test (x ∷ xs) (suc i) zero below other all = first_so (test x) (list_all test (remove xs i)) all
all_others test (x ∷ xs) (suc i) (suc p) below other all = all_others test xs i p (omega arith) (λ e. other (ap suc e)) (second_so (test x) (list_all test (remove xs i)) all)

module _ (config : Config) (i : ℕ) (s : State) where
  place_below : (p : ℕ) → p < length config → p < length (names_of config)
  place_below p below = subst (λ n. p < n) (sym (length-map config (λ start. start.name))) below

  -- a formed node has merged each other
  pub all_merged : formed (nodes_at config i) s ≡ true → (p : ℕ) → p < length config → i ≢ p → s.merged (name_at config p) ≡ true
  all_merged full p below other = all_others s.merged (names_of config) i p (place_below p below) other full

  -- a node that has not merged one is not
  pub not_formed : (p : ℕ) → is_pair (length config) i p ≡ true → s.merged (name_at config p) ≡ false → formed (nodes_at config i) s ≡ false
  not_formed p pair new = go (formed (nodes_at config i) s) refl
    where
      go : (b : Bool) → formed (nodes_at config i) s ≡ b → formed (nodes_at config i) s ≡ false
      go false is = is
      go true is = absurd (clash (sym (all_merged is p ((Decides-ltb p (length config)).0 (pair_second (length config) i p pair)) (pair_apart (length config) i p pair)) ∙ new))

  or_second : (a b : Bool) → b ≡ true → (a || b) ≡ true
  or_second true b e = refl
  or_second false b e = e

  has_each : formed (nodes_at config i) s ≡ true → (p : ℕ) → p < length config → has config i s (name_at config p) ≡ true
  has_each full p below = go (cases_eq i p)
    where
      go : (i ≡ p) ⊎ (i ≡ p → ⊥) → has config i s (name_at config p) ≡ true
      go (inl own) = ap (λ b. b || s.merged (name_at config p)) (subst (λ j. same_atom (name_at config j) (name_at config p) ≡ true) (sym own) (is_same (name_at config p)))
      go (inr other) = or_second (same_atom (name_at config i) (name_at config p)) (s.merged (name_at config p)) (all_merged full p below other)

each_at : (Q : Node → Type 0) (config : Config) → ((p : ℕ) → p < length config → Q (name_at config p)) → AllByRecursion Q (names_of config)
each_at Q [] each = tt
each_at Q (start ∷ starts) each = (each 0 (omega arith), each_at Q starts (λ p below. each (suc p) (omega arith)))

-- a formed node knows what all began with
pub knows_all : (config : Config) (i : ℕ) (s : State) (name : Term) → formed (nodes_at config i) s ≡ true → known (has config i s) name config ≡ base config name
knows_all config i s name full = known_same (has config i s) (λ q. true) name config (each_at (λ q. has config i s q ≡ true) config (has_each config i s full))
