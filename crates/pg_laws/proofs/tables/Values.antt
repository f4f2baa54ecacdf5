-- GroupList after updates, exchanges and ends.
use Rattle.std.proofs.Common.{◌≡◌, ℕ, ◌<◌, zero, suc, Bool, true, false, ◌||◌, cond, length}
use Rattle.std.proofs.Common.{List, [], ◌∷◌, ◌++◌, Some, None, refl, ap, sym, ◌∙◌, arith}
use Rattle.std.specs.List.{AllByRecursion, IsDistinct}
use Rattle.std.proofs.Math.Path.{fun_ext}
use Rattle.std.proofs.lemmas.Map.Keys.{IsDistinct-head, IsDistinct-tail}
use Rattle.pg_term.specs.declared.pid.Pid.{Pid}
use Rattle.pg_term.specs.declared.term.Term.{Term}
use Rattle.pg_term.specs.Same.{same_atom, same_pid}
use Rattle.pg_term.proofs.Same.{same_term as term_is}
use Rattle.pg_step.specs.PgGroup.declared.update.Update.{Update}
use Rattle.pg_step.specs.PgGroup.Functions.{upd}
use Rattle.pg_step.specs.PgGroup.Value.{Value, apply, less, merge, NoneEnded}
use Rattle.pg_step.specs.PgGroup.Table.{Table, applied}
use Rattle.pg_step.proofs.PgGroup.Merges.{merge_commutes, merge_associates, less_merge, less_apply}
use Rattle.pg_step.proofs.PgGroup.Thinned.{value}
use Rattle.pg_step.specs.PgExchange.GroupList.{GroupList, all_merged, announced_table}
use Rattle.pg_step.proofs.PgExchange.Tables.{all_announced}
use Rattle.pg_step.specs.declared.start.Start.{Start}
use Rattle.pg_step.specs.Nodes.{Node}
use Rattle.pg_step.specs.Config.{Config, names_of, name_at, groups_at, first_table}
use Rattle.pg_laws.specs.History.{replay, known}
use Rattle.pg_step.proofs.Once.{same_is, is_same, clash}

-- ---- ends

out_of : (b : Bool) (n : ℕ) → b ≡ true → cond b 0 n ≡ 0
out_of true n e = refl
out_of false n e = absurd (cc)

none_less : (v : Value) (ended : Pid → Bool) → NoneEnded (less v ended) ended
none_less None ended pid e = refl
none_less (Some counts) ended pid e = out_of (ended pid) (counts pid) e

-- an update of a group without the ended
pub applied_less : (v : Value) (ended : Pid → Bool) (u : Update) → applied (less v ended) u ended ≡ less (apply v u) ended
applied_less v ended u = value ended (less v ended) u (none_less v ended) ∙ less_apply ended v u

-- one more end
pub less_one : (v : Value) (ended : Pid → Bool) (pid : Pid) → less (less v ended) (same_pid pid) ≡ less v (upd same_pid ended pid true)
unfolding upd
less_one None ended pid = refl
less_one (Some counts) ended pid = ap Some (fun_ext (λ q. go (same_pid pid q) (ended q) (counts q)))
  where
    go : (b d : Bool) (n : ℕ) → cond b 0 (cond d 0 n) ≡ cond (cond b true d) 0 n
    go true d n = refl
    go false d n = refl

pub less_nobody : (v : Value) → less v (λ pid. false) ≡ v
less_nobody None = refl
less_nobody (Some counts) = refl

-- ---- updates

pub replay_append : (v : Value) (us : List Update) (u : Update) → replay v (us ++ u ∷ []) ≡ apply (replay v us) u
replay_append v [] u = refl
replay_append v (w ∷ us) u = replay_append (apply v w) us u

-- ---- exchanges

-- what a node starts with is what its groups tell
first_told : (groups : GroupList) (name : Term) → first_table groups name ≡ announced_table groups name
first_told groups name = all_announced term_is merge_associates (λ pid. false) (less_merge (λ pid. false)) (λ n. None) groups name ∙ less_nobody (announced_table groups name)

pub merged_told : (table : Table) (groups : GroupList) (ended : Pid → Bool) (name : Term) → all_merged table groups ended name ≡ merge (table name) (less (first_table groups name) ended)
merged_told table groups ended name =
    all_announced term_is merge_associates ended (less_merge ended) table groups name ∙ ap (λ v. merge (table name) (less v ended)) (sym (first_told groups name))

-- ---- what nodes know

-- tests that agree at the names of the nodes
pub known_same : (f g : Node → Bool) (name : Term) (config : Config) → AllByRecursion (λ q. f q ≡ g q) (names_of config) → known f name config ≡ known g name config
known_same f g name [] each = refl
known_same f g name (start ∷ starts) each =
    ap (λ b. merge (cond b (first_table start.groups name) None) (known f name starts)) each.0
    ∙ ap (merge (cond (g start.name) (first_table start.groups name) None)) (known_same f g name starts each.1)

pub or_false : (b : Bool) → (b || false) ≡ b
or_false true = refl
or_false false = refl

or_true : (b : Bool) → (b || true) ≡ true
or_true true = refl
or_true false = refl

-- one more node
abbrev pub and_one : (Node → Bool) → Node → Node → Bool
and_one f p q = f q || same_atom p q

others_same : (f : Node → Bool) (p : Node) (names : List Node) → AllByRecursion (λ q. same_atom p q ≡ false) names → AllByRecursion (λ q. and_one f p q ≡ f q) names
others_same f p [] each = tt
others_same f p (q ∷ names) each = (ap (λ b. f q || b) each.0 ∙ or_false (f q), others_same f p names each.1)

all_at : (P : Node → Type 0) (config : Config) (i : ℕ) → i < length config → AllByRecursion P (names_of config) → P (name_at config i)
all_at P [] i below each = absurd (omega arith)
all_at P (start ∷ starts) zero below each = each.0
all_at P (start ∷ starts) (suc i) below each = all_at P starts i (omega arith) each.1

-- the first name is no later one
not_first : (start : Start) (starts : Config) (p : ℕ) → p < length starts → IsDistinct same_atom (names_of (start ∷ starts)) → same_atom (name_at starts p) start.name ≡ false
not_first start starts p below apart = go (same_atom (name_at starts p) start.name) refl
  where
    there : same_atom start.name (name_at starts p) ≡ false
    there = all_at (λ q. same_atom start.name q ≡ false) starts p below (IsDistinct-head same_atom start.name (names_of starts) apart)

    go : (b : Bool) → same_atom (name_at starts p) start.name ≡ b → same_atom (name_at starts p) start.name ≡ false
    go false is = is
    go true is = absurd (clash (sym (is_same start.name) ∙ sym (ap (same_atom start.name) (same_is (name_at starts p) start.name is)) ∙ there))

module _ (f : Node → Bool) (name : Term) where
  -- what is known of all and of one more node
  pub known_more : (config : Config) (p : ℕ) → p < length config → IsDistinct same_atom (names_of config) → f (name_at config p) ≡ false
      → known (and_one f (name_at config p)) name config ≡ merge (known f name config) (first_table (groups_at config p) name)
  known_more [] p below apart new = absurd (omega arith)
  known_more (start ∷ starts) zero below apart new =
      let first : and_one f start.name start.name ≡ true = ap (λ b. f start.name || b) (is_same start.name) ∙ or_true (f start.name) in
      let own = first_table start.groups name in
      ap (λ b. merge (cond b own None) (known (and_one f start.name) name starts)) first
      ∙ ap (merge own) (known_same (and_one f start.name) f name starts (others_same f start.name (names_of starts) (IsDistinct-head same_atom start.name (names_of starts) apart)))
      ∙ merge_commutes own (known f name starts)
      ∙ ap (λ b. merge (merge (cond b own None) (known f name starts)) own) (sym new)
  known_more (start ∷ starts) (suc p) below apart new =
      let rest = known_more starts p (omega arith) (IsDistinct-tail same_atom start.name (names_of starts) apart) new in
      let other : same_atom (name_at starts p) start.name ≡ false = not_first start starts p (omega arith) apart in
      let same : and_one f (name_at starts p) start.name ≡ f start.name = ap (λ b. f start.name || b) other ∙ or_false (f start.name) in
      let own = cond (f start.name) (first_table start.groups name) None in
      ap (λ b. merge (cond b (first_table start.groups name) None) (known (and_one f (name_at starts p)) name starts)) same
      ∙ ap (merge own) rest ∙ sym (merge_associates own (known f name starts) (first_table (groups_at starts p) name))
