-- Where the node of a name stands.
use Rattle.std.proofs.Common.{◌≡◌, ℕ, ◌<◌, zero, suc, Bool, true, false, ◌||◌, get_or, length, List}
use Rattle.std.proofs.Common.{[], ◌∷◌, Option, Some, None, IfSome, IfNone, refl, ap, sym, ◌∙◌, arith}
use Rattle.std.specs.Prelude.{slice_get}
use Rattle.std.specs.List.{list_any}
use Rattle.std.specs.Option.{is_some}
use Rattle.std.proofs.lemmas.Option.{slice_get_read, get_or_from_slice_get}
use Rattle.pg_term.specs.Same.{same_atom}
use Rattle.pg_step.specs.Nodes.{Node, is_node}
use Rattle.pg_node_opens.specs.Places.{name_at, whole_in}
use Rattle.pg_node_opens.proofs.Named.{atom_is}

none_less : (k : ℕ) → k < 0 → ⊥
none_less k h = omega arith

suc_less : (k n : ℕ) → suc k < suc n → k < n
suc_less k n h = omega arith

-- what was read at a place
pub read_at : {A : Type 0} (xs : List A) (k : ℕ) (x d : A) → k < length xs → x ≡ get_or xs k x → x ≡ get_or xs k d
read_at xs k x d l e = sym (get_or_from_slice_get xs k x d (slice_get_read xs (length xs) k x refl l e))

-- the nodes of the set are those that have a name
pub whole_any : (names : List Node) (q : Node) → 0 < length names → is_node (whole_in names) q ≡ list_any (same_atom q) names
whole_any [] q l = absurd (none_less 0 l)
whole_any (n ∷ ns) q l = refl

pub any_here : (names : List Node) (q : Node) (k : ℕ) → k < length names → IfSome (slice_get names k) (λ other. same_atom q other ≡ true) → list_any (same_atom q) names ≡ true
any_here [] q k l h = absurd (none_less k l)
any_here (n ∷ ns) q zero l h = ap (λ b. b || list_any (same_atom q) ns) h
any_here (n ∷ ns) q (suc k) l h = ap (λ b. same_atom q n || b) (any_here ns q k (suc_less k (length ns) l) h) ∙ either (same_atom q n)
  where
    either : (b : Bool) → (b || true) ≡ true
    either true = refl
    either false = refl

pub name_here : (names : List Node) (q : Node) (k : ℕ) → k < length names → IfSome (slice_get names k) (λ other. same_atom q other ≡ true) → name_at names k ≡ q
name_here [] q k l h = absurd (none_less k l)
name_here (n ∷ ns) q zero l h = sym (atom_is q n h)
name_here (n ∷ ns) q (suc k) l h = name_here ns q k (suc_less k (length ns) l) h

-- ---- a name is sought

pub found_node : (names s : List Node) (q : Node) (found : Option ℕ) → s ≡ names → 0 < length names → IfNone found (list_any (same_atom q) s ≡ false) → IfSome found (λ k. k < length s)
    → IfSome found (λ k. IfSome (slice_get s k) (λ other. same_atom q other ≡ true)) → is_node (whole_in names) q ≡ is_some found
found_node names s q None same l none within some = whole_any names q l ∙ (ap (list_any (same_atom q)) (sym same) ∙ none)
found_node names s q (Some k) same l none within some = whole_any names q l ∙ (ap (list_any (same_atom q)) (sym same) ∙ any_here s q k within some)

pub found_name : (names s : List Node) (q : Node) (found : Option ℕ) → s ≡ names → IfSome found (λ k. k < length s)
    → IfSome found (λ k. IfSome (slice_get s k) (λ other. same_atom q other ≡ true)) → IfSome found (λ k. name_at names k ≡ q)
found_name names s q None same within some = tt
found_name names s q (Some k) same within some = ap (λ z. name_at z k) (sym same) ∙ name_here s q k within some
