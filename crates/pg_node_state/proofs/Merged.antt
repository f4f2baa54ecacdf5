-- The peers whose exchange was taken, by the marks of the peers.
use Rattle.std.proofs.Common.{◌≡◌, ℕ, zero, suc, ◌+◌, ◌<◌, ◌↔◌, Bool, true, false, not, ◌||◌, cond, get_or}
use Rattle.std.proofs.Common.{drop, replicate, length, List, [], ◌∷◌, Some, refl, sym, ap, ◌∙◌, arith}
use Rattle.std.specs.Prelude.{slice_set, slice_get}
use Rattle.std.specs.List.{IsDistinct}
use Rattle.std.proofs.Math.Path.{fun_ext}
use Rattle.std.proofs.Math.ListN.{length-set}
use Rattle.std.proofs.lemmas.Option.{slice_get-get_or, get_or_from_slice_get}
use Rattle.pg_term.specs.Same.{same_atom}
use Rattle.pg_node_ports.specs.PgGroup.Functions.{upd}
use Rattle.pg_node_ports.specs.PgStep.Nodes.{Node}
use Rattle.pg_node_ports.specs.PgNodeOpens.Places.{name_at, reads}
use Rattle.pg_node_ports.proofs.PgNodeOpens.Named.{reads_at, reads_set}
use Rattle.pg_node_state.specs.Ports.{merged_in}

next : (k : ℕ) → k + 1 ≡ suc k
next k = omega arith

shorter : (a b : ℕ) → a + 1 ≡ suc b → a ≡ b
shorter a b e = omega arith

nearer : (a b : ℕ) → a + 1 < suc b → a < b
nearer a b l = omega arith

nowhere : (a : ℕ) → a + 1 < zero → ⊥
nowhere a l = omega arith

-- whether the peer at a place is merged
pub merged_at : (names : List Node) (marks : List Bool) (peer : ℕ) → IsDistinct same_atom names → length marks + 1 ≡ length names → peer + 1 < length names
    → merged_in names marks (name_at names (peer + 1)) ≡ get_or marks peer false
unfolding IsDistinct
merged_at [] marks peer apart same l = absurd (nowhere peer l)
merged_at (own ∷ peers) marks peer apart same l =
    ap (λ k. merged_in (own ∷ peers) marks (name_at (own ∷ peers) k)) (next peer)
    ∙ reads_at (λ mark. mark) false peers marks peer false apart.1 (shorter (length marks) (length peers) same) (nearer peer (length peers) l)

-- the peer at a place is merged, and all others stay
pub merged_set : (names : List Node) (marks : List Bool) (peer : ℕ) → IsDistinct same_atom names → length marks + 1 ≡ length names → peer + 1 < length names
    → merged_in names (slice_set marks peer true) ≡ upd same_atom (merged_in names marks) (name_at names (peer + 1)) true
unfolding IsDistinct upd
merged_set [] marks peer apart same l = absurd (nowhere peer l)
merged_set (own ∷ peers) marks peer apart same l = fun_ext (λ q.
    reads_set (λ mark. mark) false peers marks peer true q apart.1 (shorter (length marks) (length peers) same) (nearer peer (length peers) l)
    ∙ ap (λ k. cond (same_atom (name_at (own ∷ peers) k) q) true (merged_in (own ∷ peers) marks q)) (sym (next peer)))

-- who was merged is
pub merged_stays : (f g : Node → Bool) (p q : Node) → g ≡ upd same_atom f p true → f q ≡ true → g q ≡ true
unfolding upd
merged_stays f g p q e h = ap (λ (k : Node → Bool). k q) e ∙ (ap (λ b. cond (same_atom p q) true b) h ∙ both (same_atom p q))
  where
    both : (b : Bool) → cond b true true ≡ true
    both true = refl
    both false = refl

pub marks_length : (marks : List Bool) (peer n : ℕ) → length marks + 1 ≡ n → length (slice_set marks peer true) + 1 ≡ n
marks_length marks peer n e = ap (λ k. k + 1) (length-set marks peer true) ∙ e

-- an exchange of this peer is refused exactly where the peer is marked
pub refused_is : (names : List Node) (marks : List Bool) (peer : ℕ) (named : Node) → IsDistinct same_atom names → length marks + 1 ≡ length names → peer + 1 < length names
    → same_atom named (name_at names (peer + 1)) ≡ true
    → (slice_get marks peer ≡ Some true) ↔ ((not (same_atom named (name_at names (peer + 1))) || merged_in names marks (name_at names (peer + 1))) ≡ true)
refused_is names marks peer named apart same l is = (
  λ here. told ∙ get_or_from_slice_get marks peer true false here,
  λ bad. slice_get-get_or marks peer false (within (length marks) (length names) same l) ∙ ap Some (sym told ∙ bad),
)
  where
    within : (a b : ℕ) → a + 1 ≡ b → peer + 1 < b → peer < a
    within a b e h = omega arith

    told : (not (same_atom named (name_at names (peer + 1))) || merged_in names marks (name_at names (peer + 1))) ≡ get_or marks peer false
    told = ap (λ b. not b || merged_in names marks (name_at names (peer + 1))) is ∙ merged_at names marks peer apart same l

-- a mark is set beside another
pub both_set : (f g h k : Node → Bool) (p q : Node) → h ≡ upd same_atom f p true → k ≡ upd same_atom g p true
    → (f q ≡ true → g q ≡ true) → h q ≡ true → k q ≡ true
unfolding upd
both_set f g h k p q eh ek passes here = ap (λ (x : Node → Bool). x q) ek ∙ go (same_atom p q) (sym (ap (λ (x : Node → Bool). x q) eh) ∙ here)
  where
    go : (b : Bool) → cond b true (f q) ≡ true → cond b true (g q) ≡ true
    go true e = refl
    go false e = passes e

-- of no peer an exchange was taken
nobody : (ns : List Node) (n : ℕ) (q : Node) → reads (λ mark. mark) false ns (replicate n false) q ≡ false
nobody [] n q = refl
nobody (m ∷ ns) zero q = refl
nobody (m ∷ ns) (suc n) q = ap (λ b. cond (same_atom m q) false b) (nobody ns n q) ∙ both (same_atom m q)
  where
    both : (b : Bool) → cond b false false ≡ false
    both true = refl
    both false = refl

pub nobody_merged : (names : List Node) (n : ℕ) → merged_in names (replicate n false) ≡ (λ q. false)
nobody_merged names n = fun_ext (nobody (drop 1 names) n)

pub nobody_length : (n : ℕ) → length (replicate n false) ≡ n
nobody_length zero = refl
nobody_length (suc n) = ap suc (nobody_length n)
