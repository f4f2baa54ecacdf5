-- A node is formed where each peer is marked, if those that are lost are.
use Rattle.std.proofs.Common.{◌≡◌, ℕ, ◌+◌, suc, zero, Bool, true, false, not, ◌&&◌, cond}
use Rattle.std.proofs.Common.{drop, List, [], ◌∷◌, length, refl, sym, ap, ◌∙◌, arith}
use Rattle.std.specs.List.{AllByRecursion, IsDistinct, list_all, filter}
use Rattle.std.proofs.lemmas.Cmp.{nat_list_eq_equiv}
use Rattle.pg_term.specs.Same.{same_atom}
use Rattle.pg_node_ports.specs.PgStep.Nodes.{Node}
use Rattle.pg_node_ports.specs.PgNodeOpens.Places.{reads}
use Rattle.pg_node_state.specs.Ports.{merged_in}

-- what is said of others does not change for a name that stands before them
others_same : (n : Node) (x : Bool) (f : Node → Bool) (ns : List Node) → AllByRecursion (λ y. same_atom n y ≡ false) ns
    → list_all (λ q. cond (same_atom n q) x (f q)) ns ≡ list_all f ns
others_same n x f [] apart = refl
others_same n x f (m ∷ ns) apart = (λ i. cond (apart.0 i) x (f m) && others_same n x f ns apart.1 i)

all_marked : (ns : List Node) (marks : List Bool) → IsDistinct same_atom ns → length marks ≡ length ns
    → list_all (λ mark. mark) marks ≡ list_all (reads (λ mark. mark) false ns marks) ns
unfolding IsDistinct
all_marked [] [] apart same = refl
all_marked [] (mark ∷ marks) apart same = absurd (cc)
all_marked (n ∷ ns) [] apart same = absurd (cc)
all_marked (n ∷ ns) (mark ∷ marks) apart same = (λ i. cond (sym (nat_list_eq_equiv.refl n) i) mark (reads (λ m. m) false ns marks n)
    && (all_marked ns marks apart.1 (shorter (length marks) (length ns) same) ∙ sym (others_same n mark (reads (λ m. m) false ns marks) ns apart.0)) i)
  where
    shorter : (a b : ℕ) → suc a ≡ suc b → a ≡ b
    shorter a b e = omega arith

-- those who are left of some, where the others pass
pub all_left : (lost test : Node → Bool) (ns : List Node) → ((q : Node) → lost q ≡ true → test q ≡ true)
    → list_all test ns ≡ list_all test (filter (λ q. not (lost q)) ns)
all_left lost test [] passes = refl
all_left lost test (n ∷ ns) passes = one (lost n) (list_all test ns) (filter (λ q. not (lost q)) ns) (passes n) (all_left lost test ns passes)
  where
    one : (b all : Bool) (others : List Node) → (b ≡ true → test n ≡ true) → all ≡ list_all test others
        → test n && all ≡ list_all test (cond (not b) (n ∷ others) others)
    one true all others passes same = ap (λ u. u && all) (passes refl) ∙ same
    one false all others passes same = ap (λ u. test n && u) same

pub formed_is : (names : List Node) (lost : Node → Bool) (marks : List Bool) → IsDistinct same_atom names → length marks + 1 ≡ length names
    → ((q : Node) → lost q ≡ true → merged_in names marks q ≡ true)
    → list_all (λ mark. mark) marks ≡ list_all (merged_in names marks) (filter (λ q. not (lost q)) (drop 1 names))
unfolding IsDistinct
formed_is [] lost marks apart same forgotten = absurd (none (length marks) same)
  where
    none : (n : ℕ) → n + 1 ≡ zero → ⊥
    none n e = omega arith
formed_is (own ∷ peers) lost marks apart same forgotten =
    all_marked peers marks apart.1 (shorter (length marks) (length peers) same) ∙ all_left lost (merged_in (own ∷ peers) marks) peers forgotten
  where
    shorter : (a b : ℕ) → a + 1 ≡ suc b → a ≡ b
    shorter a b e = omega arith
