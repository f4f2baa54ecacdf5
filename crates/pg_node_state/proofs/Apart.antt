-- Two names that differ, and a node that starts with them and no group.
use Rattle.std.proofs.Common.{◌≡◌, ◌≤◌, arith, ℕ, true, false, List, [], ◌∷◌, rules}
use Rattle.std.proofs.Common.{length, None, Result, Ok, Err, refl, sym, ap, subst, ◌∙◌}
use Rattle.std.specs.Prelude.{IfOk, ◌==◌}
use Rattle.std.specs.List.{IsDistinct}
use Rattle.std.specs.Str.{chars, encode_utf8_all}
use Rattle.std.proofs.lemmas.Str.{chars-IsAscii}
use Rattle.std.proofs.lemmas.List.{nil_from_length}
use Rattle.std.proofs.lemmas.Bool.{eqb-true}
use Rattle.pg_term.specs.declared.fault.TermFault.{TermFault}
use Rattle.pg_term.specs.declared.pid.Pid.{Pid}
use Rattle.pg_term.specs.declared.term.Term.{Term}
use Rattle.pg_term.specs.Fault.{Gives, checked_atom}
use Rattle.pg_term.specs.Same.{same_atom}
use Rattle.pg_node_ports.specs.PgGroup.Table.{Table}
use Rattle.pg_node_ports.specs.PgGroup.Value.{count_in}
use Rattle.pg_node_ports.specs.PgStep.Nodes.{Node}

-- ---- names

-- text of no bytes is the empty name
pub empty_name : (text name : List ℕ) → chars text ≡ name → (length text == 0) ≡ true → name ≡ []
unfolding chars
empty_name text name is none = sym is ∙ ap chars (nil_from_length text (eqb-true (length text) 0 none))

-- and no other
pub some_name : (text name : List ℕ) → text ≡ encode_utf8_all name → (length text == 0) ≡ false → name ≡ [] → ⊥
some_name text name is some none = let e : (length (encode_utf8_all []) == 0) ≡ false = subst (λ (n : List ℕ). (length (encode_utf8_all n) == 0) ≡ false) none (subst (λ (t : List ℕ). (length t == 0) ≡ false) is some) in cc e

letter : chars (97 ∷ []) ≡ 97 ∷ []
letter = chars-IsAscii (97 ∷ []) (search rules)

nothing : chars [] ≡ []
unfolding chars
nothing = refl

-- the name of this letter is not the empty one
pub letter_apart : (r : Result (List ℕ) TermFault) (name : List ℕ) → Gives (λ a. a) r (checked_atom (chars (97 ∷ []))) → name ≡ [] → IfOk r (λ other. same_atom other name ≡ false)
letter_apart (Ok other) name gives none = (λ i. same_atom (is i) (none i))
  where
    is : other ≡ 97 ∷ []
    is = let given : Ok other ≡ checked_atom (97 ∷ []) = sym gives ∙ ap checked_atom letter in cc
letter_apart (Err fault) name gives none = tt

-- the empty name is none that has characters
pub empty_apart : (r : Result (List ℕ) TermFault) (name : List ℕ) → Gives (λ a. a) r (checked_atom (chars [])) → (name ≡ [] → ⊥) → IfOk r (λ other. same_atom other name ≡ false)
empty_apart (Ok other) name gives some = go name some
  where
    is : other ≡ []
    is = let given : Ok other ≡ checked_atom [] = sym gives ∙ ap checked_atom nothing in cc

    go : (name : List ℕ) → (name ≡ [] → ⊥) → same_atom other name ≡ false
    go [] some = absurd (some refl)
    go (x ∷ xs) some = ap (λ (a : List ℕ). same_atom a (x ∷ xs)) is
empty_apart (Err fault) name gives some = tt

-- ---- a node that starts

pub two_apart : (own peer : Node) (peers : List Node) → peers ≡ peer ∷ [] → same_atom own peer ≡ false → IsDistinct same_atom (own ∷ peers)
unfolding IsDistinct
two_apart own peer peers is apart = subst (λ (ns : List Node). IsDistinct same_atom (own ∷ ns)) (sym is) ((apart, tt), (tt, tt))

-- where there is no group nobody is a member
pub few_in_none : (table : Table) → table ≡ (λ name. None) → (name : Term) (pid : Pid) → count_in (table name) pid ≤ 4294967296
few_in_none table is name pid = subst (λ (t : Table). count_in (t name) pid ≤ 4294967296) (sym is) (omega arith)
