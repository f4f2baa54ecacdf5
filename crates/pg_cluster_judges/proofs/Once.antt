-- Logs are merged in one order.
use Rattle.std.proofs.Common.{◌≡◌, ℕ, ◌+◌, List, [], ◌∷◌, refl, ap, sym, ◌∙◌, subst, arith}
use Rattle.pg_world.specs.PgStep.Machines.Places.{set_at}
use Rattle.pg_cluster_judges.specs.Merge.{ComesFirst, IsNext, rest_of, MergesRest}

same_next : (size : ℕ) (rest : ℕ → List ℕ) (i j : ℕ) → IsNext size rest i → IsNext size rest j → i ≡ j
same_next size rest i j a b =
    let one : ComesFirst a.clock i b.clock j = a.first j b.clock b.later b.there b.next in
    let other : ComesFirst b.clock j a.clock i = b.first i a.clock a.later a.there a.next in
    let clocks : a.clock ≡ b.clock = omega (arith, one.clocks, other.clocks) in
    omega (arith, one.places clocks, other.places (sym clocks))

pub one_order : (size : ℕ) (clocks : ℕ → List ℕ) (read : ℕ → ℕ) (order others : List (ℕ × ℕ)) → MergesRest size clocks read order → MergesRest size clocks read others → order ≡ others
one_order size clocks read [] [] a b = refl
one_order size clocks read [] (y ∷ others) a b =
    let next : IsNext size (rest_of clocks read) y.0 = b.1 in
    let no : next.clock ∷ next.later ≡ [] = sym next.next ∙ a y.0 next.there in
    absurd (cc)
one_order size clocks read (x ∷ order) [] a b =
    let next : IsNext size (rest_of clocks read) x.0 = a.1 in
    let no : next.clock ∷ next.later ≡ [] = sym next.next ∙ b x.0 next.there in
    absurd (cc)
one_order size clocks read (x ∷ order) (y ∷ others) a b =
    let logs : x.0 ≡ y.0 = same_next size (rest_of clocks read) x.0 y.0 a.1 b.1 in
    let places : x.1 ≡ y.1 = a.0 ∙ (ap read logs ∙ sym b.0) in
    let same : x ≡ y = λ i. (logs i, places i) in
    ap (λ z. z ∷ order) same ∙ ap (λ zs. y ∷ zs)
    (one_order size clocks (set_at read y.0 (y.1 + 1)) order others (subst (λ (z : ℕ × ℕ). MergesRest size clocks (set_at read z.0 (z.1 + 1)) order) same a.2) b.2)
