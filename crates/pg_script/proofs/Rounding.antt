-- Rounds, part by part.
use Rattle.std.proofs.Common.{◌≡◌, ℕ, suc, ◌+◌, ◌<◌, Bool, true, false, ◌||◌, nat_eq, inr, subst, sym, refl, arith}
use Rattle.std.proofs.lemmas.Bool.{eq-eqb, ne_eqb}
use Rattle.pg_script.specs.Rounds.{AllMoved, RoundPasses, PassesIf, Round, RowFrom, Rows, Settles, View}

pub passes_no_one : (from to : ℕ) (view : View) → from ≡ to → PassesIf (nat_eq from to) from to false view view
passes_no_one from to view same = subst (λ b. PassesIf b from to false view view) (sym (eq-eqb from to same)) (record { none = refl; same = refl })

pub passes_on : (from to : ℕ) (moved : Bool) (old new : View) → (from ≡ to → ⊥) → RoundPasses from to moved old new → PassesIf (nat_eq from to) from to moved old new
passes_on from to moved old new other passes = subst (λ b. PassesIf b from to moved old new) (sym (ne_eqb from to other)) passes

pub row_more : (from to : ℕ) (moved was next : Bool) (old mid new : View) → RowFrom from to moved old mid → PassesIf (nat_eq from to) from to was mid new → next ≡ (moved || was)
    → RowFrom from (to + 1) next old new
row_more from to moved was next old mid new begins ends is =
    let more : suc to ≡ to + 1 = omega arith in
    subst (λ n. RowFrom from n next old new) more (record { between = mid; one = moved; other = was; begins = begins; ends = ends; is = is })

pub rows_more : (nodes from : ℕ) (moved was next : Bool) (old mid new : View) → Rows nodes from moved old mid → RowFrom from nodes was mid new → next ≡ (moved || was)
    → Rows nodes (from + 1) next old new
rows_more nodes from moved was next old mid new begins ends is =
    let more : suc from ≡ from + 1 = omega arith in
    subst (λ n. Rows nodes n next old new) more (record { between = mid; one = moved; other = was; begins = begins; ends = ends; is = is })

pub one_round_more : (nodes rounds : ℕ) (moved : Bool) (old mid new : View) → moved ≡ true → AllMoved nodes rounds old mid → Round nodes moved mid new → AllMoved nodes (rounds + 1) old new
one_round_more nodes rounds moved old mid new is begins ends =
    let more : suc rounds ≡ rounds + 1 = omega arith in
    subst (λ n. AllMoved nodes n old new) more (record { between = mid; begins = begins; ends = subst (λ b. Round nodes b mid new) is ends })

pub rests : (nodes rounds before : ℕ) (moved : Bool) (old mid new : View) → moved ≡ false → before < rounds → AllMoved nodes before old mid → Round nodes moved mid new → Settles nodes rounds old new
rests nodes rounds before moved old mid new is fewer begins ends =
    inr (record { before = before; fewer = fewer; rests = record { between = mid; begins = begins; ends = subst (λ b. Round nodes b mid new) is ends } })
