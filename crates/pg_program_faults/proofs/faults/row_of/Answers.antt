use Rattle.std.proofs.Common.{◌≡◌, ◌∙◌, ap, refl, rules, ℕ, true, false, cond, ◌||◌, List, [], ◌∷◌, map, eqb}
use Rattle.std.proofs.Common.{Option, Some, None}
use Rattle.std.proofs.lemmas.Iterator.{YieldsList-from_slice}
use Rattle.std.proofs.lemmas.Iterator.Search.{find_from_yields_List}
use Rattle.std.specs.List.{find, list_any}
use Rattle.std.specs.Option.{is_some, option_map}
use Rattle.std.specs.Slice.Iter.{iter_rest}
use borrow.Author.Tests.{tests}
use Rattle.pg_program_faults.specs.declared.faults.FaultRow.{FaultRow}
use Rattle.pg_program_faults.proofs.faults.row_of.Goals as goal

some_mapped : {A B : Type 0} (v : A → B) (o : Option A) → is_some o ≡ is_some (option_map v o)
some_mapped v None = refl
some_mapped v (Some x) = refl

-- a row is found where one has the number
found_any : (number : ℕ) (rows : List FaultRow) → is_some (find (λ (row : FaultRow). eqb row.number number) rows) ≡ list_any (λ known. eqb known number) (map (λ (row : FaultRow). row.number) rows)
found_any number [] = refl
found_any number (row ∷ rows) =
    elim (eqb row.number number) as (λ b. is_some (cond b (Some row) (find (λ (r : FaultRow). eqb r.number number) rows)) ≡ (b || list_any (λ known. eqb known number) (map (λ (r : FaultRow). r.number) rows)))
    [ true ↦ refl | false ↦ found_any number rows ]

pub returns-clause-known : goal.returns-clause-known
returns-clause-known c =
    let rows = iter_rest c.iter.result in
    let found : option_map (λ row. row.now) c.find.result ≡ find (λ (row : FaultRow). eqb row.number c.args.number) rows = find_from_yields_List (λ (row : FaultRow). eqb row.number c.args.number) _ _ c.find.result c.find.ensures.ran (YieldsList-from_slice rows refl) (λ x b q k. search (rules, tests)) in
    some_mapped (λ row. row.now) c.find.result ∙ ap is_some found ∙ found_any c.args.number rows
    ∙ ap (λ (rs : List FaultRow). list_any (λ known. eqb known c.args.number) (map (λ (row : FaultRow). row.number) rs)) c.iter.ensures.rest
