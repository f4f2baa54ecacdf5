-- The last row.
use Rattle.std.proofs.Common.{◌≡◌, ℕ, suc, ◌+◌, ◌<◌, Bool, true, false, cond, Option, Some, None}
use Rattle.std.proofs.Common.{List, [], ◌∷◌, ◌++◌, length, take, drop, get_or, set, refl, sym}
use Rattle.std.proofs.Common.{ap, subst, ◌∙◌, arith, append_assoc, append-nil, length-append}
use Rattle.std.specs.Prelude.{IfSome, remove}
use Rattle.std.specs.List.{AllByRecursion, flat_map}
use Rattle.std.specs.Ordering.{is_lt}
use Rattle.std.specs.declared.cmp.Ordering.TheVariants.{Less}
use Rattle.pg_term.specs.declared.pid.Pid.{Pid}
use Rattle.pg_term.specs.Same.{same_pid, pid_cmp}
use Rattle.pg_group.specs.Functions.{upd}
use Rattle.pg_group.proofs.Changes.{upd_from}
use Rattle.pg_index_members.specs.declared.row.Row.{Row}
use Rattle.pg_index_members.specs.Rows.{counts_of, total_of, AreRows}
use Rattle.pg_index_members.proofs.Order.{same_is, symm}
use Rattle.pg_index_members.proofs.Flat.{rows_left, rows_across, total-append, counts-append, none_less, all_map}
use Rattle.pg_index_members.proofs.Parts.{around, around_set, around_removed, drop_all}
use Rattle.std.proofs.lemmas.List.{take-set, drop-set-lt}

module _ (rows rest : List Row) (row : Row) (is : rows ≡ rest ++ row ∷ []) where
  pub last_total : total_of rows ≡ total_of rest + row.count
  last_total = let all = total-append rest (row ∷ []) in ap total_of is ∙ omega arith

  pub last_front : AreRows rows → AreRows rest
  last_front h = rows_left rest (row ∷ []) (subst AreRows is h)

  pub last_shorter : length rest < length rows
  last_shorter = let e : length rows ≡ length (rest ++ row ∷ []) = ap length is in omega (arith, length-append {A = Row})

  pub last_counts : AreRows rows → counts_of rest ≡ upd same_pid (counts_of rows) row.pid 0
  last_counts h = upd_from same_pid (counts_of rows) row.pid (counts_of rest) 0 (λ q. go q (same_pid row.pid q) refl)
    where
      none : counts_of rest row.pid ≡ 0
      none = none_less row.pid rest (all_map (λ r. AllByRecursion (λ s. pid_cmp r.pid s.pid ≡ Less) (row ∷ [])) (λ r. is_lt (pid_cmp r.pid row.pid) ≡ true) (λ r f. ap is_lt f.0) rest (rows_across rest (row ∷ []) (subst AreRows is h)))

      go : (q : Pid) (t : Bool) → same_pid row.pid q ≡ t → counts_of rest q ≡ cond t 0 (counts_of rows q)
      go q true e = ap (counts_of rest) (sym (same_is row.pid q e)) ∙ none
      go q false e =
          let other : cond (same_pid q row.pid) row.count 0 ≡ 0 = ap (λ b. cond b row.count 0) (symm q row.pid ∙ e) in
          let all : counts_of rows q ≡ counts_of (rest ++ row ∷ []) q = ap (λ l. counts_of l q) is in
          let both = counts-append rest (row ∷ []) q in
          omega arith

pub counts_if : (old new : List Row) (result : Option Row) → IfSome result (λ row. old ≡ new ++ row ∷ []) → AreRows old → IfSome result (λ row. counts_of new ≡ upd same_pid (counts_of old) row.pid 0)
counts_if old new None h r = tt
counts_if old new (Some row) h r = last_counts old new row h r

module _ {P : Type 0} (rows : P → List Row) (parts : List P) (i : ℕ) (part next : P) (last : suc i ≡ length parts) (is : part ≡ get_or parts i part) where
  abbrev front : List Row
  front = flat_map rows (take i parts)

  end : flat_map rows (drop (suc i) parts) ≡ []
  end = ap (flat_map rows) (drop_all rows parts (suc i) (omega arith))

  whole : flat_map rows parts ≡ front ++ rows part
  whole = around rows parts i part (omega arith) is ∙ ap (λ l. front ++ (rows part ++ l)) end ∙ ap (λ l. front ++ l) (append-nil (rows part))

  written : flat_map rows (set parts i next) ≡ front ++ rows next
  written = around_set rows parts i next (omega arith) ∙ ap (λ l. front ++ (rows next ++ l)) end ∙ ap (λ l. front ++ l) (append-nil (rows next))

  removed : rows next ≡ [] → flat_map rows (remove (set parts i next) i) ≡ front ++ rows next
  removed none =
      ap (flat_map rows) (λ j. take-set parts i next j ++ drop-set-lt (suc i) parts i next (omega arith) j)
      ∙ around_removed rows parts i
      ∙ ap (λ l. front ++ l) (end ∙ sym none)

  taken_from : (row : Row) → rows part ≡ rows next ++ row ∷ [] → flat_map rows parts ≡ (front ++ rows next) ++ row ∷ []
  taken_from row e = whole ∙ ap (λ l. front ++ l) e ∙ sym (append_assoc front (rows next) (row ∷ []))

  pub last_left : (result : Option Row) → IfSome result (λ row. rows part ≡ rows next ++ row ∷ []) → IfSome result (λ row. flat_map rows parts ≡ flat_map rows (set parts i next) ++ row ∷ [])
  last_left None h = tt
  last_left (Some row) h = taken_from row h ∙ ap (λ l. l ++ row ∷ []) (sym written)

  pub last_removed : (result : Option Row) → rows next ≡ [] → IfSome result (λ row. rows part ≡ rows next ++ row ∷ []) → IfSome result (λ row. flat_map rows parts ≡ flat_map rows (remove (set parts i next) i) ++ row ∷ [])
  last_removed None none h = tt
  last_removed (Some row) none h = taken_from row h ∙ ap (λ l. l ++ row ∷ []) (sym (removed none))
