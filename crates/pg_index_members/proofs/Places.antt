-- The members, each as often as its count, by place.
use Rattle.std.proofs.Common.{◌≡◌, ℕ, suc, ◌+◌, ◌-◌, ◌<◌, ◌≤◌, Bool, true, false, cond, Some, List, [], ◌∷◌}
use Rattle.std.proofs.Common.{◌++◌, length, get_or, take, drop, add-one, append_assoc, refl, sym, ap, ◌∙◌, arith}
use Rattle.std.specs.Prelude.{slice_get}
use Rattle.std.proofs.Math.Seq.{drop-cons}
use Rattle.std.proofs.lemmas.List.{take-append-drop}
use Rattle.std.specs.List.{AllByRecursion}
use Rattle.pg_term.specs.declared.pid.Pid.{Pid}
use Rattle.pg_group.specs.Scope.{anywhere}
use Rattle.pg_index_members.specs.declared.row.Row.{Row}
use Rattle.pg_group.specs.Members.{put}
use Rattle.pg_group.proofs.Put.{length-put, get-put_low, get-put_high, put-append}
use Rattle.pg_index_members.specs.Rows.{total_of, spread, IsCut}

-- all members of some rows
pub length-all : (rows : List Row) → length (spread anywhere rows) ≡ total_of rows
length-all [] = refl
length-all (r ∷ rs) = let e = length-all rs in let f = length-put r.count r.pid (spread anywhere rs) in omega arith

-- those that stand before an edge
pub length-front : (p : Pid → Bool) (a b : List Row) → AllByRecursion (λ r. p r.pid ≡ true) a → AllByRecursion (λ r. p r.pid ≡ false) b → length (spread p (a ++ b)) ≡ total_of a
length-front p [] [] h k = refl
length-front p [] (r ∷ b) h k = ap (λ t. length (put (cond t r.count 0) r.pid (spread p b))) k.0 ∙ length-front p [] b tt k.1
length-front p (r ∷ a) b h k = ap (λ t. length (put (cond t r.count 0) r.pid (spread p (a ++ b)))) h.0 ∙ (let e = length-front p a b h.1 k in let f = length-put r.count r.pid (spread p (a ++ b)) in omega arith)

-- a place within the first row, and one past it
pub place_here : (r : Row) (rs : List Row) (i : ℕ) → i < r.count → slice_get (spread anywhere (r ∷ rs)) i ≡ Some r.pid
place_here r rs i h = get-put_low r.count r.pid (spread anywhere rs) i h

pub place_later : (r : Row) (rs : List Row) (i : ℕ) → r.count ≤ i → slice_get (spread anywhere (r ∷ rs)) i ≡ slice_get (spread anywhere rs) (i - r.count)
place_later r rs i h = get-put_high r.count r.pid (spread anywhere rs) i h

-- a walk over rows that are told twice
module _ (rows items : List Row) (same : items ≡ rows) (i : ℕ) (row : Row) (left : ℕ) (within : i < length items) (is : row ≡ get_or items i row) where
  next : drop i rows ≡ row ∷ drop (suc i) rows
  next = ap (drop i) (sym same) ∙ drop-cons items i row within ∙ (let back = sym is in λ j. back j ∷ drop (suc i) (same j))

  pub found_here : left < row.count → Some row.pid ≡ slice_get (spread anywhere (drop i rows)) left
  found_here h = sym (ap (λ l. slice_get (spread anywhere l) left) next ∙ place_here row (drop (suc i) rows) left h)

  pub found_later : row.count ≤ left → slice_get (spread anywhere (drop (i + 1) rows)) (left - row.count) ≡ slice_get (spread anywhere (drop i rows)) left
  found_later h = ap (λ n. slice_get (spread anywhere (drop n rows)) (left - row.count)) (add-one i) ∙ sym (ap (λ l. slice_get (spread anywhere l) left) next ∙ place_later row (drop (suc i) rows) left h)

-- what stands before an edge where a search stopped
pub length-cut : (p : Pid → Bool) (rows : List Row) (at : ℕ) → IsCut p rows at → length (spread p rows) ≡ total_of (take at rows)
length-cut p rows at cut = ap (λ l. length (spread p l)) (sym (take-append-drop at rows)) ∙ length-front p (take at rows) (drop at rows) cut.front cut.rest

-- ---- lists, one after the other

pub spread-append : (p : Pid → Bool) (a b : List Row) → spread p (a ++ b) ≡ spread p a ++ spread p b
spread-append p [] b = refl
spread-append p (r ∷ a) b = ap (put (cond (p r.pid) r.count 0) r.pid) (spread-append p a b) ∙ sym (put-append (cond (p r.pid) r.count 0) r.pid (spread p a) (spread p b))

-- a walk over rows that lists those of a scope
module _ (among : Pid → Bool) (rows items : List Row) (same : items ≡ rows) (i : ℕ) (row : Row) (within : i < length items) (is : row ≡ get_or items i row) where
  scope_next : spread among (drop i rows) ≡ put (cond (among row.pid) row.count 0) row.pid (spread among (drop (suc i) rows))
  scope_next = ap (spread among) (ap (drop i) (sym same) ∙ drop-cons items i row within ∙ (let back = sym is in λ j. back j ∷ drop (suc i) (same j)))

  pub listed_more : among row.pid ≡ true → (told now all : List Pid) → now ≡ told ++ put row.count row.pid [] → told ++ spread among (drop i rows) ≡ all → now ++ spread among (drop (i + 1) rows) ≡ all
  listed_more t told now all e h =
      (λ j. e j ++ spread among (drop (add-one i j) rows))
      ∙ append_assoc told (put row.count row.pid []) (spread among (drop (suc i) rows))
      ∙ ap (λ l. told ++ l) (put-append row.count row.pid [] (spread among (drop (suc i) rows)) ∙ sym (scope_next ∙ ap (λ b. put (cond b row.count 0) row.pid (spread among (drop (suc i) rows))) t))
      ∙ h

  pub listed_same : among row.pid ≡ false → (told all : List Pid) → told ++ spread among (drop i rows) ≡ all → told ++ spread among (drop (i + 1) rows) ≡ all
  listed_same t told all h =
      ap (λ n. told ++ spread among (drop n rows)) (add-one i)
      ∙ ap (λ l. told ++ l) (sym (scope_next ∙ ap (λ b. put (cond b row.count 0) row.pid (spread among (drop (suc i) rows))) t))
      ∙ h

-- none of the rows is of the scope
pub spread_none : (among : Pid → Bool) (rows : List Row) → AllByRecursion (λ r. among r.pid ≡ false) rows → spread among rows ≡ []
spread_none among [] h = refl
spread_none among (r ∷ rs) h = ap (λ t. put (cond t r.count 0) r.pid (spread among rs)) h.0 ∙ spread_none among rs h.1
