-- The arrows of some events, and of one more.
use Rattle.std.proofs.Common.{◌≡◌, ℕ, ◌+◌, ◌<◌, ◌≤◌, Bool, true, false, cond, nat_eq, length, List, [], ◌∷◌}
use Rattle.std.proofs.Common.{◌++◌, Option, Some, None, get_or, slice_set, zero, suc, refl, sym, ap, ◌∙◌, arith}
use Rattle.std.proofs.lemmas.Bool.{eq-eqb, ne_eqb}
use Rattle.pg_script_diagram.specs.declared.arrows.Arrow.{Arrow}
use Rattle.pg_script_diagram.specs.declared.data.Event.{Event}
use Rattle.pg_script_diagram.specs.declared.data.Event.TheVariants as events
use Rattle.pg_script_diagram.specs.declared.data.Topic.{Topic}
use Rattle.pg_script_diagram.specs.Arrows.{taken_row, arrows_from, lands, landed, with_event}

-- ---- a packet is taken

-- one that none of these is
past : (packet row first : ℕ) (xs : List Arrow) → packet < first → landed packet row first xs ≡ xs
past packet row first [] lt = refl
past packet row first (x ∷ xs) lt = ap (λ b. cond b (lands row x) x ∷ landed packet row (first + 1) xs) (ne_eqb packet first (omega (arith, lt))) ∙ ap (λ ys. x ∷ ys) (past packet row (first + 1) xs (omega (arith, lt)))

pub beyond : (packet row first : ℕ) (xs : List Arrow) → first + length xs ≤ packet → xs ≡ landed packet row first xs
beyond packet row first [] le = refl
beyond packet row first (x ∷ xs) le =
    sym (ap (λ b. cond b (lands row x) x ∷ landed packet row (first + 1) xs) (ne_eqb packet first (omega (arith, le))) ∙ ap (λ ys. x ∷ ys) (sym (beyond packet row (first + 1) xs (omega (arith, le)))))

-- one at a place
pub there : (packet row first : ℕ) (xs : List Arrow) (k : ℕ) (d : Arrow) → packet ≡ first + k → k < length xs → slice_set xs k (lands row (get_or xs k d)) ≡ landed packet row first xs
there packet row first [] k d is lt = absurd (omega (arith, lt))
there packet row first (x ∷ xs) zero d is lt =
    sym (ap (λ b. cond b (lands row x) x ∷ landed packet row (first + 1) xs) (eq-eqb packet first (omega (arith, is))) ∙ ap (λ ys. lands row x ∷ ys) (past packet row (first + 1) xs (omega (arith, is))))
there packet row first (x ∷ xs) (suc k) d is lt =
    ap (λ ys. x ∷ ys) (there packet row (first + 1) xs k d (omega (arith, is)) (omega (arith, lt)))
    ∙ sym (ap (λ b. cond b (lands row x) x ∷ landed packet row (first + 1) xs) (ne_eqb packet first (omega (arith, is))))

-- ---- one event more

abbrev or_else : Option ℕ → Option ℕ → Option ℕ
or_else (Some row) other = Some row
or_else None other = other

or_none : (o : Option ℕ) → or_else o None ≡ o
or_none (Some row) = refl
or_none None = refl

module _ (e : Event) where
  taken_more : (packet row : ℕ) (xs : List Event) → taken_row packet row (xs ++ e ∷ []) ≡ or_else (taken_row packet row xs) (taken_row packet (row + length xs) (e ∷ []))
  taken_more packet row [] = ap (λ n. taken_row packet n (e ∷ [])) (omega arith)
  taken_more packet row (events.Taken other ∷ xs) = go (nat_eq other packet) (taken_more packet (row + 1) xs)
    where
      go : (b : Bool) → taken_row packet (row + 1) (xs ++ e ∷ []) ≡ or_else (taken_row packet (row + 1) xs) (taken_row packet (row + 1 + length xs) (e ∷ []))
          → cond b (Some row) (taken_row packet (row + 1) (xs ++ e ∷ [])) ≡ or_else (cond b (Some row) (taken_row packet (row + 1) xs)) (taken_row packet (row + length (events.Taken other ∷ xs)) (e ∷ []))
      go true more = refl
      go false more = more ∙ ap (λ n. or_else (taken_row packet (row + 1) xs) (taken_row packet n (e ∷ []))) (omega arith)
  taken_more packet row (events.Line line ∷ xs) = taken_more packet (row + 1) xs ∙ ap (λ n. or_else (taken_row packet (row + 1) xs) (taken_row packet n (e ∷ []))) (omega arith)
  taken_more packet row (events.Sent from to topic label ∷ xs) = taken_more packet (row + 1) xs ∙ ap (λ n. or_else (taken_row packet (row + 1) xs) (taken_row packet n (e ∷ []))) (omega arith)
  taken_more packet row (events.Note node label ∷ xs) = taken_more packet (row + 1) xs ∙ ap (λ n. or_else (taken_row packet (row + 1) xs) (taken_row packet n (e ∷ []))) (omega arith)
  taken_more packet row (events.Lost node ∷ xs) = taken_more packet (row + 1) xs ∙ ap (λ n. or_else (taken_row packet (row + 1) xs) (taken_row packet n (e ∷ []))) (omega arith)

-- what an event makes of arrows of which the first has this number
abbrev with_from : (first row : ℕ) → Event → List Arrow → List Arrow
with_from first row (events.Sent from to topic label) arrows = arrows ++ record { from = from; to = to; topic = topic; start = row; end = None } ∷ []
with_from first row (events.Taken packet) arrows = landed packet row first arrows
with_from first row event arrows = arrows

from_zero : (row : ℕ) (e : Event) (arrows : List Arrow) → with_from 0 row e arrows ≡ with_event row e arrows
from_zero row (events.Sent from to topic label) arrows = refl
from_zero row (events.Taken packet) arrows = refl
from_zero row (events.Line line) arrows = refl
from_zero row (events.Note node label) arrows = refl
from_zero row (events.Lost node) arrows = refl

module _ (from to : ℕ) (topic : Topic) (start : ℕ) where
  abbrev arrow : Option ℕ → Arrow
  arrow end = record { from = from; to = to; topic = topic; start = start; end = end }

  -- behind an arrow that is there
  joined : (first row : ℕ) (e : Event) (o : Option ℕ) (xs : List Arrow) → arrow (or_else o (taken_row first row (e ∷ []))) ∷ with_from (first + 1) row e xs ≡ with_from first row e (arrow o ∷ xs)
  joined first row (events.Sent f t c l) o xs = ap (λ p. arrow p ∷ with_from (first + 1) row (events.Sent f t c l) xs) (or_none o)
  joined first row (events.Taken packet) o xs = go (nat_eq packet first) o
    where
      go : (b : Bool) (o : Option ℕ) → arrow (or_else o (cond b (Some row) None)) ∷ landed packet row (first + 1) xs ≡ cond b (lands row (arrow o)) (arrow o) ∷ landed packet row (first + 1) xs
      go true (Some x) = refl
      go true None = refl
      go false (Some x) = refl
      go false None = refl
  joined first row (events.Line line) o xs = ap (λ p. arrow p ∷ xs) (or_none o)
  joined first row (events.Note node label) o xs = ap (λ p. arrow p ∷ xs) (or_none o)
  joined first row (events.Lost node) o xs = ap (λ p. arrow p ∷ xs) (or_none o)

module _ (e : Event) where
  first_more : (packet row : ℕ) (e : Event) → arrows_from packet row (e ∷ []) ≡ with_from packet (row + 0) e []
  first_more packet row (events.Sent from to topic label) = ap (λ n. record { from = from; to = to; topic = topic; start = n; end = None } ∷ []) (omega arith)
  first_more packet row (events.Taken other) = refl
  first_more packet row (events.Line line) = refl
  first_more packet row (events.Note node label) = refl
  first_more packet row (events.Lost node) = refl

  arrows_more : (packet row : ℕ) (xs : List Event) → arrows_from packet row (xs ++ e ∷ []) ≡ with_from packet (row + length xs) e (arrows_from packet row xs)
  arrows_more packet row [] = first_more packet row e
  arrows_more packet row (events.Sent from to topic label ∷ xs) =
      ap (λ o. arrow from to topic row o ∷ arrows_from (packet + 1) (row + 1) (xs ++ e ∷ [])) (taken_more e packet (row + 1) xs)
      ∙ ap (λ ys. arrow from to topic row (or_else (taken_row packet (row + 1) xs) (taken_row packet (row + 1 + length xs) (e ∷ []))) ∷ ys) (arrows_more (packet + 1) (row + 1) xs)
      ∙ joined from to topic row packet (row + 1 + length xs) e (taken_row packet (row + 1) xs) (arrows_from (packet + 1) (row + 1) xs)
      ∙ ap (λ n. with_from packet n e (arrow from to topic row (taken_row packet (row + 1) xs) ∷ arrows_from (packet + 1) (row + 1) xs)) (omega arith)
  arrows_more packet row (events.Taken other ∷ xs) = arrows_more packet (row + 1) xs ∙ ap (λ n. with_from packet n e (arrows_from packet (row + 1) xs)) (omega arith)
  arrows_more packet row (events.Line line ∷ xs) = arrows_more packet (row + 1) xs ∙ ap (λ n. with_from packet n e (arrows_from packet (row + 1) xs)) (omega arith)
  arrows_more packet row (events.Note node label ∷ xs) = arrows_more packet (row + 1) xs ∙ ap (λ n. with_from packet n e (arrows_from packet (row + 1) xs)) (omega arith)
  arrows_more packet row (events.Lost node ∷ xs) = arrows_more packet (row + 1) xs ∙ ap (λ n. with_from packet n e (arrows_from packet (row + 1) xs)) (omega arith)

pub one_more : (xs : List Event) (e : Event) → arrows_from 0 0 (xs ++ e ∷ []) ≡ with_event (length xs) e (arrows_from 0 0 xs)
one_more xs e = arrows_more e 0 0 xs ∙ ap (λ n. with_from 0 n e (arrows_from 0 0 xs)) (omega arith) ∙ from_zero (length xs) e (arrows_from 0 0 xs)
