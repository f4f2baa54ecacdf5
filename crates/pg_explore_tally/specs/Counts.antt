-- How often each of some texts occurs.
use Rattle.std.specs.Prelude.{◌≡◌, ◌≢◌, ℕ, ◌+◌, ◌-◌, ◌^◌, List, cond, slice_get}
use Rattle.std.specs.Prelude.{Option, Some, None, bytes_eq, string_bytes}
use Rattle.std.specs.List.{sum_by}
use Rattle.std.specs.List.Sorted.{IsNonDecreasingBy}
use Rattle.std.proofs.Math.ListN.{set}
use Rattle.pg_explore_tally.specs.declared.counts.Counted.{Counted}

-- how often a row says that a text occurs
abbrev pub times_by : List ℕ → Counted → ℕ
times_by text row = cond (bytes_eq (string_bytes row.text) text) row.count 0

-- how often a text occurs
abbrev pub times : List Counted → List ℕ → ℕ
times rows text = sum_by (times_by text) rows

-- each text has one row
abbrev pub AreOnce : List Counted → Type 0
AreOnce rows = (i j : ℕ) (one other : Counted) → slice_get rows i ≡ Some one → slice_get rows j ≡ Some other → string_bytes one.text ≡ string_bytes other.text → i ≡ j

-- a text occurs once more, and all others as often
pub record IsOneMore (text : List ℕ) (old new : List Counted) : Type 0 where
  pub this : times new text ≡ times old text + 1
  pub others : (other : List ℕ) → other ≢ text → times new other ≡ times old other
  pub once : AreOnce old → AreOnce new

-- the greatest counts come first
abbrev pub IsDescending : List Counted → Type 0
IsDescending rows = IsNonDecreasingBy (λ (row : Counted). 2 ^ 64 - 1 - row.count) rows

-- ---- how the code keeps it

-- the place of a row of a text; None: there is none
abbrev pub IsFound : List Counted → List ℕ → Option ℕ → Type 0
IsFound rows text None = (place : ℕ) (row : Counted) → slice_get rows place ≡ Some row → string_bytes row.text ≢ text
IsFound rows text (Some place) = (row : Counted) × (slice_get rows place ≡ Some row) × (string_bytes row.text ≡ text)

-- the row of a place says one more
abbrev pub with_one : Counted → Counted
with_one row = record { text = row.text; count = row.count + 1 }

abbrev pub IsCountedAt : ℕ → List Counted → List Counted → Type 0
IsCountedAt place old new = (row : Counted) → slice_get old place ≡ Some row → new ≡ set old place (with_one row)
