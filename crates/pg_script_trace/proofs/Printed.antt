-- A line that was printed.
use Rattle.std.proofs.Common.{◌≡◌, ℕ, List, true, Result, Ok, Err, is_ok, OnOk, String, Global, refl}
use Rattle.std.specs.declared.alloc.AllocError.{AllocError}
use Rattle.pg_text.specs.Writing.{GrowsBy}
use Rattle.pg_script_lines.specs.declared.rows.Row.{Row}
use Rattle.pg_script_lines.specs.declared.rows.Widths.{Widths}
use Rattle.pg_script_lines.specs.Rows.{row_line}
use Rattle.pg_script_trace.specs.declared.letter.Letter.{Letter}
use Rattle.pg_script_trace.specs.declared.seen.Seen.{Seen}
use Rattle.pg_script_trace.specs.declared.seen.Seen.TheVariants.{Put, Pulled, NotThere, Taken, Came, Tried, Sent}
use Rattle.pg_script_trace.specs.declared.seen.Seen.TheVariants.{Granted, Freed, Denied, Waits, Answered, LossSeen, Lost}
use Rattle.pg_script_trace.specs.Traces.{Appends, IsLine, NodeNames, PrintsSight}

-- a row that was filled, and printed
pub prints_row : (widths : Widths) (is_row : Row → Type 0) (row : Row) (old new : List ℕ) (filled printed : Result (Unit {0}) AllocError)
    → OnOk printed (is_ok filled ≡ true) → OnOk filled (is_row row) → OnOk printed (GrowsBy (row_line widths row) old new) → OnOk printed (Appends widths is_row old new)
prints_row widths is_row row old new (Ok done) (Ok printed) good is adds = record { row = row; is = is; adds = adds }
prints_row widths is_row row old new (Err error) (Ok printed) good is adds = absurd (cc)
prints_row widths is_row row old new filled (Err error) good is adds = adds

-- what is no answer has a line
pub prints_sight : (widths : Widths) (names : NodeNames) (letters : List Letter) (line : ℕ) (seen : Seen) (old new : List ℕ)
    → ((node number : ℕ) → (text : String Global) → seen ≡ Answered node number text → ⊥)
    → Appends widths (IsLine names letters line seen) old new → PrintsSight widths names letters line seen old new
prints_sight widths names letters line (Put a b c) old new none line_is = line_is
prints_sight widths names letters line (Pulled a b c) old new none line_is = line_is
prints_sight widths names letters line (NotThere a b) old new none line_is = line_is
prints_sight widths names letters line (Taken a b c) old new none line_is = line_is
prints_sight widths names letters line (Came a b c d) old new none line_is = line_is
prints_sight widths names letters line (Tried a b c) old new none line_is = line_is
prints_sight widths names letters line (Sent a) old new none line_is = line_is
prints_sight widths names letters line (Granted a b c) old new none line_is = line_is
prints_sight widths names letters line (Freed a b c) old new none line_is = line_is
prints_sight widths names letters line (Denied a b c) old new none line_is = line_is
prints_sight widths names letters line (Waits a b) old new none line_is = line_is
prints_sight widths names letters line (Answered a b c) old new none line_is = absurd (none a b c refl)
prints_sight widths names letters line (LossSeen a b c) old new none line_is = line_is
prints_sight widths names letters line (Lost a) old new none line_is = line_is
