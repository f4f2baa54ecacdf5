-- The page that lists what was counted.
use Rattle.std.specs.Prelude.{◌≡◌, ℕ, ◌-◌, List, [], ◌++◌, Bool, true, false, Option, Some}
use Rattle.std.specs.Prelude.{None, codes, decimal, length, max, replicate, string_bytes}
use Rattle.std.specs.List.{flat_map}
use Rattle.pg_explore_tally.specs.declared.counts.Counted.{Counted}
use Rattle.pg_explore_tally.specs.declared.report.Report.{Report}
use Rattle.pg_explore_tally.specs.declared.report.Section.{Section}
use Rattle.pg_explore_tally.specs.declared.takes.Takes.{Takes}

-- this stands at the end, behind what stood there
abbrev pub GrowsBy : List ℕ → List ℕ → List ℕ → Type 0
GrowsBy text old new = new ≡ old ++ text

-- a line: a number on the right of its column, and what it counts
abbrev pub row_of : ℕ → ℕ → List ℕ → List ℕ
row_of width number what = replicate (width - length (decimal number)) 32 ++ (decimal number ++ (codes "  " ++ (what ++ codes "\n")))

abbrev pub counted_row : ℕ → Counted → List ℕ
counted_row width row = row_of width row.count (string_bytes row.text)

abbrev pub limit_line : Bool → List ℕ
limit_line true = []
limit_line false = codes "the limit of worlds was reached: there are more\n"

abbrev pub takes_rows : ℕ → Option Takes → List ℕ
takes_rows width None = []
takes_rows width (Some takes) = row_of width takes.fewest (codes "takes to an end, the fewest") ++ row_of width takes.most (codes "takes to an end, the most")

-- the numbers of all worlds and ends
abbrev pub totals_of : ℕ → Report → List ℕ
totals_of width report =
    row_of width report.worlds (codes "worlds") ++ (limit_line report.is_whole
    ++ (row_of width report.ends (codes "ends") ++ (takes_rows width report.takes
    ++ (row_of width report.held (codes "ends at which a lock is held")
    ++ (row_of width report.differing (codes "worlds in which two formed nodes differ")
    ++ row_of width report.free (codes "of these, a node sees the lock free and no end is pending"))))))

-- an empty line, a title, and rows
abbrev pub section_of : ℕ → Section → List ℕ
section_of width section = codes "\n" ++ (string_bytes section.title ++ (codes "\n" ++ flat_map (counted_row width) section.rows.items))

-- the column has room for seven digits, or for the number of all worlds
abbrev pub page_of : Report → List ℕ
page_of report =
    let width = max 7 (length (decimal report.worlds)) in
    totals_of width report ++ flat_map (section_of width) report.sections.items
