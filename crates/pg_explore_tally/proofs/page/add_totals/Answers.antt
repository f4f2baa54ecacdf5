use Rattle.std.proofs.Common.{◌≡◌, ◌++◌, List, ℕ, codes, string_bytes, ap, ◌∙◌, append_assoc}
use Rattle.std.proofs.lemmas.Result.{on_ok_weaker}
use Rattle.pg_explore_tally.specs.Pages.{limit_line, row_of, takes_rows}
use Rattle.pg_explore_tally.proofs.page.add_totals.Goals as goal

both : (x y z a b : List ℕ) → y ≡ x ++ a → z ≡ y ++ b → z ≡ x ++ (a ++ b)
both x y z a b e f = f ∙ ap (λ (t : List ℕ). t ++ b) e ∙ append_assoc x a b

pub returns : goal.returns
returns c =
    let width = c.args.width in
    let report = c.args.report.now in
    let worlds = row_of width report.worlds (codes "worlds") in
    let limit = limit_line report.is_whole in
    let ends = row_of width report.ends (codes "ends") in
    let takes = takes_rows width report.takes in
    let held = row_of width report.held (codes "ends at which a lock is held") in
    let differing = row_of width report.differing (codes "worlds in which two formed nodes differ") in
    let free = row_of width report.free (codes "of these, a node sees the lock free and no end is pending") in
    let o = string_bytes c.args.out.now in
    let o1 = string_bytes c.add_row.new.out in
    let o2 = string_bytes c.add_limit.new.out in
    let o3 = string_bytes c.add_row-2.new.out in
    let o4 = string_bytes c.add_takes.new.out in
    let o5 = string_bytes c.add_row-3.new.out in
    let o6 = string_bytes c.add_row-4.new.out in
    let o7 = string_bytes c.add_row-5.new.out in
    on_ok_weaker c.add_row-5.result
    (λ last.
    let e6 = both o5 o6 o7 differing free c.in_ok-add_row-4.ensures last in
    let e5 = both o4 o5 o7 held (differing ++ free) c.in_ok-add_row-3.ensures e6 in
    let e4 = both o3 o4 o7 takes (held ++ (differing ++ free)) c.in_ok-add_takes.ensures e5 in
    let e3 = both o2 o3 o7 ends (takes ++ (held ++ (differing ++ free))) c.in_ok-add_row-2.ensures e4 in
    let e2 = both o1 o2 o7 limit (ends ++ (takes ++ (held ++ (differing ++ free)))) c.in_ok-add_limit.ensures e3 in
    both o o1 o7 worlds (limit ++ (ends ++ (takes ++ (held ++ (differing ++ free))))) c.in_ok-add_row.ensures e2)
    c.add_row-5.ensures
