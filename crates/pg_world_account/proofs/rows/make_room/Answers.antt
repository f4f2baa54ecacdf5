use Rattle.std.proofs.Common.{Some, [], sym, ◌∙◌, rules}
use Rattle.std.proofs.Math.Path.{fun_ext}
use Rattle.pg_world_account.specs.declared.row.Row.{Row}
use Rattle.pg_world_account.specs.Histories.{entries_of, count_at, marked_entries_of}
use Rattle.pg_world_account.proofs.Rowed.{kept, found_here, if_ok}
use Rattle.pg_world_account.proofs.rows.make_room.Goals as goal

pub returns-in-Some-clause-entries : goal.returns-in-Some-clause-entries
returns-in-Some-clause-entries c =
    fun_ext (kept c.open_row.new.rows (c.get_mut.follows.lender c.make_room.new.self) c.args.name.now (Some c.in-Some.row.now) c.make_room.new.self (sym c.in-Some.ensures.value)
    ((c.get_mut.follows.holds c.make_room.new.self).3 (search rules)) entries_of [] c.make_room.ensures.entries) ∙ c.open_row.ensures.entries

pub returns-in-Some-clause-counts : goal.returns-in-Some-clause-counts
returns-in-Some-clause-counts c =
    fun_ext (λ i. fun_ext (kept c.open_row.new.rows (c.get_mut.follows.lender c.make_room.new.self) c.args.name.now (Some c.in-Some.row.now) c.make_room.new.self (sym c.in-Some.ensures.value)
    ((c.get_mut.follows.holds c.make_room.new.self).3 (search rules)) (λ (row : Row). count_at row.tally i) 0 (λ j. c.make_room.ensures.counts j i))) ∙ c.open_row.ensures.counts

pub returns-in-Some-clause-marks : goal.returns-in-Some-clause-marks
returns-in-Some-clause-marks c =
    fun_ext (λ i. fun_ext (kept c.open_row.new.rows (c.get_mut.follows.lender c.make_room.new.self) c.args.name.now (Some c.in-Some.row.now) c.make_room.new.self (sym c.in-Some.ensures.value)
    ((c.get_mut.follows.holds c.make_room.new.self).3 (search rules)) (λ (row : Row). marked_entries_of row i) [] (λ j. c.make_room.ensures.marks j i))) ∙ c.open_row.ensures.marks

pub returns-in-Some-clause-room : goal.returns-in-Some-clause-room
returns-in-Some-clause-room c = if_ok c.make_room.result (λ room. (
  c.make_room.new.self,
  found_here c.open_row.new.rows (c.get_mut.follows.lender c.make_room.new.self) c.args.name.now (Some c.in-Some.row.now) c.make_room.new.self (sym c.in-Some.ensures.value)
      ((c.get_mut.follows.holds c.make_room.new.self).3 (search rules)),
  room,
)) c.make_room.ensures.room
