-- The marks of the nodes of a set, as what is gathered of them says.
use Rattle.std.specs.Prelude.{ℕ, List, map}
use Rattle.std.specs.List.{range_with_len}
use Rattle.pg_step.specs.PgMulticall.Replies.{replies_of}
use Rattle.pg_node_opens.specs.declared.mark.Mark.{Mark}
use Rattle.pg_node_opens.specs.declared.marks.Marks.TheInside.{Inside}
use Rattle.pg_node_opens.specs.Marks.{mark_of}

abbrev pub mark_in : Inside → ℕ → Mark
mark_in marks place = mark_of (replies_of marks.gather place)

abbrev pub marks_in : Inside → List Mark
marks_in marks = map (mark_in marks) (range_with_len 0 marks.count)
