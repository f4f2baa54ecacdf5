use Rattle.std.proofs.Common.{◌≡◌, ◌||◌, get_or, false}
use Rattle.pg_node_opens.specs.declared.mark.Mark.TheVariants.{Unasked}
use Rattle.pg_node_opens.specs.Marks.{status_of, passes, mark_at, all_below}
use Rattle.pg_node_opens.proofs.marks.Marks.all_pass.Given as goal

abbrev pub invariant-loop-place : goal.invariant-loop-place
invariant-loop-place l = l.all ≡ all_below l.place (λ k. get_or l.lost k false || passes l.wanted (status_of (mark_at (get_or l.self k Unasked) (get_or l.lost k false) l.who k l.granted)))
