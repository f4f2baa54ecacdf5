use Rattle.std.proofs.Common.{◌≡◌, get_or}
use Rattle.pg_node_opens.specs.declared.mark.Mark.TheVariants.{Unasked}
use Rattle.pg_node_opens.specs.Marks.{all_below, same_mark}
use Rattle.pg_node_opens.proofs.marks.Marks.agree.Given as goal

abbrev pub invariant-loop-place : goal.invariant-loop-place
invariant-loop-place l = l.all ≡ all_below l.place (λ k. same_mark (get_or l.self k Unasked) (get_or l.other k Unasked))
