use Rattle.std.proofs.Common.{◌≡◌, ◌<◌, ◌≤◌, ℕ, get_or, length, false}
use Rattle.pg_node_opens.specs.declared.mark.Mark.TheVariants.{Unasked}
use Rattle.pg_node_opens.specs.Marks.{mark_at}
use Rattle.pg_node_opens.proofs.marks.Marks.ask.Given as goal

abbrev pub invariant-loop-place : goal.invariant-loop-place
invariant-loop-place l = record {
  len : length l.self ≡ length l.initial.self;
  done : (k : ℕ) → k < l.place → get_or l.self k Unasked ≡ mark_at (get_or l.initial.self k Unasked) (get_or l.lost k false) l.who k l.granted;
  left : (k : ℕ) → l.place ≤ k → get_or l.self k Unasked ≡ get_or l.initial.self k Unasked;
}
