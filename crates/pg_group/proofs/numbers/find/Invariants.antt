use Rattle.std.proofs.Common.{◌≡◌, ◌-◌, ◌<◌, ◌≤◌, false, length, get_or}
use Rattle.std.specs.Ordering.{is_lt}
use Rattle.std.specs.declared.cmp.Ordering.TheVariants.{Less}
use Rattle.pg_group.specs.declared.chunk.Chunk.{Chunk}
use Rattle.pg_group.specs.Numbers.{number_cmp}
use Rattle.pg_group.proofs.numbers.find.Given as goal

-- the chunk before `low` is below the number, and the one at `high` is not
abbrev pub invariant-loop-low : goal.invariant-loop-low
invariant-loop-low l = record {
  in_order : l.low ≤ l.high;
  within : l.high ≤ length l.chunks;
  before : (chunk : Chunk) → 0 < l.low → number_cmp (get_or l.chunks (l.low - 1) chunk).last l.number ≡ Less;
  after : (chunk : Chunk) → l.high < length l.chunks → is_lt (number_cmp (get_or l.chunks l.high chunk).last l.number) ≡ false;
}

abbrev pub decreases-loop-low : goal.decreases-loop-low
decreases-loop-low l = l.high - l.low
