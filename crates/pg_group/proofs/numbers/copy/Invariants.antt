use Rattle.std.proofs.Common.{◌≡◌, take}
use Rattle.pg_group.specs.Numbers.{all_numbers}
use Rattle.pg_group.proofs.numbers.copy.Given as goal

-- the chunks so far
abbrev pub invariant-loop-chunk : goal.invariant-loop-chunk
invariant-loop-chunk l = all_numbers l.copy.items ≡ all_numbers (take l.chunk-index l.chunks)
