-- The numbers of pids of one node, in order.
use Rattle.std.specs.Prelude.{◌≡◌, ℕ, ◌-◌, ◌<◌, ◌≤◌, Bool, false, List, [], ◌∷◌, ◌++◌, length, get_or}
use Rattle.std.specs.List.{flat_map, list_any}
use Rattle.std.specs.Ordering.{is_lt}
use Rattle.std.specs.BTreeMap.{is_at}
use Rattle.std.specs.declared.cmp.Ordering.{Ordering}
use Rattle.std.specs.declared.cmp.Ordering.TheVariants.{Less}
use Rattle.pg_term.specs.declared.pid.Pid.{Pid}
use Rattle.pg_group.specs.declared.number.Number.{Number}
use Rattle.pg_group.specs.declared.chunk.Chunk.{Chunk}
use Rattle.pg_group.specs.contracts.number.NumberOrd.TheImpl.{ghosts as ordered_numbers}

-- which of two numbers comes first, as `cmp` tells
abbrev pub number_cmp : Number → Number → Ordering
number_cmp = ordered_numbers.cmp

-- the number of a pid
abbrev pub number_of : Pid → Number
number_of pid = record { serial = pid.serial; id = pid.id; creation = pid.creation }

-- the pid of a node that has a number
abbrev pub pid_at : List ℕ → Number → Pid
pid_at node number = record { node = node; serial = number.serial; id = number.id; creation = number.creation }

-- whether a list has a number
abbrev pub has_number : List Number → Number → Bool
has_number numbers number = list_any (is_at (number_cmp number)) numbers

-- the numbers of a chunk: the last stands apart, so that there is one
abbrev pub chunk_numbers : Chunk → List Number
chunk_numbers chunk = chunk.front.items ++ chunk.last ∷ []

-- those of chunks, one after the other
abbrev pub all_numbers : List Chunk → List Number
all_numbers chunks = flat_map chunk_numbers chunks

-- so many chunks are below a number: the last of them is, and the next is not
pub record IsPlace (chunks : List Chunk) (number : Number) (at : ℕ) : Type 0 where
  pub within : at ≤ length chunks
  pub before : (chunk : Chunk) → 0 < at → number_cmp (get_or chunks (at - 1) chunk).last number ≡ Less
  pub after : (chunk : Chunk) → at < length chunks → is_lt (number_cmp (get_or chunks at chunk).last number) ≡ false
