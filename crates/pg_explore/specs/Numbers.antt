-- The number of a moment: that of moments which are the same but for clocks and stamps is one.
use Rattle.std.specs.Prelude.{ℕ, ◌+◌, ◌*◌, ◌%◌, ◌^◌, cond, nat_lt, fold, map, length, List}
use Rattle.pg_world_packets.specs.PgGroup.declared.update.Update.{Update}
use Rattle.pg_world_packets.specs.PgGroup.declared.update.Update.TheVariants.{Create, Delete, Join, Leave}
use Rattle.pg_world_packets.specs.PgStep.Machines.Clocked.{Stamped, packets_of}
use Rattle.pg_world_packets.specs.PgMessageTypes.declared.message.Message.{Message}
use Rattle.pg_world_packets.specs.PgMessageTypes.declared.message.Message.TheVariants.{Call, Reply, DelLock, Exchange, Down}
use Rattle.pg_world_packets.specs.PgMessageTypes.declared.message.Request.TheVariants.{SetLock, Change}
use Rattle.pg_world_packets.specs.Alike.{without_clock, without_stamps}
use Rattle.pg_world_packets.specs.PgWorldConfig.Seen.{Seen}
use Rattle.pg_explore.specs.Moments.{Progress, Sight}

-- a mark mixed into a number of 64 bits
abbrev pub mixed : ℕ → ℕ → ℕ
mixed number mark = ((number + mark) % (2 ^ 64) * 0x9e37_79b9_7f4a_7c15) % (2 ^ 64)

-- how far a plan has come
abbrev pub mixed_progress : ℕ → Progress → ℕ
mixed_progress number progress = fold mixed (mixed number progress.come) progress.retries

-- ---- what is on the way

abbrev pub kind_number : Update → ℕ
kind_number (Create name) = 1
kind_number (Delete name) = 2
kind_number (Join name pid) = 3
kind_number (Leave name pid) = 4

-- what kind of message it is, and under which reference it is said
abbrev pub mixed_message : ℕ → Message → ℕ
mixed_message number (Call reference (SetLock name)) = fold mixed (mixed number 11) reference.words
mixed_message number (Call reference (Change update)) = fold mixed (mixed number (kind_number update)) reference.words
mixed_message number (Reply reference said) = fold mixed (mixed number 12) reference.words
mixed_message number (DelLock name reference) = fold mixed (mixed number 13) reference.words
mixed_message number (Exchange node groups) = mixed number 14
mixed_message number (Down pid) = mixed number 15

abbrev pub unstamped_of : List (Stamped Message) → List Message
unstamped_of way = packets_of way

-- the messages on a way
abbrev pub mixed_way : ℕ → List Message → ℕ
mixed_way number way = fold mixed_message (mixed number (length way)) way

-- those on the ways from a node
abbrev pub mixed_row : ℕ → List (List Message) → ℕ
mixed_row number row = fold mixed_way number row

-- ---- what was answered

-- how many answers a node gave at its first port
abbrev pub answer_count : Seen → ℕ
answer_count node = cond (nat_lt 0 node.ports) (length (node.answers 0)) 0

abbrev pub mixed_node : ℕ → Seen → ℕ
mixed_node number node = mixed number (answer_count node)

-- ---- all of it

abbrev pub number_in : Sight → ℕ
number_in sight = fold mixed_node (fold mixed_row (fold mixed_progress 0 sight.progress) (map without_stamps sight.view.traffic.ways)) (map without_clock sight.view.traffic.nodes)
