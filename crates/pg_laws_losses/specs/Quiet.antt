-- Worlds in which nothing is on the way to a node that is not lost, and what its commands wait for there.
use Rattle.std.specs.Prelude.{◌≡◌, ℕ, ◌+◌, ◌*◌, true, false, length, []}
use Rattle.pg_laws.specs.PgStep.Machines.Places.{is_pair}
use Rattle.pg_laws.specs.PgStep.Attempts.{waits}
use Rattle.pg_laws.specs.PgStep.Config.{Config, nodes_at}
use Rattle.pg_laws.specs.PgStep.LossLaws.{LosingFrameWorld}
use Rattle.pg_laws.specs.PgStep.State.{live_nodes}
use Rattle.pg_laws.specs.PgStep.declared.command.OpId.{OpId}
use Rattle.pg_laws.specs.Counted.{is_open}
use Rattle.pg_laws.specs.Quiet.{peer_count, total}

-- no packet, and no last notice, is on the way to a node that is not lost
abbrev pub IsQuietLive : Config → LosingFrameWorld → Type 0
IsQuietLive config w = (x y : ℕ) → is_pair (length config) x y ≡ true → w.gone y ≡ false → w.world.wire x y ≡ []

-- each command of node i that is open waits for its retry, by the nodes that count there, and no other does
abbrev pub WaitsForRetries : Config → LosingFrameWorld → ℕ → Type 0
WaitsForRetries config w i = (op : OpId) → waits (live_nodes (nodes_at config i) (w.world.node i).state) ((w.world.node i).state.stages op) (w.world.node i).state ≡ is_open ((w.world.node i).state.stages op)

-- how many packets and last notices are on the way
abbrev pub live_on_the_way : Config → LosingFrameWorld → ℕ
live_on_the_way config w = total (length config) (λ x. total (length config) (λ y. length (w.world.wire x y)))

-- how many commands are open
abbrev pub live_open : Config → LosingFrameWorld → ℕ
live_open config w = total (length config) (λ i. (w.world.node i).state.opened)

-- How many packets and notices can be taken at most before a command comes in, one is tried again, or a node is lost: those on
-- the way and the replies to them, and five for each peer of each command that is open.
abbrev pub most_takes_live : Config → LosingFrameWorld → ℕ
most_takes_live config w = 2 * live_on_the_way config w + 5 * peer_count config * live_open config w
