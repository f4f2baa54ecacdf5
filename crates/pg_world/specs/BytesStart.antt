-- How a world of bytes begins: what each node tells stands in the outboxes to its peers.
use Rattle.std.specs.Prelude.{◌≡◌, ◌<◌, ◌-◌, ℕ, [], length, replicate}
use Rattle.pg_world_packets.specs.PgStep.Machines.Machine.{start_of}
use Rattle.pg_world_packets.specs.PgStep.Config.{Config}
use Rattle.pg_world_packets.specs.PgStep.FrameMachine.{frame_machine}
use Rattle.pg_world_packets.specs.PgNodeOpens.Places.{name_at}
use Rattle.pg_node.specs.Begun.{BeginsLinked}
use Rattle.pg_node.specs.Links.{Link}
use Rattle.pg_world.specs.Changes.{links_at}
use Rattle.pg_world.specs.Crossings.{Crossing, ShowsBytes}
use Rattle.pg_world_packets.specs.PgWorldConfig.Firsts.{seen_first}
use Rattle.pg_world_packets.specs.Starts.{Orders}
use Rattle.pg_world_packets.specs.PgWorldConfig.Seen.{Seen}
use Rattle.pg_world_packets.specs.PgWorldAccount.Histories.{Account}

-- the frame that tells the groups of a node goes out to each of so many peers
abbrev pub OpensLinks : ℕ → Seen → (ℕ → Link) → Type 0
OpensLinks peers node links = BeginsLinked node.state.state.table (name_at node.names 0) peers links

-- a world of bytes shows the start of a configuration, with the groups of each node in order
abbrev pub BytesBegin : Config → Crossing → Account → Type 0
BytesBegin given crossing account = (config : Config) × Orders given config × ShowsBytes config crossing account (start_of (frame_machine config))

-- As nodes of a configuration begin nothing has crossed: each ring is empty, and what each tells of its groups stands in its outboxes.
pub record OpensBytes (starts : Config) (crossing : Crossing) : Type 0 where
  pub rings : crossing.rings ≡ replicate (length starts) (replicate (length starts - 1) [])
  pub links : (i : ℕ) → i < length starts → OpensLinks (length starts - 1) (seen_first starts i) (links_at crossing i)
