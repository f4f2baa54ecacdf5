use Rattle.pg_node_state.specs.PgEnds.Numbers.{ended_among}
use Rattle.pg_world_packets.specs.Pending.{has_end, lent_as, own_of}
use Rattle.pg_world_config.specs.Seen.{seen_of}
use Rattle.pg_world_packets.proofs.Listed.{Added}
use Rattle.pg_world_packets.proofs.pending.add_pending.Given as goal

-- those of the ended of the home so far, and those to come
abbrev pub invariant-loop-pid : goal.invariant-loop-pid
invariant-loop-pid g l =
    let home = seen_of l.home in
    Added (lent_as l.left) l.initial.pids.items l.pids.items l.pid-iterator.rest.items (ended_among (own_of home) home.state.state.processes (has_end home))
