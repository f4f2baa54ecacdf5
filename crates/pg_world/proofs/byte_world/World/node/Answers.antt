use Rattle.std.proofs.Common.{◌≡◌, ◌<◌, ◌+◌, ℕ, [], true, false, length}
use Rattle.std.proofs.Props.{props}
use mathlib.Core.Logic.{∥∥₁_elim}
use Rattle.pg_node.specs.declared.node.Node.{Node}
use Rattle.pg_node.specs.Nodes.{has_lost, held_by, links_of}
use Rattle.pg_world_packets.specs.PgNodeState.States.{names_of}
use Rattle.pg_world.specs.ByteWorlds.{account_of, crossing_of, given_of, lost_of}
use Rattle.pg_world.specs.Crossings.{node_of}
use Rattle.pg_world.proofs.over_bytes.Leading.{bytes_silent, bytes_sound, each_there}
use Rattle.pg_world.proofs.byte_world.World.node.Goals as goal

pub returns-clause-sound : goal.returns-clause-sound
returns-clause-sound g c =
    let world = c.args.self.now in
    each_there c.node.result (crossing_of world) c.args.place (λ (node : Node _ _). (peer : ℕ) → peer + 1 < length (names_of (held_by node)) → (links_of node peer).damaged ≡ false) c.node.ensures.node c.node.ensures.links
    (λ node at linked peer few. ∥∥₁_elim world.past (hlevel props)
    (λ past. bytes_sound (given_of world) (crossing_of world) (account_of world) (lost_of world) c.args.place (node_of node) (links_of node) past at linked peer few))

pub returns-clause-silent : goal.returns-clause-silent
returns-clause-silent g c =
    let world = c.args.self.now in
    each_there c.node.result (crossing_of world) c.args.place (λ (node : Node _ _). (peer : ℕ) → peer + 1 < length (names_of (held_by node)) → has_lost (held_by node) peer ≡ true → (links_of node peer).outbox ≡ [])
    c.node.ensures.node c.node.ensures.links
    (λ node at linked peer few seen. ∥∥₁_elim world.past (hlevel props)
    (λ past. bytes_silent (given_of world) (crossing_of world) (account_of world) (lost_of world) c.args.place (node_of node) (links_of node) past at linked peer few seen))
