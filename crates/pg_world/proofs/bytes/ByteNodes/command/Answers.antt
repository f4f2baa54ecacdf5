use Rattle.std.proofs.Common.{Ok, Err, refl, sym, subst}
use Rattle.pg_world_packets.specs.PgStep.Machines.Machine.{Do}
use Rattle.pg_world_packets.specs.PgStep.Step.{Issue}
use Rattle.pg_node.specs.Nodes.{held_by}
use Rattle.pg_world_packets.specs.PgNodeState.States.{state_of, answers_of}
use Rattle.pg_world.specs.Crossings.{Crossing, crossing_of, node_of, written_of, ShowsBytesPast}
use Rattle.pg_world_packets.specs.PgWorldAccount.Histories.{account_of}
use Rattle.pg_world_packets.specs.PgNodeSends.Framed.{listed_of}
use Rattle.pg_world.proofs.Linked.{port_place, seen_there, nodes_set, seen_kept, own_acts, node_same, sends_on}
use Rattle.pg_world.proofs.Passing.{own_shown, own_err}
use Rattle.pg_world.proofs.over_bytes.Past.{own_past}
use Rattle.pg_world_packets.specs.PgWorldAccount.Losses.{lost_in}
use Rattle.pg_world_packets.specs.declared.step.Stepped.TheVariants.{Happened}
use Rattle.pg_world_packets.proofs.Recording.{grew_own}
use Rattle.pg_world.proofs.bytes.ByteNodes.command.Goals as goal

pub returns-in-Ok : goal.returns-in-Ok
returns-in-Ok g c = record {
  losing = λ config u shown.
      let lost = lost_in c.args.self.now.losses in
      let w = shown.frames in
      let stays = c.requires.lives in
      let shows = shown.shows in
      let nodes = c.args.self.now.nodes.items in
      let rings = c.args.self.now.rings.items in
      let i = c.args.node in
      let node = c.index_mut-state.result.now in
      let node2 = c.command.new.self in
      let at = c.index_mut-state.ensures.value in
      let l = port_place nodes i c.args.port c.requires.port in
      own_past config (crossing_of c.args.self.now) _ (account_of c.args.self.now.histories) _ u lost _ shown refl (Ok (Happened c.of-effect.result)) i (Issue c.args.port c.args.command.now) c.requires.port stays
      (own_shown config lost (crossing_of c.args.self.now) _ (account_of c.args.self.now.histories) _ w shows (λ packets others bytes are. c.sending_adds_packets.ensures written_of packets others bytes are)
      i stays (Issue c.args.port c.args.command.now) (node_of node) (node_of node2) c.in-Ok.done (seen_there nodes rings i node l at) (nodes_set nodes rings i node2) c.in-Ok.ensures.stays.names c.in-Ok.ensures.stays.ports c.in-Ok.ensures.fits c.in-Ok.ensures.small
      (own_acts nodes rings i node node2 (listed_of c.in-Ok.done.sends) l at (Issue c.args.port c.args.command.now) c.in-Ok.ensures.sent)
      (grew_own (account_of c.args.self.now.histories) _ i c.in-Ok.done.began c.unpack.result c.unpack.ensures c.begin.ensures.history c.begin.ensures.applied c.begin.ensures.marked) c.of-effect.result c.of-effect.ensures c.in-Ok.ensures.event);
  changes =
      let nodes = c.args.self.now.nodes.items in
      let rings = c.args.self.now.rings.items in
      let i = c.args.node in
      let node = c.index_mut-state.result.now in
      let node2 = c.command.new.self in
      let l = port_place nodes i c.args.port c.requires.port in
      sends_on nodes rings i node2 (Do i (Issue c.args.port c.args.command.now)) (listed_of c.in-Ok.done.sends) refl
      (own_acts nodes rings i node node2 (listed_of c.in-Ok.done.sends) l c.index_mut-state.ensures.value (Issue c.args.port c.args.command.now) c.in-Ok.ensures.sent);
  formed = c.begin.ensures.formed;
  lost = refl;
  room = refl;
}

pub returns-in-Err : goal.returns-in-Err
returns-in-Err g c = record {
  losing = λ config u shown.
      let lost = lost_in c.args.self.now.losses in
      let w = shown.frames in
      let stays = c.requires.lives in
      let shows = shown.shows in
      let nodes = c.args.self.now.nodes.items in
      let rings = c.args.self.now.rings.items in
      let i = c.args.node in
      let node = c.index_mut-state.result.now in
      let node2 = c.command.new.self in
      let at = c.index_mut-state.ensures.value in
      let l = port_place nodes i c.args.port c.requires.port in
      let seen = seen_kept node node2 c.in-Err.ensures.stays.names c.in-Err.ensures.stays.ports c.in-Err.ensures.stays.state c.in-Err.ensures.stays.answers in
      let same = node_same nodes rings i node node2 l at seen c.in-Err.ensures.kept in
      own_past config (crossing_of c.args.self.now) _ (account_of c.args.self.now.histories) _ u lost _ shown refl (Err c.in-Err.fault) i (Issue c.args.port c.args.command.now) c.requires.port stays
      (own_err config lost (crossing_of c.args.self.now) w shows.traffic _ i (Issue c.args.port c.args.command.now) (node_of node) (state_of (held_by node2)) (answers_of (held_by node2)) (seen_there nodes rings i node l at) c.in-Err.fault c.in-Err.ensures.event
      (subst (λ (crossing : Crossing). ShowsBytesPast config lost crossing (account_of c.args.self.now.histories) w) (sym same) shows));
  changes =
      let nodes = c.args.self.now.nodes.items in
      let rings = c.args.self.now.rings.items in
      let i = c.args.node in
      let node = c.index_mut-state.result.now in
      let node2 = c.command.new.self in
      let l = port_place nodes i c.args.port c.requires.port in
      let seen = seen_kept node node2 c.in-Err.ensures.stays.names c.in-Err.ensures.stays.ports c.in-Err.ensures.stays.state c.in-Err.ensures.stays.answers in
      node_same nodes rings i node node2 l c.index_mut-state.ensures.value seen c.in-Err.ensures.kept;
  formed = refl;
  lost = refl;
  room = refl;
}
