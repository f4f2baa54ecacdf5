use Rattle.std.proofs.Common.{◌∙◌, sym}
use Rattle.std.proofs.Props.{props}
use Rattle.std.proofs.lemmas.Result.{IfOk-weaker}
use mathlib.Core.Logic.{∥∥₁_elim}
use Rattle.pg_world_packets.specs.FrameWorlds.{view_of, lost_of, given_of}
use Rattle.pg_world_packets.proofs.Leading.{agreed_all}
use Rattle.pg_world_packets.proofs.frame_world.FrameWorld.pending_ends.Goals as goal

pub returns-clause-agree : goal.returns-clause-agree
returns-clause-agree g c =
    let world = c.args.self.now in
    IfOk-weaker c.pending_ends.result _ _
    (λ pids is empty none x name free. ∥∥₁_elim world.past (hlevel props) (λ past. agreed_all c.pending_ends_are_listed.ensures.none (given_of world) (view_of world) (lost_of world) x name past (sym is ∙ empty) none free))
    c.pending_ends.ensures.list
