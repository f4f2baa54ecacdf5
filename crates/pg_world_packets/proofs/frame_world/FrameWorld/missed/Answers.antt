use Rattle.std.specs.Prelude.{Result, Ok, Err, IfOk}
use mathlib.Core.Logic.{∥∥₁_map}
use Rattle.pg_world_packets.specs.FrameWorlds.{view_of, lost_of, given_of}
use Rattle.pg_world_packets.proofs.Leading.{frames_missed}
use Rattle.pg_world_packets.proofs.frame_world.FrameWorld.missed.Goals as goal

-- what holds of each value holds of the outcome
if_ok : {A E : Type 0} {P Q : A → Type 0} (r : Result A E) → ((x : A) → P x → Q x) → IfOk r P → IfOk r Q
if_ok (Ok x) f h = f x h
if_ok (Err e) f h = tt

pub returns-clause-along : goal.returns-clause-along
returns-clause-along g c = λ within lives.
    let world = c.args.self.now in
    if_ok c.missed.result (λ missed told. ∥∥₁_map world.past (frames_missed (given_of world) (view_of world) (lost_of world) c.args.node c.args.name.now within lives _ told)) c.missed.ensures
