use Rattle.std.specs.Prelude.{Result, Ok, Err, IfOk}
use mathlib.Core.Logic.{∥∥₁_map}
use Rattle.pg_world.specs.ByteWorlds.{account_of, crossing_of, given_of, lost_of}
use Rattle.pg_world.proofs.over_bytes.Leading.{bytes_missed}
use Rattle.pg_world.proofs.byte_world.World.missed.Goals as goal

-- what holds of each value holds of the outcome
if_ok : {A E : Type 0} {P Q : A → Type 0} (r : Result A E) → ((x : A) → P x → Q x) → IfOk r P → IfOk r Q
if_ok (Ok x) f h = f x h
if_ok (Err e) f h = tt

pub returns-clause-along : goal.returns-clause-along
returns-clause-along g c = λ within lives.
    let world = c.args.self.now in
    if_ok c.missed.result (λ missed told. ∥∥₁_map world.past (bytes_missed (given_of world) (crossing_of world) (account_of world) (lost_of world) c.args.node c.args.name.now within lives _ told)) c.missed.ensures
