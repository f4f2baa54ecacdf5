use Rattle.std.proofs.Common.{Ok, refl}
use Rattle.pg_world.specs.Crossings.{crossing_of}
use Rattle.pg_world_packets.specs.PgWorldAccount.Histories.{account_of}
use Rattle.pg_world_packets.specs.PgWorldAccount.Losses.{lost_in}
use Rattle.pg_world_packets.specs.declared.step.Stepped.TheVariants.{Nothing}
use Rattle.pg_world.proofs.over_bytes.Past.{take_past}
use Rattle.pg_world.proofs.bytes.ByteNodes.take_next.Goals as goal

pub returns-in-None-clause-losing : goal.returns-in-None-clause-losing
returns-in-None-clause-losing g c = λ config u shown welcome.
    let crossing = crossing_of c.args.self.now in
    let account = account_of c.args.self.now.histories in
    take_past config crossing crossing account account u (lost_in c.args.self.now.losses) _ shown refl (Ok Nothing) c.args.node c.args.peer c.requires.pair c.requires.lives (refl, shown.shows)
