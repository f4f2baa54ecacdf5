use Rattle.pg_world_account.proofs.Tallies.{count_more}
use Rattle.pg_world_account.proofs.tally.Tally.add.Goals as goal

pub returns : goal.returns
returns c = count_more c.args.self.now.counts.items c.args.node c.index_mut.result.now c.requires.0 c.index_mut.ensures.value
