use Rattle.std.proofs.Common.{◌∙◌}
use Rattle.pg_index_members.specs.Rows.{counts_of}
use Rattle.pg_index.specs.Listings.{listed_in}
use Rattle.pg_index.proofs.Tables.{row_removed}
use Rattle.pg_index.proofs.listings.remove_all.Goals as goal

pub loop-row-preserved : goal.loop-row-preserved
loop-row-preserved c =
    let step = row_removed (listed_in c.loop-row.listings) (listed_in c.remove.new.listings) (counts_of c.loop-row.members) (counts_of c.take_last.new.self) c.in-Some.row.pid c.args.group c.remove.ensures c.in-Some.ensures.rest in
    record {
      mine = step.0 c.loop-row.invariant.mine;
      others = λ pid other e. step.1 pid other e ∙ c.loop-row.invariant.others pid other e;
    }
