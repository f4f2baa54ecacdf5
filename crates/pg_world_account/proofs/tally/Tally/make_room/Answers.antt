use Rattle.std.proofs.Common.{◌≤◌, length, arith}
use Rattle.std.specs.Prelude.{is_ok}
use Rattle.pg_world_account.proofs.Tallies.{counts_padded}
use Rattle.pg_world_account.proofs.tally.Tally.make_room.Goals as goal

pub returns-in-Some-clause-same : goal.returns-in-Some-clause-same
returns-in-Some-clause-same c =
    let few : length c.args.self.now.counts.items ≤ c.in-Some.places = omega (arith, c.if-node-len.false, c.len.ensures, c.in-Some.ensures.1) in
    counts_padded c.args.self.now.counts.items c.resize.new.self.items (is_ok c.resize.result) c.in-Some.places _ few c.resize.ensures.items
