use Rattle.std.proofs.Common.{◌<◌, length, arith}
use Rattle.pg_explore.specs.Bins.{bin_of}
use Rattle.pg_explore.proofs.Binned.{added_by, kept_by, kept_set}
use Rattle.pg_explore.proofs.bins.Bins.add.Goals as goal

pub returns-clause-added : goal.returns-clause-added
returns-clause-added c =
    let bins = c.args.self.now in
    let within : c.bin_of.result < length bins.bins.items = omega (arith, bins.size, c.bin_of.ensures.small) in
    added_by c.add.result bins.bins.items c.bin_of.result (bin_of c.args.number) c.index_mut-bin.result.now c.add.new.self (record { number = c.args.number; place = c.args.place }) within c.bin_of.ensures.value c.add.ensures.ok

pub returns-clause-kept : goal.returns-clause-kept
returns-clause-kept c =
    let bins = c.args.self.now in
    let within : c.bin_of.result < length bins.bins.items = omega (arith, bins.size, c.bin_of.ensures.small) in
    λ number spot h.
    kept_set bins.bins.items c.bin_of.result c.add.new.self
    (kept_by c.add.result bins.bins.items c.bin_of.result c.index_mut-bin.result.now c.add.new.self (record { number = c.args.number; place = c.args.place }) within c.index_mut-bin.ensures.value c.add.ensures.ok c.add.ensures.err)
    (bin_of number) spot h
