use Rattle.std.proofs.Common.{◌++◌}
use Rattle.pg_cluster.specs.PgRing.Slots.{given, slots_left, taken}
use Rattle.pg_talk.proofs.ThreadReads.{joined}
use Rattle.pg_talk.proofs.service.reader.Reader.join.Goals as goal

pub returns : goal.returns
returns g c nodes wanted source reads =
    let ended = c.join-read.ensures in
    let new = c.slots_together.new in
    let together = c.slots_together.ensures in (
      slots_left new.inlet ++ ended.further,
      joined g.S.Source.remaining g.S.Source.fails c.args.self c.join-read.result ended nodes wanted source (taken c.args.self.inlet) (taken new.inlet) (slots_left new.inlet) (given new.out) reads together.taken
          together.whole together.given,
    )
