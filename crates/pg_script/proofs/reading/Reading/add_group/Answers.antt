use Rattle.std.proofs.Common.{◌<◌, List, length, subst, sym}
use Rattle.pg_script_trace.specs.PgStep.declared.start.Start.{Start}
use Rattle.pg_script.proofs.Placing.{place_within}
use Rattle.pg_script.proofs.reading.Reading.add_group.Goals as goal

pub give_group-requires : goal.give_group-requires
give_group-requires c =
    subst (λ (starts : List Start). c.in-Ok.place < length starts) (sym c.as_mut_slice.ensures.value)
    (place_within c.args.node.now c.args.self.now.starts.items c.in-Ok.place (c.in-Ok.ensures.ok.1))
