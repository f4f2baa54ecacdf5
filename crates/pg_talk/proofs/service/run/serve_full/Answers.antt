use Rattle.std.proofs.Common.{refl}
use Rattle.pg_node_requests.specs.Layouts.{layout_of}
use Rattle.pg_cluster.specs.PgRing.SlotsLaws.{AreSlots-later}
use Rattle.pg_talk.specs.Readers.{held_by}
use Rattle.pg_talk.specs.Servings.{view_of}
use Rattle.pg_talk.proofs.Spoken.{full_is}
use Rattle.pg_talk.proofs.ThreadReads.{moved, out_itself}
use Rattle.pg_talk.proofs.Whole.{served_until_full}
use Rattle.pg_talk.proofs.service.run.serve_full.Goals as goal

pub returns-in_ok-verdict-in-Ok-clause-served : goal.returns-in_ok-verdict-in-Ok-clause-served
returns-in_ok-verdict-in-Ok-clause-served g c service first source reads own s =
    let remaining = g.S.Source.remaining in
    let given = service.config.starts.items in
    let reader = record c.args.reader { inlet = c.end_full-ended.new.inlet } in
    let full = c.in-Ok.ensures.full given first s in
    served_until_full remaining g.S.Source.fails service source first (g.W.Sink.contents c.end_full-ended.new.writer) reader (view_of c.end_full-ended.new.self) _
    (moved remaining c.args.reader reader (layout_of 0 given) service.requests source refl reads)
    (AreSlots-later (held_by c.args.reader).out (held_by c.args.reader).out c.args.reader.inlet c.end_full-ended.new.inlet c.requires.paired (out_itself (held_by c.args.reader).out)
    c.end_full-ended.ensures.same)
    (full_is c.end_full-ended.new.self.end c.in-Ok.ensures.over) c.in-Ok.ensures.idle
    (rw c.into_running.ensures at c.in_ok-verdict-in-Ok.ensures) own full.serves

pub returns-in_ok-verdict-in-Ok-clause-flushed : goal.returns-in_ok-verdict-in-Ok-clause-flushed
returns-in_ok-verdict-in-Ok-clause-flushed g c = λ first h. c.in-Ok.ensures.passed first h c.in-Ok.ensures.passed_on
