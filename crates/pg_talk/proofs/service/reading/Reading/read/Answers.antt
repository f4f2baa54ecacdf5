use Rattle.std.proofs.Common.{[], refl, subst, sym, take, append-nil}
use Rattle.std.specs.Io.KnownBytes.{Consumes}
use Rattle.pg_term.specs.declared.faults.TheConstants.{OUT_OF_MEMORY, READ_FAULT}
use Rattle.pg_node_requests.specs.declared.input.Input.TheVariants as forms
use Rattle.pg_talk.proofs.BodiesRead.{ends_failed, ends_short, ends_wanted}
use Rattle.pg_talk.proofs.ThreadReads.{ends_by, ends_then, goes_fed, waiting_front}
use Rattle.pg_talk.proofs.service.reading.Reading.read.Goals as goal

-- no more is wanted
pub returns-then-self-eq0-clause-end : goal.returns-then-self-eq0-clause-end
returns-then-self-eq0-clause-end g c ended =
    let self = c.args.self.now in
    let remaining = g.S.Source.remaining in
    let fails = g.S.Source.fails in
    ends_by remaining fails self c.end.new.self forms.End c.end.ensures.same c.end.ensures.gave
    (ends_wanted remaining fails self.layout.nodes.items (remaining self.source) self.deframer.unread self.requests c.if-self-eq0.true)

-- the read failed
pub returns-in-Err-clause-end : goal.returns-in-Err-clause-end
returns-in-Err-clause-end g c ended =
    let self = c.args.self.now in
    let remaining = g.S.Source.remaining in
    let fails = g.S.Source.fails in
    ends_by remaining fails self c.end-in-Err.new.self (forms.Broken READ_FAULT) c.end-in-Err.ensures.same c.end-in-Err.ensures.gave
    (ends_failed remaining fails self.layout.nodes.items (remaining self.source) self.deframer.unread self.requests c.if-self-eq0.false
    (waiting_front self.requests self.deframer.unread c.requires.waits c.if-self-eq0.false) self.source c.read_some.new.self refl c.in-Err.ensures.err)

-- the source is at its end
pub returns-then-count-eq0-clause-end : goal.returns-then-count-eq0-clause-end
returns-then-count-eq0-clause-end g c ended =
    let self = c.args.self.now in
    let remaining = g.S.Source.remaining in
    let fails = g.S.Source.fails in
    let now = record self { source = c.read_some.new.self } in
    ends_then remaining fails self now c.end_of_input.new.self
    (goes_fed remaining fails self now [] refl refl refl
    (subst (λ n. Consumes (remaining self.source) (remaining c.read_some.new.self) (take n c.read_some.new.piece)) c.if-count-eq0.true c.in-Ok.ensures.bytes.0) (sym (append-nil self.deframer.unread)))
    c.end_of_input.ensures.end

-- a piece came in
pub returns-in-Ok-feed-clause-on : goal.returns-in-Ok-feed-clause-on
returns-in-Ok-feed-clause-on g c going =
    let self = c.args.self.now in
    goes_fed g.S.Source.remaining g.S.Source.fails self (record self { source = c.read_some.new.self; deframer = c.feed.new.self }) (take c.in-Ok.count c.read_some.new.piece) refl refl refl
    c.in-Ok.ensures.bytes.0 c.in-Ok-feed.ensures.ok

-- memory ran out
pub returns-in-Err-feed-clause-end : goal.returns-in-Err-feed-clause-end
returns-in-Err-feed-clause-end g c ended =
    let self = c.args.self.now in
    let remaining = g.S.Source.remaining in
    let fails = g.S.Source.fails in
    let end = c.end-in-Err-feed in
    ends_by remaining fails self end.new.self (forms.Broken OUT_OF_MEMORY) end.ensures.same end.ensures.gave
    (ends_short remaining fails self.layout.nodes.items (remaining self.source) self.deframer.unread self.requests c.if-self-eq0.false)
