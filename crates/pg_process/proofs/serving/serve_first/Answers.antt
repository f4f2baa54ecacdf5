use Rattle.std.proofs.Common.{◌≡◌, ◌∙◌, Ok, Some, ap, sym}
use Rattle.std.specs.Option.{option_copied}
use Rattle.pg_frame.proofs.Readings.{front_is_frame}
use Rattle.pg_frame.specs.Frames.{front_of}
use Rattle.pg_process.proofs.Ended.{is_new, story_of, unbegun_ends}
use Rattle.pg_process.proofs.serving.serve_first.Goals as goal

pub begun_by-begun-requires : goal.begun_by-begun-requires
begun_by-begun-requires g c = front_is_frame.lawful c.args.deframer.unread c.in-Ok-Some.body.now (sym c.in-Ok-Some.ensures.body ∙ ap (λ o. Ok (option_copied o)) c.in-Ok-Some.field-0-is)

pub returns-in-Ok : goal.returns-in-Ok
returns-in-Ok g c = λ first came.
    let front : front_of c.args.deframer.unread ≡ Ok (Some c.in-Ok-Some.body.now) = sym c.in-Ok-Some.ensures.body ∙ ap (λ o. Ok (option_copied o)) c.in-Ok-Some.field-0-is in
    c.run-ended.ensures (story_of g.W.Sink.contents g.W.Sink.flushed g.W.Sink.fails g.L.Sink.contents g.L.Sink.flushed g.L.Sink.fails g.R.Source.gives g.R.Source.remaining g.R.Source.fails c.args.config c.in-Ok-Some.body.now c.in-Ok.process c.args.writer.now c.args.log.now c.in-Ok.ensures.begins) first came
    (is_new g.W.Sink.contents g.W.Sink.flushed g.W.Sink.fails g.L.Sink.contents g.L.Sink.flushed g.L.Sink.fails g.R.Source.gives g.R.Source.remaining g.R.Source.fails c.args.config c.in-Ok-Some.body.now c.args.deframer.unread c.in-Ok.process c.args.writer.now c.args.log.now c.in-Ok.ensures.begins front)

pub returns-in-Err : goal.returns-in-Err
returns-in-Err g c = λ first came.
    let front : front_of c.args.deframer.unread ≡ Ok (Some c.in-Ok-Some.body.now) = sym c.in-Ok-Some.ensures.body ∙ ap (λ o. Ok (option_copied o)) c.in-Ok-Some.field-0-is in
    unbegun_ends g.W.Sink.contents g.W.Sink.flushed g.W.Sink.fails g.L.Sink.contents g.L.Sink.flushed g.L.Sink.fails g.R.Source.gives g.R.Source.remaining g.R.Source.fails c.args.config first c.args.reader.now c.args.writer.now c.args.log.now
    c.args.deframer.unread c.in-Ok-Some.body.now c.in-Err.fault came front c.in-Err.ensures.fault
