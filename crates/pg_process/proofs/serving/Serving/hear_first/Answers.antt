use Rattle.std.proofs.Common.{ap, sym, ◌≡◌, ◌∙◌, Ok, Some}
use Rattle.std.specs.Option.{option_copied}
use Rattle.pg_frame.proofs.Readings.{front_is_frame}
use Rattle.pg_frame.specs.Frames.{front_of}
use Rattle.pg_process.proofs.Storied.{hears_first, unfinished_first, unnoted_first, untold_first}
use Rattle.pg_process.proofs.serving.Serving.hear_first.Goals as goal

pub note-requires : goal.note-requires
note-requires c = front_is_frame.lawful c.args.self.now.deframer.unread c.in-Ok-Some.body.now (sym c.in-Ok-Some.ensures.body ∙ ap (λ o. Ok (option_copied o)) c.in-Ok-Some.field-0-is)

pub returns-in-Err-clause-fault : goal.returns-in-Err-clause-fault
returns-in-Err-clause-fault c =
    let front : front_of c.args.self.now.deframer.unread ≡ Ok (Some c.in-Ok-Some.body.now) = sym c.in-Ok-Some.ensures.body ∙ ap (λ o. Ok (option_copied o)) c.in-Ok-Some.field-0-is in
    unnoted_first c.args.self.now.deframer.unread c.in-Ok-Some.body.now c.in-Err.fault c.args.self.now.process c.note.new.self front c.in-Err.ensures.failed

pub returns-in-Ok-attend-clause-heard : goal.returns-in-Ok-attend-clause-heard
returns-in-Ok-attend-clause-heard c =
    let front : front_of c.args.self.now.deframer.unread ≡ Ok (Some c.in-Ok-Some.body.now) = sym c.in-Ok-Some.ensures.body ∙ ap (λ o. Ok (option_copied o)) c.in-Ok-Some.field-0-is in
    hears_first c.args.self.now.deframer.unread c.next.new.self.unread c.in-Ok-Some.body.now c.args.self.now.process c.note.new.self c.tell_brought.new.self c.attend.new.self front c.next.ensures.unread c.in-Ok.ensures.made
    c.in-Ok-tell_brought.ensures.made c.in-Ok-attend.ensures.works c.in-Ok-attend.ensures.attends
    c.in-Ok-attend.ensures.settled

pub returns-in-Err-attend-clause-fault : goal.returns-in-Err-attend-clause-fault
returns-in-Err-attend-clause-fault c =
    let front : front_of c.args.self.now.deframer.unread ≡ Ok (Some c.in-Ok-Some.body.now) = sym c.in-Ok-Some.ensures.body ∙ ap (λ o. Ok (option_copied o)) c.in-Ok-Some.field-0-is in
    unfinished_first c.args.self.now.deframer.unread c.in-Ok-Some.body.now c.in-Err-attend.fault c.args.self.now.process c.note.new.self c.tell_brought.new.self c.attend.new.self front c.in-Ok.ensures.made
    c.in-Ok-tell_brought.ensures.made c.in-Err-attend.ensures.until

pub returns-in-Err-tell_brought-clause-fault : goal.returns-in-Err-tell_brought-clause-fault
returns-in-Err-tell_brought-clause-fault c =
    let front : front_of c.args.self.now.deframer.unread ≡ Ok (Some c.in-Ok-Some.body.now) = sym c.in-Ok-Some.ensures.body ∙ ap (λ o. Ok (option_copied o)) c.in-Ok-Some.field-0-is in
    untold_first c.args.self.now.deframer.unread c.in-Ok-Some.body.now c.in-Err-tell_brought.fault c.args.self.now.process c.note.new.self c.tell_brought.new.self front c.in-Ok.ensures.made c.in-Err-tell_brought.ensures.failed
