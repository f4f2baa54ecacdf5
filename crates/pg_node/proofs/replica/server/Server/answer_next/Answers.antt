use Rattle.std.proofs.Common.{◌≡◌, List, ℕ, [], Some, Ok, sym, subst, ap, ◌∙◌}
use Rattle.std.specs.Io.KnownBytes.{Appends}
use Rattle.std.specs.Option.{option_copied}
use Rattle.std.proofs.lemmas.Result.{err_from_is_err_and}
use Rattle.pg_node_state.specs.PgFrame.Frames.{front_of}
use Rattle.pg_node_state.proofs.PgFrame.Readings.{front_is_frame}
use Rattle.pg_node.specs.Replicas.Progress.{HasServed}
use Rattle.pg_node.specs.Replicas.Replica.{pair_of, AnswersServed, answered}
use Rattle.pg_node_state.specs.States.{state_of}
use Rattle.pg_node.proofs.Replicas.Served.{refused_cause}
use Rattle.pg_node.proofs.Replicas.Streams.{stay, one, refused, cut_short}
use Rattle.pg_node.proofs.replica.server.Server.answer_next.Goals as goal

pub returns-in-Ok-None-clause-progress : goal.returns-in-Ok-None-clause-progress
returns-in-Ok-None-clause-progress g c = stay (pair_of c.args.self.now.node) c.args.self.now.deframer.unread (state_of c.args.self.now.node) (g.W.Sink.contents c.args.writer.now)

pub answer-requires-clause-len : goal.answer-requires-clause-len
answer-requires-clause-len g c =
    front_is_frame.lawful c.args.self.now.deframer.unread c.in-Ok-Some.body.now (sym c.in-Ok-Some.ensures.body ∙ ap (λ o. Ok (option_copied o)) c.in-Ok-Some.field-0-is)

pub returns-in_err-answer-clause-fault : goal.returns-in_err-answer-clause-fault
returns-in_err-answer-clause-fault g c =
    let unread = c.args.self.now.deframer.unread in
    let front : front_of unread ≡ Ok (Some c.in-Ok-Some.body.now) = sym c.in-Ok-Some.ensures.body ∙ ap (λ o. Ok (option_copied o)) c.in-Ok-Some.field-0-is in
    let p = err_from_is_err_and c.from_residual.result c.from_residual.ensures.1 in
    rw (p.1, p.2) (refused (pair_of c.args.self.now.node) unread c.in-Ok-Some.body.now (state_of c.args.self.now.node) (g.W.Sink.contents c.args.writer.now) front c.in_err-answer.field-0.0 c.in_err-answer.ensures.fault)

pub returns-in_err-answer-clause-cause : goal.returns-in_err-answer-clause-cause
returns-in_err-answer-clause-cause g c =
    let p = err_from_is_err_and c.from_residual.result c.from_residual.ensures.1 in
    rw (p.1, p.2) (refused_cause _ (pair_of c.args.self.now.node) (state_of c.args.self.now.node) c.in-Ok-Some.body.now c.in_err-answer.field-0.0 c.in_err-answer.ensures.fault)

pub returns-in_err-put_whole-clause-cause : goal.returns-in_err-put_whole-clause-cause
returns-in_err-put_whole-clause-cause g c =
    let p = err_from_is_err_and c.from_residual-in_err-put_whole.result c.from_residual-in_err-put_whole.ensures.1 in
    rw (p.1, p.2, c.in_err-put_whole.ensures.fault.0) c.in_err-put_whole.ensures.cause

pub returns-in_err-put_whole-clause-fault : goal.returns-in_err-put_whole-clause-fault
returns-in_err-put_whole-clause-fault g c =
    let pair = pair_of c.args.self.now.node in
    let s = state_of c.args.self.now.node in
    let t = state_of c.answer.new.node in
    let unread = c.args.self.now.deframer.unread in
    let body = c.in-Ok-Some.body.now in
    let contents = g.W.Sink.contents in
    let front : front_of unread ≡ Ok (Some body) = sym c.in-Ok-Some.ensures.body ∙ ap (λ o. Ok (option_copied o)) c.in-Ok-Some.field-0-is in
    let answers : AnswersServed (answered pair s body) t [] c.answer.new.out.items = subst (λ (b : List ℕ). AnswersServed (answered pair s body) t b c.answer.new.out.items) c.clear.ensures.items c.in_ok-answer.ensures.ok in
    let p = err_from_is_err_and c.from_residual-in_err-put_whole.result c.from_residual-in_err-put_whole.ensures.1 in
    let f = c.in_err-put_whole.ensures.fault in
    rw (p.1, p.2, f.0) (cut_short pair unread body s t (contents c.args.writer.now) (contents c.put_whole.new.writer) c.answer.new.out.items f.1.0 f.1.1 front answers (f.1.2 ∙ c.as_slice.ensures) f.1.3)

pub returns-clause-progress : goal.returns-clause-progress
returns-clause-progress g c =
    let pair = pair_of c.args.self.now.node in
    let s = state_of c.args.self.now.node in
    let t = state_of c.answer.new.node in
    let unread = c.args.self.now.deframer.unread in
    let body = c.in-Ok-Some.body.now in
    let front : front_of unread ≡ Ok (Some body) = sym c.in-Ok-Some.ensures.body ∙ ap (λ o. Ok (option_copied o)) c.in-Ok-Some.field-0-is in
    let answers : AnswersServed (answered pair s body) t [] c.answer.new.out.items = subst (λ (b : List ℕ). AnswersServed (answered pair s body) t b c.answer.new.out.items) c.clear.ensures.items c.in_ok-answer.ensures.ok in
    let wrote = subst (Appends (g.W.Sink.contents c.args.writer.now) (g.W.Sink.contents c.put_whole.new.writer)) c.as_slice.ensures c.in_ok-put_whole.ensures.ok in
    subst (λ (u : List ℕ). HasServed pair unread u s t (g.W.Sink.contents c.args.writer.now) (g.W.Sink.contents c.put_whole.new.writer)) (sym c.next.ensures.unread)
    (one pair unread body s t (g.W.Sink.contents c.args.writer.now) (g.W.Sink.contents c.put_whole.new.writer) c.answer.new.out.items front answers wrote)
