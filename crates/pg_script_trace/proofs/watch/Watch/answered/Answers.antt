use Rattle.std.proofs.Common.{◌≡◌, ◌++◌, ◌∷◌, [], ℕ, List, String, Global, string_bytes, ap, ◌∙◌}
use Rattle.std.specs.Str.{encode_utf8_all}
use Rattle.std.proofs.lemmas.Result.{on_ok_weaker}
use Rattle.pg_script_lines.specs.Printing.{reply_text}
use Rattle.pg_world.specs.PgStep.declared.answer.Answer.{Answer}
use Rattle.pg_script_trace.specs.declared.seen.Seen.TheVariants.{Answered}
use Rattle.pg_script_trace.specs.declared.watch.Watch.{Watch}
use Rattle.pg_script_trace.specs.Watched.{SawAnswer}
use Rattle.pg_script_trace.proofs.watch.Watch.answered.Goals as goal

saw : (node : ℕ) (answer : Answer) (old new : Watch) (text : String Global) → string_bytes text ≡ encode_utf8_all (reply_text answer.reply)
    → new.sights.items ≡ old.sights.items ++ record { line = old.line; seen = Answered node answer.number text } ∷ [] → SawAnswer node answer old new
saw node answer old new text is seen = record { text = text; seen = seen; is = is }

pub returns-clause-seen : goal.returns-clause-seen
returns-clause-seen c =
    let is = c.in_ok-print_reply.ensures.all ∙ ap (λ (before : List ℕ). before ++ encode_utf8_all (reply_text c.args.answer.now.reply)) c.new-text.ensures.bytes in
    on_ok_weaker c.add.result (λ added. ∣ saw c.args.node c.args.answer.now c.args.self.now c.add.new.self c.print_reply.new.out is added ∣₁) c.add.ensures.added
