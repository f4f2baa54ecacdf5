use Rattle.std.proofs.Common.{ap, sym, ◌∙◌, Ok}
use Rattle.std.specs.Option.{option_copied}
use Rattle.pg_frame.proofs.Readings.{front_is_frame}
use Rattle.pg_process.proofs.serving.Serving.hear_next.Goals as goal

pub hear-requires : goal.hear-requires
hear-requires c = front_is_frame.lawful c.args.self.now.deframer.unread c.in-Ok-Some.body.now (sym c.in-Ok-Some.ensures.body ∙ ap (λ o. Ok (option_copied o)) c.in-Ok-Some.field-0-is)
