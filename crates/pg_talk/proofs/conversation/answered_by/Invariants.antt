use Rattle.std.proofs.Common.{◌≡◌, take}
use Rattle.std.specs.List.{sum_by}
use Rattle.pg_talk.specs.Conversations.{saturated}
use Rattle.pg_talk.proofs.conversation.answered_by.Given as goal

abbrev pub invariant-loop-speaker : goal.invariant-loop-speaker
invariant-loop-speaker l = l.answered ≡ saturated (sum_by (λ speaker. speaker.answered) (take l.speaker-index l.speakers))
