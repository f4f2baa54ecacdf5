use Rattle.std.proofs.Common.{◌≡◌, length}
use Rattle.pg_talk.specs.Conversations.{AreBare}
use Rattle.pg_talk.proofs.conversation.config_of.Given as goal

abbrev pub invariant-loop-place : goal.invariant-loop-place
invariant-loop-place l = (length l.starts.items ≡ l.place) × AreBare l.fn.asked.clients l.starts.items
