use Rattle.std.proofs.Common.{◌≡◌, ◌<◌, ℕ, List, length, get_or}
use Rattle.std.specs.List.{All}
use Rattle.pg_cluster.specs.PgNodeRun.Ports.{IsSilent}
use Rattle.pg_cluster.specs.PgNodeRun.declared.port.Client.{Client}
use Rattle.pg_talk.specs.Asking.{HasRest, is_first}
use Rattle.pg_talk.specs.declared.speaker.Speaker.{Speaker}
use Rattle.pg_talk.proofs.conversation.speakers.Given as goal

abbrev pub invariant-loop-place : goal.invariant-loop-place
invariant-loop-place l = (length l.speakers.items ≡ l.place)
    × ((i : ℕ) (s : Speaker) (client : Client) → i < length l.speakers.items → IsSilent client → HasRest (is_first i) l.rounds (get_or l.speakers.items i s) client)
