use Rattle.std.proofs.Common.{◌≡◌, length, map}
use Rattle.std.specs.List.{range_with_len}
use Rattle.pg_script_trace.specs.Watched.{sent_on}
use Rattle.pg_script_trace.proofs.watch.Watch.see_begins.Given as goal

-- all packets so far were seen
abbrev pub invariant-loop-node : goal.invariant-loop-node
invariant-loop-node _ l =
    (l.self.names ≡ l.initial.self.names) × (l.self.line ≡ 0)
    × (l.self.sights.items ≡ map (sent_on 0) (range_with_len 0 (length l.self.letters.items)))
