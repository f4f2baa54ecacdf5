use Rattle.std.proofs.Common.{◌≡◌, ◌++◌, ◌-◌, ◌≤◌, map}
use Rattle.std.specs.List.{range_with_len}
use Rattle.pg_script_trace.specs.Watched.{sent_on}
use Rattle.pg_script_trace.proofs.watch.Watch.see_sent.Given as goal

-- the packets so far were seen
abbrev pub invariant-loop-packet : goal.invariant-loop-packet
invariant-loop-packet l =
    (l.self.names ≡ l.initial.self.names) × (l.self.line ≡ l.initial.self.line) × (l.self.letters ≡ l.initial.self.letters) × (l.first ≤ l.packet)
    × (l.packet - l.first ≤ l.packet-end - l.first)
    × (l.self.sights.items ≡ l.initial.self.sights.items ++ map (sent_on l.initial.self.line) (range_with_len l.first (l.packet - l.first)))
