use Rattle.std.proofs.Common.{◌≡◌, ◌≤◌, length}
use Rattle.pg_script_trace.proofs.watch.Watch.read_letters.Given as goal

-- no packet is lost
abbrev pub invariant-loop-peer : goal.invariant-loop-peer
invariant-loop-peer _ l =
    (l.self.names ≡ l.initial.self.names) × (l.self.line ≡ l.initial.self.line) × (l.self.sights ≡ l.initial.self.sights)
    × (length l.initial.self.letters.items ≤ length l.self.letters.items)
