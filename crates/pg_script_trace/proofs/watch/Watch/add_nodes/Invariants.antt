use Rattle.std.proofs.Common.{◌≡◌, ◌++◌, map, string_bytes, take}
use Rattle.pg_script_trace.specs.Watched.{names_of}
use Rattle.pg_script_trace.proofs.watch.Watch.add_nodes.Given as goal

-- the names so far
abbrev pub invariant-loop-place : goal.invariant-loop-place
invariant-loop-place l =
    (map string_bytes l.self.names.items ≡ map string_bytes l.initial.self.names.items ++ names_of (take l.place l.starts))
    × (l.self.line ≡ l.initial.self.line) × (l.self.letters ≡ l.initial.self.letters) × (l.self.sights ≡ l.initial.self.sights)
