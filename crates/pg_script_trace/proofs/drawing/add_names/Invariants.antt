use Rattle.std.proofs.Common.{◌≡◌, ◌++◌, map, string_bytes, take}
use Rattle.pg_script_trace.proofs.drawing.add_names.Given as goal

-- the names so far
abbrev pub invariant-loop-place : goal.invariant-loop-place
invariant-loop-place l = map string_bytes l.nodes.items ≡ map string_bytes l.initial.nodes.items ++ map string_bytes (take l.place l.names)
