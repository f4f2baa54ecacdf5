use Rattle.std.proofs.Common.{◌≡◌, take}
use Rattle.pg_script_trace.specs.Traces.{widest}
use Rattle.pg_script_trace.proofs.columns.widest.Given as goal

-- the longest of the names so far
abbrev pub invariant-loop-place : goal.invariant-loop-place
invariant-loop-place l = l.most ≡ widest (take l.place l.names)
