use Rattle.std.proofs.Common.{◌≡◌, ◌++◌, take}
use Rattle.std.specs.List.{flat_map}
use Rattle.pg_script_trace.specs.Happenings.{seen_as, shown}
use Rattle.pg_script_trace.proofs.drawing.add_sights.Given as goal

-- the sights so far
abbrev pub invariant-loop-place : goal.invariant-loop-place
invariant-loop-place l = flat_map shown l.events.items ≡ flat_map shown l.initial.events.items ++ flat_map (λ sight. seen_as l.watch.letters.items sight.seen) (take l.place l.sights)
