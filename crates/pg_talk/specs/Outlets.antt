-- What was written was passed on.
use Rattle.std.specs.Prelude.{◌≡◌, false}
use Rattle.pg_cluster.specs.PgNode.Replicas.Causes.{IsFlushed}
use Rattle.pg_talk.specs.declared.service.outlet.Outlet.{Outlet}

-- where nothing waits to be passed on, nothing was written since the first, or all that was written was flushed
abbrev pub IsPassedOn : {W : Type 0} → (W → Type 0) → W → Outlet → W → Type 0
IsPassedOn flushed first outlet now = outlet.is_waiting ≡ false → IsFlushed flushed first now

-- and it stays so
abbrev pub StaysPassedOn : {W : Type 0} → (W → Type 0) → Outlet → Outlet → W → W → Type 0
StaysPassedOn {W} flushed a b before after = (first : W) → IsPassedOn flushed first a before → IsPassedOn flushed first b after

-- and at the end nothing waits
abbrev pub EndsPassedOn : {W : Type 0} → (W → Type 0) → Outlet → W → W → Type 0
EndsPassedOn {W} flushed a before after = (first : W) → IsPassedOn flushed first a before → IsFlushed flushed first after
