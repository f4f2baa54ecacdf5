-- How a thread rests that finds nothing to do.
use Rattle.std.specs.Prelude.{◌≡◌, ◌≢◌, ◌-◌, ◌*◌, ℕ, min}
use Rattle.pg_node_run.specs.declared.rest.Rest.{Rest}

-- how many further looks only yield the processor
abbrev pub yields_of : Rest → ℕ
yields_of rest = rest.yields

-- for how many microseconds the thread sleeps at the next look then
abbrev pub sleep_of : Rest → ℕ
sleep_of rest = rest.sleep

-- one look more found nothing
pub record RestsOnce (a b : Rest) : Type 0 where
  pub yields : yields_of a ≢ 0 → (yields_of b ≡ yields_of a - 1) × (sleep_of b ≡ sleep_of a)
  pub sleeps : yields_of a ≡ 0 → (yields_of b ≡ 0) × (sleep_of b ≡ min (2 * sleep_of a) 4000)
