-- The ways between worlds, as they are lent.
use Rattle.std.specs.Prelude.{◌≡◌, List, Bool, true, false, map}
use Rattle.std.specs.Global.{Vec}
use Rattle.pg_explore.specs.declared.moves.Move.{Move}
use Rattle.pg_explore.specs.declared.moves.Move.TheVariants.{Take, Next, Loss, Retry, SeeLoss}
use Rattle.pg_explore.specs.declared.visitor.Led.{Led}
use Rattle.pg_explore_tally.specs.declared.ways.Way.{Way}

abbrev pub is_take : Move → Bool
is_take (Take i p) = true
is_take (Next i) = false
is_take (Loss i keep) = false
is_take (Retry i op) = false
is_take (SeeLoss i p) = false

-- where a step leads, and whether a packet is taken by it
abbrev pub way_of : Led → Way
way_of led = record { place = led.place; is_take = is_take led.step }

abbrev pub rows_of : List (Vec Way) → List (List Way)
rows_of ways = map (λ (row : Vec Way). row.items) ways

abbrev pub all_led : List (Vec Led) → List (List Led)
all_led led = map (λ (row : Vec Led). row.items) led

-- the ways are those of the steps that happen at some worlds
abbrev pub AreWaysOf : List (List Led) → List (Vec Way) → Type 0
AreWaysOf led ways = rows_of ways ≡ map (λ (row : List Led). map way_of row) led
