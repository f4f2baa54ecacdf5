use Rattle.std.proofs.Common.{◌≡◌, false, get_or, take}
use Rattle.std.specs.List.{count_by}
use Rattle.pg_explore_survey.proofs.tally.count_at.Given as goal

abbrev pub invariant-loop-place : goal.invariant-loop-place
invariant-loop-place l = l.count ≡ count_by (λ place. get_or l.marks place false) (take l.place-index l.places)
