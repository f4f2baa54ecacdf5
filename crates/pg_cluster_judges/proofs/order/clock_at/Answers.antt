-- The first clock of what is left.
use Rattle.std.proofs.Common.{◌+◌, ◌∷◌, ap, ◌∙◌, drop, arith}
use Rattle.std.proofs.lemmas.List.{drop_more, get_or-map, length-map}
use Rattle.pg_cluster_judges.specs.Merge.{clocks_of}
use Rattle.pg_cluster_judges.proofs.order.clock_at.Goals as goal

pub returns-then-place-log : goal.returns-then-place-log
returns-then-place-log g c = (
  drop (c.args.place + 1) (clocks_of c.args.log.now),
  drop_more (clocks_of c.args.log.now) c.args.place 0 (omega (arith, c.if-place-log.true, length-map c.args.log.now (λ x. x.0)))
      ∙ ap (λ clock. clock ∷ drop (c.args.place + 1) (clocks_of c.args.log.now)) (get_or-map (λ x. x.0) c.args.log.now c.args.place c.index-log-place.result 0 c.if-place-log.true),
)
