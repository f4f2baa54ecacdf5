use Rattle.std.proofs.Common.{ap, ◌∙◌, ◌++◌, ◌∷◌, []}
use Rattle.pg_cluster.proofs.runs.Made.open.Goals as goal

pub returns-clause-tellers : goal.returns-clause-tellers
returns-clause-tellers g c =
    let teller = c.in-Ok-slot_pair.teller in
    (teller, c.push_reserved-2.ensures.items ∙ ap (λ ts. ts ++ teller ∷ []) c.reserve-3.ensures.items, (c.in-Ok-slot_pair.ensures.slots, c.in-Ok-slot_pair.ensures.ungiven, c.in-Ok-slot_pair.ensures.free))
