use Rattle.std.proofs.Common.{◌<◌, false, get_or, length, sym, ap, subst, ◌∙◌}
use Rattle.pg_node_opens.proofs.Asking.{lost_at}
use Rattle.pg_node_opens.proofs.opens.Opens.greatest.Goals as goal

pub returns-clause-counts : goal.returns-clause-counts
returns-clause-counts c = lost_at c.args.self.now.names.items c.args.self.now.lost.items c.args.self.now.apart c.args.self.now.places c.greatest_place.result
    (subst (λ names. c.greatest_place.result < length names) c.deref.ensures.value c.greatest_place.ensures.within)
    ∙ (ap (λ lost. get_or lost c.greatest_place.result false) (sym c.deref-2.ensures.value) ∙ c.greatest_place.ensures.counts)
