use Rattle.std.proofs.Common.{◌<◌, false, sym, subst, ◌∙◌}
use Rattle.pg_node_opens.proofs.Asking.{lost_at}
use Rattle.pg_node_opens.proofs.Placed.{read_at}
use Rattle.pg_node_opens.proofs.opens.Opens.is_lost.Goals as goal

pub returns : goal.returns
returns c = read_at c.args.self.now.lost.items c.args.place c.index.result.now false (subst (λ n. c.args.place < n) (sym c.args.self.now.places.flags) c.requires) c.index.ensures
    ∙ sym (lost_at c.args.self.now.names.items c.args.self.now.lost.items c.args.self.now.apart c.args.self.now.places c.args.place c.requires)
