use Rattle.std.proofs.Common.{◌↔◌, Bool, List, subst}
use Rattle.std.specs.Prelude.{IfOk, IsTrue}
use Rattle.pg_cluster_judges.specs.Survivors.{HaveSame, survivors}
use Rattle.pg_cluster_judges.specs.NodeOf.{NodeOf}
use Rattle.pg_cluster_judges.proofs.closed.Closed.same_after_loss.Goals as goal

pub returns : goal.returns
returns c =
    subst (λ (nodes : List NodeOf). IfOk c.have_same.result (λ yes. IsTrue yes ↔ HaveSame (survivors c.args.self.now.lost.items nodes))) c.as_slice.ensures.value
    (subst (λ (lost : List Bool). IfOk c.have_same.result (λ yes. IsTrue yes ↔ HaveSame (survivors lost c.as_slice.result.now))) c.as_slice-2.ensures.value c.have_same.ensures)
