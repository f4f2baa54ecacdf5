use Rattle.std.proofs.Common.{IfOk, subst}
use Rattle.pg_world.specs.PgNodeState.Same.{AreSameNodes}
use Rattle.std.specs.Prelude.{◌↔◌, IsTrue}
use Rattle.pg_cluster_judges.proofs.Judging.{shown_one}
use Rattle.pg_cluster_judges.proofs.closed.judges.shows_one.Goals as goal

pub returns-in-Some : goal.returns-in-Some
returns-in-Some c =
    shown_one c.looks_same.result _ c.in-Some.other.now _ c.in-Some.ensures (subst (λ one. IfOk c.looks_same.result (λ same. IsTrue same ↔ AreSameNodes one c.in-Some.other.now)) c.state.ensures c.looks_same.ensures)
