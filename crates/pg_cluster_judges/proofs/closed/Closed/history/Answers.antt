use Rattle.std.proofs.Common.{◌≡◌, Option, true, false, map, subst}
use Rattle.std.specs.Prelude.{IfOk, is_some}
use Rattle.std.specs.declared.alloc.Global.{Global}
use Rattle.std.specs.declared.vec.Vec.{Vec}
use Rattle.std.proofs.Props.{props}
use mathlib.Core.Logic.{∥∥₁_elim}
use Rattle.pg_world.specs.PgWorldAccount.declared.entry.Entry.{Entry}
use Rattle.pg_world.specs.PgWorldAccount.Histories.{as_entry}
use Rattle.pg_world.specs.PgWorldPackets.FrameWorlds.{lost_of, view_of}
use Rattle.pg_world.specs.PgWorldPackets.Openings.{CanBegin}
use Rattle.pg_world.proofs.PgWorldPackets.OrderedOnce.{only_memory}
use Rattle.pg_cluster_judges.specs.Closed.{IsHistory, IsOneLosingRun}
use Rattle.pg_cluster_judges.specs.Judges.{all_made, ran_out}
use Rattle.pg_cluster_judges.proofs.Histories.{always_found, found_history, none_found, told_history, unbegun_history}
use Rattle.pg_cluster_judges.proofs.Judging.{ok_so}
use Rattle.pg_cluster_judges.proofs.Replaying.{LeadsThere, losing_run_there}
use Rattle.pg_cluster_judges.proofs.closed.Closed.history.Goals as goal

pub returns-in-Ok : goal.returns-in-Ok
returns-in-Ok c =
    let given = c.args.config.now.starts.items in
    let ring = c.args.config.now.ring in
    let closed = c.args.self.now in
    let all = c.in-Ok.ensures.ok in
    let view = view_of c.in-Ok.replay.world in
    let gone = lost_of c.in-Ok.replay.world in
    let numbers = c.in-Ok.replay.numbers.items in
    let found = c.history_of-found.ensures in
    let result = c.history_of-found.result in
    let some = subst (λ ns. IfOk result (λ found. is_some found ≡ all_made ns)) c.as_slice-numbers.ensures.value found.some in
    let none = subst (λ ns. IfOk result (λ found. ran_out ns ≡ false)) c.as_slice-numbers.ensures.value found.ran in record {
      history = told_history given closed all.steps c.args.name.now result all.are (found_history given all.steps c.args.name.now view gone numbers result all.has found.history some);
      some = ok_so (λ (found : Option (Vec Entry Global)). CanBegin ring given → LeadsThere given closed.nodes.items all.steps → is_some found ≡ true)
          (λ (found : Option (Vec Entry Global)). CanBegin ring given → IsOneLosingRun given closed → is_some found ≡ true) result
          (λ found so can run. ∥∥₁_elim (run all.steps all.are) (hlevel props) (λ one. so can (losing_run_there given closed.lost.items closed.nodes.items all.steps one)))
          (always_found ring given closed.nodes.items all.steps view gone numbers result all.has some none);
    }

pub returns-in-Err-clause-history : goal.returns-in-Err-clause-history
returns-in-Err-clause-history c =
    none_found (λ entries. IsHistory c.args.config.now.starts.items c.args.self.now c.args.name.now (map as_entry entries.items)) _ c.unbegun.result c.unbegun.ensures

pub returns-in-Err-clause-some : goal.returns-in-Err-clause-some
returns-in-Err-clause-some c =
    unbegun_history c.args.config.now.ring c.args.config.now.starts.items (IsOneLosingRun c.args.config.now.starts.items c.args.self.now) c.in-Err.fault c.unbegun.result
    (only_memory c.configs_are_decided.ensures c.args.config.now.ring c.args.config.now.starts.items c.in-Err.fault) c.in-Err.ensures.fault c.unbegun.ensures
