use Rattle.std.proofs.Common.{◌≡◌, ◌↔◌, Bool, true, false, subst}
use Rattle.std.specs.Prelude.{IfOk, IsTrue}
use Rattle.std.proofs.Props.{props}
use mathlib.Core.Logic.{∥∥₁_elim}
use Rattle.pg_world.specs.PgWorldPackets.FrameWorlds.{lost_of, view_of}
use Rattle.pg_world.specs.PgWorldPackets.Openings.{CanBegin}
use Rattle.pg_world.proofs.PgWorldPackets.OrderedOnce.{only_memory}
use Rattle.pg_cluster_judges.specs.Closed.{IsOneLosingRun, IsOneRun, logs_in}
use Rattle.pg_cluster_judges.specs.Judges.{AreShown, all_made, ran_out}
use Rattle.pg_cluster_judges.proofs.Judging.{ok_so, replayed_so, replays_so}
use Rattle.pg_cluster_judges.proofs.Replaying.{LeadsThere, losing_run_there, never_no, run_there, unbegun_so}
use Rattle.pg_cluster_judges.proofs.closed.Closed.replays.Goals as goal

pub returns-in-Ok : goal.returns-in-Ok
returns-in-Ok c =
    let given = c.args.config.now.starts.items in
    let ring = c.args.config.now.ring in
    let closed = c.args.self.now in
    let nodes = closed.nodes.items in
    let all = c.in-Ok.ensures.ok in
    let world = c.in-Ok.replay.world in
    let numbers = c.in-Ok.replay.numbers.items in
    let result = c.is_shown-told.result in
    let told = c.is_shown-told.ensures in
    let shown = subst (λ ns. IfOk result (λ yes. IsTrue yes ↔ ((all_made ns ≡ true) × AreShown (view_of world).traffic.nodes nodes))) c.as_slice.ensures.value told.shown in
    let made = subst (λ ns. IfOk result (λ yes. ran_out ns ≡ false)) c.as_slice.ensures.value told.all_made in
    let There = λ (yes : Bool). CanBegin ring given → LeadsThere given nodes all.steps → yes ≡ true in
    let always = never_no ring given nodes all.steps (view_of world) (lost_of world) numbers result all.has shown made in record {
      one_run = ok_so There (λ (yes : Bool). CanBegin ring given → IsOneRun given closed → yes ≡ true) result (λ yes so can run. so can (run_there given nodes (logs_in closed) all.steps (run all.steps all.are))) always;
      losing_run = ok_so There (λ (yes : Bool). CanBegin ring given → IsOneLosingRun given closed → yes ≡ true) result
          (λ yes so can run. ∥∥₁_elim (run all.steps all.are) (hlevel props) (λ one. so can (losing_run_there given closed.lost.items nodes all.steps one))) always;
      replays = replayed_so given closed all.steps result all.are (replays_so given all.steps nodes world numbers result all.has shown);
    }

pub returns-in-Err-clause-one_run : goal.returns-in-Err-clause-one_run
returns-in-Err-clause-one_run c =
    unbegun_so c.args.config.now.ring c.args.config.now.starts.items (IsOneRun c.args.config.now.starts.items c.args.self.now) c.in-Err.fault c.unbegun.result
    (only_memory c.configs_are_decided.ensures c.args.config.now.ring c.args.config.now.starts.items c.in-Err.fault) c.in-Err.ensures.fault c.unbegun.ensures

pub returns-in-Err-clause-losing_run : goal.returns-in-Err-clause-losing_run
returns-in-Err-clause-losing_run c =
    unbegun_so c.args.config.now.ring c.args.config.now.starts.items (IsOneLosingRun c.args.config.now.starts.items c.args.self.now) c.in-Err.fault c.unbegun.result
    (only_memory c.configs_are_decided.ensures c.args.config.now.ring c.args.config.now.starts.items c.in-Err.fault) c.in-Err.ensures.fault c.unbegun.ensures
