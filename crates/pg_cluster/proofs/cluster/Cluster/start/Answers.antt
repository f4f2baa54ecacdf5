use Rattle.std.proofs.Common.{arith, ◌≡◌, ◌≤◌, length, map, vec_len, sym, ap, ◌∙◌, subst}
use Rattle.pg_ring.specs.Slots.{AreSlots}
use Rattle.pg_cluster.specs.Members.{is_lost, lasts_in, losses_in, thread_of, threads_in}
use Rattle.pg_cluster.specs.Notices.{IsFresh, IsRoomy, HasNoNotice as IsSilentTeller}
use Rattle.pg_cluster.specs.Threads.{notices_begun}
use Rattle.std.proofs.lemmas.List.{length-map}
use Rattle.pg_cluster_judges.specs.PgNodeRun.Ports.{ArePort, IsSilent}
use Rattle.pg_cluster.specs.Clients.{IsOpenClient, ports_begun}
use Rattle.pg_cluster.specs.Room.{HasClosingRoom}
use Rattle.pg_cluster.specs.Threads.{AreMade, HaveRings}
use Rattle.pg_cluster.proofs.Making.{shortage}
use Rattle.pg_cluster.proofs.Paired.{pairs_left, pairs_so}
use Rattle.pg_cluster.proofs.Rooms.{room_first}
use Rattle.pg_cluster.proofs.Telling.{says_none}
use Rattle.pg_cluster_judges.specs.PgNodeRun.Runs.{generator_of, notices_at}
use Rattle.pg_cluster.specs.Threads.{begun_by}
use Rattle.pg_cluster.proofs.Starts.{started_runs, started_limits, started_wired, started_clients, started_notices}
use Rattle.pg_cluster.proofs.cluster.Cluster.start.Goals as goal

pub invariant_of-cluster : goal.invariant_of-cluster
invariant_of-cluster g c =
    let runs = c.in_ok-made.made.runs in
    let members = c.in-Ok-start_all.members in
    let threads = threads_in members.items in
    let started = c.in-Ok-start_all.ensures.started in
    let same : length threads ≡ length runs.items = started.0 in
    let mapped : length threads ≡ length members.items = length-map members.items thread_of in
    let size : vec_len members ≡ vec_len runs = members.ok.0 ∙ (sym mapped ∙ (same ∙ sym runs.ok.0)) in
    let kept = c.in-Ok-with_capacity.kept in
    let has = c.in-Ok-with_capacity.ensures in
    let count : c.len.result ≡ vec_len runs = c.len.ensures in
    let clients = c.in_ok-made.made.clients in
    let opened = started_clients runs.items c.args.limit threads clients.items started c.in_ok-made.ensures.clients in
    let tellers = c.in_ok-made.made.tellers.items in
    let fresh = started_notices IsFresh runs.items c.args.limit threads tellers started c.in_ok-made.ensures.notices in
    let told : c.len-2.result ≡ length clients.items = c.len-2.ensures ∙ clients.ok.0 in
    let places : c.len-2.result ≡ length (ports_begun threads) = told ∙ opened.len in
    let room = has.rans.1 in
    let marks = has.lost.1 in
    let same_count : length tellers ≡ length (losses_in members.items) =
    let marks = length-map members.items is_lost in let all = length-map threads (λ t. notices_at (begun_by t)) in fresh.len ∙ (all ∙ (mapped ∙ sym marks)) in
    let few : length (losses_in members.items) ≤ 16 =
    let marks = length-map members.items is_lost in let most = c.in_ok-made.ensures.made.few in let count = c.in_ok-made.ensures.made.count in omega (arith, marks, mapped, same, most, count) in record {
      lost_fit = (has.lost.0, omega arith);
      rans_fit = (has.rans.0, omega arith);
      room_fits = subst (λ n. HasClosingRoom kept.room n (length (ports_begun threads))) (count ∙ sym size) (subst (HasClosingRoom kept.room c.len.result) places has.room);
      wired = started_wired c.args.config.now.starts.items runs.items c.args.limit threads c.in_ok-made.ensures.made started;
      told = pairs_so IsFresh AreSlots (λ teller inlet both. both.0) tellers (notices_begun threads) fresh;
      says = ∣ says_none (losses_in members.items) (lasts_in members.items) tellers
          same_count
          (pairs_left IsFresh IsSilentTeller (λ teller inlet both. both.1) tellers (notices_begun threads) fresh) ∣₁;
      roomy = room_first (losses_in members.items) tellers same_count few (pairs_left IsFresh IsRoomy (λ teller inlet both. both.2) tellers (notices_begun threads) fresh);
      untold = λ nobody. pairs_left IsFresh IsSilentTeller (λ teller inlet both. both.1) tellers (notices_begun threads) fresh;
    }

pub returns-in-Ok-start_all-clause-starts : goal.returns-in-Ok-start_all-clause-starts
returns-in-Ok-start_all-clause-starts g c =
    subst (AreMade c.args.config.now.starts.items) (sym (started_runs c.in_ok-made.made.runs.items c.args.limit (threads_in c.in-Ok-start_all.members.items) c.in-Ok-start_all.ensures.started)) c.in_ok-made.ensures.made

pub returns-in-Ok-start_all-clause-limit : goal.returns-in-Ok-start_all-clause-limit
returns-in-Ok-start_all-clause-limit g c = started_limits c.in_ok-made.made.runs.items c.args.limit (threads_in c.in-Ok-start_all.members.items) c.in-Ok-start_all.ensures.started

pub returns-in-Ok-start_all-clause-clients : goal.returns-in-Ok-start_all-clause-clients
returns-in-Ok-start_all-clause-clients g c =
    let threads = (threads_in c.in-Ok-start_all.members.items) in
    let clients = c.in_ok-made.made.clients.items in
    pairs_so IsOpenClient ArePort (λ client port both. both.0) clients (ports_begun threads)
    (started_clients c.in_ok-made.made.runs.items c.args.limit threads clients c.in-Ok-start_all.ensures.started c.in_ok-made.ensures.clients)

pub returns-in-Ok-start_all-clause-silent : goal.returns-in-Ok-start_all-clause-silent
returns-in-Ok-start_all-clause-silent g c =
    let threads = (threads_in c.in-Ok-start_all.members.items) in
    let clients = c.in_ok-made.made.clients.items in
    pairs_left IsOpenClient IsSilent (λ client port both. both.1.0) clients (ports_begun threads)
    (started_clients c.in_ok-made.made.runs.items c.args.limit threads clients c.in-Ok-start_all.ensures.started c.in_ok-made.ensures.clients)

pub returns-in-Ok-start_all-clause-rings : goal.returns-in-Ok-start_all-clause-rings
returns-in-Ok-start_all-clause-rings g c =
    subst (HaveRings c.args.config.now.ring) (sym (started_runs c.in_ok-made.made.runs.items c.args.limit (threads_in c.in-Ok-start_all.members.items) c.in-Ok-start_all.ensures.started)) c.in_ok-made.ensures.rings

pub returns-in-Ok-start_all-clause-generators : goal.returns-in-Ok-start_all-clause-generators
returns-in-Ok-start_all-clause-generators g c =
    ap (map generator_of) (started_runs c.in_ok-made.made.runs.items c.args.limit (threads_in c.in-Ok-start_all.members.items) c.in-Ok-start_all.ensures.started) ∙ c.in_ok-made.ensures.generators

pub returns-clause-fault : goal.returns-clause-fault
returns-clause-fault g c = shortage c.args.config.now.ring c.args.config.now.starts.items c.in-Err-start_all.fault c.in_ok-made.ensures.can c.in-Err-start_all.ensures.fault
