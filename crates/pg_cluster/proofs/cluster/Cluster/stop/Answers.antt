use Rattle.std.proofs.Common.{rules, arith, ◌≡◌, ◌<◌, ◌+◌, ℕ, ◌∷◌, [], false, get_or}
use Rattle.std.proofs.Common.{length, vec_len, ap, sym, ◌∙◌, subst, length-append}
use Rattle.std.specs.List.{All, AllByRecursion}
use Rattle.std.specs.Vec.Iter.{into_iter_items}
use Rattle.std.proofs.Props.{props}
use Rattle.std.proofs.lemmas.List.{length-map, nil_from_length}
use mathlib.Core.Logic.{∥∥₁_elim, ∥∥₁_map, ∥∥₁_map₂}
use Rattle.pg_ring.specs.declared.slot_in.SlotIn.{SlotIn}
use Rattle.pg_ring.specs.Slots.{taken}
use Rattle.pg_cluster_judges.specs.PgNodeRun.declared.notices.Notice.{Notice}
use Rattle.pg_cluster_judges.specs.PgNodeRun.Runs.{notices_at}
use Rattle.pg_cluster.specs.Clients.{ports_begun, ports_ended}
use Rattle.pg_cluster.specs.Clusters.{NoticesCame}
use Rattle.pg_cluster_judges.specs.Closed.{logs_of, nodes_of, turns_of}
use Rattle.pg_cluster.specs.Ended.{AreWired, AllArrived}
use Rattle.pg_cluster.specs.Members.{is_lost, lasts_in, losses_in, thread_of, threads_in}
use Rattle.pg_cluster.specs.Notices.{IsOfLost, SaysLost}
use Rattle.pg_cluster_judges.specs.Schedule.{NobodyLost}
use Rattle.pg_cluster.specs.Room.{HasClosingRoom}
use Rattle.pg_cluster.specs.Threads.{EndedWith, Joined, lasts_ended, rows_begun, rows_ended, notices_ended}
use Rattle.pg_cluster.proofs.Crossing.{joined_after}
use Rattle.pg_cluster.proofs.Finishing.{one_more_stands, stopped_ended, stopped_heard}
use Rattle.pg_cluster.proofs.Hearing.{same_ports, clients_still}
use Rattle.pg_cluster.proofs.Holding.{lasts_kept}
use Rattle.pg_cluster.proofs.Starts.{ClocksKept, GiveBack, GivesBack, KeepsClock, all_moved, next_at, next_below}
use Rattle.pg_cluster.proofs.Starts.{none_moved, pushed_moves, rest_after, runs_still, joined_members}
use Rattle.pg_cluster.proofs.Telling.{came_lost, notices_still, nothing_came}
use Rattle.pg_cluster.proofs.cluster.Cluster.stop.Goals as goal

pub loop-member-init : goal.loop-member-init
loop-member-init g c =
    let members = c.args.self.members.items in
    let left = into_iter_items c.into_iter-member-iterator.result in
    let same : left ≡ members = search rules in
    let no_ran : c.args.self.rans.items ≡ [] = nil_from_length c.args.self.rans.items (sym c.args.self.rans.ok.0 ∙ c.args.self.rans_fit.0) in
    let no_mark : c.args.self.lost.items ≡ [] = nil_from_length c.args.self.lost.items (sym c.args.self.lost.ok.0 ∙ c.args.self.lost_fit.0) in
    let nothing : GiveBack members c.args.self.rans.items = λ i m d low. absurd (let e = ap length no_ran in omega (arith, low, e)) in
    let no_clock : ClocksKept members c.args.self.rans.items = λ i m d low. absurd (let e = ap length no_ran in omega (arith, low, e)) in (
      tt,
      tt,
      search rules,
      search rules,
      search rules,
      λ nobody. nothing,
      ∣ nothing ∣₁,
      search rules,
      none_moved is_lost c.args.self.lost.items left members no_mark same,
      no_clock,
    )

pub loop-member-preserved : goal.loop-member-preserved
loop-member-preserved g c =
    let was = c.loop-member.invariant in
    let members = c.args.self.members.items in
    let rans = c.loop-member.rans.items in
    let member = c.in-Some.member in
    let step = sym c.in-Some.ensures.steps.0 ∙ was.4 in
    let items = c.push_reserved-in-loop-member.ensures.items in
    let here = next_below members _ member (length rans) step in
    let more : length c.push_reserved-in-loop-member.new.self.items ≡ length rans + 1 = ap length items ∙ length-append rans (c.join.result ∷ []) in (
      search rules,
      search rules,
      search rules,
      (let fewer = c.in-Some.ensures.steps.1 in let size = was.3 in omega arith),
      rw more (rest_after members _ member (length rans) step),
      (λ nobody. rw items (one_more_stands GivesBack members rans member c.join.result (λ m. next_at members _ member (length rans) m step) (c.join.ensures.alone (runs_still members (length rans) member (λ m. next_at members _ member (length rans) m step) here nobody)) (was.5 nobody))),
      rw items (∥∥₁_map₂ was.6 c.join.ensures.ran (λ all one. one_more_stands GivesBack members rans member c.join.result (λ m. next_at members _ member (length rans) m step) one all)),
      search rules,
      pushed_moves is_lost c.loop-member.lost.items c.push_reserved.new.self.items _ (into_iter_items c.loop-member.member-iterator) (into_iter_items c.next.new.self) member _ c.push_reserved.ensures.items
          c.is_lost.ensures c.in-Some.ensures.steps.0 was.8,
      rw items (one_more_stands KeepsClock members rans member c.join.result (λ m. next_at members _ member (length rans) m step) c.join.ensures.last was.9),
    )

pub stopped_of-requires-clause-joined : goal.stopped_of-requires-clause-joined
stopped_of-requires-clause-joined g c =
    let was = c.loop-member.invariant in
    let members = c.args.self.members.items in
    let threads = threads_in members in
    let rans = c.loop-member.rans.items in
    let none = c.in-None.ensures.steps.0 in
    let size = was.3 in
    let whole : length rans ≡ length members = omega arith in
    let joined : ∥ Joined threads rans ∥₁ = ∥∥₁_map was.6 (λ all. joined_members members rans whole all) in
    ∥∥₁_elim joined (hlevel props) (λ j. joined_after (length rans) threads rans (sym j.0) (subst (λ n. AreWired n (rows_begun threads)) (sym j.0) c.args.self.wired) j)

pub stopped_of-requires-clause-room : goal.stopped_of-requires-clause-room
stopped_of-requires-clause-room g c =
    let was = c.loop-member.invariant in
    let members = c.args.self.members.items in
    let threads = threads_in members in
    let rans = c.loop-member.rans.items in
    let none = c.in-None.ensures.steps.0 in
    let size = was.3 in
    let whole : length rans ≡ length members = omega arith in
    let joined : ∥ Joined threads rans ∥₁ = ∥∥₁_map was.6 (λ all. joined_members members rans whole all) in
    let places : length (ports_begun threads) ≡ length (ports_ended rans) = ∥∥₁_elim joined (hlevel props) (λ j. (same_ports threads rans j).len) in
    let count : vec_len c.args.self.members ≡ length rans = search rules in
    subst (λ n. HasClosingRoom c.args.self.room n (length (ports_ended rans))) count (subst (HasClosingRoom c.args.self.room (vec_len c.args.self.members)) places c.args.self.room_fits)

pub stopped_of-requires-clause-ports : goal.stopped_of-requires-clause-ports
stopped_of-requires-clause-ports g c =
    let was = c.loop-member.invariant in
    let members = c.args.self.members.items in
    let threads = threads_in members in
    let rans = c.loop-member.rans.items in
    let none = c.in-None.ensures.steps.0 in
    let size = was.3 in
    let whole : length rans ≡ length members = omega arith in
    let joined : ∥ Joined threads rans ∥₁ = ∥∥₁_map was.6 (λ all. joined_members members rans whole all) in
    ∥∥₁_elim joined (hlevel props) (λ j. clients_still threads rans c.args.clients.items j c.requires.clients)

pub stopped_of-requires-clause-notices : goal.stopped_of-requires-clause-notices
stopped_of-requires-clause-notices g c =
    let was = c.loop-member.invariant in
    let members = c.args.self.members.items in
    let threads = threads_in members in
    let rans = c.loop-member.rans.items in
    let none = c.in-None.ensures.steps.0 in
    let size = was.3 in
    let whole : length rans ≡ length members = omega arith in
    let joined : ∥ Joined threads rans ∥₁ = ∥∥₁_map was.6 (λ all. joined_members members rans whole all) in
    ∥∥₁_elim joined (hlevel props) (λ j. notices_still threads rans c.args.self.tellers.items j c.args.self.told)

pub returns-clause-ended : goal.returns-clause-ended
returns-clause-ended g c =
    let was = c.loop-member.invariant in
    let members = c.args.self.members.items in
    let threads = threads_in members in
    let rans = c.loop-member.rans.items in
    let none = c.in-None.ensures.steps.0 in
    let size = was.3 in
    let whole : length rans ≡ length members = omega arith in
    let joined : ∥ Joined threads rans ∥₁ = ∥∥₁_map was.6 (λ all. joined_members members rans whole all) in
    let lost = losses_in members in
    let stopped = c.stopped_of.ensures in
    let untold : NobodyLost lost → All (λ inlet. taken inlet ≡ []) (notices_ended rans) = λ nobody. nothing_came c.args.self.tellers.items (notices_ended rans) (c.args.self.untold nobody) stopped.told in
    let marked : length lost ≡ length threads = length-map members is_lost ∙ sym (length-map members thread_of) in
    let inlets : length (notices_ended rans) ≡ length lost = length-map rans (λ ran. notices_at ran.run) ∙ (whole ∙ sym (length-map members is_lost)) in
    let came : SaysLost lost (lasts_in members) c.args.self.tellers.items → (place : ℕ) (none : SlotIn Notice) → place < length lost
    → AllByRecursion (IsOfLost (length lost) (λ node. get_or lost node false) (λ node. get_or (lasts_ended rans) node 0) place) (taken (get_or (notices_ended rans) place none)) = λ says.
    came_lost lost (lasts_in members) (lasts_ended rans) c.args.self.tellers.items (notices_ended rans) inlets (lasts_kept members rans whole was.9) says stopped.told in
    let ended : Joined threads rans → SaysLost lost (lasts_in members) c.args.self.tellers.items → EndedWith lost threads (nodes_of c.stopped_of.result) (logs_of c.stopped_of.result) (turns_of c.stopped_of.result) = λ joined says.
    stopped_ended lost threads rans c.stopped_of.result c.args.self.wired joined (subst (λ n. AllArrived n (rows_ended rans)) joined.0 stopped.arrived) stopped.nodes stopped.logs stopped.turns marked (came says) untold in
    ∥∥₁_map₂ joined c.args.self.says ended

pub returns-clause-alone : goal.returns-clause-alone
returns-clause-alone g c =
    let was = c.loop-member.invariant in
    let members = c.args.self.members.items in
    let threads = threads_in members in
    let rans = c.loop-member.rans.items in
    let none = c.in-None.ensures.steps.0 in
    let size = was.3 in
    let whole : length rans ≡ length members = omega arith in
    let lost = losses_in members in
    let stopped = c.stopped_of.ensures in
    let untold : NobodyLost lost → All (λ inlet. taken inlet ≡ []) (notices_ended rans) = λ nobody. nothing_came c.args.self.tellers.items (notices_ended rans) (c.args.self.untold nobody) stopped.told in
    let marked : length lost ≡ length threads = length-map members is_lost ∙ sym (length-map members thread_of) in
    let inlets : length (notices_ended rans) ≡ length lost = length-map rans (λ ran. notices_at ran.run) ∙ (whole ∙ sym (length-map members is_lost)) in
    let none_came : NobodyLost lost → (place : ℕ) (none : SlotIn Notice) → place < length lost
    → AllByRecursion (IsOfLost (length lost) (λ node. get_or lost node false) (λ node. get_or (lasts_ended rans) node 0) place) (taken (get_or (notices_ended rans) place none)) = λ nobody place none low.
    subst (AllByRecursion (IsOfLost (length lost) (λ node. get_or lost node false) (λ node. get_or (lasts_ended rans) node 0) place)) (sym (untold nobody place none (omega (arith, low, inlets)))) tt in
    let ended : NobodyLost lost → Joined threads rans → EndedWith lost threads (nodes_of c.stopped_of.result) (logs_of c.stopped_of.result) (turns_of c.stopped_of.result) = λ nobody joined.
    stopped_ended lost threads rans c.stopped_of.result c.args.self.wired joined (subst (λ n. AllArrived n (rows_ended rans)) joined.0 stopped.arrived) stopped.nodes stopped.logs stopped.turns marked (none_came nobody) untold in
    λ nobody. ended nobody (joined_members members rans whole (was.5 nobody))

pub returns-clause-heard : goal.returns-clause-heard
returns-clause-heard g c =
    let was = c.loop-member.invariant in
    let members = c.args.self.members.items in
    let threads = threads_in members in
    let rans = c.loop-member.rans.items in
    let none = c.in-None.ensures.steps.0 in
    let size = was.3 in
    let whole : length rans ≡ length members = omega arith in
    let joined : ∥ Joined threads rans ∥₁ = ∥∥₁_map was.6 (λ all. joined_members members rans whole all) in
    let stopped = c.stopped_of.ensures in
    λ given made. ∥∥₁_map joined (λ j. stopped_heard threads rans c.args.clients.items c.stopped_of.result j stopped.meets stopped.nodes stopped.logs given made)

pub returns-clause-lost : goal.returns-clause-lost
returns-clause-lost g c =
    let was = c.loop-member.invariant in
    let none = c.in-None.ensures.steps.0 in
    let left = c.loop-member.member-iterator.rest in
    let no_more : left.items ≡ [] = nil_from_length left.items (sym left.ok.0 ∙ none) in
    let lost = losses_in c.args.self.members.items in
    let marks : c.loop-member.lost.items ≡ lost = all_moved is_lost c.loop-member.lost.items left.items lost no_more was.8 in
    c.stopped_of.ensures.lost ∙ marks

pub returns-clause-told : goal.returns-clause-told
returns-clause-told g c =
    let was = c.loop-member.invariant in
    let members = c.args.self.members.items in
    let threads = threads_in members in
    let rans = c.loop-member.rans.items in
    let none = c.in-None.ensures.steps.0 in
    let size = was.3 in
    let whole : length rans ≡ length members = omega arith in
    let joined : ∥ Joined threads rans ∥₁ = ∥∥₁_map was.6 (λ all. joined_members members rans whole all) in
    let came : Joined threads rans → NoticesCame c.args.self.tellers.items threads = λ j. record { rans = rans; joined = j; told = c.stopped_of.ensures.told } in
    ∥∥₁_map joined came
