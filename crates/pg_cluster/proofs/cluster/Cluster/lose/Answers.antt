use Rattle.std.proofs.Common.{false, rules, arith, ◌≡◌, ◌≢◌, ◌<◌, ◌∙◌, ℕ, List}
use Rattle.std.proofs.Common.{get_or, set, length, vec_len, ap, sym, subst}
use Rattle.std.proofs.lemmas.List.{get_or-map, get_or-set_other, get_or-set_same, length-map}
use mathlib.Core.Logic.{∥∥₁_map}
use Rattle.pg_ring.specs.Slots.{AreSlots}
use Rattle.pg_cluster.specs.Clients.{AllPairs, ports_begun}
use Rattle.pg_cluster.specs.Ended.{AreWired}
use Rattle.pg_cluster.specs.Members.{is_lost, last_of, lasts_in, losses_in}
use Rattle.pg_cluster.specs.Notices.{HaveNoticeRoom, SaysLost}
use Rattle.pg_cluster_judges.specs.Schedule.{NobodyLost}
use Rattle.pg_cluster.specs.Room.{HasClosingRoom}
use Rattle.pg_cluster.specs.Threads.{rows_begun, notices_begun}
use Rattle.std.proofs.lemmas.List.{get_or_default}
use Rattle.pg_cluster.proofs.Holding.{last_set, lasts_set, losses_set, not_lost_again, threads_set}
use Rattle.pg_cluster.proofs.Rooms.{all_notified, room_on}
use Rattle.pg_cluster.proofs.Telling.{says_on, somebody_lost, tellers_later}
use Rattle.pg_cluster.proofs.cluster.Cluster.lose.Goals as goal

pub invariant_of-self : goal.invariant_of-self
invariant_of-self g c =
    let self = c.args.self.now in
    let members = self.members.items in
    let low : c.args.node < length members = search rules in
    let threads = threads_set members c.args.node c.index_mut-member.result.now c.stop-last.new.self low c.index_mut-member.ensures.value c.stop-last.ensures.thread in
    let losses = losses_set members c.args.node c.stop-last.new.self low c.stop-last.ensures.lost in
    let runs : is_lost c.index_mut-member.result.now ≡ false =
    let no = c.if-is_lost.false in
    let told = c.is_lost.ensures in
    ap is_lost (c.index_mut-member.ensures.value ∙ (get_or_default members c.args.node c.index_mut-member.result.now c.index.result.now low ∙ sym c.index.ensures)) ∙ cc in
    let unmarked : get_or (losses_in members) c.args.node false ≡ false =
    get_or-map is_lost members c.args.node c.index_mut-member.result.now false low ∙ (sym (ap is_lost c.index_mut-member.ensures.value) ∙ runs) in
    let lasts = lasts_set members c.args.node c.stop-last.new.self low in
    let clocks = length-map members last_of in
    let here : get_or (lasts_in (set members c.args.node c.stop-last.new.self)) c.args.node 0 ≡ c.stop-last.result =
    ap (λ (ls : List ℕ). get_or ls c.args.node 0) lasts
    ∙ (get_or-set_same (lasts_in members) c.args.node (last_of c.stop-last.new.self) 0 (omega (arith, low, clocks)) ∙ sym (c.stop-last.ensures.last runs)) in
    let others : (i : ℕ) → i ≢ c.args.node → get_or (lasts_in (set members c.args.node c.stop-last.new.self)) i 0 ≡ get_or (lasts_in members) i 0 = λ i n.
    ap (λ (ls : List ℕ). get_or ls i 0) lasts ∙ get_or-set_other (lasts_in members) c.args.node i (last_of c.stop-last.new.self) 0 n in
    let marked : c.args.node < length (losses_in members) = let n = length-map members is_lost in omega (arith, low, n) in record {
      lost_fit = self.lost_fit;
      rans_fit = self.rans_fit;
      room_fits = subst (λ ts. HasClosingRoom self.room (vec_len self.members) (length (ports_begun ts))) (sym threads) self.room_fits;
      wired = subst (λ ts. AreWired (length ts) (rows_begun ts)) (sym threads) self.wired;
      told = tellers_later self.tellers.items c.tell_all.new.tellers.items _ (subst (λ ts. AllPairs AreSlots self.tellers.items (notices_begun ts)) (sym threads) self.told) c.tell_all.ensures.same;
      says = subst (λ lost. ∥ SaysLost lost (lasts_in (set members c.args.node c.stop-last.new.self)) c.tell_all.new.tellers.items ∥₁) (sym losses)
          (∥∥₁_map self.says (says_on (losses_in members) (lasts_in members) (lasts_in (set members c.args.node c.stop-last.new.self)) self.tellers.items c.tell_all.new.tellers.items c.args.node c.stop-last.result marked unmarked
          here others self.roomy.count
          (all_notified (losses_in members) self.tellers.items c.tell_all.new.tellers.items c.args.node c.stop-last.result marked unmarked self.roomy c.tell_all.ensures.told)));
      roomy = subst (λ lost. HaveNoticeRoom lost c.tell_all.new.tellers.items) (sym losses)
          (room_on (losses_in members) self.tellers.items c.tell_all.new.tellers.items c.args.node c.stop-last.result marked unmarked self.roomy c.tell_all.ensures.told c.tell_all.ensures.same);
      untold = λ nobody. somebody_lost (losses_in members) c.args.node (let n = length-map members is_lost in omega (arith, low, n)) (subst NobodyLost losses nobody);
    }

pub returns-clause-again : goal.returns-clause-again
returns-clause-again g c = (
  λ is. absurd (cc),
  λ gone. absurd (not_lost_again c.args.self.now.members.items c.args.node c.index.result.now (search rules) c.index.ensures (let no = c.if-is_lost.false in let told = c.is_lost.ensures in cc) gone),
)

pub returns-clause-lost : goal.returns-clause-lost
returns-clause-lost g c = losses_set c.args.self.now.members.items c.args.node c.stop-last.new.self (search rules) c.stop-last.ensures.lost

pub returns-clause-threads : goal.returns-clause-threads
returns-clause-threads g c =
    threads_set c.args.self.now.members.items c.args.node c.index_mut-member.result.now c.stop-last.new.self (search rules) c.index_mut-member.ensures.value c.stop-last.ensures.thread

pub returns-clause-told : goal.returns-clause-told
returns-clause-told g c =
    let members = c.args.self.now.members.items in
    let low : c.args.node < length members = search rules in
    let runs : is_lost c.index_mut-member.result.now ≡ false =
    let no = c.if-is_lost.false in
    let told = c.is_lost.ensures in
    ap is_lost (c.index_mut-member.ensures.value ∙ (get_or_default members c.args.node c.index_mut-member.result.now c.index.result.now low ∙ sym c.index.ensures)) ∙ cc in
    let unmarked : get_or (losses_in members) c.args.node false ≡ false =
    get_or-map is_lost members c.args.node c.index_mut-member.result.now false low ∙ (sym (ap is_lost c.index_mut-member.ensures.value) ∙ runs) in
    let marked : c.args.node < length (losses_in members) = let n = length-map members is_lost in omega (arith, low, n) in record {
      last = c.stop-last.result;
      clock = last_set members c.args.node c.stop-last.new.self c.stop-last.result low (c.stop-last.ensures.last runs);
      told = all_notified (losses_in members) c.args.self.now.tellers.items c.tell_all.new.tellers.items c.args.node c.stop-last.result marked unmarked c.args.self.now.roomy c.tell_all.ensures.told;
    }
