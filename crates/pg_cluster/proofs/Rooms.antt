-- At each node of a cluster there is room for a notice of each node that runs.
use Rattle.std.proofs.Common.{◌≡◌, ◌<◌, ◌≤◌, ◌+◌, ℕ, zero, suc, List, [], ◌∷◌}
use Rattle.std.proofs.Common.{length, get_or, set, refl, sym, ◌∙◌, arith}
use Rattle.std.specs.Prelude.{Bool, true, false}
use Rattle.std.specs.List.{All}
use Rattle.std.proofs.lemmas.List.{length-set}
use Rattle.pg_ring.specs.declared.slot_out.SlotOut.{SlotOut}
use Rattle.pg_ring.specs.Slots.{slots_free}
use Rattle.pg_cluster_judges.specs.PgNodeRun.declared.notices.Notice.{Notice}
use Rattle.pg_cluster.specs.Notices.{AllNotified, HaveNoticeRoom, IsRoomy, NotifiedUpTo, SameTellers, count_running}

pub count_within : (lost : List Bool) → count_running lost ≤ length lost
count_within [] = omega arith
count_within (true ∷ lost) = let n = count_within lost in omega (arith, n)
count_within (false ∷ lost) = let n = count_within lost in omega (arith, n)

-- one fewer runs once one is lost
pub one_fewer : (lost : List Bool) (k : ℕ) → k < length lost → get_or lost k false ≡ false → count_running (set lost k true) + 1 ≡ count_running lost
one_fewer [] k low runs = absurd (omega (arith, low))
one_fewer (true ∷ lost) zero low runs = absurd (cc)
one_fewer (false ∷ lost) zero low runs = refl
one_fewer (true ∷ lost) (suc k) low runs = one_fewer lost k (omega (arith, low)) runs
one_fewer (false ∷ lost) (suc k) low runs = let n = one_fewer lost k (omega (arith, low)) runs in omega (arith, n)

pub room_first : (lost : List Bool) (tellers : List (SlotOut Notice)) → length tellers ≡ length lost → length lost ≤ 16 → All IsRoomy tellers → HaveNoticeRoom lost tellers
room_first lost tellers count few roomy = record {
  count = count;
  room = λ place none low.
      let n = count_within lost in
      let free : slots_free (get_or tellers place none) ≡ 16 = roomy place none low in
      omega (arith, n, few, free);
}

module _ (lost : List Bool) (tellers tellers2 : List (SlotOut Notice)) (k last : ℕ) (within : k < length lost) (runs : get_or lost k false ≡ false)
    (has : HaveNoticeRoom lost tellers) (told : NotifiedUpTo k last (length tellers) tellers tellers2) where
  -- there was room at each
  pub all_notified : AllNotified k last tellers tellers2
  all_notified place none low =
      let one = told.told place none low in
      let free = has.room place none low in
      let fewer = one_fewer lost k within runs in
      one.told (omega (arith, free, fewer))

  pub room_on : SameTellers tellers tellers2 → HaveNoticeRoom (set lost k true) tellers2
  room_on same = record {
    count = same.len ∙ (has.count ∙ sym (length-set lost k true));
    room = λ place none low.
        let len = same.len in
        let before : place < length tellers = omega (arith, low, len) in
        let free = has.room place none before in
        let left = (told.told place none before).room in
        let fewer = one_fewer lost k within runs in
        omega (arith, free, fewer, left);
  }
