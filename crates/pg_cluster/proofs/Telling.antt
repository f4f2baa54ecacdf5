-- How the nodes of a cluster are told of losses.
use Rattle.std.proofs.Common.{◌≡◌, ◌≢◌, ◌⊎◌, ◌<◌, ◌+◌, ℕ, cond, List, [], ◌∷◌, ◌++◌}
use Rattle.std.proofs.Common.{length, get_or, set, refl, sym, ◌∙◌, ap, subst, arith, inl, inr}
use Rattle.std.specs.Prelude.{Bool, true, false}
use Rattle.std.specs.List.{All, AllByRecursion}
use Rattle.std.proofs.lemmas.Bool.{cases_eq, eq-eqb, ne_eqb}
use Rattle.std.proofs.lemmas.Bool.Decides.{eqb_tells}
use Rattle.std.proofs.lemmas.List.{get_or-set_same, get_or-set_other, get_or_default, length-set}
use Rattle.pg_ring.specs.declared.slot_in.SlotIn.{SlotIn}
use Rattle.pg_ring.specs.declared.slot_out.SlotOut.{SlotOut}
use Rattle.pg_ring.specs.Slots.{AreSlots, SameSlotIn, SameSlotOut, given, taken}
use Rattle.pg_ring.specs.SlotsLaws.{AreSlots-later}
use Rattle.pg_cluster_judges.specs.PgNodeRun.declared.notices.Notice.{Notice}
use Rattle.pg_cluster_judges.specs.PgWorldPackets.Views.{peer_place}
use Rattle.pg_cluster_judges.specs.PgNodeRun.declared.notices.Notices.{Notices}
use Rattle.pg_cluster_judges.specs.PgNodeRun.Notices.{IsUntold, NoticesGo, inlet_of, kept_of}
use Rattle.pg_cluster_judges.proofs.PgNodeRun.Moving.{nil_first}
use Rattle.pg_cluster_judges.specs.PgNodeRun.Runs.{notices_at}
use Rattle.pg_cluster.specs.Clients.{AllPairs}
use Rattle.pg_cluster.specs.ClientsLaws.{each_set, slot_in_on, slot_out_on}
use Rattle.pg_cluster.specs.Notices.{AllNotified, IsOfLost, HasNoNotice}
use Rattle.pg_cluster_judges.specs.Schedule.{NobodyLost}
use Rattle.pg_cluster.specs.Notices.{SaysLost, Told, SameTellers, notice_for}
use Rattle.pg_cluster.specs.Threads.{Thread, RanOf, Joined, begun_by, notices_begun, notices_ended}
use Rattle.pg_cluster.proofs.Hearing.{first_ran, others_ran}
use Rattle.pg_cluster.proofs.Paired.{pairs_none, pairs_push, pairs_append, pairs_by}

teller_itself : (a : SlotOut Notice) → SameSlotOut a a
teller_itself a = ((refl, refl, refl, refl), refl)

inlet_itself : (a : SlotIn Notice) → SameSlotIn a a
inlet_itself a = ((refl, refl, refl, refl), refl)

-- ---- tellers

pub tellers_itself : (tellers : List (SlotOut Notice)) → SameTellers tellers tellers
tellers_itself tellers = record { len = refl; each = λ place none. teller_itself (get_or tellers place none) }

pub tellers_set : (old tellers : List (SlotOut Notice)) (k : ℕ) (teller teller2 : SlotOut Notice) → SameTellers old tellers → k < length tellers → teller ≡ get_or tellers k teller
    → SameSlotOut teller teller2 → SameTellers old (set tellers k teller2)
tellers_set old tellers k teller teller2 was within is same = record {
  len = length-set tellers k teller2 ∙ was.len;
  each = λ place none. slot_out_on (get_or old place none) (get_or tellers place none) (get_or (set tellers k teller2) place none) (was.each place none)
      (each_set SameSlotOut teller_itself tellers k teller teller2 within is same place none);
}

-- they stay the other ends of where the nodes are told
pub tellers_later : (tellers tellers2 : List (SlotOut Notice)) (inlets : List (SlotIn Notice)) → AllPairs AreSlots tellers inlets → SameTellers tellers tellers2
    → AllPairs AreSlots tellers2 inlets
tellers_later tellers tellers2 inlets are same = record {
  len = same.len ∙ are.len;
  each = λ i x y low. AreSlots-later (get_or tellers i x) (get_or tellers2 i x) (get_or inlets i y) (get_or inlets i y) (are.each i x y low) (same.each i x) (inlet_itself (get_or inlets i y));
}

-- where one is lost it is not so that nobody is
pub somebody_lost : {A : Type 0} (lost : List Bool) (k : ℕ) → k < length lost → NobodyLost (set lost k true) → A
somebody_lost lost k low nobody =
    let there : get_or (set lost k true) k false ≡ true = get_or-set_same lost k true false low in
    let no : get_or (set lost k true) k false ≡ false = nobody k false (let n = length-set lost k true in omega (arith, low, n)) in
    absurd (cc)

-- ---- what they say

pub all_first : {A : Type 0} (P : A → Type 0) (xs ys : List A) → AllByRecursion P (xs ++ ys) → AllByRecursion P xs
all_first P [] ys all = tt
all_first P (x ∷ xs) ys all = (all.0, all_first P xs ys all.1)

all_both : {A : Type 0} (P : A → Type 0) (xs ys : List A) → AllByRecursion P xs → AllByRecursion P ys → AllByRecursion P (xs ++ ys)
all_both P [] ys a b = b
all_both P (x ∷ xs) ys a b = (a.0, all_both P xs ys a.1 b)

all_turned : {A : Type 0} (P Q : A → Type 0) (xs : List A) → ((x : A) → P x → Q x) → AllByRecursion P xs → AllByRecursion Q xs
all_turned P Q [] f all = tt
all_turned P Q (x ∷ xs) f all = (f x all.0, all_turned P Q xs f all.1)

-- nothing
pub says_none : (lost : List Bool) (lasts : List ℕ) (tellers : List (SlotOut Notice)) → length tellers ≡ length lost → All HasNoNotice tellers → SaysLost lost lasts tellers
says_none lost lasts tellers count silent place none low =
    subst (AllByRecursion (IsOfLost (length lost) (λ node. get_or lost node false) (λ node. get_or lasts node 0) place)) (sym (silent place none (omega (arith, low, count)))) tt

-- one more loss
module _ (lost : List Bool) (lasts lasts2 : List ℕ) (tellers tellers2 : List (SlotOut Notice)) (k last : ℕ) (within : k < length lost) (runs : get_or lost k false ≡ false)
    (here : get_or lasts2 k 0 ≡ last) (others : (i : ℕ) → i ≢ k → get_or lasts2 i 0 ≡ get_or lasts i 0) where
  abbrev Old : ℕ → Notice → Type 0
  Old place = IsOfLost (length lost) (λ node. get_or lost node false) (λ node. get_or lasts node 0) place

  abbrev New : ℕ → Notice → Type 0
  New place = IsOfLost (length (set lost k true)) (λ node. get_or (set lost k true) node false) (λ node. get_or lasts2 node 0) place

  still_lost : (place : ℕ) (notice : Notice) → Old place notice → New place notice
  still_lost place notice old = record {
    node = old.node;
    there = let n = length-set lost k true in let l = old.there in omega (arith, n, l);
    other = old.other;
    gone = get_or-set_other lost k old.node true false apart ∙ old.gone;
    peer = old.peer;
    clock = old.clock ∙ sym (others old.node apart);
  }
    where
      apart : old.node ≢ k
      apart e = let clash : false ≡ true = sym runs ∙ (ap (λ i. get_or lost i false) (sym e) ∙ old.gone) in absurd (cc)

  new_lost : (place : ℕ) → (place ≡ k) ⊎ (place ≢ k) → AllByRecursion (New place) (notice_for place k last)
  new_lost place (inl e) = subst (λ b. AllByRecursion (New place) (cond b [] (record { peer = peer_place place k; last = last } ∷ []))) (sym (eq-eqb place k e)) tt
  new_lost place (inr n) = subst (λ b. AllByRecursion (New place) (cond b [] (record { peer = peer_place place k; last = last } ∷ []))) (sym (ne_eqb place k n)) (
    record {
      node = k;
      there = let m = length-set lost k true in omega (arith, within, m);
      other = λ e. n (sym e);
      gone = get_or-set_same lost k true false within;
      peer = refl;
      clock = sym here;
    },
    tt,
  )

  pub says_on : length tellers ≡ length lost → AllNotified k last tellers tellers2 → SaysLost lost lasts tellers → SaysLost (set lost k true) lasts2 tellers2
  says_on count told says place none low =
      subst (AllByRecursion (New place)) (sym (told place none (omega (arith, within_old, count))))
      (all_both (New place) (given (get_or tellers place none)) (notice_for place k last) old (new_lost place (cases_eq place k)))
    where
      within_old : place < length lost
      within_old = let n = length-set lost k true in omega (arith, low, n)

      old : AllByRecursion (New place) (given (get_or tellers place none))
      old = all_turned (Old place) (New place) (given (get_or tellers place none)) (still_lost place) (says place none within_old)

one_of : {A : Type 0} (xs : List A) (k : ℕ) → k < length xs → A
one_of [] k low = absurd (omega (arith, low))
one_of (x ∷ xs) k low = x

-- and so what came of it
pub came_lost : (lost : List Bool) (lasts lasts2 : List ℕ) (tellers : List (SlotOut Notice)) (inlets : List (SlotIn Notice)) → length inlets ≡ length lost
    → ((i : ℕ) → i < length lost → get_or lost i false ≡ true → get_or lasts i 0 ≡ get_or lasts2 i 0) → SaysLost lost lasts tellers → AllPairs Told tellers inlets
    → (place : ℕ) (none : SlotIn Notice) → place < length lost
    → AllByRecursion (IsOfLost (length lost) (λ node. get_or lost node false) (λ node. get_or lasts2 node 0) place) (taken (get_or inlets place none))
came_lost lost lasts lasts2 tellers inlets count same says all place none low =
    let within : place < length inlets = omega (arith, low, count) in
    let teller : SlotOut Notice = one_of tellers place (let l = all.len in omega (arith, within, l)) in
    let told = all.each place teller none within in
    all_turned (IsOfLost (length lost) (λ node. get_or lost node false) (λ node. get_or lasts node 0) place) (IsOfLost (length lost) (λ node. get_or lost node false) (λ node. get_or lasts2 node 0) place)
    (taken (get_or inlets place none))
    (λ notice of. record { node = of.node; there = of.there; other = of.other; gone = of.gone; peer = of.peer; clock = of.clock ∙ same of.node of.there of.gone })
    (all_first (IsOfLost (length lost) (λ node. get_or lost node false) (λ node. get_or lasts node 0) place) (taken (get_or inlets place none)) told.on_the_way
    (subst (AllByRecursion (IsOfLost (length lost) (λ node. get_or lost node false) (λ node. get_or lasts node 0) place)) told.is (says place teller low)))

-- ---- once the threads have ended

module _ {K : Type 0} where
  pub same_inlets : (threads : List (Thread K)) (rans : List (RanOf K)) → Joined threads rans → AllPairs SameSlotIn (notices_begun threads) (notices_ended rans)
  same_inlets [] [] joined = pairs_none SameSlotIn
  same_inlets [] (ran ∷ rans) joined = absurd (let e = joined.0 in omega (arith, e))
  same_inlets (thread ∷ threads) [] joined = absurd (let e = joined.0 in omega (arith, e))
  same_inlets (thread ∷ threads) (ran ∷ rans) joined =
      let a = notices_at (begun_by thread) in
      let b = notices_at ran.run in
      pairs_append SameSlotIn (a ∷ []) (b ∷ []) (notices_begun threads) (notices_ended rans)
      (pairs_push SameSlotIn [] [] a b (pairs_none SameSlotIn) (first_ran thread threads ran rans joined).told.same) (same_inlets threads rans (others_ran thread threads ran rans joined))

  -- the other ends of where they were told
  pub notices_still : (threads : List (Thread K)) (rans : List (RanOf K)) (tellers : List (SlotOut Notice)) → Joined threads rans → AllPairs AreSlots tellers (notices_begun threads)
      → AllPairs AreSlots tellers (notices_ended rans)
  notices_still threads rans tellers joined are =
      pairs_by AreSlots SameSlotIn AreSlots (λ teller a b slots same. AreSlots-later teller teller a b slots (teller_itself teller) same) tellers (notices_begun threads) (notices_ended rans)
      are (same_inlets threads rans joined)

-- where nothing was told nothing came
pub nothing_came : (tellers : List (SlotOut Notice)) (inlets : List (SlotIn Notice)) → All HasNoNotice tellers → AllPairs Told tellers inlets → All (λ inlet. taken inlet ≡ []) inlets
nothing_came [] inlets silent all = λ i y low. absurd (let e = all.len in omega (arith, e, low))
nothing_came (t ∷ ts) inlets silent all = λ i y low.
    let told = all.each i t y low in
    nil_first (taken (get_or inlets i y)) told.on_the_way (sym told.is ∙ silent i t (let e = all.len in omega (arith, e, low)))

-- ---- both ends in one hand

-- the same ends, over which nothing went meanwhile
pub record TellersRest (a b : List (SlotOut Notice)) : Type 0 where
  pub len : length b ≡ length a
  pub each : (place : ℕ) (none : SlotOut Notice) → SameSlotOut (get_or a place none) (get_or b place none) × (given (get_or b place none) ≡ given (get_or a place none))

pub record InletsRest (a b : List (SlotIn Notice)) : Type 0 where
  pub len : length b ≡ length a
  pub each : (place : ℕ) (none : SlotIn Notice) → SameSlotIn (get_or a place none) (get_or b place none) × (taken (get_or b place none) ≡ taken (get_or a place none))

pub tellers_rest : (tellers : List (SlotOut Notice)) → TellersRest tellers tellers
tellers_rest tellers = record { len = refl; each = λ place none. (teller_itself (get_or tellers place none), refl) }

pub inlets_rest : (inlets : List (SlotIn Notice)) → InletsRest inlets inlets
inlets_rest inlets = record { len = refl; each = λ place none. (inlet_itself (get_or inlets place none), refl) }

abbrev TellerRests : SlotOut Notice → SlotOut Notice → Type 0
TellerRests a b = SameSlotOut a b × (given b ≡ given a)

abbrev InletRests : SlotIn Notice → SlotIn Notice → Type 0
InletRests a b = SameSlotIn a b × (taken b ≡ taken a)

module _ (tellers tellers2 : List (SlotOut Notice)) (inlets inlets2 : List (SlotIn Notice)) (are : AllPairs AreSlots tellers inlets) (t : TellersRest tellers tellers2)
    (n : InletsRest inlets inlets2) (place : ℕ) (low : place < length inlets2) where
  pub teller_there : place < length tellers2
  teller_there = let e = are.len in let m = n.len in let k = t.len in omega (arith, low, e, m, k)

  module _ (teller : SlotOut Notice) (inlet : SlotIn Notice) (teller_is : teller ≡ get_or tellers2 place teller) (inlet_is : inlet ≡ get_or inlets2 place inlet) where
    pub slots_here : AreSlots teller inlet
    slots_here =
        let within : place < length inlets = let m = n.len in omega (arith, low, m) in
        subst (λ (x : SlotOut Notice). AreSlots x inlet) (sym teller_is) (subst (AreSlots (get_or tellers2 place teller)) (sym inlet_is)
        (AreSlots-later (get_or tellers place teller) (get_or tellers2 place teller) (get_or inlets place inlet) (get_or inlets2 place inlet) (are.each place teller inlet within)
        (t.each place teller).0 (n.each place inlet).0))

    pub tellers_more : (teller2 : SlotOut Notice) → SameSlotOut teller teller2 → given teller2 ≡ given teller → TellersRest tellers (set tellers2 place teller2)
    tellers_more teller2 same still = record {
      len = length-set tellers2 place teller2 ∙ t.len;
      each = λ i none.
          let first = t.each i none in
          let then = each_set TellerRests (λ a. (teller_itself a, refl)) tellers2 place teller teller2 teller_there teller_is (same, still) i none in
          (slot_out_on (get_or tellers i none) (get_or tellers2 i none) (get_or (set tellers2 place teller2) i none) first.0 then.0, then.1 ∙ first.1);
    }

    pub inlets_more : (inlet2 : SlotIn Notice) → SameSlotIn inlet inlet2 → taken inlet2 ≡ taken inlet → InletsRest inlets (set inlets2 place inlet2)
    inlets_more inlet2 same still = record {
      len = length-set inlets2 place inlet2 ∙ n.len;
      each = λ i none.
          let first = n.each i none in
          let then = each_set InletRests (λ a. (inlet_itself a, refl)) inlets2 place inlet inlet2 low inlet_is (same, still) i none in
          (slot_in_on (get_or inlets i none) (get_or inlets2 i none) (get_or (set inlets2 place inlet2) i none) first.0 then.0, then.1 ∙ first.1);
    }

    -- what was taken is the first of what was given
    pub told_more : Told teller inlet → ((i : ℕ) (x : SlotOut Notice) (y : SlotIn Notice) → i < place → Told (get_or tellers i x) (get_or inlets i y))
        → (i : ℕ) (x : SlotOut Notice) (y : SlotIn Notice) → i < place + 1 → Told (get_or tellers i x) (get_or inlets i y)
    told_more here before i x y less = elim (eqb_tells i place) [
      | inl e ↦
          let at_teller : get_or tellers2 place x ≡ teller = sym (teller_is ∙ get_or_default tellers2 place teller x teller_there) in
          let at_inlet : get_or inlets2 place y ≡ inlet = sym (inlet_is ∙ get_or_default inlets2 place inlet y low) in
          let still : taken inlet ≡ taken (get_or inlets place y) = sym (ap taken at_inlet) ∙ (n.each place y).1 in
          subst (λ k. Told (get_or tellers k x) (get_or inlets k y)) (sym e.1)
          (record { on_the_way = here.on_the_way; is = sym (t.each place x).1 ∙ (ap given at_teller ∙ (here.is ∙ ap (λ w. w ++ here.on_the_way) still)) })
      | inr f ↦ before i x y (omega (arith, f.1, less))
    ]

-- a node that was told of no loss, and to which no notice came, saw none
pub none_seen : (losses : List Notice) (a b : Notices) → NoticesGo losses a b → IsUntold a → taken (inlet_of b) ≡ [] → losses ≡ []
none_seen losses a b told first none = nil_first losses (kept_of b) (sym (told.came [] (first.came ∙ sym first.kept)) ∙ none)
