-- What is known of the longest runs, while ways are followed.
use Rattle.std.proofs.Common.{◌≡◌, ◌≢◌, ◌<◌, ◌≤◌, ℕ, ◌+◌, Bool, true, false, List, [], ◌∷◌, ◌++◌, Option, Some, None}
use Rattle.std.proofs.Common.{length, get_or, map, cond, reverse, refl, sym, ap, ◌∙◌, subst, arith, ◌⊎◌, inl, inr}
use Rattle.std.specs.Prelude.{nat_le, nat_lt, ◌&&◌, slice_get}
use Rattle.std.specs.Global.{Vec}
use Rattle.std.proofs.Math.ListN.{get_or-map, set}
use Rattle.std.proofs.lemmas.Bool.{cases_lt}
use Rattle.std.proofs.lemmas.Bool.Decides.{nat_tests}
use Rattle.std.proofs.lemmas.List.{get_or-set_same, get_or-set_other, get_or_past}
use Rattle.std.proofs.lemmas.List.{length-reverse, length_push, reverse-append}
use Rattle.std.proofs.lemmas.Option.{slice_get-get_or, slice_get_within}
use Rattle.pg_explore_tally.specs.declared.runs.Run.{Run}
use Rattle.pg_explore_tally.specs.declared.streaks.Hop.{Hop}
use Rattle.pg_explore_tally.specs.declared.streaks.Streak.{Streak}
use Rattle.pg_explore_tally.specs.declared.ways.Way.{Way}
use Rattle.pg_explore_tally.specs.Runs.{AreSettled, AreStreaks, IsBefore, IsGreatest, IsLongest}
use Rattle.pg_explore_tally.specs.Runs.{IsMarked, IsPassed, IsRun, IsRunTo, IsSettledAt, IsStreak, HopLeads}
use Rattle.pg_explore_tally.specs.Runs.{alone_of, followed, is_longer, len_at, no_streak, streak_of}
use Rattle.pg_explore_tally.specs.Walks.{ways_at}
use Rattle.pg_explore_tally.proofs.Walking.{is_same, no_ways, set_cases}

-- ---- where a run is longer

by_mark : (b : Bool) → (b ≡ true) ⊎ (b ≡ false)
by_mark true = inl refl
by_mark false = inr refl

-- a place that has a run is marked
marked : (worlds : List (Vec Way)) (marks : List Bool) (streaks : List Streak) (place : ℕ) → IsStreak worlds marks streaks place → 1 ≤ len_at streaks place → IsMarked marks place
marked worlds marks streaks place h l = elim (by_mark (get_or marks place false)) as (λ _. IsMarked marks place) [ inl e ↦ e | inr e ↦ absurd (let z = h.none e in omega arith) ]

-- no run gets shorter
grows : (streaks : List Streak) (i : ℕ) (new : Streak) → len_at streaks i ≤ new.len → (place : ℕ) → len_at streaks place ≤ len_at (set streaks i new) place
grows streaks i new l place = elim (set_cases streaks i place new no_streak) as (λ _. len_at streaks place ≤ len_at (set streaks i new) place) [
  | inl at ↦ let e = ap (λ (s : Streak). s.len) at.1 in let f = ap (λ (p : ℕ). len_at streaks p) at.0 in omega arith
  | inr other ↦ let e = ap (λ (s : Streak). s.len) other in omega arith
]

before_grows : (worlds : List (Vec Way)) (marks : List Bool) (old new : List Streak) (place len : ℕ) (before : Option Hop) → ((p : ℕ) → len_at old p ≤ len_at new p) → IsBefore worlds marks old place len before
    → IsBefore worlds marks new place len before
before_grows worlds marks old new place len None g h = h
before_grows worlds marks old new place len (Some hop) g h = (h.0, h.1, let l = g hop.place in let m = h.2 in omega arith)

-- what is known of a place, by its run
abbrev pub IsStreakOf : List (Vec Way) → List Bool → List Streak → ℕ → Streak → Type 0
IsStreakOf worlds marks streaks place streak = (IsMarked marks place → 1 ≤ streak.len) × (get_or marks place false ≡ false → streak.len ≡ 0) × IsBefore worlds marks streaks place streak.len streak.before

to_streak : (worlds : List (Vec Way)) (marks : List Bool) (streaks : List Streak) (place : ℕ) (streak : Streak) → streak_of streaks place ≡ streak → IsStreakOf worlds marks streaks place streak → IsStreak worlds marks streaks place
to_streak worlds marks streaks place streak e h =
    let k = subst (λ (s : Streak). IsStreakOf worlds marks streaks place s) (sym e) h in
    record { some = k.0; none = k.1; before = k.2 }

-- a longer run was found
longer : (worlds : List (Vec Way)) (marks : List Bool) (streaks : List Streak) (hop : Hop) (reached : ℕ) → AreStreaks worlds marks streaks → HopLeads worlds hop reached → reached < length streaks
    → 1 ≤ len_at streaks reached → len_at streaks reached ≤ len_at streaks hop.place → AreStreaks worlds marks (set streaks reached (record { len = len_at streaks hop.place + 1; before = Some hop }))
longer worlds marks streaks hop reached h leads within some l place =
    let new : Streak = record { len = len_at streaks hop.place + 1; before = Some hop } in
    let all = set streaks reached new in
    let g = grows streaks reached new (omega arith) in
    elim (is_same reached place) as (λ _. IsStreak worlds marks all place) [
      | inl at ↦ to_streak worlds marks all place new (subst (λ (p : ℕ). get_or all p no_streak ≡ new) (sym at) (get_or-set_same streaks reached new no_streak within)) (
        λ _. omega arith,
        λ none. absurd (let z = (h reached).none (subst (λ (p : ℕ). get_or marks p false ≡ false) at none) in omega arith),
        (marked worlds marks streaks hop.place (h hop.place) (omega arith), subst (λ (p : ℕ). HopLeads worlds hop p) (sym at) leads, let m = g hop.place in omega arith),
      )
      | inr other ↦ to_streak worlds marks all place (streak_of streaks place) (get_or-set_other streaks reached place new no_streak other)
          ((h place).some, (h place).none, before_grows worlds marks streaks all place (len_at streaks place) (streak_of streaks place).before g (h place).before)
    ]

both_hold : (x y : ℕ) (a b : Bool) → (nat_le 1 x ≡ a) → (nat_le x y ≡ b) → a && b ≡ true → (1 ≤ x) × (x ≤ y)
both_hold x y true true ea eb e = (grind (arith, nat_tests), grind (arith, nat_tests))
both_hold x y true false ea eb e = absurd (cc)
both_hold x y false b ea eb e = absurd (cc)

one_fails : (x y : ℕ) (a b : Bool) → (nat_le 1 x ≡ a) → (nat_le x y ≡ b) → a && b ≡ false → 1 ≤ x → y < x
one_fails x y true true ea eb e l = absurd (cc)
one_fails x y true false ea eb e l = grind (arith, nat_tests)
one_fails x y false b ea eb e l = absurd (not_one x ea l)
  where
    not_one : (x : ℕ) → nat_le 1 x ≡ false → 1 ≤ x → ⊥
    not_one x e l = grind (arith, nat_tests)

-- a place that has a run is one
within : (streaks : List Streak) (place : ℕ) → 1 ≤ len_at streaks place → place < length streaks
within streaks place l = elim (cases_lt place (length streaks)) as (λ _. place < length streaks) [
  | inl m ↦ m
  | inr m ↦ absurd (let e = ap (λ (s : Streak). s.len) (get_or_past streaks place no_streak m) in omega arith)
]

followed_by : (worlds : List (Vec Way)) (marks : List Bool) (streaks : List Streak) (hop : Hop) (reached : ℕ) (b : Bool) → is_longer streaks hop reached ≡ b → AreStreaks worlds marks streaks → HopLeads worlds hop reached
    → AreStreaks worlds marks (cond b (set streaks reached (record { len = len_at streaks hop.place + 1; before = Some hop })) streaks)
followed_by worlds marks streaks hop reached false e h leads = h
followed_by worlds marks streaks hop reached true e h leads =
    let facts = both_hold (len_at streaks reached) (len_at streaks hop.place) (nat_le 1 (len_at streaks reached)) (nat_le (len_at streaks reached) (len_at streaks hop.place)) refl refl e in
    longer worlds marks streaks hop reached h leads (within streaks reached facts.0) facts.0 facts.1

pub streaks_step : (worlds : List (Vec Way)) (marks : List Bool) (streaks : List Streak) (hop : Hop) (reached : ℕ) → AreStreaks worlds marks streaks → HopLeads worlds hop reached → AreStreaks worlds marks (followed streaks hop reached)
streaks_step worlds marks streaks hop reached h leads = followed_by worlds marks streaks hop reached (is_longer streaks hop reached) refl h leads

-- a way that changes nothing
passed_by : (streaks : List Streak) (hop : Hop) (reached : ℕ) (b : Bool) → is_longer streaks hop reached ≡ b → cond b (set streaks reached (record { len = len_at streaks hop.place + 1; before = Some hop })) streaks ≡ streaks
    → IsPassed streaks hop.place reached
passed_by streaks hop reached false e same from to =
    let l = one_fails (len_at streaks reached) (len_at streaks hop.place) (nat_le 1 (len_at streaks reached)) (nat_le (len_at streaks reached) (len_at streaks hop.place)) refl refl e to in
    omega arith
passed_by streaks hop reached true e same from to =
    let new : Streak = record { len = len_at streaks hop.place + 1; before = Some hop } in
    let at = sym (get_or-set_same streaks reached new no_streak (within streaks reached to)) ∙ ap (λ (xs : List Streak). get_or xs reached no_streak) same in
    let l = ap (λ (s : Streak). s.len) at in
    omega arith

pub passed_step : (streaks : List Streak) (hop : Hop) (reached : ℕ) → followed streaks hop reached ≡ streaks → IsPassed streaks hop.place reached
passed_step streaks hop reached same = passed_by streaks hop reached (is_longer streaks hop reached) refl same

-- ---- while they are followed

-- so many ways from a place were followed, and nothing has changed where it says so
pub record IsTrying (worlds : List (Vec Way)) (marks : List Bool) (place count : ℕ) (old new : List Streak) (changed : Bool) : Type 0 where
  pub kept : AreStreaks worlds marks new
  pub same : changed ≡ false → new ≡ old
  pub settled : changed ≡ false → (number to : ℕ) → number < count → HopLeads worlds (record { place = place; way = number }) to → IsPassed old place to

pub none_tried : (worlds : List (Vec Way)) (marks : List Bool) (place : ℕ) (old : List Streak) (changed : Bool) → AreStreaks worlds marks old → IsTrying worlds marks place 0 old old changed
none_tried worlds marks place old changed h = record { kept = h; same = λ _. refl; settled = λ _ number to l. absurd (omega arith) }

-- a way leads to one place
one_place : (worlds : List (Vec Way)) (hop : Hop) (a b : ℕ) → HopLeads worlds hop a → HopLeads worlds hop b → a ≡ b
one_place worlds hop a b h k = sym h.place ∙ ap (λ (w : Way). w.place) (some_way h.way k.way (sym h.is ∙ k.is)) ∙ k.place
  where
    some_way : (v w : Way) → Some v ≡ Some w → v ≡ w
    some_way v w e = cc

pub tried_same : (worlds : List (Vec Way)) (marks : List Bool) (place count : ℕ) (old now new : List Streak) (changed : Bool) (reached : ℕ) → IsTrying worlds marks place count old now changed
    → HopLeads worlds (record { place = place; way = count }) reached → new ≡ followed now (record { place = place; way = count }) reached → new ≡ now → IsTrying worlds marks place (count + 1) old new changed
tried_same worlds marks place count old now new changed reached h leads is same = record {
  kept = subst (λ (xs : List Streak). AreStreaks worlds marks xs) (sym is) (streaks_step worlds marks now (record { place = place; way = count }) reached h.kept leads);
  same = λ e. same ∙ h.same e;
  settled = λ e number to l other. elim (is_same count number) as (λ _. IsPassed old place to) [
    | inl at ↦ subst (λ (p : ℕ). IsPassed old place p) (one_place worlds (record { place = place; way = count }) reached to leads (subst (λ (n : ℕ). HopLeads worlds (record { place = place; way = n }) to) at other))
        (subst (λ (xs : List Streak). IsPassed xs place reached) (h.same e) (passed_step now (record { place = place; way = count }) reached (sym is ∙ same)))
    | inr apart ↦ h.settled e number to (omega arith) other
  ];
}

pub tried_changed : (worlds : List (Vec Way)) (marks : List Bool) (place count more : ℕ) (old now new : List Streak) (changed : Bool) (reached : ℕ) → IsTrying worlds marks place count old now changed
    → HopLeads worlds (record { place = place; way = count }) reached → new ≡ followed now (record { place = place; way = count }) reached → IsTrying worlds marks place more old new true
tried_changed worlds marks place count more old now new changed reached h leads is = record {
  kept = subst (λ (xs : List Streak). AreStreaks worlds marks xs) (sym is) (streaks_step worlds marks now (record { place = place; way = count }) reached h.kept leads);
  same = λ e. absurd (cc);
  settled = λ e. absurd (cc);
}

-- the way of a number
pub leads_by : (worlds : List (Vec Way)) (place number : ℕ) (ways : List Way) (d : Way) → ways_at worlds place ≡ ways → number < length ways → HopLeads worlds (record { place = place; way = number }) (get_or ways number d).place
leads_by worlds place number ways d e l = record { way = get_or ways number d; is = ap (λ (xs : List Way). slice_get xs number) e ∙ slice_get-get_or ways number d l; place = refl }

pub settled_at : (worlds : List (Vec Way)) (marks : List Bool) (place count : ℕ) (ways : List Way) (old new : List Streak) (changed : Bool) → IsTrying worlds marks place count old new changed
    → ways_at worlds place ≡ ways → length ways ≤ count → changed ≡ false → IsSettledAt worlds new place
settled_at worlds marks place count ways old new changed h is l e number to leads =
    subst (λ (xs : List Streak). IsPassed xs place to) (sym (h.same e)) (h.settled e number to (let m = slice_get_within ways number leads.way (ap (λ (xs : List Way). slice_get xs number) (sym is) ∙ leads.is) in omega arith) leads)

-- from where there is no world, no way leads
pub settled_past : (worlds : List (Vec Way)) (streaks : List Streak) (place : ℕ) → length worlds ≤ place → IsSettledAt worlds streaks place
settled_past worlds streaks place l number to leads = absurd (no_way leads.way number (ap (λ (xs : List Way). slice_get xs number) (sym (no_ways worlds place l)) ∙ leads.is))
  where
    no_way : (way : Way) (n : ℕ) → slice_get [] n ≡ Some way → ⊥
    no_way way n e = absurd (cc)

-- where there is none
pub past : (place count : ℕ) → false ≡ nat_lt place count → count ≤ place
past place count e = grind (arith, nat_tests)

-- the ways from so many places were followed
pub record IsTryingAll (worlds : List (Vec Way)) (marks : List Bool) (count : ℕ) (old new : List Streak) (changed : Bool) : Type 0 where
  pub kept : AreStreaks worlds marks new
  pub same : changed ≡ false → new ≡ old
  pub settled : changed ≡ false → (place : ℕ) → place < count → IsSettledAt worlds old place

pub none_tried_all : (worlds : List (Vec Way)) (marks : List Bool) (old : List Streak) (changed : Bool) → AreStreaks worlds marks old → IsTryingAll worlds marks 0 old old changed
none_tried_all worlds marks old changed h = record { kept = h; same = λ _. refl; settled = λ _ place l. absurd (omega arith) }

pub tried_all_same : (worlds : List (Vec Way)) (marks : List Bool) (count : ℕ) (old now new : List Streak) (changed : Bool) → IsTryingAll worlds marks count old now changed
    → AreStreaks worlds marks new → new ≡ now → IsSettledAt worlds new count → IsTryingAll worlds marks (count + 1) old new changed
tried_all_same worlds marks count old now new changed h kept same settled = record {
  kept = kept;
  same = λ e. same ∙ h.same e;
  settled = λ e place l. elim (is_same count place) as (λ _. IsSettledAt worlds old place) [
    | inl at ↦ subst (λ (p : ℕ). IsSettledAt worlds old p) (sym at) (subst (λ (xs : List Streak). IsSettledAt worlds xs count) (same ∙ h.same e) settled)
    | inr other ↦ h.settled e place (omega arith)
  ];
}

pub tried_all_changed : (worlds : List (Vec Way)) (marks : List Bool) (count : ℕ) (old new : List Streak) → AreStreaks worlds marks new → IsTryingAll worlds marks count old new true
tried_all_changed worlds marks count old new kept = record { kept = kept; same = λ e. absurd (cc); settled = λ e. absurd (cc) }

pub are_settled : (worlds : List (Vec Way)) (marks : List Bool) (count : ℕ) (old new : List Streak) (changed : Bool) → IsTryingAll worlds marks count old new changed → length worlds ≤ count → changed ≡ false → AreSettled worlds new
are_settled worlds marks count old new changed h l e place = subst (λ (xs : List Streak). IsSettledAt worlds xs place) (sym (h.same e)) (elim (cases_lt place count) as (λ _. IsSettledAt worlds old place) [
  | inl m ↦ h.settled e place m
  | inr m ↦ settled_past worlds old place (omega arith)
])

-- each world by itself
pub are_alone : (worlds : List (Vec Way)) (marks : List Bool) → AreStreaks worlds marks (map alone_of marks)
are_alone worlds marks place = to_streak worlds marks (map alone_of marks) place (alone_of (get_or marks place false)) (alone_at marks place) (alone_is (get_or marks place false))
  where
    alone_at : (marks : List Bool) (place : ℕ) → get_or (map alone_of marks) place no_streak ≡ alone_of (get_or marks place false)
    alone_at marks place = get_or-map alone_of marks place false

    alone_is : (b : Bool) → (b ≡ true → 1 ≤ (alone_of b).len) × (b ≡ false → (alone_of b).len ≡ 0) × ((alone_of b).len ≤ 1)
    alone_is true = (λ _. omega arith, λ e. absurd (cc), omega arith)
    alone_is false = (λ e. absurd (cc), λ _. refl, omega arith)

-- ---- the run that is found

-- what is known while a run is walked back
pub record IsBack (worlds : List (Vec Way)) (marks : List Bool) (streaks : List Streak) (last reached : ℕ) (hops : List Hop) : Type 0 where
  pub run : IsRun worlds marks reached (reverse hops)
  pub marked : IsMarked marks reached
  pub len : length hops + len_at streaks reached ≡ len_at streaks last

pub back_first : (worlds : List (Vec Way)) (marks : List Bool) (streaks : List Streak) (last : ℕ) → IsMarked marks last → IsBack worlds marks streaks last last []
back_first worlds marks streaks last m = record { run = m; marked = m; len = omega arith }

before_is : (worlds : List (Vec Way)) (marks : List Bool) (streaks : List Streak) (place len : ℕ) (before : Option Hop) (hop : Hop) → before ≡ Some hop → IsBefore worlds marks streaks place len before
    → IsBefore worlds marks streaks place len (Some hop)
before_is worlds marks streaks place len before hop e h = subst (λ (o : Option Hop). IsBefore worlds marks streaks place len o) e h

pub back_more : (worlds : List (Vec Way)) (marks : List Bool) (streaks : List Streak) (last reached : ℕ) (hops : List Hop) (hop : Hop) → AreStreaks worlds marks streaks → AreSettled worlds streaks
    → (streak_of streaks reached).before ≡ Some hop → IsBack worlds marks streaks last reached hops → IsBack worlds marks streaks last hop.place (hops ++ hop ∷ [])
back_more worlds marks streaks last reached hops hop h settled e back =
    let before = before_is worlds marks streaks reached (len_at streaks reached) (streak_of streaks reached).before hop e (h reached).before in
    let l = settled hop.place hop.way reached before.1 ((h hop.place).some before.0) ((h reached).some back.marked) in
    let m = before.2 in
    record {
      run = subst (λ (xs : List Hop). IsRun worlds marks hop.place xs) (sym (reverse-append hops (hop ∷ []))) (before.0, refl, (reached, before.1, back.run));
      marked = before.0;
      len = omega (arith, length_push hops hop, back.len);
    }

pub back_all : (worlds : List (Vec Way)) (marks : List Bool) (streaks : List Streak) (last reached : ℕ) (hops : List Hop) → AreStreaks worlds marks streaks
    → (streak_of streaks reached).before ≡ None → IsBack worlds marks streaks last reached hops → IsRunTo worlds marks reached (reverse hops) (len_at streaks last)
back_all worlds marks streaks last reached hops h e back =
    let l = subst (λ (o : Option Hop). IsBefore worlds marks streaks reached (len_at streaks reached) o) e (h reached).before in
    let s = (h reached).some back.marked in
    record { run = back.run; len = omega (arith, length-reverse hops, back.len) }

starts : (worlds : List (Vec Way)) (marks : List Bool) (place : ℕ) (hops : List Hop) → IsRun worlds marks place hops → IsMarked marks place
starts worlds marks place [] run = run
starts worlds marks place (hop ∷ hops) run = run.0

-- each run is at most as long as what is known of its end
bounded : (worlds : List (Vec Way)) (marks : List Bool) (streaks : List Streak) (place : ℕ) (hops : List Hop) → AreStreaks worlds marks streaks → AreSettled worlds streaks → IsRun worlds marks place hops
    → (end : ℕ) × (length hops + len_at streaks place ≤ len_at streaks end)
bounded worlds marks streaks place [] h settled run = (place, omega arith)
bounded worlds marks streaks place (hop ∷ hops) h settled run =
    let to = run.2.0 in
    let leads = run.2.1 in
    let rest = bounded worlds marks streaks to hops h settled run.2.2 in
    let from = (h place).some run.0 in
    let end = (h to).some (starts worlds marks to hops run.2.2) in
    let l = settled place hop.way to (subst (λ (p : ℕ). HopLeads worlds (record { place = p; way = hop.way }) to) run.1 leads) from end in
    (rest.0, let m = rest.1 in omega arith)

pub longest_found : (worlds : List (Vec Way)) (marks : List Bool) (streaks : List Streak) (last : ℕ) (run : Run) → AreStreaks worlds marks streaks → AreSettled worlds streaks → IsGreatest streaks last
    → IsRunTo worlds marks run.first run.hops.items (len_at streaks last) → IsLongest worlds marks (Some run)
longest_found worlds marks streaks last run h settled greatest found = (
  found.run,
  λ place hops other.
      let b = bounded worlds marks streaks place hops h settled other in
      let l = b.1 in
      let m = greatest b.0 in
      let s = (h place).some (starts worlds marks place hops other) in
      omega (arith, found.len),
)

pub none_found : (worlds : List (Vec Way)) (marks : List Bool) (streaks : List Streak) (last : ℕ) → AreStreaks worlds marks streaks → IsGreatest streaks last → len_at streaks last ≡ 0 → IsLongest worlds marks None
none_found worlds marks streaks last h greatest e = λ place m. absurd (let s = (h place).some m in let l = greatest place in omega arith)

pub last_marked : (worlds : List (Vec Way)) (marks : List Bool) (streaks : List Streak) (last : ℕ) → AreStreaks worlds marks streaks → len_at streaks last ≢ 0 → IsMarked marks last
last_marked worlds marks streaks last h n = marked worlds marks streaks last (h last) (omega arith)
