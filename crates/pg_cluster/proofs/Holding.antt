-- What a node of a cluster holds, and lists of them of which one is lost.
use Rattle.std.proofs.Common.{◌≡◌, ◌<◌, ℕ, zero, suc, List, [], ◌∷◌, length, map}
use Rattle.std.proofs.Common.{get_or, set, refl, sym, ◌∙◌, ap, subst, arith}
use Rattle.std.specs.Prelude.{true, false, Option, Some, None, option_map, slice_get}
use Rattle.std.proofs.lemmas.Option.{slice_get-map, slice_get-get_or}
use Rattle.pg_cluster.specs.declared.member.Member.{Member}
use Rattle.pg_cluster.specs.Members.{clock_of, is_lost, last_of, lasts_in, losses_in, thread_of, threads_in}
use Rattle.pg_cluster.specs.Promises.{RanAs}
use Rattle.pg_cluster.specs.Threads.{Holds, RanOf, Thread, begun_by, lasts_ended, limit_of, thread_or}
use Rattle.std.proofs.lemmas.List.{get_or-map, length-map}

module _ {K : Type 0} where
  -- the thread that runs
  pub runs_as : (joined thread : Thread K) (all : Option (Thread K)) (ran : RanOf K) → all ≡ Some thread → RanAs (begun_by thread) (limit_of thread) ran
      → RanAs (begun_by (thread_or joined all)) (limit_of (thread_or joined all)) ran
  runs_as joined thread all ran is kept = subst (λ (t : Option (Thread K)). RanAs (begun_by (thread_or joined t)) (limit_of (thread_or joined t)) ran) (sym is) kept

  pub holds_ran : (joined thread : Thread K) (all : Option (Thread K)) (ran : RanOf K) → all ≡ None → joined ≡ thread → RanAs (begun_by thread) (limit_of thread) ran
      → Holds joined all (Some ran)
  holds_ran joined thread (Some other) ran none is kept = tt
  holds_ran joined thread None ran none is kept = subst (λ (t : Thread K). RanAs (begun_by t) (limit_of t) ran) (sym is) kept

  abbrev ran_or : RanOf K → Option (RanOf K) → RanOf K
  ran_or other (Some ran) = ran
  ran_or other None = other

  -- what one gave back that was joined
  pub gave_back : (joined : Thread K) (all : Option (Thread K)) (back : Option (RanOf K)) (ran : RanOf K) → all ≡ None → back ≡ Some ran → Holds joined all back
      → RanAs (begun_by (thread_or joined all)) (limit_of (thread_or joined all)) ran
  gave_back joined (Some thread) back ran none is holds = absurd (cc)
  gave_back joined None (Some other) ran none is holds = subst (λ (r : RanOf K). RanAs (begun_by joined) (limit_of joined) r) (ap (ran_or other) is) holds
  gave_back joined None None ran none is holds = absurd holds

  pub holds_something : (joined : Thread K) (all : Option (Thread K)) (back : Option (RanOf K)) → all ≡ None → back ≡ None → Holds joined all back → ⊥
  holds_something joined (Some thread) back none gone holds = absurd (cc)
  holds_something joined None (Some ran) none gone holds = absurd (cc)
  holds_something joined None None none gone holds = holds

  -- ---- one of the nodes of a cluster is lost

  pub threads_set : (members : List (Member K)) (k : ℕ) (member member2 : Member K) → k < length members → member ≡ get_or members k member → thread_of member2 ≡ thread_of member
      → threads_in (set members k member2) ≡ threads_in members
  threads_set [] k member member2 low is same = absurd (omega (arith, low))
  threads_set (m ∷ ms) zero member member2 low is same = ap (λ t. t ∷ threads_in ms) (same ∙ ap thread_of is)
  threads_set (m ∷ ms) (suc k) member member2 low is same = ap (λ ts. thread_of m ∷ ts) (threads_set ms k member member2 (omega (arith, low)) is same)

  pub losses_set : (members : List (Member K)) (k : ℕ) (member2 : Member K) → k < length members → is_lost member2 ≡ true
      → losses_in (set members k member2) ≡ set (losses_in members) k true
  losses_set [] k member2 low gone = absurd (omega (arith, low))
  losses_set (m ∷ ms) zero member2 low gone = ap (λ b. b ∷ losses_in ms) gone
  losses_set (m ∷ ms) (suc k) member2 low gone = ap (λ bs. is_lost m ∷ bs) (losses_set ms k member2 (omega (arith, low)) gone)

  -- whether the node at a place was lost
  pub loss_at : (members : List (Member K)) (k : ℕ) (member : Member K) → k < length members → member ≡ get_or members k member → slice_get (losses_in members) k ≡ Some (is_lost member)
  loss_at members k member low is = slice_get-map is_lost members k ∙ ap (option_map is_lost) (slice_get-get_or members k member low ∙ ap Some (sym is))

  pub not_lost_again : (members : List (Member K)) (k : ℕ) (member : Member K) → k < length members → member ≡ get_or members k member → is_lost member ≡ false
      → slice_get (losses_in members) k ≡ Some true → ⊥
  not_lost_again members k member low is here gone =
      let one : Some (is_lost member) ≡ Some true = sym (loss_at members k member low is) ∙ gone in
      let two : is_lost member ≡ true = cc in
      absurd (cc)

  -- the clock of the node at a place
  pub last_set : (members : List (Member K)) (k : ℕ) (member : Member K) (last : ℕ) → k < length members → last ≡ last_of member
      → slice_get (map last_of (set members k member)) k ≡ Some last
  last_set [] k member last low is = absurd (omega (arith, low))
  last_set (m ∷ ms) zero member last low is = ap Some (sym is)
  last_set (m ∷ ms) (suc k) member last low is = last_set ms k member last (omega (arith, low)) is

  -- the clocks at last
  pub lasts_set : (members : List (Member K)) (k : ℕ) (member : Member K) → k < length members → lasts_in (set members k member) ≡ set (lasts_in members) k (last_of member)
  lasts_set [] k member low = absurd (omega (arith, low))
  lasts_set (m ∷ ms) zero member low = refl
  lasts_set (m ∷ ms) (suc k) member low = ap (λ ls. last_of m ∷ ls) (lasts_set ms k member (omega (arith, low)))

  -- those of the nodes that were lost, as their threads ended
  pub lasts_kept : (members : List (Member K)) (rans : List (RanOf K)) → length rans ≡ length members
      → ((i : ℕ) (m : Member K) (d : RanOf K) → i < length rans → is_lost (get_or members i m) ≡ true → clock_of (get_or rans i d) ≡ last_of (get_or members i m))
      → (i : ℕ) → i < length (losses_in members) → get_or (losses_in members) i false ≡ true → get_or (lasts_in members) i 0 ≡ get_or (lasts_ended rans) i 0
  lasts_kept members rans count kept i low gone =
      let within : i < length members = let n = length-map members is_lost in omega (arith, low, n) in
      let there : i < length rans = omega (arith, within, count) in
      let m = one_of members i within in
      let d = one_of rans i there in
      get_or-map last_of members i m 0 within
      ∙ (sym (kept i m d there (sym (get_or-map is_lost members i m false within) ∙ gone)) ∙ sym (get_or-map clock_of rans i d 0 there))
    where
      one_of : {A : Type 0} (xs : List A) (k : ℕ) → k < length xs → A
      one_of [] k low = absurd (omega (arith, low))
      one_of (x ∷ xs) k low = x
