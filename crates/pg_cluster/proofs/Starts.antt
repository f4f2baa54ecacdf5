-- Lemmas on a list of threads that grows as the list of their nodes shrinks.
use Rattle.std.proofs.Common.{◌≡◌, ◌<◌, ◌+◌, ℕ, List, [], ◌∷◌, ◌++◌, length, map, drop, get_or, sym, ◌∙◌, ap}
use Rattle.std.proofs.Common.{arith, inl, inr, length-append, length-drop, suc, add-one, add-zero, subst}
use Rattle.std.specs.List.{All}
use Rattle.std.specs.Prelude.{true, false}
use Rattle.std.proofs.lemmas.List.{get_or-drop, get_or-map, get_or_push, length-map, nil_from_length}
use lib.Seq.{ext_get_or}
use mathlib.Core.List.{append-nil, append_assoc, map-map}
use Rattle.std.proofs.lemmas.Bool.Decides.{eqb_tells}
use Rattle.std.proofs.Math.ListN.{get_or-append}
use Rattle.std.proofs.Math.Seq.{get_or-append_seam, drop-cons}
use Rattle.pg_ring.specs.declared.slot_in.SlotIn.{SlotIn}
use Rattle.pg_ring.specs.declared.slot_out.SlotOut.{SlotOut}
use Rattle.pg_cluster_judges.specs.PgNodeRun.declared.notices.Notice.{Notice}
use Rattle.pg_cluster_judges.specs.PgNodeRun.declared.port.Client.{Client}
use Rattle.pg_cluster_judges.specs.PgNodeRun.Runs.{notices_at}
use Rattle.pg_cluster_judges.specs.PgStep.Config.{Config}
use Rattle.pg_cluster.specs.Clients.{AllPairs, IsOpenClient, ports_begun}
use Rattle.pg_cluster.specs.Ended.{AreWired}
use Rattle.pg_cluster.specs.declared.member.Member.{Member}
use Rattle.pg_cluster.specs.Members.{clock_of, is_lost, last_of, losses_in, thread_of, threads_in}
use Rattle.pg_cluster_judges.specs.Schedule.{NobodyLost}
use Rattle.pg_cluster.specs.Promises.{RanAs}
use Rattle.pg_cluster.specs.Threads.{AreMade, RunOf, RanOf, Thread, StartedWith, Joined, begun_by}
use Rattle.pg_cluster.specs.Threads.{limit_of as turns_of, row_in, rows_begun, notices_begun, ports_of_runs}

module _ {X : Type 0} where
  -- the first of what is left stands at the place where that begins
  pub next_at : (xs rest : List X) (y : X) (k : ℕ) (d : X) → y ∷ rest ≡ drop k xs → get_or xs k d ≡ y
  next_at xs rest y k d e = let h = get_or-drop k xs 0 d in sym (rw add-zero at h) ∙ ap (λ w. get_or w 0 d) (sym e)

  pub next_below : (xs rest : List X) (y : X) (k : ℕ) → y ∷ rest ≡ drop k xs → k < length xs
  next_below xs rest y k e = let h = ap length e in omega (arith, length-drop k xs)

  pub rest_after : (xs rest : List X) (y : X) (k : ℕ) → y ∷ rest ≡ drop k xs → rest ≡ drop (k + 1) xs
  rest_after xs rest y k e =
      let h : y ∷ rest ≡ get_or xs k y ∷ drop (suc k) xs = e ∙ drop-cons xs k y (next_below xs rest y k e) in rw add-one (cc)

  module _ {H : Type 0} (value : H → X) (limit_of : H → ℕ) where
    abbrev pub Follows : List X → ℕ → List H → Type 0
    Follows xs limit hs = (i : ℕ) (d : X) (h : H) → i < length hs → (value (get_or hs i h) ≡ get_or xs i d) × (limit_of (get_or hs i h) ≡ limit)

    pub follows_more : (xs rest : List X) (limit : ℕ) (hs : List H) (x : H) (y : X)
        → y ∷ rest ≡ drop (length hs) xs → value x ≡ y → limit_of x ≡ limit → Follows xs limit hs → Follows xs limit (hs ++ x ∷ [])
    follows_more xs rest limit hs x y e v l all i d h low = elim (eqb_tells i (length hs)) [
      | inl t ↦
          let here : get_or (hs ++ x ∷ []) i h ≡ x = ap (λ k. get_or (hs ++ x ∷ []) k h) t.1 ∙ get_or-append_seam hs x [] h in
          (ap value here ∙ v ∙ sym (next_at xs rest y (length hs) d e) ∙ ap (λ k. get_or xs k d) (sym t.1), ap limit_of here ∙ l)
      | inr f ↦
          let less : i < length hs = let n = length-append hs (x ∷ []) in omega (arith, f.1) in
          let same : get_or (hs ++ x ∷ []) i h ≡ get_or hs i h = get_or-append hs (x ∷ []) h i less in
          let old = all i d h less in (ap value same ∙ old.0, ap limit_of same ∙ old.1)
    ]

-- ---- the threads that were started

module _ {K : Type 0} where
  -- they began with the nodes that they were given
  pub started_runs : (runs : List (RunOf K)) (limit : ℕ) (threads : List (Thread K)) → StartedWith runs limit threads → map begun_by threads ≡ runs
  started_runs runs limit [] started = sym (nil_from_length runs (sym started.0))
  started_runs [] limit (thread ∷ threads) started = absurd (let e = started.0 in omega arith)
  started_runs (run ∷ runs) limit (thread ∷ threads) started =
      let all : List (Thread K) = thread ∷ threads in
      ext_get_or run (map begun_by all) (run ∷ runs) (length-map all begun_by ∙ started.0)
      (λ i low. let less : i < length all = let e = length-map all begun_by in omega arith in get_or-map begun_by all i thread run less ∙ (started.1 i run thread less).0)

  pub started_limits : (runs : List (RunOf K)) (limit : ℕ) (threads : List (Thread K)) → StartedWith runs limit threads → All (λ thread. turns_of thread ≡ limit) threads
  started_limits runs limit threads started i d low = (started.1 i (begun_by d) d low).1

  -- each has the ends of its rings
  pub started_wired : (given : Config) (runs : List (RunOf K)) (limit : ℕ) (threads : List (Thread K)) → AreMade given runs → StartedWith runs limit threads
      → AreWired (length threads) (rows_begun threads)
  started_wired given runs limit threads made started =
      let same = started_runs runs limit threads started in
      subst (λ n. AreWired n (rows_begun threads)) (sym started.0) (subst (AreWired (length runs)) (ap (map row_in) (sym same) ∙ map-map row_in begun_by threads) made.wired)

  -- and its clients
  pub started_clients : (runs : List (RunOf K)) (limit : ℕ) (threads : List (Thread K)) (clients : List Client) → StartedWith runs limit threads
      → AllPairs IsOpenClient clients (ports_of_runs runs) → AllPairs IsOpenClient clients (ports_begun threads)
  started_clients runs limit threads clients started opened =
      subst (λ (rs : List (RunOf K)). AllPairs IsOpenClient clients (ports_of_runs rs)) (sym (started_runs runs limit threads started)) opened

  -- and is told of losses
  pub started_notices : (R : SlotOut Notice → SlotIn Notice → Type 0) (runs : List (RunOf K)) (limit : ℕ) (threads : List (Thread K)) (tellers : List (SlotOut Notice))
      → StartedWith runs limit threads → AllPairs R tellers (map notices_at runs) → AllPairs R tellers (notices_begun threads)
  started_notices R runs limit threads tellers started all =
      subst (AllPairs R tellers) (map-map notices_at begun_by threads)
      (subst (λ (rs : List (RunOf K)). AllPairs R tellers (map notices_at rs)) (sym (started_runs runs limit threads started)) all)

  -- ---- the nodes of a cluster, by their threads

  -- each thread was started with the node at its place
  pub started_members : (runs : List (RunOf K)) (limit : ℕ) (members : List (Member K)) → length members ≡ length runs
      → ((i : ℕ) (d : RunOf K) (m : Member K) → i < length members
      → (begun_by (thread_of (get_or members i m)) ≡ get_or runs i d) × (turns_of (thread_of (get_or members i m)) ≡ limit))
      → StartedWith runs limit (threads_in members)
  started_members runs limit [] count all = (count, λ i run thread low. absurd (omega (arith, low)))
  started_members runs limit (m ∷ ms) count all = (
    length-map (m ∷ ms) thread_of ∙ count,
    λ i run thread low.
        let less : i < length (m ∷ ms) = let n = length-map (m ∷ ms) thread_of in omega (arith, low, n) in
        let at : get_or (threads_in (m ∷ ms)) i thread ≡ thread_of (get_or (m ∷ ms) i m) = get_or-map thread_of (m ∷ ms) i m thread less in
        (ap begun_by at ∙ (all i run m less).0, ap turns_of at ∙ (all i run m less).1),
  )

  -- what a node gave back, and what the first of them did
  abbrev pub GivesBack : Member K → RanOf K → Type 0
  GivesBack member ran = RanAs (begun_by (thread_of member)) (turns_of (thread_of member)) ran

  abbrev pub GiveBack : List (Member K) → List (RanOf K) → Type 0
  GiveBack members rans = (i : ℕ) (m : Member K) (ran : RanOf K) → i < length rans → GivesBack (get_or members i m) (get_or rans i ran)

  -- the clock of one that was lost is that at which it stopped
  abbrev pub KeepsClock : Member K → RanOf K → Type 0
  KeepsClock member ran = is_lost member ≡ true → clock_of ran ≡ last_of member

  abbrev pub ClocksKept : List (Member K) → List (RanOf K) → Type 0
  ClocksKept members rans = (i : ℕ) (m : Member K) (d : RanOf K) → i < length rans → KeepsClock (get_or members i m) (get_or rans i d)

  -- each gave back what its thread promised
  pub joined_members : (members : List (Member K)) (rans : List (RanOf K)) → length rans ≡ length members → GiveBack members rans → Joined (threads_in members) rans
  joined_members [] rans count all = (count, λ i thread ran low. absurd (omega (arith, low, count)))
  joined_members (m ∷ ms) rans count all = (
    count ∙ sym (length-map (m ∷ ms) thread_of),
    λ i thread ran low.
        let less : i < length (m ∷ ms) = omega (arith, low, count) in
        let at : get_or (threads_in (m ∷ ms)) i thread ≡ thread_of (get_or (m ∷ ms) i m) = get_or-map thread_of (m ∷ ms) i m thread less in
        subst (λ (t : Thread K). RanAs (begun_by t) (turns_of t) (get_or rans i ran)) (sym at) (all i m ran low),
  )

  -- none was lost
  pub losses_none : (members : List (Member K)) → All (λ m. is_lost m ≡ false) members → NobodyLost (losses_in members)
  losses_none [] all = λ i d low. absurd (omega (arith, low))
  losses_none (m ∷ ms) all = λ i d low.
      let less : i < length (m ∷ ms) = let n = length-map (m ∷ ms) is_lost in omega (arith, low, n) in get_or-map is_lost (m ∷ ms) i m d less ∙ all i m less

  pub runs_still : (members : List (Member K)) (k : ℕ) (member : Member K) → ((m : Member K) → get_or members k m ≡ member) → k < length members
      → NobodyLost (losses_in members) → is_lost member ≡ false
  runs_still members k member at low nobody =
      sym (ap is_lost (at member)) ∙ (sym (get_or-map is_lost members k member false low) ∙ nobody k false (let n = length-map members is_lost in omega (arith, low, n)))

-- ---- lists of which one moves to another

module _ {X Y : Type 0} (f : X → Y) where
  -- the first of what is left goes behind what is there
  pub one_moves : (ys : List Y) (xs rest : List X) (x : X) (all : List Y) → x ∷ rest ≡ xs → ys ++ map f xs ≡ all → (ys ++ f x ∷ []) ++ map f rest ≡ all
  one_moves ys xs rest x all e same = append_assoc ys (f x ∷ []) (map f rest) ∙ (ap (λ (zs : List X). ys ++ map f zs) e ∙ same)

  -- nothing has moved
  pub none_moved : (ys : List Y) (xs all : List X) → ys ≡ [] → xs ≡ all → ys ++ map f xs ≡ map f all
  none_moved ys xs all none same = ap (λ (zs : List Y). zs ++ map f xs) none ∙ ap (map f) same

  -- the first of what is left was pushed
  pub pushed_moves : (ys new : List Y) (y : Y) (xs rest : List X) (x : X) (all : List Y) → new ≡ ys ++ y ∷ [] → y ≡ f x → xs ≡ x ∷ rest → ys ++ map f xs ≡ all → new ++ map f rest ≡ all
  pushed_moves ys new y xs rest x all pushed is first was =
      ap (λ (zs : List Y). zs ++ map f rest) (pushed ∙ ap (λ z. ys ++ z ∷ []) is) ∙ one_moves ys xs rest x all (sym first) was

  -- all has moved
  pub all_moved : (ys : List Y) (xs : List X) (all : List Y) → xs ≡ [] → ys ++ map f xs ≡ all → ys ≡ all
  all_moved ys xs all e same = sym (append-nil ys) ∙ (ap (λ (zs : List X). ys ++ map f zs) (sym e) ∙ same)

-- so many of a list that is as long are all of it
pub all_of_it : {Y : Type 0} (ys left all : List Y) → ys ++ left ≡ all → length ys ≡ length all → ys ≡ all
all_of_it ys left all same size =
    let n = ap length same in
    let m = length-append ys left in
    let none : left ≡ [] = nil_from_length left (omega arith) in
    sym (append-nil ys) ∙ (ap (λ zs. ys ++ zs) (sym none) ∙ same)

-- what holds of each holds of one more
pub all_push : {X : Type 0} (P : X → Type 0) (xs : List X) (x : X) → All P xs → P x → All P (xs ++ x ∷ [])
all_push P xs x all here k d low = elim (eqb_tells k (length xs)) [
  | inl t ↦ subst P (sym (get_or_push xs x d k (sym t.1))) here
  | inr f ↦
      let less : k < length xs = let n = length-append xs (x ∷ []) in omega (arith, f.1, n, low) in
      subst P (sym (get_or-append xs (x ∷ []) d k less)) (all k d less)
]
