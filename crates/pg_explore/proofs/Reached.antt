-- What is found, followed and lent.
use Rattle.std.proofs.Common.{◌≡◌, ◌⊎◌, ◌<◌, ◌≤◌, ℕ, zero, suc, ◌+◌, max, List, [], ◌∷◌, ◌++◌, length}
use Rattle.std.proofs.Common.{take, map, refl, sym, ap, ◌∙◌, inl, inr, subst, arith, append_assoc}
use Rattle.std.proofs.lemmas.List.{length-map, take_more, take_all}
use Rattle.std.proofs.lemmas.Option.{slice_get_read, slice_get_within, get_or_from_slice_get}
use Rattle.std.specs.Prelude.{slice_get, Option, Some, None, Result, Ok, Err, IfOk, Bool, true, false}
use Rattle.std.specs.List.{Contains}
use Rattle.std.specs.Option.{ForSome}
use Rattle.pg_world_packets.specs.PgStep.Config.{Config}
use Rattle.pg_world_packets.specs.FrameWorlds.{given_of}
use Rattle.pg_explore.specs.declared.bins.Bins.{Bins}
use Rattle.pg_explore.specs.declared.bins.Spot.{Spot}
use Rattle.pg_explore.specs.declared.explored.Met.{Met}
use Rattle.pg_explore.specs.declared.moment.Moment.{Moment}
use Rattle.pg_explore.specs.declared.moves.Move.{Move}
use Rattle.pg_explore.specs.declared.plan.Plan.{Plan}
use Rattle.pg_explore.specs.declared.strand.Strand.{Strand}
use Rattle.pg_explore.specs.Bins.{spots_of}
use Rattle.pg_explore.specs.Explorations.{AreFollowed, AreFollowedAt, AreBinned, MeetsMore}
use Rattle.pg_explore.specs.Explorations.{IsAlikeAt, IsFollowed, IsOpenAt, sight_in}
use Rattle.pg_explore.specs.Lent.{AreLent, IsLent}
use Rattle.pg_explore.specs.Listings.{IsOpenMove}
use Rattle.pg_explore.specs.Moments.{IsMomentOf, Sight}
use Rattle.pg_explore.specs.Numbers.{number_in}
use Rattle.pg_explore.proofs.Alike.{same_number}
use Rattle.pg_explore.proofs.Expanding.{NoneBelow}
use Rattle.pg_explore.proofs.Optional.{inside_some, some_is}
use Rattle.pg_explore.proofs.Sound.{followed_on}

-- ---- a moment behind a step is one of the configuration

pub of_made : {E : Type 0} (r : Result (Option Moment) E) (config given : Config) (strands : List Strand) → given ≡ config → length strands ≡ length config
    → IfOk r (λ a. ForSome a (λ m. given_of m.world ≡ given)) → IfOk r (λ a. ForSome a (λ m. m.strands.items ≡ strands)) → IfOk r (λ a. ForSome a (IsMomentOf config))
of_made (Ok a) config given strands e n g s = λ m is. record { given = g m is ∙ e; size = ap length (s m is) ∙ n }
of_made (Err f) config given strands e n g s = tt

-- ---- finding

pub none_found : (bins : Bins) (mets : List Met) (sight : Sight) (number : ℕ) (spots : List Spot) → AreBinned bins mets → number ≡ number_in sight → spots ≡ spots_of bins number
    → NoneBelow mets sight number spots (length spots) → (place : ℕ) → IsAlikeAt mets place sight → ⊥
none_found bins mets sight number spots kept e s below place h =
    let same : number_in (sight_in h.0) ≡ number = same_number _ _ h.2 ∙ sym e in
    let held : Contains (spots_of bins number) (record { number = number; place = place }) =
    subst (λ n. Contains (spots_of bins n) (record { number = n; place = place })) same (kept place h.0 h.1) in
    let here : Contains spots (record { number = number; place = place }) = subst (λ xs. Contains xs (record { number = number; place = place })) (sym s) held in
    below here.0 (record { number = number; place = place }) here.1 (slice_get_read spots _ here.0 _ refl here.1 (sym here.2)) refl h

pub low_or_same : (n i : ℕ) → n < i + 1 → (n < i) ⊎ (n ≡ i)
low_or_same n i l = search arith

pub none_more : (mets : List Met) (sight : Sight) (number : ℕ) (spots : List Spot) (i : ℕ) (spot : Spot) → slice_get spots i ≡ Some spot
    → (spot.number ≡ number → IsAlikeAt mets spot.place sight → ⊥) → NoneBelow mets sight number spots i → NoneBelow mets sight number spots (i + 1)
none_more mets sight number spots i spot at not h = λ k other inside here. go k other here (low_or_same k i inside)
  where
    go : (k : ℕ) (other : Spot) → slice_get spots k ≡ Some other → (k < i) ⊎ (k ≡ i) → other.number ≡ number → IsAlikeAt mets other.place sight → ⊥
    go k other here (inl l) = h k other l here
    go k other here (inr e) =
        let same : spot ≡ other = some_is spot other (sym at ∙ ap (slice_get spots) (sym e) ∙ here) in
        subst (λ s. s.number ≡ number → IsAlikeAt mets s.place sight → ⊥) same not

-- ---- following

pub there_still : (old new : List Met) (place : ℕ) → MeetsMore old new → place < length old → place < length new
there_still old new place grows inside = let at = inside_some old place inside in slice_get_within new place at.0 (grows place at.0 at.1)

pub can_still : (plans : List Plan) (most : ℕ) (old new : List Met) (place : ℕ) (step : Move) → MeetsMore old new → IsOpenAt plans most old place step → IsOpenAt plans most new place step
can_still plans most old new place step grows h = (h.0, grows place h.0 h.1, h.2)

-- ---- moments that were lent

pub followed_still : (plans : List Plan) (most : ℕ) (old new : List Met) (count : ℕ) → MeetsMore old new → count ≤ length old → AreFollowed plans most old count → AreFollowed plans most new count
followed_still plans most old new count grows many h = λ place met step inside at can.
    let was = inside_some old place (omega (arith, inside, many)) in
    let same : was.0 ≡ met = some_is was.0 met (sym (grows place was.0 was.1) ∙ at) in
    subst (λ m. IsFollowed plans new (sight_in m) step) same
    (followed_on plans old new (sight_in was.0) step grows (h place was.0 step inside was.1 (subst (λ m. IsOpenMove plans most (sight_in m) step) (sym same) can)))

pub followed_more : (plans : List Plan) (most : ℕ) (mets : List Met) (count : ℕ) → AreFollowed plans most mets count → AreFollowedAt plans most mets count → AreFollowed plans most mets (count + 1)
followed_more plans most mets count h here = λ place met step inside at can. go place met step at can (low_or_same place count inside)
  where
    go : (place : ℕ) (met : Met) (step : Move) → slice_get mets place ≡ Some met → IsOpenMove plans most (sight_in met) step → (place < count) ⊎ (place ≡ count) → IsFollowed plans mets (sight_in met) step
    go place met step at can (inl l) = h place met step l at can
    go place met step at can (inr e) = here met step (ap (slice_get mets) (sym e) ∙ at) can

-- the first moments stay the first
pub same_first : (old new : List Met) (n : ℕ) → MeetsMore old new → n ≤ length old → take n new ≡ take n old
same_first old new zero grows many = refl
same_first [] new (suc n) grows many = absurd (omega (arith, many))
same_first (x ∷ old) [] (suc n) grows many = let bad = grows 0 x refl in absurd (none_is x bad)
  where
    none_is : (x : Met) → None ≡ Some x → ⊥
    none_is x e = absurd (cc)
same_first (x ∷ old) (y ∷ new) (suc n) grows many = λ j. some_is y x (grows 0 x refl) j ∷ same_first old new n (λ place met at. grows (suc place) met at) (omega (arith, many)) j

pub lent_more : (before mid after : Option (List Met)) (old new : List Met) (n : ℕ) (met : Met) → MeetsMore old new → n ≤ length old → slice_get new n ≡ Some met
    → AreLent before mid (take n old) → IsLent mid after met → AreLent before after (take (n + 1) new)
lent_more None mid after old new n met grows many at h k = tt
lent_more (Some xs) mid after old new n met grows many at h k =
    let first : take (n + 1) new ≡ take n old ++ met ∷ [] =
    take_more new n met (slice_get_within new n met at) ∙ (λ j. same_first old new n grows many j ++ get_or_from_slice_get new n met met at j ∷ []) in
    let led : AreLent (Some (xs ++ take n old)) after (met ∷ []) = subst (λ (o : Option (List Met)). AreLent o after (met ∷ [])) h k in
    led ∙ ap Some (append_assoc xs (take n old) (met ∷ []) ∙ ap (λ ys. xs ++ ys) (sym first))

pub lent_same : (before mid after : Option (List Met)) (old new : List Met) (n m : ℕ) → MeetsMore old new → n ≤ length old → m ≡ n → after ≡ mid → AreLent before mid (take n old) → AreLent before after (take m new)
lent_same before mid after old new n m grows many e same h =
    subst (λ (o : Option (List Met)). AreLent before o (take m new)) (sym same)
    (subst (λ k. AreLent before mid (take k new)) (sym e) (subst (λ (xs : List Met). AreLent before mid xs) (sym (same_first old new n grows many)) h))
