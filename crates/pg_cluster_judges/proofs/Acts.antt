-- What the turns of one node, and lists, say of clocks and packets.
use Rattle.std.proofs.Common.{◌≡◌, ℕ, ◌+◌, ◌<◌, ◌≤◌, Bool, true, false, not, ◌&&◌, nat_eq}
use Rattle.std.proofs.Common.{nat_lt, map, drop, List, [], ◌∷◌, ◌++◌, refl, ap, sym, ◌∙◌, arith}
use Rattle.std.specs.List.{AllByRecursion}
use Rattle.std.proofs.lemmas.Bool.{ltb-true}
use Rattle.std.proofs.lemmas.List.{drop-drop}
use Rattle.pg_world.specs.PgStep.Machines.Places.{is_pair}
use Rattle.pg_world.specs.PgStep.Machines.Machine.{Machine}
use Rattle.pg_world.specs.PgStep.Machines.Clocked.{Timed, Stamped}
use Rattle.pg_world.specs.PgStep.Machines.Timely.{KeepsTime}
use Rattle.pg_cluster_judges.specs.Logs.{LoggedAct, NodeLeads, sent_to}

pub all_append : {A : Type 0} (Q : A → Type 0) (xs ys : List A) → AllByRecursion Q xs → AllByRecursion Q ys → AllByRecursion Q (xs ++ ys)
all_append Q [] ys h k = k
all_append Q (x ∷ xs) ys h k = (h.0, all_append Q xs ys h.1 k)

pub all_weaker : {A : Type 0} (Q R : A → Type 0) (xs : List A) → ((x : A) → Q x → R x) → AllByRecursion Q xs → AllByRecursion R xs
all_weaker Q R [] f h = tt
all_weaker Q R (x ∷ xs) f h = (f x h.0, all_weaker Q R xs f h.1)

-- the places of a pair
pub pair_places : (size i p : ℕ) → is_pair size i p ≡ true → (i < size) × (p < size)
pair_places size i p there = go (nat_lt i size) refl (nat_lt p size) refl there
  where
    go : (a : Bool) → nat_lt i size ≡ a → (b : Bool) → nat_lt p size ≡ b → (a && (b && not (nat_eq i p))) ≡ true → (i < size) × (p < size)
    go true d true e h = (ltb-true i size d, ltb-true p size e)
    go true d false e h = absurd (cc)
    go false d b e h = absurd (cc)

-- what was read, and one more
pub drop_next : {A : Type 0} (n : ℕ) (xs : List A) (y : A) (ys : List A) → drop n xs ≡ y ∷ ys → drop (n + 1) xs ≡ ys
drop_next n xs y ys e = sym (drop-drop 1 n xs) ∙ ap (drop 1) e

-- what a list was that is seen as none, or as one and more
pub map_nil : {A B : Type 0} (f : A → B) (xs : List A) → map f xs ≡ [] → xs ≡ []
map_nil f [] e = refl
map_nil f (x ∷ xs) e = absurd (cc)

pub map_cons : {A B : Type 0} (f : A → B) (xs : List A) (y : B) (ys : List B) → map f xs ≡ y ∷ ys → (x : A) × (rest : List A) × (xs ≡ x ∷ rest) × (f x ≡ y)
map_cons f [] y ys e = absurd (cc)
map_cons f (x ∷ xs) y ys e = let same : f x ≡ y = cc in (x, xs, refl, same)

module _ {S P C O : Type 0} (limit : ℕ) (m : Machine (Timed S) (Stamped P) C O) (keeps : KeepsTime limit m) where
  -- none of these turns sets an earlier clock
  abbrev pub From : ℕ → List (LoggedAct (Timed S) (Stamped P) C O) → Type 0
  From clock acts = AllByRecursion (λ (a : LoggedAct (Timed S) (Stamped P) C O). clock ≤ a.turn.state.clock) acts

  pub later : (i clock : ℕ) (s t : Timed S) (acts : List (LoggedAct (Timed S) (Stamped P) C O)) → clock ≤ s.clock → NodeLeads m i s acts t → From clock acts
  later i clock s t [] low run = tt
  later i clock s t (a ∷ acts) low run =
      let up : s.clock < a.turn.state.clock = keeps.raises i s a.input a.turn run.1 in
      (omega arith, later i clock a.turn.state t acts (omega arith) run.2)

  -- nor any after one that does not
  pub later_than_first : (i clock : ℕ) (s t : Timed S) (a : LoggedAct (Timed S) (Stamped P) C O) (acts : List (LoggedAct (Timed S) (Stamped P) C O))
      → clock ≤ a.turn.state.clock → NodeLeads m i s (a ∷ acts) t → From clock (a ∷ acts)
  later_than_first i clock s t a acts low run = (low, later i clock a.turn.state t acts low run.2)

  -- what they send is stamped no earlier
  pub stamped_later : (i q clock : ℕ) (s t : Timed S) (acts : List (LoggedAct (Timed S) (Stamped P) C O)) → NodeLeads m i s acts t → From clock acts
      → AllByRecursion (λ (x : Stamped P). clock ≤ x.stamp) (sent_to q acts)
  stamped_later i q clock s t [] run low = tt
  stamped_later i q clock s t (a ∷ acts) run low =
      let first : clock ≤ a.turn.state.clock = low.0 in
      all_append (λ (x : Stamped P). clock ≤ x.stamp) (a.turn.sends q) (sent_to q acts)
      (all_weaker (λ (x : Stamped P). x.stamp ≡ a.turn.state.clock) (λ (x : Stamped P). clock ≤ x.stamp) (a.turn.sends q) (λ x same. omega arith) (keeps.sent i s a.input a.turn run.1 q))
      (stamped_later i q clock a.turn.state t acts run.2 low.1)
