-- What is on the ways behind an event.
use Rattle.std.proofs.Common.{◌≡◌, ◌≢◌, ◌⊎◌, inl, inr, ℕ, List, [], ◌∷◌, ◌++◌, Some, refl, ap, sym, ◌∙◌, subst}
use Rattle.std.specs.List.{AllByRecursion}
use Rattle.std.proofs.lemmas.Bool.{cases_eq}
use Rattle.std.proofs.lemmas.List.{append_assoc, append-nil}
use Rattle.pg_step.specs.Machines.Machine.{Input, Machine, Event, World, Taken, Own, Take, Do, node_of, first_from}
use Rattle.std.specs.Cmp.{first_so}
use Rattle.std.proofs.Common.{true}
use Rattle.pg_step.specs.Machines.Places.{is_place, is_pair}
use Rattle.pg_step.specs.Machines.Happened.{Happened, Changes}
use Rattle.pg_step.proofs.Machines.Options.{some_is}
use Rattle.pg_step.proofs.Machines.Steps.{changes}
use Rattle.pg_laws.specs.History.{all_reported}

-- ---- lists

pub all_both : {A : Type 0} (Q : A → Type 0) (xs ys : List A) → AllByRecursion Q xs → AllByRecursion Q ys → AllByRecursion Q (xs ++ ys)
all_both Q [] ys h k = k
all_both Q (x ∷ xs) ys h k = (h.0, all_both Q xs ys h.1 k)

pub all_behind : {A : Type 0} (Q : A → Type 0) (xs ys : List A) → AllByRecursion Q (xs ++ ys) → AllByRecursion Q ys
all_behind Q [] ys h = h
all_behind Q (x ∷ xs) ys h = all_behind Q xs ys h.1

pub all_since : {A : Type 0} (Q R : A → Type 0) (xs : List A) → ((x : A) → Q x → R x) → AllByRecursion Q xs → AllByRecursion R xs
all_since Q R [] each h = tt
all_since Q R (x ∷ xs) each h = (each x h.0, all_since Q R xs each h.1)

pub told_append : {P B : Type 0} (tells : P → List B) (xs ys : List P) → all_reported tells (xs ++ ys) ≡ all_reported tells xs ++ all_reported tells ys
told_append tells [] ys = refl
told_append tells (x ∷ xs) ys = ap (λ zs. tells x ++ zs) (told_append tells xs ys) ∙ sym (append_assoc (tells x) (all_reported tells xs) (all_reported tells ys))

-- packets that tell nothing, behind others
pub told_nothing : {P B : Type 0} (tells : P → List B) (xs ys : List P) → all_reported tells ys ≡ [] → all_reported tells (xs ++ ys) ≡ all_reported tells xs
told_nothing tells xs ys none = told_append tells xs ys ∙ ap (λ zs. all_reported tells xs ++ zs) none ∙ append-nil (all_reported tells xs)

-- ---- ways

-- What became of the way from x to y by an event of node i.
pub data WayAfter {P C : Type 0} (i : ℕ) (input : Input P C) (x y : ℕ) (sends old new : List P) : Type 0 where
  -- it is one from node i: what was sent went behind
  Grown : x ≡ i → new ≡ old ++ sends → WayAfter i input x y sends old new
  -- the event took its first packet
  Shorter : (packet : P) → x ≢ i → y ≡ i → input ≡ Taken x packet → old ≡ packet ∷ new → WayAfter i input x y sends old new
  -- it is as it was
  Unchanged : x ≢ i → ((packet : P) → y ≡ i → input ≡ Taken x packet → ⊥) → new ≡ old → WayAfter i input x y sends old new

peer_is : {P C : Type 0} {p q : ℕ} {x z : P} → ◌≡◌ {A = Input P C} (Taken p x) (Taken q z) → p ≡ q
peer_is e = cc

no_packet : {P C : Type 0} {c : C} {p : ℕ} {x : P} → ◌≡◌ {A = Input P C} (Own c) (Taken p x) → ⊥
no_packet e = absurd (cc)

module _ {S P C O : Type 0} (m : Machine S P C O) (w v : World S P O) where
  given_packet : (p : ℕ) (xs rest : List P) (input : Input P C) (packet : P) → first_from p xs ≡ Some input → xs ≡ packet ∷ rest → input ≡ Taken p packet
  given_packet p xs rest input packet given first = sym (some_is (sym (ap (first_from p) first) ∙ given))

  pub way_after : (e : Event C) (h : Happened m w e v) (x y : ℕ) → WayAfter (node_of e) h.input x y (h.turn.sends y) (w.wire x y) (v.wire x y)
  way_after (Do i c) h x y = go (cases_eq x i)
    where
      go : (x ≡ i) ⊎ (x ≡ i → ⊥) → WayAfter i h.input x y (h.turn.sends y) (w.wire x y) (v.wire x y)
      go (inl own) = Grown own (subst (λ z. v.wire z y ≡ w.wire z y ++ h.turn.sends y) (sym own) ((changes m w v (Do i c) h).sent y))
      go (inr other) = Unchanged other (λ packet here is. no_packet (some_is h.given ∙ is)) ((changes m w v (Do i c) h).ways x y other (λ never. never))
  way_after (Take i p) h x y = go (cases_eq x i) (cases_eq p x) (cases_eq i y)
    where
      all : Changes {C = C} (Take i p) h.turn w v
      all = changes m w v (Take i p) h

      first : (packet : P) × (w.wire p i ≡ packet ∷ v.wire p i)
      first = all.taken p i (refl, refl)

      is_taken : h.input ≡ Taken p first.0
      is_taken = given_packet p (w.wire p i) (v.wire p i) h.input first.0 h.given first.1

      go : (x ≡ i) ⊎ (x ≡ i → ⊥) → (p ≡ x) ⊎ (p ≡ x → ⊥) → (i ≡ y) ⊎ (i ≡ y → ⊥) → WayAfter i h.input x y (h.turn.sends y) (w.wire x y) (v.wire x y)
      go (inl own) _ _ = Grown own (subst (λ z. v.wire z y ≡ w.wire z y ++ h.turn.sends y) (sym own) (all.sent y))
      go (inr other) (inl from) (inl to) = Shorter first.0 other (sym to) (is_taken ∙ ap (λ z. Taken z first.0) from)
          (subst (λ z. w.wire x z ≡ first.0 ∷ v.wire x z) to (subst (λ z. w.wire z i ≡ first.0 ∷ v.wire z i) from first.1))
      go (inr other) (inl from) (inr apart) = Unchanged other (λ packet here is. apart (sym here)) (all.ways x y other (λ both. apart both.1))
      go (inr other) (inr apart) _ = Unchanged other (λ packet here is. apart (peer_is (sym is_taken ∙ is))) (all.ways x y other (λ both. apart both.0))

  -- the state of a node behind an event
  pub state_after : (e : Event C) (h : Happened m w e v) (Q : S → Type 0) (j : ℕ) → (j ≡ node_of e → Q h.turn.state) → (j ≢ node_of e → Q (w.node j)) → Q (v.node j)
  state_after e h Q j here there = go (cases_eq j (node_of e))
    where
      all : Changes {C = C} e h.turn w v
      all = changes m w v e h

      go : (j ≡ node_of e) ⊎ (j ≡ node_of e → ⊥) → Q (v.node j)
      go (inl own) = subst (λ z. Q (v.node z)) (sym own) (subst Q (sym all.state) (here own))
      go (inr other) = subst Q (sym (all.states j other)) (there other)

  -- the node of an event is there
  pub own_place : (e : Event C) → Happened m w e v → is_place m.size (node_of e) ≡ true
  own_place (Do i c) h = h.there
  own_place (Take i p) h = first_so (is_place m.size i) _ h.there

  first_is : (p q : ℕ) (xs : List P) (x : P) → first_from {C = C} q xs ≡ Some (Taken p x) → (rest : List P) × (q ≡ p) × (xs ≡ x ∷ rest)
  first_is p q [] x e = absurd (cc)
  first_is p q (z ∷ xs) x e =
      let from : q ≡ p = cc in
      let same : z ≡ x = cc in
      (xs, from, ap (λ y. y ∷ xs) same)

  -- what was taken stood first on its way
  pub packet_there : (e : Event C) (h : Happened m w e v) (p : ℕ) (x : P) → h.input ≡ Taken p x → (rest : List P) × (w.wire p (node_of e) ≡ x ∷ rest)
  packet_there (Do i c) h p x is = absurd (no_packet (some_is h.given ∙ is))
  packet_there (Take i q) h p x is =
      let first = first_is p q (w.wire q i) x (h.given ∙ ap Some is) in
      (first.0, subst (λ z. w.wire z i ≡ x ∷ first.0) first.1 first.2)

  -- and the two places are apart
  pub pair_there : (e : Event C) (h : Happened m w e v) (p : ℕ) (x : P) → h.input ≡ Taken p x → is_pair m.size (node_of e) p ≡ true
  pair_there (Do i c) h p x is = absurd (no_packet (some_is h.given ∙ is))
  pair_there (Take i q) h p x is = subst (λ z. is_pair m.size i z ≡ true) (first_is p q (w.wire q i) x (h.given ∙ ap Some is)).1 h.there
