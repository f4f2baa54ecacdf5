-- Lists of commands whose commands are twins say the same of each reference and of each command, and only they.
use Rattle.std.proofs.Common.{◌≡◌, ℕ, zero, suc, Bool, true, false, ◌||◌, List, [], ◌∷◌}
use Rattle.std.proofs.Common.{Option, Some, None, refl, ap, sym, ◌∙◌, inl, inr, ◌⊎◌}
use Rattle.std.specs.Prelude.{slice_get}
use Rattle.std.specs.Cmp.{first_so, second_so}
use Rattle.std.specs.List.{IsDistinct, list_all, list_any}
use Rattle.std.proofs.Math.Path.{fun_ext}
use Rattle.pg_term.specs.Same.{same_atom}
use Rattle.pg_step.specs.Nodes.{Node}
use Rattle.pg_step.specs.State.Stage.{Closed}
use Rattle.pg_node_opens.specs.declared.command.OpenCommand.{OpenCommand}
use Rattle.pg_node_opens.specs.Layers.{over, or_as, seek, answers, others}
use Rattle.pg_node_opens.specs.Commands.{use_at, stage_at, unused, uses_in, stages_in, AreKnown}
use Rattle.pg_node_opens.specs.Twins.{is_twin, have_twins}
use Rattle.pg_node_opens.proofs.Layered.{quiet_is, quiet_both, pull, Apart, apart_of}
use Rattle.pg_node_opens.proofs.Named.{clash, split}
use Rattle.pg_node_opens.proofs.Alike.{both_true, twin_use, twin_stage}

-- ---- one of a list, and all of it

pub record Among {A : Type 0} (xs : List A) (test : A → Bool) : Type 0 where
  pub place : ℕ
  pub item : A
  pub here : slice_get xs place ≡ Some item
  pub passes : test item ≡ true

further : {A : Type 0} {x : A} {xs : List A} {test : A → Bool} → Among xs test → Among (x ∷ xs) test
further among = record { place = suc among.place; item = among.item; here = among.here; passes = among.passes }

pub any_among : {A : Type 0} (test : A → Bool) (xs : List A) → list_any test xs ≡ true → Among xs test
any_among test [] e = absurd (clash (sym e))
any_among test (x ∷ xs) e = go (test x) refl e (any_among test xs)
  where
    go : (b : Bool) → test x ≡ b → (b || list_any test xs) ≡ true → (list_any test xs ≡ true → Among xs test) → Among (x ∷ xs) test
    go true f e h = record { place = zero; item = x; here = refl; passes = f }
    go false f e h = further (h e)

pub any_true : {A : Type 0} (test : A → Bool) (xs : List A) (k : ℕ) (x : A) → slice_get xs k ≡ Some x → test x ≡ true → list_any test xs ≡ true
any_true test [] k x here e = absurd (cc)
any_true test (y ∷ xs) zero x here e = let same : y ≡ x = cc in ap (λ z. test z || list_any test xs) same ∙ ap (λ b. b || list_any test xs) e
any_true test (y ∷ xs) (suc k) x here e = ap (λ b. test y || b) (any_true test xs k x here e) ∙ either (test y)
  where
    either : (b : Bool) → (b || true) ≡ true
    either true = refl
    either false = refl

pub all_at : {A : Type 0} (test : A → Bool) (xs : List A) → list_all test xs ≡ true → (k : ℕ) (x : A) → slice_get xs k ≡ Some x → test x ≡ true
all_at test [] e k x here = absurd (cc)
all_at test (y ∷ xs) e zero x here = let same : y ≡ x = cc in ap test (sym same) ∙ first_so (test y) (list_all test xs) e
all_at test (y ∷ xs) e (suc k) x here = all_at test xs (second_so (test y) (list_all test xs) e) k x here

pub all_true : {A : Type 0} (test : A → Bool) (xs : List A) → ((k : ℕ) (x : A) → slice_get xs k ≡ Some x → test x ≡ true) → list_all test xs ≡ true
all_true test [] h = refl
all_true test (x ∷ xs) h = both_true (test x) (list_all test xs) (h zero x refl) (all_true test xs (λ k y here. h (suc k) y here))

-- ---- lists that say functions

module _ {A K B : Type 0} (at : A → K → Option B) where
  over_loud : (a r : Option B) → answers a ≡ true → over a r ≡ a
  over_loud None r e = absurd (clash (sym e))
  over_loud (Some v) r e = refl

  -- who answers for a key says what the list says of it
  pub seek_here : (xs : List A) (k : ℕ) (a : A) (x : K) → Apart at xs → slice_get xs k ≡ Some a → answers (at a x) ≡ true → seek at xs x ≡ at a x
  seek_here xs k a x apart here loud = pull at xs k a here apart x ∙ over_loud (at a x) (seek at (others xs k) x) loud

  -- some item answers for a key, or none does
  pub seek_finds : (xs : List A) (x : K) → Among xs (λ a. answers (at a x)) ⊎ (answers (seek at xs x) ≡ false)
  seek_finds [] x = inr refl
  seek_finds (b ∷ bs) x = go (split (answers (at b x))) (seek_finds bs x)
    where
      go : (answers (at b x) ≡ true) ⊎ (answers (at b x) ≡ false) → Among bs (λ a. answers (at a x)) ⊎ (answers (seek at bs x) ≡ false)
          → Among (b ∷ bs) (λ a. answers (at a x)) ⊎ (answers (over (at b x) (seek at bs x)) ≡ false)
      go (inl e) r = inl (record { place = zero; item = b; here = refl; passes = e })
      go (inr e) (inl f) = inl (further f)
      go (inr e) (inr f) = inr (quiet_both (at b x) (seek at bs x) e f)

  -- each item of the one has a twin in the other that answers alike
  abbrev pub HasTwins : List A → List A → Type 0
  HasTwins xs ys = (k : ℕ) (a : A) → slice_get xs k ≡ Some a → (j : ℕ) × (b : A) × (slice_get ys j ≡ Some b) × ((x : K) → at a x ≡ at b x)

  pub seek_twins : (xs ys : List A) → Apart at xs → Apart at ys → HasTwins xs ys → HasTwins ys xs → (x : K) → seek at xs x ≡ seek at ys x
  seek_twins xs ys apart apart' twins twins' x = go (seek_finds xs x) (seek_finds ys x)
    where
      loud_twin : (xs ys : List A) → Apart at xs → Apart at ys → HasTwins xs ys → Among xs (λ a. answers (at a x)) → seek at xs x ≡ seek at ys x
      loud_twin xs ys apart apart' twins f = let t = twins f.place f.item f.here in
          seek_here xs f.place f.item x apart f.here f.passes
          ∙ (t.3 x ∙ sym (seek_here ys t.0 t.1 x apart' t.2 (ap answers (sym (t.3 x)) ∙ f.passes)))

      go : Among xs (λ a. answers (at a x)) ⊎ (answers (seek at xs x) ≡ false) → Among ys (λ a. answers (at a x)) ⊎ (answers (seek at ys x) ≡ false) → seek at xs x ≡ seek at ys x
      go (inl f) r = loud_twin xs ys apart apart' twins f
      go (inr e) (inl f) = sym (loud_twin ys xs apart' apart twins' f)
      go (inr e) (inr f) = quiet_is (seek at xs x) e ∙ sym (quiet_is (seek at ys x) f)

-- ---- twins are seen as the same

module _ (names : List Node) (made : ℕ) (os ps : List OpenCommand) (apart : IsDistinct same_atom names) (known : AreKnown names made os) (known' : AreKnown names made ps) where
  twin_of : (os ps : List OpenCommand) → have_twins os ps ≡ true → (k : ℕ) (o : OpenCommand) → slice_get os k ≡ Some o → Among ps (is_twin o)
  twin_of os ps e k o here = any_among (is_twin o) ps (all_at (λ o. list_any (is_twin o) ps) os e k o here)

  pub uses_by_twins : have_twins os ps ≡ true → have_twins ps os ≡ true → uses_in names made os ≡ uses_in names made ps
  uses_by_twins e f = fun_ext (λ x. ap (λ z. or_as z (unused made x))
      (seek_twins (use_at names) os ps (apart_of (use_at names) os known.uses_alone) (apart_of (use_at names) ps known'.uses_alone)
      (λ k o here. let t = twin_of os ps e k o here in (t.place, t.item, t.here, twin_use o t.item t.passes names apart (known.marked k o here) (known'.marked t.place t.item t.here)))
      (λ k o here. let t = twin_of ps os f k o here in (t.place, t.item, t.here, twin_use o t.item t.passes names apart (known'.marked k o here) (known.marked t.place t.item t.here)))
      x))

  pub stages_by_twins : have_twins os ps ≡ true → have_twins ps os ≡ true → stages_in os ≡ stages_in ps
  stages_by_twins e f = fun_ext (λ x. ap (λ z. or_as z Closed)
      (seek_twins stage_at os ps (apart_of stage_at os known.stages_alone) (apart_of stage_at ps known'.stages_alone)
      (λ k o here. let t = twin_of os ps e k o here in (t.place, t.item, t.here, twin_stage o t.item t.passes))
      (λ k o here. let t = twin_of ps os f k o here in (t.place, t.item, t.here, twin_stage o t.item t.passes))
      x))
