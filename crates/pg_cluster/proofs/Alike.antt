-- Losses that keep the same on each way lead to the same worlds.
use Rattle.std.proofs.Common.{◌≡◌, ◌∙◌, ℕ, Bool, true, false, not, ◌&&◌, ◌||◌, cond, nat_le, take}
use Rattle.std.proofs.Common.{length, List, [], ◌∷◌, ◌++◌, Some, None, refl, sym, ap, subst}
use Rattle.std.proofs.Math.Path.{fun_ext}
use Rattle.pg_cluster_judges.specs.Losses.{MarksNotices, MarkedEvent, MarkedLeads}
use Rattle.pg_cluster_judges.specs.PgStep.Machines.Losing.{LosingEvent, LosingWorld, Lose, Step, each_place, losing_happens, stopped}
use Rattle.pg_cluster_judges.specs.PgStep.Machines.Machine.{Machine, World}
use Rattle.pg_cluster_judges.specs.PgStep.Machines.Places.{is_pair, is_place, set_at}

-- the same event, but for what is kept where there is no way
abbrev pub SameEvent : {C : Type 0} → ℕ → LosingEvent C → LosingEvent C → Type 0
SameEvent size (Step e) (Step f) = e ≡ f
SameEvent size (Lose i keep) (Lose j keep2) = (i ≡ j) × ((y : ℕ) → is_pair size i y ≡ true → keep y ≡ keep2 y)
SameEvent size e f = ⊥

-- and the same mark
abbrev pub IsAlike : {C : Type 0} → ℕ → MarkedEvent C → MarkedEvent C → Type 0
IsAlike size x y = SameEvent size x.0 y.0 × (x.1 ≡ y.1)

abbrev pub AreAlike : {C : Type 0} → ℕ → List (MarkedEvent C) → List (MarkedEvent C) → Type 0
AreAlike size [] [] = Unit {0}
AreAlike size (e ∷ es) (f ∷ fs) = IsAlike size e f × AreAlike size es fs
AreAlike size es fs = ⊥

pub alike_append : {C : Type 0} (size : ℕ) (es fs es2 fs2 : List (MarkedEvent C)) → AreAlike size es fs → AreAlike size es2 fs2 → AreAlike size (es ++ es2) (fs ++ fs2)
alike_append size [] [] es2 fs2 a b = b
alike_append size [] (f ∷ fs) es2 fs2 a b = absurd a
alike_append size (e ∷ es) [] es2 fs2 a b = absurd a
alike_append size (e ∷ es) (f ∷ fs) es2 fs2 a b = (a.0, alike_append size es fs es2 fs2 a.1 b)

module _ {S P C O : Type 0} (m : Machine S P C O) (last : S → P) where
  module _ (w : World S P O) (i : ℕ) (keep keep2 : ℕ → ℕ) (same : (y : ℕ) → is_pair m.size i y ≡ true → keep y ≡ keep2 y) where
    fits : ◌≡◌ {A = ℕ → Bool} (λ y. not (is_pair m.size i y) || nat_le (keep y) (length (w.wire i y))) (λ y. not (is_pair m.size i y) || nat_le (keep2 y) (length (w.wire i y)))
    fits = fun_ext (λ y. go y (is_pair m.size i y) (same y))
      where
        go : (y : ℕ) (b : Bool) → (b ≡ true → keep y ≡ keep2 y) → (not b || nat_le (keep y) (length (w.wire i y))) ≡ (not b || nat_le (keep2 y) (length (w.wire i y)))
        go y true k = ap (λ n. nat_le n (length (w.wire i y))) (k refl)
        go y false k = refl

    abbrev row : (ℕ → ℕ) → ℕ → List P
    row k y = cond (is_pair m.size i y) (take (k y) (w.wire i y) ++ last (w.node i) ∷ []) (w.wire i y)

    rows : row keep ≡ row keep2
    rows = fun_ext (λ y. go y (is_pair m.size i y) (same y))
      where
        go : (y : ℕ) (b : Bool) → (b ≡ true → keep y ≡ keep2 y)
            → cond b (take (keep y) (w.wire i y) ++ last (w.node i) ∷ []) (w.wire i y) ≡ cond b (take (keep2 y) (w.wire i y) ++ last (w.node i) ∷ []) (w.wire i y)
        go y true k = ap (λ n. take n (w.wire i y) ++ last (w.node i) ∷ []) (k refl)
        go y false k = refl

    stops : stopped m.size last w i keep ≡ stopped m.size last w i keep2
    stops = ap (λ (r : ℕ → List P). record { node = w.node; wire = set_at {A = ℕ → List P} w.wire i r; reported = w.reported }) rows

  loss_alike : (w : LosingWorld S P O) (i : ℕ) (keep keep2 : ℕ → ℕ) → ((y : ℕ) → is_pair m.size i y ≡ true → keep y ≡ keep2 y)
      → losing_happens {C = C} m last w (Lose i keep) ≡ losing_happens m last w (Lose i keep2)
  unfolding losing_happens
  loss_alike w i keep keep2 same = λ j. cond (is_place m.size i && (not (w.gone i) && each_place m.size (fits w.world i keep keep2 same j)))
      (Some (record { world = stops w.world i keep keep2 same j; gone = set_at w.gone i true })) None

  one_alike : (w : LosingWorld S P O) (e f : LosingEvent C) → SameEvent m.size e f → losing_happens m last w e ≡ losing_happens m last w f
  one_alike w (Step e) (Step f) same = ap (λ x. losing_happens m last w (Step x)) same
  one_alike w (Step e) (Lose j keep2) same = absurd same
  one_alike w (Lose i keep) (Step f) same = absurd same
  one_alike w (Lose i keep) (Lose j keep2) (place, same) = loss_alike w i keep keep2 same ∙ ap (λ k. losing_happens m last w (Lose k keep2)) place

  marks_alike : (is_last : P → Bool) (w : World S P O) (e f : LosingEvent C) (a b : Bool) → SameEvent m.size e f → a ≡ b → MarksNotices is_last w e a → MarksNotices is_last w f b
  marks_alike is_last w (Step e) (Step f) a b same mark is = subst (λ d. MarksNotices is_last w (Step d) b) same (subst (MarksNotices is_last w (Step e)) mark is)
  marks_alike is_last w (Step e) (Lose j keep2) a b same mark is = absurd same
  marks_alike is_last w (Lose i keep) (Step f) a b same mark is = absurd same
  marks_alike is_last w (Lose i keep) (Lose j keep2) a b same mark is = sym mark ∙ is

  -- events that are alike lead to the same world
  pub leads_alike : (is_last : P → Bool) (w : LosingWorld S P O) (es fs : List (MarkedEvent C)) (v : LosingWorld S P O) → AreAlike m.size es fs → MarkedLeads m last is_last w es v → MarkedLeads m last is_last w fs v
  leads_alike is_last w [] [] v alike leads = leads
  leads_alike is_last w [] (f ∷ fs) v alike leads = absurd alike
  leads_alike is_last w (e ∷ es) [] v alike leads = absurd alike
  leads_alike is_last w (e ∷ es) (f ∷ fs) v alike (u, happened, mark, leads) = (
    u,
    sym (one_alike w e.0 f.0 alike.0.0) ∙ happened,
    marks_alike is_last w.world e.0 f.0 e.1 f.1 alike.0.0 alike.0.1 mark,
    leads_alike is_last u es fs v alike.1 leads,
  )
