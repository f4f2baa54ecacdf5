-- Events one after another.
use Rattle.std.proofs.Common.{◌≡◌, ℕ, suc, length, Bool, true, false, cond, nat_eq, map, List}
use Rattle.std.proofs.Common.{[], ◌∷◌, ◌++◌, Option, Some, None, refl, ap, sym, ◌∙◌, subst}
use Rattle.std.specs.Prelude.{unwrap_or}
use Rattle.std.proofs.lemmas.Bool.{eqb-false}
use Rattle.std.proofs.lemmas.List.{append-nil, append_assoc}
use Rattle.pg_step.specs.Machines.Machine.{Machine, Event, World, node_of, happens}
use Rattle.pg_step.specs.Machines.Happened.{Happened}
use Rattle.pg_step.specs.Machines.Runs.{Leads, after, put_if_some, run, ran, events_of, reported_by}
use Rattle.pg_step.proofs.Machines.Options.{some_is}
use Rattle.pg_step.proofs.Machines.Steps.{happened, changes}

module _ {S P C O : Type 0} (m : Machine S P C O) where
  pub parts : (es fs : List (Event C)) (w v : World S P O) → Leads m w (es ++ fs) v → (u : World S P O) × Leads m w es u × Leads m u fs v
  parts [] fs w v l = (w, refl, l)
  parts (e ∷ es) fs w v l = let rest = parts es fs l.0 v l.2 in (rest.0, (l.0, l.1, rest.1), rest.2)

  pub whole : (es fs : List (Event C)) (w u v : World S P O) → Leads m w es u → Leads m u fs v → Leads m w (es ++ fs) v
  whole [] fs w u v same l = subst (λ x. Leads m x fs v) (sym same) l
  whole (e ∷ es) fs w u v l k = (l.0, l.1, whole es fs l.0 u v l.2 k)

  pub one_world : (es : List (Event C)) (w u v : World S P O) → Leads m w es u → Leads m w es v → u ≡ v
  one_world [] w u v l k = sym l ∙ k
  one_world (e ∷ es) w u v l k = one_world es k.0 u v (subst (λ x. Leads m x es u) (some_is (sym l.1 ∙ k.1)) l.2) k.2

  -- what each event keeps, each run keeps
  pub kept : (Q : World S P O → Type 0) → ((w v : World S P O) (e : Event C) → Happened m w e v → Q w → Q v) → (es : List (Event C)) (w v : World S P O) → Leads m w es v → Q w → Q v
  kept Q each [] w v l q = subst Q l q
  kept Q each (e ∷ es) w v l q = kept Q each es l.0 v l.2 (each w l.0 e (happened m w l.0 e l.1) q)

  pub tells : (es : List (Event C)) (w v : World S P O) → Leads m w es v → (more : List (ℕ × O)) × (v.reported ≡ w.reported ++ more) × (map (λ t. t.0) more ≡ map node_of es)
  tells [] w v l = ([], ap (λ (x : World S P O). x.reported) (sym l) ∙ sym (append-nil w.reported), refl)
  tells (e ∷ es) w v l =
      let h = happened m w l.0 e l.1 in
      let rest = tells es l.0 v l.2 in (
        (node_of e, h.turn.reported) ∷ rest.0,
        rest.1 ∙ ap (λ xs. xs ++ rest.0) ((changes m w l.0 e h).reported) ∙ append_assoc w.reported ((node_of e, h.turn.reported) ∷ []) rest.0,
        ap (λ xs. node_of e ∷ xs) rest.2,
      )

  pub leads_ran : (es : List (Event C)) (w : World S P O) → Leads m w (ran m w es) (run m w es)
  leads_ran [] w = refl
  leads_ran (e ∷ es) w = go (happens m w e) refl (leads_ran es)
    where
      go : (r : Option (World S P O)) → happens m w e ≡ r → ((u : World S P O) → Leads m u (ran m u es) (run m u es))
          → Leads m w (put_if_some r e (ran m (unwrap_or r w) es)) (run m (unwrap_or r w) es)
      go None is again = again w
      go (Some u) is again = (u, is, again u)

  pub ran_all : (es : List (Event C)) (w v : World S P O) → Leads m w es v → ran m w es ≡ es
  ran_all [] w v l = refl
  ran_all (e ∷ es) w v l =
      ap (λ r. put_if_some r e (ran m (unwrap_or r w) es)) l.1 ∙ ap (λ xs. e ∷ xs) (ran_all es l.0 v l.2)

  pub run_there : (es : List (Event C)) (w v : World S P O) → Leads m w es v → run m w es ≡ v
  run_there [] w v l = l
  run_there (e ∷ es) w v l = ap (λ r. run m (unwrap_or r w) es) l.1 ∙ run_there es l.0 v l.2

  pub run_append : (es fs : List (Event C)) (w : World S P O) → run m w (es ++ fs) ≡ run m (run m w es) fs
  run_append [] fs w = refl
  run_append (e ∷ es) fs w = run_append es fs (after m w e)

  pub ran_append : (es fs : List (Event C)) (w : World S P O) → ran m w (es ++ fs) ≡ ran m w es ++ ran m (run m w es) fs
  ran_append [] fs w = refl
  ran_append (e ∷ es) fs w =
      ap (put_if_some (happens m w e) e) (ran_append es fs (after m w e)) ∙ put_first (happens m w e) (ran m (after m w e) es)
    where
      put_first : (r : Option (World S P O)) (xs : List (Event C)) → put_if_some r e (xs ++ ran m (run m (after m w e) es) fs) ≡ put_if_some r e xs ++ ran m (run m (after m w e) es) fs
      put_first None xs = refl
      put_first (Some v) xs = refl

  -- a node of which no event is keeps its state
  pub untouched : (j : ℕ) (es : List (Event C)) (w v : World S P O) → Leads m w es v → events_of j es ≡ [] → v.node j ≡ w.node j
  untouched j [] w v l none = ap (λ (x : World S P O). x.node j) (sym l)
  untouched j (e ∷ es) w v l none = go (nat_eq (node_of e) j) refl none (untouched j es l.0 v l.2)
    where
      go : (b : Bool) → nat_eq (node_of e) j ≡ b → cond b (e ∷ events_of j es) (events_of j es) ≡ [] → (events_of j es ≡ [] → v.node j ≡ (l.0).node j) → v.node j ≡ w.node j
      go true is none again = absurd (cc)
      go false is none again =
          let h = happened m w l.0 e l.1 in
          again none ∙ (changes m w l.0 e h).states j (λ same. eqb-false (node_of e) j is (sym same))

-- what is told by one node, and the events of one node, of two lists in turn
pub told_by_append : {O : Type 0} (i : ℕ) (ts us : List (ℕ × O)) → reported_by i (ts ++ us) ≡ reported_by i ts ++ reported_by i us
told_by_append i [] us = refl
told_by_append {O} i (t ∷ ts) us = go (nat_eq t.0 i) (reported_by i (ts ++ us)) (reported_by i ts) (told_by_append i ts us)
  where
    go : (b : Bool) (xs ys : List O) → xs ≡ ys ++ reported_by i us → cond b (t.1 ∷ xs) xs ≡ cond b (t.1 ∷ ys) ys ++ reported_by i us
    go true xs ys same = ap (λ all. t.1 ∷ all) same
    go false xs ys same = same

-- as many things are told by a node as there are events of it
told_each : {C O : Type 0} (i : ℕ) (ts : List (ℕ × O)) (es : List (Event C)) → map (λ t. t.0) ts ≡ map node_of es → length (reported_by i ts) ≡ length (events_of i es)
told_each i [] [] same = refl
told_each i [] (e ∷ es) same = absurd (cc)
told_each i (t ∷ ts) [] same = absurd (cc)
told_each {C} {O} i (t ∷ ts) (e ∷ es) same =
    let whose : t.0 ≡ node_of e = cc in
    let rest : map (λ t. t.0) ts ≡ map node_of es = cc in
    go (nat_eq t.0 i) (nat_eq (node_of e) i) (ap (λ j. nat_eq j i) whose) (told_each i ts es rest)
  where
    go : (a b : Bool) → a ≡ b → length (reported_by i ts) ≡ length (events_of i es)
        → length (cond a (t.1 ∷ reported_by i ts) (reported_by i ts)) ≡ length (cond b (e ∷ events_of i es) (events_of i es))
    go true true same n = ap suc n
    go false false same n = n
    go true false same n = absurd (cc)
    go false true same n = absurd (cc)

pub tells_by : {S P C O : Type 0} (m : Machine S P C O) (i : ℕ) (es : List (Event C)) (w v : World S P O) → Leads m w es v
    → (more : List O) × (reported_by i v.reported ≡ reported_by i w.reported ++ more) × (length more ≡ length (events_of i es))
tells_by m i es w v l =
    let all = tells m es w v l in
    (reported_by i all.0, ap (reported_by i) all.1 ∙ told_by_append i w.reported all.0, told_each i all.0 es all.2)
