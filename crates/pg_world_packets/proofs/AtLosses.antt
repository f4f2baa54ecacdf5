-- Whether every node was formed when the first was lost, behind one more event.
use Rattle.std.proofs.Common.{◌≡◌, ◌↔◌, ◌⊎◌, ℕ, Bool, true, false, cond, length, List, [], ◌∷◌}
use Rattle.std.proofs.Common.{◌++◌, Some, None, inl, inr, refl, sym, ap, ◌∙◌, subst, append-nil}
use Rattle.std.proofs.Common.{append_assoc}
use Rattle.std.specs.Prelude.{option_map}
use Rattle.pg_node_state.specs.PgStep.Machines.Losing.{LosingEvent, Step, Lose, LosingLeads, losing_happens, nobody_gone, stopped}
use Rattle.pg_node_state.specs.PgStep.Machines.Machine.{Event, node_of, happens, start_of}
use Rattle.pg_node_state.specs.PgStep.Machines.Places.{is_place, set_at}
use Rattle.pg_node_state.proofs.PgStep.Machines.Options.{map_is_some, some_is}
use Rattle.pg_node_state.proofs.PgStep.Machines.Places.{set_at_here}
use Rattle.pg_node_state.specs.PgStep.Config.{Config, nodes_at}
use Rattle.pg_node_state.specs.PgStep.FrameMachine.{losing_frame_machine, last_notice}
use Rattle.pg_node_state.specs.PgStep.LossLaws.{LosingFrameWorld}
use Rattle.pg_node_state.specs.PgStep.State.{formed}
use Rattle.pg_node_state.specs.PgStep.Step.{Action}
use Rattle.pg_laws_losses.specs.PgLaws.WithLosses.{FormedAtLosses}
use Rattle.pg_laws_losses.specs.Reached.{LosingReaches}
use Rattle.pg_laws_losses.proofs.Lasts.{formed_later, lost_for_good}

abbrev Events : Type 0
Events = List (LosingEvent Action)

-- ---- lists that end with one

first_or : {A : Type 0} → A → List A → A
first_or none [] = none
first_or none (x ∷ xs) = x

others : {A : Type 0} → List A → List A
others [] = []
others (x ∷ xs) = xs

is_there : {A : Type 0} → List A → Bool
is_there [] = false
is_there (x ∷ xs) = true

there_behind : {A : Type 0} (xs : List A) (y : A) (ys : List A) → is_there (xs ++ y ∷ ys) ≡ true
unfolding is_there
there_behind [] y ys = refl
there_behind (x ∷ xs) y ys = refl

-- where these end with one, that is the last of those, or it stands before the last
parted : {A : Type 0} (es : List A) (e : A) (before : List A) (x : A) (after : List A) → es ++ e ∷ [] ≡ before ++ x ∷ after
    → ((before ≡ es) × (x ≡ e)) ⊎ ((rest : List A) × (es ≡ before ++ x ∷ rest))
unfolding first_or others is_there
parted [] e [] x after same = inl (refl, sym (ap (first_or e) same))
parted [] e (b ∷ bs) x after same =
    let none : false ≡ true = ap (λ xs. is_there (others xs)) same ∙ there_behind bs x after in absurd (cc)
parted (y ∷ ys) e [] x after same = inr (ys, λ i. ap (first_or e) same i ∷ ys)
parted (y ∷ ys) e (b ∷ bs) x after same = go (parted ys e bs x after (ap others same))
  where
    head : y ≡ b
    head = ap (first_or e) same

    go : ((bs ≡ ys) × (x ≡ e)) ⊎ ((rest : List _) × (ys ≡ bs ++ x ∷ rest)) → ((b ∷ bs ≡ y ∷ ys) × (x ≡ e)) ⊎ ((rest : List _) × (y ∷ ys ≡ b ∷ bs ++ x ∷ rest))
    go (inl h) = inl ((λ i. sym head i ∷ h.0 i), h.1)
    go (inr h) = inr (h.0, λ i. head i ∷ h.1 i)

-- ---- losses

-- who is lost is gone
gone_here : (b : Bool) (left v : LosingFrameWorld) (i : ℕ) → left.gone i ≡ true → cond b (Some left) None ≡ Some v → v.gone i ≡ true
gone_here true left v i gone e = sym (ap (λ (x : LosingFrameWorld). x.gone i) (some_is e)) ∙ gone
gone_here false left v i gone e = absurd (cc)

pub lost_here : (config : Config) (u v : LosingFrameWorld) (i : ℕ) (keep : ℕ → ℕ) → losing_happens (losing_frame_machine config) last_notice u (Lose i keep) ≡ Some v → v.gone i ≡ true
unfolding losing_happens
lost_here config u v i keep happened =
    gone_here _ (record { world = stopped (length config) last_notice u.world i keep; gone = set_at u.gone i true }) v i (set_at_here u.gone i true i refl) happened

-- ---- worlds that events lead to

module _ (config : Config) where
  abbrev Leads : LosingFrameWorld → Events → LosingFrameWorld → Type 0
  Leads = LosingLeads (losing_frame_machine config) last_notice

  abbrev start : LosingFrameWorld
  start = nobody_gone (start_of (losing_frame_machine config))

  -- to one world
  leads_once : (es : Events) (w u v : LosingFrameWorld) → Leads w es u → Leads w es v → u ≡ v
  leads_once [] w u v one other = sym one ∙ other
  leads_once (e ∷ es) w u v one other =
      leads_once es one.0 u v one.2 (subst (λ (x : LosingFrameWorld). Leads x es v) (some_is (sym other.1 ∙ one.1)) other.2)

  -- the world on the way
  leads_parted : (es fs : Events) (w v : LosingFrameWorld) → Leads w (es ++ fs) v → (u : LosingFrameWorld) × Leads w es u × Leads u fs v
  leads_parted [] fs w v led = (w, refl, led)
  leads_parted (e ∷ es) fs w v led = let rest = leads_parted es fs led.0 v led.2 in (rest.0, (led.0, led.1, rest.1), rest.2)

  -- by a step nobody is lost
  step_gone : (e : Event Action) (u v : LosingFrameWorld) → losing_happens (losing_frame_machine config) last_notice u (Step e) ≡ Some v → v.gone ≡ u.gone
  unfolding losing_happens
  step_gone e u v happened = go (u.gone (node_of e)) happened
    where
      go : (b : Bool) → cond b None (option_map (λ w. record { world = w; gone = u.gone }) (happens (losing_frame_machine config) u.world e)) ≡ Some v → v.gone ≡ u.gone
      go true h = absurd (cc)
      go false h = let made = map_is_some _ _ v h in sym (ap (λ (x : LosingFrameWorld). x.gone) made.2)

  -- where a node is gone that was there, one was lost on the way
  pub record LostOnTheWay (w : LosingFrameWorld) (es : Events) : Type 0 where
    pub before : Events
    pub node : ℕ
    pub keep : ℕ → ℕ
    pub after : Events
    pub is : es ≡ before ++ Lose node keep ∷ after
    pub u : LosingFrameWorld
    pub led : Leads w before u

  lost_on_the_way : (es : Events) (w v : LosingFrameWorld) (x : ℕ) → Leads w es v → w.gone x ≡ false → v.gone x ≡ true → LostOnTheWay w es
  lost_on_the_way [] w v x led there gone = let no : true ≡ false = sym gone ∙ (ap (λ (z : LosingFrameWorld). z.gone x) (sym led) ∙ there) in absurd (cc)
  lost_on_the_way (Lose node keep ∷ es) w v x led there gone = record { before = []; node = node; keep = keep; after = es; is = refl; u = w; led = refl }
  lost_on_the_way (Step e ∷ es) w v x led there gone =
      let rest = lost_on_the_way es led.0 v x led.2 (ap (λ f. f x) (step_gone e w led.0 led.1) ∙ there) gone in
      record { before = Step e ∷ rest.before; node = rest.node; keep = rest.keep; after = rest.after; is = ap (λ (xs : Events). Step e ∷ xs) rest.is; u = rest.u; led = (led.0, led.1, rest.led) }

  -- ---- what is told of the losses

  -- each node of the configuration is formed
  abbrev pub AreFormed : LosingFrameWorld → Type 0
  AreFormed u = (i : ℕ) → is_place (length config) i ≡ true → formed (nodes_at config i) (u.world.node i).state ≡ true

  -- What is told behind an event in the world u: as before, or where it is the first loss whether every node is formed.
  abbrev pub ToldBehind : LosingFrameWorld → LosingEvent Action → Bool → Bool → Type 0
  ToldBehind u (Step e) was now = now ≡ was
  ToldBehind u (Lose i keep) was now = (((x : ℕ) → u.gone x ≡ false) × ((now ≡ true) ↔ AreFormed u)) ⊎ ((x : ℕ) × (u.gone x ≡ true) × (now ≡ was))

  module _ (es : Events) (u : LosingFrameWorld) (reached : LosingReaches config es u) where
    -- behind a step all losses are those before it
    step_told : (e : Event Action) → FormedAtLosses config es ↔ FormedAtLosses config (es ++ Step e ∷ [])
    step_told e = (
      λ all before after node keep w i is led place. go before after node keep w i led place (parted es (Step e) before (Lose node keep) after is) all,
      λ all before after node keep w i is led place. all before (after ++ Step e ∷ []) node keep w i (longer before after node keep is) led place,
    )
      where
        go : (before after : Events) (node : ℕ) (keep : ℕ → ℕ) (w : LosingFrameWorld) (i : ℕ) → Leads start before w → is_place (length config) i ≡ true
            → ((before ≡ es) × ◌≡◌ {A = LosingEvent Action} (Lose node keep) (Step e)) ⊎ ((rest : Events) × (es ≡ before ++ Lose node keep ∷ rest)) → FormedAtLosses config es → formed (nodes_at config i) (w.world.node i).state ≡ true
        go before after node keep w i led place (inl h) all = absurd (cc (h.1))
        go before after node keep w i led place (inr h) all = all before h.0 node keep w i h.1 led place

        longer : (before after : Events) (node : ℕ) (keep : ℕ → ℕ) → es ≡ before ++ Lose node keep ∷ after → es ++ Step e ∷ [] ≡ before ++ Lose node keep ∷ (after ++ Step e ∷ [])
        longer before after node keep is = ap (λ xs. xs ++ Step e ∷ []) is ∙ append_assoc before (Lose node keep ∷ after) (Step e ∷ [])

    module _ (i : ℕ) (keep : ℕ → ℕ) where
      -- with one more loss those before it have to be so, and the world where it is
      loss_told : (FormedAtLosses config es × AreFormed u) ↔ FormedAtLosses config (es ++ Lose i keep ∷ [])
      loss_told = (
        λ both before after node kept w j is led place. go before after node kept w j led place (parted es (Lose i keep) before (Lose node kept) after is) both,
        λ all. (
          λ before after node kept w j is led place. all before (after ++ Lose i keep ∷ []) node kept w j (longer before after node kept is) led place,
          λ j place. all es [] i keep u j refl reached place,
        ),
      )
        where
          go : (before after : Events) (node : ℕ) (kept : ℕ → ℕ) (w : LosingFrameWorld) (j : ℕ) → Leads start before w → is_place (length config) j ≡ true
              → ((before ≡ es) × ◌≡◌ {A = LosingEvent Action} (Lose node kept) (Lose i keep)) ⊎ ((rest : Events) × (es ≡ before ++ Lose node kept ∷ rest)) → FormedAtLosses config es × AreFormed u
              → formed (nodes_at config j) (w.world.node j).state ≡ true
          go before after node kept w j led place (inl h) both =
              let same : u ≡ w = leads_once es start u w reached (subst (λ (xs : Events). Leads start xs w) h.0 led) in
              subst (λ (x : LosingFrameWorld). formed (nodes_at config j) (x.world.node j).state ≡ true) same (both.1 j place)
          go before after node kept w j led place (inr h) both = both.0 before h.0 node kept w j h.1 led place

          longer : (before after : Events) (node : ℕ) (kept : ℕ → ℕ) → es ≡ before ++ Lose node kept ∷ after → es ++ Lose i keep ∷ [] ≡ before ++ Lose node kept ∷ (after ++ Lose i keep ∷ [])
          longer before after node kept is = ap (λ xs. xs ++ Lose i keep ∷ []) is ∙ append_assoc before (Lose node kept ∷ after) (Lose i keep ∷ [])

      -- where nobody is gone there was no loss
      none_before : ((x : ℕ) → u.gone x ≡ false) → FormedAtLosses config es
      none_before none before after node kept w j is led place =
          let there = leads_parted before (Lose node kept ∷ after) start u (subst (λ (xs : Events). Leads start xs u) is reached) in
          let lost = there.2 in
          let gone = lost_for_good config lost.0 u after node (lost_here config there.0 lost.0 node kept lost.1) lost.2 in
          let no : true ≡ false = sym gone ∙ none node in absurd (cc)

      -- where one is gone every node is formed that was when it was lost
      formed_since : (x : ℕ) → u.gone x ≡ true → FormedAtLosses config es → AreFormed u
      formed_since x gone all j place =
          let lost = lost_on_the_way es start u x reached refl gone in
          let there = leads_parted lost.before (Lose lost.node lost.keep ∷ lost.after) start u (subst (λ (xs : Events). Leads start xs u) lost.is reached) in
          formed_later config there.0 u (Lose lost.node lost.keep ∷ lost.after) j there.2
          (all lost.before lost.after lost.node lost.keep there.0 j lost.is there.1 place)

    -- what was told of the losses before an event is told of those behind it
    pub told_more : (e : LosingEvent Action) (was now : Bool) → ToldBehind u e was now → ((was ≡ true) ↔ FormedAtLosses config es) → (now ≡ true) ↔ FormedAtLosses config (es ++ e ∷ [])
    told_more (Step e) was now same told = (
      λ is. (step_told e).0 (told.0 (sym same ∙ is)),
      λ all. same ∙ told.1 ((step_told e).1 all),
    )
    told_more (Lose i keep) was now (inl first) told = (
      λ is. (loss_told i keep).0 (none_before i keep first.0, first.1.0 is),
      λ all. first.1.1 ((loss_told i keep).1 all).1,
    )
    told_more (Lose i keep) was now (inr later) told = (
      λ is. let all = told.0 (sym later.2 ∙ is) in (loss_told i keep).0 (all, formed_since i keep later.0 later.1 all),
      λ all. later.2 ∙ told.1 ((loss_told i keep).1 all).0,
    )

  -- before any event
  pub none_told : FormedAtLosses config []
  unfolding is_there
  none_told before after node keep w i is led place = let no : false ≡ true = ap is_there is ∙ there_behind before (Lose node keep) after in absurd (cc)

  pub told_same : (es : Events) (was now : Bool) → now ≡ was → ((was ≡ true) ↔ FormedAtLosses config es) → (now ≡ true) ↔ FormedAtLosses config (es ++ [])
  told_same es was now same told = (
    λ is. subst (FormedAtLosses config) (sym (append-nil es)) (told.0 (sym same ∙ is)),
    λ all. same ∙ told.1 (subst (FormedAtLosses config) (append-nil es) all),
  )
