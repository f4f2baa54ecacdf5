-- As long as a node that is not lost is not formed no update has begun, whoever is lost.
use Rattle.std.proofs.Common.{◌≡◌, ◌≢◌, ◌⊎◌, inl, inr, ℕ, zero, suc, Bool, true, false, cond, List}
use Rattle.std.proofs.Common.{[], ◌∷◌, ◌++◌, Option, Some, None, refl, ap, sym, ◌∙◌, subst, arith}
use Rattle.std.specs.List.{IsDistinct}
use Rattle.std.proofs.lemmas.Bool.{ne_eqb}
use Rattle.pg_term.specs.declared.term.Term.{Term}
use Rattle.pg_term.specs.Same.{same_atom}
use Rattle.pg_laws.specs.PgGroup.declared.update.Update.{Update}
use Rattle.pg_laws.specs.PgGroup.Value.{name_of}
use Rattle.pg_laws.specs.PgRefs.Numbered.{numbered}
use Rattle.pg_laws.specs.PgLock.Locks.{is_holder}
use Rattle.pg_laws.specs.PgMessageTypes.declared.message.Message.{Message}
use Rattle.pg_laws.specs.PgStep.Machines.Happened.{Happened}
use Rattle.pg_laws.specs.PgStep.Machines.Losing.{LosingEvent, Noticed, nobody_gone}
use Rattle.pg_laws.specs.PgStep.Machines.Machine.{Event, World, node_of, start_of}
use Rattle.pg_laws.proofs.PgStep.Machines.Places.{by_place}
use Rattle.pg_laws.proofs.PgStep.Machines.Steps.{changes}
use Rattle.pg_laws.specs.PgStep.declared.command.OpId.{OpId}
use Rattle.pg_laws.specs.PgStep.Config.{Config, name_at, names_of, nodes_at}
use Rattle.pg_laws.specs.PgStep.FrameMachine.{losing_frame_machine, losing_machine_of}
use Rattle.pg_laws.specs.PgStep.LossLaws.{LosingFrameWorld}
use Rattle.pg_laws.specs.PgStep.State.{State, formed}
use Rattle.pg_laws.specs.PgStep.Step.{Action}
use Rattle.pg_laws.specs.PgStep.Turns.{Report}
use Rattle.pg_laws.specs.History.{Entry, answered_count, applied_by, entries, entry_of}
use Rattle.pg_laws.specs.History.{history, of_group, update_by, update_of, updates_of}
use Rattle.pg_laws.specs.WithLosses.{Marked, Thinned, all_entries, left_of}
use Rattle.pg_laws.proofs.places.Shown.{IsHere}
use Rattle.pg_laws.proofs.references.Keys.{terms}
use Rattle.pg_laws.proofs.steps.Grows.{entries_append}
use Rattle.pg_laws.proofs.steps.Lasting.{all_stay}
use Rattle.pg_laws.proofs.steps.Ways.{own_place, told_append}
use Rattle.pg_laws_losses.specs.Reached.{LosingReaches}
use Rattle.pg_laws_losses.specs.Thinned.{AppliesThinned}
use Rattle.pg_laws_losses.proofs.Bridge.{Has, not_true}
use Rattle.pg_laws_losses.proofs.Bridges.{bridged}
use Rattle.pg_laws_losses.proofs.Lasts.{event_stays}
use Rattle.pg_laws_losses.proofs.Lossy.{bare, Passed, Went, Died, passed, makes}
use Rattle.pg_laws_losses.proofs.Remains.Passing.{EachKeeps, Leaves, kept_all, leads_more}
use Rattle.pg_laws_losses.proofs.Remains.Unlocked.{began_formed, waits}

-- ---- lists

none_kept : (marked : Marked) → all_entries marked ≡ [] → left_of marked ≡ []
none_kept [] e = refl
none_kept (m ∷ ms) e = absurd (cc)

none_thinned : (thin before : List Entry) (among : ℕ → Bool) → Thinned thin before among → before ≡ [] → thin ≡ []
none_thinned thin before among t none = sym t.stay ∙ none_kept t.marked (t.all ∙ none)

none_before : (before : List Entry) (e : Entry) → before ++ e ∷ [] ≡ [] → ⊥
none_before [] e is = absurd (cc)
none_before (x ∷ before) e is = absurd (cc)

some_updates : (kept later : List Entry) (e : Entry) → updates_of (kept ++ e ∷ later) ≡ [] → ⊥
some_updates [] later e is = absurd (cc)
some_updates (x ∷ kept) later e is = absurd (cc)

-- who has applied of a group without a history has applied nothing
pub applies_none : (config : Config) (w : LosingFrameWorld) (i : ℕ) (name : Term) → AppliesThinned config w i name → history name w.world.reported ≡ [] → applied_by i name w.world.reported ≡ []
applies_none config w i name a none = sym a.applied ∙ ap updates_of (none_thinned a.thin a.before _ a.thinned (go a.whole))
  where
    go : (a.before ≡ history name w.world.reported) ⊎ ((last : Entry) × (a.before ++ last ∷ [] ≡ history name w.world.reported)) → a.before ≡ []
    go (inl whole) = whole ∙ none
    go (inr (last, whole)) = absurd (none_before a.before last (whole ∙ none))

-- ---- an event

module _ (law : EachKeeps) (config : Config) (apart : IsDistinct same_atom (names_of config)) where
  abbrev Nothing : List (LosingEvent Action) → LosingFrameWorld → Type 0
  Nothing es w = (j : ℕ) → IsHere config j → w.gone j ≡ false → formed (nodes_at config j) (w.world.node j).state ≡ false → entries w.world.reported ≡ []

  module _ (done : List (LosingEvent Action)) (w v : LosingFrameWorld) (e : LosingEvent Action) (l : LosingReaches config done w) (h : Leaves config w e v) (old : Nothing done w)
      (j : ℕ) (here : IsHere config j) (alive : v.gone j ≡ false) (unformed : formed (nodes_at config j) (v.world.node j).state ≡ false) where
    reach : LosingReaches config (done ++ e ∷ []) v
    reach = leads_more config done (nobody_gone (start_of (losing_frame_machine config))) w v e l h

    unformed_before : formed (nodes_at config j) (w.world.node j).state ≡ false
    unformed_before = not_true (formed (nodes_at config j) (w.world.node j).state) (λ full.
        let after : formed (nodes_at config j) (v.world.node j).state ≡ true = all_stay (w.world.node j).state.merged (v.world.node j).state.merged (nodes_at config j).peers ((event_stays config (bare w) (bare v) e (passed config w v e h) j).merged) full in
        absurd (cc (sym unformed ∙ after)))

    -- an update begins
    module _ (d : Event Action) (lives : w.gone (node_of d) ≡ false) (hap : Happened (losing_machine_of config) (bare w).world d (bare v).world) (same : v.gone ≡ w.gone)
        (none : entries w.world.reported ≡ []) (op : OpId) (u : Update) (some : hap.turn.reported.began ≡ Some (op, u)) where
      abbrev x : ℕ
      x = node_of d

      abbrev entry : Entry
      entry = record { node = node_of d; op = op; update = u }

      abbrev name : Term
      name = name_of u

      reported : v.world.reported ≡ w.world.reported ++ (node_of d, hap.turn.reported) ∷ []
      reported = (changes (losing_machine_of config) (bare w).world (bare v).world d hap).reported

      entries_are : entries v.world.reported ≡ entry ∷ []
      entries_are = ap entries reported ∙ (entries_append w.world.reported ((node_of d, hap.turn.reported) ∷ [])
          ∙ ((λ k. none k ++ (entry_of (node_of d) (some k) ++ []))))

      history_is : history name v.world.reported ≡ entry ∷ []
      history_is = ap (of_group name) entries_are ∙ ap (λ b. cond b (entry ∷ []) []) (terms.refl name)

      -- not by the node itself, which is formed then
      not_own : x ≢ j
      not_own own =
          let full = began_formed config (node_of d) ((bare w).world.node (node_of d)) (waits config done w l (node_of d)) hap.input hap.turn
          (makes config (node_of d) ((bare w).world.node (node_of d)) hap.input hap.turn hap.made) op u some in
          let no : formed (nodes_at config (node_of d)) (w.world.node (node_of d)).state ≡ false = subst (λ z. formed (nodes_at config z) (w.world.node z).state ≡ false) (sym own) unformed_before in
          absurd (cc (sym full ∙ no))

      -- the node has applied nothing, before the event and behind it
      applied_before : applied_by j name w.world.reported ≡ []
      applied_before = applies_none config w j name ((law config w done apart l).applies j name here (ap (λ (f : ℕ → Bool). f j) (sym same) ∙ alive)) (ap (of_group name) none)

      applied_after : applied_by j name v.world.reported ≡ []
      applied_after = ap (applied_by j name) reported ∙ (told_append (update_by j name) w.world.reported ((node_of d, hap.turn.reported) ∷ [])
          ∙ (λ k. applied_before k ++ (cond (ne_eqb (node_of d) j not_own k) (update_of name hap.turn.reported.applied) [] ++ [])))

      -- the update is not answered, or the node has applied it
      by_answer : (n : ℕ) → answered_count (node_of d) op v.world.reported ≡ n → ⊥
      by_answer (suc n) is =
          let a = (law config v (done ++ e ∷ []) apart reach).applies j name here alive in
          let stays = a.answered entry [] [] history_is (omega (arith, is)) in
          some_updates stays.0 stays.1 entry (sym (ap updates_of stays.2) ∙ (a.applied ∙ applied_after))
      by_answer zero is =
          let has : Has config apart (bare v) = (bridged config apart (done ++ e ∷ []) v reach).has in
          let there : IsHere config (node_of d) = own_place (losing_machine_of config) (bare w).world (bare v).world d hap in
          let unseen : (v.world.node (node_of d)).state.lost (name_at config j) ≡ false = not_true _ (λ seen.
          let gone : v.gone j ≡ true = has.gone (name_at config (node_of d)) j here (has.sees (node_of d) (name_at config j) there ∙ seen) in absurd (cc (sym alive ∙ gone))) in
          let last = (law config v (done ++ e ∷ []) apart reach).unanswered name [] [] entry history_is is (ap (λ (f : ℕ → Bool). f (node_of d)) same ∙ lives) in
          let held : is_holder ((v.world.node j).state.locks name) (numbered (name_at config (node_of d)) last.granted.0) ≡ true = last.granted.1 j here unseen in
          let free : (v.world.node j).state.locks name ≡ None = (waits config (done ++ e ∷ []) v reach j).unlocked unformed name in
          absurd (cc (sym (ap (λ o. is_holder o (numbered (name_at config (node_of d)) last.granted.0)) free) ∙ held))

      never : ⊥
      never = by_answer (answered_count (node_of d) op v.world.reported) refl

    by : Passed config (bare w) (bare v) e → entries v.world.reported ≡ []
    by (Died i keep is there lives cut gone) =
        ap (λ (z : World State (Noticed Message) Report). entries z.reported) cut
        ∙ old j here (by_place w.gone i true (λ b. b ≡ false → w.gone j ≡ false) j (λ _ e. absurd (cc)) (λ _ e. e) (ap (λ (f : ℕ → Bool). f j) (sym gone) ∙ alive)) unformed_before
    by (Went d is lives hap same) = go hap.turn.reported.began refl
      where
        none : entries w.world.reported ≡ []
        none = old j here (ap (λ (f : ℕ → Bool). f j) (sym same) ∙ alive) unformed_before

        go : (o : Option (OpId × Update)) → hap.turn.reported.began ≡ o → entries v.world.reported ≡ []
        go (Some (op, u)) some = absurd (never d lives hap same none op u some)
        go None nothing = ap entries ((changes (losing_machine_of config) (bare w).world (bare v).world d hap).reported)
            ∙ (entries_append w.world.reported ((node_of d, hap.turn.reported) ∷ []) ∙ (λ k. none k ++ (entry_of (node_of d) (nothing k) ++ [])))

    nothing_after : entries v.world.reported ≡ []
    nothing_after = by (passed config w v e h)

  -- ---- runs

  pub nothing_yet : (es : List (LosingEvent Action)) (w : LosingFrameWorld) → LosingReaches config es w → (j : ℕ) → IsHere config j → w.gone j ≡ false
      → formed (nodes_at config j) (w.world.node j).state ≡ false → entries w.world.reported ≡ []
  nothing_yet es w l = kept_all config Nothing (λ done u v e r h old j here alive unformed. nothing_after done u v e r h old j here alive unformed) es w l (λ j here alive unformed. refl)

  -- so it has applied nothing
  pub applied_nothing : (es : List (LosingEvent Action)) (w : LosingFrameWorld) → LosingReaches config es w → (j : ℕ) (name : Term) → IsHere config j → w.gone j ≡ false
      → formed (nodes_at config j) (w.world.node j).state ≡ false → applied_by j name w.world.reported ≡ []
  applied_nothing es w l j name here alive unformed =
      applies_none config w j name ((law config w es apart l).applies j name here alive) (ap (of_group name) (nothing_yet es w l j here alive unformed))
