-- What an event adds to the histories, and to what each node has applied.
use Rattle.std.proofs.Common.{◌≡◌, ℕ, ◌+◌, ◌<◌, Bool, true, false, cond, nat_eq, ◌&&◌, List, [], ◌∷◌}
use Rattle.std.proofs.Common.{◌++◌, Option, Some, None, Ok, refl, ap, sym, ◌∙◌, inl, inr, arith}
use Rattle.std.proofs.lemmas.List.{append-nil}
use Rattle.pg_term.specs.declared.term.Term.{Term}
use Rattle.pg_node_state.specs.PgGroup.declared.update.Update.{Update}
use Rattle.pg_node_state.specs.PgStep.Machines.Machine.{Event}
use Rattle.pg_node_state.specs.PgStep.declared.command.OpId.{OpId}
use Rattle.pg_node_state.specs.PgStep.Config.{Config}
use Rattle.pg_node_state.specs.PgStep.Step.{Action}
use Rattle.pg_node_state.specs.PgStep.Turns.{Report}
use Rattle.pg_laws_losses.specs.PgLaws.History.{Entry, entries, entry_of, history, is_update_of, of_group, applied_count}
use Rattle.pg_laws_losses.specs.PgLaws.WithLosses.{Marked}
use Rattle.pg_laws_losses.specs.Remains.Missed.{applies, marked_after, marks, marks_from}
use Rattle.pg_laws_losses.proofs.PgLaws.steps.Grows.{entries_append, of_group_append}
use Rattle.pg_world_packets.specs.declared.effect.Effect.{Effect}
use Rattle.pg_world_packets.specs.declared.step.Stepped.TheVariants.{Happened}
use Rattle.pg_world_account.specs.Histories.{begun_by, one_of}
use Rattle.pg_world_packets.specs.Views.{View}
use Rattle.pg_world_account.specs.Histories.{Account}
use Rattle.pg_world_packets.specs.Worlds.{TimedFrameWorld, ShowsWorld, ShowsTraffic, ShowsUpdates}
use Rattle.pg_world_packets.proofs.Coming.{CameOf}
use Rattle.pg_world_packets.proofs.Applying.{Applies}

-- The marks behind an event of node i, by which an update that was asked for was applied or another began, of the marks before it.
abbrev pub marked_more : ℕ → ℕ → Term → Option Update → Option (OpId × Update) → Marked → Marked
marked_more i j name asked began marked =
    marked_after (of_group name (entry_of i began)) (nat_eq i j && is_update_of name (begun_by began)) (marked_after [] (nat_eq i j && is_update_of name asked) marked)

-- what an event of node i, by which an update that was asked for was applied or another began, adds to what is reported
pub record Records (w v : TimedFrameWorld) (i : ℕ) (asked : Option Update) (began : Option (OpId × Update)) : Type 0 where
  pub history : (name : Term) → history name v.reported ≡ history name w.reported ++ of_group name (entry_of i began)
  pub applied : (j : ℕ) (name : Term) → applied_count j name v.reported ≡ applied_count j name w.reported + (one_of i j name asked + one_of i j name (begun_by began))
  pub marked : (j : ℕ) (name : Term) → marks j name v.reported ≡ marked_more i j name asked began (marks j name w.reported)

pub none_of : (i j : ℕ) (name : Term) → one_of i j name None ≡ 0
none_of i j name = go (nat_eq i j)
  where
    go : (b : Bool) → ◌≡◌ {A = ℕ} (cond (b && false) 1 0) 0
    go true = refl
    go false = refl

history_more : (name : Term) (i : ℕ) (r : Report) (ts : List (ℕ × Report)) → history name (ts ++ (i, r) ∷ []) ≡ history name ts ++ of_group name (entry_of i r.began)
history_more name i r ts = ap (of_group name) (entries_append ts ((i, r) ∷ []) ∙ ap (λ es. entries ts ++ es) (append-nil (entry_of i r.began)))
    ∙ of_group_append name (entries ts) (entry_of i r.began)

applied_more : (j : ℕ) (name : Term) (i : ℕ) (r : Report) (ts : List (ℕ × Report)) → applied_count j name (ts ++ (i, r) ∷ []) ≡ applied_count j name ts + one_of i j name r.applied
applied_more j name i r [] = omega arith
applied_more j name i r (t ∷ ts) = let more = applied_more j name i r ts in omega (arith, more)

-- what was applied is what was asked for or what began
applied_as : (i j : ℕ) (name : Term) (asked : Option Update) (r : Report) → Applies asked r → one_of i j name r.applied ≡ one_of i j name asked + one_of i j name (begun_by r.began)
applied_as i j name asked r (inl is) =
    let one : one_of i j name r.applied ≡ one_of i j name asked = ap (one_of i j name) is.0 in
    let none : one_of i j name (begun_by r.began) ≡ 0 = ap (λ b. one_of i j name (begun_by b)) is.1 ∙ none_of i j name in
    omega (arith, one, none)
applied_as i j name asked r (inr is) =
    let one : one_of i j name r.applied ≡ one_of i j name (begun_by r.began) = ap (one_of i j name) is.1 in
    let none : one_of i j name asked ≡ 0 = ap (one_of i j name) is.0 ∙ none_of i j name in
    omega (arith, one, none)

marks_more : (j : ℕ) (name : Term) (i : ℕ) (r : Report) (ts : List (ℕ × Report)) (marked : Marked) → marks_from j name marked (ts ++ (i, r) ∷ [])
    ≡ marked_after (of_group name (entry_of i r.began)) (nat_eq i j && is_update_of name r.applied) (marks_from j name marked ts)
marks_more j name i r [] marked = refl
marks_more j name i r (t ∷ ts) marked = marks_more j name i r ts (marked_after (of_group name (entry_of t.0 t.1.began)) (applies j name t) marked)

-- by no update nothing is marked
pub none_marked : (b : Bool) (es : List Entry) (marked : Marked) → marked_after es (b && false) marked ≡ marked_after es false marked
none_marked true es marked = refl
none_marked false es marked = refl

-- what was marked is what was asked for or what began
marked_as : (i j : ℕ) (name : Term) (asked : Option Update) (r : Report) (marked : Marked) → Applies asked r
    → marked_after (of_group name (entry_of i r.began)) (nat_eq i j && is_update_of name r.applied) marked ≡ marked_more i j name asked r.began marked
marked_as i j name asked r marked (inl is) =
    ap (λ b. marked_after (of_group name (entry_of i b)) (nat_eq i j && is_update_of name r.applied) marked) is.1
    ∙ (ap (λ a. marked_after [] (nat_eq i j && is_update_of name a) marked) is.0
    ∙ (sym (none_marked (nat_eq i j) [] (marked_after [] (nat_eq i j && is_update_of name asked) marked)) ∙ sym (ap (λ b. marked_more i j name asked b marked) is.1)))
marked_as i j name asked r marked (inr is) =
    ap (λ a. marked_after (of_group name (entry_of i r.began)) (nat_eq i j && is_update_of name a) marked) is.1
    ∙ sym (ap (marked_after (of_group name (entry_of i r.began)) (nat_eq i j && is_update_of name (begun_by r.began)))
    (ap (λ a. marked_after [] (nat_eq i j && is_update_of name a) marked) is.0 ∙ none_marked (nat_eq i j) [] marked))

-- the world behind a turn with this report
pub records_so : (w v : TimedFrameWorld) (i : ℕ) (asked : Option Update) (r : Report) (began : Option (OpId × Update)) → v.reported ≡ w.reported ++ (i, r) ∷ [] → began ≡ r.began → Applies asked r
    → Records w v i asked began
records_so w v i asked r began is same applies = record {
  history = λ name. ap (history name) is ∙ history_more name i r w.reported ∙ ap (λ b. history name w.reported ++ of_group name (entry_of i b)) (sym same);
  applied = λ j name. ap (applied_count j name) is ∙ applied_more j name i r w.reported
      ∙ ap (λ n. applied_count j name w.reported + n) (applied_as i j name asked r applies ∙ ap (λ b. one_of i j name asked + one_of i j name (begun_by b)) (sym same));
  marked = λ j name. ap (marks j name) is ∙ (marks_more j name i r w.reported [] ∙ (marked_as i j name asked r (marks j name w.reported) applies
      ∙ ap (λ b. marked_more i j name asked b (marks j name w.reported)) (sym same)));
}

-- what is kept of the updates has grown so
pub record Grew (old new : Account) (i : ℕ) (asked : Option Update) (began : Option (OpId × Update)) : Type 0 where
  pub history : (name : Term) → new.histories name ≡ old.histories name ++ of_group name (entry_of i began)
  pub applied : (j : ℕ) (name : Term) → new.applied j name ≡ old.applied j name + (one_of i j name asked + one_of i j name (begun_by began))
  pub marked : (j : ℕ) (name : Term) → j < 16 → new.marked j name ≡ marked_more i j name asked began (old.marked j name)

-- what is kept is what is told behind the event
pub updates_after : (old new : Account) (w v : TimedFrameWorld) (i : ℕ) (asked : Option Update) (began : Option (OpId × Update)) → ShowsUpdates old w → Grew old new i asked began
    → Records w v i asked began → ShowsUpdates new v
updates_after old new w v i asked began shows grew kept = record {
  history = λ name. grew.history name ∙ ap (λ es. es ++ of_group name (entry_of i began)) (shows.history name) ∙ sym (kept.history name);
  applied = λ j name. grew.applied j name ∙ ap (λ n. n + (one_of i j name asked + one_of i j name (begun_by began))) (shows.applied j name) ∙ sym (kept.applied j name);
  marked = λ j name few. grew.marked j name few ∙ (ap (marked_more i j name asked began) (shows.marked j name few) ∙ sym (kept.marked j name));
}

-- the whole is shown
pub shows_all : (config : Config) (old new : View) (w : TimedFrameWorld) (e : Event Action) (i : ℕ) (asked : Option Update) (began : Option (OpId × Update)) (did effect : Effect) → effect ≡ did
    → ShowsWorld config old w → Grew old.account new.account i asked began
    → CameOf config w e (Ok (Happened did)) (λ v. ShowsTraffic config new.traffic v × Records w v i asked began) → CameOf config w e (Ok (Happened effect)) (ShowsWorld config new)
shows_all config old new w e i asked began did effect same shows grew (made, (v, happened, both)) =
    (made ∙ ap Some (sym same), (v, happened, record { traffic = both.0; updates = updates_after old.account new.account w v i asked began shows.updates grew both.1 }))

-- ---- views

-- views are the same where their parts are
pub view_is : (a b : View) → a.traffic ≡ b.traffic → a.account ≡ b.account → a ≡ b
view_is a b traffic account = λ j. record { traffic = traffic j; account = account j }

-- of an event that was asked for no update
pub grew_own : (old new : Account) (i : ℕ) (began b : Option (OpId × Update)) → b ≡ began
    → ((name : Term) → new.histories name ≡ old.histories name ++ of_group name (entry_of i b))
    → ((j : ℕ) (name : Term) → new.applied j name ≡ old.applied j name + one_of i j name (begun_by b))
    → ((j : ℕ) (name : Term) → new.marked j name ≡ marked_after (of_group name (entry_of i b)) (nat_eq i j && is_update_of name (begun_by b)) (old.marked j name)) → Grew old new i None began
grew_own old new i began b same histories applied marked = record {
  history = λ name. histories name ∙ ap (λ x. old.histories name ++ of_group name (entry_of i x)) same;
  applied = λ j name. let more = applied j name in let none = none_of i j name in
      let begun : one_of i j name (begun_by b) ≡ one_of i j name (begun_by began) = ap (λ x. one_of i j name (begun_by x)) same in
      omega (arith, more, none, begun);
  marked = λ j name few. marked j name ∙ (ap (λ x. marked_after (of_group name (entry_of i x)) (nat_eq i j && is_update_of name (begun_by x)) (old.marked j name)) same
      ∙ sym (ap (marked_after (of_group name (entry_of i began)) (nat_eq i j && is_update_of name (begun_by began))) (none_marked (nat_eq i j) [] (old.marked j name))));
}

-- of a packet that was taken, by what is kept before and behind the update that it asks for
pub grew_taken : (old new : Account) (i : ℕ) (asked : Option Update) (began b : Option (OpId × Update)) (ready served : Account) → b ≡ began → ready ≡ old
    → served.histories ≡ ready.histories → ((j : ℕ) (name : Term) → served.applied j name ≡ ready.applied j name + one_of i j name asked)
    → ((j : ℕ) (name : Term) → j < 16 → served.marked j name ≡ marked_after [] (nat_eq i j && is_update_of name asked) (ready.marked j name))
    → ((name : Term) → new.histories name ≡ served.histories name ++ of_group name (entry_of i b))
    → ((j : ℕ) (name : Term) → new.applied j name ≡ served.applied j name + one_of i j name (begun_by b))
    → ((j : ℕ) (name : Term) → new.marked j name ≡ marked_after (of_group name (entry_of i b)) (nat_eq i j && is_update_of name (begun_by b)) (served.marked j name)) → Grew old new i asked began
grew_taken old new i asked began b ready served same start asked_histories asked_applied asked_marked histories applied marked = record {
  history = λ name. histories name ∙ ((λ j. (asked_histories ∙ ap (λ (a : Account). a.histories) start) j name ++ of_group name (entry_of i (same j))));
  applied = λ j name. let last = applied j name in let asks = asked_applied j name in
      let before : ready.applied j name ≡ old.applied j name = ap (λ (a : Account). a.applied j name) start in
      let begun : one_of i j name (begun_by b) ≡ one_of i j name (begun_by began) = ap (λ x. one_of i j name (begun_by x)) same in
      omega (arith, last, asks, before, begun);
  marked = λ j name few. marked j name ∙ (ap (λ x. marked_after (of_group name (entry_of i x)) (nat_eq i j && is_update_of name (begun_by x)) (served.marked j name)) same
      ∙ ap (marked_after (of_group name (entry_of i began)) (nat_eq i j && is_update_of name (begun_by began)))
      (asked_marked j name few ∙ ap (λ (a : Account). marked_after [] (nat_eq i j && is_update_of name asked) (a.marked j name)) start));
}
