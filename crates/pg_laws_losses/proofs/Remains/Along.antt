-- What the losses that a node has seen took along.
use Rattle.std.proofs.Common.{◌≡◌, ◌⊎◌, inl, inr, ℕ, ◌+◌, ◌≤◌, Bool, true, false, ◌&&◌, ◌||◌, cond, nat_eq}
use Rattle.std.proofs.Common.{List, [], ◌∷◌, ◌++◌, refl, ap, sym, ◌∙◌, subst, arith, append-nil}
use Rattle.std.specs.List.{AllByRecursion, IsDistinct}
use Rattle.pg_term.specs.declared.term.Term.{Term}
use Rattle.pg_term.specs.Same.{same_atom}
use Rattle.pg_laws.specs.PgGroup.Value.{less}
use Rattle.pg_laws.specs.PgStep.Machines.Losing.{LosingEvent}
use Rattle.pg_laws.specs.PgStep.Config.{Config, name_at, names_of}
use Rattle.pg_laws.specs.PgStep.LossLaws.{LosingFrameWorld}
use Rattle.pg_laws.specs.PgStep.Step.{Action}
use Rattle.pg_laws.specs.History.{Entry, answered_count, known, replay}
use Rattle.pg_laws.specs.WithLosses.{Marked, has_seen, left_of, left_out}
use Rattle.pg_laws.proofs.places.Shown.{IsHere}
use Rattle.pg_laws_losses.specs.Reached.{LosingReaches}
use Rattle.pg_laws_losses.proofs.Lossy.{bare}
use Rattle.pg_laws_losses.proofs.Thinned.{EachOut}
use Rattle.pg_laws_losses.specs.Remains.Heard.{MadeOf}
use Rattle.pg_laws_losses.specs.Remains.Missed.{TakenAlong, count_of, marks, missed_of, others_of}
use Rattle.pg_laws_losses.proofs.Remains.Missing.{AllTaken, Good, LastDue, Marking, Out, left_more, marked_history, marking}

module _ (seen : ℕ → Bool) where
  module _ (F : Entry → Type 0) (out : (e : Entry) → F e → seen e.node ≡ true) where
    -- where each entry that was not applied is of a node whose loss was seen, the others are those that were
    pub others_are : (ms : Marked) → EachOut F ms → others_of seen ms ≡ left_of ms
    others_are [] each = refl
    others_are ((e, true) ∷ ms) each = ap (λ es. e ∷ es) (others_are ms each.1)
    others_are ((e, false) ∷ ms) each = ap (λ b. cond b (others_of seen ms) (e ∷ others_of seen ms)) (out e each.0) ∙ others_are ms each.1

    pub missed_all : (P : Entry → Type 0) → ((e : Entry) → F e → P e) → (ms : Marked) → EachOut F ms → AllByRecursion P (missed_of seen ms)
    missed_all P holds [] each = tt
    missed_all P holds ((e, true) ∷ ms) each = missed_all P holds ms each.1
    missed_all P holds ((e, false) ∷ ms) each = subst (λ b. AllByRecursion P (cond b (e ∷ missed_of seen ms) (missed_of seen ms))) (sym (out e each.0)) (holds e each.0, missed_all P holds ms each.1)

    pub missed_count : (node : ℕ) (ms : Marked) → EachOut F ms → count_of node (missed_of seen ms) ≡ left_out node ms
    missed_count node [] each = refl
    missed_count node ((e, true) ∷ ms) each = missed_count node ms each.1 ∙ never (nat_eq e.node node)
      where
        never : (b : Bool) → left_out node ms ≡ cond {A = ℕ} (b && false) 1 0 + left_out node ms
        never true = omega arith
        never false = omega arith
    missed_count node ((e, false) ∷ ms) each =
        ap (λ b. count_of node (cond b (e ∷ missed_of seen ms) (missed_of seen ms))) (out e each.0)
        ∙ (ap (λ k. cond {A = ℕ} (nat_eq e.node node) 1 0 + k) (missed_count node ms each.1) ∙ always (nat_eq e.node node))
      where
        always : (b : Bool) → cond {A = ℕ} b 1 0 + left_out node ms ≡ cond {A = ℕ} (b && true) 1 0 + left_out node ms
        always true = omega arith
        always false = omega arith

  -- one more, of a node whose loss was not seen
  pub others_more : (ms : Marked) (e : Entry) → seen e.node ≡ false → others_of seen (ms ++ (e, false) ∷ []) ≡ others_of seen ms ++ e ∷ []
  others_more [] e unseen = ap (λ b. cond b [] (e ∷ [])) unseen
  others_more ((m, true) ∷ ms) e unseen = ap (λ es. m ∷ es) (others_more ms e unseen)
  others_more ((m, false) ∷ ms) e unseen = go (seen m.node) (others_more ms e unseen)
    where
      go : (b : Bool) → others_of seen (ms ++ (e, false) ∷ []) ≡ others_of seen ms ++ e ∷ []
          → cond b (others_of seen (ms ++ (e, false) ∷ [])) (m ∷ others_of seen (ms ++ (e, false) ∷ [])) ≡ cond b (others_of seen ms) (m ∷ others_of seen ms) ++ e ∷ []
      go true rest = rest
      go false rest = ap (λ es. m ∷ es) rest

  pub missed_more : (ms : Marked) (e : Entry) → seen e.node ≡ false → missed_of seen (ms ++ (e, false) ∷ []) ≡ missed_of seen ms
  missed_more [] e unseen = ap (λ b. cond b (e ∷ []) []) unseen
  missed_more ((m, true) ∷ ms) e unseen = missed_more ms e unseen
  missed_more ((m, false) ∷ ms) e unseen = ap (λ es. cond (seen m.node) (m ∷ es) es) (missed_more ms e unseen)

module _ (config : Config) (apart : IsDistinct same_atom (names_of config)) (i : ℕ) (here : IsHere config i) (name : Term) (es : List (LosingEvent Action)) (w : LosingFrameWorld)
    (l : LosingReaches config es w) (lives : w.gone i ≡ false) (made : MadeOf config es w i) where
  abbrev seen_by : ℕ → Bool
  seen_by = has_seen config w i

  abbrev all_marks : Marked
  all_marks = marks i name w.world.reported

  -- what is known of the marks
  record Marks : Type 0 where
    others : (left_of all_marks ≡ others_of seen_by all_marks) ⊎ ((last : Entry) × (left_of all_marks ++ last ∷ [] ≡ others_of seen_by all_marks))
    unanswered : AllByRecursion (λ (e : Entry). answered_count e.node e.op w.world.reported ≡ 0) (missed_of seen_by all_marks)
    few : (node : ℕ) → count_of node (missed_of seen_by all_marks) ≤ cond {A = ℕ} (seen_by node) 1 0

  fewer : (ms : Marked) → Good config apart i here name (bare w) ms → (node : ℕ) → count_of node (missed_of seen_by ms) ≤ cond {A = ℕ} (seen_by node) 1 0
  fewer ms g node =
      subst (λ k. k ≤ cond {A = ℕ} (seen_by node) 1 0) (sym (missed_count seen_by (Out config apart i here name (bare w)) (λ e o. o.1) node ms g.each)) (g.few node)

  none_answered : (ms : Marked) → Good config apart i here name (bare w) ms → AllByRecursion (λ (e : Entry). answered_count e.node e.op w.world.reported ≡ 0) (missed_of seen_by ms)
  none_answered ms g = missed_all seen_by (Out config apart i here name (bare w)) (λ e o. o.1) (λ e. answered_count e.node e.op w.world.reported ≡ 0) (λ e o. o.2) ms g.each

  marks_so : AllTaken config apart i here name (bare w) all_marks ⊎ LastDue config apart i here name (bare w) all_marks → Marks
  marks_so (inl t) = record {
    others = inl (sym (others_are seen_by (Out config apart i here name (bare w)) (λ e o. o.1) all_marks t.good.each));
    unanswered = none_answered all_marks t.good;
    few = fewer all_marks t.good;
  }
  marks_so (inr d) = record {
    others = inr (
      d.e,
      ap (λ es. es ++ d.e ∷ []) (ap left_of d.is ∙ (left_more d.front d.e false ∙ append-nil (left_of d.front)))
          ∙ (ap (λ es. es ++ d.e ∷ []) (sym (others_are seen_by (Out config apart i here name (bare w)) (λ e o. o.1) d.front d.good.each))
          ∙ (sym (others_more seen_by d.front d.e d.unseen) ∙ ap (others_of seen_by) (sym d.is))),
    );
    unanswered = subst (AllByRecursion (λ (e : Entry). answered_count e.node e.op w.world.reported ≡ 0)) (sym (ap (missed_of seen_by) d.is ∙ missed_more seen_by d.front d.e d.unseen)) (none_answered d.front d.good);
    few = λ node. subst (λ es. count_of node es ≤ cond {A = ℕ} (seen_by node) 1 0) (sym (ap (missed_of seen_by) d.is ∙ missed_more seen_by d.front d.e d.unseen)) (fewer d.front d.good node);
  }

  pub taken_along : TakenAlong config es w i name
  taken_along =
      let m : Marking config apart i here name (bare w) = marking config apart i here name es w l lives in
      let k : Marks = marks_so m.kept in
      record {
        whole = marked_history i name w.world.reported;
        applied = m.log;
        others = k.others;
        unanswered = k.unanswered;
        few = k.few;
        took = made.took;
        just = made.just;
        table = made.tables name ∙ ap (λ us. less (replay (known (λ q. same_atom (name_at config i) q || made.took q) name config) us) (w.world.node i).state.ended) (sym m.log);
      }
