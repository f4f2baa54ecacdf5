-- Entries that are not answered yet, and the updates of them that go out.
use Rattle.std.proofs.Common.{◌≡◌, ℕ, Bool, true, false, cond, List, [], ◌∷◌, ◌++◌, None}
use Rattle.std.proofs.Common.{nat_eq, refl, ap, sym, ◌∙◌, subst, inl, inr, ◌⊎◌, append-nil}
use Rattle.pg_term.specs.declared.term.Term.{Term}
use Rattle.pg_term.specs.Same.{same_term}
use Rattle.pg_step.specs.PgGroup.declared.update.Update.{Update}
use Rattle.pg_step.specs.PgGroup.Functions.{upd}
use Rattle.pg_step.specs.PgGroup.Value.{name_of}
use Rattle.pg_step.specs.declared.command.OpId.{OpId}
use Rattle.pg_step.specs.Nodes.{Node}
use Rattle.pg_step.specs.State.{Use}
use Rattle.pg_step.specs.State.Use.{Fresh, Spent, Locking, Owning, Updating}
use Rattle.pg_step.specs.Turns.{NodeTurn}
use Rattle.pg_laws.proofs.references.Keys.{terms, numbers, at_read}
use Rattle.pg_laws.proofs.locks.Named.{World, Entry, perform, answer_of, of_name}
use Rattle.pg_laws.specs.Exclusive.{IsUpdateOf}
use Rattle.pg_laws.proofs.locks.Kept.{IsUpdating, GoesOut, Latest, answers_of}
use Rattle.pg_laws.proofs.locks.Telling.{history_same, use_read}

-- ---- lists

-- a list with one more at its end is parted at the end, or before it
pub parted : {X : Type 0} (old : List X) (x : X) (before after : List X) (e : X) → old ++ x ∷ [] ≡ before ++ e ∷ after
    → ((after ≡ []) × (e ≡ x)) ⊎ ((more : List X) × (old ≡ before ++ e ∷ more))
parted [] x [] after e q = inl (cc, cc)
parted [] x (b ∷ []) after e q = absurd (cc)
parted [] x (b ∷ d ∷ before) after e q = absurd (cc)
parted (o ∷ old) x [] after e q = inr (old, cc)
parted (o ∷ old) x (b ∷ before) after e q =
    let head : o ≡ b = cc in
    let tail : old ++ x ∷ [] ≡ before ++ e ∷ after = cc in
    elim (parted old x before after e tail) [
      | inl y ↦ inl y
      | inr y ↦ inr (y.0, (λ i. head i ∷ y.1 i))
    ]

-- each entry of a name has it
pub entry_name : (N : Term) (es before after : List Entry) (e : Entry) → of_name N es ≡ before ++ e ∷ after → name_of e.update ≡ N
entry_name N [] [] after e q = absurd (cc)
entry_name N [] (b ∷ before) after e q = absurd (cc)
entry_name N (x ∷ es) before after e q = go (λ before q. entry_name N es before after e q) (same_term N (name_of x.update)) refl before q
  where
    go : ((before : List Entry) → of_name N es ≡ before ++ e ∷ after → name_of e.update ≡ N)
        → (b : Bool) → same_term N (name_of x.update) ≡ b → (before : List Entry) → cond b (x ∷ of_name N es) (of_name N es) ≡ before ++ e ∷ after → name_of e.update ≡ N
    go further false is before q = further before q
    go further true is [] q =
        let head : x ≡ e = cc in
        ap (λ (z : Entry). name_of z.update) (sym head) ∙ sym (terms.is N (name_of x.update) is)
    go further true is (b ∷ before) q = further before (cc)

-- ---- uses

-- the update of a command is one of its name
pub updating_of : (N : Term) (op : OpId) (u : Update) (x : Use) → name_of u ≡ N → IsUpdating op u x → IsUpdateOf N x
updating_of N op u (Updating o v c rep) name h = ap name_of h.1 ∙ name
updating_of N op u Fresh name h = absurd h
updating_of N op u Spent name h = absurd h
updating_of N op u (Locking o v lead st) name h = absurd h
updating_of N op u (Owning M n) name h = absurd h

-- one use that becomes another
pub goes_upd : (op : OpId) (u : Update) (f : ℕ → Use) (k : ℕ) (v : Use) → (IsUpdating op u (f k) → IsUpdating op u v) → (n : ℕ) → IsUpdating op u (f n) → IsUpdating op u (upd nat_eq f k v n)
goes_upd op u f k v g n h = at_read nat_eq numbers (IsUpdating op u) f k v n (λ e. g (subst (λ x. IsUpdating op u (f x)) e h)) (λ m. h)

-- ---- turns

-- each update of node a goes on behind its turn
abbrev pub GoesOn : World → Node → NodeTurn → Type 0
GoesOn w a t = (op : OpId) (u : Update) (k : ℕ) → IsUpdating op u ((w.node a).uses k) → IsUpdating op u (t.state.uses k)

pub still_out : (w : World) (a : Node) (t : NodeTurn) → GoesOn w a t → (e : Entry) → GoesOut w.nodes w.seen w.node e → GoesOut w.nodes w.seen (perform w a t).node e
still_out w a t on e d = record {
  there = d.there;
  number = d.number;
  update = use_read w a t.state (λ i x. IsUpdating e.op e.update ((w.node i).uses d.number) → IsUpdating e.op e.update x) d.number (on e.op e.update d.number) (λ i n h. h) e.node d.update;
}

pub answered_same : (w : World) (a : Node) (t : NodeTurn) → t.reported.answered ≡ None → (perform w a t).answered ≡ w.answered
answered_same w a t none = ap (λ o. w.answered ++ answer_of a o) none ∙ append-nil w.answered

-- a turn that begins and answers nothing, and of which all updates go on
pub latest_same : (w : World) (a : Node) (t : NodeTurn) → t.reported.began ≡ None → t.reported.answered ≡ None → GoesOn w a t → Latest w → Latest (perform w a t)
latest_same w a t began answered on latest N before after e names none unseen =
    let old = latest N before after e (sym (ap (of_name N) (history_same w a t began)) ∙ names) (sym (ap (answers_of e.node e.op) (answered_same w a t answered)) ∙ none) unseen in
    (old.0, still_out w a t on e old.1)
