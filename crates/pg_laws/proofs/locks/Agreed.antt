-- What each node has applied of the history of a name, in a world of which all is held.
use Rattle.std.proofs.Common.{ℕ, Bool, refl, length-append, ◌+◌, ◌<◌, ◌≤◌, suc, length, arith, subst}
use Rattle.std.proofs.Common.{◌≡◌, true, false, List, [], ◌∷◌, ◌++◌, None, ap, sym, ◌∙◌, inl, inr, ◌⊎◌}
use Rattle.std.proofs.lemmas.List.{same_from_push}
use Rattle.pg_term.specs.declared.term.Term.{Term}
use Rattle.pg_step.specs.PgRefs.Numbered.{numbered}
use Rattle.pg_step.specs.PgGroup.declared.update.Update.{Update}
use Rattle.pg_step.specs.PgLock.Locks.{is_holder}
use Rattle.pg_step.specs.Nodes.{Node}
use Rattle.pg_step.specs.declared.command.OpId.{OpId}
use Rattle.pg_step.specs.State.{Use}
use Rattle.pg_step.specs.State.Use.{Updating}
use Rattle.pg_step.specs.State.Stage.{Changing}
use Rattle.pg_laws.proofs.references.Fitting.{is_changing}
use Rattle.pg_laws.proofs.locks.Named.{World, Entry, on, of_name, updates}
use Rattle.pg_laws.proofs.locks.Kept.{IsOpOf, updating, opens, answers_of, GoesOut, Tale, live, near, near_live, Inv}
use Rattle.pg_laws.proofs.locks.Thins.{updates-append, thin_whole}
use Rattle.pg_laws.proofs.locks.Unique.{IsUpdate, update_is, update_holds}
use Rattle.pg_laws.proofs.locks.Latest.{entry_name, updating_of}

-- nobody has seen a loss
abbrev pub NobodySeen : World → Type 0
NobodySeen w = (x y : Node) → w.seen x y ≡ false

-- all, or all but the last
abbrev pub IsAllButOne : List Update → List Update → Type 0
IsAllButOne xs ys = (xs ≡ ys) ⊎ ((u : Update) × (xs ++ u ∷ [] ≡ ys))

-- what each node has applied of the updates of a name, and in which order
pub record Agrees (w : World) : Type 0 where
  -- each node has applied the history of a name, or all of it but the last
  pub begins : (N : Term) (p : Node) → live w p → IsAllButOne (on N (w.log p)) (updates (of_name N w.history))
  -- where one node sees the lock free, all have applied all
  pub free : (N : Term) (p q : Node) → live w p → live w q → (w.node p).locks N ≡ None → on N (w.log q) ≡ updates (of_name N w.history)
  -- where the command of an entry is answered, each node has applied more updates of the name than stand before it
  pub everywhere : (N : Term) (p : Node) (before after : List Entry) (e : Entry) → live w p → of_name N w.history ≡ before ++ e ∷ after → 0 < answers_of e.node e.op w.answered → length before < length (on N (w.log p))
  -- an entry whose command is not answered is the last of its name
  pub one_more : (N : Term) (before after : List Entry) (e : Entry) → of_name N w.history ≡ before ++ e ∷ after → answers_of e.node e.op w.answered ≡ 0 → after ≡ []
  -- and one reference of its node holds the lock of the name at each node
  pub granted : (N : Term) (before after : List Entry) (e : Entry) → of_name N w.history ≡ before ++ e ∷ after → answers_of e.node e.op w.answered ≡ 0
      → (c : ℕ) × ((p : Node) → live w p → is_holder ((w.node p).locks N) (numbered e.node c) ≡ true)

begins_of : (w : World) → NobodySeen w → (N : Term) (p : Node) → Tale w N p → IsAllButOne (on N (w.log p)) (updates (of_name N w.history))
begins_of w nobody N p (inl f) = inl (thin_whole (nobody p) f.thin)
begins_of w nobody N p (inr d) = inr (d.last.update, ap (λ us. us ++ d.last.update ∷ []) (thin_whole (nobody p) d.thin) ∙ (sym (updates-append d.before (d.last ∷ [])) ∙ ap updates (sym d.is)))

free_of : (w : World) → Inv w → NobodySeen w → (N : Term) (p q : Node) → live w p → (w.node p).locks N ≡ None → Tale w N q → on N (w.log q) ≡ updates (of_name N w.history)
free_of w inv nobody N p q lp free (inl f) = thin_whole (nobody q) f.thin
free_of w inv nobody N p q lp free (inr d) =
    let b = update_is N ((w.node d.i).uses d.n) d.update in
    let m : near w d.i p = record { home = d.near_it.home; peer = lp.there; known = nobody p d.i; counts = nobody d.i p } in
    let y : false ≡ true = sym (ap (λ o. is_holder o (numbered d.i b.lock)) free) ∙ update_holds w inv d.i d.n N p m b in
    absurd (cc)

-- the update of an entry that is not answered goes out under a lock that its node holds everywhere
granted_of : (w : World) → Inv w → (N : Term) (before after : List Entry) (e : Entry) → of_name N w.history ≡ before ++ e ∷ after → GoesOut w.nodes w.seen w.node e
    → (c : ℕ) × ((p : Node) → live w p → is_holder ((w.node p).locks N) (numbered e.node c) ≡ true)
granted_of w inv N before after e here d =
    let name = entry_name N w.history before after e here in
    let b = update_is N ((w.node e.node).uses d.number) (updating_of N e.op e.update ((w.node e.node).uses d.number) name d.update) in
    (b.lock, λ p lp. update_holds w inv e.node d.number N p (near_live w e.node p d.there lp) b)

-- ---- lengths

as_many : (es : List Entry) → length (updates es) ≡ length es
as_many [] = refl
as_many (e ∷ es) = ap suc (as_many es)

-- where all but the last is applied, and an entry is not the last
behind : (n : ℕ) (before after es : List Entry) (e d : Entry) → before ++ e ∷ after ≡ es ++ d ∷ [] → (e ≡ d → ⊥) → n ≡ length es → length before < n
behind n before [] es e d q apart len = absurd (apart (same_from_push before es e d q).1)
behind n before (x ∷ after) es e d q apart len =
    let a : length (before ++ e ∷ x ∷ after) ≡ length before + length (e ∷ x ∷ after) = length-append before (e ∷ x ∷ after) in
    let b : length (es ++ d ∷ []) ≡ length es + 1 = length-append es (d ∷ []) in
    let c : length (before ++ e ∷ x ∷ after) ≡ length (es ++ d ∷ []) = ap length q in
    omega (arith, a, b, c, len)

op_is : (x : Use) (o : OpId) → IsOpOf x o → (op : OpId) (u : Update) (c : ℕ) (rep : Node → Bool) → x ≡ Updating op u c rep → op ≡ o
op_is x o (updating p v d q) op u c rep e = cc

module _ (w : World) (inv : Inv w) (nobody : NobodySeen w) where
  everywhere : (N : Term) (p : Node) (before after : List Entry) (e : Entry) → of_name N w.history ≡ before ++ e ∷ after → 0 < answers_of e.node e.op w.answered → Tale w N p
      → length before < length (on N (w.log p))
  everywhere N p before after e here some (inl f) =
      let a : length (on N (w.log p)) ≡ length (of_name N w.history) = ap length (thin_whole (nobody p) f.thin) ∙ as_many (of_name N w.history) in
      let b : length (of_name N w.history) ≡ length before + length (e ∷ after) = ap length here ∙ length-append before (e ∷ after) in
      omega (arith, a, b)
  everywhere N p before after e here some (inr d) =
      behind (length (on N (w.log p))) before after d.before e d.last (sym here ∙ d.is) apart (ap length (thin_whole (nobody p) d.thin) ∙ as_many d.before)
    where
      u : IsUpdate N ((w.node d.i).uses d.n)
      u = update_is N ((w.node d.i).uses d.n) d.update

      changing : (w.node d.last.node).stages d.last.op ≡ Changing d.n
      changing = ap (λ z. (w.node z).stages d.last.op) d.node ∙ (ap (w.node d.i).stages (sym (op_is ((w.node d.i).uses d.n) d.last.op d.command u.op u.update u.lock u.rep u.is))
          ∙ is_changing (inv.fitting d.i) d.n u.op u.update u.lock u.rep u.is)

      apart : e ≡ d.last → ⊥
      apart q =
          let known : opens ((w.node d.last.node).stages d.last.op) + answers_of d.last.node d.last.op w.answered ≤ 1 = inv.once.known d.last.node d.last.op in
          let is : opens ((w.node d.last.node).stages d.last.op) ≡ 1 = ap opens changing in
          let some' : 0 < answers_of d.last.node d.last.op w.answered = subst (λ (z : Entry). 0 < answers_of z.node z.op w.answered) q some in
          omega (arith, known, is, some')

  pub agrees_of : Agrees w
  agrees_of = record {
    begins = λ N p lp. begins_of w nobody N p (inv.tales N p lp);
    free = λ N p q lp lq e. free_of w inv nobody N p q lp e (inv.tales N q lq);
    everywhere = λ N p before after e lp here some. everywhere N p before after e here some (inv.tales N p lp);
    one_more = λ N before after e here none. (inv.latest N before after e here none (λ p. nobody p e.node)).0;
    granted = λ N before after e here none. granted_of w inv N before after e here (inv.latest N before after e here none (λ p. nobody p e.node)).1;
  }
