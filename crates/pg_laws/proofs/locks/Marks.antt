-- A reply is taken and counted.
use Rattle.std.proofs.Common.{◌≡◌, ◌≢◌, ℕ, Bool, true, List, [], ◌∷◌, ◌++◌, refl, ap}
use Rattle.std.proofs.Common.{sym, ◌∙◌, subst, inl, inr, ◌⊎◌, nat_eq, append-nil, arith}
use Rattle.pg_term.specs.declared.term.Term.{Term}
use Rattle.pg_term.specs.RefParts.{RefParts}
use Rattle.pg_term.specs.Same.{same_atom}
use Rattle.pg_step.specs.PgRefs.Numbered.{numbered}
use Rattle.pg_step.specs.PgGroup.declared.update.Update.{Update}
use Rattle.pg_step.specs.PgGroup.Functions.{upd}
use Rattle.pg_step.specs.PgGroup.Value.{name_of}
use Rattle.pg_step.specs.PgLock.Locks.{Locks, is_holder}
use Rattle.pg_step.specs.PgMessageTypes.declared.message.Message.{Message}
use Rattle.pg_step.specs.PgMessageTypes.declared.message.Message.TheVariants.{Reply}
use Rattle.pg_step.specs.PgMessageTypes.declared.message.Said.TheVariants.{Granted, Denied, Applied}
use Rattle.pg_step.specs.declared.command.OpId.{OpId}
use Rattle.pg_step.specs.Nodes.{Node}
use Rattle.pg_step.specs.State.{State, Status, Use}
use Rattle.pg_step.specs.State.Status.{Yes, No}
use Rattle.pg_step.specs.State.Use.{Locking, Updating}
use Rattle.pg_step.specs.Turns.{NodeTurn, becomes}
use Rattle.pg_step.specs.Attempts.{count_answer, count_ok}
use Rattle.pg_laws.proofs.references.Keys.{atoms, numbers, split, upd_same, read_other}
use Rattle.pg_laws.proofs.references.References.{refers, about, about_here, IsOther, numbered_other, numbered_same}
use Rattle.pg_laws.proofs.locks.Lines.{Talk, talk_same, Fits, FitsStatus, FitsReply}
use Rattle.pg_laws.proofs.locks.Moves.{refit, granted_back, denied_back, applied_back}
use Rattle.pg_laws.proofs.locks.Named.{World, perform, popped}
use Rattle.pg_laws.specs.Exclusive.{IsUpdateOf}
use Rattle.pg_laws.proofs.locks.Kept.{says, talk, near, near_swap, Lines, IsOpOf, updating}
use Rattle.pg_laws.proofs.locks.Kept.{IsUpdating, carried, Inv, Mine, Theirs, lines_perform}
use Rattle.pg_laws.proofs.locks.Framed.{read_same, fitting_perform, tidy_perform, once_same}
use Rattle.pg_laws.proofs.locks.Telling.{silent_remains, mute_told, fewer_upd, more_upd, ops_upd}
use Rattle.pg_laws.proofs.locks.Latest.{latest_same, goes_upd}
use Rattle.pg_laws.proofs.references.FittingTurns.{relock, confirmed_keeps}
use Rattle.pg_laws.proofs.locks.Pops.{refers_other, wire_here, wire_to, wire_from}
use Rattle.pg_laws.proofs.locks.Pops.{about_else, pop_apart, pop_tidy, pop_told}

-- a reply is taken: the use of one reference changes
module _ (w : World) (a p : Node) (c : ℕ) (x : Message) (rest : List Message) (how : Use) (inv : Inv w) (meets : near w p a) (is : w.wire p a ≡ x ∷ rest) (of_a : refers (numbered a c) x ≡ true) where
  abbrev v : World
  v = popped w p a rest

  abbrev s : State
  s = w.node a

  abbrev s' : State
  s' = record s { uses = upd nat_eq s.uses c how }

  abbrev r : RefParts
  r = numbered a c

  apart : p ≢ a
  apart = pop_apart w a p x rest inv.tidy is

  else_ : (h : Node) (k : ℕ) → IsOther a c h k → (i q : Node) → about (numbered h k) (v.wire i q) ≡ about (numbered h k) (w.wire i q)
  else_ h k other i q = about_else w a p x rest is (numbered h k) (refers_other r (numbered h k) x (numbered_other a h c k other) of_a) i q

  locks : (q : Node) → (upd same_atom w.node a s' q).locks ≡ (w.node q).locks
  locks = read_same w a s' (λ (n : State). n.locks) refl

  pub mark_lines :
      (says w (s.uses c) p r (about r (w.wire a p)) (x ∷ about r rest) (w.node p).locks → says w how p r (about r (w.wire a p)) (about r rest) (w.node p).locks)
      → ((q : Node) → q ≢ p → near w a q → (l : talk w a c q) → Fits how q l.line)
      → Lines (perform (popped w p a rest) a (becomes (record (w.node a) { uses = upd nat_eq (w.node a).uses c how })))
  mark_lines act fit = lines_perform v a (becomes s') (wire_from w a p x rest a a (λ e. apart (sym e)) ∙ inv.tidy.own a) refl mine theirs others
    where
      goal : ℕ → Node → Type 0
      goal k q = says w (upd nat_eq s.uses c how k) q (numbered a k) (about (numbered a k) (v.wire a q) ++ []) (about (numbered a k) (v.wire q a)) (upd same_atom v.node a s' q).locks

      out : (k : ℕ) (q : Node) → about (numbered a k) (v.wire a q) ++ [] ≡ about (numbered a k) (w.wire a q)
      out k q = append-nil (about (numbered a k) (v.wire a q)) ∙ ap (about (numbered a k)) (wire_from w a p x rest a q (λ e. apart (sym e)))

      eye : (k : ℕ) (q : Node) (M : Term) → is_holder ((upd same_atom v.node a s' q).locks M) (numbered a k) ≡ is_holder ((w.node q).locks M) (numbered a k)
      eye k q M = ap (λ (f : Locks). is_holder (f M) (numbered a k)) (locks q)

      active : goal c p
      active =
          let here : about r (w.wire p a) ≡ x ∷ about r rest = ap (about r) is ∙ about_here r x rest of_a in
          talk_same (act (talk_same (inv.lines a c p (near_swap w p a meets)) refl refl (sym here) (λ M. refl))) (upd_same nat_eq numbers s.uses c how) (out c p) (ap (about r) (wire_here w a p x rest)) (eye c p)

      same : (q : Node) → near w a q → q ≢ p → goal c q
      same q m n = talk_same (refit (inv.lines a c q m) (fit q n m (inv.lines a c q m))) (upd_same nat_eq numbers s.uses c how) (out c q) (ap (about r) (wire_from w a p x rest q a n)) (eye c q)

      mine : Mine v a (becomes s')
      mine k q m = go (split nat_eq numbers c k) (split same_atom atoms q p)
        where
          go : (c ≡ k) ⊎ (c ≢ k) → (q ≡ p) ⊎ (q ≢ p) → goal k q
          go (inl e) (inl y) = subst (λ z. goal z q) e (subst (λ z. goal c z) (sym y) active)
          go (inl e) (inr n) = subst (λ z. goal z q) e (same q m n)
          go (inr n) _ = talk_same (inv.lines a k q m) (read_other nat_eq numbers s.uses c how k (λ e. n (sym e))) (out k q) (else_ a k (inr n) q a) (eye k q)

      theirs : Theirs v a (becomes s')
      theirs i k m n = talk_same (inv.lines i k a m) refl (else_ i k (inl n) i a) (append-nil (about (numbered i k) (v.wire a i)) ∙ else_ i k (inl n) a i) (λ M. refl)

      others : (i : Node) (k : ℕ) (q : Node) → near w i q → a ≢ i → a ≢ q → talk v i k q
      others i k q d n m = talk_same (inv.lines i k q d) refl (ap (about (numbered i k)) (wire_to w a p x rest i q (λ e. m (sym e)))) (ap (about (numbered i k)) (wire_to w a p x rest q i (λ e. n (sym e)))) (λ M. refl)

-- an answer to a request for a lock is counted
pub counted_keeps : (w : World) (a p : Node) (c : ℕ) (op : OpId) (u : Update) (lead : Node) (st : Node → Status) (v : Status) (x : Message) (rest : List Message) → refers (numbered a c) x ≡ true → carried (x ∷ []) ≡ []
    → ((st' : Node → Status) (out back : List Message) (locks : Locks) → st' p ≡ v → Talk (Locking op u lead st) p (numbered a c) out (x ∷ back) locks → Talk (Locking op u lead st') p (numbered a c) out back locks)
    → Inv w → near w p a → w.wire p a ≡ x ∷ rest → (w.node a).uses c ≡ Locking op u lead st
    → Inv (perform (popped w p a rest) a (count_answer c op u lead st p v (w.node a)))
counted_keeps w a p c op u lead st v x rest of_a none move inv meets is use_is = record {
  seats = inv.seats;
  lines = mark_lines w a p c x rest new inv meets is of_a
      (λ l. move (upd same_atom st p v) (about (numbered a c) (w.wire a p)) (about (numbered a c) rest) (w.node p).locks (upd_same same_atom atoms st p v) (talk_same l (sym use_is) refl refl (λ M. refl)))
      (λ q n m l. subst (λ y. FitsStatus (name_of u) y l.line) (sym (read_other same_atom atoms st p v q n)) (subst (λ y. Fits y q l.line) use_is l.fits));
  tidy = tidy_perform w' a t (pop_tidy w a p x rest inv.tidy is) refl (λ h k y n m. refl) (λ y. tt);
  fitting = fitting_perform w' a t inv.fitting (relock s (inv.fitting a) t.state c op u lead st (upd same_atom st p v) use_is refl refl refl refl);
  tales = mute_told w' a t (pop_told w a p x rest inv is none) (record {
    applied = refl;
    began = refl;
    remains = silent_remains w' a t refl;
    fewer = λ M. fewer_upd s.uses c new M (λ h. absurd h);
    more = λ M. more_upd s.uses c new M (λ h. subst (IsUpdateOf M) use_is h);
    ops = λ M. ops_upd s.uses c new M (λ h. absurd (subst (IsUpdateOf M) use_is h));
    sends = λ n q. refl;
  });
  once = once_same w' a t refl (λ o. refl) (λ port. omega arith) inv.once;
  latest = latest_same w' a t refl refl (λ o y. goes_upd o y s.uses c new (λ h. subst (IsUpdating o y) use_is h)) inv.latest;
}
  where
    s : State
    s = w.node a

    w' : World
    w' = popped w p a rest

    t : NodeTurn
    t = count_answer c op u lead st p v s

    new : Use
    new = Locking op u lead (upd same_atom st p v)

pub granted_keeps : (w : World) (a p : Node) (c : ℕ) (op : OpId) (u : Update) (lead : Node) (st : Node → Status) (rest : List Message) → Inv w → near w p a → w.wire p a ≡ Reply (numbered a c) Granted ∷ rest → (w.node a).uses c ≡ Locking op u lead st
    → Inv (perform (popped w p a rest) a (count_answer c op u lead st p Yes (w.node a)))
granted_keeps w a p c op u lead st rest = counted_keeps w a p c op u lead st Yes (Reply (numbered a c) Granted) rest (numbered_same a c) refl (λ st' out back locks e l. granted_back l e)

pub denied_keeps : (w : World) (a p : Node) (c : ℕ) (op : OpId) (u : Update) (lead : Node) (st : Node → Status) (rest : List Message) → Inv w → near w p a → w.wire p a ≡ Reply (numbered a c) Denied ∷ rest → (w.node a).uses c ≡ Locking op u lead st
    → Inv (perform (popped w p a rest) a (count_answer c op u lead st p No (w.node a)))
denied_keeps w a p c op u lead st rest = counted_keeps w a p c op u lead st No (Reply (numbered a c) Denied) rest (numbered_same a c) refl (λ st' out back locks e l. denied_back l e)

-- an ok to an update is counted
pub replied_keeps : (w : World) (a p : Node) (n : ℕ) (op : OpId) (u : Update) (c : ℕ) (rep : Node → Bool) (rest : List Message) → Inv w → near w p a → w.wire p a ≡ Reply (numbered a n) Applied ∷ rest → (w.node a).uses n ≡ Updating op u c rep
    → Inv (perform (popped w p a rest) a (count_ok n op u c rep p (w.node a)))
replied_keeps w a p n op u c rep rest inv meets is use_is = record {
  seats = inv.seats;
  lines = mark_lines w a p n x rest new inv meets is (numbered_same a n)
      (λ l. applied_back (talk_same l (sym use_is) refl refl (λ M. refl)) (upd_same same_atom atoms rep p true))
      (λ q d m l. subst (λ y. FitsReply u y l.line) (sym (read_other same_atom atoms rep p true q d)) (subst (λ y. Fits y q l.line) use_is l.fits));
  tidy = tidy_perform w' a t (pop_tidy w a p x rest inv.tidy is) refl (λ h k y d m. refl) (λ y. tt);
  fitting = fitting_perform w' a t inv.fitting (confirmed_keeps s (inv.fitting a) t.state n op u c rep (upd same_atom rep p true) use_is refl refl refl refl);
  tales = mute_told w' a t (pop_told w a p x rest inv is refl) (record {
    applied = refl;
    began = refl;
    remains = silent_remains w' a t refl;
    fewer = λ M. fewer_upd s.uses n new M (λ h. subst (IsUpdateOf M) (sym use_is) h);
    more = λ M. more_upd s.uses n new M (λ h. subst (IsUpdateOf M) use_is h);
    ops = λ M. ops_upd s.uses n new M (λ h o g. again o (subst (λ y. IsOpOf y o) use_is g));
    sends = λ k q. refl;
  });
  once = once_same w' a t refl (λ o. refl) (λ port. omega arith) inv.once;
  latest = latest_same w' a t refl refl (λ o y. goes_upd o y s.uses n new (λ h. subst (IsUpdating o y) use_is h)) inv.latest;
}
  where
    x : Message
    x = Reply (numbered a n) Applied

    s : State
    s = w.node a

    w' : World
    w' = popped w p a rest

    t : NodeTurn
    t = count_ok n op u c rep p s

    new : Use
    new = Updating op u c (upd same_atom rep p true)

    again : (o : OpId) → IsOpOf (Updating op u c rep) o → IsOpOf new o
    again o (updating op u c rep) = updating op u c (upd same_atom rep p true)
