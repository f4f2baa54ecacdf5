-- Nodes are asked for a lock.
use Rattle.std.proofs.Common.{◌≡◌, ◌≢◌, ℕ, Bool, true, false, ◌&&◌, cond, List, [], ◌++◌, Option, Some}
use Rattle.std.proofs.Common.{None, nat_eq, refl, ap, sym, ◌∙◌, subst, inl, inr, ◌⊎◌, append-nil, arith}
use Rattle.std.specs.Cmp.{second_so}
use Rattle.pg_term.specs.declared.term.Term.{Term}
use Rattle.pg_term.specs.RefParts.{RefParts, ref_eq}
use Rattle.pg_term.specs.Same.{same_atom}
use Rattle.pg_step.specs.PgRefs.Numbered.{numbered}
use Rattle.pg_step.specs.PgGroup.declared.update.Update.{Update}
use Rattle.pg_step.specs.PgGroup.Functions.{upd}
use Rattle.pg_step.specs.PgGroup.Value.{name_of}
use Rattle.pg_step.specs.PgLock.Locks.{Locks, after_ask, is_free, is_holder}
use Rattle.pg_step.specs.PgMessageTypes.declared.message.Message.{Message}
use Rattle.pg_step.specs.PgMessageTypes.declared.message.Message.TheVariants.{Call}
use Rattle.pg_step.specs.PgMessageTypes.declared.message.Request.TheVariants.{SetLock}
use Rattle.pg_step.specs.declared.command.OpId.{OpId}
use Rattle.pg_step.specs.Nodes.{Node, Nodes, is_node, is_peer}
use Rattle.pg_step.specs.State.{State, Status, formed}
use Rattle.pg_step.specs.State.Status.{Unasked, Asked, Yes, No}
use Rattle.pg_step.specs.State.Use.{Locking}
use Rattle.pg_step.specs.Turns.{NodeTurn}
use Rattle.pg_step.specs.Peers.{would_grant}
use Rattle.pg_step.specs.Attempts.{ask, asks, with_asked, own_verdict, is_unasked}
use Rattle.pg_laws.proofs.references.FittingTurns.{relock}
use Rattle.pg_laws.proofs.references.Keys.{atoms, numbers, split, differ, same_is, upd_same, read_other}
use Rattle.pg_laws.proofs.references.References.{about, about_here, about_sent_other}
use Rattle.pg_laws.proofs.references.References.{lent_other, numbered_other, numbered_same}
use Rattle.pg_laws.proofs.locks.Lines.{Line, talk_same, Fits, FitsStatus}
use Rattle.pg_laws.proofs.locks.Lines.Line.{Quiet, Wanting, Having}
use Rattle.pg_laws.proofs.locks.Moves.{refit, asked, asked_self}
use Rattle.pg_laws.proofs.locks.Named.{World, perform}
use Rattle.pg_laws.specs.Exclusive.{IsUpdateOf}
use Rattle.pg_laws.proofs.locks.Kept.{says, IsUpdating, Inv, near}
use Rattle.pg_laws.proofs.locks.Framed.{Acts, ours_sent, spoken, acts_lines, acts_tidy}
use Rattle.pg_laws.proofs.locks.Framed.{locks_here, locks_there, fitting_perform, once_same}
use Rattle.pg_laws.proofs.locks.Telling.{silent_remains, mute_tales, fewer_upd, more_upd, ops_upd, mute_sent}
use Rattle.pg_laws.proofs.locks.Latest.{latest_same, goes_upd}
use Rattle.pg_laws.proofs.locks.Seats.{Sits, seated, false_right, true_both, node_near}
use Rattle.pg_laws.proofs.locks.Seats.{to_own, to_own_at, to_near, to_untold}

pub free_none : (o : Option RefParts) → is_free o ≡ true → o ≡ None
free_none None e = refl
free_none (Some r) e = absurd (cc)

unasked_is : (v : Status) → is_unasked v ≡ true → v ≡ Unasked
unasked_is Unasked e = refl
unasked_is Asked e = absurd (cc)
unasked_is Yes e = absurd (cc)
unasked_is No e = absurd (cc)

pub lent_eye : (b : Bool) (locks : Locks) (N : Term) (r s : RefParts) → (b ≡ true → locks N ≡ None) → ref_eq r s ≡ false → (M : Term) → is_holder (after_ask b locks N r M) s ≡ is_holder (locks M) s
lent_eye true locks N r s free other M = lent_other locks N r s other (free refl) M
lent_eye false locks N r s free other M = refl

module _ (w : World) (a : Node) (peers : List Node) (sits : Sits w.nodes w.seen a peers) (c : ℕ) (op : OpId) (u : Update) (lead : Node) (st : Node → Status) (who : Node → Bool) where
  abbrev m : Nodes
  m = seated a peers

  abbrev s : State
  s = w.node a

  abbrev N : Term
  N = name_of u

  abbrev r : RefParts
  r = numbered a c

  abbrev free : Bool
  free = would_grant m s N

  abbrev x : Message
  x = Call r (SetLock N)

  abbrev t : NodeTurn
  t = ask m who c op u lead st s

  abbrev st' : Node → Status
  st' = with_asked m who st free

  free_locks : (asks who st a && free) ≡ true → s.locks N ≡ None
  free_locks e = free_none (s.locks N) (second_so (formed m s) (is_free (s.locks N)) (second_so (asks who st a) free e))

  ask_acts : Acts w a c t
  ask_acts = record {
    silent = to_own w.nodes w.seen a peers sits (asks who st) x;
    sends = λ h k q other. about_sent_other (numbered h k) (is_peer m q && asks who st q) x (numbered_other a h c k other);
    ours = λ q. ours_sent a q (is_peer m q && asks who st q) x (c, refl);
    locks = λ h k M other. lent_eye (asks who st a && free) s.locks N r (numbered h k) free_locks (numbered_other a h c k other) M;
  }

  -- what becomes of the line to p
  ask_line : s.uses c ≡ Locking op u lead st → Inv w → (p : Node) → near w a p → spoken w a t c p
  ask_line is inv p d = go (asks who st p) refl (split same_atom atoms p a)
    where
      l : says w (Locking op u lead st) p r (about r (w.wire a p)) (about r (w.wire p a)) (w.node p).locks
      l = talk_same (inv.lines a c p d) (sym is) refl refl (λ M. refl)

      how : t.state.uses c ≡ Locking op u lead st'
      how = upd_same nat_eq numbers s.uses c (Locking op u lead st')

      quiet : asks who st p ≡ true → l.line ≡ Quiet
      quiet e = subst (λ v. FitsStatus N v l.line) (unasked_is (st p) (second_so (who p) (is_unasked (st p)) e)) l.fits

      nothing : t.sends p ≡ [] → about r (w.wire a p) ++ about r (t.sends p) ≡ about r (w.wire a p)
      nothing e = ap (λ o. about r (w.wire a p) ++ about r o) e ∙ append-nil (about r (w.wire a p))

      own_nothing : p ≡ a → about r (w.wire a p) ++ about r (t.sends p) ≡ about r (w.wire a p)
      own_nothing q = nothing (to_own_at w.nodes w.seen a peers sits (asks who st) x p q)

      eye : Term → Locks → Bool
      eye M f = is_holder (f M) r

      no_loan : asks who st p ≡ false → (p ≡ a) ⊎ (p ≢ a) → (M : Term) → is_holder ((upd same_atom w.node a t.state p).locks M) r ≡ is_holder ((w.node p).locks M) r
      no_loan e (inl q) M =
          let e' : (asks who st a && free) ≡ false = ap (λ b. b && free) (subst (λ y. asks who st y ≡ false) q e) in
          ap (eye M) (locks_here w a t.state p q) ∙ (ap (λ b. eye M (after_ask b s.locks N r)) e' ∙ ap (λ y. eye M ((w.node y).locks)) (sym q))
      no_loan e (inr n) M = ap (eye M) (locks_there w a t.state p n)

      loan : (b : Bool) → free ≡ b → asks who st p ≡ true → p ≡ a → (upd same_atom w.node a t.state p).locks ≡ after_ask b (w.node p).locks N r
      loan b f e q =
          let e' : (asks who st a && free) ≡ b = ap (λ y. y && free) (subst (λ y. asks who st y ≡ true) q e) ∙ f in
          locks_here w a t.state p q ∙ (ap (λ y. after_ask y s.locks N r) e' ∙ ap (λ y. after_ask b (w.node y).locks N r) (sym q))

      at : (v : Status) (y : Line) → st' p ≡ v → FitsStatus N v y → FitsStatus N (st' p) y
      at v y e f = subst (λ z. FitsStatus N z y) (sym e) f

      st_here : asks who st p ≡ true → (b : Bool) → same_atom a p ≡ b → st' p ≡ cond b (own_verdict free) Asked
      st_here e b q = ap (λ y. cond y (cond (same_atom a p) (own_verdict free) Asked) (st p)) (true_both (node_near w.nodes w.seen a peers sits p d) e) ∙ ap (λ y. cond y (own_verdict free) Asked) q

      st_own : asks who st p ≡ true → p ≡ a → (b : Bool) → free ≡ b → st' p ≡ own_verdict b
      st_own e q b f = st_here e true (same_is same_atom atoms a p (sym q)) ∙ ap own_verdict f

      own : asks who st p ≡ true → p ≡ a → (b : Bool) → free ≡ b → spoken w a t c p
      own e q true f = talk_same (asked_self N l (quiet e) (at Yes (Having N) (st_own e q true f) refl)) how (own_nothing q) refl (λ M. ap (eye M) (loan true f e q))
      own e q false f = talk_same (refit l (at No l.line (st_own e q false f) (subst (FitsStatus N No) (sym (quiet e)) tt))) how (own_nothing q) refl (λ M. ap (eye M) (loan false f e q))

      go : (b : Bool) → asks who st p ≡ b → (p ≡ a) ⊎ (p ≢ a) → spoken w a t c p
      go false e place =
          talk_same (refit l (at (st p) l.line (ap (λ y. cond y (cond (same_atom a p) (own_verdict free) Asked) (st p)) (false_right (is_node m p) e)) l.fits)) how
          (nothing (to_untold w.nodes w.seen a peers sits (asks who st) x p e)) refl (no_loan e place)
      go true e (inl q) = own e q free refl
      go true e (inr n) = talk_same (asked N l (quiet e) (at Asked (Wanting N) (st_here e false (differ same_atom atoms a p (λ y. n (sym y)))) refl)) how
          (ap (λ o. about r (w.wire a p) ++ o) (ap (about r) (to_near w.nodes w.seen a peers sits (asks who st) x p d n e) ∙ about_here r x [] (numbered_same a c))) refl
          (λ M. ap (eye M) (locks_there w a t.state p n))

  pub ask_keeps : (w.node a).uses c ≡ Locking op u lead st → Inv w → Inv (perform w a (ask (seated a peers) who c op u lead st (w.node a)))
  ask_keeps is inv = record {
    seats = inv.seats;
    lines = acts_lines w a c t inv ask_acts (ask_line is inv) (λ k p d n l. subst (λ y. Fits y p l.line) (sym (read_other nat_eq numbers s.uses c (Locking op u lead st') k n)) l.fits);
    tidy = acts_tidy w a c t inv ask_acts;
    fitting = fitting_perform w a t inv.fitting (relock s (inv.fitting a) t.state c op u lead st st' is refl refl refl refl);
    tales = mute_tales w a t inv (record {
      applied = refl;
      began = refl;
      remains = silent_remains w a t refl;
      fewer = λ M. fewer_upd s.uses c (Locking op u lead st') M (λ h. absurd h);
      more = λ M. more_upd s.uses c (Locking op u lead st') M (λ h. subst (IsUpdateOf M) is h);
      ops = λ M. ops_upd s.uses c (Locking op u lead st') M (λ h. absurd (subst (IsUpdateOf M) is h));
      sends = λ n p. mute_sent (is_peer m p && asks who st p) x (numbered a n) refl;
    });
    once = once_same w a t refl (λ o. refl) (λ port. omega arith) inv.once;
    latest = latest_same w a t refl refl (λ o v. goes_upd o v s.uses c (Locking op u lead st') (λ h. subst (IsUpdating o v) is h)) inv.latest;
  }
