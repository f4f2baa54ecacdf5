-- An update is taken and applied.
use Rattle.std.proofs.Common.{◌≡◌, ◌≢◌, ℕ, Bool, true, false, cond, List, [], ◌∷◌, ◌++◌}
use Rattle.std.proofs.Common.{refl, ap, sym, ◌∙◌, subst, inl, inr, ◌⊎◌, append-nil, arith}
use Rattle.pg_term.specs.declared.term.Term.{Term}
use Rattle.pg_term.specs.Same.{same_atom, same_term}
use Rattle.pg_step.specs.PgRefs.Numbered.{numbered}
use Rattle.pg_step.specs.PgGroup.declared.update.Update.{Update}
use Rattle.pg_step.specs.PgGroup.Value.{name_of}
use Rattle.pg_step.specs.PgMessageTypes.declared.message.Message.{Message}
use Rattle.pg_step.specs.PgMessageTypes.declared.message.Message.TheVariants.{Call, Reply}
use Rattle.pg_step.specs.PgMessageTypes.declared.message.Request.TheVariants.{Change}
use Rattle.pg_step.specs.PgMessageTypes.declared.message.Said.TheVariants.{Applied}
use Rattle.pg_step.specs.Nodes.{Node}
use Rattle.pg_step.specs.State.{State, Status, Use}
use Rattle.pg_step.specs.State.Status.{Unasked, Asked, Yes, No}
use Rattle.pg_step.specs.State.Use.{Fresh, Spent, Locking, Owning, Updating}
use Rattle.pg_step.specs.Turns.{NodeTurn}
use Rattle.pg_step.specs.Peers.{update_request}
use Rattle.pg_laws.proofs.references.Keys.{atoms, terms, split, differ, same_is, upd_same, read_other, at_read}
use Rattle.pg_laws.proofs.references.References.{about, about_sent_other, about_here, IsOther}
use Rattle.pg_laws.proofs.references.References.{cases_ref, numbered_other, numbered_same}
use Rattle.pg_laws.proofs.locks.Lines.{talk_same, Fits, FitsStatus, FitsReply, outs, Sent, sent_has}
use Rattle.pg_laws.proofs.locks.Lines.Line.{Telling}
use Rattle.pg_laws.proofs.locks.Moves.{applied, change_line}
use Rattle.pg_laws.proofs.locks.Named.{World, perform, popped, on, of_name}
use Rattle.pg_laws.specs.Exclusive.{IsUpdateOf}
use Rattle.pg_laws.proofs.locks.Kept.{talk, near, live, IsOpOf, carried, Tale, Inv}
use Rattle.pg_laws.proofs.locks.Framed.{fitting_perform, read_same, once_same}
use Rattle.pg_laws.proofs.locks.Telling.{silent_remains, tell_more, tale_same, mute_sent}
use Rattle.pg_laws.proofs.locks.Telling.{carried_mute, history_same, on-append}
use Rattle.pg_laws.proofs.locks.Latest.{latest_same}
use Rattle.pg_laws.proofs.references.Fitting.{same_fitting}
use Rattle.pg_laws.proofs.locks.Pops.{Responds, respond_lines, respond_tidy, refers_other}
use Rattle.pg_laws.proofs.locks.Pops.{about_else, wire_here, wire_to, pop_apart}
use Rattle.pg_laws.proofs.locks.Takes.{to_it, not_to, ours_reply}
use Rattle.pg_laws.proofs.locks.Unique.{one_update}

update_status : (M : Term) (u : Update) (v : Status) → FitsStatus M v (Telling u) → ⊥
update_status M u Asked f = f
update_status M u Unasked f = cc
update_status M u Yes f = cc
update_status M u No f = f

update_reply : (v u : Update) (b : Bool) → FitsReply v b (Telling u) → u ≡ v
update_reply v u true f = absurd (cc)
update_reply v u false f = f

telling_update : (how : Use) (p : Node) (u : Update) → Fits how p (Telling u) → IsUpdateOf (name_of u) how
telling_update Fresh p u f = absurd (cc)
telling_update Spent p u f = absurd f
telling_update (Locking op v lead st) p u f = absurd (update_status (name_of v) u (st p) f)
telling_update (Owning M c) p u f = absurd (cc)
telling_update (Updating op v c rep) p u f = ap name_of (sym (update_reply v u (rep p) f))

-- a use is an update of one name
one_name : (M N : Term) (how : Use) → IsUpdateOf M how → IsUpdateOf N how → M ≡ N
one_name M N (Updating op v c rep) f g = sym f ∙ g
one_name M N Fresh f g = absurd f
one_name M N Spent f g = absurd f
one_name M N (Locking op v lead st) f g = absurd f
one_name M N (Owning K c) f g = absurd f

module _ (w : World) (a p : Node) (c : ℕ) (u : Update) (rest : List Message) (inv : Inv w) (la : live w a) (meets : near w p a) (is : w.wire p a ≡ Call (numbered p c) (Change u) ∷ rest) where
  abbrev N : Term
  N = name_of u

  abbrev x : Message
  x = Call (numbered p c) (Change u)

  abbrev said : Message
  said = Reply (numbered p c) Applied

  abbrev s : State
  s = w.node a

  abbrev t : NodeTurn
  t = update_request p (numbered p c) u s

  abbrev w' : World
  w' = popped w p a rest

  abbrev v : World
  v = perform w' a t

  responds : Responds s a p c t
  responds = record {
    uses = refl;
    sends = λ h k q other. about_sent_other (numbered h k) (same_atom p q) said (numbered_other p h c k other);
    ours = ours_reply a p c Applied;
    elsewhere = not_to p said;
    locks = λ h k M other. refl;
  }

  apart : p ≢ a
  apart = pop_apart w a p x rest inv.tidy is

  here : about (numbered p c) (w.wire p a) ≡ x ∷ about (numbered p c) rest
  here = ap (about (numbered p c)) is ∙ about_here (numbered p c) x rest (numbered_same p c)

  abbrev l : talk w p c a
  l = inv.lines p c a meets

  line_is : (l.line ≡ Telling u) × (about (numbered p c) rest ≡ [])
  line_is = change_line (numbered p c) u (about (numbered p c) rest) l.line (sent_has (subst (λ o. Sent o (outs (numbered p c) l.line)) here l.out_is))

  mine : IsUpdateOf N ((w.node p).uses c)
  mine = telling_update ((w.node p).uses c) a u (subst (Fits ((w.node p).uses c) a) line_is.0 l.fits)

  uses : (i : Node) (k : ℕ) → (v.node i).uses k ≡ (w.node i).uses k
  uses i k = read_same w a t.state (λ (z : State). z.uses k) refl i

  mute : (k : ℕ) (q : Node) → carried (about (numbered a k) (t.sends q)) ≡ []
  mute k q = mute_sent (same_atom p q) said (numbered a k) refl

  log_a : (M : Term) → on M (w.log a ++ u ∷ []) ≡ on M (w.log a) ++ cond (same_term M N) (u ∷ []) []
  log_a M = on-append M (w.log a) (u ∷ [])

  names : (M : Term) → of_name M v.history ≡ of_name M w.history
  names M = ap (of_name M) (history_same w' a t refl)

  -- where the name of the log or the way is another
  others : (M : Term) (q : Node) → live w q → on M (v.log q) ≡ on M (w.log q)
      → ((i : Node) (k : ℕ) → IsUpdateOf M ((w.node i).uses k) → carried (about (numbered i k) (w'.wire i q)) ≡ carried (about (numbered i k) (w.wire i q))) → Tale v M q
  others M q lq log wires = tale_same w v.node v.wire v.log v.history v.answered M q (inv.tales M q lq) (silent_remains w a t refl q) log (names M) (λ i k h o. subst (λ y. IsOpOf y o) (sym (uses i k)))
      (λ i k h. subst (IsUpdateOf M) (uses i k) h) (λ i k h. subst (IsUpdateOf M) (sym (uses i k)) h) (λ i k h. carried_mute w' a t mute i k q ∙ wires i k h)

  all : carried (about (numbered p c) (w.wire p a)) ≡ u ∷ []
  all = ap carried here ∙ ap (λ o. u ∷ carried o) line_is.1

  from_here : (i : Node) (k : ℕ) → i ≢ a → about (numbered i k) (v.wire i a) ≡ about (numbered i k) (w'.wire i a)
  from_here i k n = ap (λ (f : Node → List Message). about (numbered i k) (f a)) (read_other same_atom atoms w'.wire a (λ y. w'.wire a y ++ t.sends y) i n)

  reported : (M : Term) → N ≡ M → Tale w M a → Tale v M a
  reported M e (inl f) =
      let y : carried (about (numbered p c) (w.wire p a)) ≡ [] = f.clear p c meets (subst (λ z. IsUpdateOf z ((w.node p).uses c)) e mine) in
      absurd (cc (all))
  reported M e (inr d) = inl (record { thin = tell_more w v.node v.wire v.log v.history v.answered M a d.before d.last (silent_remains w a t refl a) log (names M ∙ d.is) d.thin; clear = clear })
    where
      r : (d.i ≡ p) × (d.n ≡ c)
      r = one_update w inv d.i d.n p c N a d.near_it meets (subst (λ z. IsUpdateOf z ((w.node d.i).uses d.n)) (sym e) d.update) mine

      same_way : carried (about (numbered d.i d.n) (w.wire d.i a)) ≡ u ∷ []
      same_way = ap (λ z. carried (about (numbered z d.n) (w.wire z a))) r.0 ∙ (ap (λ z. carried (about (numbered p z) (w.wire p a))) r.1 ∙ all)

      update_of : (xs : List Update) → xs ≡ u ∷ [] → xs ≡ d.last.update ∷ [] → d.last.update ≡ u
      update_of xs q y = cc

      log : on M (v.log a) ≡ on M (w.log a) ++ d.last.update ∷ []
      log = ap (on M) (upd_same same_atom atoms w.log a (w.log a ++ u ∷ [])) ∙ (log_a M ∙ (ap (λ b. on M (w.log a) ++ cond b (u ∷ []) []) (same_is same_term terms M N (sym e))
          ∙ ap (λ z. on M (w.log a) ++ z ∷ []) (sym (update_of (carried (about (numbered d.i d.n) (w.wire d.i a))) same_way d.way))))

      clear : (i : Node) (k : ℕ) → near w i a → IsUpdateOf M ((v.node i).uses k) → carried (about (numbered i k) (v.wire i a)) ≡ []
      clear i k li h =
          let h' : IsUpdateOf N ((w.node i).uses k) = subst (λ z. IsUpdateOf z ((w.node i).uses k)) (sym e) (subst (IsUpdateOf M) (uses i k) h) in
          let o = one_update w inv i k p c N a li meets h' mine in
          ap (λ z. carried (about (numbered z k) (v.wire z a))) o.0 ∙ (ap (λ z. carried (about (numbered p z) (v.wire p a))) o.1
          ∙ ap carried (from_here p c apart ∙ (ap (about (numbered p c)) (wire_here w a p x rest) ∙ line_is.1)))

  tale : (M : Term) (q : Node) → live w q → Tale v M q
  tale M q lq = go (split same_atom atoms q a) (split same_term terms N M)
    where
      other : (i : Node) (k : ℕ) → N ≢ M → IsUpdateOf M ((w.node i).uses k) → ((p ≡ i) × (c ≡ k)) ⊎ IsOther p c i k → IsOther p c i k
      other i k n h (inr o) = o
      other i k n h (inl e) = absurd (n (one_name N M ((w.node p).uses c) mine (subst (IsUpdateOf M) (ap (λ z. (w.node z).uses k) (sym e.0) ∙ ap (w.node p).uses (sym e.1)) h)))

      go : (q ≡ a) ⊎ (q ≢ a) → (N ≡ M) ⊎ (N ≢ M) → Tale v M q
      go (inl e) (inl f) = subst (λ z. Tale v M z) (sym e) (reported M f (inv.tales M a la))
      go (inr n) _ = others M q lq (ap (on M) (read_other same_atom atoms w.log a (w.log a ++ u ∷ []) q n)) (λ i k h. ap (λ o. carried (about (numbered i k) o)) (wire_to w a p x rest i q n))
      go (inl e) (inr n) = others M q lq
          (at_read same_atom atoms (λ y. on M y ≡ on M (w.log q)) w.log a (w.log a ++ u ∷ []) q
          (λ d. log_a M ∙ (ap (λ b. on M (w.log a) ++ cond b (u ∷ []) []) (differ same_term terms M N (λ y. n (sym y))) ∙ (append-nil (on M (w.log a)) ∙ ap (λ z. on M (w.log z)) (sym d)))) (λ d. refl))
          (λ i k h. ap carried (about_else w a p x rest is (numbered i k)
          (refers_other (numbered p c) (numbered i k) x (numbered_other p i c k (other i k n h (cases_ref p i c k))) (numbered_same p c)) i q))

  pub change_keeps : Inv (perform (popped w p a rest) a (update_request p (numbered p c) u (w.node a)))
  change_keeps = record {
    seats = inv.seats;
    lines = respond_lines w a p c x rest t inv meets is (numbered_same p c) responds
        (λ l. talk_same (applied u l) refl refl (ap (λ o. about (numbered p c) (w.wire a p) ++ o) (to_it p c said (numbered_same p c))) (λ M. refl));
    tidy = respond_tidy w a p c x rest t inv meets is (numbered_same p c) responds;
    fitting = fitting_perform w' a t inv.fitting (same_fitting s t.state refl refl refl refl (inv.fitting a));
    tales = tale;
    once = once_same w' a t refl (λ o. refl) (λ port. omega arith) inv.once;
    latest = latest_same w' a t refl refl (λ o v k h. h) inv.latest;
  }
