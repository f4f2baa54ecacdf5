-- An update is applied everywhere, its lock is freed, and its command answered.
use Rattle.std.proofs.Common.{◌≡◌, ◌≢◌, ℕ, ◌+◌, Bool, true, cond, ◌&&◌, List, [], ◌∷◌, ◌++◌, nat_eq}
use Rattle.std.proofs.Common.{refl, ap, sym, ◌∙◌, subst, inl, inr, ◌⊎◌, append-nil, arith, ◌≤◌}
use Rattle.pg_term.specs.declared.term.Term.{Term}
use Rattle.pg_term.specs.RefParts.{RefParts}
use Rattle.pg_term.specs.Same.{same_atom, same_term}
use Rattle.pg_step.specs.PgRefs.Numbered.{numbered}
use Rattle.pg_step.specs.PgGroup.declared.update.Update.{Update}
use Rattle.pg_step.specs.PgGroup.Functions.{upd}
use Rattle.pg_step.specs.PgGroup.Value.{name_of}
use Rattle.pg_step.specs.PgLock.Locks.{Locks, given_up, is_holder}
use Rattle.pg_step.specs.PgMessageTypes.declared.message.Message.{Message}
use Rattle.pg_step.specs.PgMessageTypes.declared.message.Message.TheVariants.{DelLock}
use Rattle.pg_step.specs.declared.command.OpId.{OpId}
use Rattle.pg_step.specs.Nodes.{Node, Nodes, is_peer}
use Rattle.pg_step.specs.State.{State, Use}
use Rattle.pg_step.specs.State.Use.{Spent, Owning, Updating}
use Rattle.pg_step.specs.State.Stage.{Closed, Changing}
use Rattle.pg_step.specs.Turns.{NodeTurn}
use Rattle.pg_step.specs.Attempts.{same_op, finish}
use Rattle.pg_laws.proofs.references.Keys.{atoms, terms, numbers, split, upd_same}
use Rattle.pg_laws.proofs.references.Keys.{read_other, at_read, from_read, same_is}
use Rattle.pg_laws.proofs.references.References.{about, about_here, about_sent_other}
use Rattle.pg_laws.proofs.references.References.{held_by_one, numbered_other, numbered_same}
use Rattle.pg_laws.proofs.locks.Lines.{Line, talk_same, shows, Fits, FitsReply, IsIdle, sent_nil}
use Rattle.pg_laws.proofs.locks.Lines.Line.{Quiet}
use Rattle.pg_laws.proofs.locks.Moves.{freed, freed_own}
use Rattle.pg_laws.proofs.locks.Named.{World, perform, on, of_name}
use Rattle.pg_laws.specs.Exclusive.{IsUpdateOf}
use Rattle.pg_laws.proofs.locks.Kept.{says, talk, near, live, live_own, near_live, IsOpOf, IsUpdating}
use Rattle.pg_laws.proofs.locks.Kept.{GoesOut, Latest, Inv, carried, Tale, opens, answers_of}
use Rattle.pg_laws.proofs.locks.Framed.{Acts, ours_sent, spoken, acts_lines, acts_tidy}
use Rattle.pg_laws.proofs.locks.Framed.{locks_here, locks_there, fitting_perform}
use Rattle.pg_laws.proofs.locks.Telling.{live_remains, full_same, fewer_upd, more_upd, mute_sent, tale_same}
use Rattle.pg_laws.proofs.locks.Telling.{use_read, log_same, history_same, carried_mute, answers-append}
use Rattle.pg_laws.proofs.locks.Seats.{Sits, seated, to_own, to_own_at, to_near, true_both}
use Rattle.pg_laws.proofs.locks.Stages.{commands}
use Rattle.pg_laws.proofs.references.Fitting.{is_changing, is_owning}
use Rattle.pg_laws.proofs.references.FittingTurns.{finished_keeps}
use Rattle.pg_laws.proofs.locks.Weights.{one_only, once_moved}
use Rattle.pg_laws.proofs.locks.Fails.{freed_eye}
use Rattle.pg_laws.proofs.locks.Unique.{owner_holds, one_update}

-- a use that two references lose, and all others keep
abbrev spent : (ℕ → Use) → ℕ → ℕ → ℕ → Use
spent f c n = upd nat_eq (upd nat_eq f c Spent) n Spent

-- what is still in use was, and is another reference
still_used : (f : ℕ → Use) (c n k : ℕ) (x : Use) → spent f c n k ≡ x → (Spent ≡ x → ⊥) → (f k ≡ x) × (k ≢ c) × (k ≢ n)
still_used f c n k x e d = from_read nat_eq numbers (λ y. y ≡ x) ((f k ≡ x) × (k ≢ c) × (k ≢ n)) (upd nat_eq f c Spent) n Spent k e
    (λ q h. absurd (d h))
    (λ m h. from_read nat_eq numbers (λ y. y ≡ x) ((f k ≡ x) × (k ≢ c) × (k ≢ n)) f c Spent k h (λ q g. absurd (d g)) (λ l g. (g, l, m)))

keeps_use : (f : ℕ → Use) (c n k : ℕ) → k ≢ c → k ≢ n → spent f c n k ≡ f k
keeps_use f c n k d m = read_other nat_eq numbers (upd nat_eq f c Spent) n Spent k m ∙ read_other nat_eq numbers f c Spent k d

no_way : (xs : List Update) (u : Update) → xs ≡ [] → xs ≡ u ∷ [] → ⊥
no_way xs u none e = cc

module _ (w : World) (a : Node) (peers : List Node) (sits : Sits w.nodes w.seen a peers) (n : ℕ) (op : OpId) (u : Update) (c : ℕ) (rep : Node → Bool) where
  abbrev m : Nodes
  m = seated a peers

  abbrev s : State
  s = w.node a

  abbrev N : Term
  N = name_of u

  abbrev r : RefParts
  r = numbered a c

  abbrev x : Message
  x = DelLock N r

  abbrev all_peers : Node → Bool
  all_peers q = true

  abbrev t : NodeTurn
  t = finish m n op u c s

  own : s.uses n ≡ Updating op u c rep → Inv w → s.uses c ≡ Owning N n
  own is inv = is_owning (inv.fitting a) n op u c rep is

  own_has : live w a → s.uses n ≡ Updating op u c rep → Inv w → is_holder (s.locks N) r ≡ true
  own_has la is inv = owner_holds w inv a c N n a (live_own w a la) (own is inv)

  finish_acts : Acts w a c t
  finish_acts = record {
    silent = to_own w.nodes w.seen a peers sits all_peers x;
    sends = λ h k q other. about_sent_other (numbered h k) (is_peer m q && true) x (numbered_other a h c k other);
    ours = λ q. ours_sent a q (is_peer m q && true) x (c, refl);
    locks = λ h k M other. freed_eye (is_holder (s.locks N) r) s.locks N (numbered h k) (held_by_one r (numbered h k) (s.locks N) (numbered_other a h c k other)) M;
  }

  finish_line : live w a → s.uses n ≡ Updating op u c rep → Inv w → (p : Node) → near w a p → spoken w a t c p
  finish_line la is inv p d = go (split same_atom atoms p a)
    where
      l : says w (Owning N n) p r (about r (w.wire a p)) (about r (w.wire p a)) (w.node p).locks
      l = talk_same (inv.lines a c p d) (sym (own is inv)) refl refl (λ M. refl)

      how : t.state.uses c ≡ Spent
      how = at_read nat_eq numbers (λ y. y ≡ Spent) (upd nat_eq s.uses c Spent) n Spent c (λ q. refl) (λ k. upd_same nat_eq numbers s.uses c Spent)

      eye : Term → Locks → Bool
      eye M f = is_holder (f M) r

      go : (p ≡ a) ⊎ (p ≢ a) → spoken w a t c p
      go (inl q) = talk_same (freed_own N l l.fits tt) how
          (ap (λ o. about r (w.wire a p) ++ about r o) (to_own_at w.nodes w.seen a peers sits all_peers x p q) ∙ append-nil (about r (w.wire a p))) refl
          (λ M. ap (eye M) (locks_here w a t.state p q ∙ (ap (λ b. given_up b s.locks N) (own_has la is inv) ∙ ap (λ y. given_up true (w.node y).locks N) (sym q))))
      go (inr k) = talk_same (freed N l l.fits tt) how
          (ap (λ o. about r (w.wire a p) ++ o) (ap (about r) (to_near w.nodes w.seen a peers sits all_peers x p d k refl) ∙ about_here r x [] (numbered_same a c))) refl
          (λ M. ap (eye M) (locks_there w a t.state p k))

  -- the reference of the update is quiet
  all_reported : s.uses n ≡ Updating op u c rep → ((p : Node) → near w a p → rep p ≡ true) → Inv w → (p : Node) → near w a p → (l : talk w a n p) → l.line ≡ Quiet
  all_reported is all inv p d l =
      let f : FitsReply u (rep p) l.line = subst (λ y. Fits y p l.line) is l.fits in
      subst (λ b. FitsReply u b l.line) (all p d) f

  finish_tale : live w a → s.uses n ≡ Updating op u c rep → ((p : Node) → near w a p → rep p ≡ true) → Inv w → (M : Term) (q : Node) → live w q → Tale (perform w a t) M q
  finish_tale la is all inv M q lq = go (split same_term terms M N)
    where
      v : World
      v = perform w a t

      fewer : (i : Node) (k : ℕ) → IsUpdateOf M ((v.node i).uses k) → IsUpdateOf M ((w.node i).uses k)
      fewer i k = use_read w a t.state (λ i y. IsUpdateOf M y → IsUpdateOf M ((w.node i).uses k)) k
          (λ g. fewer_upd s.uses c Spent M (λ z. absurd z) k (fewer_upd (upd nat_eq s.uses c Spent) n Spent M (λ z. absurd z) k g)) (λ i d g. g) i

      mute : (k : ℕ) (p : Node) → carried (about (numbered a k) (t.sends p)) ≡ []
      mute k p = mute_sent (is_peer m p && true) x (numbered a k) refl

      names : of_name M v.history ≡ of_name M w.history
      names = ap (of_name M) (history_same w a t refl)

      logs : on M (v.log q) ≡ on M (w.log q)
      logs = ap (on M) (log_same w a t refl q)

      wires : (i : Node) (k : ℕ) → IsUpdateOf M ((w.node i).uses k) → carried (about (numbered i k) (v.wire i q)) ≡ carried (about (numbered i k) (w.wire i q))
      wires i k _ = carried_mute w a t mute i k q

      same : M ≡ N → Tale w M q → Tale v M q
      same e (inl f) = inl (full_same w _ _ _ _ _ M q f (live_remains w a t la q) logs names fewer wires)
      same e (inr d) =
          let meets : near w a q = near_live w a q la lq in
          let mine : IsUpdateOf M ((w.node a).uses n) = subst (IsUpdateOf M) (sym is) (sym e) in
          let o = one_update w inv d.i d.n a n M q d.near_it meets d.update mine in
          let l : talk w a n q = inv.lines a n q meets in
          let none : about (numbered a n) (w.wire a q) ≡ [] = sent_nil ((shows l Quiet (all_reported is all inv q meets l)).out_is) in
          let way : carried (about (numbered d.i d.n) (w.wire d.i q)) ≡ [] = ap (λ y. carried (about (numbered y d.n) (w.wire y q))) o.0 ∙ (ap (λ y. carried (about (numbered a y) (w.wire a q))) o.1 ∙ ap carried none) in
          absurd (no_way (carried (about (numbered d.i d.n) (w.wire d.i q))) d.last.update way d.way)

      more : M ≢ N → (i : Node) (k : ℕ) → IsUpdateOf M ((w.node i).uses k) → IsUpdateOf M ((v.node i).uses k)
      more d i k = use_read w a t.state (λ i y. IsUpdateOf M ((w.node i).uses k) → IsUpdateOf M y) k
          (λ h. more_upd (upd nat_eq s.uses c Spent) n Spent M (λ z. d (sym (subst (IsUpdateOf M) (read_other nat_eq numbers s.uses c Spent n (λ y. apart y) ∙ is) z))) k
          (more_upd s.uses c Spent M (λ z. subst (IsUpdateOf M) (own is inv) z) k h))
          (λ i l h. h) i
        where
          apart : n ≢ c
          apart y = let z : s.uses n ≡ s.uses c = ap s.uses y in cc (own is inv)

      ops : M ≢ N → (i : Node) (k : ℕ) → IsUpdateOf M ((w.node i).uses k) → (o : OpId) → IsOpOf ((w.node i).uses k) o → IsOpOf ((v.node i).uses k) o
      ops d i k = use_read w a t.state (λ i y. IsUpdateOf M ((w.node i).uses k) → (o : OpId) → IsOpOf ((w.node i).uses k) o → IsOpOf y o) k
          (λ h o. let y : k ≢ n = λ e. d (sym (subst (IsUpdateOf M) (ap s.uses e ∙ is) h)) in
          let z : k ≢ c = λ e. subst (IsUpdateOf M) (ap s.uses e ∙ own is inv) h in
          subst (λ y. IsOpOf y o) (sym (keeps_use s.uses c n k z y)))
          (λ i l h o g. g) i

      go : (M ≡ N) ⊎ (M ≢ N) → Tale v M q
      go (inl e) = same e (inv.tales M q lq)
      go (inr d) = tale_same w _ _ _ _ _ M q (inv.tales M q lq) (live_remains w a t la q) logs names (ops d) fewer (more d) wires

  finish_latest : s.uses n ≡ Updating op u c rep → Inv w → Latest (perform w a t)
  finish_latest is inv M before after e names none unseen = (old.0, out)
    where
      mine : Bool
      mine = same_atom e.node a && same_op e.op op

      even : answers_of e.node e.op w.answered + (cond {A = ℕ} mine 1 0 + 0) ≡ 0
      even = sym (answers-append e.node e.op w.answered ((a, op) ∷ [])) ∙ none

      old : (after ≡ []) × GoesOut w.nodes w.seen w.node e
      old = inv.latest M before after e (sym (ap (of_name M) (history_same w a t refl)) ∙ names) (omega (arith, even)) unseen

      -- it is not the command that is answered
      apart : e.node ≡ a → e.op ≡ op → ⊥
      apart q r =
          let one : cond {A = ℕ} mine 1 0 ≡ 1 = ap (λ b. cond {A = ℕ} b 1 0) (true_both (same_is same_atom atoms e.node a q) (same_is same_op commands e.op op r)) in
          omega (arith, one, even)

      goes : Use → Type 0
      goes = IsUpdating e.op e.update

      k : ℕ
      k = old.1.number

      stays : e.node ≡ a → goes (s.uses k) → goes (t.state.uses k)
      stays q h = subst goes (sym (keeps_use s.uses c n k (λ y. subst goes (ap s.uses y ∙ own is inv) h) (λ y. apart q (sym (subst goes (ap s.uses y ∙ is) h).0)))) h

      out : GoesOut w.nodes w.seen (perform w a t).node e
      out = record {
        there = old.1.there;
        number = k;
        update = at_read same_atom atoms (λ (z : State). goes (z.uses k)) w.node a t.state e.node (λ q. stays q (subst (λ z. goes ((w.node z).uses k)) q old.1.update)) (λ l. old.1.update);
      }

  pub finish_keeps : live w a → (w.node a).uses n ≡ Updating op u c rep → ((p : Node) → near w a p → rep p ≡ true) → Inv w → Inv (perform w a (finish (seated a peers) n op u c (w.node a)))
  finish_keeps la is all inv = record {
    seats = inv.seats;
    lines = acts_lines w a c t inv finish_acts (finish_line la is inv) (λ k p d l y.
        at_read nat_eq numbers (λ z. Fits z p y.line) (upd nat_eq s.uses c Spent) n Spent k
        (λ q. quiet_idle y.line (reported k p d q y))
        (λ j. subst (λ z. Fits z p y.line) (sym (read_other nat_eq numbers s.uses c Spent k l)) y.fits));
    tidy = acts_tidy w a c t inv finish_acts;
    fitting = fitting_perform w a t inv.fitting (finished_keeps s (inv.fitting a) m n op u c rep is);
    tales = finish_tale la is all inv;
    once = once_moved w a t op Closed 1 refl (λ i o. one_only (same_atom i a && same_op o op)) (λ port. omega arith)
        (λ lt. let closed : s.stages op ≡ Closed = (inv.fitting a).closed op lt in cc changing)
        (let p : opens (s.stages op) ≡ 1 = ap opens changing in let q : opens (s.stages op) + answers_of a op w.answered ≤ 1 = inv.once.known a op in omega (arith, p, q)) inv.once;
    latest = finish_latest is inv;
  }
    where
      changing : s.stages op ≡ Changing n
      changing = is_changing (inv.fitting a) n op u c rep is

      quiet_idle : (l : Line) → l ≡ Quiet → IsIdle l
      quiet_idle l e = subst IsIdle (sym e) tt

      reported : (k : ℕ) (p : Node) → near w a p → k ≡ n → (l : talk w a k p) → l.line ≡ Quiet
      reported k p d q l = subst (λ y. (d : talk w a y p) → d.line ≡ Quiet) (sym q) (all_reported is all inv p d) l
