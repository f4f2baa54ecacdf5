-- A command has every grant, and its update goes out.
use Rattle.std.proofs.Common.{◌≡◌, ◌≢◌, ℕ, ◌+◌, Bool, true, false, ◌&&◌, cond, List, [], ◌∷◌, ◌++◌}
use Rattle.std.proofs.Common.{nat_eq, refl, ap, sym, ◌∙◌, subst, inl, inr, ◌⊎◌, arith, append-nil}
use Rattle.pg_term.specs.declared.term.Term.{Term}
use Rattle.pg_term.specs.RefParts.{RefParts}
use Rattle.pg_term.specs.Same.{same_atom, same_term}
use Rattle.pg_step.specs.PgRefs.Numbered.{numbered}
use Rattle.pg_step.specs.PgGroup.declared.update.Update.{Update}
use Rattle.pg_step.specs.PgGroup.Functions.{upd}
use Rattle.pg_step.specs.PgGroup.Value.{name_of}
use Rattle.pg_step.specs.PgLock.Locks.{Locks, is_holder}
use Rattle.pg_step.specs.PgMessageTypes.declared.message.Message.{Message}
use Rattle.pg_step.specs.PgMessageTypes.declared.message.Message.TheVariants.{Call}
use Rattle.pg_step.specs.PgMessageTypes.declared.message.Request.TheVariants.{Change}
use Rattle.pg_step.specs.declared.command.OpId.{OpId}
use Rattle.pg_step.specs.Nodes.{Node, Nodes, is_peer}
use Rattle.pg_step.specs.State.{State, Status, Use}
use Rattle.pg_step.specs.State.Status.{Yes}
use Rattle.pg_step.specs.State.Use.{Fresh, Locking, Owning, Updating}
use Rattle.pg_step.specs.State.Stage.{Changing}
use Rattle.pg_step.specs.Turns.{NodeTurn}
use Rattle.pg_step.specs.Attempts.{same_op, begin}
use Rattle.pg_laws.proofs.references.Keys.{atoms, terms, numbers, split, differ, same_is}
use Rattle.pg_laws.proofs.references.Keys.{upd_same, read_at, read_other, at_read, from_read}
use Rattle.pg_laws.proofs.references.References.{about, about-append, about_here}
use Rattle.pg_laws.proofs.references.References.{about_sent_other, numbered_other, numbered_same}
use Rattle.pg_laws.proofs.locks.Lines.{Line, talk_same, shows, Fits, FitsStatus, FitsReply, sent_nil}
use Rattle.pg_laws.proofs.locks.Lines.Line.{Quiet, Having, Telling}
use Rattle.pg_laws.proofs.locks.Moves.{refit, reported}
use Rattle.pg_laws.proofs.locks.Named.{World, Entry, perform, on, of_name}
use Rattle.pg_laws.specs.Exclusive.{IsUpdateOf}
use Rattle.pg_laws.proofs.locks.Kept.{talk, near, live, live_own, near_live, IsOpOf, updating}
use Rattle.pg_laws.proofs.locks.Kept.{IsUpdating, GoesOut, Latest, Inv, carried, Tale, opens, answers_of}
use Rattle.pg_laws.proofs.locks.Framed.{Acts, ours_sent, spoken, acts_lines, acts_tidy, acts_about}
use Rattle.pg_laws.proofs.locks.Framed.{locks_here, locks_there, fitting_perform, once_same}
use Rattle.pg_laws.proofs.locks.Telling.{silent_remains, tell_same, tell_more, fewer_upd}
use Rattle.pg_laws.proofs.locks.Telling.{more_upd, tale_same, use_read, on-append, of_name-append}
use Rattle.pg_laws.proofs.locks.Latest.{GoesOn, parted, entry_name, updating_of, goes_upd, still_out, answered_same}
use Rattle.pg_laws.proofs.locks.Seats.{Sits, seated, to_own, to_own_at, to_near}
use Rattle.pg_laws.proofs.locks.Stages.{commands}
use Rattle.pg_laws.proofs.references.Fitting.{is_asking}
use Rattle.pg_laws.proofs.references.FittingTurns.{begun_keeps}
use Rattle.pg_laws.proofs.locks.Unique.{update_is, update_owner, update_holds, one_ref, yes_holds}

-- the uses when an update begins
abbrev begun : (ℕ → Use) → ℕ → ℕ → OpId → Update → (Node → Bool) → ℕ → Use
begun f c n op u rep = upd nat_eq (upd nat_eq f c (Owning (name_of u) n)) n (Updating op u c rep)

module _ (w : World) (a : Node) (peers : List Node) (sits : Sits w.nodes w.seen a peers) (c : ℕ) (op : OpId) (u : Update) (lead : Node) (st : Node → Status) where
  abbrev m : Nodes
  m = seated a peers

  abbrev s : State
  s = w.node a

  abbrev N : Term
  N = name_of u

  abbrev n : ℕ
  n = s.references + 1

  abbrev r : RefParts
  r = numbered a n

  abbrev x : Message
  x = Call r (Change u)

  abbrev all_peers : Node → Bool
  all_peers q = true

  abbrev t : NodeTurn
  t = begin m c op u s

  abbrev new : Use
  new = Updating op u c (same_atom a)

  abbrev own_uses : ℕ → Use
  own_uses = upd nat_eq s.uses c (Owning N n)

  fresh : Inv w → s.uses n ≡ Fresh
  fresh inv = (inv.fitting a).fresh n (omega arith)

  begin_acts : Acts w a n t
  begin_acts = record {
    silent = to_own w.nodes w.seen a peers sits all_peers x;
    sends = λ h k q other. about_sent_other (numbered h k) (is_peer m q && true) x (numbered_other a h n k other);
    ours = λ q. ours_sent a q (is_peer m q && true) x (n, refl);
    locks = λ h k M other. refl;
  }

  quiet : Inv w → (p : Node) → near w a p → (l : talk w a n p) → l.line ≡ Quiet
  quiet inv p d l = subst (λ y. Fits y p l.line) (fresh inv) l.fits

  to_self : (p : Node) → p ≡ a → about r (t.sends p) ≡ []
  to_self p q = ap (about r) (to_own_at w.nodes w.seen a peers sits all_peers x p q)

  to_peer : (p : Node) → near w a p → p ≢ a → about r (t.sends p) ≡ x ∷ []
  to_peer p d l = ap (about r) (to_near w.nodes w.seen a peers sits all_peers x p d l refl) ∙ about_here r x [] (numbered_same a n)

  begin_line : Inv w → (p : Node) → near w a p → spoken w a t n p
  begin_line inv p d = go (split same_atom atoms p a)
    where
      l : talk w a n p
      l = inv.lines a n p d

      how : t.state.uses n ≡ new
      how = upd_same nat_eq numbers own_uses n new

      eye : Term → Locks → Bool
      eye M f = is_holder (f M) r

      at : (b : Bool) (y : Line) → same_atom a p ≡ b → FitsReply u b y → FitsReply u (same_atom a p) y
      at b y e f = subst (λ z. FitsReply u z y) (sym e) f

      go : (p ≡ a) ⊎ (p ≢ a) → spoken w a t n p
      go (inl q) = talk_same (refit {how' = new} l (at true l.line (same_is same_atom atoms a p (sym q)) (quiet inv p d l))) how
          (ap (λ o. about r (w.wire a p) ++ o) (to_self p q) ∙ append-nil (about r (w.wire a p))) refl
          (λ M. ap (eye M) (locks_here w a t.state p q ∙ ap (λ y. (w.node y).locks) (sym q)))
      go (inr k) = talk_same (reported {how' = new} u l (quiet inv p d l) (at false (Telling u) (differ same_atom atoms a p (λ y. k (sym y))) refl)) how
          (ap (λ o. about r (w.wire a p) ++ o) (to_peer p d k)) refl (λ M. ap (eye M) (locks_there w a t.state p k))

  apart : s.uses c ≡ Locking op u lead st → Inv w → c ≢ n
  apart is inv q = let y : s.uses c ≡ s.uses n = ap s.uses q in cc (is, fresh inv)

  new_use : ((perform w a t).node a).uses n ≡ new
  new_use = ap (λ (y : State). y.uses n) (upd_same same_atom atoms w.node a t.state) ∙ upd_same nat_eq numbers own_uses n new

  -- no update of the name goes out before
  alone : s.uses c ≡ Locking op u lead st → ((p : Node) → near w a p → st p ≡ Yes) → Inv w → (i : Node) (k : ℕ) (p : Node) → near w i p → near w a p → IsUpdateOf N ((w.node i).uses k) → ⊥
  alone is all inv i k p near_it meets h =
      let b = update_is N ((w.node i).uses k) h in
      let o = one_ref i a b.lock c ((w.node p).locks N) (update_holds w inv i k N p near_it b) (yes_holds w inv a c op u lead st p meets is (all p meets)) in
      let y : (w.node i).uses b.lock ≡ Owning N k = update_owner w inv i k N b in
      let z : (w.node i).uses b.lock ≡ s.uses c = ap (λ j. (w.node j).uses b.lock) o.0 ∙ ap s.uses o.1 in
      cc

  begin_tale : live w a → s.uses c ≡ Locking op u lead st → ((p : Node) → near w a p → st p ≡ Yes) → Inv w → (M : Term) (p : Node) → live w p → Tale (perform w a t) M p
  begin_tale la is all inv M p lp = go (split same_term terms M N)
    where
      v : World
      v = perform w a t

      e : Entry
      e = record { node = a; op = op; update = u }

      log_a : on M (w.log a ++ u ∷ []) ≡ on M (w.log a) ++ cond (same_term M N) (u ∷ []) []
      log_a = on-append M (w.log a) (u ∷ [])

      none : M ≢ N → on M (w.log a ++ u ∷ []) ≡ on M (w.log a)
      none l = log_a ∙ (ap (λ b. on M (w.log a) ++ cond b (u ∷ []) []) (differ same_term terms M N l) ∙ append-nil (on M (w.log a)))

      -- an update of the name is the new one, or was there
      newer : (i : Node) (k : ℕ) → IsUpdateOf M ((v.node i).uses k) → (((i ≡ a) × (k ≡ n)) × (N ≡ M)) ⊎ IsUpdateOf M ((w.node i).uses k)
      newer i k h = from_read same_atom atoms (λ (y : State). IsUpdateOf M (y.uses k)) ((((i ≡ a) × (k ≡ n)) × (N ≡ M)) ⊎ IsUpdateOf M ((w.node i).uses k)) w.node a t.state i h
          (λ q g. from_read nat_eq numbers (IsUpdateOf M) ((((i ≡ a) × (k ≡ n)) × (N ≡ M)) ⊎ IsUpdateOf M ((w.node i).uses k)) own_uses n new k g
          (λ d z. inl ((q, d), z))
          (λ d z. inr (subst (λ y. IsUpdateOf M ((w.node y).uses k)) (sym q) (fewer_upd s.uses c (Owning N n) M (λ y. absurd y) k z))))
          (λ q g. inr g)

      fewer : N ≢ M → (i : Node) (k : ℕ) → IsUpdateOf M ((v.node i).uses k) → IsUpdateOf M ((w.node i).uses k)
      fewer l i k h = elim (newer i k h) [ inl y ↦ absurd (l y.1) | inr y ↦ y ]

      more : (i : Node) (k : ℕ) → IsUpdateOf M ((w.node i).uses k) → IsUpdateOf M ((v.node i).uses k)
      more i k = use_read w a t.state (λ i y. IsUpdateOf M ((w.node i).uses k) → IsUpdateOf M y) k
          (λ h. more_upd own_uses n new M (λ z. absurd (subst (IsUpdateOf M) (read_other nat_eq numbers s.uses c (Owning N n) n (λ y. apart is inv (sym y)) ∙ fresh inv) z)) k
          (more_upd s.uses c (Owning N n) M (λ z. subst (IsUpdateOf M) is z) k h))
          (λ i d h. h) i

      names : of_name M v.history ≡ of_name M w.history ++ cond (same_term M N) (e ∷ []) []
      names = of_name-append M w.history (e ∷ [])

      names_here : M ≡ N → of_name M v.history ≡ of_name M w.history ++ e ∷ []
      names_here q = names ∙ ap (λ b. of_name M w.history ++ cond b (e ∷ []) []) (same_is same_term terms M N q)

      ops : (i : Node) (k : ℕ) → IsUpdateOf M ((w.node i).uses k) → (o : OpId) → IsOpOf ((w.node i).uses k) o → IsOpOf ((v.node i).uses k) o
      ops i k = use_read w a t.state (λ i y. IsUpdateOf M ((w.node i).uses k) → (o : OpId) → IsOpOf ((w.node i).uses k) o → IsOpOf y o) k
          (λ h o. let y : k ≢ n = λ d. subst (IsUpdateOf M) (ap s.uses d ∙ fresh inv) h in
          let z : k ≢ c = λ d. subst (IsUpdateOf M) (ap s.uses d ∙ is) h in
          subst (λ y. IsOpOf y o) (sym (read_other nat_eq numbers own_uses n new k y ∙ read_other nat_eq numbers s.uses c (Owning N n) k z)))
          (λ i d h o g. g) i

      wires : (i : Node) (k : ℕ) → IsUpdateOf M ((w.node i).uses k) → carried (about (numbered i k) (v.wire i p)) ≡ carried (about (numbered i k) (w.wire i p))
      wires i k h = place (split same_atom atoms a i) (split nat_eq numbers n k)
        where
          place : (a ≡ i) ⊎ (a ≢ i) → (n ≡ k) ⊎ (n ≢ k) → carried (about (numbered i k) (v.wire i p)) ≡ carried (about (numbered i k) (w.wire i p))
          place (inl q) (inl d) = absurd (subst (IsUpdateOf M) (ap (λ y. (w.node y).uses k) (sym q) ∙ (ap s.uses (sym d) ∙ fresh inv)) h)
          place (inl q) (inr l) = ap carried (acts_about w a n t begin_acts i k i p (inr l))
          place (inr l) _ = ap carried (acts_about w a n t begin_acts i k i p (inl l))

      meets : near w a p
      meets = near_live w a p la lp

      -- what is on the way of the new update
      way : about r (v.wire a p) ≡ about r (t.sends p)
      way =
          let l : talk w a n p = inv.lines a n p meets in
          ap (λ (f : Node → List Message). about r (f p)) (upd_same same_atom atoms w.wire a (λ y. w.wire a y ++ t.sends y))
          ∙ (about-append r (w.wire a p) (t.sends p) ∙ ap (λ o. o ++ about r (t.sends p)) (sent_nil ((shows l Quiet (quiet inv p meets l)).out_is)))

      same : M ≡ N → Tale w M p → Tale v M p
      same q (inr d) = absurd (alone is all inv d.i d.n p d.near_it meets (subst (λ y. IsUpdateOf y ((w.node d.i).uses d.n)) q d.update))
      same q (inl f) = place (split same_atom atoms p a)
        where
          clear : p ≡ a → (i : Node) (k : ℕ) → near w i p → IsUpdateOf M ((v.node i).uses k) → carried (about (numbered i k) (v.wire i p)) ≡ []
          clear d i k li h = elim (newer i k h) [
            | inl y ↦ ap (λ z. carried (about (numbered z k) (v.wire z p))) y.0.0 ∙ (ap (λ z. carried (about (numbered a z) (v.wire a p))) y.0.1 ∙ ap carried (way ∙ to_self p d))
            | inr y ↦ wires i k y ∙ f.clear i k li y
          ]

          place : (p ≡ a) ⊎ (p ≢ a) → Tale v M p
          place (inl d) = inl (record {
            thin = tell_more w v.node v.wire v.log v.history v.answered M p (of_name M w.history) e (silent_remains w a t refl p)
                (ap (on M) (read_at same_atom atoms w.log a (w.log a ++ u ∷ []) p d) ∙ (log_a ∙ (ap (λ b. on M (w.log a) ++ cond b (u ∷ []) []) (same_is same_term terms M N q) ∙ ap (λ y. on M (w.log y) ++ u ∷ []) (sym d))))
                (names_here q) f.thin;
            clear = clear d;
          })
          place (inr l) = inr (record {
            i = a;
            n = n;
            near_it = meets;
            update = subst (IsUpdateOf M) (sym new_use) (sym q);
            before = of_name M w.history;
            last = e;
            is = names_here q;
            node = refl;
            command = subst (λ y. IsOpOf y op) (sym new_use) (updating op u c (same_atom a));
            thin = tell_same w v.node v.wire v.log v.history v.answered M p (silent_remains w a t refl p) (ap (on M) (read_other same_atom atoms w.log a (w.log a ++ u ∷ []) p l)) refl f.thin;
            way = ap carried (way ∙ to_peer p meets l);
          })

      go : (M ≡ N) ⊎ (M ≢ N) → Tale v M p
      go (inl q) = same q (inv.tales M p lp)
      go (inr l) = tale_same w _ _ _ _ _ M p (inv.tales M p lp) (silent_remains w a t refl p)
          (at_read same_atom atoms (λ y. on M y ≡ on M (w.log p)) w.log a (w.log a ++ u ∷ []) p (λ q. none l ∙ ap (λ y. on M (w.log y)) (sym q)) (λ q. refl))
          (names ∙ (ap (λ b. of_name M w.history ++ cond b (e ∷ []) []) (differ same_term terms M N l) ∙ append-nil (of_name M w.history))) ops (fewer (λ q. l (sym q))) more wires

  begin_latest : live w a → s.uses c ≡ Locking op u lead st → ((p : Node) → near w a p → st p ≡ Yes) → Inv w → Latest (perform w a t)
  begin_latest la is all inv M before after e names none unseen = go (split same_term terms M N)
    where
      v : World
      v = perform w a t

      d : Entry
      d = record { node = a; op = op; update = u }

      none_yet : answers_of e.node e.op w.answered ≡ 0
      none_yet = sym (ap (answers_of e.node e.op) (answered_same w a t refl)) ∙ none

      all_names : of_name M w.history ++ cond (same_term M N) (d ∷ []) [] ≡ before ++ e ∷ after
      all_names = sym (of_name-append M w.history (d ∷ [])) ∙ names

      goes_on : GoesOn w a t
      goes_on o x k h = goes_upd o x own_uses n new (λ z. absurd (subst (IsUpdating o x) (read_other nat_eq numbers s.uses c (Owning N n) n (λ y. apart is inv (sym y)) ∙ fresh inv) z)) k
          (goes_upd o x s.uses c (Owning N n) (λ z. subst (IsUpdating o x) is z) k h)

      new_out : GoesOut w.nodes w.seen v.node d
      new_out = record { there = la; number = n; update = subst (IsUpdating op u) (sym new_use) (refl, refl) }

      here : M ≡ N → ((after ≡ []) × (e ≡ d)) ⊎ ((more : List Entry) × (of_name M w.history ≡ before ++ e ∷ more)) → (after ≡ []) × GoesOut v.nodes v.seen v.node e
      here q (inl y) = (y.0, subst (GoesOut w.nodes w.seen v.node) (sym y.1) new_out)
      here q (inr y) =
          let old = inv.latest M before y.0 e y.1 none_yet unseen in
          absurd (alone is all inv e.node old.1.number a (near_live w e.node a old.1.there la) (live_own w a la)
          (updating_of N e.op e.update ((w.node e.node).uses old.1.number) (entry_name M w.history before y.0 e y.1 ∙ q) old.1.update))

      go : (M ≡ N) ⊎ (M ≢ N) → (after ≡ []) × GoesOut v.nodes v.seen v.node e
      go (inl q) = here q (parted (of_name M w.history) d before after e (sym (ap (λ b. of_name M w.history ++ cond b (d ∷ []) []) (same_is same_term terms M N q)) ∙ all_names))
      go (inr l) =
          let old = inv.latest M before after e
          (sym (ap (λ b. of_name M w.history ++ cond b (d ∷ []) []) (differ same_term terms M N l) ∙ append-nil (of_name M w.history)) ∙ all_names) none_yet unseen in
          (old.0, still_out w a t goes_on e old.1)

  pub begin_keeps : live w a → (w.node a).uses c ≡ Locking op u lead st → ((p : Node) → near w a p → st p ≡ Yes) → Inv w → Inv (perform w a (begin (seated a peers) c op u (w.node a)))
  begin_keeps la is all inv = record {
    seats = inv.seats;
    lines = acts_lines w a n t inv begin_acts (begin_line inv) (λ k p d l y.
        subst (λ z. Fits z p y.line) (sym (read_other nat_eq numbers own_uses n new k l))
        (at_read nat_eq numbers (λ z. Fits z p y.line) s.uses c (Owning N n) k (λ q. has k p d q y) (λ j. y.fits)));
    tidy = acts_tidy w a n t inv begin_acts;
    fitting = fitting_perform w a t inv.fitting (begun_keeps s (inv.fitting a) m c op u lead st is);
    tales = begin_tale la is all inv;
    once = once_same w a t refl (λ o. at_read same_op commands (λ v. opens v ≡ opens (s.stages o)) s.stages op (Changing n) o
        (λ e. sym (ap (λ y. opens (s.stages y)) e ∙ ap opens (is_asking (inv.fitting a) c op u lead st is))) (λ d. refl)) (λ port. omega arith) inv.once;
    latest = begin_latest la is all inv;
  }
    where
      has : (k : ℕ) (p : Node) → near w a p → k ≡ c → (l : talk w a k p) → l.line ≡ Having N
      has k p d q l =
          let f : FitsStatus N (st p) l.line = subst (λ y. Fits y p l.line) (ap s.uses q ∙ is) l.fits in
          subst (λ v. FitsStatus N v l.line) (all p d) f
