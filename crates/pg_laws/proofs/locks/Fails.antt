-- An attempt is given up.
use Rattle.std.proofs.Common.{◌≡◌, ◌≢◌, ℕ, Bool, true, false, ◌&&◌, List, [], ◌++◌, nat_eq}
use Rattle.std.proofs.Common.{refl, ap, sym, ◌∙◌, subst, inl, inr, ◌⊎◌, append-nil, arith}
use Rattle.std.specs.Cmp.{second_so}
use Rattle.pg_term.specs.declared.term.Term.{Term}
use Rattle.pg_term.specs.RefParts.{RefParts}
use Rattle.pg_term.specs.Same.{same_atom}
use Rattle.pg_step.specs.PgRefs.Numbered.{numbered}
use Rattle.pg_step.specs.PgGroup.declared.update.Update.{Update}
use Rattle.pg_step.specs.PgGroup.Functions.{upd}
use Rattle.pg_step.specs.PgGroup.Value.{name_of}
use Rattle.pg_step.specs.PgLock.Locks.{Locks, given_up, is_holder}
use Rattle.pg_step.specs.PgMessageTypes.declared.message.Message.{Message}
use Rattle.pg_step.specs.PgMessageTypes.declared.message.Message.TheVariants.{DelLock}
use Rattle.pg_step.specs.declared.command.OpId.{OpId}
use Rattle.pg_step.specs.Nodes.{Node, Nodes, is_peer}
use Rattle.pg_step.specs.State.{State, Status}
use Rattle.pg_step.specs.State.Status.{Unasked, Asked, Yes, No}
use Rattle.pg_step.specs.State.Use.{Spent, Locking}
use Rattle.pg_step.specs.State.Stage.{Waiting}
use Rattle.pg_step.specs.Turns.{NodeTurn}
use Rattle.pg_step.specs.Attempts.{same_op, give_up, is_yes}
use Rattle.pg_laws.proofs.references.Keys.{atoms, terms, numbers, split, upd_same, read_other, at_read}
use Rattle.pg_laws.proofs.references.References.{about, about_here, about_sent_other, held_by_one}
use Rattle.pg_laws.proofs.references.References.{freed_other, numbered_other, numbered_same}
use Rattle.pg_laws.proofs.locks.Lines.{Line, talk_same, shows, Fits, FitsStatus, IsIdle}
use Rattle.pg_laws.proofs.locks.Lines.Line.{Having}
use Rattle.pg_laws.proofs.locks.Moves.{refit, freed, freed_own}
use Rattle.pg_laws.proofs.locks.Named.{World, perform}
use Rattle.pg_laws.specs.Exclusive.{IsUpdateOf}
use Rattle.pg_laws.proofs.locks.Kept.{says, IsUpdating, Inv, near, live, live_own, opens}
use Rattle.pg_laws.proofs.locks.Framed.{Acts, ours_sent, spoken, acts_lines, acts_tidy}
use Rattle.pg_laws.proofs.locks.Framed.{locks_here, locks_there, fitting_perform, once_same}
use Rattle.pg_laws.proofs.locks.Telling.{silent_remains, mute_tales, fewer_upd, more_upd, ops_upd, mute_sent}
use Rattle.pg_laws.proofs.locks.Latest.{latest_same, goes_upd}
use Rattle.pg_laws.proofs.locks.Seats.{Sits, seated, true_both, to_own, to_own_at, to_near, to_untold}
use Rattle.pg_laws.proofs.locks.Stages.{commands}
use Rattle.pg_laws.proofs.references.Fitting.{is_asking}
use Rattle.pg_laws.proofs.references.FittingTurns.{given_up_keeps}

pub freed_eye : (b : Bool) (locks : Locks) (N : Term) (r : RefParts) → (b ≡ true → is_holder (locks N) r ≡ false) → (M : Term) → is_holder (given_up b locks N M) r ≡ is_holder (locks M) r
freed_eye true locks N r none M = freed_other locks N r (none refl) M
freed_eye false locks N r none M = refl

pub yes_is : (v : Status) → is_yes v ≡ true → v ≡ Yes
yes_is Yes e = refl
yes_is Unasked e = absurd (cc)
yes_is Asked e = absurd (cc)
yes_is No e = absurd (cc)

not_yes : (N : Term) (v : Status) (l : Line) → is_yes v ≡ false → v ≢ Asked → FitsStatus N v l → IsIdle l
not_yes N Yes l e n f = absurd (cc)
not_yes N Unasked l e n f = subst IsIdle (sym f) tt
not_yes N Asked l e n f = absurd (n refl)
not_yes N No l e n f = f

module _ (w : World) (a : Node) (peers : List Node) (sits : Sits w.nodes w.seen a peers) (c : ℕ) (op : OpId) (u : Update) (lead : Node) (st : Node → Status) where
  abbrev m : Nodes
  m = seated a peers

  abbrev s : State
  s = w.node a

  abbrev N : Term
  N = name_of u

  abbrev r : RefParts
  r = numbered a c

  abbrev x : Message
  x = DelLock N r

  abbrev granted : Node → Bool
  granted q = is_yes (st q)

  abbrev t : NodeTurn
  t = give_up m c op u st s

  line_at : s.uses c ≡ Locking op u lead st → Inv w → (p : Node) → near w a p → says w (Locking op u lead st) p r (about r (w.wire a p)) (about r (w.wire p a)) (w.node p).locks
  line_at is inv p d = talk_same (inv.lines a c p d) (sym is) refl refl (λ M. refl)

  -- where the own node has granted, the reference is the holder there
  own_has : live w a → s.uses c ≡ Locking op u lead st → Inv w → is_yes (st a) ≡ true → is_holder (s.locks N) r ≡ true
  own_has la is inv y =
      let l : says w (Locking op u lead st) a r (about r (w.wire a a)) (about r (w.wire a a)) (w.node a).locks = line_at is inv a (live_own w a la) in
      (shows l (Having N) (subst (λ v. FitsStatus N v l.line) (yes_is (st a) y) l.fits)).hold_is N ∙ terms.refl N

  own_test : live w a → s.uses c ≡ Locking op u lead st → Inv w → (b : Bool) → is_yes (st a) ≡ b → (is_yes (st a) && is_holder (s.locks N) r) ≡ b
  own_test la is inv true e = true_both e (own_has la is inv e)
  own_test la is inv false e = ap (λ b. b && is_holder (s.locks N) r) e

  fail_acts : Acts w a c t
  fail_acts = record {
    silent = to_own w.nodes w.seen a peers sits granted x;
    sends = λ h k q other. about_sent_other (numbered h k) (is_peer m q && granted q) x (numbered_other a h c k other);
    ours = λ q. ours_sent a q (is_peer m q && granted q) x (c, refl);
    locks = λ h k M other. freed_eye (is_yes (st a) && is_holder (s.locks N) r) s.locks N (numbered h k)
        (λ e. held_by_one r (numbered h k) (s.locks N) (numbered_other a h c k other) (second_so (is_yes (st a)) (is_holder (s.locks N) r) e)) M;
  }

  -- what becomes of the line to p
  fail_line : live w a → s.uses c ≡ Locking op u lead st → ((p : Node) → near w a p → st p ≢ Asked) → Inv w → (p : Node) → near w a p → spoken w a t c p
  fail_line la is none inv p d = go (is_yes (st p)) refl (split same_atom atoms p a)
    where
      l : says w (Locking op u lead st) p r (about r (w.wire a p)) (about r (w.wire p a)) (w.node p).locks
      l = line_at is inv p d

      how : t.state.uses c ≡ Spent
      how = upd_same nat_eq numbers s.uses c Spent

      nothing : t.sends p ≡ [] → about r (w.wire a p) ++ about r (t.sends p) ≡ about r (w.wire a p)
      nothing e = ap (λ o. about r (w.wire a p) ++ about r o) e ∙ append-nil (about r (w.wire a p))

      has : is_yes (st p) ≡ true → l.line ≡ Having N
      has e = subst (λ v. FitsStatus N v l.line) (yes_is (st p) e) l.fits

      eye : Term → Locks → Bool
      eye M f = is_holder (f M) r

      here : (b : Bool) → is_yes (st p) ≡ b → p ≡ a → (upd same_atom w.node a t.state p).locks ≡ given_up b (w.node p).locks N
      here b e q =
          let e' : is_yes (st a) ≡ b = subst (λ y. is_yes (st y) ≡ b) q e in
          locks_here w a t.state p q ∙ (ap (λ y. given_up y s.locks N) (own_test la is inv b e') ∙ ap (λ y. given_up b (w.node y).locks N) (sym q))

      kept : is_yes (st p) ≡ false → (p ≡ a) ⊎ (p ≢ a) → (M : Term) → is_holder ((upd same_atom w.node a t.state p).locks M) r ≡ is_holder ((w.node p).locks M) r
      kept e (inl q) M = ap (eye M) (here false e q)
      kept e (inr n) M = ap (eye M) (locks_there w a t.state p n)

      go : (b : Bool) → is_yes (st p) ≡ b → (p ≡ a) ⊎ (p ≢ a) → spoken w a t c p
      go false e place = talk_same (refit l (not_yes N (st p) l.line e (none p d) l.fits)) how (nothing (to_untold w.nodes w.seen a peers sits granted x p e)) refl (kept e place)
      go true e (inl q) = talk_same (freed_own N l (has e) tt) how (nothing (to_own_at w.nodes w.seen a peers sits granted x p q)) refl (λ M. ap (eye M) (here true e q))
      go true e (inr n) = talk_same (freed N l (has e) tt) how
          (ap (λ o. about r (w.wire a p) ++ o) (ap (about r) (to_near w.nodes w.seen a peers sits granted x p d n e) ∙ about_here r x [] (numbered_same a c))) refl
          (λ M. ap (eye M) (locks_there w a t.state p n))

  pub fail_keeps : live w a → (w.node a).uses c ≡ Locking op u lead st → ((p : Node) → near w a p → st p ≢ Asked) → Inv w → Inv (perform w a (give_up (seated a peers) c op u st (w.node a)))
  fail_keeps la is none inv = record {
    seats = inv.seats;
    lines = acts_lines w a c t inv fail_acts (fail_line la is none inv) (λ k p d n l. subst (λ y. Fits y p l.line) (sym (read_other nat_eq numbers s.uses c Spent k n)) l.fits);
    tidy = acts_tidy w a c t inv fail_acts;
    fitting = fitting_perform w a t inv.fitting (given_up_keeps s (inv.fitting a) m c op u lead st is);
    tales = mute_tales w a t inv (record {
      applied = refl;
      began = refl;
      remains = silent_remains w a t refl;
      fewer = λ M. fewer_upd s.uses c Spent M (λ h. absurd h);
      more = λ M. more_upd s.uses c Spent M (λ h. subst (IsUpdateOf M) is h);
      ops = λ M. ops_upd s.uses c Spent M (λ h. absurd (subst (IsUpdateOf M) is h));
      sends = λ n p. mute_sent (is_peer m p && granted p) x (numbered a n) refl;
    });
    once = once_same w a t refl (λ o. at_read same_op commands (λ v. opens v ≡ opens (s.stages o)) s.stages op (Waiting u) o
        (λ e. sym (ap (λ y. opens (s.stages y)) e ∙ ap opens (is_asking (inv.fitting a) c op u lead st is))) (λ n. refl)) (λ port. omega arith) inv.once;
    latest = latest_same w a t refl refl (λ o v. goes_upd o v s.uses c Spent (λ h. subst (IsUpdating o v) is h)) inv.latest;
  }
