-- A request for a lock is taken and answered, and a lock is freed.
use Rattle.std.proofs.Common.{◌≡◌, ◌≢◌, ℕ, Bool, true, false, cond, List, [], ◌∷◌}
use Rattle.std.proofs.Common.{◌++◌, None, refl, ap, sym, ◌∙◌, append-nil, arith}
use Rattle.std.specs.List.{AllByRecursion}
use Rattle.std.specs.Cmp.{second_so}
use Rattle.pg_term.specs.declared.term.Term.{Term}
use Rattle.pg_term.specs.Same.{same_atom}
use Rattle.pg_step.specs.PgRefs.Numbered.{numbered}
use Rattle.pg_step.specs.PgLock.Locks.{Locks, after_ask, given_up, held, is_free, is_holder}
use Rattle.pg_step.specs.PgMessageTypes.declared.message.Message.{Message}
use Rattle.pg_step.specs.PgMessageTypes.declared.message.Message.TheVariants.{Call, Reply, DelLock}
use Rattle.pg_step.specs.PgMessageTypes.declared.message.Request.TheVariants.{SetLock}
use Rattle.pg_step.specs.PgMessageTypes.declared.message.Said.{Said}
use Rattle.pg_step.specs.Nodes.{Node, Nodes, to_one}
use Rattle.pg_step.specs.State.{State, Use, formed}
use Rattle.pg_step.specs.Turns.{NodeTurn, becomes_and_sends}
use Rattle.pg_step.specs.Peers.{lock_request, lock_freed, would_grant, verdict}
use Rattle.pg_laws.proofs.references.Keys.{atoms, terms, differ}
use Rattle.pg_laws.proofs.references.References.{refers, about, about_here, about_sent, about_sent_other}
use Rattle.pg_laws.proofs.references.References.{held_by_one, numbered_other, numbered_same}
use Rattle.pg_laws.proofs.locks.Lines.{Talk, talk_same}
use Rattle.pg_laws.proofs.locks.Moves.{set_yes, set_no, del_holds, del_done}
use Rattle.pg_laws.proofs.locks.Named.{World, perform, popped}
use Rattle.pg_laws.proofs.locks.Kept.{says, talk, near, IsOurs, Inv}
use Rattle.pg_laws.proofs.locks.Framed.{fitting_perform, once_same}
use Rattle.pg_laws.proofs.locks.Telling.{silent_remains, mute_told, mute_sent}
use Rattle.pg_laws.proofs.locks.Latest.{latest_same}
use Rattle.pg_laws.proofs.references.Fitting.{same_fitting}
use Rattle.pg_laws.proofs.locks.Asks.{free_none, lent_eye}
use Rattle.pg_laws.proofs.locks.Fails.{freed_eye}
use Rattle.pg_laws.proofs.locks.Pops.{Responds, respond_lines, respond_tidy, pop_told}

-- ---- what goes to one node

pub to_it : (p : Node) (c : ℕ) (y : Message) → refers (numbered p c) y ≡ true → about (numbered p c) (to_one p y p) ≡ y ∷ []
to_it p c y e = about_sent (numbered p c) (same_atom p p) y e ∙ ap (λ b. cond b (y ∷ []) []) (atoms.refl p)

pub not_to : (p : Node) (y : Message) (q : Node) → q ≢ p → to_one p y q ≡ []
not_to p y q n = ap (λ b. cond b (y ∷ []) []) (differ same_atom atoms p q (λ e. n (sym e)))

-- a reply is about a reference of the node that gets it
pub ours_reply : (a p : Node) (c : ℕ) (said : Said) (q : Node) → AllByRecursion (IsOurs a q) (to_one p (Reply (numbered p c) said) q)
ours_reply a p c said q = go (same_atom p q) refl
  where
    go : (b : Bool) → same_atom p q ≡ b → AllByRecursion (IsOurs a q) (cond b (Reply (numbered p c) said ∷ []) [])
    go true e = ((c, ap (λ z. numbered z c) (atoms.is p q e)), tt)
    go false e = tt

-- ---- a request for a lock

-- the answer to it
unfoldable pub lend : Bool → State → Node → ℕ → Term → NodeTurn
lend b s p c N = becomes_and_sends (record s { locks = after_ask b s.locks N (numbered p c) }) (to_one p (Reply (numbered p c) (verdict b)))

lend_responds : (b : Bool) (s : State) (a p : Node) (c : ℕ) (N : Term) → (b ≡ true → s.locks N ≡ None) → Responds s a p c (lend b s p c N)
unfolding lend
lend_responds b s a p c N free = record {
  uses = refl;
  sends = λ h k q other. about_sent_other (numbered h k) (same_atom p q) (Reply (numbered p c) (verdict b)) (numbered_other p h c k other);
  ours = ours_reply a p c (verdict b);
  elsewhere = not_to p (Reply (numbered p c) (verdict b));
  locks = λ h k M other. lent_eye b s.locks N (numbered p c) (numbered h k) free (numbered_other p h c k other) M;
}

lend_act : (b : Bool) (s : State) (a p : Node) (c : ℕ) (N : Term) (how : Use) (out back : List Message)
    → Talk how a (numbered p c) (Call (numbered p c) (SetLock N) ∷ out) back s.locks
    → Talk how a (numbered p c) out (back ++ about (numbered p c) ((lend b s p c N).sends p)) (lend b s p c N).state.locks
unfolding lend
lend_act true s a p c N how out back l = talk_same (set_yes N l) refl refl (ap (λ o. back ++ o) (to_it p c (Reply (numbered p c) (verdict true)) (numbered_same p c))) (λ M. refl)
lend_act false s a p c N how out back l = talk_same (set_no N l) refl refl (ap (λ o. back ++ o) (to_it p c (Reply (numbered p c) (verdict false)) (numbered_same p c))) (λ M. refl)

-- where a free lock alone is granted
pub lend_keeps : (w : World) (a p : Node) (b : Bool) (c : ℕ) (N : Term) (rest : List Message) → (b ≡ true → (w.node a).locks N ≡ None) → Inv w → near w p a → w.wire p a ≡ Call (numbered p c) (SetLock N) ∷ rest
    → Inv (perform (popped w p a rest) a (lend b (w.node a) p c N))
unfolding lend
lend_keeps w a p b c N rest free inv meets is = record {
  seats = inv.seats;
  lines = respond_lines w a p c x rest t inv meets is (numbered_same p c) responds (lend_act b s a p c N ((w.node p).uses c) (about (numbered p c) rest) (about (numbered p c) (w.wire a p)));
  tidy = respond_tidy w a p c x rest t inv meets is (numbered_same p c) responds;
  fitting = fitting_perform v a t inv.fitting (same_fitting s t.state refl refl refl refl (inv.fitting a));
  tales = mute_told v a t (pop_told w a p x rest inv is refl) (record {
    applied = refl;
    began = refl;
    remains = silent_remains v a t refl;
    fewer = λ M n h. h;
    more = λ M n h. h;
    ops = λ M n h o g. g;
    sends = λ n q. mute_sent (same_atom p q) (Reply (numbered p c) (verdict b)) (numbered a n) refl;
  });
  once = once_same v a t refl (λ o. refl) (λ port. omega arith) inv.once;
  latest = latest_same v a t refl refl (λ o u k h. h) inv.latest;
}
  where
    x : Message
    x = Call (numbered p c) (SetLock N)

    s : State
    s = w.node a

    t : NodeTurn
    t = lend b s p c N

    v : World
    v = popped w p a rest

    responds : Responds s a p c t
    responds = lend_responds b s a p c N free

pub set_keeps : (w : World) (a p : Node) (m : Nodes) (c : ℕ) (N : Term) (rest : List Message) → Inv w → near w p a → w.wire p a ≡ Call (numbered p c) (SetLock N) ∷ rest
    → Inv (perform (popped w p a rest) a (lock_request m p (numbered p c) N (w.node a)))
unfolding lend
set_keeps w a p m c N rest =
    let s : State = w.node a in
    lend_keeps w a p (would_grant m s N) c N rest (λ e. free_none (s.locks N) (second_so (formed m s) (is_free (s.locks N)) e))

-- ---- a lock is freed

pub del_keeps : (w : World) (a p : Node) (c : ℕ) (N : Term) (rest : List Message) → Inv w → near w p a → w.wire p a ≡ DelLock N (numbered p c) ∷ rest
    → Inv (perform (popped w p a rest) a (lock_freed N (numbered p c) (w.node a)))
del_keeps w a p c N rest inv meets is = record {
  seats = inv.seats;
  lines = respond_lines w a p c x rest t inv meets is (numbered_same p c) responds
      (λ l. talk_same (del_done N l) refl refl (append-nil (about (numbered p c) (w.wire a p))) (λ M. ap (λ (f : Locks). is_holder (f M) (numbered p c)) unlocked));
  tidy = respond_tidy w a p c x rest t inv meets is (numbered_same p c) responds;
  fitting = fitting_perform v a t inv.fitting (same_fitting s t.state refl refl refl refl (inv.fitting a));
  tales = mute_told v a t (pop_told w a p x rest inv is refl) (record { applied = refl; began = refl; remains = silent_remains v a t refl; fewer = λ M n h. h; more = λ M n h. h; ops = λ M n h o g. g; sends = λ n q. refl });
  once = once_same v a t refl (λ o. refl) (λ port. omega arith) inv.once;
  latest = latest_same v a t refl refl (λ o u k h. h) inv.latest;
}
  where
    x : Message
    x = DelLock N (numbered p c)

    s : State
    s = w.node a

    t : NodeTurn
    t = lock_freed N (numbered p c) s

    v : World
    v = popped w p a rest

    has : is_holder (s.locks N) (numbered p c) ≡ true
    has =
        let l : talk w p c a = inv.lines p c a meets in
        let l' : says w ((w.node p).uses c) a (numbered p c) (DelLock N (numbered p c) ∷ about (numbered p c) rest) (about (numbered p c) (w.wire a p)) s.locks
        = talk_same l refl (sym (ap (about (numbered p c)) is ∙ about_here (numbered p c) x rest (numbered_same p c))) refl (λ M. refl) in
        del_holds N l' N ∙ terms.refl N

    unlocked : t.state.locks ≡ held s.locks N None
    unlocked = ap (λ b. given_up b s.locks N) has

    responds : Responds s a p c t
    responds = record {
      uses = refl;
      sends = λ h k q other. refl;
      ours = λ q. tt;
      elsewhere = λ q n. refl;
      locks = λ h k M other. freed_eye (is_holder (s.locks N) (numbered p c)) s.locks N (numbered h k) (held_by_one (numbered p c) (numbered h k) (s.locks N) (numbered_other p h c k other)) M;
    }
