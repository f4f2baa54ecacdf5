-- What a turn of one node leaves of the lines, of the ways, and of what nodes keep.
use Rattle.std.proofs.Common.{◌≡◌, ℕ, ◌+◌, ◌≢◌, List, [], ◌∷◌, ◌++◌, None, refl, ap}
use Rattle.std.proofs.Common.{sym, ◌∙◌, subst, inl, inr, ◌⊎◌, append-nil, ◌≤◌, arith}
use Rattle.pg_term.specs.declared.term.Term.{Term}
use Rattle.pg_term.specs.Same.{same_atom}
use Rattle.pg_step.specs.PgRefs.Numbered.{numbered}
use Rattle.pg_step.specs.PgGroup.Functions.{upd}
use Rattle.pg_step.specs.PgLock.Locks.{Locks, is_holder}
use Rattle.pg_step.specs.PgMessageTypes.declared.message.Message.{Message}
use Rattle.pg_step.specs.declared.command.OpId.{OpId}
use Rattle.pg_step.specs.Nodes.{Node}
use Rattle.pg_step.specs.State.{State}
use Rattle.pg_step.specs.Turns.{NodeTurn, becomes}
use Rattle.std.specs.Prelude.{nat_eq, Bool, true, false, cond}
use Rattle.std.specs.List.{AllByRecursion}
use Rattle.pg_laws.proofs.references.Keys.{atoms, numbers, split, read_at, read_other, at_read}
use Rattle.pg_laws.proofs.references.References.{about, about-append, IsOther}
use Rattle.pg_laws.proofs.steps.Ways.{all_both}
use Rattle.pg_laws.proofs.locks.Lines.{talk_same, Fits}
use Rattle.pg_laws.proofs.locks.Moves.{refit}
use Rattle.pg_laws.proofs.locks.Named.{World, perform, answer_of}
use Rattle.pg_laws.specs.ReferencesFit.{ReferencesFit}
use Rattle.pg_laws.proofs.locks.Kept.{says, talk, Lines, Tidy, IsOurs, answers_of, Inv}
use Rattle.pg_laws.proofs.locks.Kept.{Mine, Theirs, near, lines_perform, opens, Once}

-- a turn that is about one reference of the node's own
pub record Acts (w : World) (a : Node) (c : ℕ) (t : NodeTurn) : Type 0 where
  pub silent : t.sends a ≡ []
  pub sends : (h : Node) (k : ℕ) (q : Node) → IsOther a c h k → about (numbered h k) (t.sends q) ≡ []
  pub ours : (q : Node) → AllByRecursion (IsOurs a q) (t.sends q)
  pub locks : (h : Node) (k : ℕ) (M : Term) → IsOther a c h k → is_holder (t.state.locks M) (numbered h k) ≡ is_holder ((w.node a).locks M) (numbered h k)

pub locks_here : (w : World) (a : Node) (s : State) (p : Node) → p ≡ a → (upd same_atom w.node a s p).locks ≡ s.locks
locks_here w a s p e = ap (λ (n : State). n.locks) (read_at same_atom atoms w.node a s p e)

pub locks_there : (w : World) (a : Node) (s : State) (p : Node) → p ≢ a → (upd same_atom w.node a s p).locks ≡ (w.node p).locks
locks_there w a s p n = ap (λ (n : State). n.locks) (read_other same_atom atoms w.node a s p n)

acts_theirs : (w : World) (a : Node) (c : ℕ) (t : NodeTurn) → Lines w → Acts w a c t → Theirs w a t
acts_theirs w a c t lines acts i k m n =
    let other : IsOther a c i k = inl n in
    talk_same (lines i k a m) refl refl (ap (λ o. about (numbered i k) (w.wire a i) ++ o) (acts.sends i k i other) ∙ append-nil (about (numbered i k) (w.wire a i))) (λ M. acts.locks i k M other)

-- another reference of the node's own, which may change its use
acts_other : (w : World) (a : Node) (c : ℕ) (t : NodeTurn) → Lines w → Acts w a c t
    → (k : ℕ) (p : Node) → near w a p → k ≢ c → ((l : talk w a k p) → Fits (t.state.uses k) p l.line)
    → says w (t.state.uses k) p (numbered a k) (about (numbered a k) (w.wire a p) ++ about (numbered a k) (t.sends p)) (about (numbered a k) (w.wire p a)) (upd same_atom w.node a t.state p).locks
acts_other w a c t lines acts k p m n fit =
    talk_same (refit l (fit l)) refl (ap (λ o. about (numbered a k) (w.wire a p) ++ o) (acts.sends a k p other) ∙ append-nil (about (numbered a k) (w.wire a p))) refl
    (λ M. go M (split same_atom atoms p a))
  where
    other : IsOther a c a k
    other = inr (λ e. n (sym e))

    l : talk w a k p
    l = lines a k p m

    go : (M : Term) → (p ≡ a) ⊎ (p ≢ a) → is_holder ((upd same_atom w.node a t.state p).locks M) (numbered a k) ≡ is_holder ((w.node p).locks M) (numbered a k)
    go M (inl e) = ap (λ (f : Locks). is_holder (f M) (numbered a k)) (locks_here w a t.state p e) ∙ (acts.locks a k M other ∙ ap (λ x. is_holder ((w.node x).locks M) (numbered a k)) (sym e))
    go M (inr d) = ap (λ (f : Locks). is_holder (f M) (numbered a k)) (locks_there w a t.state p d)

-- what is said of a reference of node a behind its turn
abbrev pub spoken : World → Node → NodeTurn → ℕ → Node → Type 0
spoken w a t k p = says w (t.state.uses k) p (numbered a k) (about (numbered a k) (w.wire a p) ++ about (numbered a k) (t.sends p)) (about (numbered a k) (w.wire p a)) (upd same_atom w.node a t.state p).locks

pub acts_lines : (w : World) (a : Node) (c : ℕ) (t : NodeTurn) → Inv w → Acts w a c t
    → ((p : Node) → near w a p → spoken w a t c p)
    → ((k : ℕ) (p : Node) → near w a p → k ≢ c → (l : talk w a k p) → Fits (t.state.uses k) p l.line)
    → Lines (perform w a t)
acts_lines w a c t inv acts at_c others = lines_perform w a t (inv.tidy.own a) acts.silent mine (acts_theirs w a c t inv.lines acts) (λ i k p m n d. inv.lines i k p m)
  where
    mine : Mine w a t
    mine k p m = go (split nat_eq numbers k c)
      where
        go : (k ≡ c) ⊎ (k ≢ c) → spoken w a t k p
        go (inl e) = subst (λ x. spoken w a t x p) (sym e) (at_c p m)
        go (inr n) = acts_other w a c t inv.lines acts k p m n (others k p m n)

pub tidy_perform : (w : World) (a : Node) (t : NodeTurn) → Tidy w.wire → t.sends a ≡ [] → ((h : Node) (k : ℕ) (y : Node) → h ≢ a → h ≢ y → about (numbered h k) (t.sends y) ≡ []) → ((y : Node) → AllByRecursion (IsOurs a y) (t.sends y)) → Tidy (perform w a t).wire
tidy_perform w a t tidy silent none ours = record { own = own; stray = stray; ours = both }
  where
    f : Node → List Message
    f = λ y. w.wire a y ++ t.sends y

    own : (x : Node) → (perform w a t).wire x x ≡ []
    own x = go (split same_atom atoms x a)
      where
        go : (x ≡ a) ⊎ (x ≢ a) → (perform w a t).wire x x ≡ []
        go (inl e) = ap (λ (g : Node → List Message). g x) (read_at same_atom atoms w.wire a f x e) ∙ (ap f e ∙ (ap (λ o. o ++ t.sends a) (tidy.own a) ∙ silent))
        go (inr n) = ap (λ (g : Node → List Message). g x) (read_other same_atom atoms w.wire a f x n) ∙ tidy.own x

    stray : (x y h : Node) (c : ℕ) → h ≢ x → h ≢ y → about (numbered h c) ((perform w a t).wire x y) ≡ []
    stray x y h c nx ny = go (split same_atom atoms x a)
      where
        go : (x ≡ a) ⊎ (x ≢ a) → about (numbered h c) ((perform w a t).wire x y) ≡ []
        go (inl e) = ap (λ (g : Node → List Message). about (numbered h c) (g y)) (read_at same_atom atoms w.wire a f x e) ∙ (about-append (numbered h c) (w.wire a y) (t.sends y)
            ∙ (ap (λ o. o ++ about (numbered h c) (t.sends y)) (tidy.stray a y h c (subst (λ z. h ≢ z) e nx) ny) ∙ none h c y (subst (λ z. h ≢ z) e nx) ny))
        go (inr n) = ap (λ (g : Node → List Message). about (numbered h c) (g y)) (read_other same_atom atoms w.wire a f x n) ∙ tidy.stray x y h c nx ny

    both : (x y : Node) → AllByRecursion (IsOurs x y) ((perform w a t).wire x y)
    both x y = at_read same_atom atoms (λ (g : Node → List Message). AllByRecursion (IsOurs x y) (g y)) w.wire a f x
        (λ e. all_both (IsOurs x y) (w.wire a y) (t.sends y) (subst (λ z. AllByRecursion (IsOurs x y) (w.wire z y)) e (tidy.ours x y)) (subst (λ z. AllByRecursion (IsOurs z y) (t.sends y)) (sym e) (ours y)))
        (λ n. tidy.ours x y)

-- what is sent where a test passes
pub ours_sent : (a q : Node) (b : Bool) (x : Message) → IsOurs a q x → AllByRecursion (IsOurs a q) (cond b (x ∷ []) [])
ours_sent a q true x is = (is, tt)
ours_sent a q false x is = tt

pub acts_tidy : (w : World) (a : Node) (c : ℕ) (t : NodeTurn) → Inv w → Acts w a c t → Tidy (perform w a t).wire
acts_tidy w a c t inv acts = tidy_perform w a t inv.tidy acts.silent (λ h k y na ny. acts.sends h k y (inl (λ e. na (sym e)))) acts.ours

pub fitting_perform : (w : World) (a : Node) (t : NodeTurn) → ((i : Node) → ReferencesFit (w.node i)) → ReferencesFit t.state → (i : Node) → ReferencesFit ((perform w a t).node i)
fitting_perform w a t fitting s i = at_read same_atom atoms ReferencesFit w.node a t.state i (λ e. s) (λ n. fitting i)

-- what is read of one node, where node a changes and the reading does not
pub read_same : {A : Type 0} (w : World) (a : Node) (s : State) (f : State → A) → f s ≡ f (w.node a) → (i : Node) → f (upd same_atom w.node a s i) ≡ f (w.node i)
read_same w a s f e i = at_read same_atom atoms (λ x. f x ≡ f (w.node i)) w.node a s i (λ q. e ∙ ap (λ x. f (w.node x)) (sym q)) (λ n. refl)

-- answers, where no command is opened or closed
pub once_same : (w : World) (a : Node) (t : NodeTurn) → t.reported.answered ≡ None → ((op : OpId) → opens (t.state.stages op) ≡ opens ((w.node a).stages op))
    → ((port : ℕ) → (w.node a).counts port ≤ t.state.counts port) → Once w.node w.answered → Once (perform w a t).node (perform w a t).answered
once_same w a t none same counts once = record {
  known = λ i op.
      let p : opens (((perform w a t).node i).stages op) ≡ opens ((w.node i).stages op) = read_same w a t.state (λ (s : State). opens (s.stages op)) (same op) i in
      let q : answers_of i op (perform w a t).answered ≡ answers_of i op w.answered = ap (answers_of i op) reported in
      let r : opens ((w.node i).stages op) + answers_of i op w.answered ≤ 1 = once.known i op in
      omega (arith, p, q, r);
  unknown = λ i op lt.
      let p : (w.node i).counts op.port ≤ ((perform w a t).node i).counts op.port = grown i op.port in
      ap (answers_of i op) reported ∙ once.unknown i op (omega (arith, p, lt));
}
  where
    reported : (perform w a t).answered ≡ w.answered
    reported = ap (λ o. w.answered ++ answer_of a o) none ∙ append-nil w.answered

    grown : (i : Node) (port : ℕ) → (w.node i).counts port ≤ ((perform w a t).node i).counts port
    grown i port = at_read same_atom atoms (λ (s : State). (w.node i).counts port ≤ s.counts port) w.node a t.state i
        (λ e. subst (λ x. (w.node x).counts port ≤ t.state.counts port) (sym e) (counts port)) (λ n. omega arith)

-- a turn that sends nothing and leaves the locks
pub still_lines : (w : World) (a : Node) (s : State) → Inv w → ((M : Term) → s.locks M ≡ (w.node a).locks M)
    → ((k : ℕ) (p : Node) → near w a p → (l : talk w a k p) → Fits (s.uses k) p l.line) → Lines (perform w a (becomes s))
still_lines w a s inv locks fit = lines_perform w a (becomes s) (inv.tidy.own a) refl mine
    (λ i k m n. talk_same (inv.lines i k a m) refl refl (append-nil (about (numbered i k) (w.wire a i))) (λ M. ap (λ o. is_holder o (numbered i k)) (locks M)))
    (λ i k p m n d. inv.lines i k p m)
  where
    mine : Mine w a (becomes s)
    mine k p m =
        let l : talk w a k p = inv.lines a k p m in
        talk_same (refit l (fit k p m l)) refl (append-nil (about (numbered a k) (w.wire a p))) refl
        (λ M. read_same w a s (λ (n : State). is_holder (n.locks M) (numbered a k)) (ap (λ o. is_holder o (numbered a k)) (locks M)) p)

pub still_tidy : (w : World) (a : Node) (s : State) → Inv w → Tidy (perform w a (becomes s)).wire
still_tidy w a s inv = tidy_perform w a (becomes s) inv.tidy refl (λ h k y na ny. refl) (λ y. tt)

-- what is on the way about another reference
pub acts_about : (w : World) (a : Node) (c : ℕ) (t : NodeTurn) → Acts w a c t → (i : Node) (k : ℕ) (x p : Node) → IsOther a c i k → about (numbered i k) ((perform w a t).wire x p) ≡ about (numbered i k) (w.wire x p)
acts_about w a c t acts i k x p other = at_read same_atom atoms (λ (f : Node → List Message). about (numbered i k) (f p) ≡ about (numbered i k) (w.wire x p)) w.wire a (λ y. w.wire a y ++ t.sends y) x
    (λ q. about-append (numbered i k) (w.wire a p) (t.sends p) ∙ (ap (λ o. about (numbered i k) (w.wire a p) ++ o) (acts.sends i k p other) ∙ (append-nil (about (numbered i k) (w.wire a p)) ∙ ap (λ z. about (numbered i k) (w.wire z p)) (sym q))))
    (λ q. refl)
