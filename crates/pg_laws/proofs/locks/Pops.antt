-- The first packet of a way is taken.
use Rattle.std.proofs.Common.{◌≡◌, ◌≢◌, ℕ, Bool, true, false, cond, List, [], ◌∷◌, ◌++◌}
use Rattle.std.proofs.Common.{refl, ap, sym, ◌∙◌, subst, inl, inr, ◌⊎◌, append-nil}
use Rattle.std.specs.List.{AllByRecursion}
use Rattle.pg_term.specs.declared.term.Term.{Term}
use Rattle.pg_term.specs.RefParts.{RefParts, ref_eq}
use Rattle.pg_term.specs.Same.{same_atom}
use Rattle.pg_step.specs.PgRefs.Numbered.{numbered}
use Rattle.pg_step.specs.PgGroup.Functions.{upd}
use Rattle.pg_step.specs.PgLock.Locks.{is_holder}
use Rattle.pg_step.specs.PgMessageTypes.declared.message.Message.{Message}
use Rattle.pg_step.specs.PgMessageTypes.declared.message.Message.TheVariants.{Call, Reply, DelLock, Exchange, Down}
use Rattle.pg_step.specs.Nodes.{Node}
use Rattle.pg_step.specs.State.{State, Use}
use Rattle.pg_step.specs.Turns.{NodeTurn}
use Rattle.pg_laws.proofs.references.Keys.{atoms, split, upd_same, read_other, at_read}
use Rattle.pg_laws.proofs.references.References.{references, refers, about, about_here}
use Rattle.pg_laws.proofs.references.References.{about_past, IsOther, cases_ref, numbered_other}
use Rattle.pg_laws.proofs.locks.Lines.{talk_same}
use Rattle.pg_laws.proofs.locks.Named.{World, perform, popped}
use Rattle.pg_laws.proofs.locks.Kept.{says, talk, near, Lines, Tidy, IsOurs, carried}
use Rattle.pg_laws.proofs.locks.Kept.{Tale, live, Inv, Mine, Theirs, lines_perform}
use Rattle.pg_laws.proofs.locks.Framed.{tidy_perform, read_same}
use Rattle.pg_laws.proofs.locks.Telling.{tale_same, carried-append}

-- a packet that is gone leaves nothing where nothing was
tail_nil : (b : Bool) (x : Message) (xs : List Message) → cond b (x ∷ xs) xs ≡ [] → xs ≡ []
tail_nil true x xs e = absurd (cc)
tail_nil false x xs e = e

tail_carried : (b : Bool) (x : Message) (xs : List Message) → carried (x ∷ []) ≡ [] → carried xs ≡ carried (cond b (x ∷ xs) xs)
tail_carried true x xs e = sym (carried-append (x ∷ []) xs ∙ ap (λ o. o ++ carried xs) e)
tail_carried false x xs e = refl

-- what is about one reference is about no other
pub refers_other : (r s : RefParts) (x : Message) → ref_eq r s ≡ false → refers r x ≡ true → refers s x ≡ false
refers_other r s (Call q request) n e = ap (λ z. ref_eq z s) (references.is q r e) ∙ n
refers_other r s (Reply q said) n e = ap (λ z. ref_eq z s) (references.is q r e) ∙ n
refers_other r s (DelLock N q) n e = ap (λ z. ref_eq z s) (references.is q r e) ∙ n
refers_other r s (Exchange node groups) n e = refl
refers_other r s (Down pid) n e = refl

module _ (w : World) (a p : Node) (x : Message) (rest : List Message) where
  abbrev pub after : World
  after = popped w p a rest

  pub wire_here : after.wire p a ≡ rest
  wire_here = ap (λ (f : Node → List Message). f a) (upd_same same_atom atoms w.wire p (upd same_atom (w.wire p) a rest)) ∙ upd_same same_atom atoms (w.wire p) a rest

  pub wire_to : (i q : Node) → q ≢ a → after.wire i q ≡ w.wire i q
  wire_to i q n = at_read same_atom atoms (λ (f : Node → List Message). f q ≡ w.wire i q) w.wire p (upd same_atom (w.wire p) a rest) i
      (λ e. read_other same_atom atoms (w.wire p) a rest q n ∙ ap (λ z. w.wire z q) (sym e)) (λ e. refl)

  pub wire_from : (i q : Node) → i ≢ p → after.wire i q ≡ w.wire i q
  wire_from i q n = ap (λ (f : Node → List Message). f q) (read_other same_atom atoms w.wire p (upd same_atom (w.wire p) a rest) i n)

  -- what is read of a way, where the packet does not show
  pub wire_read : {A : Type 0} (f : List Message → A) → w.wire p a ≡ x ∷ rest → f rest ≡ f (x ∷ rest) → (i q : Node) → f (after.wire i q) ≡ f (w.wire i q)
  wire_read f is e i q = go (split same_atom atoms i p) (split same_atom atoms q a)
    where
      go : (i ≡ p) ⊎ (i ≢ p) → (q ≡ a) ⊎ (q ≢ a) → f (after.wire i q) ≡ f (w.wire i q)
      go (inl y) (inl z) = ap (λ k. f (after.wire k q)) y ∙ (ap (λ k. f (after.wire p k)) z ∙ (ap f wire_here ∙ (e ∙ (ap f (sym is) ∙ (ap (λ k. f (w.wire p k)) (sym z) ∙ ap (λ k. f (w.wire k q)) (sym y))))))
      go (inr n) _ = ap f (wire_from i q n)
      go (inl y) (inr n) = ap f (wire_to i q n)

  pub about_else : w.wire p a ≡ x ∷ rest → (r : RefParts) → refers r x ≡ false → (i q : Node) → about r (after.wire i q) ≡ about r (w.wire i q)
  about_else is r other i q = wire_read (about r) is (sym (about_past r x rest other)) i q

  pub carried_else : w.wire p a ≡ x ∷ rest → carried (x ∷ []) ≡ [] → (r : RefParts) (i q : Node) → carried (about r (after.wire i q)) ≡ carried (about r (w.wire i q))
  carried_else is e r i q = wire_read (λ o. carried (about r o)) is (tail_carried (refers r x) x (about r rest) e) i q

  -- nobody sends to itself
  pub pop_apart : Tidy w.wire → w.wire p a ≡ x ∷ rest → p ≢ a
  pop_apart tidy is e = let y : x ∷ rest ≡ w.wire a a = sym is ∙ ap (λ z. w.wire z a) e in let z : w.wire a a ≡ [] = tidy.own a in cc

  pub pop_tidy : Tidy w.wire → w.wire p a ≡ x ∷ rest → Tidy after.wire
  pop_tidy tidy is = record {
    own = λ i. go i (split same_atom atoms i a);
    stray = λ i q h k n m. elim (split same_atom atoms i p) [
      | inr l ↦ ap (about (numbered h k)) (wire_from i q l) ∙ tidy.stray i q h k n m
      | inl y ↦ elim (split same_atom atoms q a) [
        | inr l ↦ ap (about (numbered h k)) (wire_to i q l) ∙ tidy.stray i q h k n m
        | inl z ↦ ap (λ j. about (numbered h k) (after.wire j q)) y ∙ (ap (λ j. about (numbered h k) (after.wire p j)) z ∙ (ap (about (numbered h k)) wire_here
            ∙ tail_nil (refers (numbered h k) x) x (about (numbered h k) rest) (ap (about (numbered h k)) (sym is) ∙ tidy.stray p a h k (λ e. n (e ∙ sym y)) (λ e. m (e ∙ sym z)))))
      ]
    ];
    ours = λ i q. elim (split same_atom atoms i p) [
      | inr l ↦ subst (AllByRecursion (IsOurs i q)) (sym (wire_from i q l)) (tidy.ours i q)
      | inl y ↦ elim (split same_atom atoms q a) [
        | inr l ↦ subst (AllByRecursion (IsOurs i q)) (sym (wire_to i q l)) (tidy.ours i q)
        | inl z ↦ subst (λ j. AllByRecursion (IsOurs j q) (after.wire j q)) (sym y) (subst (λ j. AllByRecursion (IsOurs p j) (after.wire p j)) (sym z)
            (subst (AllByRecursion (IsOurs p a)) (sym wire_here) (subst (AllByRecursion (IsOurs p a)) is (tidy.ours p a)).1))
      ]
    ];
  }
    where
      apart : p ≢ a
      apart = pop_apart tidy is

      go : (i : Node) → (i ≡ a) ⊎ (i ≢ a) → after.wire i i ≡ []
      go i (inl e) = wire_from i i (λ y. apart (sym y ∙ e)) ∙ tidy.own i
      go i (inr n) = wire_to i i n ∙ tidy.own i

  -- what nodes were told, where the packet carries no update
  pub pop_told : Inv w → w.wire p a ≡ x ∷ rest → carried (x ∷ []) ≡ [] → (N : Term) (q : Node) → live after q → Tale after N q
  pop_told inv is none N q lq = tale_same w w.node after.wire w.log w.history w.answered N q (inv.tales N q lq) (λ e s n. n) refl refl (λ i n u op o. o) (λ i n u. u) (λ i n u. u) (λ i n u. carried_else is none (numbered i n) i q)

  -- a packet that is about no reference
  pub pop_plain : Inv w → w.wire p a ≡ x ∷ rest → ((r : RefParts) → refers r x ≡ false) → carried (x ∷ []) ≡ [] → Inv after
  pop_plain inv is plain none = record {
    seats = inv.seats;
    lines = λ i c q m. talk_same (inv.lines i c q m) refl (about_else is (numbered i c) (plain (numbered i c)) i q) (about_else is (numbered i c) (plain (numbered i c)) q i) (λ M. refl);
    tidy = pop_tidy inv.tidy is;
    fitting = inv.fitting;
    tales = pop_told inv is none;
    once = inv.once;
    latest = inv.latest;
  }

-- a turn that answers peer p about its reference number c
pub record Responds (s : State) (a p : Node) (c : ℕ) (t : NodeTurn) : Type 0 where
  pub uses : t.state.uses ≡ s.uses
  pub sends : (h : Node) (k : ℕ) (q : Node) → IsOther p c h k → about (numbered h k) (t.sends q) ≡ []
  pub ours : (q : Node) → AllByRecursion (IsOurs a q) (t.sends q)
  pub elsewhere : (q : Node) → q ≢ p → t.sends q ≡ []
  pub locks : (h : Node) (k : ℕ) (M : Term) → IsOther p c h k → is_holder (t.state.locks M) (numbered h k) ≡ is_holder (s.locks M) (numbered h k)

module _ (w : World) (a p : Node) (c : ℕ) (x : Message) (rest : List Message) (t : NodeTurn) (inv : Inv w) (meets : near w p a) (is : w.wire p a ≡ x ∷ rest) (of_p : refers (numbered p c) x ≡ true) (r : Responds (w.node a) a p c t) where
  abbrev v : World
  v = popped w p a rest

  apart : p ≢ a
  apart = pop_apart w a p x rest inv.tidy is

  not_here : (h : Node) (k : ℕ) → IsOther p c h k → refers (numbered h k) x ≡ false
  not_here h k other = refers_other (numbered p c) (numbered h k) x (numbered_other p h c k other) of_p

  else_ : (h : Node) (k : ℕ) → IsOther p c h k → (i q : Node) → about (numbered h k) (v.wire i q) ≡ about (numbered h k) (w.wire i q)
  else_ h k other i q = about_else w a p x rest is (numbered h k) (not_here h k other) i q

  pub respond_lines :
      (says w ((w.node p).uses c) a (numbered p c) (x ∷ about (numbered p c) rest) (about (numbered p c) (w.wire a p)) (w.node a).locks
      → says w ((w.node p).uses c) a (numbered p c) (about (numbered p c) rest) (about (numbered p c) (w.wire a p) ++ about (numbered p c) (t.sends p)) t.state.locks)
      → Lines (perform (popped w p a rest) a t)
  respond_lines act = lines_perform v a t (wire_from w a p x rest a a (λ e. apart (sym e)) ∙ inv.tidy.own a) (r.elsewhere a (λ e. apart (sym e))) mine theirs others
    where
      mine : Mine v a t
      mine k q m =
          let other : IsOther p c a k = inl apart in
          talk_same (inv.lines a k q m) (ap (λ (f : ℕ → Use). f k) r.uses)
          (ap (λ o. about (numbered a k) (v.wire a q) ++ o) (r.sends a k q other) ∙ (append-nil (about (numbered a k) (v.wire a q)) ∙ else_ a k other a q)) (else_ a k other q a)
          (λ M. read_same w a t.state (λ (n : State). is_holder (n.locks M) (numbered a k)) (r.locks a k M other) q)

      about_p : Node → ℕ → Type 0
      about_p i k = says w ((v.node i).uses k) a (numbered i k) (about (numbered i k) (v.wire i a)) (about (numbered i k) (v.wire a i) ++ about (numbered i k) (t.sends i)) t.state.locks

      active : about_p p c
      active =
          let here : about (numbered p c) (w.wire p a) ≡ x ∷ about (numbered p c) rest = ap (about (numbered p c)) is ∙ about_here (numbered p c) x rest of_p in
          talk_same (act (talk_same (inv.lines p c a meets) refl (sym here) refl (λ M. refl))) refl (ap (about (numbered p c)) (wire_here w a p x rest))
          (ap (λ o. about (numbered p c) o ++ about (numbered p c) (t.sends p)) (wire_from w a p x rest a p (λ e. apart (sym e)))) (λ M. refl)

      theirs : Theirs v a t
      theirs i k m n = go (cases_ref p i c k)
        where
          go : ((p ≡ i) × (c ≡ k)) ⊎ IsOther p c i k → about_p i k
          go (inl e) = subst (λ z. about_p z k) e.0 (subst (about_p p) e.1 active)
          go (inr other) = talk_same (inv.lines i k a m) refl (else_ i k other i a)
              (ap (λ o. about (numbered i k) (v.wire a i) ++ o) (r.sends i k i other) ∙ (append-nil (about (numbered i k) (v.wire a i)) ∙ else_ i k other a i)) (λ M. r.locks i k M other)

      others : (i : Node) (k : ℕ) (q : Node) → near w i q → a ≢ i → a ≢ q → talk v i k q
      others i k q d n m = talk_same (inv.lines i k q d) refl (ap (about (numbered i k)) (wire_to w a p x rest i q (λ e. m (sym e)))) (ap (about (numbered i k)) (wire_to w a p x rest q i (λ e. n (sym e)))) (λ M. refl)

  pub respond_tidy : Tidy (perform (popped w p a rest) a t).wire
  respond_tidy = tidy_perform v a t (pop_tidy w a p x rest inv.tidy is) (r.elsewhere a (λ e. apart (sym e)))
      (λ h k y n m. elim (split same_atom atoms y p) [ inl e ↦ r.sends h k y (inl (λ q. m (sym q ∙ sym e))) | inr l ↦ ap (about (numbered h k)) (r.elsewhere y l) ]) r.ours
