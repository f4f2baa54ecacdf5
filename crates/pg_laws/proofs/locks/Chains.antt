-- Turns one after another.
use Rattle.std.proofs.Common.{◌≡◌, ◌≢◌, ℕ, ◌+◌, Bool, true, false, not, cond, List, [], ◌++◌, Option}
use Rattle.std.proofs.Common.{Some, None, nat_eq, refl, ap, sym, ◌∙◌, subst, inl, inr, ◌⊎◌, append-nil}
use Rattle.std.proofs.Math.Path.{fun_ext}
use Rattle.std.proofs.lemmas.List.{append_assoc}
use Rattle.pg_term.specs.Same.{same_atom}
use Rattle.pg_step.specs.PgGroup.declared.update.Update.{Update}
use Rattle.pg_step.specs.PgGroup.Functions.{upd}
use Rattle.pg_step.specs.PgMessageTypes.declared.message.Message.{Message}
use Rattle.pg_step.specs.declared.command.OpId.{OpId}
use Rattle.pg_step.specs.PgLock.Attempts.{after_round, does_wait}
use Rattle.pg_step.specs.Nodes.{Node, Nodes, every, greatest}
use Rattle.pg_step.specs.State.{State, Status, Use}
use Rattle.pg_step.specs.State.Status.{Unasked, Asked, Yes, No}
use Rattle.pg_step.specs.State.Use.{Fresh, Spent, Locking, Owning, Updating}
use Rattle.pg_step.specs.State.Stage.{Waiting}
use Rattle.pg_step.specs.Turns.{NodeTurn, Report, becomes, and_then, first_of}
use Rattle.pg_step.specs.Attempts.{round_of, is_asked, is_yes, none_missing, none_denied, all_granted, begin}
use Rattle.pg_step.specs.Attempts.{finish, give_up, ask, new_attempt, replies_in, locks_in, go_on, attempt}
use Rattle.pg_laws.proofs.references.Keys.{atoms, numbers, cases, upd_at, upd_other, upd_same}
use Rattle.pg_laws.proofs.locks.Named.{World, Entry, perform, listed, entry_of, answer_of}
use Rattle.pg_laws.proofs.locks.Kept.{Inv, live}
use Rattle.pg_laws.proofs.locks.Telling.{remade}
use Rattle.pg_laws.proofs.locks.Seats.{Sits, seated, every_near}
use Rattle.pg_laws.proofs.locks.Starts.{start_keeps}
use Rattle.pg_laws.proofs.locks.Asks.{ask_keeps}
use Rattle.pg_laws.proofs.locks.Fails.{fail_keeps, yes_is}
use Rattle.pg_laws.proofs.locks.Begins.{begin_keeps}
use Rattle.pg_laws.proofs.locks.Finishes.{finish_keeps}

-- ---- one turn after the other is both at once

-- of two turns in a row at most one applies an update, at most one begins one, and at most one answers
pub record Together (t u : Report) : Type 0 where
  pub applied : (t.applied ≡ None) ⊎ (u.applied ≡ None)
  pub began : (t.began ≡ None) ⊎ (u.began ≡ None)
  pub answered : (t.answered ≡ None) ⊎ (u.answered ≡ None)

listed_both : {A : Type 0} (x y : Option A) → (x ≡ None) ⊎ (y ≡ None) → listed (first_of x y) ≡ listed x ++ listed y
listed_both None y e = refl
listed_both (Some x) None e = refl
listed_both (Some x) (Some y) (inl e) = absurd (cc)
listed_both (Some x) (Some y) (inr e) = absurd (cc)

entry_both : (a : Node) (x y : Option (OpId × Update)) → (x ≡ None) ⊎ (y ≡ None) → entry_of a (first_of x y) ≡ entry_of a x ++ entry_of a y
entry_both a None y e = refl
entry_both a (Some (op, u)) None e = refl
entry_both a (Some x) (Some y) (inl e) = absurd (cc)
entry_both a (Some x) (Some y) (inr e) = absurd (cc)

answer_both : (a : Node) (x y : Option OpId) → (x ≡ None) ⊎ (y ≡ None) → answer_of a (first_of x y) ≡ answer_of a x ++ answer_of a y
answer_both a None y e = refl
answer_both a (Some op) None e = refl
answer_both a (Some x) (Some y) (inl e) = absurd (cc)
answer_both a (Some x) (Some y) (inr e) = absurd (cc)

upd_twice : {A : Type 0} (f : Node → A) (a : Node) (x y : A) → upd same_atom f a y ≡ upd same_atom (upd same_atom f a x) a y
upd_twice {A} f a x y = fun_ext (λ k. go k (cases same_atom atoms a k))
  where
    go : (k : Node) → (a ≡ k) ⊎ (a ≢ k) → upd same_atom f a y k ≡ upd same_atom (upd same_atom f a x) a y k
    go k (inl e) = upd_at same_atom atoms f a y k e ∙ sym (upd_at same_atom atoms (upd same_atom f a x) a y k e)
    go k (inr n) = upd_other same_atom atoms f a y k n ∙ sym (upd_other same_atom atoms (upd same_atom f a x) a y k n ∙ upd_other same_atom atoms f a x k n)

pub upd_old : {A : Type 0} (f : Node → A) (a : Node) (x : A) → x ≡ f a → upd same_atom f a x ≡ f
upd_old {A} f a x e = fun_ext (λ k. go k (cases same_atom atoms a k))
  where
    go : (k : Node) → (a ≡ k) ⊎ (a ≢ k) → upd same_atom f a x k ≡ f k
    go k (inl q) = upd_at same_atom atoms f a x k q ∙ e ∙ ap f q
    go k (inr n) = upd_other same_atom atoms f a x k n

pub world_path : (w : World) {f f' : Node → State} {g g' : Node → Node → List Message} {l l' : Node → List Update} {h h' : List Entry} {z z' : List (Node × OpId)}
    → f ≡ f' → g ≡ g' → l ≡ l' → h ≡ h' → z ≡ z' → remade w f g l h z ≡ remade w f' g' l' h' z'
world_path w p q r s t = λ i. remade w (p i) (q i) (r i) (s i) (t i)

pub perform_then : (w : World) (a : Node) (t : NodeTurn) (f : State → NodeTurn) → Together t.reported (f t.state).reported → perform w a (and_then t f) ≡ perform (perform w a t) a (f t.state)
perform_then w a t f both = world_path w (upd_twice w.node a t.state t'.state)
    (ap (λ x. upd {A = Node → List Message} same_atom w.wire a x) (fun_ext (λ y. sym (append_assoc (w.wire a y) (t.sends y) (t'.sends y))
    ∙ ap (λ (g : Node → List Message). g y ++ t'.sends y) (sym (upd_same same_atom atoms w.wire a F)))) ∙ upd_twice w.wire a F G)
    (ap (λ x. upd same_atom w.log a x) (ap (λ x. w.log a ++ x) (listed_both t.reported.applied t'.reported.applied both.applied) ∙ (sym (append_assoc (w.log a) (listed t.reported.applied) (listed t'.reported.applied))
    ∙ ap (λ x. x ++ listed t'.reported.applied) (sym (upd_same same_atom atoms w.log a L)))) ∙ upd_twice w.log a L (upd same_atom w.log a L a ++ listed t'.reported.applied))
    (ap (λ x. w.history ++ x) (entry_both a t.reported.began t'.reported.began both.began) ∙ sym (append_assoc w.history (entry_of a t.reported.began) (entry_of a t'.reported.began)))
    (ap (λ x. w.answered ++ x) (answer_both a t.reported.answered t'.reported.answered both.answered) ∙ sym (append_assoc w.answered (answer_of a t.reported.answered) (answer_of a t'.reported.answered)))
  where
    t' : NodeTurn
    t' = f t.state

    F : Node → List Message
    F = λ y. w.wire a y ++ t.sends y

    G : Node → List Message
    G = λ y. upd {A = Node → List Message} same_atom w.wire a F a y ++ t'.sends y

    L : List Update
    L = w.log a ++ listed t.reported.applied

pub perform_still : (w : World) (a : Node) → perform w a (becomes (w.node a)) ≡ w
perform_still w a = world_path w (upd_old w.node a (w.node a) refl) (upd_old w.wire a (λ y. w.wire a y ++ []) (fun_ext (λ y. append-nil (w.wire a y))))
    (upd_old w.log a (w.log a ++ []) (append-nil (w.log a))) (append-nil w.history) (append-nil w.answered)

pub still_keeps : (w : World) (a : Node) → Inv w → Inv (perform w a (becomes (w.node a)))
still_keeps w a inv = subst Inv (sym (perform_still w a)) inv

-- a turn, and then what follows from its state
pub chain : (w : World) (a : Node) (t : NodeTurn) (f : State → NodeTurn) → Together t.reported (f t.state).reported → Inv (perform w a t)
    → ((x : Node → State) (y : Node → Node → List Message) (l : Node → List Update) (h : List Entry) (z : List (Node × OpId)) → x a ≡ t.state → z ≡ w.answered ++ answer_of a t.reported.answered → Inv (remade w x y l h z) → Inv (perform (remade w x y l h z) a (f (x a))))
    → Inv (perform w a (and_then t f))
chain w a t f both inv next = subst Inv (sym (perform_then w a t f both))
    (subst (λ s. Inv (perform (perform w a t) a (f s))) (upd_same same_atom atoms w.node a t.state)
    (next (perform w a t).node (perform w a t).wire (perform w a t).log (perform w a t).history (perform w a t).answered (upd_same same_atom atoms w.node a t.state) refl inv))

-- ---- what follows once answers are in

not_asked : (v : Status) → not (is_asked v) ≡ true → v ≢ Asked
not_asked Asked e = λ q. cc
not_asked Unasked e = λ q. cc
not_asked Yes e = λ q. cc
not_asked No e = λ q. cc

-- what follows the beginning of an update applies nothing and begins nothing
module _ (m : Nodes) (n : ℕ) (s : State) where
  pub replies_applied : (how : Use) → (replies_in m n how s).reported.applied ≡ None
  replies_applied Fresh = refl
  replies_applied Spent = refl
  replies_applied (Locking op u lead st) = refl
  replies_applied (Owning N c) = refl
  replies_applied (Updating op u c rep) = go (every m rep)
    where
      go : (b : Bool) → (cond b (finish m n op u c s) (becomes s)).reported.applied ≡ None
      go true = refl
      go false = refl

  pub replies_began : (how : Use) → (replies_in m n how s).reported.began ≡ None
  replies_began Fresh = refl
  replies_began Spent = refl
  replies_began (Locking op u lead st) = refl
  replies_began (Owning N c) = refl
  replies_began (Updating op u c rep) = go (every m rep)
    where
      go : (b : Bool) → (cond b (finish m n op u c s) (becomes s)).reported.began ≡ None
      go true = refl
      go false = refl

module _ (w : World) (a : Node) (peers : List Node) (sits : Sits w.nodes w.seen a peers) (la : live w a) (inv : Inv w) where
  abbrev m : Nodes
  m = seated a peers

  abbrev s : State
  s = w.node a

  pub replies_in_keeps : (n : ℕ) (how : Use) → s.uses n ≡ how → Inv (perform w a (replies_in (seated a peers) n how (w.node a)))
  replies_in_keeps n Fresh e = still_keeps w a inv
  replies_in_keeps n Spent e = still_keeps w a inv
  replies_in_keeps n (Locking op u lead st) e = still_keeps w a inv
  replies_in_keeps n (Owning N c) e = still_keeps w a inv
  replies_in_keeps n (Updating op u c rep) e = go (every m rep) refl
    where
      go : (b : Bool) → every m rep ≡ b → Inv (perform w a (cond b (finish m n op u c s) (becomes s)))
      go false q = still_keeps w a inv
      go true q = finish_keeps w a peers sits n op u c rep la e (every_near w.nodes w.seen a peers sits rep q) inv

  pub fails : (c : ℕ) (op : OpId) (u : Update) (lead : Node) (st : Node → Status) → s.uses c ≡ Locking op u lead st → (b : Bool) → none_missing m st ≡ b → Inv (perform w a (cond b (give_up m c op u st s) (becomes s)))
  fails c op u lead st e false q = still_keeps w a inv
  fails c op u lead st e true q = fail_keeps w a peers sits c op u lead st la e (λ p d. not_asked (st p) (every_near w.nodes w.seen a peers sits (λ q. not (is_asked (st q))) q p d)) inv

module _ (w : World) (a : Node) (peers : List Node) (sits : Sits w.nodes w.seen a peers) (la : live w a) (inv : Inv w) where
  abbrev known : Nodes
  known = seated a peers

  pub locks_in_keeps : (c : ℕ) (how : Use) → (w.node a).uses c ≡ how → Inv (perform w a (locks_in (seated a peers) c how (w.node a)))
  locks_in_keeps c Fresh e = still_keeps w a inv
  locks_in_keeps c Spent e = still_keeps w a inv
  locks_in_keeps c (Owning N n) e = still_keeps w a inv
  locks_in_keeps c (Updating op u k rep) e = still_keeps w a inv
  locks_in_keeps c (Locking op u lead st) e = go (all_granted known st) refl
    where
      more : State → NodeTurn
      more = λ t. replies_in known t.references (t.uses t.references) t

      go : (b : Bool) → all_granted known st ≡ b
          → Inv (perform w a (cond b (and_then (begin known c op u (w.node a)) more) (cond (none_missing known st) (give_up known c op u st (w.node a)) (becomes (w.node a)))))
      go true q = chain w a (begin known c op u (w.node a)) more
          (let t = (begin known c op u (w.node a)).state in
          record { applied = inr (replies_applied known t.references t (t.uses t.references)); began = inr (replies_began known t.references t (t.uses t.references)); answered = inl refl })
          (begin_keeps w a peers sits c op u lead st la e (λ p d. yes_is (st p) (every_near w.nodes w.seen a peers sits (λ q. is_yes (st q)) q p d)) inv)
          (λ x y l h z d k i. replies_in_keeps (remade w x y l h z) a peers sits la i (x a).references ((x a).uses (x a).references) refl)
      go false q = fails w a peers sits la inv c op u lead st e (none_missing known st) refl

module _ (w : World) (a : Node) (peers : List Node) (sits : Sits w.nodes w.seen a peers) (la : live w a) (inv : Inv w) where
  abbrev all_known : Nodes
  all_known = seated a peers

  pub go_on_keeps : (c : ℕ) (how : Use) → (w.node a).uses c ≡ how → Inv (perform w a (go_on (seated a peers) c how (w.node a)))
  go_on_keeps c Fresh e = still_keeps w a inv
  go_on_keeps c Spent e = still_keeps w a inv
  go_on_keeps c (Owning N n) e = still_keeps w a inv
  go_on_keeps c (Updating op u k rep) e = still_keeps w a inv
  go_on_keeps c (Locking op u lead st) e = go (none_missing all_known st) (does_wait (after_round (round_of lead st) (none_denied all_known st))) refl
    where
      more : State → NodeTurn
      more = λ t. locks_in all_known c (t.uses c) t

      go : (b d : Bool) → none_missing all_known st ≡ b
          → Inv (perform w a (cond b (cond d (give_up all_known c op u st (w.node a)) (and_then (ask all_known (λ q. true) c op u lead st (w.node a)) more)) (becomes (w.node a))))
      go true false _ = chain w a (ask all_known (λ q. true) c op u lead st (w.node a)) more (record { applied = inl refl; began = inl refl; answered = inl refl })
          (ask_keeps w a peers sits c op u lead st (λ q. true) e inv)
          (λ x y l h z d k i. locks_in_keeps (remade w x y l h z) a peers sits la i c ((x a).uses c) refl)
      go true true q = fails w a peers sits la inv c op u lead st e true q
      go false d _ = still_keeps w a inv

-- ---- an attempt

pub attempt_keeps : (w : World) (a : Node) (peers : List Node) → Sits w.nodes w.seen a peers → live w a → Inv w → (op : OpId) (u : Update) → (w.node a).stages op ≡ Waiting u → Inv (perform w a (attempt (seated a peers) op u (w.node a)))
attempt_keeps w a peers sits la inv op u is = chain w a (new_attempt (greatest m) op u (w.node a)) first (record { applied = inl refl; began = inl refl; answered = inl refl }) (start_keeps w a (greatest m) op u inv is)
    (λ x y l h z e k i. chain (remade w x y l h z) a (ask m who (x a).references op u (greatest m) none (x a)) (more (x a).references) (record { applied = inl refl; began = inl refl; answered = inl refl })
    (ask_keeps (remade w x y l h z) a peers sits (x a).references op u (greatest m) none who (ap (λ (s : State). s.uses s.references) e ∙ upd_same nat_eq numbers (w.node a).uses ((w.node a).references + 1) (Locking op u (greatest m) none)) i)
    (λ x' y' l' h' z' e' k' i'. go_on_keeps (remade w x' y' l' h' z') a peers sits la i' (x a).references ((x' a).uses (x a).references) refl))
  where
    m : Nodes
    m = seated a peers

    none : Node → Status
    none = λ q. Unasked

    who : Node → Bool
    who = same_atom (greatest m)

    more : ℕ → State → NodeTurn
    more = λ c r. go_on m c (r.uses c) r

    first : State → NodeTurn
    first = λ t. and_then (ask m who t.references op u (greatest m) none t) (more t.references)
