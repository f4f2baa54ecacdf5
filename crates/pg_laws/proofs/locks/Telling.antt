-- What a turn of one node leaves of what each node was told.
use Rattle.std.proofs.Common.{◌≡◌, ℕ, ◌+◌, ◌≢◌, Bool, true, false, ◌&&◌, cond, List, [], ◌∷◌, ◌++◌}
use Rattle.std.proofs.Common.{Option, Some, None, refl, ap, sym, ◌∙◌, subst, inl, inr, arith, append-nil}
use Rattle.std.specs.Prelude.{nat_eq}
use Rattle.pg_term.specs.declared.term.Term.{Term}
use Rattle.pg_term.specs.RefParts.{RefParts}
use Rattle.pg_term.specs.Same.{same_atom, same_term}
use Rattle.pg_step.specs.PgRefs.Numbered.{numbered}
use Rattle.pg_step.specs.PgGroup.declared.update.Update.{Update}
use Rattle.pg_step.specs.PgGroup.Functions.{upd}
use Rattle.pg_step.specs.PgGroup.Value.{name_of}
use Rattle.pg_step.specs.PgMessageTypes.declared.message.Message.{Message}
use Rattle.pg_step.specs.PgMessageTypes.declared.message.Message.TheVariants.{Call, Reply, DelLock, Exchange, Down}
use Rattle.pg_step.specs.PgMessageTypes.declared.message.Request.TheVariants.{SetLock, Change}
use Rattle.pg_step.specs.declared.command.OpId.{OpId}
use Rattle.pg_step.specs.Nodes.{Node}
use Rattle.pg_step.specs.State.{State, Use}
use Rattle.pg_step.specs.Attempts.{same_op}
use Rattle.pg_step.specs.Turns.{NodeTurn}
use Rattle.pg_laws.proofs.references.Keys.{atoms, numbers, at_read, from_read, differ}
use Rattle.pg_laws.proofs.references.References.{about, about-append, cond_append, refers}
use Rattle.pg_laws.proofs.locks.Named.{World, Entry, perform, listed, entry_of, answer_of, on, of_name, times}
use Rattle.pg_laws.proofs.locks.Thins.{thin_map, thin_push}
use Rattle.pg_laws.specs.Exclusive.{IsUpdateOf}
use Rattle.pg_laws.proofs.locks.Kept.{Tells, Full, Tale, IsOpOf, carried, Inv, live, answers_of}

-- ---- lists

pub on-append : (N : Term) (xs ys : List Update) → on N (xs ++ ys) ≡ on N xs ++ on N ys
on-append N [] ys = refl
on-append N (x ∷ xs) ys = cond_append (same_term N (name_of x)) x (on N (xs ++ ys)) (on N xs) (on N ys) (on-append N xs ys)

pub of_name-append : (N : Term) (xs ys : List Entry) → of_name N (xs ++ ys) ≡ of_name N xs ++ of_name N ys
of_name-append N [] ys = refl
of_name-append N (x ∷ xs) ys = cond_append (same_term N (name_of x.update)) x (of_name N (xs ++ ys)) (of_name N xs) (of_name N ys) (of_name-append N xs ys)

pub times-append : (i : Node) (op : OpId) (xs ys : List Entry) → times i op (xs ++ ys) ≡ times i op xs + times i op ys
times-append i op [] ys = omega arith
times-append i op (x ∷ xs) ys = omega (arith, times-append i op xs ys)

pub answers-append : (i : Node) (op : OpId) (xs ys : List (Node × OpId)) → answers_of i op (xs ++ ys) ≡ answers_of i op xs + answers_of i op ys
answers-append i op [] ys = omega arith
answers-append i op (x ∷ xs) ys = omega (arith, answers-append i op xs ys)

pub carried-append : (xs ys : List Message) → carried (xs ++ ys) ≡ carried xs ++ carried ys
carried-append [] ys = refl
carried-append (Call r (Change u) ∷ xs) ys = ap (λ zs. u ∷ zs) (carried-append xs ys)
carried-append (Call r (SetLock N) ∷ xs) ys = carried-append xs ys
carried-append (Reply r said ∷ xs) ys = carried-append xs ys
carried-append (DelLock N r ∷ xs) ys = carried-append xs ys
carried-append (Exchange n groups ∷ xs) ys = carried-append xs ys
carried-append (Down pid ∷ xs) ys = carried-append xs ys

mute_one : (b : Bool) (x : Message) → carried (x ∷ []) ≡ [] → carried (cond b (x ∷ []) []) ≡ []
mute_one true x e = e
mute_one false x e = refl

-- a packet that carries no update, if it is sent
pub mute_sent : (b : Bool) (x : Message) (r : RefParts) → carried (x ∷ []) ≡ [] → carried (about r (cond b (x ∷ []) [])) ≡ []
mute_sent true x r e = mute_one (refers r x) x e
mute_sent false x r e = refl

-- ---- what a node was told

-- a world as it is, but for what turns change
abbrev pub remade : World → (Node → State) → (Node → Node → List Message) → (Node → List Update) → List Entry → List (Node × OpId) → World
remade w f g l h z = record w { node = f; wire = g; log = l; history = h; answered = z }

-- who has an excuse before node p has it still
abbrev pub Remains : World → Node → List (Node × OpId) → Type 0
Remains w p z = (e : Entry) → w.seen p e.node ≡ true → answers_of e.node e.op w.answered ≡ 0 → answers_of e.node e.op z ≡ 0

module _ (w : World) (f : Node → State) (g : Node → Node → List Message) (l : Node → List Update) (h : List Entry) (z : List (Node × OpId)) (N : Term) (p : Node) where
  pub tell_same : {all all' : List Entry} → Remains w p z → on N (l p) ≡ on N (w.log p) → all' ≡ all → Tells w N p all → Tells (remade w f g l h z) N p all'
  tell_same stays log names t = thin_map (λ e x. (x.0, stays e x.0 x.1)) (λ a x. x) log names t

  pub tell_more : (all : List Entry) {all' : List Entry} (e : Entry) → Remains w p z → on N (l p) ≡ on N (w.log p) ++ e.update ∷ [] → all' ≡ all ++ e ∷ [] → Tells w N p all → Tells (remade w f g l h z) N p all'
  tell_more all e stays log names t = thin_push e (λ x y. (y.0, stays x y.0 y.1)) t log names

  -- who is told all stays so
  pub full_same : Full w N p → Remains w p z → on N (l p) ≡ on N (w.log p) → of_name N h ≡ of_name N w.history
      → ((i : Node) (n : ℕ) → IsUpdateOf N ((f i).uses n) → IsUpdateOf N ((w.node i).uses n))
      → ((i : Node) (n : ℕ) → IsUpdateOf N ((w.node i).uses n) → carried (about (numbered i n) (g i p)) ≡ carried (about (numbered i n) (w.wire i p)))
      → Full (remade w f g l h z) N p
  full_same t stays log names back wires = record {
    thin = tell_same stays log names t.thin;
    clear = λ i n li u. let u' = back i n u in wires i n u' ∙ t.clear i n li u';
  }

  pub tale_same : Tale w N p → Remains w p z → on N (l p) ≡ on N (w.log p) → of_name N h ≡ of_name N w.history
      → ((i : Node) (n : ℕ) → IsUpdateOf N ((w.node i).uses n) → (op : OpId) → IsOpOf ((w.node i).uses n) op → IsOpOf ((f i).uses n) op)
      → ((i : Node) (n : ℕ) → IsUpdateOf N ((f i).uses n) → IsUpdateOf N ((w.node i).uses n))
      → ((i : Node) (n : ℕ) → IsUpdateOf N ((w.node i).uses n) → IsUpdateOf N ((f i).uses n))
      → ((i : Node) (n : ℕ) → IsUpdateOf N ((w.node i).uses n) → carried (about (numbered i n) (g i p)) ≡ carried (about (numbered i n) (w.wire i p)))
      → Tale (remade w f g l h z) N p
  tale_same (inl t) stays log names ops back forth wires = inl (full_same t stays log names back wires)
  tale_same (inr t) stays log names ops back forth wires = inr (record {
    i = t.i;
    n = t.n;
    near_it = t.near_it;
    update = forth t.i t.n t.update;
    before = t.before;
    last = t.last;
    is = names ∙ t.is;
    node = t.node;
    command = ops t.i t.n t.update t.last.op t.command;
    thin = tell_same stays log refl t.thin;
    way = wires t.i t.n t.update ∙ t.way;
  })

-- ---- turns that tell nothing

-- what ways carry, after a turn that sends no update
pub carried_mute : (w : World) (a : Node) (t : NodeTurn) → ((n : ℕ) (p : Node) → carried (about (numbered a n) (t.sends p)) ≡ [])
    → (i : Node) (n : ℕ) (p : Node) → carried (about (numbered i n) ((perform w a t).wire i p)) ≡ carried (about (numbered i n) (w.wire i p))
carried_mute w a t sends i n p = at_read same_atom atoms (λ (f : Node → List Message). carried (about (numbered i n) (f p)) ≡ carried (about (numbered i n) (w.wire i p))) w.wire a (λ y. w.wire a y ++ t.sends y) i
    (λ e. ap carried (about-append (numbered i n) (w.wire a p) (t.sends p)) ∙ (carried-append (about (numbered i n) (w.wire a p)) (about (numbered i n) (t.sends p))
    ∙ (ap (λ xs. carried (about (numbered i n) (w.wire a p)) ++ xs) (subst (λ x. carried (about (numbered x n) (t.sends p)) ≡ []) (sym e) (sends n p))
    ∙ (append-nil (carried (about (numbered i n) (w.wire a p))) ∙ ap (λ x. carried (about (numbered i n) (w.wire x p))) (sym e)))))
    (λ e. refl)

-- a turn that answers nothing leaves all excuses
pub silent_remains : (w : World) (a : Node) (t : NodeTurn) → t.reported.answered ≡ None → (p : Node) → Remains w p (w.answered ++ answer_of a t.reported.answered)
silent_remains w a t none p e seen unanswered = ap (answers_of e.node e.op) (ap (λ o. w.answered ++ answer_of a o) none ∙ append-nil w.answered) ∙ unanswered

-- and so does a turn of a node whose loss nobody has seen
pub live_remains : (w : World) (a : Node) (t : NodeTurn) → live w a → (p : Node) → Remains w p (w.answered ++ answer_of a t.reported.answered)
live_remains w a t la p e seen unanswered =
    let both : answers_of e.node e.op (w.answered ++ answer_of a t.reported.answered) ≡ answers_of e.node e.op w.answered + answers_of e.node e.op (answer_of a t.reported.answered) =
    answers-append e.node e.op w.answered (answer_of a t.reported.answered) in
    let none : answers_of e.node e.op (answer_of a t.reported.answered) ≡ 0 = go t.reported.answered in
    omega (arith, both, none, unanswered)
  where
    apart : e.node ≢ a
    apart same = let y : false ≡ true = sym (la.unseen p) ∙ (ap (w.seen p) (sym same) ∙ seen) in cc

    go : (o : Option OpId) → answers_of e.node e.op (answer_of a o) ≡ 0
    go None = refl
    go (Some op) = ap (λ b. cond {A = ℕ} (b && same_op e.op op) 1 0 + 0) (differ same_atom atoms e.node a apart)

-- a turn that tells nothing: it applies nothing, begins nothing, and sends no update
pub record Mute (w : World) (a : Node) (t : NodeTurn) : Type 0 where
  pub applied : t.reported.applied ≡ None
  pub began : t.reported.began ≡ None
  pub remains : (p : Node) → Remains w p (w.answered ++ answer_of a t.reported.answered)
  pub fewer : (N : Term) (n : ℕ) → IsUpdateOf N (t.state.uses n) → IsUpdateOf N ((w.node a).uses n)
  pub more : (N : Term) (n : ℕ) → IsUpdateOf N ((w.node a).uses n) → IsUpdateOf N (t.state.uses n)
  pub ops : (N : Term) (n : ℕ) → IsUpdateOf N ((w.node a).uses n) → (op : OpId) → IsOpOf ((w.node a).uses n) op → IsOpOf (t.state.uses n) op
  pub sends : (n : ℕ) (p : Node) → carried (about (numbered a n) (t.sends p)) ≡ []

-- what each node has applied, where the turn applies nothing
pub log_same : (w : World) (a : Node) (t : NodeTurn) → t.reported.applied ≡ None → (p : Node) → (perform w a t).log p ≡ w.log p
log_same w a t none p = at_read same_atom atoms (λ x. x ≡ w.log p) w.log a (w.log a ++ listed t.reported.applied) p
    (λ e. ap (λ o. w.log a ++ listed o) none ∙ (append-nil (w.log a) ∙ ap w.log (sym e))) (λ n. refl)

pub history_same : (w : World) (a : Node) (t : NodeTurn) → t.reported.began ≡ None → (perform w a t).history ≡ w.history
history_same w a t none = ap (λ o. w.history ++ entry_of a o) none ∙ append-nil w.history

-- a fact of a use of each node, before and behind
pub use_read : (w : World) (a : Node) (s : State) (P : Node → Use → Type 0) (n : ℕ) → P a (s.uses n) → ((i : Node) → i ≢ a → P i ((w.node i).uses n)) → (i : Node) → P i ((upd same_atom w.node a s i).uses n)
use_read w a s P n here there i = at_read same_atom atoms (λ (x : State). P i (x.uses n)) w.node a s i (λ e. subst (λ x. P x (s.uses n)) (sym e) here) (λ m. there i m)

pub mute_told : (w : World) (a : Node) (t : NodeTurn) → ((N : Term) (p : Node) → live w p → Tale w N p) → Mute w a t → (N : Term) (p : Node) → live w p → Tale (perform w a t) N p
mute_told w a t tales mute N p lp = tale_same w _ _ _ _ _ N p (tales N p lp) (mute.remains p) (ap (on N) (log_same w a t mute.applied p))
    (ap (of_name N) (history_same w a t mute.began)) same_ops back forth (λ i n _. carried_mute w a t mute.sends i n p)
  where
    same_ops : (i : Node) (n : ℕ) → IsUpdateOf N ((w.node i).uses n) → (op : OpId) → IsOpOf ((w.node i).uses n) op → IsOpOf ((upd same_atom w.node a t.state i).uses n) op
    same_ops i n = use_read w a t.state (λ i x. IsUpdateOf N ((w.node i).uses n) → (op : OpId) → IsOpOf ((w.node i).uses n) op → IsOpOf x op) n (mute.ops N n) (λ i m u op is. is) i

    back : (i : Node) (n : ℕ) → IsUpdateOf N ((upd same_atom w.node a t.state i).uses n) → IsUpdateOf N ((w.node i).uses n)
    back i n = use_read w a t.state (λ i x. IsUpdateOf N x → IsUpdateOf N ((w.node i).uses n)) n (mute.fewer N n) (λ i m u. u) i

    forth : (i : Node) (n : ℕ) → IsUpdateOf N ((w.node i).uses n) → IsUpdateOf N ((upd same_atom w.node a t.state i).uses n)
    forth i n = use_read w a t.state (λ i x. IsUpdateOf N ((w.node i).uses n) → IsUpdateOf N x) n (mute.more N n) (λ i m u. u) i

pub mute_tales : (w : World) (a : Node) (t : NodeTurn) → Inv w → Mute w a t → (N : Term) (p : Node) → live w p → Tale (perform w a t) N p
mute_tales w a t inv = mute_told w a t inv.tales

-- ---- one use that becomes another

module _ (f : ℕ → Use) (k : ℕ) (v : Use) (N : Term) where
  pub ops_upd : (IsUpdateOf N (f k) → (op : OpId) → IsOpOf (f k) op → IsOpOf v op) → (n : ℕ) → IsUpdateOf N (f n) → (op : OpId) → IsOpOf (f n) op → IsOpOf (upd nat_eq f k v n) op
  ops_upd g n = at_read nat_eq numbers (λ x. IsUpdateOf N (f n) → (op : OpId) → IsOpOf (f n) op → IsOpOf x op) f k v n
      (λ e. subst (λ x. IsUpdateOf N (f x) → (op : OpId) → IsOpOf (f x) op → IsOpOf v op) (sym e) g) (λ m u op is. is)

  pub fewer_upd : (IsUpdateOf N v → IsUpdateOf N (f k)) → (n : ℕ) → IsUpdateOf N (upd nat_eq f k v n) → IsUpdateOf N (f n)
  fewer_upd g n h = from_read nat_eq numbers (IsUpdateOf N) (IsUpdateOf N (f n)) f k v n h (λ e q. subst (λ x. IsUpdateOf N (f x)) (sym e) (g q)) (λ m q. q)

  pub more_upd : (IsUpdateOf N (f k) → IsUpdateOf N v) → (n : ℕ) → IsUpdateOf N (f n) → IsUpdateOf N (upd nat_eq f k v n)
  more_upd g n h = at_read nat_eq numbers (IsUpdateOf N) f k v n (λ e. g (subst (λ x. IsUpdateOf N (f x)) e h)) (λ m. h)
