-- What holds of every world of a run, of locks and of updates under them.
use Rattle.std.proofs.Common.{◌≡◌, ℕ, ◌≢◌, ◌<◌, Bool, true, false, List, [], ◌∷◌, ◌++◌}
use Rattle.std.proofs.Common.{refl, ap, ◌∙◌, subst, inl, inr, ◌⊎◌, append-nil, ◌≤◌}
use Rattle.std.specs.List.{AllByRecursion, list_any}
use Rattle.pg_term.specs.declared.term.Term.{Term}
use Rattle.pg_term.specs.RefParts.{RefParts}
use Rattle.pg_term.specs.Same.{same_atom}
use Rattle.pg_step.specs.PgRefs.Numbered.{numbered}
use Rattle.pg_step.specs.PgGroup.declared.update.Update.{Update}
use Rattle.pg_step.specs.PgGroup.Functions.{upd}
use Rattle.pg_step.specs.PgLock.Locks.{Locks, is_holder}
use Rattle.pg_step.specs.PgMessageTypes.declared.message.Message.{Message}
use Rattle.pg_step.specs.PgMessageTypes.declared.message.Message.TheVariants.{Call, Reply, DelLock, Exchange, Down}
use Rattle.pg_step.specs.PgMessageTypes.declared.message.Request.TheVariants.{SetLock, Change}
use Rattle.pg_step.specs.declared.command.OpId.{OpId}
use Rattle.pg_step.specs.Nodes.{Node}
use Rattle.pg_step.specs.State.{State, Use, Stage}
use Rattle.pg_step.specs.State.Use.{Updating}
use Rattle.pg_step.specs.State.Stage.{Closed}
use Rattle.pg_step.specs.Turns.{NodeTurn}
use Rattle.pg_laws.specs.Exclusive.{IsUpdateOf}
use Rattle.pg_laws.specs.ReferencesFit.{ReferencesFit}
use Rattle.pg_laws.proofs.references.Keys.{atoms, cases, upd_at, upd_same, upd_other}
use Rattle.pg_laws.proofs.references.References.{about, about-append}
use Rattle.pg_laws.proofs.locks.Lines.{Talk, talk_same}
use Rattle.std.specs.Prelude.{cond, ◌&&◌, ◌+◌}
use Rattle.pg_step.specs.Attempts.{same_op}
use Rattle.pg_laws.proofs.locks.Named.{World, Entry, Seated, perform, on, of_name}
use Rattle.pg_laws.proofs.locks.Thins.{Thin}

-- a node that may take a step: nobody has seen its loss
pub record Live (nodes : List Node) (seen : Node → Node → Bool) (a : Node) : Type 0 where
  pub there : list_any (same_atom a) nodes ≡ true
  pub unseen : (p : Node) → seen p a ≡ false

abbrev pub live : World → Node → Type 0
live w a = Live w.nodes w.seen a

-- two nodes that have not seen the loss of one another; a node speaks to itself too
pub record Near (nodes : List Node) (seen : Node → Node → Bool) (i p : Node) : Type 0 where
  pub home : list_any (same_atom i) nodes ≡ true
  pub peer : list_any (same_atom p) nodes ≡ true
  pub known : seen p i ≡ false
  pub counts : seen i p ≡ false

abbrev pub near : World → Node → Node → Type 0
near w i p = Near w.nodes w.seen i p

-- a use of a reference, what is on the way about it to node p and back, and the locks of p, agree
abbrev pub says : World → Use → Node → RefParts → List Message → List Message → Locks → Type 0
says w how p r out back locks = Talk how p r out back locks

abbrev pub talk : World → Node → ℕ → Node → Type 0
talk w i c p = says w ((w.node i).uses c) p (numbered i c) (about (numbered i c) (w.wire i p)) (about (numbered i c) (w.wire p i)) (w.node p).locks

-- every reference of every node is somewhere on its way to every node
abbrev pub Lines : World → Type 0
Lines w = (i : Node) (c : ℕ) (p : Node) → near w i p → talk w i c p

-- requests are about references of the sender, and replies about references of the receiver
abbrev pub IsOurs : Node → Node → Message → Type 0
IsOurs x y (Call r request) = (c : ℕ) × (r ≡ numbered x c)
IsOurs x y (Reply r said) = (c : ℕ) × (r ≡ numbered y c)
IsOurs x y (DelLock N r) = (c : ℕ) × (r ≡ numbered x c)
IsOurs x y _ = Unit {0}

-- nothing is on the way that is about a third node, or from a node to itself
pub record Tidy (wire : Node → Node → List Message) : Type 0 where
  pub own : (x : Node) → wire x x ≡ []
  pub stray : (x y h : Node) (c : ℕ) → h ≢ x → h ≢ y → about (numbered h c) (wire x y) ≡ []
  pub ours : (x y : Node) → AllByRecursion (IsOurs x y) (wire x y)

-- the updates that messages carry
abbrev pub carried : List Message → List Update
carried [] = []
carried (Call r (Change u) ∷ xs) = u ∷ carried xs
carried (Call r (SetLock N) ∷ xs) = carried xs
carried (Reply r said ∷ xs) = carried xs
carried (DelLock N r ∷ xs) = carried xs
carried (Exchange n groups ∷ xs) = carried xs
carried (Down pid ∷ xs) = carried xs

-- the command of an update
pub data IsOpOf : Use → OpId → Type 0 where
  updating : (op : OpId) (u : Update) (c : ℕ) (rep : Node → Bool) → IsOpOf (Updating op u c rep) op

-- the update u of the command op
abbrev pub IsUpdating : OpId → Update → Use → Type 0
IsUpdating op u (Updating o v c rep) = (o ≡ op) × (v ≡ u)
IsUpdating op u _ = ⊥

-- how often a command was answered
abbrev pub answers_of : Node → OpId → List (Node × OpId) → ℕ
answers_of a op [] = 0
answers_of a op (x ∷ xs) = cond (same_atom a x.0 && same_op op x.1) 1 0 + answers_of a op xs

-- an entry of a node whose loss node p has seen, and which was not answered
abbrev pub Excused : World → Node → Entry → Type 0
Excused w p e = (w.seen p e.node ≡ true) × (answers_of e.node e.op w.answered ≡ 0)

-- node p was told of these entries of a name, and of no others, but for one at most of each node whose loss it has seen
abbrev pub Tells : World → Term → Node → List Entry → Type 0
Tells w N p all = Thin (Excused w p) (w.seen p) (on N (w.log p)) all

-- node p has been told all that it will be told of a name
pub record Full (w : World) (N : Term) (p : Node) : Type 0 where
  pub thin : Tells w N p (of_name N w.history)
  pub clear : (i : Node) (n : ℕ) → near w i p → IsUpdateOf N ((w.node i).uses n) → carried (about (numbered i n) (w.wire i p)) ≡ []

-- node p has yet to take the last update of a name
pub record Due (w : World) (N : Term) (p : Node) : Type 0 where
  pub i : Node
  pub n : ℕ
  pub near_it : near w i p
  pub update : IsUpdateOf N ((w.node i).uses n)
  pub before : List Entry
  pub last : Entry
  pub is : of_name N w.history ≡ before ++ last ∷ []
  pub node : last.node ≡ i
  pub command : IsOpOf ((w.node i).uses n) last.op
  pub thin : Tells w N p before
  pub way : carried (about (numbered i n) (w.wire i p)) ≡ last.update ∷ []

abbrev pub Tale : World → Term → Node → Type 0
Tale w N p = Full w N p ⊎ Due w N p

-- What a turn leaves of the lines

-- what comes to the node that does its turn is as it was
into : (w : World) (a : Node) (t : NodeTurn) → w.wire a a ≡ [] → t.sends a ≡ [] → (p : Node) → (perform w a t).wire p a ≡ w.wire p a
into w a t own none p = go (cases same_atom atoms a p)
  where
    go : (a ≡ p) ⊎ (a ≢ p) → (perform w a t).wire p a ≡ w.wire p a
    go (inl e) = ap (λ (f : Node → List Message). f a) (upd_at same_atom atoms w.wire a (λ y. w.wire a y ++ t.sends y) p e) ∙ (ap (λ o. w.wire a a ++ o) none ∙ (append-nil (w.wire a a) ∙ ap (λ x. w.wire x a) e))
    go (inr n) = ap (λ (f : Node → List Message). f a) (upd_other same_atom atoms w.wire a (λ y. w.wire a y ++ t.sends y) p n)

from_a : (w : World) (a : Node) (t : NodeTurn) (r : RefParts) (p : Node) → about r ((perform w a t).wire a p) ≡ about r (w.wire a p) ++ about r (t.sends p)
from_a w a t r p = ap (λ (f : Node → List Message). about r (f p)) (upd_same same_atom atoms w.wire a (λ y. w.wire a y ++ t.sends y)) ∙ about-append r (w.wire a p) (t.sends p)

from_other : (w : World) (a : Node) (t : NodeTurn) (x y : Node) → a ≢ x → (perform w a t).wire x y ≡ w.wire x y
from_other w a t x y n = ap (λ (f : Node → List Message). f y) (upd_other same_atom atoms w.wire a (λ y. w.wire a y ++ t.sends y) x n)

abbrev pub Mine : World → Node → NodeTurn → Type 0
Mine w a t = (k : ℕ) (p : Node) → near w a p → says w (t.state.uses k) p (numbered a k) (about (numbered a k) (w.wire a p) ++ about (numbered a k) (t.sends p)) (about (numbered a k) (w.wire p a)) (upd same_atom w.node a t.state p).locks

abbrev pub Theirs : World → Node → NodeTurn → Type 0
Theirs w a t = (i : Node) (k : ℕ) → near w i a → a ≢ i → says w ((w.node i).uses k) a (numbered i k) (about (numbered i k) (w.wire i a)) (about (numbered i k) (w.wire a i) ++ about (numbered i k) (t.sends i)) t.state.locks

abbrev pub Rest : World → Node → Type 0
Rest w a = (i : Node) (k : ℕ) (p : Node) → near w i p → a ≢ i → a ≢ p → talk w i k p

pub lines_perform : (w : World) (a : Node) (t : NodeTurn) → w.wire a a ≡ [] → t.sends a ≡ [] → Mine w a t → Theirs w a t → Rest w a → Lines (perform w a t)
lines_perform w a t own none mine theirs rest i k p near_ = go (cases same_atom atoms a i) (cases same_atom atoms a p)
  where
    v : World
    v = perform w a t

    at_a : near w a p → talk v a k p
    at_a m = talk_same (mine k p m) (ap (λ (s : State). s.uses k) (upd_same same_atom atoms w.node a t.state)) (from_a w a t (numbered a k) p) (ap (about (numbered a k)) (into w a t own none p)) (λ M. refl)

    at_p : near w i a → a ≢ i → talk v i k a
    at_p m n = talk_same (theirs i k m n) (ap (λ (s : State). s.uses k) (upd_other same_atom atoms w.node a t.state i n)) (ap (about (numbered i k)) (from_other w a t i a n)) (from_a w a t (numbered i k) i)
        (λ M. ap (λ (s : State). is_holder (s.locks M) (numbered i k)) (upd_same same_atom atoms w.node a t.state))

    go : (a ≡ i) ⊎ (a ≢ i) → (a ≡ p) ⊎ (a ≢ p) → talk v i k p
    go (inl e) _ = subst (λ x. near w x p → talk v x k p) e at_a near_
    go (inr n) (inl e) = subst (λ x. near w i x → talk v i k x) e (λ m. at_p m n) near_
    go (inr n) (inr m) = talk_same (rest i k p near_ n m) (ap (λ (s : State). s.uses k) (upd_other same_atom atoms w.node a t.state i n)) (ap (about (numbered i k)) (from_other w a t i p n)) (ap (about (numbered i k)) (from_other w a t p i m))
        (λ M. ap (λ (s : State). is_holder (s.locks M) (numbered i k)) (upd_other same_atom atoms w.node a t.state p m))

-- Answers of commands

-- a command is open, or not
abbrev pub opens : Stage → ℕ
opens Closed = 0
opens _ = 1

-- a command is answered behind its lock once at most, and not while it is open or before it came in
pub record Once (node : Node → State) (answered : List (Node × OpId)) : Type 0 where
  pub known : (i : Node) (op : OpId) → opens ((node i).stages op) + answers_of i op answered ≤ 1
  pub unknown : (i : Node) (op : OpId) → (node i).counts op.port < op.number → answers_of i op answered ≡ 0

-- the update of an entry goes out
pub record GoesOut (nodes : List Node) (seen : Node → Node → Bool) (node : Node → State) (e : Entry) : Type 0 where
  pub there : Live nodes seen e.node
  pub number : ℕ
  pub update : IsUpdating e.op e.update ((node e.node).uses number)

-- an entry that is not answered yet, of a node whose loss nobody has seen, is the last of its name, and its update goes out
abbrev pub Latest : World → Type 0
Latest w = (N : Term) (before after : List Entry) (e : Entry) → of_name N w.history ≡ before ++ e ∷ after → answers_of e.node e.op w.answered ≡ 0 → ((p : Node) → w.seen p e.node ≡ false)
    → (after ≡ []) × GoesOut w.nodes w.seen w.node e

pub record Inv (w : World) : Type 0 where
  pub seats : Seated w.nodes w.seen w.seat
  pub lines : Lines w
  pub tidy : Tidy w.wire
  pub fitting : (i : Node) → ReferencesFit (w.node i)
  pub tales : (N : Term) (p : Node) → live w p → Tale w N p
  pub once : Once w.node w.answered
  pub latest : Latest w

-- Who is near whom

pub live_own : (w : World) (a : Node) → live w a → near w a a
live_own w a la = record { home = la.there; peer = la.there; known = la.unseen a; counts = la.unseen a }

pub near_live : (w : World) (i p : Node) → live w i → live w p → near w i p
near_live w i p li lp = record { home = li.there; peer = lp.there; known = li.unseen p; counts = lp.unseen i }

pub near_swap : (w : World) (i p : Node) → near w i p → near w p i
near_swap w i p m = record { home = m.peer; peer = m.home; known = m.counts; counts = m.known }
