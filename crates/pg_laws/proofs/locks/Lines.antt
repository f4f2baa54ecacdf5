-- How far a reference has come between its home and one node, which may be the home itself.
use Rattle.std.proofs.Common.{◌≡◌, Bool, true, false, List, [], ◌∷◌, ap, sym, ◌∙◌, subst}
use Rattle.pg_term.specs.declared.term.Term.{Term}
use Rattle.pg_term.specs.RefParts.{RefParts}
use Rattle.pg_term.specs.Same.{same_term}
use Rattle.pg_step.specs.PgGroup.declared.update.Update.{Update}
use Rattle.pg_step.specs.PgGroup.Value.{name_of}
use Rattle.pg_step.specs.PgLock.Locks.{Locks, is_holder}
use Rattle.pg_step.specs.PgMessageTypes.declared.message.Message.{Message}
use Rattle.pg_step.specs.PgMessageTypes.declared.message.Message.TheVariants.{Call, Reply, DelLock}
use Rattle.pg_step.specs.PgMessageTypes.declared.message.Request.TheVariants.{SetLock, Change}
use Rattle.pg_step.specs.PgMessageTypes.declared.message.Said.TheVariants.{Granted, Denied, Applied}
use Rattle.pg_step.specs.Nodes.{Node}
use Rattle.pg_step.specs.State.{Status, Use}
use Rattle.pg_step.specs.State.Status.{Unasked, Asked, Yes, No}
use Rattle.pg_step.specs.State.Use.{Fresh, Spent, Locking, Owning, Updating}

pub data Line : Type 0 where
  -- nothing is on the way, and nothing is held
  Quiet : Line
  -- the lock is being freed
  Closing : Term → Line
  -- the lock of a name is asked for, granted on the way back, denied on the way back, held
  Wanting : Term → Line
  Giving : Term → Line
  Refusing : Line
  Having : Term → Line
  -- an update is on its way, its ok on the way back
  Telling : Update → Line
  Confirming : Line

-- what is on the way from the home
abbrev pub outs : RefParts → Line → List Message
outs r (Closing N) = DelLock N r ∷ []
outs r (Wanting N) = Call r (SetLock N) ∷ []
outs r (Telling u) = Call r (Change u) ∷ []
outs r _ = []

-- and back to it
abbrev pub backs : RefParts → Line → List Message
backs r (Giving N) = Reply r Granted ∷ []
backs r Refusing = Reply r Denied ∷ []
backs r Confirming = Reply r Applied ∷ []
backs r _ = []

-- whether the reference has the lock of a name there
abbrev pub holds : Line → Term → Bool
holds (Closing N) M = same_term N M
holds (Giving N) M = same_term N M
holds (Having N) M = same_term N M
holds _ M = false

abbrev pub IsIdle : Line → Type 0
IsIdle Quiet = Unit {0}
IsIdle (Closing N) = Unit {0}
IsIdle _ = ⊥

abbrev pub IsAsked : Term → Line → Type 0
IsAsked N (Wanting M) = M ≡ N
IsAsked N (Giving M) = M ≡ N
IsAsked N Refusing = Unit {0}
IsAsked N _ = ⊥

abbrev pub IsTold : Update → Line → Type 0
IsTold u (Telling v) = v ≡ u
IsTold u Confirming = Unit {0}
IsTold u _ = ⊥

abbrev pub FitsStatus : Term → Status → Line → Type 0
FitsStatus N Unasked l = l ≡ Quiet
FitsStatus N Asked l = IsAsked N l
FitsStatus N Yes l = l ≡ Having N
FitsStatus N No l = IsIdle l

abbrev pub FitsReply : Update → Bool → Line → Type 0
FitsReply u false l = IsTold u l
FitsReply u true l = l ≡ Quiet

-- what the home uses the reference for fits how far it has come towards node p
abbrev pub Fits : Use → Node → Line → Type 0
Fits Fresh p l = l ≡ Quiet
Fits Spent p l = IsIdle l
Fits (Locking op u lead st) p l = FitsStatus (name_of u) (st p) l
Fits (Owning N U) p l = l ≡ Having N
Fits (Updating op u c replied) p l = FitsReply u (replied p) l

-- what is on the way, of what was sent
abbrev pub Sent : List Message → List Message → Type 0
Sent way all = way ≡ all

pub sent_all : {way all : List Message} → way ≡ all → Sent way all
sent_all e = e

pub sent_nil : {way : List Message} → Sent way [] → way ≡ []
sent_nil e = e

pub sent_has : {x : Message} {xs all : List Message} → Sent (x ∷ xs) all → x ∷ xs ≡ all
sent_has e = e

-- The use of a reference, as its home has it, fits what is on the way about it and the locks of node p.
pub record Talk (how : Use) (p : Node) (r : RefParts) (out back : List Message) (locks : Locks) : Type 0 where
  pub line : Line
  pub fits : Fits how p line
  pub out_is : Sent out (outs r line)
  pub back_is : Sent back (backs r line)
  pub hold_is : (M : Term) → is_holder (locks M) r ≡ holds line M

pub record Shows (l : Line) (r : RefParts) (out back : List Message) (locks : Locks) : Type 0 where
  pub out_is : Sent out (outs r l)
  pub back_is : Sent back (backs r l)
  pub hold_is : (M : Term) → is_holder (locks M) r ≡ holds l M

pub shows : {how : Use} {p : Node} {r : RefParts} {out back : List Message} {locks : Locks} (t : Talk how p r out back locks) (l : Line) → t.line ≡ l → Shows l r out back locks
shows {how} {p} {r} {out} {back} {locks} t l q = record {
  out_is = subst (λ k. Sent out (outs r k)) q t.out_is;
  back_is = subst (λ k. Sent back (backs r k)) q t.back_is;
  hold_is = λ M. t.hold_is M ∙ ap (λ k. holds k M) q;
}

-- the same to every eye
pub talk_same : {how how' : Use} {p : Node} {r : RefParts} {out out' back back' : List Message} {locks locks' : Locks}
    → Talk how p r out back locks → how' ≡ how → out' ≡ out → back' ≡ back → ((M : Term) → is_holder (locks' M) r ≡ is_holder (locks M) r)
    → Talk how' p r out' back' locks'
talk_same {how} {how'} {p} {r} {out} {out'} {back} {back'} t e o b l = record {
  line = t.line;
  fits = subst (λ w. Fits w p t.line) (sym e) t.fits;
  out_is = subst (λ x. Sent x (outs r t.line)) (sym o) t.out_is;
  back_is = subst (λ x. Sent x (backs r t.line)) (sym b) t.back_is;
  hold_is = λ M. l M ∙ t.hold_is M;
}
