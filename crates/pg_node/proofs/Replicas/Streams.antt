-- Frames that are taken one after another, and what a whole stream leads to.
use Rattle.std.proofs.Common.{◌≡◌, ℕ, List, [], ◌∷◌, ◌++◌, Option, Some, None, Result, Ok, Err}
use Rattle.std.proofs.Common.{inl, inr, refl, sym, ap, subst, ◌∙◌, append_assoc, append-nil}
use Rattle.std.specs.Io.KnownBytes.{Appends, Keeps}
use Rattle.pg_node_state.specs.PgFrame.Frames.{frame, front_of, after_front, bodies_of}
use Rattle.pg_node_state.proofs.PgFrame.Readings.{loop_keeps}
use Rattle.pg_node.specs.declared.replica.fault.ServeFault.{ServeFault}
use Rattle.pg_node_state.specs.PgMessageTypes.declared.fault.MessageFault.TheVariants.{Term, NotAMessage, StampTooLarge, NameTooLarge}
use Rattle.pg_node.specs.declared.replica.fault.ServeFault.TheVariants.{Message, FrameTooLong, ClockFull}
use Rattle.pg_node.specs.declared.replica.fault.ServeFault.TheVariants.{ReadFault, WriteFault}
use Rattle.pg_node.specs.Replicas.Fault.{Refuses}
use Rattle.pg_node.specs.Replicas.Progress.{HasServed, StopsAt}
use Rattle.pg_term.specs.declared.fault.TermFault.TheVariants.{Truncated, BadVersion, UnknownTag, TooDeep}
use Rattle.pg_term.specs.declared.fault.TermFault.TheVariants.{IntegerTooLarge, BadAtom, ImproperList}
use Rattle.pg_term.specs.declared.fault.TermFault.TheVariants.{BadReference, TrailingBytes, OutOfMemory, TooLong}
use Rattle.pg_node.specs.Replicas.Replica.{Pair, State, Answer, AnswersServed, Run, answered, replica_run, goes_on, preceded, frames_of}

-- ---- known bytes

pub appends_then : (a b c : Option (List ℕ)) (xs ys : List ℕ) → Appends a b xs → Appends b c ys → Appends a c (xs ++ ys)
appends_then None b c xs ys p q = tt
appends_then (Some a) None c xs ys p q = absurd p
appends_then (Some a) (Some b) None xs ys p q = absurd q
appends_then (Some a) (Some b) (Some c) xs ys p q = q ∙ ap (λ (z : List ℕ). z ++ ys) p ∙ append_assoc a xs ys

pub appends_kept : (a b c : Option (List ℕ)) (xs : List ℕ) → Appends a b xs → Keeps b c → Appends a c xs
appends_kept None b c xs p q = tt
appends_kept (Some a) None c xs p q = absurd p
appends_kept (Some a) (Some b) None xs p q = absurd q
appends_kept (Some a) (Some b) (Some c) xs p q = q ∙ p

pub appends_none : (a : Option (List ℕ)) → Appends a a []
appends_none None = tt
appends_none (Some a) = sym (append-nil a)

-- ---- runs

-- replies, and then another run
abbrev after : List (List ℕ) → Run → Run
after replies r = record { replies = replies ++ r.replies; state = r.state; fault = r.fault }

abbrev fine : List (List ℕ) → State → Run
fine replies s = record { replies = replies; state = s; fault = None }

after_both : (xs ys : List (List ℕ)) (r : Run) → preceded xs (after ys r) ≡ after (xs ++ ys) r
after_both xs ys r = λ i. record { replies = sym (append_assoc xs ys r.replies) i; state = r.state; fault = r.fault }

pub run_append : (pair : Pair) (s : State) (xs ys : List (List ℕ)) (replies : List (List ℕ)) (t : State) → replica_run pair s xs ≡ fine replies t → replica_run pair s (xs ++ ys) ≡ after replies (replica_run pair t ys)
run_append pair s [] ys replies t e =
    let none : [] ≡ replies = ap (λ (r : Run). r.replies) e in
    let same : s ≡ t = ap (λ (r : Run). r.state) e in
    (λ i. after (none i) (replica_run pair (same i) ys))
run_append pair s (x ∷ xs) ys replies t e = go (answered pair s x) e (λ (a : Answer). run_append pair a.state xs ys)
  where
    go : (r : Result Answer ServeFault) → goes_on s r (λ new. replica_run pair new xs) ≡ fine replies t
        → ((a : Answer) (others : List (List ℕ)) (u : State) → replica_run pair a.state xs ≡ fine others u → replica_run pair a.state (xs ++ ys) ≡ after others (replica_run pair u ys))
        → goes_on s r (λ new. replica_run pair new (xs ++ ys)) ≡ after replies (replica_run pair t ys)
    go (Err fault) e ih = absurd (cc (ap (λ (r : Run). r.fault) e))
    go (Ok a) e ih =
        let q = replica_run pair a.state xs in
        let whole : q ≡ fine q.replies t = λ i. record { replies = q.replies; state = ap (λ (r : Run). r.state) e i; fault = ap (λ (r : Run). r.fault) e i } in
        ap (preceded a.sent) (ih a q.replies t whole) ∙ after_both a.sent q.replies (replica_run pair t ys) ∙ ap (λ (rs : List (List ℕ)). after rs (replica_run pair t ys)) (ap (λ (r : Run). r.replies) e)

pub frames_append : (xs ys : List (List ℕ)) → frames_of (xs ++ ys) ≡ frames_of xs ++ frames_of ys
frames_append [] ys = refl
frames_append (x ∷ xs) ys = ap (λ (b : List ℕ). frame x ++ b) (frames_append xs ys) ∙ sym (append_assoc (frame x) (frames_of xs) (frames_of ys))

-- ---- progress

pub stay : (pair : Pair) (unread : List ℕ) (s : State) (w : Option (List ℕ)) → HasServed pair unread unread s s w w
stay pair unread s w = record { bodies = []; replies = []; leaves = loop_keeps.start unread; ran = refl; wrote = appends_none w }

pub onward : (pair : Pair) (a b c : List ℕ) (s t u : State) (v w x : Option (List ℕ)) → HasServed pair a b s t v w → HasServed pair b c t u w x → HasServed pair a c s u v x
onward pair a b c s t u v w x p q = record {
  bodies = p.bodies ++ q.bodies;
  replies = p.replies ++ q.replies;
  leaves = record {
    bodies = p.leaves.bodies ∙ ap (λ (z : List (List ℕ)). p.bodies ++ z) q.leaves.bodies ∙ sym (append_assoc p.bodies q.bodies (bodies_of c));
    rest = p.leaves.rest ∙ q.leaves.rest;
  };
  ran = run_append pair s p.bodies q.bodies p.replies t p.ran ∙ ap (after p.replies) q.ran;
  wrote = subst (Appends v x) (sym (frames_append p.replies q.replies)) (appends_then v w x (frames_of p.replies) (frames_of q.replies) p.wrote q.wrote);
}

-- one body is answered
pub one : (pair : Pair) (unread body : List ℕ) (s t : State) (v w : Option (List ℕ)) (output : List ℕ) → front_of unread ≡ Ok (Some body) → AnswersServed (answered pair s body) t [] output → Appends v w output → HasServed pair unread (after_front unread) s t v w
one pair unread body s t v w output front a wrote = record {
  bodies = body ∷ [];
  replies = a.sent ++ [];
  leaves = loop_keeps.takes unread unread body [] (loop_keeps.start unread) front;
  ran = ap (λ r. goes_on s r (λ new. replica_run pair new [])) a.is;
  wrote = subst (Appends v w) (a.output ∙ ap frames_of (sym (append-nil a.sent))) wrote;
}

-- more bytes come in
pub fed : (pair : Pair) (all unread piece : List ℕ) (s t : State) (v w : Option (List ℕ)) → HasServed pair all unread s t v w → HasServed pair (all ++ piece) (unread ++ piece) s t v w
fed pair all unread piece s t v w p = record { bodies = p.bodies; replies = p.replies; leaves = loop_keeps.feeds all unread piece p.bodies p.leaves; ran = p.ran; wrote = p.wrote }

-- the output stays as it is
pub kept : (pair : Pair) (all unread : List ℕ) (s t : State) (v w x : Option (List ℕ)) → HasServed pair all unread s t v w → Keeps w x → HasServed pair all unread s t v x
kept pair all unread s t v w x p q = record { bodies = p.bodies; replies = p.replies; leaves = p.leaves; ran = p.ran; wrote = appends_kept v w x (frames_of p.replies) p.wrote q }

-- ---- faults

pub known_kept : (w : Option (List ℕ)) → Keeps w w
known_kept None = tt
known_kept (Some w) = refl

-- the next body is refused, and nothing is written for it
module _ (pair : Pair) (unread body : List ℕ) (s : State) (w : Option (List ℕ)) (front : front_of unread ≡ Ok (Some body)) where
  pub refused : (fault : ServeFault) → Refuses (answered pair s body) fault → StopsAt pair fault unread s w w
  refused (Message (Term Truncated)) h = (record { body = body; front = front; is = h }, known_kept w)
  refused (Message (Term BadVersion)) h = (record { body = body; front = front; is = h }, known_kept w)
  refused (Message (Term UnknownTag)) h = (record { body = body; front = front; is = h }, known_kept w)
  refused (Message (Term TooDeep)) h = (record { body = body; front = front; is = h }, known_kept w)
  refused (Message (Term IntegerTooLarge)) h = (record { body = body; front = front; is = h }, known_kept w)
  refused (Message (Term BadAtom)) h = (record { body = body; front = front; is = h }, known_kept w)
  refused (Message (Term ImproperList)) h = (record { body = body; front = front; is = h }, known_kept w)
  refused (Message (Term BadReference)) h = (record { body = body; front = front; is = h }, known_kept w)
  refused (Message (Term TrailingBytes)) h = (record { body = body; front = front; is = h }, known_kept w)
  refused (Message (Term TooLong)) h = (record { body = body; front = front; is = h }, known_kept w)
  refused (Message NotAMessage) h = (record { body = body; front = front; is = h }, known_kept w)
  refused (Message StampTooLarge) h = (record { body = body; front = front; is = h }, known_kept w)
  refused (Message NameTooLarge) h = (record { body = body; front = front; is = h }, known_kept w)
  refused ClockFull h = (record { body = body; front = front; is = h }, known_kept w)
  refused ReadFault h = known_kept w
  refused (Message (Term OutOfMemory)) h = known_kept w
  refused FrameTooLong h = (inr (record { body = body; front = front; is = h }), known_kept w)
  refused WriteFault h = inr (known_kept w)

-- the next body is answered, and a prefix of its replies is written
pub cut_short : (pair : Pair) (unread body : List ℕ) (s t : State) (v w : Option (List ℕ)) (output part missing : List ℕ) → front_of unread ≡ Ok (Some body) → AnswersServed (answered pair s body) t [] output
    → part ++ missing ≡ output → Appends v w part → StopsAt pair WriteFault unread s v w
cut_short pair unread body s t v w output part missing front a cut wrote = inl (record {
  body = body;
  front = front;
  answer = record { state = t; sent = a.sent };
  is = a.is;
  part = part;
  missing = missing;
  cut = cut ∙ a.output;
  wrote = wrote;
})
