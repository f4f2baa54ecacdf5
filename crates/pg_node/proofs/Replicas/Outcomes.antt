-- What was written for a whole stream, at each end of the server.
use Rattle.std.proofs.Common.{◌≡◌, ℕ, List, [], ◌++◌, length, take, false, Option, Some, None}
use Rattle.std.proofs.Common.{Result, Ok, Err, ◌⊎◌, inl, inr, sym, ap, ◌∙◌, append_assoc, append-nil}
use Rattle.std.specs.Prelude.{◌==◌, if◌then◌else◌}
use Rattle.std.specs.Io.KnownBytes.{Appends, Keeps}
use Rattle.std.proofs.Math.Seq.{take-append_seam}
use Rattle.pg_term.specs.declared.fault.TermFault.TheVariants.{Truncated, BadVersion, UnknownTag, TooDeep}
use Rattle.pg_term.specs.declared.fault.TermFault.TheVariants.{IntegerTooLarge, BadAtom, ImproperList}
use Rattle.pg_term.specs.declared.fault.TermFault.TheVariants.{BadReference, TrailingBytes, OutOfMemory, TooLong}
use Rattle.pg_node_state.specs.PgFrame.Frames.{front_of, behind, bodies_of, rest_of, too_long, Leaves}
use Rattle.pg_node_state.proofs.PgFrame.Readings.{loop_keeps, pieces_continue, front_is_first, front_is_frame}
use Rattle.pg_node.specs.declared.replica.fault.ServeFault.{ServeFault}
use Rattle.pg_node_state.specs.PgMessageTypes.declared.fault.MessageFault.TheVariants.{Term, NotAMessage, StampTooLarge, NameTooLarge}
use Rattle.pg_node.specs.declared.replica.fault.ServeFault.TheVariants.{Message, FrameTooLong, ClockFull}
use Rattle.pg_node.specs.declared.replica.fault.ServeFault.TheVariants.{ReadFault, WriteFault}
use Rattle.pg_node.specs.Replicas.Progress.{HasServed, Refused, StopsAt}
use Rattle.pg_node.specs.Replicas.Replica.{Pair, State, Answer, Run, answered, start, replica_run, goes_on}
use Rattle.pg_node.specs.Replicas.Replica.{frames_of, served, rest_fault, first_fault, WroteFor}
use Rattle.pg_node.proofs.Replicas.Streams.{run_append, frames_append, appends_then, appends_kept}

-- the whole input is what came in so far, and a rest
module _ (pair : Pair) (all rest unread : List ℕ) (s : State) (v w : Option (List ℕ)) (p : HasServed pair all unread start s v w) where
  abbrev more : Run
  more = replica_run pair s (bodies_of (unread ++ rest))

  fed : Leaves (all ++ rest) p.bodies (unread ++ rest)
  fed = loop_keeps.feeds all unread rest p.bodies p.leaves

  whole : replica_run pair start (bodies_of (all ++ rest)) ≡ record { replies = p.replies ++ more.replies; state = more.state; fault = more.fault }
  whole = ap (replica_run pair start) fed.bodies ∙ run_append pair start p.bodies (bodies_of (unread ++ rest)) p.replies s p.ran

  replies_so_far : (served pair (all ++ rest)).replies ≡ p.replies ++ more.replies
  replies_so_far = ap (λ (r : Run). r.replies) whole

  fault_of_all : (served pair (all ++ rest)).fault ≡ first_fault more.fault (rest_fault (rest_of (unread ++ rest)) (front_of (rest_of (unread ++ rest))))
  fault_of_all = (λ i. first_fault (whole i).fault (rest_fault (fed.rest i) (front_of (fed.rest i))))

  -- the first replies were written, each whole
  first_ones : (n : ℕ) × (frames_of p.replies ≡ frames_of (take n (served pair (all ++ rest)).replies))
  first_ones = (length p.replies, ap frames_of (sym (take-append_seam p.replies more.replies) ∙ ap (take (length p.replies)) (sym replies_so_far)))

  -- and a prefix of all replies
  with_more : frames_of p.replies ++ frames_of more.replies ≡ frames_of (served pair (all ++ rest)).replies
  with_more = sym (frames_append p.replies more.replies) ∙ ap frames_of (sym replies_so_far)

  -- the next body is answered, and a prefix of its replies is written
  module _ (body : List ℕ) (answer : Answer) (front : front_of unread ≡ Ok (Some body)) (is : answered pair s body ≡ Ok answer) (part missing : List ℕ) (cut_here : part ++ missing ≡ frames_of answer.sent) where
    abbrev others : List (List ℕ)
    others = (replica_run pair answer.state (bodies_of (behind body (unread ++ rest)))).replies

    more_replies : more.replies ≡ answer.sent ++ others
    more_replies =
        ap (λ (bs : List (List ℕ)). (replica_run pair s bs).replies) (front_is_first.first (unread ++ rest) body (pieces_continue.front unread rest body front))
        ∙ ap (λ (r : Result Answer ServeFault). (goes_on s r (λ new. replica_run pair new (bodies_of (behind body (unread ++ rest))))).replies) is

    joined : part ++ (missing ++ frames_of others) ≡ frames_of more.replies
    joined =
        sym (append_assoc part missing (frames_of others))
        ∙ ap (λ (b : List ℕ). b ++ frames_of others) cut_here
        ∙ sym (frames_append answer.sent others)
        ∙ ap frames_of (sym more_replies)

    cut_told : WroteFor (served pair (all ++ rest)) (Err WriteFault) (frames_of p.replies ++ part)
    cut_told = (
      missing ++ frames_of others,
      append_assoc (frames_of p.replies) part (missing ++ frames_of others) ∙ ap (λ (b : List ℕ). frames_of p.replies ++ b) joined ∙ with_more,
    )

  -- the next body is refused
  module _ (body : List ℕ) (fault : ServeFault) (front : front_of unread ≡ Ok (Some body)) (refused : answered pair s body ≡ Err fault) where
    stopped : more ≡ record { replies = []; state = s; fault = Some fault }
    stopped =
        ap (replica_run pair s) (front_is_first.first (unread ++ rest) body (pieces_continue.front unread rest body front))
        ∙ ap (λ (r : Result Answer ServeFault). goes_on s r (λ new. replica_run pair new (bodies_of (behind body (unread ++ rest))))) refused

    told : ((served pair (all ++ rest)).fault ≡ Some fault) × (frames_of p.replies ≡ frames_of (served pair (all ++ rest)).replies)
    told = (
      fault_of_all ∙ ap (λ (r : Run). first_fault r.fault (rest_fault (rest_of (unread ++ rest)) (front_of (rest_of (unread ++ rest))))) stopped,
      ap frames_of (sym (append-nil p.replies) ∙ ap (λ (r : Run). p.replies ++ r.replies) (sym stopped) ∙ sym replies_so_far),
    )

  -- a length that no frame has comes next
  module _ (front : front_of unread ≡ Err too_long) where
    abbrev overlong : front_of (unread ++ rest) ≡ Err too_long
    overlong = pieces_continue.overlong unread rest front

    no_body : bodies_of (unread ++ rest) ≡ []
    no_body = ((front_is_first.overlong_rest (unread ++ rest)).0 overlong).0

    rest_is : rest_of (unread ++ rest) ≡ unread ++ rest
    rest_is = front_is_frame.none (unread ++ rest) no_body

    too_long_told : ((served pair (all ++ rest)).fault ≡ Some FrameTooLong) × (frames_of p.replies ≡ frames_of (served pair (all ++ rest)).replies)
    too_long_told = (
      fault_of_all ∙ (λ i. first_fault (replica_run pair s (no_body i)).fault (rest_fault (rest_is i) (front_of (rest_is i)))) ∙ ap (rest_fault (unread ++ rest)) overlong,
      ap frames_of (sym (append-nil p.replies) ∙ ap (λ (bs : List (List ℕ)). p.replies ++ (replica_run pair s bs).replies) (sym no_body) ∙ sym replies_so_far),
    )

  -- what was written, and what the fault says
  pub record Ended (fault : ServeFault) (x : Option (List ℕ)) : Type 0 where
    pub output : List ℕ
    pub wrote : Appends v x output
    pub is : WroteFor (served pair (all ++ rest)) (Err fault) output

  -- all replies were written, and nothing after them
  abbrev written : (x : Option (List ℕ)) → Keeps w x → Appends v x (frames_of p.replies)
  written x k = appends_kept v w x (frames_of p.replies) p.wrote k

  at_length : (front_of unread ≡ Err too_long) ⊎ Refused pair FrameTooLong unread s → WroteFor (served pair (all ++ rest)) (Err FrameTooLong) (frames_of p.replies)
  at_length (inl front) = too_long_told front
  at_length (inr next) = told next.body FrameTooLong next.front next.is

  pub ended : (fault : ServeFault) (x : Option (List ℕ)) → StopsAt pair fault unread s w x → Ended fault x
  ended (Message (Term Truncated)) x h = record { output = frames_of p.replies; wrote = written x h.1; is = told h.0.body (Message (Term Truncated)) h.0.front h.0.is }
  ended (Message (Term BadVersion)) x h = record { output = frames_of p.replies; wrote = written x h.1; is = told h.0.body (Message (Term BadVersion)) h.0.front h.0.is }
  ended (Message (Term UnknownTag)) x h = record { output = frames_of p.replies; wrote = written x h.1; is = told h.0.body (Message (Term UnknownTag)) h.0.front h.0.is }
  ended (Message (Term TooDeep)) x h = record { output = frames_of p.replies; wrote = written x h.1; is = told h.0.body (Message (Term TooDeep)) h.0.front h.0.is }
  ended (Message (Term IntegerTooLarge)) x h = record { output = frames_of p.replies; wrote = written x h.1; is = told h.0.body (Message (Term IntegerTooLarge)) h.0.front h.0.is }
  ended (Message (Term BadAtom)) x h = record { output = frames_of p.replies; wrote = written x h.1; is = told h.0.body (Message (Term BadAtom)) h.0.front h.0.is }
  ended (Message (Term ImproperList)) x h = record { output = frames_of p.replies; wrote = written x h.1; is = told h.0.body (Message (Term ImproperList)) h.0.front h.0.is }
  ended (Message (Term BadReference)) x h = record { output = frames_of p.replies; wrote = written x h.1; is = told h.0.body (Message (Term BadReference)) h.0.front h.0.is }
  ended (Message (Term TrailingBytes)) x h = record { output = frames_of p.replies; wrote = written x h.1; is = told h.0.body (Message (Term TrailingBytes)) h.0.front h.0.is }
  ended (Message (Term TooLong)) x h = record { output = frames_of p.replies; wrote = written x h.1; is = told h.0.body (Message (Term TooLong)) h.0.front h.0.is }
  ended (Message NotAMessage) x h = record { output = frames_of p.replies; wrote = written x h.1; is = told h.0.body (Message NotAMessage) h.0.front h.0.is }
  ended (Message StampTooLarge) x h = record { output = frames_of p.replies; wrote = written x h.1; is = told h.0.body (Message StampTooLarge) h.0.front h.0.is }
  ended (Message NameTooLarge) x h = record { output = frames_of p.replies; wrote = written x h.1; is = told h.0.body (Message NameTooLarge) h.0.front h.0.is }
  ended ClockFull x h = record { output = frames_of p.replies; wrote = written x h.1; is = told h.0.body ClockFull h.0.front h.0.is }
  ended FrameTooLong x h = record { output = frames_of p.replies; wrote = written x h.1; is = at_length h.0 }
  ended (Message (Term OutOfMemory)) x h = record { output = frames_of p.replies; wrote = written x h; is = first_ones }
  ended ReadFault x h = record { output = frames_of p.replies; wrote = written x h; is = first_ones }
  ended WriteFault x (inl h) = record {
    output = frames_of p.replies ++ h.part;
    wrote = appends_then v w x (frames_of p.replies) h.part p.wrote h.wrote;
    is = cut_told h.body h.answer h.front h.is h.part h.missing h.cut;
  }
  ended WriteFault x (inr h) = record { output = frames_of p.replies; wrote = written x h; is = (frames_of more.replies, with_more) }

-- the input is over
module _ (pair : Pair) (all unread : List ℕ) (s : State) (v w : Option (List ℕ)) (p : HasServed pair all unread start s v w) (front : front_of unread ≡ Ok None) where
  waits : (p.bodies ≡ bodies_of all) × (unread ≡ rest_of all)
  waits = let h = loop_keeps.waits all unread p.bodies p.leaves front in (h.0, h.1)

  pub done : replica_run pair start (bodies_of all) ≡ record { replies = p.replies; state = s; fault = None }
  done = ap (replica_run pair start) (sym waits.0) ∙ p.ran

  replies_are : (served pair all).replies ≡ p.replies
  replies_are = ap (λ (r : Run). r.replies) done

  fault_is : (served pair all).fault ≡ rest_fault unread (Ok None)
  fault_is = (λ i. first_fault (done i).fault (rest_fault (sym waits.1 i) (front_of (sym waits.1 i)))) ∙ ap (rest_fault unread) front

  pub over : unread ≡ [] → WroteFor (served pair all) (Ok tt) (frames_of p.replies)
  over none = (fault_is ∙ ap (λ (b : List ℕ). rest_fault b (Ok None)) none, ap frames_of (sym replies_are))

  pub cut : (length unread == 0) ≡ false → WroteFor (served pair all) (Err (Message (Term Truncated))) (frames_of p.replies)
  cut some = (fault_is ∙ ap (λ b. if b then None else Some (Message (Term Truncated))) some, ap frames_of (sym replies_are))
