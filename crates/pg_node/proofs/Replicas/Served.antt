-- What a server that read and answered so far has done, at each way on and at each end.
use Rattle.std.proofs.Common.{◌≡◌, ℕ, Bool, true, false, List, [], ◌∷◌, ◌++◌, length, Option, Some, None, Result}
use Rattle.std.proofs.Common.{Ok, Err, ◌⊎◌, inl, inr, refl, sym, ap, subst, ◌∙◌, append_assoc, append-nil, arith}
use Rattle.std.specs.Prelude.{◌^◌, ◌+◌, ◌<◌, ⊤, IfSome, IfErr, OnOk, ◌==◌, if◌then◌else◌}
use Rattle.std.specs.Io.KnownBytes.{Appends, Keeps, Consumes, IsAtEnd}
use Rattle.std.proofs.lemmas.List.{nil_from_length}
use Rattle.std.proofs.lemmas.Bool.{eqb-true}
use Rattle.std.specs.Result.{is_err}
use Rattle.pg_node_state.specs.PgFrame.Frames.{front_of}
use Rattle.pg_node_state.proofs.PgFrame.Readings.{written_is_read}
use Rattle.pg_term.specs.declared.fault.TermFault.TheVariants.{Truncated, OutOfMemory}
use Rattle.pg_node.specs.declared.replica.fault.ServeFault.{ServeFault}
use Rattle.pg_node_state.specs.PgMessageTypes.declared.fault.MessageFault.TheVariants.{Term}
use Rattle.pg_node.specs.declared.replica.fault.ServeFault.TheVariants.{Message, FrameTooLong, ClockFull}
use Rattle.pg_node.specs.declared.replica.fault.ServeFault.TheVariants.{ReadFault, WriteFault}
use Rattle.pg_node.specs.Replicas.Causes.{Cause, AllAnswered, EachGave, Gave, GaveChunks, InTurn, Unread, IsFlushed, LeavesFlushed, joined}
use Rattle.pg_node_state.specs.PgMessageTypes.declared.fault.MessageFault.{MessageFault}
use Rattle.pg_node_state.specs.PgMessageTypes.declared.packet.Packet.{Packet}
use Rattle.pg_node_state.specs.PgMessageTypes.Reading.{packet_spelled}
use Rattle.pg_node_state.specs.PgStep.Step.{TimedTurn, step_take}
use Rattle.pg_node_state.specs.PgStep.declared.refusal.Refusal.{Refusal}
use Rattle.pg_node_state.specs.PgStep.declared.refusal.Refusal.TheVariants as refusals
use Rattle.pg_node.specs.Replicas.Fault.{out_of_memory, Refuses}
use Rattle.pg_node_state.specs.PgNodeSends.Sent.{stamped_of}
use Rattle.pg_node.specs.Replicas.Progress.{CutShort, HasServed, ReadsSome, Serving, Stops, StopsAt}
use Rattle.pg_node.specs.Replicas.Replica.{Pair, State, Run, nodes_of, answered, taken_in}
use Rattle.pg_node.specs.Replicas.Replica.{turned, start, Serves, served, frames_of, WroteFor}
use Rattle.pg_node.proofs.Replicas.Streams.{appends_then, appends_kept, stay, onward, fed, kept, known_kept}
use Rattle.pg_node.proofs.Replicas.Outcomes.{ended, over, cut, done}

consumes_none : (r : Option (List ℕ)) → Consumes r r []
consumes_none None = tt
consumes_none (Some xs) = refl

consumes_then : (a b c : Option (List ℕ)) (xs ys : List ℕ) → Consumes a b xs → Consumes b c ys → Consumes a c (xs ++ ys)
consumes_then None b c xs ys p q = tt
consumes_then (Some a) None c xs ys p q = absurd p
consumes_then (Some a) (Some b) None xs ys p q = absurd q
consumes_then (Some a) (Some b) (Some c) xs ys p q = p ∙ ap (λ (z : List ℕ). xs ++ z) q ∙ sym (append_assoc xs ys c)

-- what is left of a known input is known
live_of : (input : List ℕ) (r : Option (List ℕ)) (all : List ℕ) → Consumes (Some input) r all → (rest : List ℕ) × (input ≡ all ++ rest)
live_of input None all c = absurd c
live_of input (Some rest) all c = (rest, c)

nothing_left : (input : List ℕ) (r : Option (List ℕ)) (all : List ℕ) → Consumes (Some input) r all → IsAtEnd r → input ≡ all
nothing_left input None all c e = absurd c
nothing_left input (Some rest) all c e = c ∙ ap (λ (z : List ℕ). all ++ z) e ∙ append-nil all

pub at_start : (pair : Pair) (P : List (List ℕ) → Type 0) (r w : Option (List ℕ)) (unread : List ℕ) (s : State) → P [] → unread ≡ [] → s ≡ start → Serving pair P r r unread s w w
at_start pair P r w unread s gave none first = record {
  pieces = [];
  gave = gave;
  consumed = consumes_none r;
  progress = subst (λ (u : List ℕ). HasServed pair [] u start s w w) (sym none) (subst (λ (t : State). HasServed pair [] [] start t w w) (sym first) (stay pair [] start w));
  front = subst (λ (u : List ℕ). front_of u ≡ Ok None) (sym none) written_is_read.nothing.0;
}

module _ (pair : Pair) (P : List (List ℕ) → Type 0) (r0 r1 : Option (List ℕ)) (unread : List ℕ) (s : State) (out0 out1 : Option (List ℕ)) (v : Serving pair P r0 r1 unread s out0 out1) where
  abbrev input : List ℕ
  input = joined v.pieces

  -- what came in so far was answered
  pub all_answered : AllAnswered pair out0 out1 input
  all_answered =
      let whole = done pair input unread s out0 out1 v.progress v.front in
      record { taken = ap (λ (r : Run). r.fault) whole; wrote = subst (λ (replies : List (List ℕ)). Appends out0 out1 (frames_of replies)) (sym (ap (λ (r : Run). r.replies) whole)) v.progress.wrote }

  module _ (Q : List ℕ → Type 0) (r2 : Option (List ℕ)) (unread1 : List ℕ) (more : Bool) (got : ReadsSome Q r1 r2 unread unread1 more) where
    abbrev all : List ℕ
    all = input ++ got.piece

    consumed : Consumes r0 r2 all
    consumed = consumes_then r0 r1 r2 input got.piece v.consumed got.consumed

    came : HasServed pair all unread1 start s out0 out1
    came = subst (λ (u : List ℕ). HasServed pair all u start s out0 out1) (sym got.fed) (fed pair input unread got.piece start s out0 out1 v.progress)

    pub goes_on : (N : List (List ℕ) → Type 0) → N (got.piece ∷ v.pieces) → (unread2 : List ℕ) (t : State) (out2 out3 : Option (List ℕ)) → HasServed pair unread1 unread2 s t out1 out2 → front_of unread2 ≡ Ok None → Keeps out2 out3 → Serving pair N r0 r2 unread2 t out0 out3
    goes_on N gave unread2 t out2 out3 p front k = record {
      pieces = got.piece ∷ v.pieces;
      gave = gave;
      consumed = consumed;
      progress = kept pair all unread2 start t out0 out2 out3 (onward pair all unread1 unread2 start s t out0 out1 out2 came p) k;
      front = front;
    }

    -- a fault in what came
    pub stopped : (fault : ServeFault) (out2 : Option (List ℕ)) → Stops pair fault unread1 s out1 out2 → IfSome r0 (λ input. Serves pair out0 out2 input (Err fault))
    stopped fault out2 h = go r0 consumed
      where
        go : (r : Option (List ℕ)) → Consumes r r2 all → IfSome r (λ input. Serves pair out0 out2 input (Err fault))
        go None c = tt
        go (Some bytes) c =
            let left = live_of bytes r2 all c in
            let e = ended pair all left.0 h.unread h.state out0 h.written (onward pair all unread1 h.unread start s h.state out0 out1 h.written came h.progress) fault out2 h.stops in
            subst (λ (i : List ℕ). Serves pair out0 out2 i (Err fault)) (sym left.1) (record { output = e.output; wrote = e.wrote; is = e.is })

    -- the input is over
    pub finished : more ≡ false → (result : Result (Unit {0}) ServeFault) → result ≡ (if length unread1 == 0 then Ok tt else Err (Message (Term Truncated))) → IfSome r0 (λ input. Serves pair out0 out1 input result)
    finished last result is = go r0 consumed
      where
        front : front_of unread1 ≡ Ok None
        front = ap front_of (got.fed ∙ ap (λ (z : List ℕ). unread ++ z) (got.over last).1 ∙ append-nil unread) ∙ v.front

        outcome : (b : Bool) → (length unread1 == 0) ≡ b → WroteFor (served pair all) (if b then Ok tt else Err (Message (Term Truncated))) (frames_of came.replies)
        outcome true e = over pair all unread1 s out0 out1 came front (nil_from_length unread1 (eqb-true (length unread1) 0 e))
        outcome false e = cut pair all unread1 s out0 out1 came front e

        go : (r : Option (List ℕ)) → Consumes r r2 all → IfSome r (λ input. Serves pair out0 out1 input result)
        go None c = tt
        go (Some bytes) c =
            subst (λ (i : List ℕ). Serves pair out0 out1 i result) (sym (nothing_left bytes r2 all c (got.over last).0))
            (record { output = frames_of came.replies; wrote = came.wrote; is = subst (λ (r : Result (Unit {0}) ServeFault). WroteFor (served pair all) r (frames_of came.replies)) (sym is) (outcome (length unread1 == 0) refl) })

  -- no more was done
  ends : (fault : ServeFault) → StopsAt pair fault unread s out1 out1 → IfSome r0 (λ input. Serves pair out0 out1 input (Err fault))
  ends fault h = go r0 v.consumed
    where
      go : (r : Option (List ℕ)) → Consumes r r1 input → IfSome r (λ input. Serves pair out0 out1 input (Err fault))
      go None c = tt
      go (Some bytes) c =
          let left = live_of bytes r1 input c in
          let e = ended pair input left.0 unread s out0 out1 v.progress fault out1 h in
          subst (λ (i : List ℕ). Serves pair out0 out1 i (Err fault)) (sym left.1) (record { output = e.output; wrote = e.wrote; is = e.is })

  -- the input can't be read, or memory ran out
  pub unread_ends : (fault : ServeFault) → (fault ≡ ReadFault) ⊎ (fault ≡ out_of_memory) → IfSome r0 (λ input. Serves pair out0 out1 input (Err fault))
  unread_ends fault (inl e) = subst (λ (f : ServeFault). IfSome r0 (λ input. Serves pair out0 out1 input (Err f))) (sym e) (ends ReadFault (known_kept out1))
  unread_ends fault (inr e) = subst (λ (f : ServeFault). IfSome r0 (λ input. Serves pair out0 out1 input (Err f))) (sym e) (ends (Message (Term OutOfMemory)) (known_kept out1))

  -- a write fails
  pub unwritten_ends : IfSome r0 (λ input. Serves pair out0 out1 input (Err WriteFault))
  unwritten_ends = ends WriteFault (inr (known_kept out1))

-- ---- causes

-- a fault has its cause still where each cause leads to another
pub cause_of : {A B C D : Type 0} → (A → C) → (B → D) → (fault : ServeFault) → Cause A B fault → Cause C D fault
cause_of unread unwritten (Message fault) h = tt
cause_of unread unwritten FrameTooLong h = tt
cause_of unread unwritten ClockFull h = tt
cause_of unread unwritten ReadFault h = unread h
cause_of unread unwritten WriteFault h = unwritten h

-- one more piece was read
pub gave_more : {R : Type 0} (gives : R → List ℕ → R → Type 0) (old now new : R) (n : ℕ) (pieces : List (List ℕ)) (piece : List ℕ)
    → GaveChunks gives old pieces now × (length pieces ≡ n) → gives now piece new → 0 < length piece → GaveChunks gives old (piece ∷ pieces) new × (length (piece ∷ pieces) ≡ n + 1)
gave_more gives old now new n pieces piece h gave some = ((now, h.0, gave, some), omega (arith, h.1))

-- each read gave some bytes, the last one too
pub each_gave : {R : Type 0} (gives : R → List ℕ → R → Type 0) (old now new : R) (n : ℕ) (pieces : List (List ℕ))
    → GaveChunks gives old pieces now × (length pieces ≡ n) → Gave gives now new → EachGave gives old new
each_gave gives old now new n pieces h last = (last.0 ∷ pieces, (now, h.0, last.1, last.2))

-- a fault of a read is told of a read too
pub read_too : (fault : ServeFault) → ◌≡◌ {A = Result (Unit {0}) ServeFault} (Err fault) (Err out_of_memory) → ◌≡◌ {A = Result Bool ServeFault} (Err fault) (Err out_of_memory)
read_too fault is = ap (λ (r : Result (Unit {0}) ServeFault). go r) is
  where
    go : Result (Unit {0}) ServeFault → Result Bool ServeFault
    go (Ok _) = Ok true
    go (Err fault) = Err fault

module _ {R : Type 0} (gives : R → List ℕ → R → Type 0) (fails : R → R → Type 0) (old now : R) (n : ℕ) (pair : Pair) (r0 r1 : Option (List ℕ)) (unread : List ℕ) (s : State) (out0 out1 : Option (List ℕ))
    (v : Serving pair (λ (pieces : List (List ℕ)). GaveChunks gives old pieces now × (length pieces ≡ n)) r0 r1 unread s out0 out1) where
  abbrev answered_so_far : AllAnswered pair out0 out1 (joined v.pieces)
  answered_so_far = all_answered pair (λ (pieces : List (List ℕ)). GaveChunks gives old pieces now × (length pieces ≡ n)) r0 r1 unread s out0 out1 v

  -- a read failed
  pub read_failed : (new : R) → fails now new → Unread gives fails old new (AllAnswered pair out0 out1)
  read_failed new h = record { pieces = v.pieces; fact = answered_so_far; last = inl (now, v.gave.0, h) }

  -- so many reads were made
  pub reads_spent : n ≡ 2 ^ 40 → Unread gives fails old now (AllAnswered pair out0 out1)
  reads_spent e = record { pieces = v.pieces; fact = answered_so_far; last = inr (v.gave.0, v.gave.1 ∙ e) }

-- ---- in which order

-- what is said of a fault of writing holds where the fault is one
pub if_write : (B : Type 0) (fault : ServeFault) → (fault ≡ WriteFault → B) → Cause ⊤ B fault
if_write B (Message fault) h = tt
if_write B FrameTooLong h = tt
if_write B ClockFull h = tt
if_write B ReadFault h = tt
if_write B WriteFault h = h refl

pub not_write : (B : Type 0) (fault : ServeFault) → (fault ≡ ReadFault) ⊎ (fault ≡ out_of_memory) → Cause ⊤ B fault
not_write B fault (inl e) = subst (Cause ⊤ B) (sym e) tt
not_write B fault (inr e) = subst (Cause ⊤ B) (sym e) tt

-- what was written of the replies when a write failed
pub wrote_part : (pair : Pair) (unread : List ℕ) (s : State) (out0 out1 : Option (List ℕ)) → Stops pair WriteFault unread s out0 out1 → (part : List ℕ) × Appends out0 out1 part
wrote_part pair unread s out0 out1 h = go h.stops
  where
    replies : List ℕ
    replies = frames_of h.progress.replies

    go : CutShort pair h.unread h.state h.written out1 ⊎ Keeps h.written out1 → (part : List ℕ) × Appends out0 out1 part
    go (inl c) = (replies ++ c.part, appends_then out0 h.written out1 replies c.part h.progress.wrote c.wrote)
    go (inr k) = (replies, appends_kept out0 h.written out1 replies h.progress.wrote k)

-- a write failed behind one more piece
pub in_turn : {R W : Type 0} (gives : R → List ℕ → R → Type 0) (flushed : W → Type 0) (contents : W → Option (List ℕ)) (old now new : R) (n : ℕ) (pair : Pair) (r0 r1 : Option (List ℕ)) (unread : List ℕ) (s : State)
    (first between last : W) (v : Serving pair (λ (pieces : List (List ℕ)). GaveChunks gives old pieces now × (length pieces ≡ n)) r0 r1 unread s (contents first) (contents between))
    → IsFlushed flushed first between → (piece : List ℕ) → gives now piece new → 0 < length piece → (part : List ℕ) × Appends (contents between) (contents last) part
    → InTurn gives flushed contents old new first last (λ w input. AllAnswered pair (contents first) (contents w) input)
in_turn gives flushed contents old now new n pair r0 r1 unread s first between last v out piece gave some wrote = record {
  piece = piece;
  earlier = v.pieces;
  gave = (now, v.gave.0, gave, some);
  between = between;
  out = out;
  fact = all_answered pair (λ (pieces : List (List ℕ)). GaveChunks gives old pieces now × (length pieces ≡ n)) r0 r1 unread s (contents first) (contents between) v;
  part = wrote.0;
  since = wrote.1;
}

turned_cause : (pair : Pair) (r : Result TimedTurn Refusal) → IfErr (turned pair r) (Cause ⊥ ⊥)
turned_cause pair (Ok t) = tt
turned_cause pair (Err refusals.ClockFull) = tt
turned_cause pair (Err refusals.NotAMessage) = tt
turned_cause pair (Err refusals.NoSuchPlace) = tt
turned_cause pair (Err refusals.NotWaiting) = tt
turned_cause pair (Err refusals.NodeLost) = tt
turned_cause pair (Err refusals.NotLost) = tt
turned_cause pair (Err refusals.NotDrained) = tt

-- what a body leads to is no fault of reading or writing
answered_cause : (pair : Pair) (s : State) (body : List ℕ) → IfErr (answered pair s body) (Cause ⊥ ⊥)
unfolding answered
answered_cause pair s body = go (packet_spelled body)
  where
    go : (r : Result Packet MessageFault) → IfErr (taken_in pair s r) (Cause ⊥ ⊥)
    go (Ok packet) = turned_cause pair (step_take (nodes_of pair) pair.peer (stamped_of packet) s)
    go (Err fault) = tt

pub refused_cause : (B : Type 0) (pair : Pair) (s : State) (body : List ℕ) (fault : ServeFault) → Refuses (answered pair s body) fault → Cause ⊥ B fault
refused_cause B pair s body (Message fault) h = tt
refused_cause B pair s body FrameTooLong h = tt
refused_cause B pair s body ClockFull h = tt
refused_cause B pair s body ReadFault h = subst (λ r. IfErr r (Cause ⊥ ⊥)) h (answered_cause pair s body)
refused_cause B pair s body WriteFault h = absurd (subst (λ r. IfErr r (Cause ⊥ ⊥)) h (answered_cause pair s body))

module _ {W : Type 0} (flushed : W → Type 0) (old new : W) where
  -- all was flushed, whatever is answered
  pub left_flushed : IsFlushed flushed old new → (result : Result (Unit {0}) ServeFault) → LeavesFlushed flushed old new result
  left_flushed h (Ok x) = h
  left_flushed h (Err (Message fault)) = tt
  left_flushed h (Err FrameTooLong) = tt
  left_flushed h (Err ClockFull) = tt
  left_flushed h (Err ReadFault) = h
  left_flushed h (Err WriteFault) = tt

  -- a fault is none of reading
  pub left_unread : (B : Type 0) (fault : ServeFault) → Cause ⊥ B fault → LeavesFlushed flushed old new (Err fault)
  left_unread B (Message fault) h = tt
  left_unread B FrameTooLong h = tt
  left_unread B ClockFull h = tt
  left_unread B ReadFault h = absurd h
  left_unread B WriteFault h = tt

-- what is ensured where it is Ok, where it is no error
pub where_ok : {A E P : Type 0} (r : Result A E) → is_err r ≡ false → OnOk r P → P
where_ok (Ok x) e h = h
where_ok (Err fault) e h = absurd (cc e)
