-- The thread that reads, one step after another.
use Rattle.std.proofs.Common.{◌≡◌, ◌≢◌, ◌⊎◌, ◌-◌, ℕ, true, false, List, [], ◌∷◌, ◌++◌, None, Ok}
use Rattle.std.proofs.Common.{Option, inl, inr, refl, sym, ap, subst, ◌∙◌, append_assoc, append-nil}
use Rattle.std.specs.Io.KnownBytes.{Consumes}
use Rattle.pg_cluster.specs.ClientsLaws.{slot_out_on}
use Rattle.pg_cluster.specs.PgFrame.Frames.{front_of}
use Rattle.pg_cluster.specs.PgRing.declared.slot_out.SlotOut.{SlotOut}
use Rattle.pg_cluster.specs.PgRing.Slots.{SameSlotOut, given}
use Rattle.pg_node_requests.specs.declared.input.Input.{Input}
use Rattle.pg_node_requests.specs.declared.layout.NodePorts.{NodePorts}
use Rattle.pg_talk.proofs.BodiesRead.{front_ends, front_goes, is_to_be_read, read_then}
use Rattle.pg_talk.proofs.BodiesRead.{reads_itself, reads_piece, reads_then, to_be_read}
use Rattle.pg_talk.proofs.InputsGoOn.{goes_on}
use Rattle.pg_talk.specs.declared.service.reading.Reading.{Reading}
use Rattle.pg_talk.specs.declared.service.reader.Reader.{Reader}
use Rattle.pg_talk.specs.Readers.{held_by, Reads}
use Rattle.pg_talk.specs.Readings.{AreRead, AreReadOn, requests_in}
use Rattle.pg_talk.specs.ReadingThread.{breaks, EndsAt, GoesOn, IsWaiting, ReadsOn, TakesFront}

pub out_itself : (a : SlotOut Input) → SameSlotOut a a
out_itself a = ((refl, refl, refl, refl), refl)

module _ {S : Type 0} (remaining : S → Option (List ℕ)) (fails : S → S → Type 0) where
  pub goes_itself : (a : Reading S) → GoesOn remaining fails a a
  goes_itself a = record { layout = refl; same = out_itself a.out; reads = reads_itself a.layout.nodes.items (remaining a.source) a.deframer.unread a.requests (given a.out) }

  pub goes_then : (a b c : Reading S) → GoesOn remaining fails a b → GoesOn remaining fails b c → GoesOn remaining fails a c
  goes_then a b c one two = record {
    layout = two.layout ∙ one.layout;
    same = slot_out_on a.out b.out c.out one.same two.same;
    reads = reads_then a.layout.nodes.items (remaining a.source) (remaining b.source) (remaining c.source) a.deframer.unread b.deframer.unread c.deframer.unread a.requests b.requests c.requests
        (given a.out) (given b.out) (given c.out) one.reads
        (subst (λ layout. ReadsOn layout.nodes.items (remaining b.source) (remaining c.source) b.deframer.unread c.deframer.unread b.requests c.requests (given b.out) (given c.out)) one.layout two.reads);
  }

  pub ends_then : (a b c : Reading S) → GoesOn remaining fails a b → EndsAt remaining fails b c → EndsAt remaining fails a c
  ends_then a b c one two = record {
    same = slot_out_on a.out b.out c.out one.same two.same;
    inputs = one.reads.inputs ++ two.inputs;
    further = two.further;
    read = subst (AreReadOn remaining fails a.layout.nodes.items a.requests (remaining a.source) a.deframer.unread) (sym (append_assoc one.reads.inputs two.inputs two.further))
        (read_then remaining fails a.layout.nodes.items (remaining a.source) (remaining b.source) a.deframer.unread b.deframer.unread a.requests b.requests (given a.out) (given b.out)
        (two.inputs ++ two.further) one.reads
        (subst (λ layout. AreReadOn remaining fails layout.nodes.items b.requests (remaining b.source) b.deframer.unread (two.inputs ++ two.further)) one.layout two.read));
    more = two.more ∙ (ap (λ (gave : List Input). gave ++ two.inputs) one.reads.more ∙ append_assoc (given a.out) one.reads.inputs two.inputs);
  }

  -- nobody takes more
  pub ends_here : (a b : Reading S) → SameSlotOut a.out b.out → given b.out ≡ given a.out → EndsAt remaining fails a b
  ends_here a b same gave = record {
    same = same;
    inputs = [];
    further = to_be_read remaining fails a.layout.nodes.items (remaining a.source) a.deframer.unread a.requests;
    read = is_to_be_read remaining fails a.layout.nodes.items (remaining a.source) a.deframer.unread a.requests;
    more = gave ∙ sym (append-nil (given a.out));
  }

  -- one input ends it, or nobody takes it
  pub ends_by : (a b : Reading S) (last : Input) → SameSlotOut a.out b.out → (given b.out ≡ given a.out ++ last ∷ []) ⊎ (given b.out ≡ given a.out)
      → AreReadOn remaining fails a.layout.nodes.items a.requests (remaining a.source) a.deframer.unread (last ∷ []) → EndsAt remaining fails a b
  ends_by a b last same (inl gave) read = record { same = same; inputs = last ∷ []; further = []; read = read; more = gave }
  ends_by a b last same (inr gave) read = record { same = same; inputs = []; further = last ∷ []; read = read; more = gave ∙ sym (append-nil (given a.out)) }

  -- a piece came in
  pub goes_fed : (a b : Reading S) (piece : List ℕ) → b.layout ≡ a.layout → b.out ≡ a.out → b.requests ≡ a.requests → Consumes (remaining a.source) (remaining b.source) piece
      → b.deframer.unread ≡ a.deframer.unread ++ piece → GoesOn remaining fails a b
  goes_fed a b piece layout out requests consumed fed = record {
    layout = layout;
    same = subst (SameSlotOut a.out) (sym out) (out_itself a.out);
    reads = subst (λ (o : SlotOut Input). ReadsOn a.layout.nodes.items (remaining a.source) (remaining b.source) a.deframer.unread b.deframer.unread a.requests b.requests (given a.out) (given o)) (sym out)
        (subst (λ n. ReadsOn a.layout.nodes.items (remaining a.source) (remaining b.source) a.deframer.unread b.deframer.unread a.requests n (given a.out) (given a.out)) (sym requests)
        (reads_piece a.layout.nodes.items (remaining a.source) (remaining b.source) a.deframer.unread b.deframer.unread piece a.requests (given a.out) consumed fed));
  }

  -- a frame was taken out, and what it asks for was given on
  pub goes_frame : (a b : Reading S) (input : Input) → b.layout ≡ a.layout → b.source ≡ a.source → SameSlotOut a.out b.out → TakesFront a.layout.nodes.items a.deframer.unread b.deframer.unread input
      → breaks input ≡ false → a.requests ≢ 0 → b.requests ≡ a.requests - requests_in input → given b.out ≡ given a.out ++ input ∷ [] → GoesOn remaining fails a b
  goes_frame a b input layout source same front whole some fewer gave = record {
    layout = layout;
    same = same;
    reads = subst (λ (x : S). ReadsOn a.layout.nodes.items (remaining a.source) (remaining x) a.deframer.unread b.deframer.unread a.requests b.requests (given a.out) (given b.out)) (sym source)
        (front_goes a.layout.nodes.items (goes_on a.layout.nodes.items) (remaining a.source) a.deframer.unread b.deframer.unread a.requests b.requests (given a.out) (given b.out) input front whole some fewer gave);
  }

  -- a frame ends it
  pub ends_frame : (a b : Reading S) (unread2 : List ℕ) (input : Input) → SameSlotOut a.out b.out → (given b.out ≡ given a.out ++ input ∷ []) ⊎ (given b.out ≡ given a.out)
      → TakesFront a.layout.nodes.items a.deframer.unread unread2 input → breaks input ≡ true → a.requests ≢ 0 → EndsAt remaining fails a b
  ends_frame a b unread2 input same gave front broken some = ends_by a b input same gave
      (front_ends a.layout.nodes.items (goes_on a.layout.nodes.items) remaining fails (remaining a.source) a.deframer.unread unread2 a.requests input front broken some)

-- no whole frame is unread
pub waiting_front : (wanted : ℕ) (unread : List ℕ) → IsWaiting wanted unread → wanted ≢ 0 → front_of unread ≡ Ok None
waiting_front wanted unread (inl none) some = absurd (some none)
waiting_front wanted unread (inr front) some = front

-- ---- a turn: a frame is taken out, its request is counted, and its input is given on

module _ {S : Type 0} (remaining : S → Option (List ℕ)) (fails : S → S → Type 0) (a took counted b : Reading S) (input : Input) (front : TakesFront a.layout.nodes.items a.deframer.unread took.deframer.unread input)
    (takes : took ≡ record a { deframer = took.deframer }) (counts : counted ≡ record took { requests = took.requests - requests_in input }) (gives : b ≡ record counted { out = b.out })
    (same : SameSlotOut counted.out b.out) where
  same_out : counted.out ≡ a.out
  same_out = ap (λ (x : Reading S). x.out) counts ∙ ap (λ (x : Reading S). x.out) takes

  on_same : SameSlotOut a.out b.out
  on_same = subst (λ (out : SlotOut Input). SameSlotOut out b.out) same_out same

  on_given : (inputs : List Input) → given b.out ≡ given counted.out ++ inputs → given b.out ≡ given a.out ++ inputs
  on_given inputs gave = gave ∙ ap (λ (out : SlotOut Input). given out ++ inputs) same_out

  pub turn_goes : breaks input ≡ false → a.requests ≢ 0 → given b.out ≡ given counted.out ++ input ∷ [] → GoesOn remaining fails a b
  turn_goes whole some gave = goes_frame remaining fails a b input
      (ap (λ (x : Reading S). x.layout) gives ∙ (ap (λ (x : Reading S). x.layout) counts ∙ ap (λ (x : Reading S). x.layout) takes))
      (ap (λ (x : Reading S). x.source) gives ∙ (ap (λ (x : Reading S). x.source) counts ∙ ap (λ (x : Reading S). x.source) takes)) on_same
      (subst (λ unread. TakesFront a.layout.nodes.items a.deframer.unread unread input)
      (sym (ap (λ (x : Reading S). x.deframer.unread) gives ∙ ap (λ (x : Reading S). x.deframer.unread) counts)) front)
      whole some
      (ap (λ (x : Reading S). x.requests) gives ∙ (ap (λ (x : Reading S). x.requests) counts ∙ ap (λ (x : Reading S). x.requests - requests_in input) takes)) (on_given (input ∷ []) gave)

  pub turn_ends : breaks input ≡ true → a.requests ≢ 0 → given b.out ≡ given counted.out ++ input ∷ [] → EndsAt remaining fails a b
  turn_ends broken some gave = ends_frame remaining fails a b took.deframer.unread input on_same (inl (on_given (input ∷ []) gave)) front broken some

  pub turn_stops : given b.out ≡ given counted.out → EndsAt remaining fails a b
  turn_stops gave = ends_here remaining fails a b on_same (gave ∙ ap given same_out)

-- it may stop anywhere
pub goes_ends : {S : Type 0} (remaining : S → Option (List ℕ)) (fails : S → S → Type 0) (a b : Reading S) → GoesOn remaining fails a b → EndsAt remaining fails a b
goes_ends remaining fails a b one = ends_then remaining fails a b b one (ends_here remaining fails b b (out_itself b.out) refl)

-- ---- it has ended

module _ {S : Type 0} (remaining : S → Option (List ℕ)) (fails : S → S → Type 0) (reader : Reader S) (b : Reading S) (ended : EndsAt remaining fails (held_by reader) b) where
  -- what came in, and what is left, is what it gave on
  pub joined : (nodes : List NodePorts) (wanted : ℕ) (source : Option (List ℕ)) (came came2 left gave : List Input) → Reads remaining nodes wanted source reader
      → came2 ≡ came → came2 ++ left ≡ gave → gave ≡ given b.out → AreRead remaining fails nodes wanted source (came ++ (left ++ ended.further))
  joined nodes wanted source came came2 left gave reads same whole is =
      subst (AreRead remaining fails nodes wanted source) (ap (λ (inputs : List Input). inputs ++ ended.further) (sym all) ∙ append_assoc came left ended.further)
      (subst (λ (all : List NodePorts). AreRead remaining fails all wanted source (ended.inputs ++ ended.further)) reads.nodes_are
      (subst (λ n. AreRead remaining fails (held_by reader).layout.nodes.items n source (ended.inputs ++ ended.further)) reads.wanted_are
      (subst (λ (x : Option (List ℕ)). AreRead remaining fails (held_by reader).layout.nodes.items (held_by reader).requests x (ended.inputs ++ ended.further)) reads.source_is
      (subst (λ (unread : List ℕ). AreReadOn remaining fails (held_by reader).layout.nodes.items (held_by reader).requests (remaining (held_by reader).source) unread (ended.inputs ++ ended.further)) reads.unread
      ended.read))))
    where
      all : came ++ left ≡ ended.inputs
      all = ap (λ (inputs : List Input). inputs ++ left) (sym same) ∙ (whole ∙ (is ∙ (ended.more ∙ ap (λ (inputs : List Input). inputs ++ ended.inputs) reads.none)))

-- the same thread
pub moved : {S : Type 0} (remaining : S → Option (List ℕ)) (a b : Reader S) (nodes : List NodePorts) (wanted : ℕ) (source : Option (List ℕ)) → held_by b ≡ held_by a → Reads remaining nodes wanted source a
    → Reads remaining nodes wanted source b
moved {S} remaining a b nodes wanted source same reads = record {
  nodes_are = ap (λ (x : Reading S). x.layout.nodes.items) same ∙ reads.nodes_are;
  wanted_are = ap (λ (x : Reading S). x.requests) same ∙ reads.wanted_are;
  source_is = ap (λ (x : Reading S). remaining x.source) same ∙ reads.source_is;
  unread = ap (λ (x : Reading S). x.deframer.unread) same ∙ reads.unread;
  none = ap (λ (x : Reading S). given x.out) same ∙ reads.none;
}
