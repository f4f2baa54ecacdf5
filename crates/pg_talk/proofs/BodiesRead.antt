-- What is read of a source, one step after another.
use Rattle.std.proofs.Common.{◌≡◌, ◌≢◌, ◌+◌, ◌-◌, ℕ, zero, suc, Bool, true, false, List, []}
use Rattle.std.proofs.Common.{◌∷◌, ◌++◌, length, take, Some, None, Ok, Err, Option, Result, inl}
use Rattle.std.proofs.Common.{inr, refl, sym, ap, subst, ◌∙◌, arith, append_assoc, append-nil}
use Rattle.std.specs.Prelude.{◌||◌, ⊤}
use Rattle.std.specs.Io.KnownBytes.{Consumes, IsAtEnd}
use Rattle.std.proofs.KnownBytes.{Consumes-nil, Consumes-trans}
use lib.Seq.{take-append-add}
use Rattle.pg_term.specs.declared.faults.TheConstants.{OUT_OF_MEMORY, READ_FAULT, TOO_LONG, TRUNCATED}
use Rattle.pg_cluster.proofs.PgFrame.Readings.{front_is_first, front_is_frame, pieces_continue}
use Rattle.pg_cluster.proofs.PgFrame.Readings.{taking_leaves_others, written_is_read}
use Rattle.pg_cluster.specs.PgFrame.declared.fault.TooLong.{TooLong}
use Rattle.pg_cluster.specs.PgFrame.Frames.{after_front, bodies_of, front_of, rest_of}
use Rattle.pg_term.specs.declared.fault.TermFault.{TermFault}
use Rattle.pg_term.specs.declared.term.Term.{Term}
use Rattle.pg_cluster.specs.PgTermIo.Reading.{term_of}
use Rattle.pg_node_requests.specs.declared.input.Input.{Input}
use Rattle.pg_node_requests.specs.declared.input.Input.TheVariants as forms
use Rattle.pg_node_requests.specs.declared.layout.NodePorts.{NodePorts}
use Rattle.pg_node_requests.specs.Requests.{input_of}
use Rattle.pg_talk.specs.ReadingThread.{breaks, ReadsOn, TakesFront}
use Rattle.pg_talk.specs.Readings.{AreAll, AreReadOn, asked_by, body_input, requests_in, cut_by}
use Rattle.pg_talk.specs.Readings.{FailsAfter, inputs_in, inputs_of, stream_ending}

-- ---- the inputs of bodies

module _ (nodes : List NodePorts) where
  -- the first body
  pub first_input : (wanted : ℕ) (body : List ℕ) (others : List (List ℕ)) (last : Input) → wanted ≢ 0
      → inputs_of nodes wanted (body ∷ others) last ≡ body_input nodes body ∷ inputs_of nodes (wanted - requests_in (body_input nodes body)) others last
  first_input zero body others last some = absurd (some refl)
  first_input (suc n) body others last some = refl

  pub last_input : (wanted : ℕ) (last : Input) → wanted ≢ 0 → inputs_of nodes wanted [] last ≡ last ∷ []
  last_input zero last some = absurd (some refl)
  last_input (suc n) last some = refl

  end_alone : (wanted : ℕ) → inputs_of nodes wanted [] forms.End ≡ forms.End ∷ []
  end_alone zero = refl
  end_alone (suc n) = refl

-- ---- bytes and what follows them

-- the first frame is the first whatever follows
first_body : (unread further body : List ℕ) → front_of unread ≡ Ok (Some body) → bodies_of (unread ++ further) ≡ body ∷ bodies_of (after_front unread ++ further)
first_body unread further body front =
    front_is_first.first (unread ++ further) body (pieces_continue.front unread further body front)
    ∙ ap (λ (bytes : List ℕ). body ∷ bodies_of bytes) (pieces_continue.behind unread further body front ∙ ap (λ (bytes : List ℕ). bytes ++ further) (sym (taking_leaves_others.whole unread body front)))

same_rest : (unread further body : List ℕ) → front_of unread ≡ Ok (Some body) → rest_of (unread ++ further) ≡ rest_of (after_front unread ++ further)
same_rest unread further body front =
    sym (taking_leaves_others.rest (unread ++ further))
    ∙ ap rest_of (taking_leaves_others.whole (unread ++ further) body (pieces_continue.front unread further body front)
    ∙ (pieces_continue.behind unread further body front ∙ ap (λ (bytes : List ℕ). bytes ++ further) (sym (taking_leaves_others.whole unread body front))))

-- no frame is whole, and nothing follows
no_body : (unread : List ℕ) → front_of unread ≡ Ok None → bodies_of (unread ++ []) ≡ []
no_body unread front = ap bodies_of (append-nil unread) ∙ ((front_is_first.open_rest unread).0 front).0

whole_rest : (unread : List ℕ) → front_of unread ≡ Ok None → rest_of (unread ++ []) ≡ unread
whole_rest unread front = ap rest_of (append-nil unread) ∙ front_is_frame.none unread (((front_is_first.open_rest unread).0 front).0)

-- ---- reading on

module _ (nodes : List NodePorts) where
  pub reads_itself : (x : Option (List ℕ)) (unread : List ℕ) (wanted : ℕ) (gave : List Input) → ReadsOn nodes x x unread unread wanted wanted gave gave
  reads_itself x unread wanted gave = record {
    bytes = [];
    consumed = Consumes-nil x;
    taken = [];
    bodies = λ further. refl;
    rest = λ further. refl;
    inputs = [];
    asked = λ others last. refl;
    more = sym (append-nil gave);
  }

  -- a piece came in
  pub reads_piece : (x y : Option (List ℕ)) (unread unread2 piece : List ℕ) (wanted : ℕ) (gave : List Input) → Consumes x y piece → unread2 ≡ unread ++ piece
      → ReadsOn nodes x y unread unread2 wanted wanted gave gave
  reads_piece x y unread unread2 piece wanted gave consumed is = record {
    bytes = piece;
    consumed = consumed;
    taken = [];
    bodies = λ further. ap bodies_of (follows further);
    rest = λ further. ap rest_of (follows further);
    inputs = [];
    asked = λ others last. refl;
    more = sym (append-nil gave);
  }
    where
      follows : (further : List ℕ) → unread ++ (piece ++ further) ≡ unread2 ++ further
      follows further = sym (append_assoc unread piece further) ∙ ap (λ (bytes : List ℕ). bytes ++ further) (sym is)

  -- a frame was taken out, and what it asks for was given on
  pub reads_frame : (x : Option (List ℕ)) (unread unread2 body : List ℕ) (wanted wanted2 : ℕ) (gave gave2 : List Input) → front_of unread ≡ Ok (Some body) → unread2 ≡ after_front unread
      → wanted ≢ 0 → wanted2 ≡ wanted - requests_in (body_input nodes body) → gave2 ≡ gave ++ body_input nodes body ∷ []
      → ReadsOn nodes x x unread unread2 wanted wanted2 gave gave2
  reads_frame x unread unread2 body wanted wanted2 gave gave2 front after some fewer more = record {
    bytes = [];
    consumed = Consumes-nil x;
    taken = body ∷ [];
    bodies = λ further. first_body unread further body front ∙ ap (λ (bytes : List ℕ). body ∷ bodies_of (bytes ++ further)) (sym after);
    rest = λ further. same_rest unread further body front ∙ ap (λ (bytes : List ℕ). rest_of (bytes ++ further)) (sym after);
    inputs = body_input nodes body ∷ [];
    asked = λ others last. first_input nodes wanted body others last some ∙ ap (λ n. body_input nodes body ∷ inputs_of nodes n others last) (sym fewer);
    more = more;
  }

  pub reads_then : (x y z : Option (List ℕ)) (u v t : List ℕ) (k l m : ℕ) (g h i : List Input) → ReadsOn nodes x y u v k l g h → ReadsOn nodes y z v t l m h i → ReadsOn nodes x z u t k m g i
  reads_then x y z u v t k l m g h i a b = record {
    bytes = a.bytes ++ b.bytes;
    consumed = Consumes-trans x y z a.bytes b.bytes a.consumed b.consumed;
    taken = a.taken ++ b.taken;
    bodies = λ further.
        ap (λ (bytes : List ℕ). bodies_of (u ++ bytes)) (append_assoc a.bytes b.bytes further)
        ∙ (a.bodies (b.bytes ++ further) ∙ (ap (λ (bodies : List (List ℕ)). a.taken ++ bodies) (b.bodies further) ∙ sym (append_assoc a.taken b.taken (bodies_of (t ++ further)))));
    rest = λ further. ap (λ (bytes : List ℕ). rest_of (u ++ bytes)) (append_assoc a.bytes b.bytes further) ∙ (a.rest (b.bytes ++ further) ∙ b.rest further);
    inputs = a.inputs ++ b.inputs;
    asked = λ others last.
        ap (λ (bodies : List (List ℕ)). inputs_of nodes k bodies last) (append_assoc a.taken b.taken others)
        ∙ (a.asked (b.taken ++ others) last ∙ (ap (λ (inputs : List Input). a.inputs ++ inputs) (b.asked others last) ∙ sym (append_assoc a.inputs b.inputs (inputs_of nodes m others last))));
    more = b.more ∙ (ap (λ (all : List Input). all ++ b.inputs) a.more ∙ append_assoc g a.inputs b.inputs);
  }

-- ---- all of a source

-- its bytes, where they are known
abbrev or_none : Option (List ℕ) → List ℕ
or_none None = []
or_none (Some bytes) = bytes

all_of : (source : Option (List ℕ)) → AreAll source (or_none source)
all_of None = tt
all_of (Some bytes) = refl

all_then : (x y : Option (List ℕ)) (bytes further : List ℕ) → Consumes x y bytes → AreAll y further → AreAll x (bytes ++ further)
all_then None y bytes further p q = tt
all_then (Some x) None bytes further p q = absurd p
all_then (Some x) (Some y) bytes further p q = ap (λ (rest : List ℕ). bytes ++ rest) q ∙ sym p

none_left : (source : Option (List ℕ)) → IsAtEnd source → AreAll source []
none_left None e = tt
none_left (Some bytes) e = sym e

empty_of : (bytes : List ℕ) → length bytes ≡ 0 → bytes ≡ []
empty_of [] e = refl
empty_of (byte ∷ bytes) e = absurd (omega (arith, e))

pub cut_ending : (unread : List ℕ) → length unread ≢ 0 → front_of unread ≡ Ok None → stream_ending unread ≡ forms.Broken TRUNCATED
cut_ending [] some front = absurd (some refl)
cut_ending (byte ∷ bytes) some front = ap cut_by front

long_ending : (unread : List ℕ) (fault : TooLong) → front_of unread ≡ Err fault → stream_ending unread ≡ forms.Broken TOO_LONG
long_ending [] fault front = let none = written_is_read.nothing.0 in absurd (cc)
long_ending (byte ∷ bytes) fault front = ap cut_by front

module _ {S : Type 0} (remaining : S → Option (List ℕ)) (fails : S → S → Type 0) (nodes : List NodePorts) where
  fails_then : (x y : Option (List ℕ)) (bytes further : List ℕ) → Consumes x y bytes → FailsAfter remaining fails y further → FailsAfter remaining fails x (bytes ++ further)
  fails_then x y bytes further consumed failed = record {
    before = failed.before;
    after = failed.after;
    failed = failed.failed;
    read = Consumes-trans x y (remaining failed.before) bytes further consumed failed.read;
  }

  -- what is read after that which was read so far
  pub read_then : (x y : Option (List ℕ)) (u v : List ℕ) (k l : ℕ) (g h rest : List Input) → (on : ReadsOn nodes x y u v k l g h) → AreReadOn remaining fails nodes l y v rest
      → AreReadOn remaining fails nodes k x u (on.inputs ++ rest)
  read_then x y u v k l g h rest on (inl (bytes, all, are)) = inl (on.bytes ++ bytes, all_then x y on.bytes bytes on.consumed all, ap (λ (inputs : List Input). on.inputs ++ inputs) are ∙ sym whole)
    where
      whole : inputs_in nodes k (u ++ (on.bytes ++ bytes)) ≡ on.inputs ++ inputs_in nodes l (v ++ bytes)
      whole =
          ap (λ (bodies : List (List ℕ)). inputs_of nodes k bodies (stream_ending (rest_of (u ++ (on.bytes ++ bytes))))) (on.bodies bytes)
          ∙ (ap (λ (end : List ℕ). inputs_of nodes k (on.taken ++ bodies_of (v ++ bytes)) (stream_ending end)) (on.rest bytes)
          ∙ on.asked (bodies_of (v ++ bytes)) (stream_ending (rest_of (v ++ bytes))))
  read_then x y u v k l g h rest on (inr (inl (bytes, all, (count, are)))) =
      inr (inl (on.bytes ++ bytes, all_then x y on.bytes bytes on.consumed all, (length on.taken + count, ap (λ (inputs : List Input). on.inputs ++ inputs) are ∙ sym some)))
    where
      last : Input
      last = forms.Broken OUT_OF_MEMORY

      some : inputs_of nodes k (take (length on.taken + count) (bodies_of (u ++ (on.bytes ++ bytes)))) last ≡ on.inputs ++ inputs_of nodes l (take count (bodies_of (v ++ bytes))) last
      some =
          ap (λ (bodies : List (List ℕ)). inputs_of nodes k (take (length on.taken + count) bodies) last) (on.bodies bytes)
          ∙ (ap (λ (bodies : List (List ℕ)). inputs_of nodes k bodies last) (take-append-add on.taken (bodies_of (v ++ bytes)) count)
          ∙ on.asked (take count (bodies_of (v ++ bytes))) last)
  read_then x y u v k l g h rest on (inr (inr (bytes, failed, are))) =
      inr (inr (on.bytes ++ bytes, fails_then x y on.bytes bytes on.consumed failed, ap (λ (inputs : List Input). on.inputs ++ inputs) are ∙ sym before))
    where
      last : Input
      last = forms.Broken READ_FAULT

      before : inputs_of nodes k (bodies_of (u ++ (on.bytes ++ bytes))) last ≡ on.inputs ++ inputs_of nodes l (bodies_of (v ++ bytes)) last
      before = ap (λ (bodies : List (List ℕ)). inputs_of nodes k bodies last) (on.bodies bytes) ∙ on.asked (bodies_of (v ++ bytes)) last

  -- ---- why nothing more is read

  module _ (source : Option (List ℕ)) (unread : List ℕ) (wanted : ℕ) where
    -- there is always something to be read
    abbrev pub to_be_read : List Input
    to_be_read = inputs_in nodes wanted (unread ++ or_none source)

    pub is_to_be_read : AreReadOn remaining fails nodes wanted source unread to_be_read
    is_to_be_read = inl (or_none source, all_of source, refl)

    -- no further request is wanted
    pub ends_wanted : wanted ≡ 0 → AreReadOn remaining fails nodes wanted source unread (forms.End ∷ [])
    ends_wanted none = inl (or_none source, all_of source, ap (λ n. inputs_in nodes n (unread ++ or_none source)) (sym none))

    -- the source is at its end, and no frame is cut
    pub ends_whole : IsAtEnd source → length unread ≡ 0 → AreReadOn remaining fails nodes wanted source unread (forms.End ∷ [])
    ends_whole over empty = inl (
      [],
      none_left source over,
      sym (
          ap (λ (bytes : List ℕ). inputs_in nodes wanted (bytes ++ [])) (empty_of unread empty)
          ∙ (ap (λ (bodies : List (List ℕ)). inputs_of nodes wanted bodies (stream_ending (rest_of []))) written_is_read.nothing.1
          ∙ (ap (λ (end : List ℕ). inputs_of nodes wanted [] (stream_ending end)) written_is_read.nothing.2 ∙ end_alone nodes wanted))),
    )

    -- it is at its end, within a frame
    pub ends_cut : wanted ≢ 0 → IsAtEnd source → length unread ≢ 0 → front_of unread ≡ Ok None → AreReadOn remaining fails nodes wanted source unread (forms.Broken TRUNCATED ∷ [])
    ends_cut some over more front = inl (
      [],
      none_left source over,
      sym (
          ap (λ (bodies : List (List ℕ)). inputs_of nodes wanted bodies (stream_ending (rest_of (unread ++ [])))) (no_body unread front)
          ∙ (ap (λ (end : List ℕ). inputs_of nodes wanted [] (stream_ending end)) (whole_rest unread front)
          ∙ (ap (inputs_of nodes wanted []) (cut_ending unread more front) ∙ last_input nodes wanted (forms.Broken TRUNCATED) some))),
    )

    -- a frame is too long
    pub ends_long : wanted ≢ 0 → (fault : TooLong) → front_of unread ≡ Err fault → AreReadOn remaining fails nodes wanted source unread (forms.Broken TOO_LONG ∷ [])
    ends_long some fault front =
        let bytes = unread ++ or_none source in
        let long = pieces_continue.overlong unread (or_none source) front in
        let none = ((front_is_first.overlong_rest bytes).0 long).0 in
        inl (
          or_none source,
          all_of source,
          sym (
              ap (λ (bodies : List (List ℕ)). inputs_of nodes wanted bodies (stream_ending (rest_of bytes))) none
              ∙ (ap (λ (end : List ℕ). inputs_of nodes wanted [] (stream_ending end)) (front_is_frame.none bytes none)
              ∙ (ap (inputs_of nodes wanted []) (long_ending bytes _ long) ∙ last_input nodes wanted (forms.Broken TOO_LONG) some))),
        )

    -- memory ran out
    pub ends_short : wanted ≢ 0 → AreReadOn remaining fails nodes wanted source unread (forms.Broken OUT_OF_MEMORY ∷ [])
    ends_short some = inr (inl (or_none source, all_of source, (0, sym (last_input nodes wanted (forms.Broken OUT_OF_MEMORY) some))))

    -- a read failed
    pub ends_failed : wanted ≢ 0 → front_of unread ≡ Ok None → (before after : S) → remaining before ≡ source → fails before after
        → AreReadOn remaining fails nodes wanted source unread (forms.Broken READ_FAULT ∷ [])
    ends_failed some front before after is failed = inr (inr (
      [],
      record { before = before; after = after; failed = failed; read = subst (λ (x : Option (List ℕ)). Consumes source x []) (sym is) (Consumes-nil source) },
      sym (ap (λ (bodies : List (List ℕ)). inputs_of nodes wanted bodies (forms.Broken READ_FAULT)) (no_body unread front) ∙ last_input nodes wanted (forms.Broken READ_FAULT) some),
    ))

-- ---- what ends an input

abbrev pub ends : Input → Bool
ends (forms.Ask client command) = false
ends (forms.Lose node) = false
ends forms.Bad = false
ends forms.End = true
ends (forms.Broken number) = true

abbrev pub has_end : List Input → Bool
has_end [] = false
has_end (input ∷ inputs) = ends input || has_end inputs

never_true : {A : Type 0} → false ≡ true → A
never_true e = absurd (cc)

-- only the last of inputs ends them
abbrev IsEnded : List Input → Type 0
IsEnded [] = ⊥
IsEnded (last ∷ []) = ⊤
IsEnded (input ∷ next ∷ inputs) = (ends input ≡ false) × IsEnded (next ∷ inputs)

ended_more : (input : Input) (inputs : List Input) → ends input ≡ false → IsEnded inputs → IsEnded (input ∷ inputs)
ended_more input [] on ended = absurd ended
ended_more input (next ∷ inputs) on ended = (on, ended)

-- nothing comes after an end
ended_whole : (xs ys : List Input) → IsEnded (xs ++ ys) → has_end xs ≡ true → ys ≡ []
ended_whole [] ys ended has = never_true has
ended_whole (x ∷ []) [] ended has = refl
ended_whole (x ∷ []) (y ∷ ys) ended has = never_true (sym (ap (λ (end : Bool). end || false) ended.0) ∙ has)
ended_whole (x ∷ next ∷ xs) ys ended has = ended_whole (next ∷ xs) ys ended.1 (sym (ap (λ (end : Bool). end || has_end (next ∷ xs)) ended.0) ∙ has)

module _ (nodes : List NodePorts) (on : (term : Term) → ends (input_of nodes term) ≡ false) where
  -- no body ends the input
  asked_on : (read : Result Term TermFault) → ends (asked_by nodes read) ≡ false
  asked_on (Ok term) = on term
  asked_on (Err fault) = refl

  body_on : (body : List ℕ) → ends (body_input nodes body) ≡ false
  body_on body = asked_on (term_of body)

  ended_of : (wanted : ℕ) (bodies : List (List ℕ)) (last : Input) → IsEnded (inputs_of nodes wanted bodies last)
  ended_of zero bodies last = tt
  ended_of (suc wanted) [] last = tt
  ended_of (suc wanted) (body ∷ bodies) last =
      let left = suc wanted - requests_in (body_input nodes body) in ended_more (body_input nodes body) (inputs_of nodes left bodies last) (body_on body) (ended_of left bodies last)

  whole_of : (wanted : ℕ) (bodies : List (List ℕ)) (last : Input) (xs ys : List Input) → xs ++ ys ≡ inputs_of nodes wanted bodies last → has_end xs ≡ true → ys ≡ []
  whole_of wanted bodies last xs ys e has = ended_whole xs ys (subst IsEnded (sym e) (ended_of wanted bodies last)) has

  module _ {S : Type 0} (remaining : S → Option (List ℕ)) (fails : S → S → Type 0) where
    nothing_more : (source : Option (List ℕ)) (unread : List ℕ) (wanted : ℕ) (xs ys : List Input) → AreReadOn remaining fails nodes wanted source unread (xs ++ ys) → has_end xs ≡ true → ys ≡ []
    nothing_more source unread wanted xs ys (inl (bytes, all, are)) has = whole_of wanted (bodies_of (unread ++ bytes)) (stream_ending (rest_of (unread ++ bytes))) xs ys are has
    nothing_more source unread wanted xs ys (inr (inl (bytes, all, (count, are)))) has = whole_of wanted (take count (bodies_of (unread ++ bytes))) (forms.Broken OUT_OF_MEMORY) xs ys are has
    nothing_more source unread wanted xs ys (inr (inr (bytes, failed, are))) has = whole_of wanted (bodies_of (unread ++ bytes)) (forms.Broken READ_FAULT) xs ys are has

    -- what has an end is all that is read
    pub read_whole : (source : Option (List ℕ)) (unread : List ℕ) (wanted : ℕ) (xs ys : List Input) → AreReadOn remaining fails nodes wanted source unread (xs ++ ys) → has_end xs ≡ true
        → AreReadOn remaining fails nodes wanted source unread xs
    read_whole source unread wanted xs ys read has =
        subst (AreReadOn remaining fails nodes wanted source unread) (ap (λ (rest : List Input). xs ++ rest) (nothing_more source unread wanted xs ys read has) ∙ append-nil xs) read

  -- ---- the front

  on_breaks : (input : Input) → ends input ≡ false → breaks input ≡ false
  on_breaks (forms.Ask client command) e = refl
  on_breaks (forms.Lose node) e = refl
  on_breaks forms.Bad e = refl
  on_breaks forms.End e = refl
  on_breaks (forms.Broken number) e = never_true (sym e)

  -- a frame was taken out, and the input goes on
  pub front_goes : (x : Option (List ℕ)) (unread unread2 : List ℕ) (wanted wanted2 : ℕ) (gave gave2 : List Input) (input : Input) → TakesFront nodes unread unread2 input → breaks input ≡ false
      → wanted ≢ 0 → wanted2 ≡ wanted - requests_in input → gave2 ≡ gave ++ input ∷ [] → ReadsOn nodes x x unread unread2 wanted wanted2 gave gave2
  front_goes x unread unread2 wanted wanted2 gave gave2 input (inr (fault, front, is)) whole some fewer more = never_true (sym whole ∙ ap breaks is)
  front_goes x unread unread2 wanted wanted2 gave gave2 input (inl (body, front, after, inr is)) whole some fewer more = never_true (sym whole ∙ ap breaks is)
  front_goes x unread unread2 wanted wanted2 gave gave2 input (inl (body, front, after, inl is)) whole some fewer more =
      reads_frame nodes x unread unread2 body wanted wanted2 gave gave2 front after some (fewer ∙ ap (λ (one : Input). wanted - requests_in one) is) (more ∙ ap (λ (one : Input). gave ++ one ∷ []) is)

  module _ {S : Type 0} (remaining : S → Option (List ℕ)) (fails : S → S → Type 0) where
    -- or it is broken there
    pub front_ends : (source : Option (List ℕ)) (unread unread2 : List ℕ) (wanted : ℕ) (input : Input) → TakesFront nodes unread unread2 input → breaks input ≡ true → wanted ≢ 0
        → AreReadOn remaining fails nodes wanted source unread (input ∷ [])
    front_ends source unread unread2 wanted input (inr (fault, front, is)) broken some =
        subst (λ (one : Input). AreReadOn remaining fails nodes wanted source unread (one ∷ [])) (sym is) (ends_long remaining fails nodes source unread wanted some fault front)
    front_ends source unread unread2 wanted input (inl (body, front, after, inr is)) broken some =
        subst (λ (one : Input). AreReadOn remaining fails nodes wanted source unread (one ∷ [])) (sym is) (ends_short remaining fails nodes source unread wanted some)
    front_ends source unread unread2 wanted input (inl (body, front, after, inl is)) broken some =
        never_true (sym (on_breaks (body_input nodes body) (body_on body)) ∙ (ap breaks (sym is) ∙ broken))
