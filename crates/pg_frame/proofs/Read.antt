-- What is read of bytes that came is what was written.
use Rattle.std.specs.Prelude.{◌≡◌, ◌≢◌, ℕ, List, [], ◌∷◌, ◌++◌, refl, Ok, Err, Some, None}
use Rattle.std.specs.List.{AllByRecursion, flat_map}
use Rattle.std.proofs.Common.{sym, ap, ◌∙◌, subst}
use Rattle.std.proofs.lemmas.List.{append_assoc, append-nil}
use Rattle.pg_frame.specs.Frames.{IsBody, frame, front_of, behind, too_long}
use Rattle.pg_frame.specs.Laws.{PiecesContinue, TakingLeavesOthers, WrittenIsRead}
use Rattle.pg_frame.specs.Pieces.{Bytes, bytes_on_way, frames_of, ArePackets, AreShort, FirstPacket, FirstPackets}

-- the first packet of frames that begin with a body
record Begins {P : Type 0} (write : P → List ℕ) (packets : List P) (body : List ℕ) : Type 0 where
  first : P
  others : List P
  are : packets ≡ first ∷ others
  is : body ≡ write first
  left : behind body (frames_of write packets) ≡ frames_of write others

begins : {P : Type 0} (read : WrittenIsRead) (write : P → List ℕ) (packets : List P) (body : List ℕ) → AreShort write packets
    → front_of (frames_of write packets) ≡ Ok (Some body) → Begins write packets body
begins read write [] body short e = let none : front_of [] ≡ Ok None = read.nothing.0 in absurd (cc)
begins read write (x ∷ xs) body short e =
    let first : front_of (frame (write x) ++ frames_of write xs) ≡ Ok (Some (write x)) = read.front (write x) (frames_of write xs) short.0 in
    let is : body ≡ write x = cc in
    record {
      first = x;
      others = xs;
      are = refl;
      is = is;
      left = ap (λ f. behind f (frame (write x) ++ frames_of write xs)) is ∙ read.behind (write x) (frames_of write xs) short.0;
    }

pub first_packet : {P : Type 0} (more : PiecesContinue) (rest : TakingLeavesOthers) (read : WrittenIsRead)
    (write : P → List ℕ) (packets : List P) (b : Bytes) (body : List ℕ)
    → AreShort write packets → ArePackets write packets b → front_of b.came ≡ Ok (Some body) → FirstPacket write packets b body
first_packet more rest read write packets b body short are e =
    let front : front_of (frames_of write packets) ≡ Ok (Some body) = ap front_of (sym are) ∙ more.front b.came (b.ring ++ b.outbox) body e in
    let h : Begins write packets body = begins read write packets body short front in
    record {
      first = h.first;
      others = h.others;
      are = h.are;
      is = h.is;
      left = ap (λ xs. xs ++ (b.ring ++ b.outbox)) (rest.whole b.came body e)
          ∙ sym (more.behind b.came (b.ring ++ b.outbox) body e)
          ∙ ap (behind body) are
          ∙ h.left;
    }

no_overlong : {P : Type 0} (read : WrittenIsRead) (write : P → List ℕ) (packets : List P) → AreShort write packets
    → front_of (frames_of write packets) ≡ Err too_long → ⊥
no_overlong read write [] short e = let none : front_of [] ≡ Ok None = read.nothing.0 in absurd (cc)
no_overlong read write (x ∷ xs) short e =
    let first : front_of (frame (write x) ++ frames_of write xs) ≡ Ok (Some (write x)) = read.front (write x) (frames_of write xs) short.0 in
    absurd (cc)

pub lawful_front : {P : Type 0} (more : PiecesContinue) (read : WrittenIsRead) (write : P → List ℕ) (packets : List P) (b : Bytes)
    → AreShort write packets → ArePackets write packets b → front_of b.came ≢ Err too_long
lawful_front more read write packets b short are e =
    no_overlong read write packets short (ap front_of (sym are) ∙ more.overlong b.came (b.ring ++ b.outbox) e)

pub whole_frame : {P : Type 0} (read : WrittenIsRead) (write : P → List ℕ) (x : P) (xs : List P) (b : Bytes)
    → AreShort write (x ∷ xs) → ArePackets write (x ∷ xs) b → b.ring ≡ [] → b.outbox ≡ [] → front_of b.came ≡ Ok (Some (write x))
whole_frame read write x xs b short are ring outbox =
    let all : b.came ≡ bytes_on_way b = sym (ap (λ ys. b.came ++ (ys ++ b.outbox)) ring ∙ ap (λ ys. b.came ++ ys) outbox ∙ append-nil b.came) in
    ap front_of (all ∙ are) ∙ read.front (write x) (frames_of write xs) short.0

pub first_packets : {P : Type 0} (read : WrittenIsRead) (write : P → List ℕ) (packets : List P) (bodies : List (List ℕ)) (after : List ℕ)
    → AreShort write packets → AllByRecursion IsBody bodies → flat_map frame bodies ++ after ≡ frames_of write packets
    → FirstPackets write packets bodies after
first_packets read write packets [] after short lawful e = record { first = []; others = packets; are = refl; is = refl; left = e }
first_packets read write packets (body ∷ bodies) after short lawful e =
    let rest : List ℕ = flat_map frame bodies ++ after in
    let all : frame body ++ rest ≡ frames_of write packets = sym (append_assoc (frame body) (flat_map frame bodies) after) ∙ e in
    let h : Begins write packets body = begins read write packets body short (ap front_of (sym all) ∙ read.front body rest lawful.0) in
    let left : rest ≡ frames_of write h.others = sym (read.behind body rest lawful.0) ∙ ap (behind body) all ∙ h.left in
    let short_too : AreShort write (h.first ∷ h.others) = subst (AreShort write) h.are short in
    let more : FirstPackets write h.others bodies after = first_packets read write h.others bodies after short_too.1 lawful.1 left in
    record {
      first = h.first ∷ more.first;
      others = more.others;
      are = h.are ∙ ap (λ ys. h.first ∷ ys) more.are;
      is = ap (λ f. f ∷ bodies) h.is ∙ ap (λ fs. write h.first ∷ fs) more.is;
      left = more.left;
    }
