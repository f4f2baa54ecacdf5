-- What is left on the way of a node that is lost.
use Rattle.std.specs.Prelude.{◌≡◌, ◌≢◌, ◌≤◌, ◌⊎◌, ℕ, List, [], ◌∷◌, ◌++◌, length}
use Rattle.std.specs.Prelude.{take, drop, refl, Ok, Err, Some, None, Option, Result}
use Rattle.std.proofs.Common.{sym, ap, ◌∙◌, arith, suc, inl, inr}
use Rattle.std.proofs.lemmas.List.{append_assoc, append-nil, take-append-drop}
use Rattle.pg_frame.specs.declared.fault.TooLong.{TooLong}
use Rattle.pg_frame.specs.Frames.{IsBody, frame, front_of, behind, too_long}
use Rattle.pg_frame.specs.Laws.{PiecesContinue, TakingLeavesOthers, WrittenIsRead}
use Rattle.pg_frame.specs.Pieces.{Bytes, bytes_on_way, pull, frames_of, ArePackets, AreShort, AreCut, StayWhole, FirstOfCut}

pub cut_pulled : {P : Type 0} (write : P → List ℕ) (packets : List P) (b : Bytes) (count : ℕ) → AreCut write packets b → AreCut write packets (pull count b)
cut_pulled write packets b count cut = record {
  piece = cut.piece;
  torn = cut.torn;
  are = append_assoc b.came (take count b.ring) (drop count b.ring) ∙ (ap (λ xs. b.came ++ xs) (take-append-drop count b.ring) ∙ cut.are);
}

-- ---- what is torn

none_behind : (xs : List ℕ) (b : ℕ) (m : List ℕ) → xs ++ b ∷ m ≡ [] → ⊥
none_behind [] b m e = absurd (cc)
none_behind (x ∷ xs) b m e = absurd (cc)

-- a part of a frame that is not the whole
torn_part : {P : Type 0} (more : PiecesContinue) (read : WrittenIsRead) (write : P → List ℕ) (x : P) (part : List ℕ) (b : ℕ) (m : List ℕ) → IsBody (write x)
    → part ++ b ∷ m ≡ frame (write x) → front_of part ≡ Ok None
torn_part more read write x part b m short is = go (front_of part) refl
  where
    whole : part ++ b ∷ m ≡ frame (write x) ++ []
    whole = is ∙ sym (append-nil (frame (write x)))

    go : (r : Result (Option (List ℕ)) TooLong) → front_of part ≡ r → front_of part ≡ Ok None
    go (Ok None) e = e
    go (Ok (Some body)) e =
        let first : front_of (frame (write x) ++ []) ≡ Ok (Some (write x)) = read.front (write x) [] short in
        let here : front_of (frame (write x) ++ []) ≡ Ok (Some body) = ap front_of (sym whole) ∙ more.front part (b ∷ m) body e in
        let same : body ≡ write x = cc in
        let left : behind body (part ++ b ∷ m) ≡ [] = ap (λ f. behind f (part ++ b ∷ m)) same ∙ (ap (behind (write x)) whole ∙ read.behind (write x) [] short) in
        absurd (none_behind (behind body part) b m (sym (more.behind part (b ∷ m) body e) ∙ left))
    go (Err fault) e =
        let first : front_of (frame (write x) ++ []) ≡ Ok (Some (write x)) = read.front (write x) [] short in
        let here : front_of (frame (write x) ++ []) ≡ Err too_long = ap front_of (sym whole) ∙ more.overlong part (b ∷ m) e in
        absurd (cc)

-- ---- a list that is cut in two ways

abbrev Cuts : (a b c d : List ℕ) → Type 0
Cuts a b c d = ((m : List ℕ) × (a ≡ c ++ m) × (m ++ b ≡ d)) ⊎ ((z : ℕ) × (m : List ℕ) × (a ++ z ∷ m ≡ c))

cuts : (a b c d : List ℕ) → a ++ b ≡ c ++ d → Cuts a b c d
cuts a b [] d e = inl (a, refl, e)
cuts [] b (z ∷ c) d e = inr (z, c, refl)
cuts (x ∷ a) b (z ∷ c) d e = go (cuts a b c d others)
  where
    first : x ≡ z
    first = cc

    others : a ++ b ≡ c ++ d
    others = cc

    go : Cuts a b c d → Cuts (x ∷ a) b (z ∷ c) d
    go (inl (m, is, rest)) = inl (m, (λ j. first j ∷ is j), rest)
    go (inr (y, m, is)) = inr (y, m, (λ j. first j ∷ is j))

-- ---- where a node is lost

-- Of frames that were cut anywhere the first are whole, and what follows is no whole frame.
record Whole {P : Type 0} (write : P → List ℕ) (packets : List P) (front : List ℕ) : Type 0 where
  count : ℕ
  few : count ≤ length packets
  piece : List ℕ
  torn : front_of piece ≡ Ok None
  are : front ≡ frames_of write (take count packets) ++ piece

whole : {P : Type 0} (more : PiecesContinue) (read : WrittenIsRead) (write : P → List ℕ) (packets : List P) (front rest : List ℕ) → AreShort write packets
    → front ++ rest ≡ frames_of write packets → Whole write packets front
whole more read write [] [] rest short e = record { count = 0; few = omega arith; piece = []; torn = read.nothing.0; are = refl }
whole more read write [] (b ∷ front) rest short e = absurd (cc)
whole more read write (x ∷ xs) front rest short e = go (cuts front rest (frame (write x)) (frames_of write xs) e) (λ m is. whole more read write xs m rest short.1 is)
  where
    go : Cuts front rest (frame (write x)) (frames_of write xs) → ((m : List ℕ) → m ++ rest ≡ frames_of write xs → Whole write xs m) → Whole write (x ∷ xs) front
    go (inl (m, is, behind_it)) others =
        let h : Whole write xs m = others m behind_it in
        record {
          count = suc h.count;
          few = omega (arith, h.few);
          piece = h.piece;
          torn = h.torn;
          are = is ∙ (ap (λ ys. frame (write x) ++ ys) h.are ∙ sym (append_assoc (frame (write x)) (frames_of write (take h.count xs)) h.piece));
        }
    go (inr (z, m, is)) others = record { count = 0; few = omega arith; piece = front; torn = torn_part more read write x front z m short.0 is; are = refl }

pub cut_short : {P : Type 0} (more : PiecesContinue) (read : WrittenIsRead) (write : P → List ℕ) (packets : List P) (b : Bytes) → AreShort write packets
    → ArePackets write packets b → StayWhole write packets b
cut_short more read write packets b short are =
    let h : Whole write packets (b.came ++ b.ring) = whole more read write packets (b.came ++ b.ring) b.outbox short (append_assoc b.came b.ring b.outbox ∙ are) in
    record { count = h.count; few = h.few; left = record { piece = h.piece; torn = h.torn; are = h.are } }

-- ---- what is read of it

-- what the first frame of some packets and a piece behind them is
no_packet : (piece body : List ℕ) → front_of piece ≡ Ok None → front_of piece ≡ Ok (Some body) → ⊥
no_packet piece body torn e = absurd (cc)

pub first_of_cut : {P : Type 0} (more : PiecesContinue) (rest : TakingLeavesOthers) (read : WrittenIsRead)
    (write : P → List ℕ) (packets : List P) (b : Bytes) (body : List ℕ) → AreShort write packets → AreCut write packets b → front_of b.came ≡ Ok (Some body)
    → FirstOfCut write packets b body
first_of_cut more rest read write [] b body short cut e =
    absurd (no_packet cut.piece body cut.torn (ap front_of (sym cut.are) ∙ more.front b.came b.ring body e))
first_of_cut more rest read write (x ∷ xs) b body short cut e =
    let others : List ℕ = frames_of write xs ++ cut.piece in
    let all : b.came ++ b.ring ≡ frame (write x) ++ others = cut.are ∙ append_assoc (frame (write x)) (frames_of write xs) cut.piece in
    let first : front_of (frame (write x) ++ others) ≡ Ok (Some (write x)) = read.front (write x) others short.0 in
    let here : front_of (frame (write x) ++ others) ≡ Ok (Some body) = ap front_of (sym all) ∙ more.front b.came b.ring body e in
    let is : body ≡ write x = cc in
    record {
      first = x;
      others = xs;
      are = refl;
      is = is;
      left = record {
        piece = cut.piece;
        torn = cut.torn;
        are = ap (λ ys. ys ++ b.ring) (rest.whole b.came body e)
            ∙ (sym (more.behind b.came b.ring body e)
            ∙ (ap (behind body) all
            ∙ (ap (λ f. behind f (frame (write x) ++ others)) is ∙ read.behind (write x) others short.0)));
      };
    }

pub lawful_cut : {P : Type 0} (more : PiecesContinue) (read : WrittenIsRead) (write : P → List ℕ) (packets : List P) (b : Bytes)
    → AreShort write packets → AreCut write packets b → front_of b.came ≢ Err too_long
lawful_cut more read write [] b short cut e =
    let all : front_of cut.piece ≡ Err too_long = ap front_of (sym cut.are) ∙ more.overlong b.came b.ring e in
    let torn : front_of cut.piece ≡ Ok None = cut.torn in
    absurd (cc)
lawful_cut more read write (x ∷ xs) b short cut e =
    let others : List ℕ = frames_of write xs ++ cut.piece in
    let all : b.came ++ b.ring ≡ frame (write x) ++ others = cut.are ∙ append_assoc (frame (write x)) (frames_of write xs) cut.piece in
    let first : front_of (frame (write x) ++ others) ≡ Ok (Some (write x)) = read.front (write x) others short.0 in
    let here : front_of (frame (write x) ++ others) ≡ Err too_long = ap front_of (sym all) ∙ more.overlong b.came b.ring e in
    absurd (cc)

pub whole_of_cut : {P : Type 0} (read : WrittenIsRead) (write : P → List ℕ) (x : P) (xs : List P) (b : Bytes)
    → AreShort write (x ∷ xs) → AreCut write (x ∷ xs) b → b.ring ≡ [] → front_of b.came ≡ Ok (Some (write x))
whole_of_cut read write x xs b short cut ring =
    let all : b.came ≡ frame (write x) ++ (frames_of write xs ++ cut.piece) = sym (ap (λ ys. b.came ++ ys) ring ∙ append-nil b.came)
    ∙ (cut.are ∙ append_assoc (frame (write x)) (frames_of write xs) cut.piece) in
    ap front_of all ∙ read.front (write x) (frames_of write xs ++ cut.piece) short.0
