-- The laws of src/laws.rt.
use Rattle.std.proofs.Common.{◌≡◌, ℕ, zero, suc, ◌<◌, ◌+◌, take, drop, length, get_or, List, [], ◌∷◌}
use Rattle.std.proofs.Common.{◌++◌, Some, None, Ok, Err, refl, ap, sym, ◌∙◌, subst, inl, inr, arith}
use Rattle.std.proofs.lemmas.List.{append_assoc, append-nil, take-append-drop, length-take-le, drop-drop}
use Rattle.std.proofs.lemmas.Nat.{be_bytes_4}
use Rattle.std.specs.Int.{w32, to_be_bytes}
use Rattle.std.specs.List.{AllByRecursion, flat_map}
use Rattle.pg_frame.specs.Frames.{IsBytes, IsBody, IsOpen, IsOverlong, Frames, Leaves, frame, size_at}
use Rattle.pg_frame.specs.Frames.{too_long, front_of, behind, after_front, bodies_of, rest_of}
use Rattle.pg_frame.specs.Laws.{OneReading, RestBeginsNoFrame, PiecesContinue, OverlongStays}
use Rattle.pg_frame.specs.Laws.{FrontIsFirst, FrontIsFrame, TakingLeavesOthers, WrittenIsRead, LoopKeeps}
use Rattle.pg_frame.proofs.Fronts.{IsFront, whole, waiting, overlong, cases_of, front_is, open_is}
use Rattle.pg_frame.proofs.Fronts.{overlong_is, front_of-open, front_of-overlong, front_of-append}
use Rattle.pg_frame.proofs.Fronts.{behind-append, overlong-append, length-frame, front_of-frame, behind-frame}
use Rattle.pg_frame.proofs.Bodies.{IsCut, bodies_of-cut, rest_of-cut, bodies_of-whole, rest_of-whole}
use Rattle.pg_frame.proofs.Bodies.{after_front-whole, after_front-cut, by_frames, cut-rest_of}
use Rattle.pg_frame.proofs.Bodies.{bodies_of-append, rest_of-append, bodies_of-frames, rest_of-frames}

-- Lists of bytes

all_right : {A : Type 0} (Q : A → Type 0) (xs ys : List A) → AllByRecursion Q (xs ++ ys) → AllByRecursion Q ys
all_right Q [] ys h = h
all_right Q (x ∷ xs) ys h = all_right Q xs ys h.1

all_drop : {A : Type 0} (Q : A → Type 0) (n : ℕ) (xs : List A) → AllByRecursion Q xs → AllByRecursion Q (drop n xs)
all_drop Q n xs h = all_right Q (take n xs) (drop n xs) (subst (AllByRecursion Q) (sym (take-append-drop n xs)) h)

byte_of_take : (xs : List ℕ) (n i : ℕ) → IsBytes xs → get_or (take n xs) i 0 < 256
byte_of_take xs zero i h = omega arith
byte_of_take [] (suc n) i h = omega arith
byte_of_take (x ∷ xs) (suc n) zero h = h.0
byte_of_take (x ∷ xs) (suc n) (suc i) h = byte_of_take xs n i h.1

-- the first frame is the one that is written for its body
frame_is : (b f : List ℕ) → IsBytes b → front_of b ≡ Ok (Some f) → b ≡ frame f ++ behind f b
unfolding frame size_at
frame_is b f h e =
    let i : IsFront b f = front_is b f e in
    let head : to_be_bytes w32 (length f) ≡ take 4 b = be_bytes_4 (take 4 b) (length f) (length-take-le 4 b (omega (arith, i.fits))) (λ k. byte_of_take b 4 k h) i.size in
    let body : take (length f) (drop 4 b) ≡ f = ap (λ n. take n (drop 4 b)) i.size ∙ i.body_is in
    let after : drop (length f) (drop 4 b) ≡ behind f b = drop-drop (length f) 4 b in
    sym (append_assoc (to_be_bytes w32 (length f)) f (behind f b)
    ∙ (ap (λ xs. xs ++ (f ++ behind f b)) head
    ∙ (ap (λ xs. take 4 b ++ (xs ++ behind f b)) (sym body)
    ∙ (ap (λ xs. take 4 b ++ (take (length f) (drop 4 b) ++ xs)) (sym after)
    ∙ (ap (λ xs. take 4 b ++ xs) (take-append-drop (length f) (drop 4 b)) ∙ take-append-drop 4 b)))))

frames_found : (b : List ℕ) → IsBytes b → Frames b (bodies_of b) (rest_of b)
frames_found b =
    by_frames (λ b. IsBytes b → Frames b (bodies_of b) (rest_of b))
    (λ b c h. record {
      whole = sym (ap (λ xs. flat_map frame xs ++ rest_of b) (bodies_of-cut b c) ∙ rest_of-cut b c);
      each = subst (AllByRecursion IsBody) (sym (bodies_of-cut b c)) tt;
      cut = cut-rest_of b;
    })
    (λ b f e k h.
    let i : IsFront b f = front_is b f e in
    let r : Frames (behind f b) (bodies_of (behind f b)) (rest_of (behind f b)) = k (all_drop (λ byte. byte < 256) (4 + length f) b h) in
    let lawful : IsBody f = omega (arith, i.size, i.lawful) in
    record {
      whole =
          frame_is b f h e
          ∙ (ap (λ xs. frame f ++ xs) r.whole
          ∙ (sym (append_assoc (frame f) (flat_map frame (bodies_of (behind f b))) (rest_of (behind f b)))
          ∙ (ap (λ xs. flat_map frame xs ++ rest_of (behind f b)) (sym (bodies_of-whole b f e)) ∙ ap (λ xs. flat_map frame (bodies_of b) ++ xs) (sym (rest_of-whole b f e)))));
      each = subst (AllByRecursion IsBody) (sym (bodies_of-whole b f e)) (lawful, r.each);
      cut = cut-rest_of b;
    })
    b

frames_only : (b : List ℕ) (fs : List (List ℕ)) (r : List ℕ) → Frames b fs r → (fs ≡ bodies_of b) × (r ≡ rest_of b)
frames_only b fs r h = (
  sym (ap bodies_of h.whole ∙ (bodies_of-frames fs r h.each ∙ (ap (λ xs. fs ++ xs) (bodies_of-cut r h.cut) ∙ append-nil fs))),
  sym (ap rest_of h.whole ∙ (rest_of-frames fs r h.each ∙ rest_of-cut r h.cut)),
)

pub one_reading : OneReading
one_reading = record { found = frames_found; only = frames_only }

pub rest_begins_no_frame : RestBeginsNoFrame
rest_begins_no_frame = record {
  no_frame = λ r f a c l e.
      let one : bodies_of r ≡ f ∷ bodies_of (behind f r) = bodies_of-whole r f (ap front_of e ∙ front_of-frame f a l) in
      let none : bodies_of r ≡ [] = bodies_of-cut r c in
      cc;
  either = λ r h no. elim (cases_of r) [
    | whole f z i ↦ absurd (no f (behind f r) (omega (arith, i.size, i.lawful)) (frame_is r f h z))
    | waiting z o ↦ inl o
    | overlong z o ↦ inr o
  ];
  apart = λ r o v.
      let open_front : front_of r ≡ Ok None = front_of-open r o in
      let overlong_front : front_of r ≡ Err too_long = front_of-overlong r v in
      cc;
}

pub pieces_continue : PiecesContinue
pieces_continue = record {
  prefix = λ b p fs gs r s h k.
      (bodies_of (rest_of b ++ p), (frames_only (b ++ p) gs s k).0 ∙ (bodies_of-append b p ∙ ap (λ xs. xs ++ bodies_of (rest_of b ++ p)) (sym (frames_only b fs r h).0)));
  bodies = bodies_of-append;
  rest = rest_of-append;
  front = front_of-append;
  behind = behind-append;
  overlong = λ b p e. front_of-overlong (b ++ p) (overlong-append b p (overlong_is b e));
}

rest_stays : (b p : List ℕ) → IsOverlong (rest_of b) → rest_of (b ++ p) ≡ rest_of b ++ p
rest_stays b p o = rest_of-append b p ∙ rest_of-cut (rest_of b ++ p) (inr (overlong-append (rest_of b) p o))

pub overlong_stays : OverlongStays
overlong_stays = record {
  bodies = λ b p o.
      bodies_of-append b p ∙ (ap (λ xs. bodies_of b ++ xs) (bodies_of-cut (rest_of b ++ p) (inr (overlong-append (rest_of b) p o))) ∙ append-nil (bodies_of b));
  rest = rest_stays;
  overlong = λ b p o. subst IsOverlong (sym (rest_stays b p o)) (overlong-append (rest_of b) p o);
}

-- The front

none_is : (b : List ℕ) → IsCut b → (bodies_of b ≡ []) × (rest_of b ≡ b)
none_is b c = (bodies_of-cut b c, rest_of-cut b c)

cut_of_none : (b : List ℕ) → bodies_of b ≡ [] → IsCut b
cut_of_none b e = elim (cases_of b) [
  | whole f z i ↦ let m : bodies_of b ≡ f ∷ bodies_of (behind f b) = bodies_of-whole b f z in absurd (cc)
  | waiting z o ↦ inl o
  | overlong z o ↦ inr o
]

first_again : (b f : List ℕ) (fs : List (List ℕ)) → bodies_of b ≡ f ∷ fs → front_of b ≡ Ok (Some f)
first_again b f fs e = elim (cases_of b) [
  | whole g z i ↦
      let m : bodies_of b ≡ g ∷ bodies_of (behind g b) = bodies_of-whole b g z in
      let same : g ≡ f = cc in
      z ∙ ap (λ x. Ok (Some x)) same
  | waiting z o ↦ let m : bodies_of b ≡ [] = bodies_of-cut b (inl o) in absurd (cc)
  | overlong z o ↦ let m : bodies_of b ≡ [] = bodies_of-cut b (inr o) in absurd (cc)
]

pub front_is_first : FrontIsFirst
front_is_first = record {
  first = bodies_of-whole;
  again = first_again;
  open_rest = λ b. (
    (λ e. let o : IsOpen b = open_is b e in (bodies_of-cut b (inl o), subst IsOpen (sym (rest_of-cut b (inl o))) o)),
    (λ h. front_of-open b (subst IsOpen (rest_of-cut b (cut_of_none b h.0)) h.1)),
  );
  overlong_rest = λ b. (
    (λ e. let o : IsOverlong b = overlong_is b e in (bodies_of-cut b (inr o), subst IsOverlong (sym (rest_of-cut b (inr o))) o)),
    (λ h. front_of-overlong b (subst IsOverlong (rest_of-cut b (cut_of_none b h.0)) h.1)),
  );
}

pub front_is_frame : FrontIsFrame
front_is_frame = record {
  lawful = λ b f e. let i : IsFront b f = front_is b f e in omega (arith, i.size, i.lawful);
  within = λ b f e. let i : IsFront b f = front_is b f e in omega (arith, i.size, i.fits);
  frame = frame_is;
  none = λ b e. rest_of-cut b (cut_of_none b e);
}

-- Taking

bodies_left : (b : List ℕ) → bodies_of (after_front b) ≡ drop 1 (bodies_of b)
bodies_left b = elim (cases_of b) [
  | whole f e i ↦ ap bodies_of (after_front-whole b f e) ∙ sym (ap (drop 1) (bodies_of-whole b f e))
  | waiting e o ↦ ap bodies_of (after_front-cut b (inl o)) ∙ (bodies_of-cut b (inl o) ∙ sym (ap (drop 1) (bodies_of-cut b (inl o))))
  | overlong e o ↦ ap bodies_of (after_front-cut b (inr o)) ∙ (bodies_of-cut b (inr o) ∙ sym (ap (drop 1) (bodies_of-cut b (inr o))))
]

rest_left : (b : List ℕ) → rest_of (after_front b) ≡ rest_of b
rest_left b = elim (cases_of b) [
  | whole f e i ↦ ap rest_of (after_front-whole b f e) ∙ sym (rest_of-whole b f e)
  | waiting e o ↦ ap rest_of (after_front-cut b (inl o))
  | overlong e o ↦ ap rest_of (after_front-cut b (inr o))
]

pub taking_leaves_others : TakingLeavesOthers
taking_leaves_others = record { whole = after_front-whole; bodies = bodies_left; rest = rest_left }

pub written_is_read : WrittenIsRead
written_is_read = record {
  nothing = (front_of-open [] (inl (omega arith)), bodies_of-cut [] (inl (inl (omega arith))), rest_of-cut [] (inl (inl (omega arith))));
  length_frame = length-frame;
  front = front_of-frame;
  behind = λ f r h. behind-frame f r;
  bodies = bodies_of-frames;
  rest = rest_of-frames;
}

-- The loop

feeds : (all unread p : List ℕ) (taken : List (List ℕ)) → Leaves all taken unread → Leaves (all ++ p) taken (unread ++ p)
feeds all unread p taken h = record {
  bodies =
      bodies_of-append all p
      ∙ (ap (λ xs. xs ++ bodies_of (rest_of all ++ p)) h.bodies
      ∙ (append_assoc taken (bodies_of unread) (bodies_of (rest_of all ++ p))
      ∙ (ap (λ xs. taken ++ (bodies_of unread ++ bodies_of (xs ++ p))) h.rest ∙ ap (λ xs. taken ++ xs) (sym (bodies_of-append unread p)))));
  rest = rest_of-append all p ∙ (ap (λ xs. rest_of (xs ++ p)) h.rest ∙ sym (rest_of-append unread p));
}

takes : (all unread f : List ℕ) (taken : List (List ℕ)) → Leaves all taken unread → front_of unread ≡ Ok (Some f) → Leaves all (taken ++ f ∷ []) (after_front unread)
takes all unread f taken h e =
    let left : bodies_of unread ≡ f ∷ bodies_of (after_front unread) = bodies_of-whole unread f e ∙ ap (λ xs. f ∷ bodies_of xs) (sym (after_front-whole unread f e)) in
    record {
      bodies = h.bodies ∙ (ap (λ xs. taken ++ xs) left ∙ sym (append_assoc taken (f ∷ []) (bodies_of (after_front unread))));
      rest = h.rest ∙ sym (rest_left unread);
    }

ends : (all unread : List ℕ) (taken : List (List ℕ)) → Leaves all taken unread → IsCut unread → (taken ≡ bodies_of all) × (unread ≡ rest_of all)
ends all unread taken h c = (
  sym (h.bodies ∙ (ap (λ xs. taken ++ xs) (bodies_of-cut unread c) ∙ append-nil taken)),
  sym (h.rest ∙ rest_of-cut unread c),
)

pub loop_keeps : LoopKeeps
loop_keeps = record {
  start = λ b. record { bodies = refl; rest = refl };
  feeds = feeds;
  takes = takes;
  waits = λ all unread taken h e.
      let o : IsOpen unread = open_is unread e in
      let done = ends all unread taken h (inl o) in
      (done.0, done.1, o);
  stops = λ all unread taken h e.
      let o : IsOverlong unread = overlong_is unread e in
      let done = ends all unread taken h (inr o) in
      (done.0, done.1, o);
}
