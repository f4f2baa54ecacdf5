-- The bodies of bytes and their rest, frame after frame.
use Rattle.std.proofs.Common.{◌≡◌, ℕ, zero, suc, ◌≤◌, ◌+◌, length, List, [], ◌∷◌, ◌++◌}
use Rattle.std.proofs.Common.{Some, Ok, refl, ap, sym, ◌∙◌, subst, inl, inr, ◌⊎◌, arith}
use Rattle.std.proofs.lemmas.List.{append_assoc, length-drop}
use Rattle.std.specs.List.{AllByRecursion, flat_map}
use Rattle.pg_frame.specs.Frames.{IsBody, IsOpen, IsOverlong, frame, front_of, behind}
use Rattle.pg_frame.specs.Frames.{after_front, first_bodies, behind_first, bodies_of, rest_of}
use Rattle.pg_frame.proofs.Fronts.{IsFront, whole, waiting, overlong, cases_of, front_is, front_of-open}
use Rattle.pg_frame.proofs.Fronts.{front_of-overlong, front_of-append, behind-append, front_of-frame, behind-frame}

-- what has no whole frame at its front
abbrev pub IsCut : List ℕ → Type 0
IsCut b = IsOpen b ⊎ IsOverlong b

length-behind : (n : ℕ) (b body : List ℕ) → front_of b ≡ Ok (Some body) → length b ≤ suc n → length (behind body b) ≤ n
length-behind n b body e l =
    let i : IsFront b body = front_is b body e in omega (arith, i.fits, i.size, length-drop (4 + length body) b)

first_bodies-cut : (n : ℕ) (b : List ℕ) → IsCut b → first_bodies n b ≡ []
unfolding first_bodies
first_bodies-cut zero b c = refl
first_bodies-cut (suc n) b (inl o) = rw (front_of-open b o) refl
first_bodies-cut (suc n) b (inr o) = rw (front_of-overlong b o) refl

behind_first-cut : (n : ℕ) (b : List ℕ) → IsCut b → behind_first n b ≡ b
unfolding behind_first
behind_first-cut zero b c = refl
behind_first-cut (suc n) b (inl o) = rw (front_of-open b o) refl
behind_first-cut (suc n) b (inr o) = rw (front_of-overlong b o) refl

first_bodies-suc : (n : ℕ) (b f : List ℕ) → front_of b ≡ Ok (Some f) → first_bodies (suc n) b ≡ f ∷ first_bodies n (behind f b)
unfolding first_bodies
first_bodies-suc n b f e = rw e refl

behind_first-suc : (n : ℕ) (b f : List ℕ) → front_of b ≡ Ok (Some f) → behind_first (suc n) b ≡ behind_first n (behind f b)
unfolding behind_first
behind_first-suc n b f e = rw e refl

cut_nil : (b : List ℕ) → length b ≤ 0 → IsCut b
cut_nil b l = inl (inl (omega arith))

-- a count that is large enough changes nothing
first_bodies-enough : (n m : ℕ) (b : List ℕ) → length b ≤ n → length b ≤ m → first_bodies n b ≡ first_bodies m b
first_bodies-enough zero m b l k = first_bodies-cut zero b (cut_nil b l) ∙ sym (first_bodies-cut m b (cut_nil b l))
first_bodies-enough (suc n) zero b l k = first_bodies-cut (suc n) b (cut_nil b k) ∙ sym (first_bodies-cut zero b (cut_nil b k))
first_bodies-enough (suc n) (suc m) b l k = elim (cases_of b) [
  | whole f e i ↦
      first_bodies-suc n b f e
      ∙ (ap (λ xs. f ∷ xs) (first_bodies-enough n m (behind f b) (length-behind n b f e l) (length-behind m b f e k)) ∙ sym (first_bodies-suc m b f e))
  | waiting e o ↦ first_bodies-cut (suc n) b (inl o) ∙ sym (first_bodies-cut (suc m) b (inl o))
  | overlong e o ↦ first_bodies-cut (suc n) b (inr o) ∙ sym (first_bodies-cut (suc m) b (inr o))
]

behind_first-enough : (n m : ℕ) (b : List ℕ) → length b ≤ n → length b ≤ m → behind_first n b ≡ behind_first m b
behind_first-enough zero m b l k = behind_first-cut zero b (cut_nil b l) ∙ sym (behind_first-cut m b (cut_nil b l))
behind_first-enough (suc n) zero b l k = behind_first-cut (suc n) b (cut_nil b k) ∙ sym (behind_first-cut zero b (cut_nil b k))
behind_first-enough (suc n) (suc m) b l k = elim (cases_of b) [
  | whole f e i ↦
      behind_first-suc n b f e
      ∙ (behind_first-enough n m (behind f b) (length-behind n b f e l) (length-behind m b f e k) ∙ sym (behind_first-suc m b f e))
  | waiting e o ↦ behind_first-cut (suc n) b (inl o) ∙ sym (behind_first-cut (suc m) b (inl o))
  | overlong e o ↦ behind_first-cut (suc n) b (inr o) ∙ sym (behind_first-cut (suc m) b (inr o))
]

-- The two functions, a frame at a time

pub bodies_of-cut : (b : List ℕ) → IsCut b → bodies_of b ≡ []
unfolding bodies_of
bodies_of-cut b c = first_bodies-cut (length b) b c

pub rest_of-cut : (b : List ℕ) → IsCut b → rest_of b ≡ b
unfolding rest_of
rest_of-cut b c = behind_first-cut (length b) b c

pub bodies_of-whole : (b f : List ℕ) → front_of b ≡ Ok (Some f) → bodies_of b ≡ f ∷ bodies_of (behind f b)
unfolding bodies_of
bodies_of-whole b f e =
    first_bodies-enough (length b) (suc (length b)) b (omega arith) (omega arith)
    ∙ (first_bodies-suc (length b) b f e
    ∙ ap (λ xs. f ∷ xs) (first_bodies-enough (length b) (length (behind f b)) (behind f b) (omega (arith, length-drop (4 + length f) b)) (omega arith)))

pub rest_of-whole : (b f : List ℕ) → front_of b ≡ Ok (Some f) → rest_of b ≡ rest_of (behind f b)
unfolding rest_of
rest_of-whole b f e =
    behind_first-enough (length b) (suc (length b)) b (omega arith) (omega arith)
    ∙ (behind_first-suc (length b) b f e
    ∙ behind_first-enough (length b) (length (behind f b)) (behind f b) (omega (arith, length-drop (4 + length f) b)) (omega arith))

pub after_front-whole : (b f : List ℕ) → front_of b ≡ Ok (Some f) → after_front b ≡ behind f b
unfolding after_front
after_front-whole b f e = rw e refl

pub after_front-cut : (b : List ℕ) → IsCut b → after_front b ≡ b
unfolding after_front
after_front-cut b (inl o) = rw (front_of-open b o) refl
after_front-cut b (inr o) = rw (front_of-overlong b o) refl

-- what holds of bytes that begin with no whole frame, and of bytes behind whose first frame it holds, holds of all
by_count : (P : List ℕ → Type 0) → ((b : List ℕ) → IsCut b → P b) → ((b f : List ℕ) → front_of b ≡ Ok (Some f) → P (behind f b) → P b)
    → (n : ℕ) (b : List ℕ) → length b ≤ n → P b
by_count P none more zero b l = none b (cut_nil b l)
by_count P none more (suc n) b l = elim (cases_of b) [
  | whole f e i ↦ more b f e (by_count P none more n (behind f b) (length-behind n b f e l))
  | waiting e o ↦ none b (inl o)
  | overlong e o ↦ none b (inr o)
]

pub by_frames : (P : List ℕ → Type 0) → ((b : List ℕ) → IsCut b → P b) → ((b f : List ℕ) → front_of b ≡ Ok (Some f) → P (behind f b) → P b) → (b : List ℕ) → P b
by_frames P none more b = by_count P none more (length b) b (omega arith)

-- the rest begins with no whole frame
pub cut-rest_of : (b : List ℕ) → IsCut (rest_of b)
cut-rest_of b =
    by_frames (λ b. IsCut (rest_of b)) (λ b c. subst IsCut (sym (rest_of-cut b c)) c) (λ b f e h. subst IsCut (sym (rest_of-whole b f e)) h) b

-- More bytes

pub bodies_of-append : (b p : List ℕ) → bodies_of (b ++ p) ≡ bodies_of b ++ bodies_of (rest_of b ++ p)
bodies_of-append b p =
    by_frames (λ b. bodies_of (b ++ p) ≡ bodies_of b ++ bodies_of (rest_of b ++ p))
    (λ b c. rw (bodies_of-cut b c, rest_of-cut b c) refl)
    (λ b f e h.
    bodies_of-whole (b ++ p) f (front_of-append b p f e)
    ∙ (ap (λ xs. f ∷ bodies_of xs) (behind-append b p f e)
    ∙ (ap (λ xs. f ∷ xs) h
    ∙ (ap (λ xs. f ∷ (bodies_of (behind f b) ++ bodies_of (xs ++ p))) (sym (rest_of-whole b f e))
    ∙ ap (λ xs. xs ++ bodies_of (rest_of b ++ p)) (sym (bodies_of-whole b f e))))))
    b

pub rest_of-append : (b p : List ℕ) → rest_of (b ++ p) ≡ rest_of (rest_of b ++ p)
rest_of-append b p =
    by_frames (λ b. rest_of (b ++ p) ≡ rest_of (rest_of b ++ p))
    (λ b c. rw (rest_of-cut b c) refl)
    (λ b f e h.
    rest_of-whole (b ++ p) f (front_of-append b p f e)
    ∙ (ap rest_of (behind-append b p f e) ∙ (h ∙ ap (λ xs. rest_of (xs ++ p)) (sym (rest_of-whole b f e)))))
    b

-- Frames in front

pub front_of-frames : (f : List ℕ) (fs : List (List ℕ)) (r : List ℕ) → IsBody f → front_of (flat_map frame (f ∷ fs) ++ r) ≡ Ok (Some f)
front_of-frames f fs r l = ap front_of (append_assoc (frame f) (flat_map frame fs) r) ∙ front_of-frame f (flat_map frame fs ++ r) l

pub behind-frames : (f : List ℕ) (fs : List (List ℕ)) (r : List ℕ) → behind f (flat_map frame (f ∷ fs) ++ r) ≡ flat_map frame fs ++ r
behind-frames f fs r = ap (behind f) (append_assoc (frame f) (flat_map frame fs) r) ∙ behind-frame f (flat_map frame fs ++ r)

pub bodies_of-frames : (fs : List (List ℕ)) (r : List ℕ) → AllByRecursion IsBody fs → bodies_of (flat_map frame fs ++ r) ≡ fs ++ bodies_of r
bodies_of-frames [] r h = refl
bodies_of-frames (f ∷ fs) r h =
    bodies_of-whole (flat_map frame (f ∷ fs) ++ r) f (front_of-frames f fs r h.0)
    ∙ (ap (λ xs. f ∷ bodies_of xs) (behind-frames f fs r) ∙ ap (λ xs. f ∷ xs) (bodies_of-frames fs r h.1))

pub rest_of-frames : (fs : List (List ℕ)) (r : List ℕ) → AllByRecursion IsBody fs → rest_of (flat_map frame fs ++ r) ≡ rest_of r
rest_of-frames [] r h = refl
rest_of-frames (f ∷ fs) r h =
    rest_of-whole (flat_map frame (f ∷ fs) ++ r) f (front_of-frames f fs r h.0) ∙ (ap rest_of (behind-frames f fs r) ∙ rest_of-frames fs r h.1)
