-- Lists of numbers that are at most those of another.
use Rattle.std.proofs.Common.{◌≡◌, ◌⊎◌, ◌↔◌, ◌<◌, ◌≤◌, ℕ, zero, suc, ◌+◌, List, [], ◌∷◌, ◌++◌, length, map}
use Rattle.std.proofs.Common.{take, get_or, refl, sym, ap, ◌∙◌, inl, inr, subst, arith, length-append}
use Rattle.std.proofs.lemmas.List.{length-map, length-take-le, get_or_append_left, get_or_at}
use Rattle.std.proofs.lemmas.List.{get_or-take, take_more, take_all, nil_from_length, length_push}
use Rattle.std.proofs.lemmas.List.Elements.{Contains-append_left, Contains-append_right}
use Rattle.std.proofs.lemmas.List.Elements.{Contains-push, Contains-push_cases, Contains-append_cases}
use Rattle.std.specs.List.{Contains}
use Rattle.pg_world_packets.specs.PgStep.Machines.Clocked.{Stamped}
use Rattle.pg_world_packets.specs.PgMessageTypes.declared.message.Message.{Message}
use Rattle.pg_world_packets.specs.Views.{CanStay}
use Rattle.pg_explore.specs.Keeping.{AddsLonger, AreLonger, AreUpTo, IsLonger, IsOneLonger, IsUpTo}

none_in : {A : Type 0} (x : A) → Contains [] x → ⊥
none_in x h = omega (arith, h.1)

-- ---- one list longer

-- with a number behind it that is below this one
pub record IsLongerBelow (count : ℕ) (keep more : List ℕ) : Type 0 where
  pub number : ℕ
  pub below : number < count
  pub is : more ≡ keep ++ number ∷ []

abbrev pub AddsBelow : ℕ → List ℕ → List (List ℕ) → List (List ℕ) → Type 0
AddsBelow count keep old new = (more : List ℕ) → Contains new more ↔ (Contains old more ⊎ IsLongerBelow count keep more)

pub adds_nothing : (keep : List ℕ) (old : List (List ℕ)) → AddsBelow 0 keep old old
adds_nothing keep old = λ more. (λ h. inl h, λ h. go more h)
  where
    go : (more : List ℕ) → Contains old more ⊎ IsLongerBelow 0 keep more → Contains old more
    go more (inl h) = h
    go more (inr h) = let l = h.below in absurd (omega (arith, l))

pub adds_next : (count : ℕ) (keep : List ℕ) (old new all : List (List ℕ)) → AddsBelow count keep old new → all ≡ new ++ (keep ++ count ∷ []) ∷ [] → AddsBelow (count + 1) keep old all
adds_next count keep old new all h e = λ more. (λ c. to more (Contains-push_cases new (keep ++ count ∷ []) more (subst (λ xs. Contains xs more) e c)), λ c. subst (λ xs. Contains xs more) (sym e) (from more c))
  where
    on : (more : List ℕ) → IsLongerBelow count keep more → IsLongerBelow (count + 1) keep more
    on more b = let l = b.below in record { number = b.number; below = omega (arith, l); is = b.is }

    first : (more : List ℕ) → Contains old more ⊎ IsLongerBelow count keep more → Contains old more ⊎ IsLongerBelow (count + 1) keep more
    first more (inl c) = inl c
    first more (inr b) = inr (on more b)

    to : (more : List ℕ) → Contains new more ⊎ (keep ++ count ∷ [] ≡ more) → Contains old more ⊎ IsLongerBelow (count + 1) keep more
    to more (inl c) = first more ((h more).0 c)
    to more (inr same) = inr (record { number = count; below = omega arith; is = sym same })

    low_or_same : (n : ℕ) → n < count + 1 → (n < count) ⊎ (n ≡ count)
    low_or_same n l = search arith

    pick : (more : List ℕ) (b : IsLongerBelow (count + 1) keep more) → (b.number < count) ⊎ (b.number ≡ count) → Contains (new ++ (keep ++ count ∷ []) ∷ []) more
    pick more b (inl l) = Contains-append_left new _ more ((h more).1 (inr (record { number = b.number; below = l; is = b.is })))
    pick more b (inr s) = subst (λ xs. Contains (new ++ (keep ++ count ∷ []) ∷ []) xs) (ap (λ n. keep ++ n ∷ []) (sym s) ∙ sym b.is) (Contains-push new (keep ++ count ∷ []))

    from : (more : List ℕ) → Contains old more ⊎ IsLongerBelow (count + 1) keep more → Contains (new ++ (keep ++ count ∷ []) ∷ []) more
    from more (inl c) = Contains-append_left new _ more ((h more).1 (inl c))
    from more (inr b) = pick more b (low_or_same b.number b.below)

-- the last is the greatest
pub adds_all : (most : ℕ) (keep : List ℕ) (old new : List (List ℕ)) → AddsBelow (most + 1) keep old new → AddsLonger most keep old new
adds_all most keep old new h = λ more. (λ c. to more ((h more).0 c), λ c. (h more).1 (from more c))
  where
    to : (more : List ℕ) → Contains old more ⊎ IsLongerBelow (most + 1) keep more → Contains old more ⊎ IsLonger most keep more
    to more (inl c) = inl c
    to more (inr b) = let l = b.below in inr (record { count = b.number; fits = omega (arith, l); is = b.is })

    from : (more : List ℕ) → Contains old more ⊎ IsLonger most keep more → Contains old more ⊎ IsLongerBelow (most + 1) keep more
    from more (inl c) = inl c
    from more (inr b) = let l = b.fits in inr (record { number = b.count; below = omega (arith, l); is = b.is })

-- ---- each of some lists

pub no_longer : (most : ℕ) → AreLonger most [] []
no_longer most = λ more. (λ c. absurd (none_in more c), λ o. absurd (none_in o.keep o.among))

pub longer_push : (most : ℕ) (keeps : List (List ℕ)) (keep : List ℕ) (old new : List (List ℕ)) → AreLonger most keeps old → AddsLonger most keep old new → AreLonger most (keeps ++ keep ∷ []) new
longer_push most keeps keep old new h k = λ more. (λ c. to more ((k more).0 c), λ o. (k more).1 (from more o (Contains-push_cases keeps keep o.keep o.among)))
  where
    to : (more : List ℕ) → Contains old more ⊎ IsLonger most keep more → IsOneLonger most (keeps ++ keep ∷ []) more
    to more (inl c) = let o = (h more).0 c in record { keep = o.keep; among = Contains-append_left keeps (keep ∷ []) o.keep o.among; longer = o.longer }
    to more (inr l) = record { keep = keep; among = Contains-push keeps keep; longer = l }

    from : (more : List ℕ) (o : IsOneLonger most (keeps ++ keep ∷ []) more) → Contains keeps o.keep ⊎ (keep ≡ o.keep) → Contains old more ⊎ IsLonger most keep more
    from more o (inl c) = inl ((h more).1 (record { keep = o.keep; among = c; longer = o.longer }))
    from more o (inr e) = inr (subst (λ xs. IsLonger most xs more) (sym e) o.longer)

-- ---- up to a list

pub up_to_nothing : AreUpTo [] ([] ∷ [])
up_to_nothing = λ keep. (λ c. to keep (Contains-push_cases [] [] keep c), λ u. subst (λ xs. Contains ([] ∷ []) xs) (sym (nil_from_length keep u.len)) (Contains-push [] []))
  where
    to : (keep : List ℕ) → Contains [] keep ⊎ ([] ≡ keep) → IsUpTo [] keep
    to keep (inl c) = absurd (none_in keep c)
    to keep (inr e) = subst (IsUpTo []) e (record { len = refl; fits = λ place l. absurd (omega (arith, l)) })

low_or_last : (place n : ℕ) → place < n + 1 → (place < n) ⊎ (place ≡ n)
low_or_last place n l = search arith

longer_up_to : (lens : List ℕ) (most : ℕ) (keep : List ℕ) (count : ℕ) → IsUpTo lens keep → count ≤ most → IsUpTo (lens ++ most ∷ []) (keep ++ count ∷ [])
longer_up_to lens most keep count u l = record {
  len = length_push keep count ∙ ap (λ n. n + 1) u.len ∙ sym (length_push lens most);
  fits = λ place inside. go place (low_or_last place (length lens) (omega (arith, inside, length_push lens most)));
}
  where
    go : (place : ℕ) → (place < length lens) ⊎ (place ≡ length lens) → get_or (keep ++ count ∷ []) place 0 ≤ get_or (lens ++ most ∷ []) place 0
    go place (inl b) =
        let inside : place < length keep = omega (arith, b, u.len) in
        omega (arith, u.fits place b, get_or_append_left keep (count ∷ []) 0 place inside, get_or_append_left lens (most ∷ []) 0 place b)
    go place (inr e) = omega (arith, l, get_or_at keep count [] 0 place (u.len ∙ sym e), get_or_at lens most [] 0 place (sym e))

shorter_up_to : (lens : List ℕ) (most : ℕ) (more : List ℕ) → IsUpTo (lens ++ most ∷ []) more → IsUpTo lens (take (length lens) more)
shorter_up_to lens most more u =
    let many : length more ≡ length lens + 1 = u.len ∙ length_push lens most in
    record {
      len = length-take-le (length lens) more (omega (arith, many));
      fits = λ place inside. omega (arith, u.fits place (omega (arith, inside, length_push lens most)), get_or-take (length lens) more place 0 inside, get_or_append_left lens (most ∷ []) 0 place inside);
    }

pub up_to_push : (lens : List ℕ) (most : ℕ) (keeps all : List (List ℕ)) → AreUpTo lens keeps → AreLonger most keeps all → AreUpTo (lens ++ most ∷ []) all
up_to_push lens most keeps all h k = λ more. (λ c. to more ((k more).0 c), λ u. (k more).1 (from more u))
  where
    to : (more : List ℕ) → IsOneLonger most keeps more → IsUpTo (lens ++ most ∷ []) more
    to more o = subst (IsUpTo (lens ++ most ∷ [])) (sym o.longer.is) (longer_up_to lens most o.keep o.longer.count ((h o.keep).0 o.among) o.longer.fits)

    from : (more : List ℕ) → IsUpTo (lens ++ most ∷ []) more → IsOneLonger most keeps more
    from more u =
        let many : length more ≡ length lens + 1 = u.len ∙ length_push lens most in
        let n = length lens in
        record {
          keep = take n more;
          among = (h (take n more)).1 (shorter_up_to lens most more u);
          longer = record {
            count = get_or more n 0;
            fits = omega (arith, u.fits n (omega (arith, length_push lens most)), get_or_at lens most [] 0 n refl);
            is = sym (take_all (n + 1) more (omega (arith, many))) ∙ take_more more n 0 (omega (arith, many));
          };
        }

-- ---- packets that stay

pub length_at : (ways : List (List (Stamped Message))) (place : ℕ) → get_or (map length ways) place 0 ≡ length (get_or ways place [])
length_at [] place = refl
length_at (way ∷ ways) zero = refl
length_at (way ∷ ways) (suc place) = length_at ways place

pub can_stay : (ways : List (List (Stamped Message))) (keep : List ℕ) → IsUpTo (map length ways) keep → CanStay keep ways
can_stay ways keep u = record {
  len = u.len ∙ length-map ways length;
  fits = λ place inside. omega (arith, u.fits place (omega (arith, inside, length-map ways length)), length_at ways place);
}

pub stays_up_to : (ways : List (List (Stamped Message))) (keep : List ℕ) → CanStay keep ways → IsUpTo (map length ways) keep
stays_up_to ways keep u = record {
  len = u.len ∙ sym (length-map ways length);
  fits = λ place inside. omega (arith, u.fits place (omega (arith, inside, length-map ways length)), length_at ways place);
}
