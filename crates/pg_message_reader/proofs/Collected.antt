-- Terms that are taken from the end of a reversed list, one after the other.
use Rattle.std.proofs.Common.{◌≡◌, List, [], ◌∷◌, ◌++◌, reverse, Option, Some, None, refl, sym, ap, ◌∙◌, append_assoc}
use Rattle.std.specs.Option.{option_map, option_and_then}
use Rattle.std.proofs.lemmas.List.{reverse-append, reverse-reverse, append-nil}
use Rattle.pg_term.specs.declared.term.Term.{Term}
use Rattle.pg_message_types.specs.Reading.{read_each}

-- those that were found, and those to come
abbrev pub following : {A : Type 0} → List A → Option (List A) → Option (List A)
following front later = option_map (λ xs. front ++ xs) later

module _ {A : Type 0} (read : Term → Option A) where
  following_none : (found : Option (List A)) → following [] found ≡ found
  following_none None = refl
  following_none (Some xs) = refl

  pub started : (ts rest : List Term) → rest ≡ reverse ts → following [] (read_each read (reverse rest)) ≡ read_each read ts
  started ts rest e = following_none (read_each read (reverse rest)) ∙ ap (λ (us : List Term). read_each read (reverse us)) e ∙ ap (read_each read) (reverse-reverse ts)

  turned : (rest left : List Term) (t : Term) → rest ≡ left ++ t ∷ [] → reverse rest ≡ t ∷ reverse left
  turned rest left t e = ap reverse e ∙ reverse-append left (t ∷ [])

  one_more : (front : List A) (x : A) (later : Option (List A)) → following front (option_map (λ xs. x ∷ xs) later) ≡ following (front ++ x ∷ []) later
  one_more front x None = refl
  one_more front x (Some xs) = ap Some (sym (append_assoc front (x ∷ []) xs))

  module _ (rest left : List Term) (t : Term) (e : rest ≡ left ++ t ∷ []) (front : List A) where
    pub took : (x : A) → read t ≡ Some x → following front (read_each read (reverse rest)) ≡ following (front ++ x ∷ []) (read_each read (reverse left))
    took x h =
        ap (λ (us : List Term). following front (read_each read us)) (turned rest left t e)
        ∙ ap (λ (o : Option A). following front (option_and_then (λ y. option_map (λ ys. y ∷ ys) (read_each read (reverse left))) o)) h
        ∙ one_more front x (read_each read (reverse left))

    pub stopped : read t ≡ None → following front (read_each read (reverse rest)) ≡ None
    stopped h =
        ap (λ (us : List Term). following front (read_each read us)) (turned rest left t e)
        ∙ ap (λ (o : Option A). following front (option_and_then (λ y. option_map (λ ys. y ∷ ys) (read_each read (reverse left))) o)) h

  pub finished : (rest : List Term) (front : List A) → rest ≡ [] → following front (read_each read (reverse rest)) ≡ Some front
  finished rest front e = ap (λ (us : List Term). following front (read_each read (reverse us))) e ∙ ap Some (append-nil front)
