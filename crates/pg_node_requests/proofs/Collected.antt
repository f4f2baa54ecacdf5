-- Terms that are taken from the end of a reversed list, one after the other.
use Rattle.std.proofs.Common.{◌≡◌, ℕ, List, [], ◌∷◌, ◌++◌, reverse, Option}
use Rattle.std.proofs.Common.{Some, None, refl, sym, ap, ◌∙◌, append_assoc}
use Rattle.std.specs.Option.{option_map, option_and_then}
use Rattle.std.proofs.lemmas.List.{reverse-append, reverse-reverse, append-nil}
use Rattle.pg_term.specs.declared.term.Term.{Term}
use Rattle.pg_step.specs.PgMessageTypes.Reading.{read_each}
use Rattle.pg_step.specs.declared.start.Start.{Start}
use Rattle.pg_node_requests.specs.Members.{node_of, put_told, told_all}

-- those that were found, and those to come
abbrev pub following : {A : Type 0} → List A → Option (List A) → Option (List A)
following front later = option_map (λ xs. front ++ xs) later

turned : (rest left : List Term) (t : Term) → rest ≡ left ++ t ∷ [] → reverse rest ≡ t ∷ reverse left
turned rest left t e = ap reverse e ∙ reverse-append left (t ∷ [])

module _ {A : Type 0} (read : Term → Option A) where
  following_none : (found : Option (List A)) → following [] found ≡ found
  following_none None = refl
  following_none (Some xs) = refl

  pub started : (ts rest : List Term) → rest ≡ reverse ts → following [] (read_each read (reverse rest)) ≡ read_each read ts
  started ts rest e = following_none (read_each read (reverse rest)) ∙ ap (λ (us : List Term). read_each read (reverse us)) e ∙ ap (read_each read) (reverse-reverse ts)

  one_more : (front : List A) (x : A) (later : Option (List A)) → following front (option_map (λ xs. x ∷ xs) later) ≡ following (front ++ x ∷ []) later
  one_more front x None = refl
  one_more front x (Some xs) = ap Some (sym (append_assoc front (x ∷ []) xs))

  module _ (rest left : List Term) (t : Term) (e : rest ≡ left ++ t ∷ []) (front : List A) where
    pub took : (x : A) → read t ≡ Some x → following front (read_each read (reverse rest)) ≡ following (front ++ x ∷ []) (read_each read (reverse left))
    took x h =
        ap (λ (us : List Term). following front (read_each read us)) (turned rest left t e)
        ∙ ap (λ (o : Option A). following front (option_and_then (λ y. option_map (λ ys. y ∷ ys) (read_each read (reverse left))) o)) h
        ∙ one_more front x (read_each read (reverse left))

    pub stopped : read t ≡ None → following front (read_each read (reverse rest)) ≡ None
    stopped h =
        ap (λ (us : List Term). following front (read_each read us)) (turned rest left t e)
        ∙ ap (λ (o : Option A). following front (option_and_then (λ y. option_map (λ ys. y ∷ ys) (read_each read (reverse left))) o)) h

  pub finished : (rest : List Term) (front : List A) → rest ≡ [] → following front (read_each read (reverse rest)) ≡ Some front
  finished rest front e = ap (λ (us : List Term). following front (read_each read (reverse us))) e ∙ ap Some (append-nil front)

-- ---- what is told of nodes, one term after another

pub told_took : (ports : ℕ) (starts starts2 : List Start) (told : Start) (rest left : List Term) (t : Term) → rest ≡ left ++ t ∷ [] → node_of ports t ≡ Some told
    → put_told starts told ≡ Some starts2 → told_all ports starts (reverse rest) ≡ told_all ports starts2 (reverse left)
told_took ports starts starts2 told rest left t e is put =
    ap (told_all ports starts) (turned rest left t e)
    ∙ ap (λ (o : Option Start). option_and_then (λ told. option_and_then (λ starts. told_all ports starts (reverse left)) (put_told starts told)) o) is
    ∙ ap (λ (o : Option (List Start)). option_and_then (λ starts. told_all ports starts (reverse left)) o) put

pub told_none : (ports : ℕ) (starts : List Start) (rest left : List Term) (t : Term) → rest ≡ left ++ t ∷ [] → node_of ports t ≡ None
    → told_all ports starts (reverse rest) ≡ None
told_none ports starts rest left t e is =
    ap (told_all ports starts) (turned rest left t e)
    ∙ ap (λ (o : Option Start). option_and_then (λ told. option_and_then (λ starts. told_all ports starts (reverse left)) (put_told starts told)) o) is

pub told_twice : (ports : ℕ) (starts : List Start) (told : Start) (rest left : List Term) (t : Term) → rest ≡ left ++ t ∷ [] → node_of ports t ≡ Some told
    → put_told starts told ≡ None → told_all ports starts (reverse rest) ≡ None
told_twice ports starts told rest left t e is put =
    ap (told_all ports starts) (turned rest left t e)
    ∙ ap (λ (o : Option Start). option_and_then (λ told. option_and_then (λ starts. told_all ports starts (reverse left)) (put_told starts told)) o) is
    ∙ ap (λ (o : Option (List Start)). option_and_then (λ starts. told_all ports starts (reverse left)) o) put

pub told_begun : (ports : ℕ) (starts : List Start) (ts rest : List Term) → rest ≡ reverse ts → told_all ports starts (reverse rest) ≡ told_all ports starts ts
told_begun ports starts ts rest e = ap (λ (us : List Term). told_all ports starts (reverse us)) e ∙ ap (told_all ports starts) (reverse-reverse ts)

pub told_done : (ports : ℕ) (starts : List Start) (rest : List Term) → rest ≡ [] → told_all ports starts (reverse rest) ≡ Some starts
told_done ports starts rest e = ap (λ (us : List Term). told_all ports starts (reverse us)) e
