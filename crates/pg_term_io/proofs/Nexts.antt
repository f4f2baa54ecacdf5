-- What comes next in a list, by what stands there.
use Rattle.std.proofs.Common.{◌≡◌, ℕ, zero, suc, ◌-◌, ◌<◌, List, [], ◌∷◌, length}
use Rattle.std.proofs.Common.{Option, Some, Ok, Err, refl, ap, ◌∙◌, arith}
use Rattle.std.specs.Int.{w32}
use Rattle.pg_term.specs.declared.fault.TermFault.{TermFault}
use Rattle.pg_term_io.specs.declared.tag.ListTag.{ListTag}
use Rattle.pg_term_io.specs.declared.tag.ListTag.TheVariants.{List as Cons}
use Rattle.pg_term_io.specs.Lists.{Next, items_next, tail_next, next_from}
use Rattle.pg_term_io.specs.Reading.{Read, number_at}
use Rattle.pg_term_io.specs.Tags.{tag_of, list_tag}

pub next_more : (room count : ℕ) (bytes : List ℕ) → 0 < count → next_from room count bytes ≡ Next.element room (count - 1) bytes
unfolding next_from
next_more room zero bytes some = absurd (omega (arith, some))
next_more room (suc count) bytes some = let same : count ≡ suc count - 1 = omega arith in ap (λ (k : ℕ). Next.element room k bytes) same

pub next_nothing : (room count : ℕ) (bytes : List ℕ) → count ≡ 0 → length bytes ≡ 0 → next_from room count bytes ≡ Next.nowhere
unfolding next_from
next_nothing room zero [] none empty = refl
next_nothing room (suc count) bytes none empty = absurd (omega (arith, none))
next_nothing room zero (tag ∷ bytes) none empty = absurd (omega (arith, empty))

-- what comes next inside of a list whose tail may nest so many levels
abbrev pub inside : ℕ → ℕ → List ℕ → Next
inside zero = λ count rest. Next.nowhere
inside (suc room) = next_from room

at_tail : (room tag : ℕ) (bytes : List ℕ) → next_from room 0 (tag ∷ bytes) ≡ tail_next (inside room) (list_tag (tag_of tag)) bytes
unfolding next_from
at_tail zero tag bytes = refl
at_tail (suc room) tag bytes = refl

module _ (room count : ℕ) (bytes : List ℕ) (tag : ℕ) (behind : List ℕ) (none : count ≡ 0) (is : bytes ≡ tag ∷ behind) where
  pub next_tail : (found : Option ListTag) → list_tag (tag_of tag) ≡ found → next_from room count bytes ≡ tail_next (inside room) found behind
  next_tail found here =
      ap (λ (k : ℕ). next_from room k bytes) none ∙ ap (next_from room 0) is ∙ at_tail room tag behind ∙ ap (λ (found : Option ListTag). tail_next (inside room) found behind) here

  pub next_too_deep : list_tag (tag_of tag) ≡ Some Cons → room ≡ 0 → next_from room count bytes ≡ Next.nowhere
  next_too_deep here flat =
      next_tail (Some Cons) here ∙ ap (λ (r : ℕ). items_next (inside r) (number_at w32 behind)) flat ∙ none_inside (number_at w32 behind)
    where
      none_inside : (read : Read ℕ) → items_next (inside 0) read ≡ Next.nowhere
      none_inside (Ok x) = refl
      none_inside (Err e) = refl

  pub next_inside : (k : ℕ) (rest : List ℕ) → list_tag (tag_of tag) ≡ Some Cons → (room ≡ 0 → ⊥) → number_at w32 behind ≡ Ok (k, rest) → next_from room count bytes ≡ next_from (room - 1) k rest
  next_inside k rest here deep read =
      next_tail (Some Cons) here ∙ ap (items_next (inside room)) read ∙ one_less room deep
    where
      one_less : (room : ℕ) → (room ≡ 0 → ⊥) → inside room k rest ≡ next_from (room - 1) k rest
      one_less zero deep = absurd (deep refl)
      one_less (suc room) deep = let same : room ≡ suc room - 1 = omega arith in ap (λ (r : ℕ). next_from r k rest) same

  pub next_uncounted : (e : TermFault) → list_tag (tag_of tag) ≡ Some Cons → number_at w32 behind ≡ Err e → next_from room count bytes ≡ Next.nowhere
  next_uncounted e here read = next_tail (Some Cons) here ∙ ap (items_next (inside room)) read
