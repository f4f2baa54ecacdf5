-- A list from some place in it on: so many elements that stand there as items, and then its tail, with the further ones.
use Rattle.std.specs.Prelude.{◌≡◌, ℕ, zero, suc, ◌≤◌, ◌<◌, List, [], ◌∷◌, ◌++◌, length}
use Rattle.std.specs.Prelude.{map, Option, Some, None, Ok, Err, ◌==◌, if◌then◌else◌}
use Rattle.std.specs.Int.{w16, w32}
use Rattle.pg_term.specs.declared.term.Term.{Term}
use Rattle.pg_term_io.specs.declared.element.NextElement.{NextElement}
use Rattle.pg_term_io.specs.declared.element.NextElement.TheVariants.{End, Item, NoItem}
use Rattle.pg_term_io.specs.Numbers.{int_of}
use Rattle.pg_term_io.specs.declared.tag.ListTag.{ListTag}
use Rattle.pg_term_io.specs.declared.tag.ListTag.TheVariants.{Nil, String, List as Cons}
use Rattle.pg_term_io.specs.Reading.{Read, ◌>>=◌, number_at, items_at, item_at, tail_at}
use Rattle.pg_term_io.specs.Tags.{tag_of, list_tag}

-- the elements from there on, where room more levels may nest
unfoldable pub list_from : ℕ → ℕ → List ℕ → Read (List Term)
list_from room count bytes = do
  items ← items_at (item_at room) count bytes
  tail ← tail_at room items.1
  Ok (items.0 ++ tail.0, tail.1)

-- the first of these elements stands at the front of the bytes, and the others after it
pub record ListGoesOn (room count : ℕ) (bytes : List ℕ) (elements : List Term) (rest : List ℕ) : Type 0 where
  pub first : Term
  pub others : List Term
  pub behind : List ℕ
  pub are : elements ≡ first ∷ others
  pub here : item_at room bytes ≡ Ok (first, behind)
  pub after : list_from room count behind ≡ Ok (others, rest)

-- they are bytes of a STRING_EXT, at least one
pub record IsText (elements : List Term) : Type 0 where
  pub first : ℕ
  pub others : List ℕ
  pub are : elements ≡ map int_of (first ∷ others)

-- the list is over, and these bytes stand after it
pub record IsOver (behind : List ℕ) (elements : List Term) (rest : List ℕ) : Type 0 where
  pub none : elements ≡ []
  pub after : rest ≡ behind

-- how a list with these elements goes on
abbrev pub Continues : NextElement → List Term → List ℕ → Type 0
Continues (End behind) elements rest = IsOver behind.now elements rest
Continues (Item room count bytes) elements rest = ListGoesOn room count bytes.now elements rest
Continues NoItem elements rest = IsText elements

-- an element that stands there may nest no more levels, and stands in the same bytes; fewer follow the list
abbrev pub IsInList : ℕ → List ℕ → NextElement → Type 0
IsInList room bytes (End behind) = length behind.now < length bytes
IsInList room bytes (Item below count behind) = (below ≤ room) × (length behind.now ≤ length bytes)
IsInList room bytes NoItem = Unit {0}

-- what comes next in a list: its end, with the bytes behind it, or an element, with how many levels it may nest, how many
-- elements stand behind it, and the bytes from it on
pub data Next : Type 0 where
  over : List ℕ → Next
  element : ℕ → ℕ → List ℕ → Next
  nowhere : Next

-- behind the length of a text, which has elements but no items
abbrev pub text_next : Read ℕ → Next
text_next (Ok n) = if n.0 == 0 then over n.1 else nowhere
text_next (Err f) = nowhere

-- behind the number of elements
abbrev pub items_next : (ℕ → List ℕ → Next) → Read ℕ → Next
items_next from (Ok n) = from n.0 n.1
items_next from (Err f) = nowhere

-- behind the tag of a tail; `from` tells what comes next inside of it
abbrev pub tail_next : (ℕ → List ℕ → Next) → Option ListTag → List ℕ → Next
tail_next from (Some Nil) bytes = over bytes
tail_next from (Some String) bytes = text_next (number_at w16 bytes)
tail_next from (Some Cons) bytes = items_next from (number_at w32 bytes)
tail_next from None bytes = nowhere

-- from some place on, where so many elements stand before the tail
unfoldable pub next_from : ℕ → ℕ → List ℕ → Next
next_from room (suc count) bytes = element room count bytes
next_from room zero [] = nowhere
next_from zero zero (tag ∷ bytes) = tail_next (λ count rest. nowhere) (list_tag (tag_of tag)) bytes
next_from (suc room) zero (tag ∷ bytes) = tail_next (next_from room) (list_tag (tag_of tag)) bytes

-- a call answers just this
abbrev pub ShowsNext : NextElement → Next → Type 0
ShowsNext (End behind) next = next ≡ over behind.now
ShowsNext (Item room count bytes) next = next ≡ element room count bytes.now
ShowsNext NoItem next = next ≡ nowhere
