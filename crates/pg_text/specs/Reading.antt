-- Reading from left to right: what stands at the front of a text, a list of characters, and what follows it.
use Rattle.std.specs.Prelude.{ℕ, zero, suc, ◌+◌, ◌-◌, ◌*◌, ℤ, pos, negsuc, List, [], ◌∷◌}
use Rattle.std.specs.Prelude.{◌++◌, length, take, drop, Bool, true, false, not, ◌&&◌, ◌||◌}
use Rattle.std.specs.Prelude.{◌==◌, nat_lt, nat_le, Option, Some, None, if◌then◌else◌}
use Rattle.std.specs.Char.{digit_value, is_ascii_digit, is_ascii_control}
use Rattle.std.specs.List.{prefix_len}
use lib.Utf8.{scalar}
use Rattle.std.specs.Str.Parse.{digits_value}
use Rattle.pg_term.specs.declared.pid.Pid.{Pid}
use Rattle.pg_term.specs.declared.term.Term.{Term}
use Rattle.pg_term.specs.declared.term.Term as term
use Rattle.pg_term.specs.RefParts.{RefParts}
use Rattle.pg_text.specs.declared.reading.quoted.Place.{Place}
use Rattle.pg_text.specs.declared.reading.quoted.Place.TheVariants.{Plain, Escape, Opening, Digits}
use Rattle.pg_text.specs.declared.reading.quoted.Hex.{Hex}
use Rattle.pg_text.specs.declared.reading.quoted.Quoted.{Quoted}
use Rattle.pg_text.specs.declared.reading.quoted.Quoted.TheVariants.{Close, Character, Within, Bad}
use Rattle.pg_text.specs.Writing.{is_word_byte, needs_no_quotes, begins_lower}

-- what is read at the front, and what follows it; nothing where no such value stands there
abbrev pub Read : Type 0 → Type 0
Read A = Option (A × List ℕ)

-- what is read next
abbrev pub then_read : {A B : Type 0} → Read A → (A → List ℕ → Read B) → Read B
then_read None next = None
then_read (Some x) next = next x.0 x.1

-- these elements, and then those that are read next
abbrev pub with_front : {A : Type 0} → List A → Read (List A) → Read (List A)
with_front front read = then_read read (λ xs rest. Some (front ++ xs, rest))

-- the text begins with this character
abbrev pub begins : ℕ → List ℕ → Bool
begins c [] = false
begins c (first ∷ rest) = first == c

-- what follows this character, where the text begins with it
abbrev pub behind : {A : Type 0} → ℕ → List ℕ → (List ℕ → Read A) → Read A
behind c text next = if begins c text then next (drop 1 text) else None

-- ---- numbers

-- digits without a leading zero
abbrev pub is_plain_number : List ℕ → Bool
is_plain_number [] = false
is_plain_number (d ∷ ds) = not (d == 48) || (length ds == 0)

abbrev pub numeral_of : ℕ → List ℕ → List ℕ → Read ℕ
numeral_of most digits rest = if is_plain_number digits && nat_le (digits_value 10 digits) most then Some (digits_value 10 digits, rest) else None

-- a number of at most so much, in decimal
unfoldable pub numeral_at : ℕ → List ℕ → Read ℕ
numeral_at most text = numeral_of most (take (prefix_len is_ascii_digit text) text) (drop (prefix_len is_ascii_digit text) text)

-- a number of 32 bits
abbrev pub number_at : List ℕ → Read ℕ
number_at = numeral_at 4294967295

abbrev pub below_zero : ℕ → List ℕ → Read ℤ
below_zero n rest = if n == 0 then None else Some (negsuc (n - 1), rest)

-- an integer of 64 bits, with a minus where it is below 0
unfoldable pub integer_at : List ℕ → Read ℤ
integer_at text =
    if begins 45 text then then_read (numeral_at 9223372036854775808 (drop 1 text)) below_zero
    else then_read (numeral_at 9223372036854775807 text) (λ n rest. Some (pos n, rest))

-- ---- atoms

-- a character within quotes that stands for itself, or ends them, or begins an escape
abbrev pub plain_step : ℕ → Quoted
plain_step c = if c == 39 then Close else if c == 92 then Within Escape else if is_ascii_control c then Bad else Character c

-- behind a backslash: `\'`, `\\` or `\x`
abbrev pub escape_step : ℕ → Quoted
escape_step c = if (c == 39) || (c == 92) then Character c else if c == 120 then Within Opening else Bad

-- behind `\x`
abbrev pub opening_step : ℕ → Quoted
opening_step c = if c == 123 then Within (Digits (record { value = 0; begun = false })) else Bad

-- a digit from 0 to 9 or from a to f
abbrev pub is_hex : ℕ → Bool
is_hex c = is_ascii_digit c || (nat_le 97 c && nat_le c 102)

-- one digit more: none behind a leading zero, and the number is no larger than a character's
abbrev pub digit_step : Hex → ℕ → Quoted
digit_step hex c =
    if not (is_hex c) || (hex.begun && (hex.value == 0)) || nat_le 1114112 hex.value then Bad
    else Within (Digits (record { value = hex.value * 16 + digit_value c; begun = true }))

abbrev pub escaped_step : ℕ → Quoted
escaped_step code = if scalar code then Character code else Bad

-- the digits of an escape, and the end of it
abbrev pub digits_step : Hex → ℕ → Quoted
digits_step hex c = if (c == 125) && hex.begun then escaped_step hex.value else digit_step hex c

abbrev pub quoted_step : Place → ℕ → Quoted
quoted_step Plain c = plain_step c
quoted_step Escape c = escape_step c
quoted_step Opening c = opening_step c
quoted_step (Digits hex) c = digits_step hex c

-- this character, and then those that are read next
abbrev pub with_first : ℕ → Read (List ℕ) → Read (List ℕ)
with_first c read = with_front (c ∷ []) read

abbrev pub quoted_next : Quoted → List ℕ → (Place → Read (List ℕ)) → Read (List ℕ)
quoted_next Close rest more = Some ([], rest)
quoted_next (Character c) rest more = with_first c (more Plain)
quoted_next (Within place) rest more = more place
quoted_next Bad rest more = None

-- the characters up to the closing quote
abbrev pub quoted_at : List ℕ → Place → Read (List ℕ)
quoted_at [] place = None
quoted_at (c ∷ rest) place = quoted_next (quoted_step place c) rest (λ next. quoted_at rest next)

-- an atom has at most 255 characters
abbrev pub short : List ℕ → List ℕ → Read (List ℕ)
short cs rest = if nat_lt 255 (length cs) then None else Some (cs, rest)

-- and stands in quotes only where it cannot stand bare
abbrev pub unless_bare : List ℕ → List ℕ → Read (List ℕ)
unless_bare cs rest = if needs_no_quotes cs then None else short cs rest

abbrev pub bare_at : List ℕ → Read (List ℕ)
bare_at text = short (take (prefix_len is_word_byte text) text) (drop (prefix_len is_word_byte text) text)

unfoldable pub atom_at : List ℕ → Read (List ℕ)
atom_at text =
    if begins 39 text then then_read (quoted_at (drop 1 text) Plain) unless_bare
    else if begins_lower text then bare_at text
    else None

-- ---- pids and references

-- a number behind this character
abbrev pub part_at : ℕ → List ℕ → Read ℕ
part_at before text = behind before text number_at

abbrev pub told_creation : ℕ → List ℕ → Read ℕ
told_creation n rest = if n == 1 then None else Some (n, rest)

-- the creation of a pid is told only where it is not 1
unfoldable pub creation_at : List ℕ → Read ℕ
creation_at text = if begins 47 text then then_read (number_at (drop 1 text)) told_creation else Some (1, text)

-- what was read, where this character ends it
abbrev pub ended : {A : Type 0} → ℕ → A → List ℕ → Read A
ended last x text = behind last text (λ rest. Some (x, rest))

-- the numbers of a pid, behind its node: id, serial and creation, and its end
abbrev pub numbers_at : List ℕ → Read (ℕ × ℕ × ℕ)
numbers_at text = then_read (part_at 46 text) (λ id r1. then_read (part_at 46 r1) (λ serial r2. then_read (creation_at r2) (λ creation r3. ended 62 (id, serial, creation) r3)))

unfoldable pub pid_at : List ℕ → Read Pid
pid_at text =
    behind 60 text (λ r0. then_read (atom_at r0) (λ node r1. then_read (numbers_at r1)
    (λ n rest. Some (record { node = node; serial = n.1; id = n.0; creation = n.2 }, rest))))

-- some words, each behind a dot, up to the end; so many at most
unfoldable pub words_at : ℕ → List ℕ → Read (List ℕ)
words_at zero text = ended 62 [] text
words_at (suc n) text =
    if begins 46 text then then_read (number_at (drop 1 text)) (λ word rest. with_front (word ∷ []) (words_at n rest))
    else ended 62 [] text

-- at least one word
abbrev pub some_words : List ℕ → ℕ → List ℕ → List ℕ → Read RefParts
some_words node creation words rest = if length words == 0 then None else Some (record { node = node; creation = creation; words = words }, rest)

-- behind the `#`
unfoldable pub reference_at : List ℕ → Read RefParts
reference_at text =
    behind 60 text (λ r0. then_read (atom_at r0) (λ node r1. then_read (part_at 47 r1) (λ creation r2. then_read (words_at 3 r2) (λ words rest. some_words node creation words rest))))

-- ---- elements

-- what follows an element: a comma and more of them, or the end
abbrev pub next_element : {A : Type 0} → ℕ → A → List ℕ → (List ℕ → Read (List A)) → Read (List A)
next_element last x rest more = if begins 44 rest then with_front (x ∷ []) (more (drop 1 rest)) else ended last (x ∷ []) rest

-- elements with commas between them, up to the end; so many at most
abbrev pub elements_from : {A : Type 0} → (List ℕ → Read A) → ℕ → ℕ → List ℕ → Read (List A)
elements_from element last zero text = None
elements_from element last (suc n) text = then_read (element text) (λ x rest. next_element last x rest (elements_from element last n))

-- no element, or some: no more than there are characters
abbrev pub elements_at : {A : Type 0} → (List ℕ → Read A) → ℕ → List ℕ → Read (List A)
elements_at element last text = if begins last text then Some ([], drop 1 text) else elements_from element last (length text) text

-- the bytes of a binary, behind its `<<`, and the two characters that end it
unfoldable pub bytes_at : List ℕ → Read (List ℕ)
bytes_at text = then_read (elements_at (numeral_at 255) 62 text) (λ bytes rest. ended 62 bytes rest)

-- ---- terms

abbrev pub as_term : {A : Type 0} → (A → Term) → Read A → Read Term
as_term make read = then_read read (λ x rest. Some (make x, rest))

abbrev pub begins_number : List ℕ → Bool
begins_number [] = false
begins_number (c ∷ rest) = (c == 45) || is_ascii_digit c

-- a binary or a pid
abbrev pub angled_at : List ℕ → Read Term
angled_at text = if begins 60 (drop 1 text) then as_term term.TheVariants.Binary (bytes_at (drop 1 (drop 1 text))) else as_term term.TheVariants.Pid (pid_at text)

-- a term that holds no terms
unfoldable pub leaf_at : List ℕ → Read Term
leaf_at text =
    if begins 35 text then as_term term.TheVariants.Ref (reference_at (drop 1 text))
    else if begins 60 text then angled_at text
    else if begins_number text then as_term term.TheVariants.Int (integer_at text)
    else as_term term.TheVariants.Atom (atom_at text)

-- a term that nests at most so many levels deep
unfoldable pub term_at : ℕ → List ℕ → Read Term
term_at zero text = None
term_at (suc room) text =
    if begins 123 text then as_term term.Tuple (elements_at (term_at room) 125 (drop 1 text))
    else if begins 91 text then as_term term.List (elements_at (term_at room) 93 (drop 1 text))
    else leaf_at text

-- ---- whole texts

-- what was read, where nothing follows it
abbrev pub whole : {A : Type 0} → Read A → Option A
whole None = None
whole (Some x) = if length x.1 == 0 then Some x.0 else None

-- the term of a text, where it has one: it nests at most 64 levels deep
abbrev pub term_of : List ℕ → Option Term
term_of text = whole (term_at 64 text)

abbrev pub atom_from_text : List ℕ → Option (List ℕ)
atom_from_text text = whole (atom_at text)

abbrev pub pid_of : List ℕ → Option Pid
pid_of text = whole (pid_at text)

abbrev pub number_of : List ℕ → Option ℕ
number_of text = whole (number_at text)
